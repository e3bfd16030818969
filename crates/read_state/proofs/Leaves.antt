-- One law for each way through the leaves. Assumes nothing.
use Prim.Native.Nat.{ℕ, ◌+◌, ◌-◌, ◌*◌, ◌≤◌, ◌<◌}
use native.Mathlib.Omega.{arith}
use mathlib.Core.Path.{◌≡◌, refl, sym, ap, ◌∙◌}
use mathlib.Core.List.{List}
use mathlib.Core.Bool.{Bool, true, false}
use lib.Dec.{eqb}
use borrow.Author.Tests.{eqb-true, eq-eqb, ne_eqb, lt-ltb, le-ltb, le-leb, lt-leb}
use Rattle.token.specs.declared.Scan.{Scan}
use Rattle.token.specs.declared.Token.{Token}
use Rattle.program.specs.Promises.Standing.{Stands}
use Rattle.program.specs.Reason.{reason_number}
use Rattle.program.specs.Refusal.{Refusal, refusal}
use Rattle.program.specs.declared.reply.Reason.{Reason}
use Rattle.read_state.specs.declared.Note.{Note}
use Rattle.grammar.specs.Ranking.{before, first_of}
use Rattle.grammar.specs.Reader.{expect_or, forbid, opening}
use Rattle.read_state.specs.Promises.Reading.{anything, note_refusal, refusal_noted, noted_in, Passes, refusing, Moved, note_of, noted_of, Noted}
use Rattle.read_state.specs.declared.Reading.{Reading}
use Rattle.read_state.specs.Promises.Reading.{Read}
use Rattle.std.specs.Prelude.{Option, Some, None, Ok, Err}
use Rattle.read_state.proofs.Reasons.{never_none}
use Rattle.read_state.proofs.Steps.{token, so, other, refused, returned, advanced}
use Rattle.read_state.proofs.Going.{nowhere, goes_on}

-- ---- refusals

module _ (note : Note) (new : Refusal) {a : Refusal} (e : a ≡ note_refusal note) where
  pub first_noted : before a new ≡ true → first_of (note_refusal note) new ≡ note_refusal note
  unfolding first_of
  first_noted h = simp (never_none note.reason, ← e, h)

  pub first_new : before a new ≡ false → first_of (note_refusal note) new ≡ new
  unfolding first_of
  first_new h = simp (never_none note.reason, ← e, h)

-- what is noted for a reason at a token
abbrev pub note_at : Reason → Token → Note
note_at reason t = record { reason = reason; place = t.start }

module _ {ws : List ℕ} {sc : Scan} {s : Reading} {t : Token} (reason : Reason) (e : Stands ws sc s.at t) where
  noting : (n : Option Note) → s.noted ≡ n → (m : Option Note) → refusal_noted m ≡ first_of (refusal_noted n) (note_refusal (note_at reason t)) → Noted ws sc s (reason_number reason) (noted_of s m)
  noting n q m h = record { is = refl; noted = h ∙ rw (q, e.is) refl; at = refl; count = refl }

  -- something was noted before: it goes first, or it does not
  module _ {note : Note} (q : s.noted ≡ Some note) {a b : Refusal} (x : a ≡ note_refusal note) (y : b ≡ note_refusal (note_at reason t)) where
    pub noted_before : before a b ≡ true → Noted ws sc s (reason_number reason) s
    noted_before h = noting (Some note) q s.noted (rw q (sym (first_noted note _ x (rw (← y) h))))

    pub noted_new : before a b ≡ false → Noted ws sc s (reason_number reason) (noted_of s (Some (note_at reason t)))
    noted_new h = noting (Some note) q _ (sym (first_new note _ x (rw (← y) h)))

  pub noted_first : s.noted ≡ None → Noted ws sc s (reason_number reason) (noted_of s (Some (note_at reason t)))
  unfolding first_of
  noted_first q = noting None q _ refl

-- ---- tokens

module _ {sc : Scan} {s : Reading} {ws : List ℕ} (kind n : ℕ) {t : Token} (e : Stands ws sc s.at t) where
  pub expected : t.kind ≡ kind → 1 ≤ kind → {r : Reading} → Moved s r → Passes anything (expect_or kind n) sc 1 s ws (Ok r)
  unfolding expect_or
  expected k l m =
      record {
        gives = λ source ns. token _ e (so _ _ (eq-eqb _ _ k) (advanced m));
        onward = goes_on (omega arith) (omega arith) (omega arith);
      }

  pub unexpected : (t.kind ≡ kind → ⊥) → {r : Read} → r ≡ refusing ws sc s s.at n → Passes anything (expect_or kind n) sc 1 s ws r
  unfolding expect_or
  unexpected k x = record { gives = λ source ns. token _ e (other _ _ (ne_eqb _ _ k) (refused _ x)); onward = nowhere x }

  pub forbidden : t.kind ≡ kind → {r : Read} → r ≡ refusing ws sc s s.at n → Passes anything (forbid kind n) sc 0 s ws r
  unfolding forbid
  forbidden k x = record { gives = λ source ns. token _ e (so _ _ (eq-eqb _ _ k) (refused _ x)); onward = nowhere x }

  pub allowed : (t.kind ≡ kind → ⊥) → s.at ≤ sc.count → Passes anything (forbid kind n) sc 0 s ws (Ok s)
  unfolding forbid
  allowed k h = record { gives = λ source ns. token _ e (other _ _ (ne_eqb _ _ k) (returned _ tt)); onward = goes_on (omega arith) h (omega arith) }

module _ {sc : Scan} {s : Reading} {ws : List ℕ} {free : Bool} where
  pub opened : free ≡ true → s.at < sc.count → {r : Reading} → Moved s r → Passes anything (opening free) sc 1 s ws (Ok r)
  unfolding opening
  opened e h m = record { gives = λ source ns. so _ _ e (advanced m); onward = goes_on (omega arith) (omega arith) (omega arith) }

  pub unopened : free ≡ false → {r : Read} → r ≡ refusing ws sc s s.at 14 → Passes anything (opening free) sc 1 s ws r
  unfolding opening
  unopened e x = record { gives = λ source ns. other _ _ e (refused _ x); onward = nowhere x }

pub ruleset Leaves = (first_noted, first_new, expected, unexpected, forbidden, allowed, opened, unopened)
