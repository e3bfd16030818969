-- The laws of the end of a source.
use Prim.Native.Nat.{ℕ, ◌≤◌}
use native.Mathlib.Omega.{arith}
use mathlib.Core.Path.{◌≡◌, refl, sym, ap, ap₂, subst, ◌∙◌}
use mathlib.Core.List.{List}
use mathlib.Core.Bool.{Bool}
use borrow.Author.Tests.{eq-eqb, ne_eqb}
use Rattle.value.specs.Limits.{most_names, most_open}
use Rattle.token.specs.declared.Scan.{Scan}
use Rattle.token.specs.declared.Token.{Token}
use Rattle.token.specs.Scanning.{token_in}
use Rattle.program.specs.Promises.Standing.{Stands}
use Rattle.grammar.specs.Expressions.{Cell}
use Rattle.grammar.specs.Statements.{read_block}
use Rattle.grammar.specs.Source.{Declared, finish, accepted_as}
use Rattle.grammar.proofs.Theorems.Traces.{finish_ok}
use Rattle.read_state.specs.Promises.Reading.{input, state, anything, Gives, refusing, note_refusal}
use Rattle.read_state.specs.declared.Reading.{Reading}
use Rattle.read_state.specs.Promises.Reading.{Read}
use Rattle.program.specs.Refusal.{Refusal}
use Rattle.std.specs.Prelude.{Some, None, Ok, Err}
use Rattle.read_state.specs.declared.Note.{Note}
use Rattle.read_state.proofs.Reasons.{never_none}
use Rattle.read_state.proofs.Steps.{by_another, refused}
use Rattle.read_expressions.specs.Promises.Promises.{cell_as}
use Rattle.read_expressions.specs.declared.Cell as read
use Rattle.read_expressions.specs.declared.inside.Inside.{Inside}
use Rattle.read_statements.specs.Promises.Promises.{block_in}
use Rattle.read_declaration.specs.Promises.Fields.{DeclaresField}
use Rattle.read_declaration.specs.declared.CellRead.{CellRead}
use Rattle.read_source.specs.Promises.Promises.{Finished, Ends, Few, Reaches}

-- a refusal does not go on
pub never_next : {X : Type 0} {r : Read} {t : Reading} {e : Refusal} → r ≡ Err e → r ≡ Ok t → X
never_next e q = absurd (let z : ◌≡◌ {A = ℕ} 0 1 = cc in omega arith)

module _ (ws : List ℕ) (scan : Scan) (s : Reading) {t : Token} (x : Stands ws scan s.at t) where
  kind_is : {k : ℕ} → t.kind ≡ k → (token_in ws scan s.at).kind ≡ k
  kind_is e = sym (ap (λ (u : Token). u.kind) x.is) ∙ e

  value_is : {v : ℕ} → t.value ≡ v → (token_in ws scan s.at).value ≡ v
  value_is e = sym (ap (λ (u : Token). u.value) x.is) ∙ e

  -- no stop stands there
  pub not_stop : {r : Read} → (t.kind ≡ 0 → ⊥) → r ≡ refusing ws scan s s.at 7 → Ends ws scan s r
  unfolding finish
  not_stop n e =
      record {
        gives = λ source ns d b. by_another (simp (ne_eqb _ _ (λ q. n (ap (λ (u : Token). u.kind) x.is ∙ q)))) (refused {s = s} 7 e);
        stays = λ u q. never_next e q;
        finished = λ u q. never_next e q;
      }

  -- another stop than the end of the source
  pub other_stop : {r : Read} → t.kind ≡ 0 → (t.value ≡ 7 → ⊥) → r ≡ refusing ws scan s s.at 7 → Ends ws scan s r
  unfolding finish
  other_stop k n e =
      record {
        gives = λ source ns d b. by_another (simp (eq-eqb _ _ (kind_is k), ne_eqb _ _ (λ q. n (ap (λ (u : Token). u.value) x.is ∙ q)))) (refused {s = s} 7 e);
        stays = λ u q. never_next e q;
        finished = λ u q. never_next e q;
      }

  -- a refusal was noted
  pub complained : t.kind ≡ 0 → t.value ≡ 7 → {note : Note} {e : Refusal} → s.noted ≡ Some note → e ≡ note_refusal note → Ends ws scan s (Err e)
  unfolding finish
  complained k v {note} q x =
      record {
        gives = λ source ns d b. record { is = rw (q, x) (simp (eq-eqb _ _ (kind_is k), eq-eqb _ _ (value_is v), never_none note.reason)) };
        stays = λ u q. never_next refl q;
        finished = λ u q. never_next refl q;
      }

  -- the source ends there
  pub ended : t.kind ≡ 0 → t.value ≡ 7 → s.noted ≡ None → Ends ws scan s (Ok s)
  ended k v n =
      let f : Finished ws scan s = record { stop = kind_is k; last = value_is v; clear = rw n refl } in
      record {
        gives = λ source ns d b. record { is = (accepted_as (input source scan) d b (state s ns ws), record { words = refl; names = refl }, finish_ok (input source scan) d b (state s ns ws) f.stop f.last f.clear) };
        stays = λ u q. same q;
        finished = λ u q. f;
      }
    where
      same : {u : Reading} → ◌≡◌ {A = Read} (Ok s) (Ok u) → u ≡ s
      same q = cc

-- how many names there are, where reading ends
pub few_left : {ws : List ℕ} {scan : Scan} {s : Reading} {r : Read} → Ends ws scan s r → s.count ≤ most_names → Reaches r
few_left {ws} {scan} {s} {r} x h = record { few = by r x.stays }
  where
    by : (z : Read) → ((t : Reading) → z ≡ Ok t → t ≡ s) → Few z
    by (Ok t) same = subst (λ (u : Reading). u.count ≤ most_names) (sym (same t refl)) h
    by (Err e) same = tt

pub few_next : {r : Read} {t : Reading} → Reaches r → r ≡ Ok t → t.count ≤ most_names
few_next x e = subst Few e x.few

-- what is declared of a cell, as the readers of statements take it
pub cell_is : {ws : List ℕ} {c : CellRead} {d : Declared} {t : Reading} → DeclaresField ws c d t → d.cell ≡ cell_as (record { dims = c.dims; named = c.named })
cell_is x = ap₂ (λ (n : ℕ) (b : Bool). record { dims = n; named = b }) x.dims x.named

pub in_cell : (inside : Inside) {cell : read.Cell} {x : Cell} {source : List ℕ} {scan : Scan} {s : Reading} {ns ws ns' ws' : List ℕ} {r : Read}
    → (inside.cell ≡ cell) × (inside.loops ≡ 0) × (inside.free ≡ most_open) → x ≡ cell_as cell → Gives anything (block_in inside) source scan s ns ws r ns' ws'
    → Gives anything (read_block x most_open 0) source scan s ns ws r ns' ws'
in_cell inside i e g = rw (e, ← i.0, ← i.1, ← i.2) g
