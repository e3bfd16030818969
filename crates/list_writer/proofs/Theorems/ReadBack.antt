-- What a call of the writer wrote, read back, leads from the earlier grid to the later, where no flag falls.
use Prim.Native.Nat.{ℕ, ◌+◌, ◌≤◌}
use native.Mathlib.Omega.{arith}
use mathlib.Core.Path.{◌≡◌, refl, sym, ap, ap₂, ◌∙◌, subst}
use mathlib.Core.Bool.{Bool, true, false}
use mathlib.Core.List.{List, ◌++◌}
use mathlib.Core.Option.{Option}
use lib.ListN.{length, take, drop}
use lib.Seq.{take-append_seam, drop-append_seam}
use lib.Dec.{eqb, ltb}
use lib.IntN.{ℤ, nat_abs}
use borrow.Author.Tests.{eqb-true, eqb-false, ltb-false}
use Rattle.std.specs.Prelude.{if◌then◌else◌}
use Rattle.automaton.specs.Shape.{product}
use Rattle.program.specs.Syntax.{Program}
use Rattle.grammar.specs.Source.{Accepted}
use Rattle.grammar.specs.Checking as checking
use Rattle.grammar.specs.Checking.{SourceRead, turned_away, accepted, reply_of, read_source, check}
use Rattle.read_refusals.proofs.Theorems.Replies.{zero_accepts}
use Rattle.run_meaning.specs.Admission.{Request}
use Rattle.run_calls.specs.Calls.{NameForm, SourceLent, source_fits}
use Rattle.move_meaning.specs.Profile.{profile_flag}
use Rattle.list_meaning.specs.ListChecking.{limits_of, verdict, check_list}
use Rattle.list_meaning.specs.Setting.{set_block}
use Rattle.list_meaning.specs.Writing.{Wanted, Wrote, unwritten, put_text, writing_admission, write, write_read, write_source}
use Rattle.list_meaning.proofs.Theorems.RoundTrip.{text_of, NoFlagFalls, RoundTrip}
use Rattle.list_meaning.proofs.Theorems.Sources.{round_trip_source}
use Rattle.list_writer.specs.WriterCalls.{writer_left}

-- the first `length` bytes of the room, as a list, for the program p and its flag
pub record ReadsBack (q : Wanted) (room : List ℕ) (w : Wrote) (p : Program) (flag : Option ℕ) : Type 0 where
  -- they stand at the front of the room, whose rest is as it was
  pub within : w.length ≤ length room
  pub rest : drop w.length w.room ≡ drop w.length room
  -- they pass the check of every run on these sizes that has the time
  pub passes : (r : Request) → r.sizes ≡ q.sizes → nat_abs r.start ≤ nat_abs q.time → nat_abs q.time ≤ nat_abs r.start + nat_abs r.steps
      → check_list (limits_of p flag r) (take w.length w.room) ≡ verdict 0 0
  -- they take the earlier grid to the later at that time, where no flag falls
  pub leads : NoFlagFalls flag (product q.sizes) (length p.fields) q.earlier q.later
      → set_block q.sizes (length p.fields) (take w.length w.room) (nat_abs q.time) q.earlier ≡ q.later
  -- and leave every grid as it is at another
  pub alone : (u : ℕ) → (nat_abs q.time ≡ u → ⊥) → (g : List ℤ) → set_block q.sizes (length p.fields) (take w.length w.room) u g ≡ g

-- ---- number 0

-- a text that stands at the front of a room
record Stands (text room : List ℕ) (w : Wrote) : Type 0 where
  pub within : length text ≤ length room
  pub length_is : w.length ≡ length text
  pub room_is : w.room ≡ text ++ drop (length text) room

put_told : (text room : List ℕ) → (put_text text room).number ≡ 0 → Stands text room (put_text text room)
unfolding put_text
put_told text room e = by (ltb (length room) (length text)) refl e
  where
    put : Bool → Wrote
    put t = if t then unwritten 57 0 room else record { number = 0; place = 0; length = length text; room = text ++ drop (length text) room }

    by : (t : Bool) → ltb (length room) (length text) ≡ t → (put t).number ≡ 0 → Stands text room (put t)
    by true q h = absurd (omega arith)
    by false q h = record { within = ltb-false (length room) (length text) q; length_is = refl; room_is = refl }

write_told : (p : Program) (flag : Option ℕ) (q : Wanted) (room : List ℕ) → (write p flag q room).number ≡ 0 → ((writing_admission p q).number ≡ 0) × Stands (text_of p flag q) room (write p flag q room)
unfolding write
write_told p flag q room e = by (eqb (writing_admission p q).number 0) refl e
  where
    wrote : Bool → Wrote
    wrote t = elim t [ true ↦ put_text (text_of p flag q) room | false ↦ unwritten (writing_admission p q).number (writing_admission p q).place room ]

    by : (t : Bool) → eqb (writing_admission p q).number 0 ≡ t → (wrote t).number ≡ 0 → ((writing_admission p q).number ≡ 0) × Stands (text_of p flag q) room (wrote t)
    by true z h = (eqb-true (writing_admission p q).number 0 z, put_told (text_of p flag q) room h)
    by false z h = absurd (eqb-false (writing_admission p q).number 0 z h)

-- the source is accepted
reply_zero : (source : List ℕ) (q : Wanted) (room : List ℕ) (r : SourceRead) → (write_read source q room r).number ≡ 0 → (reply_of r).number ≡ 0
reply_zero source q room (turned_away k j) e = e
reply_zero source q room (checking.refused k j) e = e
reply_zero source q room (accepted a) e = refl

-- ---- the theorem

stood : (q : Wanted) (room : List ℕ) (p : Program) (flag : Option ℕ) (w : Wrote) → Stands (text_of p flag q) room w → RoundTrip p flag q → ReadsBack q room w p flag
stood q room p flag w s t =
    record {
      within = omega (arith, s.within, s.length_is);
      rest = ap₂ drop s.length_is s.room_is ∙ drop-append_seam text (drop (length text) room) ∙ ap (λ (n : ℕ). drop n room) (sym s.length_is);
      passes = λ r e low high. ap (check_list (limits_of p flag r)) front ∙ t.passes r e low high;
      leads = λ falls. ap (λ (x : List ℕ). set_block q.sizes (length p.fields) x (nat_abs q.time) q.earlier) front ∙ t.leads falls;
      alone = λ u n g. ap (λ (x : List ℕ). set_block q.sizes (length p.fields) x u g) front ∙ t.alone u n g;
    }
  where
    text : List ℕ
    text = text_of p flag q

    front : take w.length w.room ≡ text
    front = ap₂ take s.length_is s.room_is ∙ take-append_seam text (drop (length text) room)

-- whatever the writer is lent: where its number is 0, the source is accepted, and what it wrote reads back
pub reads_back : {N : Type 0} (form : NameForm N) (l : SourceLent N) (q : Wanted) (room : List ℕ) → (writer_left form l q room).answer.number ≡ 0
    → (a : Accepted) × (read_source (source_fits form l) l.source ≡ accepted a) × ReadsBack q room (writer_left form l q room).answer a.program (profile_flag l.source a)
unfolding writer_left write_source check
reads_back form l q room e =
    let fit = source_fits form l in
    let z = zero_accepts fit l.source (reply_zero l.source q room (read_source fit l.source) e) in
    let p = z.0.program in
    let flag = profile_flag l.source z.0 in
    let is : write_source fit l.source q room ≡ write p flag q room = ap (write_read l.source q room) z.1 in
    let told = write_told p flag q room (sym (ap (λ (w : Wrote). w.number) is) ∙ e) in
    (z.0, z.1, stood q room p flag (write_source fit l.source q room) (subst (Stands (text_of p flag q) room) (sym is) told.1) (round_trip_source fit l.source z.0 z.1 q told.0))
