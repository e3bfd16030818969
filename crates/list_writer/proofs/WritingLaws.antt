-- The room, a program that is loaded, a source, and the call.
use Prim.Native.Nat.{ℕ, ◌≤◌, ◌<◌}
use native.Mathlib.Nat.{zero-add}
use native.Mathlib.Omega.{arith}
use mathlib.Core.Path.{◌≡◌, refl, sym, ap, ap₂, ◌∙◌, subst}
use mathlib.Core.Bool.{Bool, true, false, not, ◌&&◌}
use mathlib.Core.List.{List, ◌++◌}
use mathlib.Core.Option.{Option, some}
use lib.ListN.{length, drop}
use lib.Seq.{sets-eq}
use lib.Dec.{eqb}
use lib.IntN.{ℤ, nat_abs}
use mir.Syntax.{w64}
use mir.Val.{SFits, to_z, of_z}
use mir.Facts.{to_z-of_z}
use borrow.Author.Tests.{ne_eqb, lt-ltb, le-ltb, not-true, not-false}
use Rattle.std.specs.Prelude.{Result, Ok, Err}
use Rattle.value.proofs.Theorems.Laws.{never}
use Rattle.token.specs.Lexeme.{is_built_in}
use Rattle.program.specs.Syntax.{Program}
use Rattle.program.specs.Refusal.{Refusal, refusal, no_refusal}
use Rattle.program.specs.declared.Rule.{Rule}
use Rattle.grammar.specs.Checking as checking
use Rattle.grammar.specs.Checking.{SourceRead, turned_away, accepted, rooms_fit, read_source, check, words_after}
use Rattle.grammar.specs.Promises.Flat.{names_after}
use Rattle.run_meaning.specs.Promises.Fitting.{held_fields}
use Rattle.run_admission.specs.Promises.Admitting.{refusal_told}
use Rattle.run_calls.specs.Calls.{NameForm, flat_names, SourceLent, source_fits, names_left}
use Rattle.read_source.specs.Promises.Promises.{Loads, Checks, is_accepted}
use Rattle.move_meaning.specs.Profile.{profile_flag}
use Rattle.move_profile.specs.Promises.Flags.{FlagOf}
use Rattle.list_meaning.proofs.Theorems.Told.{told_text}
use Rattle.list_meaning.specs.Writing.{written_text, Wanted, Wrote, unwritten, put_text, writing_admission, write, write_read, write_source}
use Rattle.list_writer.specs.WriterCalls.{wanted, writer_left, wrote_of}
use Rattle.list_writer.specs.Promises.Printing.{Puts}
use Rattle.list_writer.specs.Promises.Admitting.{AdmitsBoth}
use Rattle.list_writer.specs.Promises.Writing.{WritesLoaded, WritesSource, WriterLeaves}
use Rattle.list_writer.proofs.SourceLaws.{Read, source_read}

-- ---- the room

pub too_short : (text room : List ℕ) {n : ℕ} → n ≡ length text → length room < n → {e : Refusal} → e ≡ refusal 57 0 → wrote_of (Err e) room ≡ put_text text room
unfolding put_text
too_short text room e l f = rw (f, lt-ltb (length room) (length text) (omega arith))

pub fits_room : {text room room' : List ℕ} {n r : ℕ} → n ≡ length text → n ≤ length room → Puts room 0 text room' r → wrote_of (Ok n) room' ≡ put_text text room
unfolding put_text
fits_room {text} {room} {room'} e l x =
    rw (le-ltb (length room) (length text) (omega arith))
    (ap₂ (λ (k : ℕ) (new : List ℕ). wrote_of (Ok k) new) e
    (x.is ∙ sets-eq text room 0 (omega arith) ∙ ap (λ (k : ℕ). text ++ drop k room) (zero-add (length text))))

-- ---- a program that is loaded

-- what is written, by the writer's checks
write_by : Program → Option ℕ → Wanted → List ℕ → Refusal → Wrote
write_by p flag q room a =
    elim (eqb a.number 0) [
      | true ↦ put_text (written_text q.sizes (length p.fields) flag q.earlier q.later (nat_abs q.time)) room
      | false ↦ unwritten a.number a.place room
    ]

module _ (p : Program) (flag : Option ℕ) (q : Wanted) (room : List ℕ) where
  write_is : write p flag q room ≡ write_by p flag q room (writing_admission p q)
  unfolding write write_by
  write_is = refl

  refused_is : (n i : ℕ) → (n ≡ 0 → ⊥) → unwritten n i room ≡ write_by p flag q room (refusal n i)
  unfolding write_by
  refused_is n i z = rw (ne_eqb n 0 z, write_by)

  admitted_is : put_text (written_text q.sizes (length p.fields) flag q.earlier q.later (nat_abs q.time)) room ≡ write_by p flag q room no_refusal
  unfolding write_by
  admitted_is = refl

module _ {words : List ℕ} {rule : Rule} {q : Wanted} {count : ℕ} {a : Result (Unit {0}) Refusal} (x : AdmitsBoth words rule q count a) (told : ℕ) (room : List ℕ) where
  pub loaded_refused : {e : Refusal} → a ≡ Err e → {r : Result ℕ Refusal} → r ≡ Err e → WritesLoaded words rule told q room r room
  loaded_refused {e} i j =
      record {
        is = λ p flag h l k.
            ap (λ (y : Result ℕ Refusal). wrote_of y room) j ∙ refused_is p flag q room e.number e.place (x.numbered e i)
            ∙ ap (write_by p flag q room) (sym (ap refusal_told i) ∙ x.says p h l) ∙ sym (write_is p flag q room);
      }

  pub loaded_written : {u : Unit {0}} → a ≡ Ok u → {r : Result ℕ Refusal} {room' : List ℕ}
      → wrote_of r room' ≡ put_text (written_text q.sizes rule.fields (some told) q.earlier q.later (nat_abs q.time)) room → WritesLoaded words rule told q room r room'
  loaded_written i w =
      record {
        is = λ p flag h l e.
            w ∙ ap (λ (k : ℕ). put_text (written_text q.sizes rule.fields (some k) q.earlier q.later (nat_abs q.time)) room) e
            ∙ ap (λ (text : List ℕ). put_text text room) (told_text flag q.sizes rule.fields q.earlier q.later (nat_abs q.time))
            ∙ ap (λ (f : ℕ). put_text (written_text q.sizes f flag q.earlier q.later (nat_abs q.time)) room) (sym (held_fields p h))
            ∙ admitted_is p flag q room ∙ ap (write_by p flag q room) (sym (ap refusal_told i) ∙ x.says p h l) ∙ sym (write_is p flag q room);
      }

-- the time as the machine reads it
pub read_loaded : {words : List ℕ} {rule : Rule} {told : ℕ} {sizes : List ℕ} {earlier later : List ℤ} {time : ℤ} {room : List ℕ} {r : Result ℕ Refusal} {room' : List ℕ} → SFits w64 time
    → WritesLoaded words rule told (wanted sizes earlier later (to_z w64 (of_z w64 time))) room r room' → WritesLoaded words rule told (wanted sizes earlier later time) room r room'
read_loaded {words} {rule} {told} {sizes} {earlier} {later} {time} {room} {r} {room'} f = subst (λ (t : ℤ). WritesLoaded words rule told (wanted sizes earlier later t) room r room') (to_z-of_z f)

-- ---- a source

module _ (fit : Bool) (source : List ℕ) (q : Wanted) (room : List ℕ) {n i : ℕ} (reply : refusal n i ≡ check fit source) where
  not_read : is_accepted (read_source fit source) ≡ false → unwritten n i room ≡ write_source fit source q room
  unfolding write_source check
  not_read e = by (read_source fit source) reply e
    where
      by : (r : SourceRead) → refusal n i ≡ checking.reply_of r → is_accepted r ≡ false → unwritten n i room ≡ write_read source q room r
      by (turned_away k j) c d = ap (λ (x : Refusal). unwritten x.number x.place room) c
      by (checking.refused k j) c d = ap (λ (x : Refusal). unwritten x.number x.place room) c
      by (accepted a) c d = never (sym d)

module _ {source ws ns : List ℕ} {known : Bool} {rule : Rule} {n i : ℕ} {ws' ns' : List ℕ} (checked : Checks (rooms_fit (length ws) (length ns)) source ws ns n i ws' ns') (loaded : Loads source ws ns known rule)
    (q : Wanted) (room : List ℕ) where
  pub source_refused : known ≡ false → {r : Result ℕ Refusal} → r ≡ Err (refusal n i) → WritesSource (rooms_fit (length ws) (length ns)) source q ws ns room r ws' ns' room
  source_refused unknown e =
      record {
        wrote = ap (λ (r : Result ℕ Refusal). wrote_of r room) e ∙ not_read (rooms_fit (length ws) (length ns)) source q room checked.reply (sym loaded.is ∙ unknown);
        words_are = checked.words;
        names_are = checked.names;
      }

  module _ (sure : known ≡ true) where
    source_known : Read (rooms_fit (length ws) (length ns)) source ws' ns' rule
    source_known = source_read checked loaded sure

    pub source_written : {told : ℕ} {r : Result ℕ Refusal} {room' : List ℕ} → FlagOf source ws' ns' rule told → WritesLoaded ws' rule told q room r room'
        → WritesSource (rooms_fit (length ws) (length ns)) source q ws ns room r ws' ns' room'
    unfolding write_source
    source_written f x =
        let k = source_known in
        record {
          wrote = x.is k.read.program (profile_flag source k.read) k.stands.holds k.lists (f.is k.read k.stands) ∙ ap (write_read source q room) (sym k.is);
          words_are = checked.words;
          names_are = checked.names;
        }

pub read_written : {fit : Bool} {source sizes : List ℕ} {earlier later : List ℤ} {time : ℤ} {ws ns room : List ℕ} {r : Result ℕ Refusal} {ws' ns' room' : List ℕ} → SFits w64 time
    → WritesSource fit source (wanted sizes earlier later (to_z w64 (of_z w64 time))) ws ns room r ws' ns' room' → WritesSource fit source (wanted sizes earlier later time) ws ns room r ws' ns' room'
read_written {fit} {source} {sizes} {earlier} {later} {time} {ws} {ns} {room} {r} {ws'} {ns'} {room'} f =
    subst (λ (t : ℤ). WritesSource fit source (wanted sizes earlier later t) ws ns room r ws' ns' room') (to_z-of_z f)

-- ---- the call

pub left_by : {N : Type 0} {form : NameForm N} {l : SourceLent N} {q : Wanted} {room : List ℕ} {r : Result ℕ Refusal} {words : List ℕ} {names : List N} {room' : List ℕ} → wrote_of r room' ≡ write_source (source_fits form l) l.source q room
    → words ≡ words_after (source_fits form l) l.source l.words → names ≡ names_left form (source_fits form l) l.source l.names → WriterLeaves form l q room r words names room'
unfolding writer_left
left_by e w n = record { is = λ i. record { answer = e i; words = w i; names = n i } }

-- another list than the built-in one: nothing is read, and nothing changes
pub unlisted_writer : {N : Type 0} (form : NameForm N) (l : SourceLent N) (q : Wanted) (room : List ℕ) → source_fits form l ≡ false → WriterLeaves form l q room (Err (refusal 1 0)) l.words l.names room
unfolding write_source words_after read_source
unlisted_writer form l q room e = left_by (rw e) (rw e) (rw e)

module _ (l : SourceLent ℕ) (q : Wanted) (room : List ℕ) {t : Bool} (is : t ≡ is_built_in l.list) where
  pub unlisted : not t ≡ true → {e : Refusal} → e ≡ refusal 1 0 → WriterLeaves flat_names l q room (Err e) l.words l.names room
  unlisted n f = subst (λ (e : Refusal). WriterLeaves flat_names l q room (Err e) l.words l.names room) (sym f) (unlisted_writer flat_names l q room (ap (λ (u : Bool). u && rooms_fit (length l.words) (length l.names)) (sym is ∙ not-true t n)))

  pub listed : not t ≡ false → {r : Result ℕ Refusal} {words names room' : List ℕ} → WritesSource (rooms_fit (length l.words) (length l.names)) l.source q l.words l.names room r words names room'
      → WriterLeaves flat_names l q room r words names room'
  unfolding names_after
  listed n {r} {words} {names} {room'} x =
      let e : rooms_fit (length l.words) (length l.names) ≡ source_fits flat_names l = ap (λ (u : Bool). u && rooms_fit (length l.words) (length l.names)) (sym (sym is ∙ not-false t n)) in
      let y = subst (λ (fit : Bool). WritesSource fit l.source q l.words l.names room r words names room') e x in
      left_by y.wrote y.words_are y.names_are
