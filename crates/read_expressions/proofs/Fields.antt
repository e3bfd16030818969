-- The laws of fields. Assumes nothing.
use Prim.Native.Nat.{ℕ, ◌<◌}
use mathlib.Core.Path.{◌≡◌, refl, sym}
use mathlib.Core.List.{List}
use Rattle.token.specs.declared.Scan.{Scan}
use Rattle.token.specs.Kind.{delimiter}
use Rattle.names.specs.declared.Entry.{Entry}
use Rattle.names.specs.Names.{entry_at}
use Rattle.grammar.specs.Reader.{Reader, ◌>>=◌, ◌<<◌, forbid}
use Rattle.grammar.specs.Expressions.{dot_field, field_number}
use Rattle.read_state.specs.declared.Reading.{Reading}
use Rattle.read_state.specs.Promises.Reading.{Read}
use Rattle.std.specs.Prelude.{Ok}
use Rattle.read_state.specs.Promises.Reading.{anything, InNumber, carrying_number, Gives, Carries}
use Rattle.read_state.proofs.Steps.{went_on, on, on_told, told_as, named, returned, carried}
use Rattle.read_expressions.specs.Promises.Promises.{SlotIn}

-- a slot that was read is one of the list's
pub slot_below : {m : Reader ℕ} {source : List ℕ} {sc : Scan} {s t : Reading} {ns ws ns₁ ws₁ : List ℕ} {r : Read} → Gives SlotIn m source sc s ns ws r ns₁ ws₁ → r ≡ Ok t → t.number < t.count
slot_below x e = (went_on x e).is.1.1

-- the number of the field that was named
pub field_read : {source : List ℕ} {sc : Scan} {s a b t : Reading} {ns ws : List ℕ} {r q : Read} {e : Entry} → Gives SlotIn dot_field source sc s ns ws r ns ws → r ≡ Ok a → Gives anything (forbid delimiter.bracket 6) source sc a ns ws q ns ws → q ≡ Ok b → e ≡ entry_at ns a.number → Carries b (carrying_number b e.word) t → Gives InNumber (dot_field << forbid delimiter.bracket 6 >>= field_number) source sc s ns ws (Ok t) ns ws
unfolding field_number
field_read {a = a} x d y f i k =
    on_told
    {f = λ _. a.number}
    field_number
    (on_told _ (told_as x (λ _ _ p. p.0)) d (on _ y f (λ _ _. returned _ refl)))
    refl
    (named _ _ i (carried _ k (sym k.number)))
