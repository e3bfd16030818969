-- The laws of single steps. Assumes nothing.
use Prim.Native.Nat.{ℕ}
use native.Mathlib.Omega.{arith}
use mathlib.Core.Path.{◌≡◌, sym, ap, ◌∙◌}
use mathlib.Core.Bool.{Bool, true, false}
use mathlib.Core.List.{List, [], ◌∷◌, ◌++◌}
use lib.ListN.{length, length-append}
use lib.Dec.{eqb}
use borrow.Author.Tests.{ne_eqb}
use Rattle.std.specs.Prelude.{if◌then◌else◌}
use Rattle.token.specs.declared.Scan.{Scan}
use Rattle.program.specs.Syntax.{Clause}
use Rattle.program.specs.Table.{with_word}
use Rattle.grammar.specs.Reader.{State, ok, Reader, return, again, done, put}
use Rattle.read_state.specs.Promises.Reading.{anything, InNumber, Gives, Reads, carrying_more, Carries}
use Rattle.read_state.specs.declared.Reading.{Reading}
use Rattle.read_state.specs.Promises.Reading.{Read}
use Rattle.std.specs.Prelude.{Ok}
use Rattle.read_state.proofs.Steps.{went_on, told_as, put_in, carried}
use Rattle.read_expressions.specs.declared.inside.Inside.{Inside}
use Rattle.read_statements.specs.Promises.Promises.{expression_in, ChainIn, once, ends}
use Rattle.read_expressions.specs.Promises.Promises.{SlotIn, Climbs}

-- an expression of any operators
pub expression : {inside : Inside} {source : List ℕ} {sc : Scan} {s : Reading} {ns ws : List ℕ} {r : Read} {ws₁ : List ℕ} → Climbs inside 1 source sc s ns ws r ws₁ → Reads anything (expression_in inside) source sc s.count s ns ws r ns ws₁
expression x = record { gives = x.gives 4 (omega arith); onward = x.onward }

-- a slot that was read is told by its word
pub slot_told : {m : Reader ℕ} {source : List ℕ} {sc : Scan} {s : Reading} {ns ws : List ℕ} {r : Read} {ns₁ ws₁ : List ℕ} → Gives SlotIn m source sc s ns ws r ns₁ ws₁ → Gives InNumber m source sc s ns ws r ns₁ ws₁
slot_told x = told_as x (λ a t p. p.0)

-- one more clause is not the first
not_first : (got : List Clause) (k : Clause) → eqb (length (got ++ k ∷ [])) 0 ≡ false
not_first got k = ne_eqb (length (got ++ k ∷ [])) 0 (λ e. omega (arith, length-append got (k ∷ []), e))

-- whether one more clause follows the one that is put behind those before it
pub turn_told : {source : List ℕ} {sc : Scan} {s r : Reading} {ns ws : List ℕ} (got : List Clause) (k : Clause) {more : Bool} → Carries s (carrying_more s more) r → Gives ChainIn (return (if more then again (got ++ k ∷ []) else done (got ++ k ∷ []))) source sc s ns ws (Ok r) ns ws
turn_told {source} {sc} {s} {r} {ns} {ws} got k {more} c = by more c
  where
    by : (b : Bool) → Carries s (carrying_more s b) r → Gives ChainIn (return (if b then again (got ++ k ∷ []) else done (got ++ k ∷ []))) source sc s ns ws (Ok r) ns ws
    by true x = carried _ x (once (x.more, not_first got k))
    by false x = carried _ x (ends x.more)

-- a word of the table, where the definition's word is the code's
pub put_as : {source : List ℕ} {sc : Scan} {s : Reading} {ns ws : List ℕ} (i w v : ℕ) {u : ℕ} {ws₁ : List ℕ} → v ≡ u → ws₁ ≡ with_word ws i w u → Gives anything (put i w v) source sc s ns ws (Ok s) ns ws₁
put_as {ws = ws} i w v e p = put_in i w v (p ∙ ap (λ (x : ℕ). with_word ws i w x) (sym e))

-- with something else carried than what a reader went on with
pub carried_on : {A : Type 0} {source : List ℕ} {sc : Scan} {R Q : A → Reading → Type 0} {m : Reader A} {s t t' : Reading} {ns ws ns₁ ws₁ : List ℕ} {r : Read} {u : Reading} → Gives R m source sc s ns ws r ns₁ ws₁ → r ≡ Ok t → Carries t u t' → ((a : A) → R a t → Q a t') → Gives Q m source sc s ns ws (Ok t') ns₁ ws₁
carried_on {A} {ns₁ = ns₁} {ws₁ = ws₁} x e k f =
    let y = (went_on x e).is in
    record { is = (y.0, f y.0 y.1, y.2 ∙ sym (ap (λ (z : State). ok (y.0, z)) (k.here ns₁ ws₁))) }
