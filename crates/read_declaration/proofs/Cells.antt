-- What is declared of a cell, as the code tells it. Assumes nothing.
use Prim.Native.Nat.{ℕ}
use native.Mathlib.Omega.{arith}
use mathlib.Core.Path.{◌≡◌, refl, sym, ap, ◌∙◌}
use mathlib.Core.Bool.{Bool}
use mathlib.Core.List.{List}
use lib.IntN.{ℤ}
use Rattle.token.specs.declared.Scan.{Scan}
use Rattle.program.specs.Refusal.{Refusal}
use Rattle.program.specs.Syntax.{Range}
use Rattle.grammar.specs.Reader.{Reader}
use Rattle.grammar.specs.Source.{Declared, declared}
use Rattle.read_state.specs.Promises.Reading.{Gives}
use Rattle.read_state.specs.declared.Reading.{Reading}
use Rattle.read_state.specs.Promises.Reading.{Read}
use Rattle.std.specs.Prelude.{Ok, Err}
use Rattle.read_state.proofs.Steps.{went_on, no_further}
use Rattle.read_constants.proofs.Values.{word_of}
use Rattle.read_declaration.specs.Promises.Fields.{Fields, Dims, Fielded, DeclaresField}
use Rattle.read_declaration.specs.declared.CellRead.{CellRead}

-- the fields, named or not
pub with_fields : {words : List ℕ} {base : ℕ} {flag : Bool} {rs : List Range} {t : Reading} (z : ℤ) (named : Bool) → named ≡ flag → Fields words base flag rs t → Fielded words base z (declared z named rs) t
with_fields z named e f =
    record { dims = refl; named = e ∙ sym f.named; ranges = f.ranges; some = f.some; few = f.few; room = f.room }

module _ {A : Type 0} {R Q : A → Reading → Type 0} {m : Reader A} {source : List ℕ} {sc : Scan} {s : Reading} {ns ws ns₁ ws₁ : List ℕ} {r : Read} (x : Gives R m source sc s ns ws r ns₁ ws₁) where
  -- what is known of what was read where reading went on to t, said in another way
  pub told_at : {t : Reading} → r ≡ Ok t → ((a : A) → R a t → Q a t) → Gives Q m source sc s ns ws (Ok t) ns₁ ws₁
  told_at e f = let y = (went_on x e).is in record { is = (y.0, f y.0 y.1, y.2) }

  -- a refusal, as part of the code's answer
  pub stopped : {c : Read} {e : Refusal} → c ≡ r → r ≡ Err e → Gives Q m source sc s ns ws c ns₁ ws₁
  stopped {c} e y = rw e (no_further x y)

-- the cell, from its number of dimensions and its fields
pub cell_of : {words : List ℕ} {z : ℤ} {a t : Reading} {d : Declared} (c : CellRead) → Dims z a → Fielded words c.base z d t → c.dims ≡ a.value → c.named ≡ t.named → c.fields ≡ t.fields → DeclaresField words c d t
cell_of {a = a} c x f p q r =
    let l = x.least in
    let m = x.most in
    record {
      dims = f.dims ∙ word_of a.value x.is (omega arith) ∙ sym p;
      least = omega arith;
      most = omega arith;
      named = f.named ∙ sym q;
      ranges = rw r f.ranges;
      some = omega (arith, f.some);
      few = omega (arith, f.few);
      room = omega (arith, f.room);
    }
