-- The laws of relative indices: tests put together, and how many elements there are. Assumes nothing.
use Prim.Native.Nat.{ℕ, ◌+◌, ◌<◌}
use native.Mathlib.Omega.{arith}
use mathlib.Core.Path.{◌≡◌, sym, ap, ◌∙◌}
use mathlib.Core.List.{List, [], ◌∷◌, ◌++◌}
use mathlib.Core.Bool.{Bool, true, false, ◌||◌}
use lib.ListN.{length, length-append}
use lib.Dec.{eqb}
use borrow.Author.Tests.{eq-eqb, ne_eqb}
use Rattle.value.specs.Worked.{decode_of, encode_of}
use Rattle.value.proofs.Theorems.Laws.{encode_decode}
use Rattle.token.specs.declared.Scan.{Scan}
use Rattle.program.specs.Syntax.{Index}
use Rattle.grammar.specs.Reader.{put}
use Rattle.read_state.specs.declared.Reading.{Reading}
use Rattle.read_state.specs.Promises.Reading.{Read}
use Rattle.read_state.specs.Promises.Reading.{input, state, anything, Gives}
use Rattle.read_state.proofs.Steps.{by_another}

pub first_holds : {a : Bool} (b : Bool) → a ≡ true → (a || b) ≡ true
first_holds b p = rw p

-- the word of a number that was read is written
pub put_decoded : {source : List ℕ} {sc : Scan} {s : Reading} {ns ws ns₁ ws₁ : List ℕ} {r : Read} (i w : ℕ) → w < 4294967296 → Gives anything (put i 3 w) source sc s ns ws r ns₁ ws₁ → Gives anything (put i 3 (encode_of (decode_of w))) source sc s ns ws r ns₁ ws₁
put_decoded {source} {sc} {s} {ns} {ws} i w h x = by_another (ap (λ (v : ℕ). put i 3 v (input source sc) (state s ns ws)) (encode_decode w h)) x

-- one more element
module _ (got : List Index) (i : Index) {k : ℕ} (e : length got ≡ k) where
  pub counted : length (got ++ i ∷ []) ≡ k + 1
  counted = omega (arith, length-append got (i ∷ []))

  pub full : {dims : ℕ} → k + 1 ≡ dims → eqb (length (got ++ i ∷ [])) dims ≡ true
  full d = eq-eqb _ _ (counted ∙ d)

  pub not_full : {dims : ℕ} → (k + 1 ≡ dims → ⊥) → eqb (length (got ++ i ∷ [])) dims ≡ false
  not_full d = ne_eqb _ _ (λ f. d (sym counted ∙ f))
