-- The laws of the elements of a relative index, and of the variables that stand in it.
use Prim.Native.Nat.{ℕ, suc, ◌+◌, ◌-◌, ◌*◌, ◌<◌, ◌≤◌}
use native.Mathlib.Omega.{arith}
use mathlib.Core.Path.{◌≡◌, refl, sym, ap, ap₂, ◌∙◌}
use mathlib.Core.Bool.{Bool, true, false, ◌&&◌, ◌||◌}
use mathlib.Core.List.{List, ◌∷◌}
use lib.Dec.{eqb}
use lib.IntN.{pos}
use lib.ListN.{length, get_or, get_or-eq_default}
use Rattle.std.specs.Prelude.{if◌then◌else◌}
use Rattle.value.specs.Worked.{decode_of}
use Rattle.automaton.specs.Promises.ListedLaws.{length_list_of, get_or_list_of}
use Rattle.program.specs.Syntax.{Index, fixed, moving}
use Rattle.cell_meaning.specs.Evaluation.{offset}
use Rattle.cell_meaning.specs.Promises.Stands.{index_in, next_index, indices_in}
use Rattle.cell_meaning.specs.Links.{Table}
use Rattle.cell_meaning.specs.Places.{uses}
use Rattle.run_places.specs.Promises.Vectors.{vector_values, is_variable}

-- ---- one element

module _ (t : Table) (at : ℕ) {b : Bool} (eb : b ≡ (eqb (t.kind at) 1 && eqb (t.word2 at) 5)) {x : ℕ} (ex : x ≡ t.word3 at) where
  index_as : index_in t at ≡ (if b then moving (t.place at) x else fixed (t.place at) (decode_of x))
  unfolding index_in
  index_as = ap₂ (λ (c : Bool) (w : ℕ). if c then moving (t.place at) w else fixed (t.place at) (decode_of w)) (sym eb) (sym ex)

  index_moves : b ≡ true → index_in t at ≡ moving (t.place at) x
  index_moves q = index_as ∙ ap (λ (c : Bool). if c then moving (t.place at) x else fixed (t.place at) (decode_of x)) q

  index_fixed : b ≡ false → index_in t at ≡ fixed (t.place at) (decode_of x)
  index_fixed q = index_as ∙ ap (λ (c : Bool). if c then moving (t.place at) x else fixed (t.place at) (decode_of x)) q

  module _ (given : List ℕ) where
    pub word_open : b ≡ true → x < length given → decode_of (get_or given x 0) ≡ offset (vector_values given (length given)) (index_in t at)
    word_open q l = sym (ap (offset (vector_values given (length given))) (index_moves q) ∙ get_or_list_of (λ d. decode_of (get_or given d 0)) (length given) x (pos 0) l)

    pub word_shut : b ≡ true → length given ≤ x → decode_of 0 ≡ offset (vector_values given (length given)) (index_in t at)
    word_shut q l =
        sym (ap (offset (vector_values given (length given))) (index_moves q)
        ∙ get_or-eq_default (vector_values given (length given)) (pos 0) {n = x} (omega (arith, length_list_of (λ d. decode_of (get_or given d 0)) (length given))))

    pub word_fixed : b ≡ false → decode_of x ≡ offset (vector_values given (length given)) (index_in t at)
    word_fixed q = sym (ap (offset (vector_values given (length given))) (index_fixed q))

  pub variable_here : (which : ℕ) → b ≡ true → eqb x which ≡ is_variable which (index_in t at)
  variable_here which q = sym (ap (is_variable which) (index_moves q))

pub variable_not : (t : Table) (at which : ℕ) {b : Bool} → b ≡ (eqb (t.kind at) 1 && eqb (t.word2 at) 5) → b ≡ false → false ≡ is_variable which (index_in t at)
variable_not t at which eb q = sym (ap (is_variable which) (index_fixed t at eb refl q))

-- ---- the variables that stand in a relative index

uses_cons : (which : ℕ) (i : Index) (is : List Index) → uses which (i ∷ is) ≡ (is_variable which i || uses which is)
uses_cons which (fixed p z) is = refl
uses_cons which (moving p d) is = refl

module _ (t : Table) (which dims at : ℕ) where
  -- the variable is not among the first k elements
  pub record Looking (here k : ℕ) : Type 0 where
    pub turn : k ≤ dims
    pub near : here ≤ at + 3 * k
    pub says : uses which (indices_in t dims at) ≡ uses which (indices_in t (dims - k) here)

  pub looking_start : Looking at 0
  looking_start =
      let e : dims ≡ dims - 0 = omega arith in
      record { turn = omega arith; near = omega arith; says = ap (λ (m : ℕ). uses which (indices_in t m at)) e }

  module _ {here k : ℕ} (so : Looking here k) where
    module _ (l : k < dims) {b : Bool} (eb : b ≡ is_variable which (index_in t here)) where
      here_is : uses which (indices_in t dims at) ≡ (b || uses which (indices_in t (dims - suc k) (next_index t here)))
      unfolding indices_in
      here_is =
          let d : dims - k ≡ suc (dims - suc k) = omega arith in
          so.says ∙ ap (λ (m : ℕ). uses which (indices_in t m here)) d ∙ uses_cons which (index_in t here) (indices_in t (dims - suc k) (next_index t here))
          ∙ ap (λ (c : Bool). c || uses which (indices_in t (dims - suc k) (next_index t here))) (sym eb)

      pub looking_found : b ≡ true → true ≡ uses which (indices_in t dims at)
      looking_found q = sym (here_is ∙ ap (λ (c : Bool). c || uses which (indices_in t (dims - suc k) (next_index t here))) q)

      pub looking_more : b ≡ false → {there : ℕ} → (there ≡ next_index t here) × (there ≤ here + 3) → Looking there (k + 1)
      looking_more q {there} e =
          let f : suc k ≡ k + 1 = omega arith in
          let n = so.near in
          let m = e.1 in
          record {
            turn = omega arith;
            near = omega arith;
            says = here_is ∙ ap (λ (c : Bool). c || uses which (indices_in t (dims - suc k) (next_index t here))) q ∙ rw (f, ← e.0) refl;
          }

    pub looking_done : dims ≤ k → false ≡ uses which (indices_in t dims at)
    unfolding indices_in
    looking_done l = let d : dims - k ≡ 0 = omega arith in sym (so.says ∙ ap (λ (m : ℕ). uses which (indices_in t m here)) d)
