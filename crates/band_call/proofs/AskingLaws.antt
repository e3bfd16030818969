-- Whether a band's call is admitted.
use Prim.Native.Nat.{ℕ, ◌*◌, ◌/◌, ◌≤◌, ◌<◌}
use native.Mathlib.Omega.{arith}
use native.Mathlib.Nat.{mul-div_cancel_left, mul-le-mul}
use mathlib.Core.Path.{◌≡◌, sym, ap, ap₂, ◌∙◌}
use mathlib.Core.Bool.{Bool, true, false, ◌&&◌, not}
use mathlib.Core.List.{List, [], ◌∷◌}
use lib.ListN.{length, get_or}
use lib.Dec.{eqb, leb, ltb}
use lib.IntN.{ℤ, pos}
use borrow.Author.Tests.{le-leb, lt-leb, leb-true, lt-ltb, le-ltb, ltb-true, eq-eqb, ne_eqb, eqb-true, not-true, not-false}
use Rattle.value.proofs.Theorems.Laws.{and_both}
use Rattle.automaton.specs.Shape.{product, Bound}
use Rattle.automaton.specs.Bands.{Band, rows_in, rows_with}
use Rattle.run_meaning.specs.Admission.{all_between, good_times}
use Rattle.run_admission.specs.Promises.Admitting.{cells_of}
use Rattle.run_admission.proofs.RequestLaws.{cells_in}
use Rattle.band_call.specs.BandCall.{row_cells, band_right, band_rooms}
use Rattle.band_call.specs.Promises.Asking.{RowsDivide, band_number, RefusesBand}

-- ---- a row

first_some : (ss : List ℕ) → 0 < length ss → all_between 1 4096 ss ≡ true → 0 < get_or ss 0 0
unfolding all_between
first_some [] l e = absurd (omega arith)
first_some (n ∷ ns) l e = leb-true 1 n (and_both (leb 1 n) _ (and_both (leb 1 n && leb n 4096) (all_between 1 4096 ns) e).0).0

pub divided : {sizes : List ℕ} {n : ℕ} → RowsDivide sizes → n ≡ cells_of sizes → n / get_or sizes 0 0 ≡ row_cells sizes
divided {sizes} {n} x e = by sizes x.some_dims (first_some sizes x.some_dims x.each_size) (e ∙ cells_in sizes x.each_size x.few_cells)
  where
    by : (ss : List ℕ) → 0 < length ss → 0 < get_or ss 0 0 → n ≡ product ss → n / get_or ss 0 0 ≡ row_cells ss
    by [] l f q = absurd (omega arith)
    by (m ∷ ns) l f q = ap (λ (x : ℕ). x / m) q ∙ mul-div_cancel_left (product ns) f

pub some_rows : {sizes : List ℕ} → RowsDivide sizes → 0 < get_or sizes 0 0
some_rows {sizes} x = first_some sizes x.some_dims x.each_size

pub cells_small : {sizes : List ℕ} {n : ℕ} → RowsDivide sizes → n ≡ cells_of sizes → n ≤ 1048576
cells_small {sizes} x e = omega (arith, e, cells_in sizes x.each_size x.few_cells, x.few_cells)

-- ---- 60

module _ (n : ℕ) (border : Bound) (held : ℕ) (b : Band) where
  pub reversed : b.last < b.first → false ≡ band_right n border held b
  unfolding band_right
  reversed l = sym (ap (λ (t : Bool). t && (ltb b.last n && leb (rows_with border b) held)) (lt-leb b.first b.last l))

  pub past_end : b.first ≤ b.last → n ≤ b.last → false ≡ band_right n border held b
  unfolding band_right
  past_end l m =
      sym (ap (λ (t : Bool). t && (ltb b.last n && leb (rows_with border b) held)) (le-leb b.first b.last l) ∙ ap (λ (t : Bool). t && leb (rows_with border b) held) (le-ltb b.last n m))

  pub by_held : b.first ≤ b.last → b.last < n → {w : ℕ} → w ≡ rows_with border b → leb w held ≡ band_right n border held b
  unfolding band_right
  by_held l m e =
      ap (λ (x : ℕ). leb x held) e
      ∙ sym (ap (λ (t : Bool). t && (ltb b.last n && leb (rows_with border b) held)) (le-leb b.first b.last l) ∙ ap (λ (t : Bool). t && leb (rows_with border b) held) (lt-ltb b.last n m))

  pub right_knows : band_right n border held b ≡ true → (b.first ≤ b.last) × (b.last < n) × (rows_with border b ≤ held)
  unfolding band_right
  right_knows e =
      let x = and_both (leb b.first b.last) (ltb b.last n && leb (rows_with border b) held) e in
      let y = and_both (ltb b.last n) (leb (rows_with border b) held) x.1 in
      (leb-true b.first b.last x.0, ltb-true b.last n y.0, leb-true (rows_with border b) held y.1)

-- ---- 21

module _ (row fields rows room : ℕ) (border : Bound) (b : Band) where
  pub rows_wrong : {w : ℕ} → w ≡ rows_with border b * row * fields → (rows ≡ w → ⊥) → false ≡ band_rooms row fields rows room border b
  unfolding band_rooms
  rows_wrong e d = sym (ap (λ (t : Bool). t && eqb room (rows_in b * row * fields)) (ne_eqb rows _ (λ q. d (q ∙ sym e))))

  pub by_room : {w v : ℕ} → w ≡ rows_with border b * row * fields → rows ≡ w → v ≡ rows_in b * row * fields → eqb room v ≡ band_rooms row fields rows room border b
  unfolding band_rooms
  by_room e q f = ap (eqb room) f ∙ sym (ap (λ (t : Bool). t && eqb room (rows_in b * row * fields)) (eq-eqb rows _ (q ∙ e)))

  pub rooms_known : band_rooms row fields rows room border b ≡ true → (rows ≡ rows_with border b * row * fields) × (room ≡ rows_in b * row * fields)
  unfolding band_rooms
  rooms_known e =
      let x = and_both (eqb rows (rows_with border b * row * fields)) (eqb room (rows_in b * row * fields)) e in
      (eqb-true rows _ x.0, eqb-true room _ x.1)

-- the products are small
pub small_product : (w row fields : ℕ) → w ≤ 12884901888 → row ≤ 1048576 → fields ≤ 8 → (w * row ≤ 13510798882111488) × (w * row * fields ≤ 108086391056891904)
small_product w row fields a b c =
    let x : w * row ≤ 12884901888 * 1048576 = mul-le-mul a b in
    (x, mul-le-mul x c)

-- ---- the first of them

-- a test that holds
pub is_right : {x t : Bool} → t ≡ x → not t ≡ false → x ≡ true
is_right {x} {t} e q = sym e ∙ not-false t q

module _ (n row fields : ℕ) (border : Bound) (held : ℕ) (b : Band) (rows room : ℕ) (time : ℤ) where
  pub refuses_60 : {t : Bool} → t ≡ band_right n border held b → not t ≡ true → RefusesBand n row fields border held b rows room time 60
  refuses_60 {t} e q = record { is = sym (ap (λ (u : Bool). band_number u (band_rooms row fields rows room border b) (good_times time (pos 1))) (sym e ∙ not-true t q)) }

  module _ {t : Bool} (e : t ≡ band_right n border held b) (q : not t ≡ false) where
    pub refuses_21 : {u : Bool} → u ≡ band_rooms row fields rows room border b → not u ≡ true → RefusesBand n row fields border held b rows room time 21
    refuses_21 {u} f r = record { is = sym (ap₂ (λ (x y : Bool). band_number x y (good_times time (pos 1))) (is_right e q) (sym f ∙ not-true u r)) }

    module _ {u : Bool} (f : u ≡ band_rooms row fields rows room border b) (r : not u ≡ false) {v : Bool} (g : v ≡ good_times time (pos 1)) where
      last_number : {w : Bool} → v ≡ w → band_number (band_right n border held b) (band_rooms row fields rows room border b) (good_times time (pos 1)) ≡ band_number true true w
      last_number h = ap₂ (λ (x y : Bool). band_number x y (good_times time (pos 1))) (is_right e q) (sym f ∙ not-false u r) ∙ ap (band_number true true) (sym g ∙ h)

      pub refuses_22 : not v ≡ true → RefusesBand n row fields border held b rows room time 22
      refuses_22 s = record { is = sym (last_number (not-true v s)) }

      pub refuses_none : not v ≡ false → RefusesBand n row fields border held b rows room time 0
      refuses_none s = record { is = sym (last_number (not-false v s)) }
