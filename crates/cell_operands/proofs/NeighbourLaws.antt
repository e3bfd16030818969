-- The laws of relative indices.
use Prim.Native.Nat.{ℕ, zero, suc, ◌+◌, ◌-◌, ◌*◌, ◌%◌, ◌<◌, ◌≤◌}
use native.Mathlib.Nat.{mod-eq_of_lt, add-mod_right, mul-le-mul_left}
use native.Mathlib.Omega.{arith}
use mathlib.Core.Path.{◌≡◌, refl, sym, ap, ap₂, ◌∙◌}
use mathlib.Core.Bool.{Bool, true, false, ◌&&◌}
use mathlib.Core.List.{List, [], ◌∷◌}
use lib.Dec.{eqb}
use lib.ListN.{length, get_or, take, drop, get_or-eq_default, length-take, drop_of_length-le}
use lib.Seq.{get_or-take, drop-cons}
use lib.IntN.{ℤ, pos, negsuc, sub_ℕ}
use lib.Signed.{mag}
use borrow.Author.Tests.{eq-eqb, ne_eqb}
use Rattle.std.specs.Prelude.{if◌then◌else◌}
use Rattle.value.specs.Worked.{value, encode_of, decode_of, wrap_of}
use Rattle.value.specs.declared.Value.{Value}
use Rattle.value.specs.Number.{mod_z}
use Rattle.value.proofs.Theorems.Laws.{sub_le, sub_lt}
use Rattle.automaton.specs.Promises.ListedLaws.{length_list_of, get_or_list_of}
use Rattle.automaton.specs.Shape.{product, cell_number, shift}
use Rattle.automaton.specs.Promises.ShapeLaws.{Inside, Positive, Alike}
use Rattle.automaton.proofs.ShapeLaws.{inside_length, product_pos, number_lt, shift_inside}
use Rattle.automaton.specs.Grid.{cell_of}
use Rattle.program.specs.Syntax.{Index, fixed, moving}
use Rattle.cell_meaning.specs.Evaluation.{entry, offset, offsets}
use Rattle.cell_meaning.specs.Promises.Stands.{is_sign_kind, index_in, next_index, indices_in}
use Rattle.cell_meaning.specs.Links.{Table}

-- ---- wrapping

pub reduced_below : (a m : ℕ) → a < m → a ≡ a % m
reduced_below a m l = sym (mod-eq_of_lt l)

pub reduced_once : (a m : ℕ) → m ≤ a → a < 2 * m → a - m ≡ a % m
reduced_once a m h l =
    let q : a ≡ a - m + m = omega arith in
    let s : a - m < m = omega arith in
    sym (ap (λ (x : ℕ). x % m) q ∙ add-mod_right (a - m) m ∙ mod-eq_of_lt s)

-- a value by its word
pub encoded_ahead : (d : ℤ) (w : ℕ) → w ≡ encode_of d → mag d < 2147483648 → w < 2147483648 → d ≡ pos w
encoded_ahead (pos a) w e h l = ap pos (omega arith)
encoded_ahead (negsuc a) w e h l = absurd (omega arith)

pub encoded_back : (d : ℤ) (w : ℕ) → w ≡ encode_of d → mag d < 2147483648 → 2147483648 ≤ w → d ≡ negsuc (4294967295 - w)
encoded_back (pos a) w e h l = absurd (omega arith)
encoded_back (negsuc a) w e h l = ap negsuc (omega arith)

sub_both : (back own : ℕ) → own < back → back - own - 1 ≡ back - suc own
sub_both back own l = omega arith

module _ (own : ℕ) (d : ℤ) (size w : ℕ) (ew : w ≡ encode_of d) (small : mag d < 2147483648) where
  pub wrap_ahead : {r : ℕ} → w < 2147483648 → r ≡ (own + w) % size → r ≡ wrap_of own d size
  wrap_ahead l e = e ∙ ap (λ (z : ℤ). wrap_of own z size) (sym (encoded_ahead d w ew small l))

  module _ (l : 2147483648 ≤ w) (f : w < 4294967296) (h : own < size) where
    back_is : 4294967296 - w ≡ suc (4294967295 - w)
    back_is = omega arith

    away : wrap_of own d size ≡ mod_z (sub_ℕ own (4294967296 - w)) size
    away = ap (λ (z : ℤ). wrap_of own z size) (encoded_back d w ew small l) ∙ ap (λ (x : ℕ). mod_z (sub_ℕ own x) size) (sym back_is)

    pub wrap_near : 4294967296 - w ≤ own → own - (4294967296 - w) ≡ wrap_of own d size
    wrap_near m =
        let q : own - (4294967296 - w) < size = omega arith in
        sym (away ∙ ap (λ (z : ℤ). mod_z z size) (sub_le own (4294967296 - w) m) ∙ mod-eq_of_lt q)

    pub wrap_far : {x : ℕ} → own < 4294967296 - w → x ≡ (4294967296 - w - own - 1) % size → size - 1 - x ≡ wrap_of own d size
    wrap_far {x} m e =
        let y : x ≡ (4294967296 - w - suc own) % size = e ∙ ap (λ (z : ℕ). z % size) (sub_both (4294967296 - w) own m) in
        last size x ∙ ap (λ (z : ℕ). size - suc z) y ∙ sym (away ∙ ap (λ (z : ℤ). mod_z z size) (sub_lt own (4294967296 - w) m))
      where
        last : (a b : ℕ) → a - 1 - b ≡ a - suc b
        last a b = omega arith

-- ---- index variables and fields

-- entries of a list's front
pub front_entry : (zs : List ℤ) (d k : ℕ) → k < d → entry (take d zs) k ≡ entry zs k
front_entry zs d k l = get_or-take d zs k (pos 0) l

pub front_past : (zs : List ℤ) (d k : ℕ) → d ≤ k → value (pos 0) ≡ value (entry (take d zs) k)
front_past zs d k l = ap value (sym (get_or-eq_default (take d zs) (pos 0) (omega (arith, length-take d zs))))

-- the fields of a cell
pub field_entry : (grid : List ℤ) (cell fields f : ℕ) → f < fields → entry (cell_of fields grid cell) f ≡ entry grid (cell * fields + f)
unfolding cell_of
field_entry grid cell fields f l = get_or_list_of (λ k. get_or grid (cell * fields + k) (pos 0)) fields f (pos 0) l

pub field_past : (grid : List ℤ) (cell fields f : ℕ) → fields ≤ f → value (pos 0) ≡ value (entry (cell_of fields grid cell) f)
unfolding cell_of
field_past grid cell fields f l =
    ap value (sym (get_or-eq_default (cell_of fields grid cell) (pos 0) (omega (arith, length_list_of (λ k. get_or grid (cell * fields + k) (pos 0)) fields))))

-- ---- elements

module _ (t : Table) (vs : List ℤ) (at : ℕ) {k x : ℕ} (ek : k ≡ t.kind at) (ex : x ≡ t.word3 at) where
  pub element_moving : {w : ℕ} {v : Value} → k ≡ 1 → w ≡ t.word2 at → w ≡ 5 → v ≡ value (entry vs x) → v ≡ value (offset vs (index_in t at))
  unfolding index_in
  element_moving e ew f q = q ∙ ap (λ (i : ℕ). value (entry vs i)) ex ∙ sym (simp (eq-eqb _ _ (sym ek ∙ e), eq-eqb _ _ (sym ew ∙ f)))

  pub element_named : {w : ℕ} {v : Value} → w ≡ t.word2 at → (w ≡ 5 → ⊥) → v ≡ value (decode_of x) → v ≡ value (offset vs (index_in t at))
  unfolding index_in
  element_named ew f q = q ∙ ap (λ (i : ℕ). value (decode_of i)) ex ∙ go (eqb (t.kind at) 1) (ne_eqb _ _ (λ u. f (ew ∙ u)))
    where
      go : (b : Bool) → eqb (t.word2 at) 5 ≡ false → value (decode_of (t.word3 at)) ≡ value (offset vs (if b && eqb (t.word2 at) 5 then moving (t.place at) (t.word3 at) else fixed (t.place at) (decode_of (t.word3 at))))
      go true h = simp h
      go false h = refl

  pub element_fixed : {v : Value} → (k ≡ 1 → ⊥) → v ≡ value (decode_of x) → v ≡ value (offset vs (index_in t at))
  unfolding index_in
  element_fixed f q = q ∙ ap (λ (i : ℕ). value (decode_of i)) ex ∙ sym (simp (ne_eqb _ _ (λ u. f (ek ∙ u))))

module _ (t : Table) (at : ℕ) {k : ℕ} {b : Bool} (ek : k ≡ t.kind at) (eb : b ≡ is_sign_kind k) where
  pub after_sign : b ≡ true → (at + 3 ≡ next_index t at) × (at + 3 ≤ at + 3)
  unfolding next_index
  after_sign h = (sym (simp (← ek, ← eb, h)), omega arith)

  pub after_other : b ≡ false → (at + 2 ≡ next_index t at) × (at + 2 ≤ at + 3)
  unfolding next_index
  after_other h = (sym (simp (← ek, ← eb, h)), omega arith)

-- ---- the number of a neighbour, one dimension after the other

some_left : (ns is : List ℕ) → Inside ns is → (k : ℕ) → 0 < product (drop k ns)
some_left [] [] h zero = omega arith
some_left [] [] h (suc k) = omega arith
some_left (n ∷ ns) (i ∷ is) h zero = product_pos (n ∷ ns) (inside_positive (n ∷ ns) (i ∷ is) h)
  where
    inside_positive : (ns is : List ℕ) → Inside ns is → Positive ns
    inside_positive [] [] h = tt
    inside_positive (n ∷ ns) (i ∷ is) h = (omega (arith, h.0), inside_positive ns is h.1)
    inside_positive [] (i ∷ is) h = elim h [ ]
    inside_positive (n ∷ ns) [] h = elim h [ ]
some_left (n ∷ ns) (i ∷ is) h (suc k) = some_left ns is h.1 k
some_left [] (i ∷ is) h k = elim h [ ]
some_left (n ∷ ns) [] h k = elim h [ ]

offsets_alike : (ns : List ℕ) (vs : List ℤ) (is : List Index) → Alike ns (offsets (length ns) vs is)
unfolding offsets
offsets_alike [] vs is = tt
offsets_alike (n ∷ ns) vs [] = offsets_alike ns vs []
offsets_alike (n ∷ ns) vs (i ∷ is) = offsets_alike ns vs is

module _ (t : Table) (vs : List ℤ) (ns is : List ℕ) where
  -- what is left of the number, from a dimension and an element on
  abbrev pub left_of : ℕ → ℕ → ℕ
  left_of k here = cell_number (drop k ns) (shift (drop k ns) (drop k is) (offsets (length ns - k) vs (indices_in t (length ns - k) here)))

  abbrev pub total : ℕ → ℕ
  total at = cell_number ns (shift ns is (offsets (length ns) vs (indices_in t (length ns) at)))

  -- the first k dimensions are done
  pub record Steps (at number here k : ℕ) : Type 0 where
    pub turn : k ≤ length ns
    pub near : here ≤ at + 3 * k
    pub says : total at ≡ number * product (drop k ns) + left_of k here

  pub steps_start : (at : ℕ) → Steps at 0 at 0
  steps_start at =
      let z : length ns ≡ length ns - 0 = omega arith in
      let e : total at ≡ left_of 0 at = ap (λ (m : ℕ). cell_number ns (shift ns is (offsets m vs (indices_in t m at)))) z in
      record { turn = omega arith; near = omega arith; says = omega arith }

  module _ (inside : Inside ns is) where
    pub total_small : (at : ℕ) → total at < product ns
    total_small at = number_lt ns _ (shift_inside ns is _ inside (offsets_alike ns vs (indices_in t (length ns) at)))

    module _ (at number here k : ℕ) (so : Steps at number here k) (l : k < length ns) (d : Value) (ed : d ≡ value (offset vs (index_in t here)))
        (to : ℕ) (et : to ≡ wrap_of (get_or is k 0) d.n (get_or ns k 0)) where
      next_says : total at ≡ (number * get_or ns k 0 + to) * product (drop (suc k) ns) + left_of (suc k) (next_index t here)
      unfolding offsets indices_in
      next_says =
          let a : drop k ns ≡ get_or ns k 0 ∷ drop (suc k) ns = drop-cons ns k 0 l in
          let b : drop k is ≡ get_or is k 0 ∷ drop (suc k) is = drop-cons is k 0 (omega (arith, inside_length ns is inside)) in
          let m : length ns - k ≡ suc (length ns - suc k) = omega arith in
          let w : to ≡ wrap_of (get_or is k 0) (offset vs (index_in t here)) (get_or ns k 0) = et ∙ ap (λ (z : Value). wrap_of (get_or is k 0) z.n (get_or ns k 0)) ed in
          let x : left_of k here ≡ to * product (drop (suc k) ns) + left_of (suc k) (next_index t here) =
          simp (a, b, m, w)
          in
          let p : product (drop k ns) ≡ get_or ns k 0 * product (drop (suc k) ns) = ap product a in
          so.says ∙ ap₂ (λ (y z : ℕ). number * y + z) p x ∙ omega arith

      pub number_small : number * get_or ns k 0 + to < product ns
      number_small =
          let q = next_says in
          let s = total_small at in
          let p = some_left ns is inside (suc k) in
          omega (arith, mul-le-mul_left (number * get_or ns k 0 + to) p)

      pub steps_more : (there : ℕ) → (there ≡ next_index t here) × (there ≤ here + 3) → Steps at (number * get_or ns k 0 + to) there (k + 1)
      steps_more there e =
          let c : k + 1 ≡ suc k = omega arith in
          let f = so.near in
          let g = e.1 in
          record {
            turn = omega arith;
            near = omega arith;
            says = rw (c, e.0) next_says;
          }

    pub steps_done : (at number here k : ℕ) → Steps at number here k → length ns ≤ k → number ≡ cell_number ns (shift ns is (offsets (length ns) vs (indices_in t (length ns) at)))
    unfolding offsets indices_in
    steps_done at number here k so l =
        let e : drop k ns ≡ [] = drop_of_length-le ns l in
        sym (so.says ∙ simp e (omega arith))

pub ruleset NeighbourWays = (reduced_below, reduced_once, front_past, field_past, element_moving, element_named, element_fixed, after_sign, after_other)
