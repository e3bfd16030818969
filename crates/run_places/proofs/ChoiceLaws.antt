-- The laws of the choices of values for the open loops.
use Prim.Native.Nat.{ℕ, zero, suc, ◌*◌, ◌/◌, ◌%◌, ◌<◌, ◌≤◌, min}
use native.Mathlib.Nat.{mod-lt, min-eq_right}
use native.Mathlib.Decide.{dec_le}
use native.Mathlib.Omega.{arith}
use mathlib.Core.Path.{◌≡◌, refl, sym, ap, ap₂, ◌∙◌, subst}
use mathlib.Core.Bool.{true}
use mathlib.Core.List.{List, [], ◌∷◌, map}
use lib.IntN.{pos, ◌+ℤ◌}
use lib.Signed.{mag}
use lib.ListN.{length, get_or, set, length-set, length-map}
use lib.Seq.{get_or-set_same, get_or-set_other, ext_get_or}
use borrow.Author.Tests.{lt-ltb, le-ltb}
use Rattle.value.specs.declared.Value.{Value}
use Rattle.value.specs.Number.{in_range}
use Rattle.value.specs.Worked.{value, encode_of, decode_of, span_of}
use Rattle.value.proofs.Theorems.Laws.{decode_encode, offset_in_range}
use Rattle.automaton.specs.Promises.ListedLaws.{length_list_of, get_or_list_of}
use Rattle.automaton.specs.Shape.{coordinates}
use Rattle.automaton.specs.Promises.ShapeLaws.{Positive}
use Rattle.program.specs.Syntax.{Range, no_range}
use Rattle.cell_meaning.specs.Places.{span, values_at, choice_at, choice_count}
use Rattle.run_meaning.proofs.Theorems.PlacesLaws.{positive_of}
use Rattle.run_meaning.proofs.Theorems.Cutting.{Counting, counting_start, counting_more}
use Rattle.run_meaning.proofs.Theorems.Digits.{size_positive, size_small, coordinates_length, Digits, digits_start, digits_more, digits_done}
use Rattle.run_places.specs.Promises.Vectors.{vector_values, ends, loops_of, Spanned}

-- ---- how many choices there are

module _ (lows highs : List ℕ) (depth : ℕ) where
  abbrev rs : List Range
  rs = loops_of lows highs depth

  deep : length rs ≡ depth
  deep = length_list_of (λ k. ends (get_or lows k 0) (get_or highs k 0)) depth

  range_at : (k : ℕ) → k < depth → get_or rs k no_range ≡ ends (get_or lows k 0) (get_or highs k 0)
  range_at k l = get_or_list_of (λ k. ends (get_or lows k 0) (get_or highs k 0)) depth k no_range l

  spans_length : length (map span rs) ≡ depth
  spans_length = length-map rs span ∙ deep

  span_at : (k : ℕ) → k < depth → get_or (map span rs) k 0 ≡ span_of (decode_of (get_or lows k 0)) (decode_of (get_or highs k 0))
  span_at k l = go rs k (omega (arith, deep)) ∙ ap span (range_at k l)
    where
      go : (xs : List Range) (k : ℕ) → k < length xs → get_or (map span xs) k 0 ≡ span (get_or xs k no_range)
      go [] k l = absurd (omega arith)
      go (x ∷ xs) zero l = refl
      go (x ∷ xs) (suc k) l = go xs k (omega arith)

  pub choices_start : Counting (map span rs) 1 depth
  choices_start = counting_start (map span rs) depth (sym spans_length)

  pub choices_more : (total d j : ℕ) {n m : ℕ} → Counting (map span rs) total d → d ≡ suc j → n ≡ min 257 (span_of (decode_of (get_or lows j 0)) (decode_of (get_or highs j 0)))
      → m ≡ min 257 (n * total) → Counting (map span rs) m j
  choices_more total d j c e en em = counting_more (map span rs) total d j c e (en ∙ ap (min 257) (sym (span_at j (omega (arith, c.low, spans_length))))) em

  pub choices_low : (total d : ℕ) → Counting (map span rs) total d → d ≤ depth
  choices_low total d c = omega (arith, c.low, spans_length)

  -- ---- the e-th choice

  -- the word stands for the value with a number in its range
  abbrev ValueAt : List ℕ → ℕ → ℕ → Type 0
  ValueAt r i x = decode_of (get_or r i 0) ≡ decode_of (get_or lows i 0) +ℤ pos x

  pub record Choosing (e : ℕ) (r : List ℕ) (rest d : ℕ) : Type 0 where
    pub len : length r ≡ 16
    pub digits : Digits (map span rs) e (ValueAt r) rest d

  pub choosing_start : (e : ℕ) (r : List ℕ) → length r ≡ 16 → Choosing e r e depth
  choosing_start e r q = record { len = q; digits = subst (Digits (map span rs) e (ValueAt r) e) spans_length (digits_start (map span rs) e (ValueAt r)) }

  module _ (e : ℕ) (less : e < choice_count rs) (few : choice_count rs ≤ 256) where
    positive : Positive (map span rs)
    positive = positive_of (map span rs) e less

    -- the span is not cut
    module _ (d j : ℕ) {n : ℕ} (below : d ≤ depth) (ed : d ≡ suc j) (en : n ≡ min 257 (span_of (decode_of (get_or lows j 0)) (decode_of (get_or highs j 0)))) where
      pub span_is : n ≡ get_or (map span rs) j 0
      span_is =
          let l : j < depth = omega arith in
          let s = size_small (map span rs) positive j (omega (arith, spans_length)) in
          let q = span_at j l in
          en ∙ min-eq_right (omega (arith, s, q)) ∙ sym q

      pub span_some : 0 < n
      span_some = let s = size_small_pos in omega (arith, span_is)
        where
          size_small_pos : 0 < get_or (map span rs) j 0
          size_small_pos = size_positive (map span rs) positive j (omega (arith, spans_length))

    pub choosing_more : (r : List ℕ) (rest d j v : ℕ) {n : ℕ} → d ≤ 16 → d ≤ depth → Choosing e r rest d → d ≡ suc j
        → n ≡ min 257 (span_of (decode_of (get_or lows j 0)) (decode_of (get_or highs j 0))) → decode_of v ≡ decode_of (get_or lows j 0) +ℤ pos (rest % n)
        → Choosing e (set r j v) (rest / n) j
    choosing_more r rest d j v {n} few16 below s ed en ev =
        let is = span_is d j below ed en in
        record {
          len = length-set r j v ∙ s.len;
          digits =
              subst (λ (m : ℕ). Digits (map span rs) e (ValueAt (set r j v)) (rest / m) j) (sym is)
              (digits_more (map span rs) e (ValueAt r) (ValueAt (set r j v)) rest d j positive s.digits ed
              (ap decode_of (get_or-set_same r j v 0 (omega (arith, s.len))) ∙ ev ∙ ap (λ (m : ℕ). decode_of (get_or lows j 0) +ℤ pos (rest % m)) is)
              (λ i x l p. ap decode_of (get_or-set_other r j i v 0 (λ q. absurd (let w = q in omega arith))) ∙ p));
        }

    pub choosing_done : (r : List ℕ) (rest d : ℕ) → Choosing e r rest d → d ≤ 0 → vector_values r depth ≡ choice_at rs e
    choosing_done r rest d s z =
        let ks = coordinates (map span rs) e in
        let kl : length ks ≡ length rs = coordinates_length (map span rs) e ∙ length-map rs span in
        ext_get_or (pos 0) (vector_values r depth) (choice_at rs e) (length_list_of _ depth ∙ sym (values_length rs ks kl ∙ deep))
        (λ k l.
        let m : k < depth = omega (arith, l, length_list_of (λ d. decode_of (get_or r d 0)) depth) in
        get_or_list_of (λ d. decode_of (get_or r d 0)) depth k (pos 0) m
        ∙ digits_done (map span rs) e (ValueAt r) rest d less s.digits z k (omega (arith, spans_length))
        ∙ ap (λ (x : Range). x.low +ℤ pos (get_or ks k 0)) (sym (range_at k m))
        ∙ sym (values_at_at rs ks kl k (omega (arith, deep))))
      where
        values_length : (xs : List Range) (ks : List ℕ) → length ks ≡ length xs → length (values_at xs ks) ≡ length xs
        values_length [] ks e = refl
        values_length (x ∷ xs) [] e = absurd (omega arith)
        values_length (x ∷ xs) (k ∷ ks) e = ap suc (values_length xs ks (omega arith))

        values_at_at : (xs : List Range) (ks : List ℕ) → length ks ≡ length xs → (k : ℕ) → k < length xs
            → get_or (values_at xs ks) k (pos 0) ≡ (get_or xs k no_range).low +ℤ pos (get_or ks k 0)
        values_at_at [] ks e k l = absurd (omega arith)
        values_at_at (x ∷ xs) [] e k l = absurd (omega arith)
        values_at_at (x ∷ xs) (j ∷ ks) e zero l = refl
        values_at_at (x ∷ xs) (j ∷ ks) e (suc k) l = values_at_at xs ks (omega arith) k (omega arith)

-- ---- the word of a value

decode_mag : (w : ℕ) → w < 4294967296 → mag (decode_of w) < 2147483648
decode_mag w l = go (dec_le 2147483648 w)
  where
    go : Dec (2147483648 ≤ w) → mag (decode_of w) < 2147483648
    go (yes m) = simp (le-ltb w 2147483648 m, lt-ltb w 4294967296 l) (omega arith)
    go (no m) = simp (lt-ltb w 2147483648 (omega arith)) (omega arith)

pub above_ready : (low high rest : ℕ) {n : ℕ} → 0 < n → Spanned low high n → (rest % n < 257) × (in_range (decode_of low +ℤ pos (rest % n)) ≡ true)
above_ready low high rest {n} s e = let m = mod-lt rest s in (omega (arith, m, e.is), e.inside (rest % n) m)

pub above_is : (low k : ℕ) {v w : Value} {r : ℕ} → in_range (decode_of low +ℤ pos k) ≡ true → v ≡ value (decode_of low) → w ≡ value (v.n +ℤ pos k) → r ≡ encode_of w.n
    → decode_of r ≡ decode_of low +ℤ pos k
above_is low k {v} {w} {r} i ev ew er =
    let z = ap (λ (x : Value). x.n) ew ∙ ap (λ (x : Value). x.n +ℤ pos k) ev in
    ap decode_of (er ∙ ap encode_of z) ∙ decode_encode (decode_of low +ℤ pos k) i

-- ---- a span

module _ (low high : ℕ) {v w : Value} {n : ℕ} (ev : v ≡ value (decode_of low)) (ew : w ≡ value (decode_of high)) (en : n ≡ span_of v.n w.n) where
  is : n ≡ span_of (decode_of low) (decode_of high)
  is = en ∙ ap₂ (λ (x y : Value). span_of x.n y.n) ev ew

  module _ (l : low < 4294967296) (h : high < 4294967296) where
    in_span : (k : ℕ) → k < n → in_range (decode_of low +ℤ pos k) ≡ true
    in_span k m = offset_in_range (decode_of low) (decode_of high) k (decode_mag low l) (decode_mag high h) (omega (arith, is))

    pub span_many : 256 < n → Spanned low high 257
    span_many m = record { is = omega (arith, is); inside = λ k q. in_span k (omega arith) }

    pub span_few : n ≤ 256 → Spanned low high n
    span_few m = record { is = omega (arith, is); inside = in_span }

pub above_in : (low k : ℕ) {v : Value} → in_range (decode_of low +ℤ pos k) ≡ true → v ≡ value (decode_of low) → in_range (v.n +ℤ pos k) ≡ true
above_in low k i ev = ap (λ (x : Value). in_range (x.n +ℤ pos k)) ev ∙ i
