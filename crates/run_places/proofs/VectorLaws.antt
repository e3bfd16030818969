-- The laws of the index vectors that one relative index can take.
use Prim.Native.Nat.{ℕ, suc, ◌+◌, ◌-◌, ◌*◌, ◌<◌, ◌≤◌, min}
use native.Mathlib.Nat.{not-suc-le-zero}
use native.Mathlib.Decide.{dec_le}
use native.Mathlib.Omega.{arith}
use mathlib.Core.Path.{◌≡◌, refl, sym, ap, ap₂, ◌∙◌}
use mathlib.Core.Logic.{◌⊎◌, inl, inr}
use mathlib.Core.List.{List, [], ◌∷◌}
use mathlib.Core.Option.{some}
use lib.IntN.{ℤ, pos}
use lib.ListN.{length, get_or, set, length-set}
use lib.Seq.{get_or-set_same, get_or-set_other, ext_get_or}
use borrow.Author.Tests.{lt-ltb, le-ltb}
use Rattle.value.specs.Worked.{decode_of}
use Rattle.automaton.specs.Listed.{list_of}
use Rattle.automaton.specs.Promises.ListedLaws.{length_list_of, get_or_list_of, list_of_ext, last_or_below}
use Rattle.program.specs.Syntax.{Range, Index}
use Rattle.program.specs.declared.Rule.{Rule}
use Rattle.cell_meaning.specs.Evaluation.{offset, offsets}
use Rattle.cell_meaning.specs.Promises.Stands.{rule_table, index_in, next_index, indices_in}
use Rattle.cell_meaning.specs.Links.{Table}
use Rattle.cell_meaning.specs.Places.{used_ranges, choice_count, choice_at, vectors_of}
use Rattle.run_meaning.specs.declared.Bounds.{Bounds}
use Rattle.run_meaning.proofs.Theorems.Covering.{offsets_length}
use Rattle.run_meaning.specs.Promises.Fitting.{place_at, place_list}
use Rattle.run_places.specs.declared.loops.Loops.{Loops}
use Rattle.run_places.specs.Promises.Vectors.{vector_values, open_loops, Vectors, index_places, relative_at, IndexReach}

-- ---- one place, word by word

-- the first k words of a place stand for given numbers
pub record Putting (place : List ℤ) (row : List ℕ) (k : ℕ) : Type 0 where
  pub len : length row ≡ 3
  pub each : (m : ℕ) → m < k → decode_of (get_or row m 0) ≡ get_or place m (pos 0)

module _ (place : List ℤ) where
  pub putting_start : (row : List ℕ) → length row ≡ 3 → Putting place row 0
  putting_start row e = record { len = e; each = λ m l. absurd (not-suc-le-zero l) }

  pub putting_more : (row : List ℕ) (k v : ℕ) → Putting place row k → k < 3 → decode_of v ≡ get_or place k (pos 0) → Putting place (set row k v) (k + 1)
  putting_more row k v s l ev = record { len = length-set row k v ∙ s.len; each = λ m h. at m (last_or_below (let w : m < suc k = omega arith in w)) }
    where
      at : (m : ℕ) → (m ≡ k) ⊎ (m < k) → decode_of (get_or (set row k v) m 0) ≡ get_or place m (pos 0)
      at m (inl q) = rw q (ap decode_of (get_or-set_same row k v 0 (omega (arith, s.len))) ∙ ev)
      at m (inr q) = ap decode_of (get_or-set_other row k m v 0 (λ p. absurd (let w = p in omega arith))) ∙ s.each m q

  pub putting_done : (dims : ℕ) (row : List ℕ) (k : ℕ) → length place ≡ dims → Putting place row k → dims ≤ k → vector_values row dims ≡ place
  putting_done dims row k size s l =
      ext_get_or (pos 0) (vector_values row dims) place (length_list_of (λ d. decode_of (get_or row d 0)) dims ∙ sym size)
      (λ m h.
      let n : m < dims = omega (arith, h, length_list_of (λ d. decode_of (get_or row d 0)) dims) in
      get_or_list_of (λ d. decode_of (get_or row d 0)) dims m (pos 0) n ∙ s.each m (omega arith))

-- ---- the vector of one choice

module _ (t : Table) (dims at : ℕ) (vs : List ℤ) where
  -- the vector
  abbrev pub vector : List ℤ
  vector = offsets dims vs (indices_in t dims at)

  pub vector_length : length vector ≡ dims
  vector_length = offsets_length dims vs (indices_in t dims at)

  -- its elements from the k-th on stand from a position on
  pub record Reading (here k : ℕ) : Type 0 where
    pub near : here ≤ at + 3 * k
    pub rest : (m : ℕ) → get_or vector (k + m) (pos 0) ≡ get_or (offsets (dims - k) vs (indices_in t (dims - k) here)) m (pos 0)

  pub reading_start : Reading at 0
  reading_start =
      let d : dims ≡ dims - 0 = omega arith in
      record {
        near = omega arith;
        rest = λ m.
            let z : 0 + m ≡ m = omega arith in
            ap (λ (i : ℕ). get_or vector i (pos 0)) z ∙ ap (λ (n : ℕ). get_or (offsets n vs (indices_in t n at)) m (pos 0)) d;
      }

  module _ {here k : ℕ} (so : Reading here k) (l : k < dims) where
    abbrev behind : List ℤ
    behind = offsets (dims - suc k) vs (indices_in t (dims - suc k) (next_index t here))

    here_is : (m : ℕ) → get_or vector (k + m) (pos 0) ≡ get_or (offset vs (index_in t here) ∷ behind) m (pos 0)
    unfolding offsets indices_in
    here_is m =
        let d : dims - k ≡ suc (dims - suc k) = omega arith in
        so.rest m ∙ ap (λ (n : ℕ). get_or (offsets n vs (indices_in t n here)) m (pos 0)) d

    pub reading_word : (v : ℕ) → decode_of v ≡ offset vs (index_in t here) → decode_of v ≡ get_or vector k (pos 0)
    reading_word v e = let z : k ≡ k + 0 = omega arith in e ∙ sym (ap (λ (i : ℕ). get_or vector i (pos 0)) z ∙ here_is 0)

    pub reading_more : {there : ℕ} → (there ≡ next_index t here) × (there ≤ here + 3) → Reading there (k + 1)
    reading_more {there} e =
        let n = so.near in
        let w = e.1 in
        let f : suc k ≡ k + 1 = omega arith in
        record {
          near = omega arith;
          rest = λ m.
              let g : k + 1 + m ≡ k + suc m = omega arith in
              ap (λ (i : ℕ). get_or vector i (pos 0)) g ∙ here_is (suc m)
              ∙ ap₂ (λ (i p : ℕ). get_or (offsets (dims - i) vs (indices_in t (dims - i) p)) m (pos 0)) f (sym e.0);
        }

-- ---- all choices

-- the first e places are set
pub record Filling (dims : ℕ) (place : ℕ → List ℤ) (list : List (List ℕ)) (e : ℕ) : Type 0 where
  pub len : length list ≡ 256
  pub each : (k : ℕ) → k < e → place_at list dims k ≡ place k

module _ (dims : ℕ) (place : ℕ → List ℤ) where
  pub filling_start : (list : List (List ℕ)) → length list ≡ 256 → Filling dims place list 0
  filling_start list q = record { len = q; each = λ k l. absurd (not-suc-le-zero l) }

  pub filling_more : (list : List (List ℕ)) (e : ℕ) (row : List ℕ) → e < 256 → Filling dims place list e → vector_values row dims ≡ place e → Filling dims place (set list e row) (e + 1)
  filling_more list e row few s q = record { len = length-set list e row ∙ s.len; each = λ k l. at k (last_or_below (let h : k < suc e = omega arith in h)) }
    where
      at : (k : ℕ) → (k ≡ e) ⊎ (k < e) → place_at (set list e row) dims k ≡ place k
      at k (inl r) = rw r (ap (λ (w : List ℕ). vector_values w dims) (get_or-set_same list e row [] (omega (arith, s.len))) ∙ q)
      at k (inr r) = ap (λ (w : List ℕ). vector_values w dims) (get_or-set_other list e k row [] (λ p. absurd (let w = p in omega arith))) ∙ s.each k r

  pub filling_done : (list : List (List ℕ)) (e count : ℕ) → Filling dims place list e → count ≤ e → Vectors dims count place list
  filling_done list e count s l = record { each = λ few k h. s.each k (omega arith) }

  pub filling_none : (list : List (List ℕ)) (count : ℕ) → 256 < count → Vectors dims count place list
  filling_none list count l = record { each = λ few. absurd (omega arith) }

-- ---- the reach of one relative index

module _ (words : List ℕ) (rule : Rule) (loops : List Range) (at : ℕ) where
  -- its elements
  abbrev is : List Index
  is = indices_in (rule_table words rule) rule.dims at

  abbrev rs : List Range
  rs = used_ranges loops is

  module _ (bounds : Bounds) (used : Loops) (eu : open_loops used ≡ rs) {count : ℕ} (ec : count ≡ min 257 (choice_count (open_loops used))) where
    pub reach_is : {list : List (List ℕ)} → Vectors rule.dims count (λ e. offsets rule.dims (choice_at (open_loops used) e) is) list
        → IndexReach words rule loops at bounds (record { bounds = bounds; count = count; places = list })
    unfolding index_places vectors_of
    reach_is {list} s = record { bounded = refl; places = by (dec_le count 256) }
      where
        by : Dec (count ≤ 256) → place_list list rule.dims count ≡ index_places rule.dims (relative_at words rule loops at)
        by (yes l) =
            let many : count ≡ choice_count rs = (let m : count ≡ choice_count (open_loops used) = omega (arith, ec) in m) ∙ ap choice_count eu in
            rw (le-ltb 256 count l, le-ltb 256 (choice_count rs) (omega (arith, many)))
            (ap some (list_of_ext _ _ count (λ e k. s.each l e k ∙ ap (λ (xs : List Range). offsets rule.dims (choice_at xs e) is) eu)
            ∙ ap (list_of (λ e. offsets rule.dims (choice_at rs e) is)) many))
        by (no l) =
            let m : 256 < choice_count rs = omega (arith, ec, ap choice_count eu) in
            rw (lt-ltb 256 count (omega arith), lt-ltb 256 (choice_count rs) m)
