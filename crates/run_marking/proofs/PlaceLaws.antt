-- The laws of coordinates, one dimension after the other.
use Prim.Native.Nat.{ℕ, suc, ◌+◌, ◌-◌, ◌%◌, ◌≤◌, ◌<◌, min}
use native.Mathlib.Nat.{not-suc-le-zero}
use native.Mathlib.Omega.{arith}
use mathlib.Core.Path.{◌≡◌, ap, ◌∙◌}
use mathlib.Core.Logic.{◌⊎◌, inl, inr}
use mathlib.Core.List.{List}
use lib.ListN.{length, get_or, set, length-set}
use lib.Seq.{get_or-set_same, get_or-set_other}
use Rattle.automaton.specs.Promises.ListedLaws.{last_or_below}
use Rattle.run_meaning.specs.Promises.Fitting.{no_bound, bound_at, bound_is}
use Rattle.automaton.specs.Shape.{Bound}
use Rattle.run_meaning.specs.declared.Bounds.{Bounds}
use Rattle.run_meaning.proofs.Theorems.Digits.{size_small}
use Rattle.run_marking.specs.Promises.Noting.{opened_from, opened_count, CountsWithin, Prepared, Firsts, NotedCounts}

-- ---- sizes

module _ (ns : List ℕ) (bounds : Bounds) (s : Prepared ns bounds) (k : ℕ) (l : k < length ns) {n : ℕ} (en : n ≡ get_or ns k 0) where
  size_few : n ≤ 1048576
  size_few = omega (arith, size_small ns s.positive k l, s.cells)

  -- a box's bound as the code has it
  pub same_back : (get_or bounds.dims k no_bound).back ≡ (bound_at bounds k).back
  same_back = ap (λ (b : Bound). b.back) (bound_is bounds k (omega (arith, s.dims)))

  pub same_ahead : (get_or bounds.dims k no_bound).ahead ≡ (bound_at bounds k).ahead
  same_ahead = ap (λ (b : Bound). b.ahead) (bound_is bounds k (omega (arith, s.dims)))

  pub clipped_ready : ((get_or bounds.dims k no_bound).back ≤ n) × ((get_or bounds.dims k no_bound).ahead ≤ n) × (n ≤ 1048576)
  clipped_ready = let near = s.near k l in (omega (arith, same_back), omega (arith, same_ahead), size_few)

  pub first_ready : {own : ℕ} → own < get_or ns k 0 → (own < n) × (n - (get_or bounds.dims k no_bound).ahead ≤ n) × (n ≤ 1048576)
  first_ready lo = (omega arith, omega arith, size_few)

-- ---- the counts

-- the first k counts are made
pub record Counting (ns : List ℕ) (bounds : Bounds) (counts : List ℕ) (k : ℕ) : Type 0 where
  pub len : length counts ≡ 3
  pub each : (m : ℕ) → m < k → get_or counts m 0 ≡ opened_count (get_or ns m 0) (bound_at bounds m)

module _ (ns : List ℕ) (bounds : Bounds) where
  pub counting_start : (counts : List ℕ) → length counts ≡ 3 → Counting ns bounds counts 0
  counting_start counts e = record { len = e; each = λ m l. absurd (not-suc-le-zero l) }

  pub counting_more : (counts : List ℕ) (k : ℕ) {n back ahead v : ℕ} → Counting ns bounds counts k → k < 3 → n ≡ get_or ns k 0 → back ≡ (bound_at bounds k).back
      → ahead ≡ (bound_at bounds k).ahead → v ≡ min n (suc (back + ahead)) → Counting ns bounds (set counts k v) (k + 1)
  counting_more counts k {n} {back} {ahead} {v} s l en eb ea ev = record {
    len = length-set counts k v ∙ s.len;
    each = λ m h. at m (last_or_below (let w : m < suc k = omega arith in w));
  }
    where
      value : v ≡ opened_count (get_or ns k 0) (bound_at bounds k)
      value = ev ∙ simp (en, eb, ea)

      at : (m : ℕ) → (m ≡ k) ⊎ (m < k) → get_or (set counts k v) m 0 ≡ opened_count (get_or ns m 0) (bound_at bounds m)
      at m (inl q) = rw q (get_or-set_same counts k v 0 (omega (arith, s.len)) ∙ value)
      at m (inr q) = get_or-set_other counts k m v 0 (λ r. absurd (let w = r in omega arith)) ∙ s.each m q

  pub counting_done : (counts : List ℕ) (k : ℕ) → Counting ns bounds counts k → length ns ≤ k → NotedCounts ns bounds counts
  counting_done counts k s l = record { len = s.len; each = λ m h. s.each m (omega arith) }

-- they are no more than there are
pub counts_fit : {ns : List ℕ} {bounds : Bounds} {counts : List ℕ} → NotedCounts ns bounds counts → CountsWithin ns counts
counts_fit c = record { each = λ k l. omega (arith, c.each k l) }

-- ---- the first coordinates

-- the first k are made
pub record Firsting (ns : List ℕ) (bounds : Bounds) (at firsts : List ℕ) (k : ℕ) : Type 0 where
  pub len : length firsts ≡ 3
  pub each : (m : ℕ) → m < k → get_or firsts m 0 ≡ opened_from (get_or ns m 0) (bound_at bounds m) (get_or at m 0)

module _ (ns : List ℕ) (bounds : Bounds) (at : List ℕ) where
  pub firsting_start : (firsts : List ℕ) → length firsts ≡ 3 → Firsting ns bounds at firsts 0
  firsting_start firsts e = record { len = e; each = λ m l. absurd (not-suc-le-zero l) }

  pub firsting_more : (firsts : List ℕ) (k : ℕ) {n ahead v : ℕ} → Firsting ns bounds at firsts k → k < 3 → n ≡ get_or ns k 0 → ahead ≡ (bound_at bounds k).ahead
      → v ≡ (get_or at k 0 + (n - ahead)) % n → Firsting ns bounds at (set firsts k v) (k + 1)
  firsting_more firsts k {n} {ahead} {v} s l en ea ev = record {
    len = length-set firsts k v ∙ s.len;
    each = λ m h. by m (last_or_below (let w : m < suc k = omega arith in w));
  }
    where
      by : (m : ℕ) → (m ≡ k) ⊎ (m < k) → get_or (set firsts k v) m 0 ≡ opened_from (get_or ns m 0) (bound_at bounds m) (get_or at m 0)
      by m (inl q) = rw q (get_or-set_same firsts k v 0 (omega (arith, s.len)) ∙ ev ∙ simp (en, ea))
      by m (inr q) = get_or-set_other firsts k m v 0 (λ r. absurd (let w = r in omega arith)) ∙ s.each m q

  pub firsting_done : (firsts : List ℕ) (k : ℕ) → Firsting ns bounds at firsts k → length ns ≤ k → Firsts ns bounds at firsts
  firsting_done firsts k s l = record { len = s.len; each = λ m h. s.each m (omega arith) }
