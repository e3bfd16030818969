-- Passing over cells without a mark, 64 at a time.
use Prim.Native.Nat.{ℕ, ◌+◌, ◌-◌, ◌*◌, ◌≤◌, ◌<◌}
use native.Mathlib.Numerals.{add-one}
use native.Mathlib.Omega.{arith}
use mathlib.Core.Path.{◌≡◌, sym, ap, ◌∙◌, subst}
use mathlib.Core.Logic.{◌⊎◌, inl, inr}
use mathlib.Core.Bool.{false}
use mathlib.Core.List.{List}
use lib.ListN.{length, get_or, take, drop}
use lib.Seq.{get_or-take, get_or-drop}
use Rattle.automaton.specs.Promises.ListedLaws.{last_or_below}
use Rattle.automaton.specs.Step.{non_zero, marked}
use Rattle.run_marked_cells.specs.Promises.Marked.{NextMarked}
use Rattle.run_marked_cells.proofs.ScanLaws.{below_or, Scanned}
use Rattle.run_row_counts.specs.Promises.Skipping.{SumOf}

-- none of the first k of these marks is set, if their sum is 0
pub record Summed (marks : List ℕ) (at k sum : ℕ) : Type 0 where
  pub few : sum + 255 * (64 - k) ≤ 255 * 64
  pub none : sum ≡ 0 → (j : ℕ) → j < k → get_or marks (at + j) 0 ≡ 0

pub summed_start : (marks : List ℕ) (at : ℕ) → Summed marks at 0 0
summed_start marks at = record { few = omega arith; none = λ e j l. absurd (omega arith) }

pub summed_more : {marks : List ℕ} {at k sum mark : ℕ} → Summed marks at k sum → k < 64 → mark ≡ get_or (take (at + 64 - at) (drop at marks)) k 0 → mark ≤ 255 → Summed marks at (k + 1) (sum + mark)
summed_more {marks} {at} {k} {sum} {mark} h l is b = record {
  few = let f = h.few in omega arith;
  none = λ e j m. by (let z : sum ≡ 0 = omega arith in h.none z) (sym own ∙ omega (arith, e)) j (last_or_below (subst (λ (x : ℕ). j < x) (add-one k) m));
}
  where
    own : mark ≡ get_or marks (at + k) 0
    own = is ∙ get_or-take (at + 64 - at) (drop at marks) k 0 (omega arith) ∙ get_or-drop at marks k 0

    by : ((j : ℕ) → j < k → get_or marks (at + j) 0 ≡ 0) → get_or marks (at + k) 0 ≡ 0 → (j : ℕ) → (j ≡ k) ⊎ (j < k) → get_or marks (at + j) 0 ≡ 0
    by below here j (inl q) = ap (λ (x : ℕ). get_or marks (at + x) 0) q ∙ here
    by below here j (inr q) = below j q

pub summed_all : {marks : List ℕ} {at k sum : ℕ} → Summed marks at k sum → 64 ≤ k → SumOf marks at sum
summed_all h l = record { none = λ e j m. h.none e j (omega arith) }

-- 64 cells more are passed over
pub scan_far : {marks : List ℕ} {from at sum : ℕ} → Scanned marks from at → at + 64 ≤ length marks → SumOf marks at sum → sum ≡ 0 → Scanned marks from (at + 64)
unfolding marked
scan_far {marks} {from} {at} h l s e = record { onward = let o = h.onward in omega arith; within = l; skipped = λ c a b. by c a b (below_or c at) }
  where
    by : (c : ℕ) → from ≤ c → c < at + 64 → (c < at) ⊎ (at ≤ c) → non_zero (get_or marks c 0) ≡ false
    by c a b (inl q) = h.skipped c a q
    by c a b (inr q) =
        let k : c - at < 64 = omega arith in
        let here : at + (c - at) ≡ c = omega arith in
        ap non_zero (subst (λ (x : ℕ). get_or marks x 0 ≡ 0) here (s.none e (c - at) k))

-- and the next marked cell behind them
pub scan_next : {marks : List ℕ} {from at r : ℕ} → Scanned marks from at → NextMarked marks at r → NextMarked marks from r
scan_next {marks} {from} {at} {r} h n = record {
  onward = let o = h.onward in let p = n.onward in omega arith;
  within = n.within;
  skipped = λ c a b. by c a b (below_or c at);
  found = n.found;
}
  where
    by : (c : ℕ) → from ≤ c → c < r → (c < at) ⊎ (at ≤ c) → marked marks c ≡ false
    by c a b (inl q) = h.skipped c a q
    by c a b (inr q) = n.skipped c q b
