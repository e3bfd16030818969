-- The laws of cells without a mark.
use Prim.Native.Nat.{ℕ, zero, suc, ◌+◌, ◌-◌, ◌<◌, ◌≤◌}
use native.Mathlib.Nat.{add-zero}
use native.Mathlib.Omega.{arith}
use mathlib.Core.Path.{◌≡◌, refl, ap, ◌∙◌}
use mathlib.Core.Bool.{Bool, true, false}
use mathlib.Core.List.{List}
use lib.ListN.{length, get_or}
use lib.Dec.{ltb}
use borrow.Author.Tests.{ltb-true, ltb-false}
use Rattle.run_marked_cells.specs.Promises.Clear.{eight_sum, Clear}

-- where eight marks sum to 0, each is 0
each_clear : (marks : List ℕ) (at : ℕ) → eight_sum marks at ≡ 0 → (k : ℕ) → k < 8 → get_or marks (at + k) 0 ≡ 0
each_clear marks at e zero l = ap (λ (x : ℕ). get_or marks x 0) (add-zero at) ∙ omega arith
each_clear marks at e (suc zero) l = omega arith
each_clear marks at e (suc (suc zero)) l = omega arith
each_clear marks at e (suc (suc (suc zero))) l = omega arith
each_clear marks at e (suc (suc (suc (suc zero)))) l = omega arith
each_clear marks at e (suc (suc (suc (suc (suc zero))))) l = omega arith
each_clear marks at e (suc (suc (suc (suc (suc (suc zero)))))) l = omega arith
each_clear marks at e (suc (suc (suc (suc (suc (suc (suc zero))))))) l = omega arith
each_clear marks at e (suc (suc (suc (suc (suc (suc (suc (suc k)))))))) l = absurd (omega arith)

pub clear_start : (marks : List ℕ) (from : ℕ) → from ≤ length marks → Clear marks from from
clear_start marks from l = record { onward = omega arith; within = l; clear = λ c a b. absurd (omega arith) }

-- eight cells more
pub clear_more : (marks : List ℕ) (from at : ℕ) {sum : ℕ} → Clear marks from at → at + 8 ≤ length marks → sum ≡ eight_sum marks at → sum ≡ 0 → Clear marks from (at + 8)
clear_more marks from at {sum} h l es ez = let o = h.onward in record { onward = omega arith; within = l; clear = λ c a b. on c a b (ltb c at) refl }
  where
    on : (c : ℕ) → from ≤ c → c < at + 8 → (t : Bool) → ltb c at ≡ t → get_or marks c 0 ≡ 0
    on c a b true q = h.clear c a (ltb-true c at q)
    on c a b false q =
        let n = ltb-false c at q in
        let s : c ≡ at + (c - at) = omega arith in
        ap (λ (x : ℕ). get_or marks x 0) s ∙ each_clear marks at (omega arith) (c - at) (omega arith)
