-- What passing over cells without a mark promises.
use Rattle.std.specs.Prelude.{◌≡◌, List, ℕ, ◌+◌, ◌<◌, get_or}

-- `sum_from`: where the sum is 0, none of the 64 cells is marked
pub record SumOf (marks : List ℕ) (at r : ℕ) : Type 0 where
  pub none : r ≡ 0 → (k : ℕ) → k < 64 → get_or marks (at + k) 0 ≡ 0
