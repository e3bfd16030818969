-- Cells without a mark.
use Rattle.std.specs.Prelude.{◌≡◌, List, ℕ, ◌+◌, ◌<◌, ◌≤◌, length, get_or}

-- the sum of the eight marks from a cell on
abbrev pub eight_sum : List ℕ → ℕ → ℕ
eight_sum marks at =
    get_or marks at 0 + get_or marks (at + 1) 0 + get_or marks (at + 2) 0 + get_or marks (at + 3) 0
    + get_or marks (at + 4) 0
    + get_or marks (at + 5) 0
    + get_or marks (at + 6) 0
    + get_or marks (at + 7) 0

-- no cell from a cell on and before r has a mark
pub record Clear (marks : List ℕ) (from r : ℕ) : Type 0 where
  pub onward : from ≤ r
  pub within : r ≤ length marks
  pub clear : (c : ℕ) → from ≤ c → c < r → get_or marks c 0 ≡ 0
