-- The numbers of refusals, and their places.
use mathlib.Core.Path.{◌≡◌}
use mathlib.Core.Bool.{Bool, true, ◌&&◌, ◌||◌}
use mathlib.Core.List.{List}
use Prim.Native.Nat.{ℕ, ◌≤◌}
use lib.ListN.{length}
use lib.Dec.{leb}

-- the numbers that refuse a source once its tokens are looked at: 3 to 9, 12 to 15 and 40 to 45
abbrev pub is_refusal : ℕ → Bool
is_refusal n = leb 3 n && leb n 9 || leb 12 n && leb n 15 || leb 40 n && leb n 45

-- a refusal: its number is one of these, and its place is that of a byte of the source or the source's end
pub record Refuses (source : List ℕ) (n p : ℕ) : Type 0 where
  pub number : is_refusal n ≡ true
  pub place : p ≤ length source
