-- What the public call promises.
use Rattle.std.specs.Prelude.{◌≡◌, List, ℕ, ℤ, Result, Ok, Err}
use Rattle.api_comparison.specs.declared.Incomparable.{Incomparable}
use Rattle.api_comparison.specs.Differences.{Comparison, compared, compared_room}

-- the numbers of an answer
abbrev pub comparison_told : Result ℕ Incomparable → Comparison
comparison_told (Ok total) = record { number = 0; total = total }
comparison_told (Err e) = record { number = 21; total = 0 }

-- what `compare` promises
pub record Compares (left right : List ℤ) (k : ℕ) (room : List ℤ) (r : Result ℕ Incomparable) (room' : List ℤ) : Type 0 where
  pub answer : comparison_told r ≡ compared left right k room
  pub room_is : room' ≡ compared_room left right k room
