-- What the functions that read an index promise.
use Rattle.std.specs.Prelude.{◌≡◌, Bool, true, false, List, ℕ, ◌≤◌, ◌<◌, length, Option as Optional, Some, None}
use Rattle.std.proofs.Math.Option.{Option, some, none}
use Rattle.value.specs.Limits.{most_dims, most_along}
use Rattle.run_meaning.specs.Admission.{all_between}
use Rattle.token.specs.Promises.Promises.{too_large}
use Rattle.list_meaning.specs.Text.{Piece, literal, sign, with_piece, pieces}
use Rattle.list_meaning.specs.Promises.Walking.{Placed, wrong, placed, place_from}
use Rattle.list_reader.specs.Promises.Promises.{IsEnd}
use Rattle.list_reader.specs.declared.points.Coordinate.{Coordinate}
use Rattle.list_reader.specs.declared.points.Point.{Point}

-- the sizes of a grid, as 20 leaves them
pub record Dimensions (sizes : List ℕ) : Type 0 where
  pub few : length sizes ≤ most_dims
  pub each : all_between 1 most_along sizes ≡ true

-- the walk over an index, also where the tokens of the line cannot be read
abbrev pub point_in : List ℕ → Bool → ℕ → Option (List Piece) → Placed
point_in sizes outside cell none = wrong
point_in sizes outside cell (some ps) = place_from sizes outside cell ps

-- a place that was read, with the tokens behind it
abbrev pub point_with : Bool → ℕ → Option (List Piece) → Placed
point_with outside cell none = wrong
point_with outside cell (some ps) = placed outside cell ps

-- ---- one coordinate

-- a literal and a byte lead the tokens of a line; or no index is read there
abbrev pub Coordinates : List ℕ → Optional Coordinate → Type 0
Coordinates line None = (sizes : List ℕ) (outside : Bool) (cell : ℕ) → point_in sizes outside cell (pieces 0 line) ≡ wrong
Coordinates line (Some c) = pieces 0 line ≡ with_piece (literal c.index) (with_piece (sign c.sign) (pieces 0 c.rest.now))

abbrev pub CoordinateOnward : List ℕ → Optional Coordinate → Type 0
CoordinateOnward line None = Unit {0}
CoordinateOnward line (Some c) = (length c.rest.now < length line) × (c.index < too_large) × IsEnd line c.rest.now

pub record ReadsCoordinate (line : List ℕ) (r : Optional Coordinate) : Type 0 where
  pub is : Coordinates line r
  pub onward : CoordinateOnward line r

-- ---- the index

-- what the walk over an index gives
abbrev pub point_of : Optional Point → Placed
point_of None = wrong
point_of (Some p) = point_with p.outside p.cell (pieces 0 p.rest.now)

abbrev pub PointOnward : List ℕ → Optional Point → Type 0
PointOnward line None = Unit {0}
PointOnward line (Some p) = (length p.rest.now ≤ length line) × (p.cell ≤ 72057594037927936) × IsEnd line p.rest.now

-- r is the index at the head of a line
pub record ReadsPoint (sizes line : List ℕ) (r : Optional Point) : Type 0 where
  pub is : point_in sizes false 0 (pieces 0 line) ≡ point_of r
  pub onward : PointOnward line r
