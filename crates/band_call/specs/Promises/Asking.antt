-- What the functions promise that try whether a band's call is admitted.
use Rattle.std.specs.Prelude.{◌≡◌, Bool, true, false, List, ℕ, ◌<◌, ◌≤◌, length, ℤ, pos}
use Rattle.value.specs.Limits.{most_dims, most_along, most_cells}
use Rattle.automaton.specs.Shape.{product, Bound}
use Rattle.automaton.specs.Bands.{Band}
use Rattle.run_meaning.specs.Admission.{all_between, good_times}
use Rattle.band_call.specs.BandCall.{band_right, band_rooms}

-- what `row_cells` asks
pub record RowsDivide (sizes : List ℕ) : Type 0 where
  pub some_dims : 0 < length sizes
  pub few_dims : length sizes ≤ most_dims
  pub each_size : all_between 1 most_along sizes ≡ true
  pub few_cells : product sizes ≤ most_cells

-- the first of 60, 21 and 22 that holds, else 0
abbrev pub band_number : Bool → Bool → Bool → ℕ
band_number false rooms times = 60
band_number true false times = 21
band_number true true false = 22
band_number true true true = 0

-- `refused_band`
pub record RefusesBand (n row fields : ℕ) (border : Bound) (held : ℕ) (b : Band) (rows room : ℕ) (time : ℤ) (r : ℕ) : Type 0 where
  pub is : r ≡ band_number (band_right n border held b) (band_rooms row fields rows room border b) (good_times time (pos 1))
