-- What the functions promise that work on plans by their numbers.
use Rattle.std.specs.Prelude.{◌≡◌, Bool, ◌&&◌, List, ℕ, ◌+◌, ◌*◌, set, eqb, leb}
use Rattle.automaton.specs.Shape.{Bound}
use Rattle.automaton.specs.Bands as automaton
use Rattle.automaton.specs.Bands.{rows_with, longest}
use Rattle.band_meaning.specs.Plans.{band, put_plan}
use Rattle.band_planner.specs.declared.plans.Band.{Band}

-- a band by its rows
abbrev pub band_told : Band → automaton.Band
band_told b = band b.first b.last

-- `band_fits`: a band begins at a row, is not empty, and can be held with its border rows
abbrev pub band_runs : automaton.Band → ℕ → Bound → ℕ → Bool
band_runs b from border held = eqb b.first from && (leb b.first b.last && leb (rows_with border b) held)

-- `put_band`: two entries are set
pub record PutsBand (bands : List ℕ) (k : ℕ) (b : automaton.Band) (bands' : List ℕ) : Type 0 where
  pub is : bands' ≡ set (set bands (2 * k) b.first) (2 * k + 1) b.last

-- `write_plan`: the plan stands at the front of the room
pub record WritesPlan (rows most : ℕ) (bands : List ℕ) (count : ℕ) (bands' : List ℕ) : Type 0 where
  pub many : count ≡ (put_plan (longest rows rows most 0) bands).bands
  pub room : bands' ≡ (put_plan (longest rows rows most 0) bands).room
