-- A step of a grid made of bands of rows, by the calls of single bands.
use Rattle.std.specs.Prelude.{ℕ, ◌+◌, ◌*◌, ◌/◌, ◌%◌, List, [], ◌∷◌, ◌++◌, ℤ}
use Rattle.std.proofs.Math.IntN.{sub_ℕ}
use Rattle.value.specs.Worked.{wrap_of}
use Rattle.automaton.specs.Step.{Fault, no_fault, fault_at, Step}
use Rattle.automaton.specs.Shape.{product, Bound}
use Rattle.automaton.specs.Grid.{cell_of, grid_of, CellRule}
use Rattle.automaton.specs.Bands.{Band, band_step, rows_in, rows_with}

-- What m cells and those behind them give together: a fault is counted from the first cell, and what stands behind it is not evaluated.
abbrev pub combined : ℕ → Fault → Fault → Step (List ℤ) → Step (List ℤ) → Step (List ℤ)
combined m no_fault no_fault s r = record { fault = no_fault; grid = s.grid ++ r.grid; count = s.count + r.count }
combined m no_fault (fault_at c number place) s r = record { fault = fault_at (m + c) number place; grid = []; count = s.count + r.count }
combined m (fault_at c number place) f s r = record { fault = fault_at c number place; grid = []; count = s.count }

abbrev pub combine : ℕ → Step (List ℤ) → Step (List ℤ) → Step (List ℤ)
combine m s r = combined m s.fault r.fault s r

-- The old grid where a step faults, else the new one.
abbrev pub kept_at : Fault → List ℤ → List ℤ → List ℤ
kept_at no_fault old new = new
kept_at (fault_at c number place) old new = old

-- The rows of a grid of n rows that are lent, so many from `back` rows before a row on, by the sizes of the dimensions behind the first and the number of
-- fields. They wrap at the edges, and may repeat.
unfoldable pub rows_lent : List ℕ → ℕ → (n count back first : ℕ) → List ℤ → List ℤ
rows_lent ns fields n count back first g =
    grid_of fields (count * product ns) (λ c. cell_of fields g (wrap_of first (sub_ℕ (c / product ns) back) n * product ns + c % product ns))

module _ (ns : List ℕ) (fields : ℕ) (rule : CellRule) where
  -- The call of one band.
  abbrev pub band_of : (n : ℕ) → Bound → List ℤ → ℕ → Band → Step (List ℤ)
  band_of n edge g t b = band_step ns fields rule (rows_with edge b) edge.back (rows_in b) (rows_lent ns fields n (rows_with edge b) edge.back b.first g) t

  -- Bands in turn, up to the first that faults.
  unfoldable pub bands_of : (n : ℕ) → Bound → List ℤ → ℕ → List Band → Step (List ℤ)
  bands_of n edge g t [] = record { fault = no_fault; grid = []; count = 0 }
  bands_of n edge g t (b ∷ bs) = combine (rows_in b * product ns) (band_of n edge g t b) (bands_of n edge g t bs)

  -- A step under a plan.
  unfoldable pub step_under : (n : ℕ) → Bound → List Band → List ℤ → ℕ → Step (List ℤ)
  step_under n edge plan g t =
      let r = bands_of n edge g t plan in
      record { fault = r.fault; grid = kept_at r.fault g r.grid; count = r.count }
