-- A band's call that is lent the rows of a grid, its own with borders, gives what its cells give in the grid. So a step under a plan is made of such calls.
use Prim.Native.Nat.{ℕ, ◌+◌, ◌*◌}
use mathlib.Core.Path.{◌≡◌, refl}
use mathlib.Core.List.{List, ◌∷◌}
use lib.ListN.{length}
use lib.IntN.{ℤ, nat_abs}
use Rattle.automaton.specs.Shape.{product, neighbour}
use Rattle.automaton.specs.Promises.ShapeLaws.{Positive}
use Rattle.automaton.specs.Grid.{cell_of}
use Rattle.automaton.specs.Bands.{Band, rows_in, rows_with, part_step}
use Rattle.automaton.specs.Promises.BandSteps.{rows_lent, band_of}
use Rattle.automaton.proofs.Theorems.BandLaws.{band_is}
use Rattle.program.specs.Syntax.{Program}
use Rattle.cell_meaning.specs.Evaluation.{evaluate}
use Rattle.run_meaning.specs.Reach.{reach}
use Rattle.run_meaning.proofs.Theorems.Locality.{Flagged, evaluate_bounded}
use Rattle.run_meaning.proofs.Theorems.Covering.{reach_covers}
use Rattle.band_meaning.specs.Edge.{edge}
use Rattle.band_meaning.proofs.Theorems.EdgeTheorems.{edged}
use Rattle.band_call.specs.BandCall.{BandAsked, band_stepped}

-- a call with the rows of a grid
abbrev pub of_grid : Program → (n : ℕ) → List ℕ → Band → (held : ℕ) → List ℤ → List ℤ → ℤ → BandAsked
of_grid p n ns b held g room time =
    record { sizes = n ∷ ns; band = b; held = held; rows = rows_lent ns (length p.fields) n (rows_with (edge p) b) (edge p).back b.first g; room = room; time = time }

module _ (p : Program) (n : ℕ) (ns : List ℕ) (b : Band) (held : ℕ) (g room : List ℤ) (time : ℤ) where
  -- It is the band's step of the step under a plan.
  pub call_is_band : band_stepped p (of_grid p n ns b held g room time) ≡ band_of ns (length p.fields) (evaluate p) n (edge p) g (nat_abs time) b
  unfolding band_stepped
  call_is_band = refl

  -- It gives what the band's cells give in the grid.
  pub call_in_grid : Flagged p → Positive ns → length (n ∷ ns) ≡ p.dims
      → band_stepped p (of_grid p n ns b held g room time)
      ≡ part_step (length p.fields) (λ i. evaluate p (λ ds. cell_of (length p.fields) g (neighbour (n ∷ ns) (b.first * product ns + i) ds)) (nat_abs time)) (rows_in b * product ns)
  unfolding band_stepped
  call_in_grid flagged positive dims =
      band_is n ns positive (length p.fields) p.timed (reach p) (evaluate p) (evaluate_bounded p (reach p) (reach_covers p) flagged) (edge p) (edged p n ns dims) g (nat_abs time) b
