-- How a call begins that is lent a source and sizes: the source is read first, and then the sizes are tried.
use Rattle.std.specs.Prelude.{List, ℕ, if◌then◌else◌}
use Rattle.program.specs.Syntax.{Program}
use Rattle.grammar.specs.Checking.{SourceRead, by_outcome}
use Rattle.run_meaning.specs.Admission.{good_sizes}

-- refused, with number and place; or the program, for which the sizes are right
pub data OnGrid : Type 0 where
  no_grid : (number place : ℕ) → OnGrid
  on_grid : Program → OnGrid

-- by how reading the source ends: its own reply, or 20
unfoldable pub on_sizes : List ℕ → SourceRead → OnGrid
on_sizes sizes = by_outcome no_grid (λ a. if good_sizes a.program sizes then on_grid a.program else no_grid 20 0)

-- the answer: by the number and place of the refusal, or by the program
abbrev pub by_grid : {A : Type 0} → (ℕ → ℕ → A) → (Program → A) → OnGrid → A
by_grid refuse go (no_grid number place) = refuse number place
by_grid refuse go (on_grid p) = go p
