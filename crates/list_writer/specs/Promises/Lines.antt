-- The lines of the cells that differ.
use Rattle.std.specs.Prelude.{◌≡◌, true, false, List, [], ◌∷◌, ◌++◌, ℕ, ◌*◌, ◌≤◌, length, ℤ}
use Rattle.std.proofs.Math.Option.{Option, some}
use Rattle.value.specs.Limits.{most_dims, most_cells, most_fields}
use Rattle.automaton.specs.Shape.{product, coordinates}
use Rattle.automaton.specs.Promises.ShapeLaws.{Positive}
use Rattle.automaton.specs.Grid.{cell_of, differ}
use Rattle.list_writer.specs.declared.lines.Change.{Change}
use Rattle.list_meaning.specs.Writing.{cell_line, shown, cells_text, written_text}

-- two grids of these sizes with so many fields
pub record Grids (sizes : List ℕ) (fields : ℕ) (earlier later : List ℤ) : Type 0 where
  pub dims : length sizes ≤ most_dims
  pub positive : Positive sizes
  pub cells : product sizes ≤ most_cells
  pub fields_few : fields ≤ most_fields
  pub earlier_entries : product sizes * fields ≡ length earlier
  pub later_entries : product sizes * fields ≡ length later

-- the line of the cell c, if it differs
unfoldable pub changed_line : List ℕ → ℕ → Option ℕ → List ℤ → List ℤ → ℕ → List ℕ
changed_line sizes fields flag earlier later c =
    elim (differ (cell_of fields earlier c) (cell_of fields later c)) [
      | true ↦ cell_line (coordinates sizes c) (shown flag (cell_of fields later c)) ++ 10 ∷ []
      | false ↦ []
    ]

-- two grids of the sizes, with so many cells
abbrev pub Leads : Change → Type 0
Leads d = Grids d.sizes.now d.fields d.earlier.now d.later.now × (d.cells ≡ product d.sizes.now)

-- the line of the cell c, the lines of the first n cells, and the text
abbrev pub cell_change : Change → ℕ → List ℕ
cell_change d c = changed_line d.sizes.now d.fields (some d.flag) d.earlier.now d.later.now c

abbrev pub all_changes : Change → ℕ → List ℕ
all_changes d n = cells_text d.sizes.now d.fields (some d.flag) d.earlier.now d.later.now n 0

abbrev pub change_text : Change → List ℕ
change_text d = written_text d.sizes.now d.fields (some d.flag) d.earlier.now d.later.now d.time
