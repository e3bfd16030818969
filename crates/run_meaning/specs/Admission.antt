-- What is asked of a run before it begins: replies 20 to 24, tried in this order.
use Rattle.std.specs.Prelude.{Bool, true, not, ◌&&◌, ◌||◌, List, [], ◌∷◌, ℕ, suc, ◌*◌, ◌%◌, length, get_or, eqb, leb, ltb, ℤ, pos, nat_abs, ◌+ℤ◌, if◌then◌else◌}
use Rattle.std.specs.Int.Signed.{le_z}
use Rattle.value.specs.Limits.{most_along, most_cells}
use Rattle.automaton.specs.Shape.{product}
use Rattle.program.specs.Refusal.{Refusal, refusal}
use Rattle.program.specs.Syntax.{Range, no_range, Program}
use Rattle.cell_meaning.specs.Evaluation.{in_field}
use Rattle.cell_meaning.specs.Written.{Written, written_in}

-- what a run is asked: the sizes, the grid, the start time and the number of steps, and how long scratch and marks are
abbrev pub Request : Type 0
Request = record { sizes : List ℕ; grid : List ℤ; start : ℤ; steps : ℤ; scratch : ℕ; marks : ℕ }

-- what was asked of a run, with another grid
abbrev pub on_grid : Request → List ℤ → Request
on_grid q g = record { sizes = q.sizes; grid = g; start = q.start; steps = q.steps; scratch = q.scratch; marks = q.marks }

-- every number of a list is between two bounds
unfoldable pub all_between : ℕ → ℕ → List ℕ → Bool
all_between low high [] = true
all_between low high (n ∷ ns) = leb low n && leb n high && all_between low high ns

-- the number and the sizes of dimensions and the cell total are right, else 20
unfoldable pub good_sizes : Program → List ℕ → Bool
good_sizes p sizes = eqb (length sizes) p.dims && all_between 1 most_along sizes && leb (product sizes) most_cells

-- grid and scratch are cells times fields, marks one a cell, else 21
unfoldable pub good_rooms : Program → Request → Bool
good_rooms p q =
    eqb (length q.grid) (product q.sizes * length p.fields) && eqb q.scratch (length q.grid) && eqb q.marks (product q.sizes)

-- start and steps are not negative, and their sum is at most 2147483647, else 22
unfoldable pub good_times : ℤ → ℤ → Bool
good_times start n = le_z (pos 0) start && le_z (pos 0) n && le_z (start +ℤ n) (pos 2147483647)

-- 23: the first written index either end of whose values is larger in size than its dimension
unfoldable pub too_far : List ℕ → List Written → Refusal
too_far sizes [] = refusal 0 0
too_far sizes (w ∷ ws) =
    let size = get_or sizes w.dim 0 in
    if ltb size (nat_abs w.values.low) || ltb size (nat_abs w.values.high) then refusal 23 w.place
    else too_far sizes ws

-- 24: the lowest entry, from number e on, that is out of its field's range
unfoldable pub out_of_field : List Range → ℕ → List ℤ → Refusal
out_of_field fields e [] = refusal 0 0
out_of_field fields e (z ∷ zs) =
    if in_field (get_or fields (e % length fields) no_range) z then out_of_field fields (suc e) zs
    else refusal 24 e

-- the first of 20 to 24 that holds, or number 0: the run is admitted
unfoldable pub admission : Program → Request → Refusal
admission p q =
    let far = too_far q.sizes (written_in p) in
    let out = out_of_field p.fields 0 q.grid in
    if not (good_sizes p q.sizes) then refusal 20 0
    else if not (good_rooms p q) then refusal 21 0
    else if not (good_times q.start q.steps) then refusal 22 0
    else if not (eqb far.number 0) then far
    else out
