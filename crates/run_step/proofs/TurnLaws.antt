-- A cell's turn in a step.
use Prim.Native.Nat.{ℕ, ◌+◌, ◌-◌, ◌*◌, ◌≤◌}
use native.Mathlib.Omega.{arith}
use mathlib.Core.Path.{◌≡◌, sym, ap, ◌∙◌}
use mathlib.Core.List.{List, ◌++◌}
use lib.ListN.{length, take, drop, length-drop}
use lib.Seq.{length-take-le}
use lib.IntN.{ℤ}
use Rattle.value.specs.Limits.{most_cells}
use Rattle.value.specs.Promises.Buffers.{most_room}
use Rattle.automaton.specs.Promises.ShapeLaws.{Shaped}
use Rattle.program.specs.declared.Rule.{Rule}
use Rattle.cell_statements.specs.Promises.Running.{Fit}
use Rattle.run_step.specs.declared.Evaluation.{Evaluation}
use Rattle.run_step.specs.Promises.Turns.{CellsCounted, outcome_in, Turning, CellTurned}
use Rattle.run_marked_cells.proofs.PartLaws.{part_own, part_kept}

-- a grid is small enough
pub roomed : {n fields : ℕ} {sizes : List ℕ} {lent : ℕ} → Shaped n fields most_cells sizes lent → Shaped n fields most_room sizes lent
roomed s = record { dims = s.dims; positive = s.positive; cells = omega (arith, s.cells); entries = s.entries }

-- a part of a list
pub part_whole : (from n : ℕ) → from + n - from ≡ n
part_whole from n = omega arith

pub part_length : (from n : ℕ) (xs : List ℤ) → from + n ≤ length xs → length (take (from + n - from) (drop from xs)) ≡ n
part_length from n xs l = length-take-le (from + n - from) (drop from xs) (let e = length-drop from xs in omega arith) ∙ part_whole from n

module _ {leaves words : List ℕ} {rule : Rule} {sizes point : List ℕ} {cell to : ℕ} {grid : List ℤ} {lent time count : ℕ} (t : Turning leaves words rule sizes point cell to grid lent time count) where
  pub turn_fit : {n : ℕ} → n ≡ rule.fields → Fit leaves words rule sizes point cell grid n time
  turn_fit e = record { rule_fits = t.rule_fits; shaped = t.roomed; lent = sym e; small = t.small; inside = t.inside; own = t.own; noted = t.noted }

  -- the cell's next fields, put in their place
  pub turned : {next scratch : List ℤ} {k : ℕ} {r : Evaluation} → CellsCounted words rule sizes cell grid next time count r → length scratch ≡ lent → length next ≡ rule.fields → k ≡ rule.fields
      → CellTurned words rule sizes cell to grid scratch (take (to * rule.fields) scratch ++ (next ++ drop k (drop (to * rule.fields) scratch))) time count r
  turned {next} {scratch} {k} {r} e size long whole =
      let room : to * rule.fields + rule.fields ≤ length scratch = let a = t.part_fits in omega arith in
      record {
        says = λ p h. ap (outcome_in r) (part_own rule.fields to k scratch next room long whole) ∙ e.says p h;
        kept = part_kept rule.fields to k scratch next room long whole;
        count_is = e.count_is;
      }
