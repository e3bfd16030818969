-- Worked cases of value lists: what is asked, what the definitions are to give, and the test of a list of them.
use mathlib.Core.Bool.{Bool, not, ◌&&◌}
use mathlib.Core.List.{List}
use mathlib.Core.Option.{Option}
use Prim.Native.Nat.{ℕ}
use lib.Dec.{eqb}
use lib.IntN.{ℤ}
use Rattle.token.specs.Bytes
use Rattle.token.specs.Lexeme
use Rattle.automaton.specs.Listed
use Rattle.automaton.specs.Grid
use Rattle.grammar.specs.Decimal
use Rattle.list_meaning.specs.Text
use Rattle.list_meaning.specs.Lines
use Rattle.list_meaning.specs.ListChecking
use Rattle.list_meaning.specs.Setting
use Rattle.list_meaning.specs.Writing
use Rattle.token.specs.Bytes.{same}
use Rattle.automaton.specs.Grid.{differ}
use Rattle.list_meaning.specs.ListChecking.{Limits, check_list}
use Rattle.list_meaning.specs.Setting.{set_block}
use Rattle.list_meaning.specs.Writing.{Wrote, put_text, written_text}

pub data Case : Type 0 where
  -- a list under limits, and the number and line of its check
  checks : Limits → List ℕ → ℕ → ℕ → Case
  -- a list on a grid of sizes and a number of fields, a time, the grid before its block, and the grid after
  sets : List ℕ → ℕ → List ℕ → ℕ → List ℤ → List ℤ → Case
  -- two grids of sizes and a number of fields with their flag, if any, a time, a room, and the number, the length and the room that the writer gives
  writes : List ℕ → ℕ → Option ℕ → List ℤ → List ℤ → ℕ → List ℕ → ℕ → ℕ → List ℕ → Case

-- a case holds. The line names all that a case computes with
unfoldable pub holds : Case → Bool
unfolding Bytes.member Bytes.same Bytes.kind_of Lexeme.starts Lexeme.in_literal Lexeme.extent Lexeme.decimal Lexeme.digits Listed.list_of Grid.cell_of Decimal.digits_of
    Text.lines Text.pieces Lines.indices Lines.values Lines.assigned Lines.said_by Lines.say Lines.said ListChecking.inside ListChecking.all_fit
    ListChecking.cell_line_number ListChecking.time_number ListChecking.check_lines ListChecking.check_list Setting.store_values Setting.set_lines
    Setting.set_block Writing.listed Writing.cell_line Writing.cells_text Writing.written_text Writing.put_text
holds (checks q text number line) =
    let v = check_list q text in
    eqb v.number number && eqb v.line line
holds (sets sizes fields text t before after) = not (differ (set_block sizes fields text t before) after)
holds (writes sizes fields flag earlier later t room number len after) =
    let w = put_text (written_text sizes fields flag earlier later t) room in
    eqb w.number number && eqb w.length len && same w.room after

-- the numbers, from n on, of the cases that do not hold
