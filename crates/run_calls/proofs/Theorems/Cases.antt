-- Worked cases: what is asked, what the definitions are to give, and the test of a list of them.
use mathlib.Core.Bool.{Bool, not, ◌&&◌}
use mathlib.Core.List.{List, []}
use mathlib.Core.Option.{some, none}
use Prim.Native.Nat.{ℕ, ◌*◌}
use lib.ListN.{length}
use lib.Dec.{eqb}
use lib.IntN.{ℤ}
use Rattle.automaton.specs.Listed
use Rattle.automaton.specs.Step
use Rattle.automaton.specs.Shape
use Rattle.automaton.specs.Grid
use Rattle.automaton.specs.Rows
use Rattle.token.specs.Bytes
use Rattle.token.specs.Kind
use Rattle.token.specs.Lexeme
use Rattle.token.specs.Scanning
use Rattle.names.specs.Names
use Rattle.grammar.specs.Ranking
use Rattle.grammar.specs.Reader
use Rattle.grammar.specs.Constants
use Rattle.grammar.specs.Expressions
use Rattle.grammar.specs.Statements
use Rattle.grammar.specs.Source
use Rattle.grammar.specs.Checking
use Rattle.cell_meaning.specs.Operators
use Rattle.cell_meaning.specs.Evaluation
use Rattle.cell_meaning.specs.Written
use Rattle.cell_meaning.specs.Places
use Rattle.cell_meaning.specs.Links
use Rattle.run_meaning.specs.Reach
use Rattle.run_meaning.specs.Admission
use Rattle.move_meaning.specs.Profile
use Rattle.list_meaning.specs.Text
use Rattle.list_meaning.specs.Lines
use Rattle.list_meaning.specs.ListChecking
use Rattle.list_meaning.specs.Setting
use Rattle.run_calls.specs.Running
use Rattle.run_calls.specs.Services
use Rattle.automaton.specs.Grid.{differ}
use Rattle.automaton.specs.Shape.{product}
use Rattle.run_meaning.specs.Report.{Manner, Report, full, quiet}
use Rattle.grammar.specs.Checking.{rooms_fit, check}
use Rattle.run_calls.specs.Running.{Asked}
use Rattle.run_calls.specs.Services.{run_source, marks_after, counts_after}
use Rattle.token.specs.Bytes.{same}

-- a source, and how many words and name records are lent to read it
pub record Lent : Type 0 where
  pub source : List ℕ
  pub words : ℕ
  pub names : ℕ

-- the rooms lent fit
abbrev pub fit : Lent → Bool
fit l = rooms_fit l.words (4 * l.names)

pub data Case : Type 0 where
  -- a source, and the number and place of its check
  checks : Lent → ℕ → ℕ → Case
  -- a run, the report of the full run, and the quiet run's count
  runs : Lent → Asked → Report → ℕ → Case
  -- a run in a manner, its report, and the marks that it leaves of those that it is lent
  leaves : Lent → Manner → Asked → List ℕ → Report → List ℕ → Case
  -- a run that keeps row counts of a field, its report, and the counts that it leaves of those that it is lent
  counts : Lent → Manner → Asked → ℕ → List ℕ → Report → List ℕ → Case

-- a source with rooms of the right length
abbrev pub text : List ℕ → Lent
text source = record { source = source; words = 16384; names = 256 }

-- a run with a value list, scratch and marks of the right length
abbrev pub ask_with : List ℕ → List ℕ → List ℤ → ℤ → ℤ → Asked
ask_with values sizes grid start n =
    record {
      request = record { sizes = sizes; grid = grid; start = start; steps = n; scratch = length grid; marks = product sizes };
      values = values;
      counts = none;
    }

-- with row counts of a field, in so many entries
abbrev pub counting_rows : Asked → ℕ → ℕ → Asked
counting_rows q field rows = record { request = q.request; values = q.values; counts = some (record { field = field; rows = rows }) }

-- a run without one
abbrev pub ask : List ℕ → List ℤ → ℤ → ℤ → Asked
ask sizes grid start n = ask_with [] sizes grid start n

abbrev pub report : ℕ → ℕ → ℕ → ℕ → ℕ → List ℤ → Report
report n place cell done count grid = record { number = n; place = place; line = 0; cell = cell; steps = done; count = count; grid = grid }

-- two reports are the same
unfoldable pub same_report : Report → Report → Bool
same_report a b =
    eqb a.number b.number && eqb a.place b.place && eqb a.line b.line && eqb a.cell b.cell && eqb a.steps b.steps
    && eqb a.count b.count && not (differ a.grid b.grid)

-- the report with another count
abbrev pub counting : Report → ℕ → Report
counting r count =
    record { number = r.number; place = r.place; line = r.line; cell = r.cell; steps = r.steps; count = count; grid = r.grid }

-- a case holds. The line names all that a case computes with, so that `unfolding failing holds` is enough for a claim
-- (tools/unfolding.py writes it)
unfoldable pub holds : Case → Bool
unfolding same_report Listed.list_of Step.first_fault Step.how_many Step.any_of Step.marks_of Step.marked Step.step_of
    Step.quiet_outcome Step.quiet_step Step.changed Step.touched Step.open_in Step.run_of Step.open_count Step.full_count
    Step.quiet_run Shape.neighbour Shape.box_indices Shape.reach_of Grid.cell_of Grid.grid_of Grid.automaton Rows.has_zero
    Rows.counts_by Rows.in_rows Rows.lowest Rows.first_row Bytes.member Bytes.same Bytes.kind_of Bytes.fold Kind.level_of
    Lexeme.find_kind Lexeme.starts Lexeme.in_name Lexeme.in_literal Lexeme.extent Lexeme.decimal Lexeme.word Lexeme.digits
    Lexeme.punctuation Lexeme.read_token Scanning.blanks Scanning.stop_number Scanning.scan_from Scanning.scan
    Scanning.token_words Scanning.scanned_words Scanning.token_in Scanning.kind_in Names.entry_at Names.entries_from
    Names.variables_in Names.is_field Names.in_space Names.letters Names.find Names.find_name Ranking.rank
    Ranking.first_number Ranking.before Ranking.first_of Ranking.broken Reader.◌>>=◌ Reader.return Reader.get_state
    Reader.refuse Reader.refuse_last Reader.note Reader.repeat Reader.next_token Reader.kind_after Reader.position
    Reader.advance Reader.put Reader.expect_or Reader.forbid Reader.opening Reader.is_name Reader.by_name Reader.entry_in
    Reader.declare Reader.release Reader.fresh Reader.use_name Constants.is_sign Constants.named_constant
    Constants.read_constant Constants.read_signed Constants.range_rule Constants.read_range Constants.value_turn
    Constants.read_values Constants.read_size Constants.array_head Constants.array_constant Constants.simple_constant
    Constants.constant_value Constants.read_declaration Constants.constants_turn Constants.read_constants Expressions.plain
    Expressions.field_name Expressions.dot_field Expressions.field_number Expressions.read_field Expressions.put_field
    Expressions.named_index Expressions.fixed_index Expressions.read_index Expressions.index_turn Expressions.read_indices
    Expressions.read_neighbour Expressions.read_own Expressions.values_from Expressions.array_values Expressions.read_bracket
    Expressions.read_element Expressions.array_use Expressions.name_use Expressions.read_primary Expressions.read_operand
    Expressions.read_right Expressions.operator_turn Expressions.climb Expressions.operand_in Statements.old_variable
    Statements.new_variable Statements.named_target Statements.field_target Statements.read_target Statements.when_clause
    Statements.clause_end Statements.clause_turn Statements.read_assignment Statements.choices Statements.arm_end
    Statements.arm_turn Statements.read_if Statements.read_forall Statements.read_exit Statements.statement_turn
    Statements.read_block Source.field_turn Source.with_ranges Source.put_ranges Source.read_group Source.group_turn
    Source.read_dims Source.is_unnamed Source.read_fields Source.read_cell Source.has_kind Source.settled_value
    Source.settled Source.finish Source.read_program Source.parse Checking.rooms_fit Checking.read_source Checking.check
    Checking.words_after Operators.apply_unary Operators.compare Operators.apply_binary Evaluation.offsets
    Evaluation.element_at Evaluation.eval Evaluation.store Evaluation.assign_first Evaluation.each Evaluation.exec
    Evaluation.evaluate Written.relatives_in_expr Written.relatives_in_condition Written.relatives_in_clauses
    Written.relatives_in_block Written.relatives_in Written.written_in_index Written.written_of Written.written_in
    Places.vectors_of Places.has_place Places.add_place Places.add_places Places.add_relative Places.add_relatives
    Places.places Links.word_in Links.linked Links.begins Reach.widened Reach.box Reach.reach Reach.running
    Admission.all_between Admission.good_sizes Admission.good_rooms Admission.good_times Admission.too_far
    Admission.out_of_field Admission.admission Profile.flag_field Profile.kinds_at Profile.opens_at Profile.closes_at
    Profile.past_constants Profile.last_statement Profile.moves_once Profile.read_head Profile.profile_flag Profile.one_move
    Text.lines Text.pieces Lines.indices Lines.values Lines.assigned Lines.said_by Lines.say Lines.said ListChecking.inside
    ListChecking.all_fit ListChecking.cell_line_number ListChecking.time_number ListChecking.check_lines
    ListChecking.check_list ListChecking.admission_with Setting.store_values Setting.set_lines Setting.set_block
    Running.admitted Running.report_of Running.standing Running.run Services.run_source Services.room_after
    Services.marks_after Services.counts_after
holds (checks l n place) =
    let c = check (fit l) l.source in
    eqb c.number n && eqb c.place place
holds (runs l q r count) =
    same_report (run_source full (fit l) l.source q) r && same_report (run_source quiet (fit l) l.source q) (counting r count)
holds (leaves l manner q marks r left) =
    same_report (run_source manner (fit l) l.source q) r && same (marks_after manner (fit l) l.source q marks) left
holds (counts l manner q field lent r left) =
    let asked = counting_rows q field (length lent) in
    same_report (run_source manner (fit l) l.source asked) r && same (counts_after manner (fit l) l.source asked lent) left

-- the numbers, from n on, of the cases that do not hold
