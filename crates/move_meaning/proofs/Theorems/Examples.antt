-- Worked examples of the profile, as one list with one claim.
use mathlib.Core.Path.{◌≡◌, refl}
use mathlib.Core.Bool.{Bool, true, ◌&&◌}
use mathlib.Core.List.{List, [], ◌∷◌, ◌++◌}
use Prim.Native.Nat.{ℕ}
use Prim.Native.String.{String}
use lib.Dec.{eqb}
use Rattle.value.proofs.Theorems.Truth.{failing}
use Rattle.token.specs.Bytes
use Rattle.token.specs.Kind
use Rattle.token.specs.Lexeme
use Rattle.token.specs.Scanning
use Rattle.names.specs.Names
use Rattle.grammar.specs.Ranking
use Rattle.grammar.specs.Reader
use Rattle.grammar.specs.Constants
use Rattle.grammar.specs.Expressions
use Rattle.grammar.specs.Statements
use Rattle.grammar.specs.Source
use Rattle.grammar.specs.Checking
use Rattle.cell_meaning.specs.Links
use Rattle.token.specs.Bytes.{as_bytes}
use Rattle.move_meaning.specs.Profile.{flag_field, kinds_at, opens_at, closes_at, past_constants, last_statement, moves_once, read_head, profile_flag, one_move}

-- a source, and the answer: the first rule that is missed, and the reply's number and place
pub record Case : Type 0 where
  pub source : List ℕ
  pub rule : ℕ
  pub number : ℕ
  pub place : ℕ

-- a source whose fields are `c`, 0..9, and `moved`, 0..1
abbrev pub pixel : String → ℕ → Case
pixel rest rule = record { source = as_bytes "1 dimensions of c of 0..9 moved of 0..1 end " ++ as_bytes rest; rule = rule; number = 0; place = 0 }

abbrev pub plain : String → ℕ → ℕ → ℕ → Case
plain source rule number place = record { source = as_bytes source; rule = rule; number = number; place = place }

unfoldable pub holds : Case → Bool
unfolding Bytes.member Bytes.same Bytes.kind_of Bytes.fold Kind.level_of Lexeme.find_kind Lexeme.starts Lexeme.in_name
    Lexeme.in_literal Lexeme.extent Lexeme.decimal Lexeme.word Lexeme.digits Lexeme.punctuation Lexeme.read_token
    Scanning.blanks Scanning.stop_number Scanning.scan_from Scanning.scan Scanning.token_words Scanning.scanned_words
    Scanning.token_in Scanning.kind_in Names.entry_at Names.entries_from Names.variables_in Names.is_field Names.in_space
    Names.letters Names.find Names.find_name Ranking.rank Ranking.first_number Ranking.before Ranking.first_of
    Ranking.broken Reader.◌>>=◌ Reader.return Reader.get_state Reader.refuse Reader.refuse_last Reader.note Reader.repeat
    Reader.next_token Reader.kind_after Reader.position Reader.advance Reader.put Reader.expect_or Reader.forbid
    Reader.opening Reader.is_name Reader.by_name Reader.entry_in Reader.declare Reader.release Reader.fresh Reader.use_name
    Constants.is_sign Constants.named_constant Constants.read_constant Constants.read_signed Constants.range_rule
    Constants.read_range Constants.value_turn Constants.read_values Constants.read_size Constants.array_head
    Constants.array_constant Constants.simple_constant Constants.constant_value Constants.read_declaration
    Constants.constants_turn Constants.read_constants Expressions.plain Expressions.field_name Expressions.dot_field
    Expressions.field_number Expressions.read_field Expressions.put_field Expressions.named_index Expressions.fixed_index
    Expressions.read_index Expressions.index_turn Expressions.read_indices Expressions.read_neighbour Expressions.read_own
    Expressions.values_from Expressions.array_values Expressions.read_bracket Expressions.read_element Expressions.array_use
    Expressions.name_use Expressions.read_primary Expressions.read_operand Expressions.read_right Expressions.operator_turn
    Expressions.climb Expressions.operand_in Statements.old_variable Statements.new_variable Statements.named_target
    Statements.field_target Statements.read_target Statements.when_clause Statements.clause_end Statements.clause_turn
    Statements.read_assignment Statements.choices Statements.arm_end Statements.arm_turn Statements.read_if
    Statements.read_forall Statements.read_exit Statements.statement_turn Statements.read_block Source.field_turn
    Source.with_ranges Source.put_ranges Source.read_group Source.group_turn Source.read_dims Source.is_unnamed
    Source.read_fields Source.read_cell Source.has_kind Source.settled_value Source.settled Source.finish Source.read_program
    Source.parse Checking.rooms_fit Checking.read_source Checking.check Checking.words_after
    Links.word_in Links.linked Links.begins flag_field kinds_at opens_at closes_at past_constants
    last_statement moves_once read_head profile_flag one_move
holds c = let a = one_move true c.source in eqb a.rule c.rule && eqb a.number c.number && eqb a.place c.place

unfoldable pub examples : List Case
examples =
    -- in the profile
    pixel "if cell.moved = 0 then cell.moved := 1 end" 0
    ∷ pixel "IF CELL.Moved = 0 THEN cell.c := 1 cell.MOVED := 1 END # all" 0
    ∷ pixel "const a := 1 if cell.moved = 0 then if [1].moved = 0 then cell.c := a end cell.moved := 1 const b := 2 end const d := 3" 0
    ∷ pixel "if cell.moved = 0 then cell.moved := 0 cell.moved := 1 end" 0
    ∷ pixel "if cell.moved = 0 then forall i : 0..1 exit end cell.moved := 1 end" 0
    -- rule 1: refused
    ∷ plain "1 dimensions of moved of 0..1 end if cell.moved = 0 then cell.moved := 1" 1 7 72
    ∷ plain "" 1 7 0
    -- rule 2: no such field, const, another range
    ∷ plain "1 dimensions of 0..1 cell := 1" 2 0 0
    ∷ plain "1 dimensions of move of 0..1 end if cell.move = 0 then cell.move := 1 end" 2 0 0
    ∷ plain "1 dimensions of const moved of 0..1 end" 2 0 0
    ∷ plain "1 dimensions of moved of 0..2 end if cell.moved = 0 then cell.moved := 1 end" 2 0 0
    ∷ plain "const one := 1 1 dimensions of moved of 0..one end if cell.moved = 0 then cell.moved := 1 end" 0 0 0
    -- rule 3: another statement, or other tokens
    ∷ pixel "" 3
    ∷ pixel "cell.moved := 1" 3
    ∷ pixel "if cell.moved = 0 then cell.moved := 1 end cell.c := 1" 3
    ∷ pixel "cell.c := 1 if cell.moved = 0 then cell.moved := 1 end" 3
    ∷ pixel "if cell.moved = 0 then cell.moved := 1 else cell.c := 1 end" 3
    ∷ pixel "if cell.moved = 0 then cell.moved := 1 elsif 1 then cell.moved := 1 end" 3
    ∷ pixel "if (cell.moved = 0) then cell.moved := 1 end" 3
    ∷ pixel "if cell.moved = 00 then cell.moved := 1 end" 3
    ∷ pixel "if 0 = cell.moved then cell.moved := 1 end" 3
    ∷ pixel "if [0].moved = 0 then cell.moved := 1 end" 3
    ∷ pixel "if cell.c = 0 then cell.moved := 1 end" 3
    ∷ pixel "if cell.moved = 0 & 1 then cell.moved := 1 end" 3
    ∷ pixel "if cell.moved = 0 then end" 3
    ∷ pixel "if cell.moved = 0 then cell.moved := 1 cell.c := 1 end" 3
    ∷ pixel "if cell.moved = 0 then cell.moved := 01 end" 3
    ∷ pixel "if cell.moved = 0 then cell.moved := +1 end" 3
    ∷ pixel "if cell.moved = 0 then cell.moved := 1 when 1 end" 3
    ∷ pixel "if cell.moved = 0 then cell.moved := 1 + 0 end" 3
    ∷ pixel "if cell.moved = 0 then if 1 then cell.moved := 1 end end" 3
    ∷ pixel "const one := 1 if cell.moved = 0 then cell.moved := one end" 3
    ∷ pixel "const n := 0 if cell.moved = n then cell.moved := 1 end" 3
    ∷ []

-- none fails
pub all_hold : failing holds 1 examples ≡ []
unfolding examples failing holds
all_hold = refl
