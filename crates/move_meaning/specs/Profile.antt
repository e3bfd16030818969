-- The profile of sources that move a pixel once: its three rules, and the first that a source misses.
use Rattle.std.specs.Prelude.{Bool, true, ◌&&◌, ◌||◌, List, [], ◌∷◌, ℕ, zero, suc, ◌+◌, ◌/◌, length, get_or, eqb, pos, if◌then◌else◌}
use Rattle.std.proofs.Math.Option.{Option, none, some}
use Rattle.value.specs.Limits.{most_names}
use Rattle.value.specs.Number.{eq_z}
use Rattle.token.specs.Bytes.{as_bytes}
use Rattle.token.specs.Kind.{kind, keyword, relation, delimiter}
use Rattle.token.specs.Scanning.{scan}
use Rattle.names.specs.declared.Entry.{Entry}
use Rattle.names.specs.Names.{name_kind, is, is_field, find, entries_from, entry_at}
use Rattle.program.specs.Syntax.{Range, no_range}
use Rattle.grammar.specs.Reader.{Result, ok, fail, State, Reader, ◌>>◌, position}
use Rattle.grammar.specs.Constants.{read_constants}
use Rattle.grammar.specs.Source.{Accepted, read_cell, input_of, start_state}
use Rattle.grammar.specs.Checking.{SourceRead, by_outcome, read_source}
use Rattle.cell_meaning.specs.Links.{Table, table_of, word_in, begins}

-- ---- rule 2: the field

-- the field named `moved`, letter case aside, by its slot in the name list
abbrev pub moved_slot : List ℕ → List ℕ → Option ℕ
moved_slot source names = find source is_field (as_bytes "moved") 0 (entries_from names 0 most_names)

-- the range 0..1
abbrev pub is_flag : Range → Bool
is_flag r = eq_z r.low (pos 0) && eq_z r.high (pos 1)

-- its number, if it is not const and its range is 0..1
abbrev pub flag_of : Entry → List Range → Option ℕ
flag_of e fields = if is e name_kind.field && is_flag (get_or fields e.word no_range) then some e.word else none

abbrev pub flag_in : Option ℕ → List ℕ → List Range → Option ℕ
flag_in none names fields = none
flag_in (some slot) names fields = flag_of (entry_at names slot) fields

-- the number of the field that serves as flag; none, if rule 2 is missed
unfoldable pub flag_field : List ℕ → Accepted → Option ℕ
flag_field source a = flag_in (moved_slot source a.names) a.names a.program.fields

-- ---- rule 3: the statement

-- the tokens from a position on are of these kinds
unfoldable pub kinds_at : Table → ℕ → List ℕ → Bool
kinds_at t at [] = true
kinds_at t at (k ∷ ks) = eqb (t.kind at) k && kinds_at t (at + 1) ks

-- the table of a source's words, and the length of each token
abbrev pub Tokens : Type 0
Tokens = record { table : Table; len : ℕ → ℕ; count : ℕ }

-- the literal at a position is one digit, d
abbrev pub digit_at : Tokens → ℕ → ℕ → Bool
digit_at ts at d = eqb (ts.len at) 1 && eqb (ts.table.word2 at) d

-- at a position stands `if cell.moved = 0 then`, where field f is `moved`. A field of `cell` and the position behind it are noted at `cell`
unfoldable pub opens_at : ℕ → Tokens → ℕ → Bool
opens_at f ts i =
    kinds_at ts.table i (keyword.if ∷ kind.cell ∷ delimiter.dot ∷ kind.name ∷ relation.equal ∷ kind.literal ∷ keyword.then ∷ [])
    && eqb (ts.table.word2 (i + 1)) f && eqb (ts.table.past (i + 1)) (i + 4) && digit_at ts (i + 5) 0

-- at a position stands the assignment `cell.moved := 1` alone: behind it the `end`, or a constant's declaration. A condition would be noted at `:=`
unfoldable pub closes_at : ℕ → Tokens → ℕ → Bool
closes_at f ts j =
    kinds_at ts.table j (kind.cell ∷ delimiter.dot ∷ kind.name ∷ delimiter.assign ∷ kind.literal ∷ [])
    && eqb (ts.table.word2 j) f && digit_at ts (j + 4) 1 && eqb (ts.table.word2 (j + 3)) 0
    && (eqb (ts.table.kind (j + 5)) keyword.end || eqb (ts.table.kind (j + 5)) keyword.const)

-- the position behind the constants' declarations that stand from a position on. Each has a token, so that as many turns as tokens are enough
unfoldable pub past_constants : ℕ → Table → ℕ → ℕ
past_constants zero t at = at
past_constants (suc turns) t at = if eqb (t.kind at) keyword.const then past_constants turns t (t.past at) else at

-- the position of the last statement, constants aside, of a list of statements from a position on; `last`, if there is none
unfoldable pub last_statement : ℕ → Tokens → ℕ → ℕ → ℕ
last_statement zero ts last at = ts.count
last_statement (suc turns) ts last at =
    if begins (ts.table.kind at) then
    last_statement turns ts (if eqb (ts.table.kind at) keyword.const then last else at) (ts.table.past at)
    else last

-- the statements from a position on are, constants aside, `if cell.moved = 0 then` .. `end` alone, without `elsif` and `else`, whose last
-- statement, constants aside, is `cell.moved := 1`
unfoldable pub moves_once : ℕ → Tokens → ℕ → Bool
moves_once f ts at =
    let turns = suc ts.count in
    let i = past_constants turns ts.table at in
    opens_at f ts i && eqb (ts.table.kind (ts.table.inner i)) keyword.end
    && eqb (past_constants turns ts.table (ts.table.past i)) ts.count
    && closes_at f ts (last_statement turns ts ts.count (i + 7))

-- ---- the answer

-- the position of the first statement: behind the constants and the cell declaration
unfoldable pub read_head : Reader ℕ
read_head = read_constants >> (read_cell >> position)

abbrev pub position_in : Result (ℕ × State) → ℕ
position_in (ok r) = r.0
position_in (fail number place) = 0

abbrev pub statements_at : List ℕ → ℕ
statements_at source = position_in (read_head (input_of source) (start_state (scan source)))

-- the tokens of a table of n tokens, of a program with so many dimensions
abbrev pub tokens_in : List ℕ → ℕ → ℕ → Tokens
tokens_in words n dims = record { table = table_of words n dims; len = λ i. word_in words n 1 i / 65536; count = n }

abbrev pub tokens_of : List ℕ → Accepted → Tokens
tokens_of source a = tokens_in a.words (length (scan source).tokens) a.program.dims

-- the number of the flag's field, if an accepted source is in the profile: rule 2 gives the field, and rule 3 is kept with it
abbrev pub if_moves : List ℕ → Accepted → Option ℕ → Option ℕ
if_moves source a none = none
if_moves source a (some f) = if moves_once f (tokens_of source a) (statements_at source) then some f else none

unfoldable pub profile_flag : List ℕ → Accepted → Option ℕ
profile_flag source a = if_moves source a (flag_field source a)

-- the first rule that an accepted source misses, 0 for none: by the field that rule 2 gives, and by the flag
abbrev pub rule_missed : Option ℕ → Option ℕ → ℕ
rule_missed none flag = 2
rule_missed (some f) none = 3
rule_missed (some f) (some g) = 0

-- the number of the first rule that is missed, 0 for none; and the number and place of the reply that refuses the source
abbrev pub Answer : Type 0
Answer = record { rule : ℕ; number : ℕ; place : ℕ }

abbrev pub missed : ℕ → ℕ → ℕ → Answer
missed rule number place = record { rule = rule; number = number; place = place }

abbrev pub answer_of : List ℕ → SourceRead → Answer
answer_of source = by_outcome (missed 1) (λ a. missed (rule_missed (flag_field source a) (profile_flag source a)) 0 0)

-- whether a source is in the profile
unfoldable pub one_move : Bool → List ℕ → Answer
one_move fit source = answer_of source (read_source fit source)
