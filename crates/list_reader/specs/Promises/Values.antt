-- What the functions that read values promise.
use Rattle.std.specs.Prelude.{◌≡◌, Bool, true, false, not, ◌&&◌, List, [], ℕ, ◌<◌, length, drop, ltb, ℤ, if◌then◌else◌, Option as Optional, Some, None, Result, Ok, Err}
use Rattle.std.specs.Borrow.{Bor}
use Rattle.std.proofs.Math.Option.{Option, some, none}
use Rattle.program.specs.Syntax.{Range}
use Rattle.program.specs.declared.Rule.{Rule}
use Rattle.cell_meaning.specs.Promises.Stands.{rule_table, ranges_in}
use Rattle.list_meaning.specs.Text.{Piece, pieces}
use Rattle.list_meaning.specs.Lines.{before_values, values, under_sign, behind}
use Rattle.list_meaning.specs.Promises.Walking.{head_fits, keeps_flag, values_number}
use Rattle.value.specs.declared.Value.{Value}
use Rattle.program.specs.Reason.{reason_number}
use Rattle.program.specs.declared.reply.Reason.{Reason}
use Rattle.list_reader.specs.Promises.Promises.{IsEnd}
use Rattle.list_reader.specs.declared.values.Valued.{Valued}
use Rattle.list_reader.specs.declared.values.Values.{Values}

-- ---- the grammar of values, also where the tokens of the line cannot be read

abbrev pub line_values : Option (List Piece) → Option (List (Option ℤ))
line_values none = none
line_values (some ps) = values ps

abbrev pub under_in : ℕ → Option (List Piece) → Option (List (Option ℤ))
under_in k none = none
under_in k (some ps) = under_sign k ps

abbrev pub behind_in : Option ℤ → Option (List Piece) → Option (List (Option ℤ))
behind_in v none = none
behind_in v (some ps) = behind v ps

-- ---- one value

-- a value that is missing or given
abbrev pub given_of : Optional Value → Option ℤ
given_of None = none
given_of (Some v) = some v.n

abbrev pub signed_of : Optional (Value × Bor (List ℕ)) → Option (List (Option ℤ))
signed_of None = none
signed_of (Some r) = behind_in (some r.0.n) (pieces 0 r.1.now)

-- the values after a value: none are left, or those behind a comma
abbrev pub further : Optional (Bor (List ℕ)) → Option (List (Option ℤ))
further None = some []
further (Some rest) = line_values (pieces 0 rest.now)

abbrev pub valued_of : Optional Valued → Option (List (Option ℤ))
valued_of None = none
valued_of (Some v) = before_values (given_of v.given) (further v.next)

abbrev pub SignedOnward : List ℕ → Optional (Value × Bor (List ℕ)) → Type 0
SignedOnward line None = Unit {0}
SignedOnward line (Some r) = (length r.1.now < length line) × IsEnd line r.1.now

abbrev pub RestOnward : List ℕ → Optional (Bor (List ℕ)) → Type 0
RestOnward line None = Unit {0}
RestOnward line (Some rest) = (length rest.now < length line) × IsEnd line rest.now

abbrev pub ValuedOnward : List ℕ → Optional Valued → Type 0
ValuedOnward line None = Unit {0}
ValuedOnward line (Some v) = RestOnward line v.next

-- r is the literal under a sign at the head of a line, and what follows
pub record ReadsSigned (line : List ℕ) (k : ℕ) (r : Optional (Value × Bor (List ℕ))) : Type 0 where
  pub is : under_in k (pieces 0 line) ≡ signed_of r
  pub onward : SignedOnward line r

-- r is a value, and what follows at the head of a line
pub record ReadsBehind (line : List ℕ) (v : Optional Value) (r : Optional Valued) : Type 0 where
  pub is : behind_in (given_of v) (pieces 0 line) ≡ valued_of r
  pub onward : ValuedOnward line r

-- r is the first value of a line
pub record ReadsValue (line : List ℕ) (r : Optional Valued) : Type 0 where
  pub is : line_values (pieces 0 line) ≡ valued_of r
  pub onward : ValuedOnward line r

-- ---- the values of a line

-- the ranges of the fields
unfoldable pub fields_in : List ℕ → Rule → List Range
fields_in words rule = ranges_in (rule_table words rule) rule.base rule.fields

-- r: all values fit so far, with value number k; a value behind the last field has no range
pub record StillFits (fields : List Range) (k : ℕ) (v : Optional Value) (fit r : Bool) : Type 0 where
  pub is : r ≡ (fit && head_fits (drop k fields) (given_of v))

-- r: no value gave the flag 0 so far, with value number k
pub record StillKept (flag k : ℕ) (v : Optional Value) (kept r : Bool) : Type 0 where
  pub is : r ≡ (kept && keeps_flag flag k (given_of v))

-- 52, 53 or 58 for so many fields and values, of which all fit or not, and none gave the flag 0 or one did; else 0
abbrev pub count_number : ℕ → ℕ → Bool → Bool → ℕ
count_number fields count fit kept = if ltb fields count then 52 else if not fit then 53 else if not kept then 58 else 0

-- the number of a reason that is told: 0 where nothing is refused
abbrev pub reason_told : Result (Unit {0}) Reason → ℕ
reason_told (Ok a) = 0
reason_told (Err e) = reason_number e

-- the number of the values of a line: 50 where they cannot be read
abbrev pub values_told : ℕ → Optional Values → ℕ
values_told fields None = 50
values_told fields (Some v) = count_number fields v.count v.fit v.kept

-- r are the values at the head of a line; their number is 50, 52, 53, 58 or 0
pub record ReadsValues (ranges : List Range) (fields flag : ℕ) (line : List ℕ) (r : Optional Values) : Type 0 where
  pub is : values_told fields r ≡ values_number ranges flag 0 false true true (line_values (pieces 0 line))
