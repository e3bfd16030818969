-- Rule 2: the field of the flag.
use Rattle.std.specs.Prelude.{◌≡◌, List, Bool, ◌&&◌, ℕ, ◌<◌, Option, Some, None}
use Rattle.std.proofs.Math.Option as math
use Rattle.std.proofs.Math.Option.{none, some}
use Rattle.value.specs.Limits.{most_names}
use Rattle.token.specs.Bytes.{as_bytes, same}
use Rattle.names.specs.Names.{is_field, entry_at, letters}
use Rattle.program.specs.declared.Rule.{Rule}
use Rattle.cell_meaning.specs.Promises.Stands.{range_in, rule_table, ranges_in}
use Rattle.cell_meaning.specs.Links.{table_of}
use Rattle.move_meaning.specs.Profile.{moved_slot, is_flag, flag_in}
use Rattle.move_meaning.specs.Promises.Flags.{flag_told}

-- the name in a slot is a field's, spelled `moved`
pub record NamesMoved (source names : List ℕ) (slot : ℕ) (r : Bool) : Type 0 where
  pub is : r ≡ (is_field (entry_at names slot) && same (as_bytes "moved") (letters source (entry_at names slot).start (entry_at names slot).len))

-- an option of the definition, as the code has it
abbrev pub option_of : math.Option ℕ → Option ℕ
option_of (some x) = Some x
option_of none = None

-- the slot of the first such name
pub record MovedSlot (source names : List ℕ) (r : Option ℕ) : Type 0 where
  pub is : r ≡ option_of (moved_slot source names)
  pub below : (slot : ℕ) → r ≡ Some slot → slot < most_names

-- whether the range at a position is 0..1; it does not hang on the number of dimensions
pub record IsFlag (words : List ℕ) (n at : ℕ) (r : Bool) : Type 0 where
  pub is : (dims : ℕ) → r ≡ is_flag (range_in (table_of words n dims) at)

-- the flag's field, by the words of the table and of the name list
abbrev pub field_in : List ℕ → List ℕ → List ℕ → Rule → math.Option ℕ
field_in source words names rule = flag_in (moved_slot source names) names (ranges_in (rule_table words rule) rule.base rule.fields)

-- what looking for the field promises
pub record FlagField (source words names : List ℕ) (rule : Rule) (r : ℕ) : Type 0 where
  pub is : r ≡ flag_told rule.fields (field_in source words names rule)
