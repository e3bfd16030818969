-- The flag of a program as a number in code.
use Rattle.std.proofs.Math.Option.{Option, none, some}
use Rattle.std.specs.Prelude.{ℕ}

-- the flag of a program with so many fields, as a number: the field's number, or the number of fields for none
abbrev pub flag_told : ℕ → Option ℕ → ℕ
flag_told fields none = fields
flag_told fields (some f) = f
