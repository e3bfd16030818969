-- Where a part of a program is read, inside one more `if`, loop or bracket.
use Rattle.std.specs.Prelude.{◌≡◌, ℕ, ◌+◌, Option, Some, None}
use Rattle.read_expressions.specs.declared.inside.Inside.{Inside}

-- one more is open, so that so many loops are, or none more may be
abbrev pub Entered : ℕ → Inside → Option Inside → Type 0
Entered loops s None = s.free ≡ 0
Entered loops s (Some i) = (i.cell ≡ s.cell) × (i.loops ≡ loops) × (i.free + 1 ≡ s.free)
