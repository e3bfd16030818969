-- A bound, by how many border rows there are before and behind.
use Rattle.std.specs.Prelude.{ℕ}
use Rattle.automaton.specs.Shape.{Bound}

abbrev pub bound : ℕ → ℕ → Bound
bound before behind = record { back = before; ahead = behind }
