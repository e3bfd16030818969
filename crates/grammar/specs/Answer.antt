-- The line that the program writes for a checked source: `accepted`, or for example `refused 8 at 26`, and a line feed.
use Rattle.std.specs.Prelude.{List, ◌++◌, ℕ, eqb, if◌then◌else◌}
use Rattle.token.specs.Bytes.{as_bytes}
use Rattle.program.specs.Refusal.{Refusal}
use Rattle.grammar.specs.Decimal.{digits_of}

-- the line for a reply
unfoldable pub answer_line : Refusal → List ℕ
answer_line c =
    if eqb c.number 0 then as_bytes "accepted\n"
    else as_bytes "refused " ++ digits_of 9 c.number ++ as_bytes " at " ++ digits_of 9 c.place ++ as_bytes "\n"
