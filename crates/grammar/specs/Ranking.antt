-- How the reply is chosen among refusals: the smallest place wins, then the lowest number; but 40 to 45 go behind 9 and before 12.
use Rattle.std.specs.Prelude.{Bool, ◌&&◌, ◌||◌, ℕ, ◌+◌, ◌*◌, eqb, leb, ltb, if◌then◌else◌}
use Rattle.program.specs.Refusal.{Refusal, refusal}
use Rattle.token.specs.declared.Token.{Token}
use Rattle.token.specs.Kind.{kind}

-- where several rules are broken at one place, the one of lowest rank counts. Numbers rank by size, but 40 to 45 rank as 10, among
-- themselves by size
unfoldable pub rank : ℕ → ℕ
rank n = if leb 40 n && leb n 45 then 1000 + n else 100 * n

-- the first of two numbers at one place
unfoldable pub first_number : ℕ → ℕ → ℕ
first_number m n = if leb (rank m) (rank n) then m else n

-- a goes before b, or is the same
unfoldable pub before : Refusal → Refusal → Bool
before a b = ltb a.place b.place || eqb a.place b.place && leb (rank a.number) (rank b.number)

-- the first of a refusal noted earlier, if there is one, and a new one
unfoldable pub first_of : Refusal → Refusal → Refusal
first_of noted new =
    if eqb noted.number 0 then new
    else if before noted new then noted
    else new

-- rule n is broken at token t. Where t is a stop, the first of the two numbers is given
unfoldable pub broken : ℕ → Token → Refusal
broken n t = refusal (if eqb t.kind kind.stop then first_number t.value n else n) t.start
