-- How many border rows a band has, as a call: what it answers, and what it leaves of what is lent to it.
use Rattle.std.specs.Prelude.{Bool, List, ℕ, eqb, if◌then◌else◌}
use Rattle.program.specs.Syntax.{Program}
use Rattle.grammar.specs.Checking.{read_source}
use Rattle.cell_meaning.specs.Written.{written_in}
use Rattle.run_meaning.specs.Admission.{too_far}
use Rattle.run_calls.specs.Calls.{NameForm, SourceLent, SourceLeft, source_left}
use Rattle.band_meaning.specs.Edge.{edge}
use Rattle.band_meaning.specs.OnSizes.{on_sizes, by_grid}

-- the reply's number and place, and how many border rows a band has before and behind it
abbrev pub Borders : Type 0
Borders = record { number : ℕ; place : ℕ; before : ℕ; behind : ℕ }

-- a refusal
abbrev pub no_borders : ℕ → ℕ → Borders
no_borders number place = record { number = number; place = place; before = 0; behind = 0 }

-- what is replied, where the sizes are right: 23, else the border rows of the program
unfoldable pub borders : Program → List ℕ → Borders
borders p sizes =
    let far = too_far sizes (written_in p) in
    if eqb far.number 0 then record { number = 0; place = 0; before = (edge p).back; behind = (edge p).ahead }
    else no_borders far.number far.place

-- with the source read and the sizes tried before it
unfoldable pub borders_source : Bool → List ℕ → List ℕ → Borders
borders_source fit source sizes = by_grid no_borders (λ p. borders p sizes) (on_sizes sizes (read_source fit source))

-- what is left, for a grid of these sizes
unfoldable pub borders_left : {N : Type 0} → NameForm N → SourceLent N → List ℕ → SourceLeft N Borders
borders_left form l sizes = source_left form l (λ fit source. borders_source fit source sizes)
