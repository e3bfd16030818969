-- The writer as a call: what is lent to it, what it leaves, and the one definition from the first to the second.
use Rattle.std.specs.Prelude.{List, ℕ, ℤ, Result, Ok, Err}
use Rattle.program.specs.Refusal.{Refusal}
use Rattle.list_meaning.specs.Writing.{Wanted, Wrote, unwritten, write_source}
use Rattle.run_calls.specs.Calls.{NameForm, SourceLent, SourceLeft, source_left}

-- what is wanted: the sizes, the grids at the last block and now, and the time
abbrev pub wanted : List ℕ → List ℤ → List ℤ → ℤ → Wanted
wanted sizes earlier later time = record { sizes = sizes; earlier = earlier; later = later; time = time }

-- what the writer leaves of what it is lent: a source with its memory, what is wanted, and a room for the text
unfoldable pub writer_left : {N : Type 0} → NameForm N → SourceLent N → Wanted → List ℕ → SourceLeft N Wrote
writer_left form l q room = source_left form l (λ fit source. write_source fit source q room)

-- the numbers of what is returned, the text's length or a refusal, with the room
abbrev pub wrote_of : Result ℕ Refusal → List ℕ → Wrote
wrote_of (Ok length) room = record { number = 0; place = 0; length = length; room = room }
wrote_of (Err e) room = unwritten e.number e.place room
