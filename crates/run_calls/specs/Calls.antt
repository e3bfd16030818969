-- Calls that read a source, and a run as a call: what is lent to them, what they leave, and the one definition from the first to the second.
use Rattle.std.specs.Prelude.{Bool, ◌&&◌, List, ℕ, length, ℤ, pos}
use Rattle.token.specs.Lexeme.{is_built_in}
use Rattle.grammar.specs.Checking.{SourceRead, rooms_fit, read_source, room_left, words_after}
use Rattle.run_meaning.specs.Report.{Manner, Report}
use Rattle.run_calls.specs.Running.{counts_of, Asked, ask}
use Rattle.run_calls.specs.Services.{run_source, room_after, marks_after, counts_after}

-- how the name list is lent: whether a word table and a name list of these lengths fit, the entry where no name is declared, and the entries for the
-- flat words of a name list
abbrev pub NameForm : Type 0 → Type 0
NameForm N = record { fit : ℕ → ℕ → Bool; none : N; entries : List ℕ → List N }

-- flat words, four a name
abbrev pub flat_names : NameForm ℕ
flat_names = record { fit = rooms_fit; none = 0; entries = λ words. words }

-- what every call that reads a source is lent for it: the source, the built-in list, the word table, and the name list
abbrev pub SourceLent : Type 0 → Type 0
SourceLent N = record { source : List ℕ; list : List ℕ; words : List ℕ; names : List N }

abbrev pub source_lent : {N : Type 0} → List ℕ → List ℕ → List ℕ → List N → SourceLent N
source_lent source list words names = record { source = source; list = list; words = words; names = names }

-- word table and name list are of the right lengths, and the built-in list is the one there is
abbrev pub source_fits : {N : Type 0} → NameForm N → SourceLent N → Bool
source_fits form l = is_built_in l.list && form.fit (length l.words) (length l.names)

-- what such a call leaves: its answer, with what else it is lent to write; the word table, and the name list
abbrev pub SourceLeft : Type 0 → Type 0 → Type 0
SourceLeft N A = record { answer : A; words : List ℕ; names : List N }

-- the name list after a source is read
abbrev pub names_left : {N : Type 0} → NameForm N → Bool → List ℕ → List N → List N
names_left form fit source old = room_left form.none old (λ a. form.entries a.names) (read_source fit source)

-- what a call leaves that answers `f`, by whether what is lent fits and by the source
abbrev pub source_left : {N A : Type 0} → NameForm N → SourceLent N → (Bool → List ℕ → A) → SourceLeft N A
source_left form l f =
    let fit = source_fits form l in
    record { answer = f fit l.source; words = words_after fit l.source l.words; names = names_left form fit l.source l.names }

-- the memory that a run is lent to write, before the call or after it
abbrev pub Memory : Type 0 → Type 0
Memory N = record { words : List ℕ; names : List N; grid : List ℤ; scratch : List ℤ; marks : List ℕ; counts : List ℕ }

abbrev pub memory : {N : Type 0} → List ℕ → List N → List ℤ → List ℤ → List ℕ → List ℕ → Memory N
memory words names grid scratch marks counts = record { words = words; names = names; grid = grid; scratch = scratch; marks = marks; counts = counts }

-- what a run is lent: the source, the built-in list, the sizes, the memory, the value list, the start time, the number of steps, whether it keeps
-- row counts, and the field that they are of
abbrev pub Lent : Type 0 → Type 0
Lent N = record { source : List ℕ; list : List ℕ; sizes : List ℕ; memory : Memory N; values : List ℕ; start : ℤ; steps : ℤ; counted : Bool; field : ℕ }

abbrev pub lent : {N : Type 0} → List ℕ → List ℕ → List ℕ → Memory N → List ℕ → ℤ → ℤ → Bool → ℕ → Lent N
lent source list sizes m values start steps counted field =
    record { source = source; list = list; sizes = sizes; memory = m; values = values; start = start; steps = steps; counted = counted; field = field }

-- what a run leaves: its report, and the memory
abbrev pub Left : Type 0 → Type 0
Left N = record { report : Report; memory : Memory N }

-- what is lent for the source fits
abbrev pub fits : {N : Type 0} → NameForm N → Lent N → Bool
fits form l = source_fits form (source_lent l.source l.list l.memory.words l.memory.names)

-- what is asked of the run
abbrev pub asked : {N : Type 0} → Lent N → Asked
asked l =
    let m = l.memory in
    ask (record { sizes = l.sizes; grid = m.grid; start = l.start; steps = l.steps; scratch = length m.scratch; marks = length m.marks })
    l.values (counts_of l.counted l.field (length m.counts))

-- how reading the source ends
abbrev pub read_lent : {N : Type 0} → NameForm N → Lent N → SourceRead
read_lent form l = read_source (fits form l) l.source

-- the report of a run
abbrev pub run_report : {N : Type 0} → NameForm N → Manner → Lent N → Report
run_report form manner l = run_source manner (fits form l) l.source (asked l)

-- what a run leaves of what it is lent
unfoldable pub run_left : {N : Type 0} → NameForm N → Manner → Lent N → Left N
run_left form manner l =
    let fit = fits form l in
    let m = l.memory in
    let said = run_report form manner l in
    let words = words_after fit l.source m.words in
    let names = names_left form fit l.source m.names in
    let scratch = room_after (pos 0) fit l.source (asked l) m.scratch in
    let marks = marks_after manner fit l.source (asked l) m.marks in
    let counts = counts_after manner fit l.source (asked l) m.counts in
    record { report = said; memory = memory words names said.grid scratch marks counts }
