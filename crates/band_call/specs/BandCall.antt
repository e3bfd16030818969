-- One band's call: what is lent to it, whether it is refused, and what it leaves.
use Rattle.std.specs.Prelude.{Bool, not, ◌&&◌, List, ℕ, ◌+◌, ◌*◌, length, get_or, drop, replicate, eqb, leb, ltb, ℤ, pos, nat_abs, if◌then◌else◌}
use Rattle.automaton.specs.Step.{Fault, no_fault, fault_at, Step}
use Rattle.automaton.specs.Shape.{product, Bound}
use Rattle.automaton.specs.Bands.{Band, rows_in, rows_with, band_step}
use Rattle.program.specs.Syntax.{Program}
use Rattle.grammar.specs.Checking.{read_source}
use Rattle.cell_meaning.specs.Evaluation.{evaluate}
use Rattle.cell_meaning.specs.Written.{written_in}
use Rattle.program.specs.Refusal.{Refusal, refusal}
use Rattle.run_meaning.specs.Admission.{good_times, too_far, out_of_field}
use Rattle.run_meaning.specs.Report.{Report, refused, ended}
use Rattle.run_calls.specs.Calls.{NameForm, SourceLent, SourceLeft, source_left}
use Rattle.band_meaning.specs.Edge.{edge}
use Rattle.band_meaning.specs.OnSizes.{on_sizes, by_grid}

-- how many cells a row has
abbrev pub row_cells : List ℕ → ℕ
row_cells sizes = product (drop 1 sizes)

-- what is asked: the sizes of the grid, the band, how many rows can be held, the band's old rows with borders, the room for its next rows, and the
-- time
abbrev pub BandAsked : Type 0
BandAsked = record { sizes : List ℕ; band : Band; held : ℕ; rows : List ℤ; room : List ℤ; time : ℤ }

-- ---- refusals

-- the band could stand in an accepted plan for n rows, else 60: it is not reversed, not past the last row, and its rows with borders can be held
unfoldable pub band_right : ℕ → Bound → ℕ → Band → Bool
band_right n border held b = leb b.first b.last && (ltb b.last n && leb (rows_with border b) held)

-- the rows lent are the band's own with borders, and the room is for its own, else 21
unfoldable pub band_rooms : (row fields rows room : ℕ) → Bound → Band → Bool
band_rooms row fields rows room border b = eqb rows (rows_with border b * row * fields) && eqb room (rows_in b * row * fields)

-- 60, 21, 22 (as of a run of one step), 23, 24 (of the rows lent), tried in this order; number 0: the call is admitted
unfoldable pub band_refusal : Program → BandAsked → Refusal
band_refusal p q =
    let far = too_far q.sizes (written_in p) in
    if not (band_right (get_or q.sizes 0 0) (edge p) q.held q.band) then refusal 60 0
    else if not (band_rooms (row_cells q.sizes) (length p.fields) (length q.rows) (length q.room) (edge p) q.band) then refusal 21 0
    else if not (good_times q.time (pos 1)) then refusal 22 0
    else if not (eqb far.number 0) then far
    else out_of_field p.fields 0 q.rows

-- ---- the report

-- the step of a band, by its old rows with borders and the time alone
unfoldable pub band_stepped : Program → BandAsked → Step (List ℤ)
band_stepped p q =
    band_step (drop 1 q.sizes) (length p.fields) (evaluate p)
    (rows_with (edge p) q.band) (edge p).back (rows_in q.band) q.rows (nat_abs q.time)

-- one step is done, and the room holds the band's next rows; at a fault none is, the room holds zeros, and the cell is named by its number in the
-- whole grid, of which the band's first is `from`
abbrev pub band_ended : (from lent : ℕ) → Fault → Step (List ℤ) → Report
band_ended from lent no_fault s = ended no_fault 1 s.count s.grid
band_ended from lent (fault_at cell number place) s = ended (fault_at (from + cell) number place) 0 s.count (replicate lent (pos 0))

-- the report of a band's call, where the sizes are right; its grid is the room that is left
unfoldable pub band_report : Program → BandAsked → Report
band_report p q =
    let r = band_refusal p q in
    let s = band_stepped p q in
    if eqb r.number 0 then band_ended (q.band.first * row_cells q.sizes) (length q.room) s.fault s
    else refused r.number r.place 0 q.room

-- with the source read and the sizes tried before it
unfoldable pub band_source : Bool → List ℕ → BandAsked → Report
band_source fit source q =
    by_grid (λ number place. refused number place 0 q.room) (λ p. band_report p q) (on_sizes q.sizes (read_source fit source))

-- ---- the call

abbrev pub band_asked : List ℕ → (first last held : ℕ) → List ℤ → List ℤ → ℤ → BandAsked
band_asked sizes first last held rows room time =
    record { sizes = sizes; band = record { first = first; last = last }; held = held; rows = rows; room = room; time = time }

-- what a band's call leaves of what it is lent: a source with its memory, and what is asked; the grid of the report is the room
unfoldable pub band_left : {N : Type 0} → NameForm N → SourceLent N → BandAsked → SourceLeft N Report
band_left form l q = source_left form l (λ fit source. band_source fit source q)
