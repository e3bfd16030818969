-- Running a source on a grid: what it gives, and what the lent memory holds afterwards.
use Rattle.std.specs.Prelude.{Bool, false, List, ℕ, length, replicate, eqb, if◌then◌else◌}
use Rattle.std.proofs.Math.Option.{Option, some, none}
use Rattle.automaton.specs.Rows.{row_counts}
use Rattle.grammar.specs.Source.{Accepted}
use Rattle.grammar.specs.Checking.{SourceRead, by_outcome, read_source}
use Rattle.program.specs.Syntax.{Program}
use Rattle.move_meaning.specs.Profile.{profile_flag}
use Rattle.run_meaning.specs.Report.{Manner, full, quiet, pausing, resuming, Report, refused}
use Rattle.run_calls.specs.Running.{CountsAsked, Asked, admitted, report_of, run, standing}

-- a run reads the source first
abbrev pub run_read : Manner → List ℕ → Asked → SourceRead → Report
run_read manner source q =
    by_outcome (λ number place. refused number place 0 q.request.grid) (λ a. run manner a.program (profile_flag source a) q)

-- the report that a run of a source gives, with the grid that it leaves
unfoldable pub run_source : Manner → Bool → List ℕ → Asked → Report
run_source manner fit source q = run_read manner source q (read_source fit source)

-- whether a run of an accepted source begins: it is admitted
abbrev pub begins_with : List ℕ → Asked → Accepted → Bool
begins_with source q a = eqb (admitted a.program (profile_flag source a) q).number 0

-- whether a run of what is read begins: the source is accepted, and the run is admitted
abbrev pub run_begins : List ℕ → Asked → SourceRead → Bool
run_begins source q = by_outcome (λ number place. false) (begins_with source q)

-- what is new after a run that began, by its program, else what was
abbrev pub when_begun : {A : Type 0} → List ℕ → Asked → A → (Program → A) → SourceRead → A
when_begun source q old new = by_outcome (λ number place. old) (λ a. if begins_with source q a then new a.program else old)

-- scratch after a run: zeros after one that began, even with 0 steps, else as it was
unfoldable pub room_after : {A : Type 0} → A → Bool → List ℕ → Asked → List A → List A
room_after zero fit source q old = if run_begins source q (read_source fit source) then replicate (length old) zero else old

-- the marks that an admitted run leaves: those that stand, where its manner leaves any, else zeros
abbrev pub marks_admitted : Manner → Program → Asked → List ℕ → List ℕ
marks_admitted full p q old = replicate (length old) 0
marks_admitted quiet p q old = replicate (length old) 0
marks_admitted pausing p q old = standing pausing p q
marks_admitted (resuming marks) p q old = standing (resuming marks) p q

-- the marks after a run of a source
unfoldable pub marks_after : Manner → Bool → List ℕ → Asked → List ℕ → List ℕ
marks_after manner fit source q old = when_begun source q old (λ p. marks_admitted manner p q old) (read_source fit source)

-- the row counts that an admitted run leaves: those of the grid that it leaves, if it is asked for any
abbrev pub counts_admitted : Manner → Program → Asked → List ℕ → Option CountsAsked → List ℕ
counts_admitted manner p q old none = old
counts_admitted manner p q old (some c) = row_counts q.request.sizes (length p.fields) c.field (report_of manner p q).grid

-- the counts after a run of a source
unfoldable pub counts_after : Manner → Bool → List ℕ → Asked → List ℕ → List ℕ
counts_after manner fit source q old = when_begun source q old (λ p. counts_admitted manner p q old q.counts) (read_source fit source)
