-- A run of a program: what is asked of it, whether it is admitted, and its report.
use Rattle.std.specs.Prelude.{Bool, true, false, not, ◌&&◌, List, ℕ, length, get_or, eqb, ltb, ℤ, nat_abs, if◌then◌else◌}
use Rattle.std.proofs.Math.Option.{Option, some, none}
use Rattle.automaton.specs.Step.{Blocks, quiet_run}
use Rattle.program.specs.Syntax.{Program}
use Rattle.run_meaning.specs.Reach.{running}
use Rattle.run_meaning.specs.Admission.{Request, admission}
use Rattle.run_meaning.specs.Report.{Manner, Report, refused, ended, pending_of, run_by, count_of}
use Rattle.list_meaning.specs.ListChecking.{Turned, admission_with}
use Rattle.list_meaning.specs.Setting.{set_block}

-- the row counts that a run is asked to keep: the number of the field whose zeros are counted, and how many entries are lent for them
abbrev pub CountsAsked : Type 0
CountsAsked = record { field : ℕ; rows : ℕ }

-- none, where it is not asked to
abbrev pub counts_of : Bool → ℕ → ℕ → Option CountsAsked
counts_of true field rows = some (record { field = field; rows = rows })
counts_of false field rows = none

-- what is asked of a run: what 20 to 24 are tried on; the text of the value list, which is empty where there is none; and the row counts
abbrev pub Asked : Type 0
Asked = record { request : Request; values : List ℕ; counts : Option CountsAsked }

abbrev pub ask : Request → List ℕ → Option CountsAsked → Asked
ask q values counts = record { request = q; values = values; counts = counts }

-- the counts are of a field that there is, and one a row of the first dimension, else 61
abbrev pub good_counts : Program → List ℕ → Option CountsAsked → Bool
good_counts p sizes none = true
good_counts p sizes (some c) = ltb c.field (length p.fields) && eqb c.rows (get_or sizes 0 0)

-- 20 to 24, then 61, and then the list, of a program whose flag is the given field, if it has one; number 0: the run is admitted
unfoldable pub admitted : Program → Option ℕ → Asked → Turned
admitted p flag q =
    let r = q.request in
    if eqb (admission p r).number 0 && not (good_counts p r.sizes q.counts) then record { number = 61; place = 0; line = 0 }
    else admission_with p flag r q.values

-- what is set into the grid at each time: the block that the list has for it
abbrev pub blocks : Program → Asked → Blocks (List ℤ)
blocks p q = set_block q.request.sizes (length p.fields) q.values

-- n steps of an admitted run with their blocks, or those before the first faulting one
unfoldable pub report_of : Manner → Program → Asked → Report
report_of manner p q =
    let M = running p q.request.sizes in
    let n = nat_abs q.request.steps in
    let t = nat_abs q.request.start in
    let r = run_by manner M (blocks p q) n t q.request.grid in
    ended r.fault r.steps (count_of manner M (blocks p q) n t q.request.grid) r.grid

-- the marks that stand after an admitted run: 1 for a cell that one more step would open, else 0; after a fault all 0
unfoldable pub standing : Manner → Program → Asked → List ℕ
standing manner p q =
    (quiet_run (running p q.request.sizes) (blocks p q) (pending_of manner) (nat_abs q.request.steps) (nat_abs q.request.start)
    q.request.grid).marks

-- a run of a program: refused with 20 to 24 or for its list, or its report
unfoldable pub run : Manner → Program → Option ℕ → Asked → Report
run manner p flag q =
    let a = admitted p flag q in
    if eqb a.number 0 then report_of manner p q else refused a.number a.place a.line q.request.grid
