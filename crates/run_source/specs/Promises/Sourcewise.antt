-- What the functions of a run of a source promise.
use Rattle.std.specs.Prelude.{◌≡◌, Bool, true, false, ◌&&◌, List, ℕ, ◌+◌, ◌<◌, ◌≤◌, length, get_or, replicate, eqb, ltb, pos, nat_abs, Result, Ok, Err}
use Rattle.value.specs.Limits.{most_cells}
use Rattle.automaton.specs.Shape.{product}
use Rattle.token.specs.Lexeme.{is_built_in}
use Rattle.automaton.specs.Promises.ShapeLaws.{Shaped}
use Rattle.program.specs.declared.Rule.{Rule}
use Rattle.grammar.specs.Source.{Accepted}
use Rattle.grammar.specs.Checking.{read_source, accepted, words_after}
use Rattle.grammar.specs.Promises.Flat.{names_after}
use Rattle.move_meaning.specs.Profile.{profile_flag}
use Rattle.run_meaning.specs.declared.Reach.{Reach}
use Rattle.run_meaning.specs.Report.{Manner, refused}
use Rattle.program.specs.Promises.Fitting.{Sized}
use Rattle.run_meaning.specs.Promises.Fitting.{Near}
use Rattle.list_reader.specs.Promises.Points.{Dimensions}
use Rattle.run_calls.specs.Running.{Asked, admitted}
use Rattle.run_calls.specs.Services.{run_begins, run_source}
use Rattle.run_calls.specs.Calls.{flat_names, Memory, Lent}
use Rattle.run_steps.specs.declared.Report.{Report}
use Rattle.run_steps.specs.declared.Manner.{Manner as Way}
use Rattle.run_steps.specs.declared.Manner.TheVariants.{Full, Quiet, Pausing, Resuming}
use Rattle.run_source.specs.Promises.Public.{RunLeaves}
use Rattle.run_source.specs.declared.opening.Opening.{Opening}
use Rattle.run_source.specs.declared.opening.Stop.{Stop}
use Rattle.run_steps.specs.Promises.Stepwise.{Listed, Runs}

-- whether every cell is open in every step: in a full run, and where `time` stands in the source
abbrev pub every_step : Way → Bool → Bool
every_step Full timed = true
every_step Quiet timed = timed
every_step Pausing timed = timed
every_step Resuming timed = timed

-- the marks that a run leaves of those that stand
abbrev pub marks_left : Way → List ℕ → List ℕ
marks_left Full marks = replicate (length marks) 0
marks_left Quiet marks = replicate (length marks) 0
marks_left Pausing marks = marks
marks_left Resuming marks = marks

-- ---- the beginning

-- the row counts are right that a run is to keep, if any
abbrev pub counts_right : Bool → ℕ → ℕ → ℕ → List ℕ → Bool
counts_right true field rows fields sizes = ltb field fields && eqb rows (get_or sizes 0 0)
counts_right false field rows fields sizes = true

-- a run begins: the source is accepted, and its program stands in the table with this reach; the run is admitted
pub record RunBegun (fit : Bool) (source : List ℕ) (q : Asked) (words : List ℕ) (rule : Rule) (r : Reach) : Type 0 where
  pub read : Accepted
  pub is : read_source fit source ≡ accepted read
  pub admits : (admitted read.program (profile_flag source read) q).number ≡ 0
  pub runs : Runs words rule r rule.timed read.program
  pub rule_fits : Sized (length words) rule
  pub some_dims : 0 < rule.dims
  pub shaped : Shaped rule.dims rule.fields most_cells q.request.sizes (length q.request.grid)
  pub scratch_fits : q.request.scratch ≡ length q.request.grid
  pub marks_fit : q.request.marks ≡ product q.request.sizes
  pub near : Near q.request.sizes r.bounds
  pub start_is : q.request.start ≡ pos (nat_abs q.request.start)
  pub steps_is : q.request.steps ≡ pos (nat_abs q.request.steps)
  pub times : nat_abs q.request.start + nat_abs q.request.steps ≤ 2147483647
  pub dimensions : Dimensions q.request.sizes
  pub listed : Listed q.request.sizes q.values (nat_abs q.request.start)

-- why a run does not begin: the number and the place of the reply, and its line in the value list
abbrev pub run_stopped : ℕ → ℕ → ℕ → Stop
run_stopped number place line = record { number = number; place = place; line = line }

-- the report of a run that does not begin
abbrev pub not_begun : Stop → Report
not_begun s = record { number = s.number; place = s.place; line = s.line; cell = 0; steps = 0; count = 0 }

-- whether a run of a source begins, and what it leaves of word table and name list
pub record RunOpens (fit : Bool) (source ws ns : List ℕ) (q : Asked) (r : Result Opening Stop) (ws' ns' : List ℕ) : Type 0 where
  pub words : ws' ≡ words_after fit source ws
  pub names : ns' ≡ names_after fit source ns
  pub closed : (s : Stop) → r ≡ Err s → run_begins source q (read_source fit source) ≡ false
  pub refuses : (s : Stop) → r ≡ Err s → (manner : Manner) → run_source manner fit source q ≡ refused s.number s.place s.line q.request.grid
  pub opened : (o : Opening) → r ≡ Ok o → RunBegun fit source q ws' o.rule o.reach

-- ---- the whole run

-- a run leaves what the definition leaves (`RunLeaves`), of every built-in list; `lends` is what is lent, by the list
pub record RunsListed (manner : Manner) (lends : List ℕ → Lent ℕ) (r : Report) (m : Memory ℕ) : Type 0 where
  pub each : (list : List ℕ) → is_built_in list ≡ true → RunLeaves flat_names manner (lends list) r m
