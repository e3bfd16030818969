use mathlib.Core.Path.{refl, sym, ap, ◌∙◌}
use borrow.Author.Rules.{rules}
use Rattle.std.specs.Prelude.{Err}
use Rattle.program.specs.Refusal.{Refusal}
use Rattle.run_source.specs.Promises.Sourcewise.{run_stopped}
use Rattle.run_loading.proofs.Theorems.SourceLoaded.{accepts}
use Rattle.run_source.proofs.OpeningLaws as laws
use Rattle.run_source.proofs.OpeningLaws.{stopped_by, unread, not_admitted, some_sizes, not_counted, flag_ready, list_ready, not_listed, begun, read_opens}
use Rattle.run_source.proofs.opening.open_run.Goals as goal

pub returns-in_err-rule : goal.returns-in_err-rule
returns-in_err-rule c = unread (rw c.in_err-rule.was at c.load.ensures.checks) (rw c.in_err-rule.was at c.load.ensures.loads) refl (stopped_by c.from_residual.ensures.1)

pub admit-requires : goal.admit-requires
admit-requires c = let a = accepts (rw c.in_ok-rule.was at c.load.ensures.checks) (rw c.in_ok-rule.was at c.load.ensures.loads) refl in (a.sized, a.some_fields)

pub returns-in_err-reach : goal.returns-in_err-reach
returns-in_err-reach c =
    read_opens c.ranges.start c.ranges.steps
    (not_admitted (rw c.in_ok-rule.was at c.load.ensures.checks) (rw c.in_ok-rule.was at c.load.ensures.loads) refl c.admit.ensures c.in_err-reach.was (stopped_by c.from_residual-in_err-reach.ensures.1))

pub counts_fit-requires : goal.counts_fit-requires
counts_fit-requires c = some_sizes (rw c.in_ok-rule.was at c.load.ensures.checks) (rw c.in_ok-rule.was at c.load.ensures.loads) refl c.admit.ensures c.in_ok-reach.was

pub returns-then-not-counts_fit : goal.returns-then-not-counts_fit
returns-then-not-counts_fit c =
    read_opens c.ranges.start c.ranges.steps
    (not_counted (rw c.in_ok-rule.was at c.load.ensures.checks) (rw c.in_ok-rule.was at c.load.ensures.loads) refl c.admit.ensures c.in_ok-reach.was c.args.counted c.args.field c.args.rows
    (sym c.counts_fit.ensures ∙ c.if-not-counts_fit.true) (ap Err (c.from.ensures ∙ ap (λ (x : Refusal). run_stopped x.number x.place 0) c.new.ensures)))

pub flag_of-flag-requires : goal.flag_of-flag-requires
flag_of-flag-requires c = flag_ready (rw c.in_ok-rule.was at c.load.ensures.checks) (rw c.in_ok-rule.was at c.load.ensures.loads) refl c.load.auto.names

pub overflow_cast-first : goal.overflow_cast-first
overflow_cast-first c = laws.cast_first c.admit.ensures c.in_ok-reach.was

pub overflow_cast-last : goal.overflow_cast-last
overflow_cast-last c = laws.cast_last c.admit.ensures c.in_ok-reach.was

pub overflow_add-last : goal.overflow_add-last
overflow_add-last c = laws.add_last c.admit.ensures c.in_ok-reach.was

pub check_list-requires : goal.check_list-requires
check_list-requires c = list_ready (rw c.in_ok-rule.was at c.load.ensures.checks) (rw c.in_ok-rule.was at c.load.ensures.loads) refl c.admit.ensures c.in_ok-reach.was

pub returns-in_err-check_list : goal.returns-in_err-check_list
returns-in_err-check_list c =
    read_opens c.ranges.start c.ranges.steps
    (not_listed (rw c.in_ok-rule.was at c.load.ensures.checks) (rw c.in_ok-rule.was at c.load.ensures.loads) refl c.admit.ensures c.in_ok-reach.was c.args.counted c.args.field c.args.rows
    (sym c.counts_fit.ensures ∙ c.if-not-counts_fit.false) c.flag_of-flag.ensures refl refl c.check_list.ensures c.in_err-check_list.was (stopped_by c.from_residual-in_err-check_list.ensures.1))

pub returns : goal.returns
returns c =
    read_opens c.ranges.start c.ranges.steps
    (begun (rw c.in_ok-rule.was at c.load.ensures.checks) (rw c.in_ok-rule.was at c.load.ensures.loads) refl c.admit.ensures c.in_ok-reach.was c.args.counted c.args.field c.args.rows
    (sym c.counts_fit.ensures ∙ c.if-not-counts_fit.false) c.flag_of-flag.ensures refl refl c.check_list.ensures c.in_ok-check_list.was)
