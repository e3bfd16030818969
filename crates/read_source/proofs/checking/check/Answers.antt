use Rattle.read_source.proofs.Checks.{unlisted, listed}
use Rattle.read_source.specs.Promises.Promises.{refusal_in}
use Rattle.read_source.proofs.checking.check.Goals as goal

pub returns-then-not-is_built_in : goal.returns-then-not-is_built_in
returns-then-not-is_built_in c = unlisted c.args.list.now c.is_built_in.ensures c.if-not-is_built_in.true-raw

pub returns-in-Ok : goal.returns-in-Ok
returns-in-Ok c = listed c.args.list.now c.is_built_in.ensures c.if-not-is_built_in.false-raw (rw c.in-Ok.is at c.load.ensures.checks)

pub returns-in-Err : goal.returns-in-Err
returns-in-Err c = listed c.args.list.now c.is_built_in.ensures c.if-not-is_built_in.false-raw (rw c.in-Err.is at c.load.ensures.checks)
