-- The built-in list that is lent is right.
use Rattle.std.proofs.Common.{rules}
use Rattle.tool_planned_run.proofs.BandedLaws.{banded_of}
use Rattle.tool_planned_run.proofs.run_under.Goals as goal

pub returns : goal.returns
returns c = banded_of (search rules) (search rules) c.run_banded.ensures
