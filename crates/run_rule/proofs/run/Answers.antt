-- The word table, the row of records and the built-in list that are lent are right.
use Rattle.std.proofs.Common.{rules}
use Rattle.run_rule.proofs.RunLaws.{runs_of}
use Rattle.run_rule.proofs.run.Goals as goal

pub returns : goal.returns
returns c =
    rw (← c.is_some.ensures, ← c.unwrap_or.ensures) (runs_of c.requires c.no_names-names.ensures (search rules) (search rules) c.run.ensures)
