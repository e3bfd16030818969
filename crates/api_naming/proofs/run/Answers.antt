use Rattle.run_source.proofs.RunLaws.{read_times}
use Rattle.api_naming.proofs.run.Goals as goal

pub returns : goal.returns
returns c = read_times c.ranges.start c.ranges.steps c.run-report.ensures.0
