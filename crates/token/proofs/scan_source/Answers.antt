use borrow.Author.Rules.{rules}
use Rattle.token.proofs.Scans.{scans}
use Rattle.token.proofs.scan_source.Goals as goal

pub returns : goal.returns
returns c = scans _ _ _ c.read_tokens-scan.ensures (search rules) (c.fill.ensures.after (search rules))
