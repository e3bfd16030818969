use Rattle.token.proofs.Blanks.{Comments}
use Rattle.token.proofs.runs.comment_end.Goals as goal

pub loop-end-preserved : goal.loop-end-preserved
loop-end-preserved c = search Comments
