use mathlib.Core.Path.{◌≡◌}
use lib.ListN.{get_or}
use borrow.Author.Rules.{rules}
use Rattle.names.proofs.Spelling.{lower_fold}
use Rattle.names.proofs.folded.Goals as goal

pub returns-in-Some : goal.returns-in-Some
returns-in-Some c =
    let b : c.in-Some.b.now ≡ get_or c.args.source.now c.args.i 0 = search rules in
    search lower_fold
