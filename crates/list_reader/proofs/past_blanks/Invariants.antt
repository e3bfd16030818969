use mathlib.Core.Path.{◌≡◌}
use lib.ListN.{drop}
use Rattle.list_meaning.specs.Text.{pieces}
use Rattle.list_reader.proofs.past_blanks.Given as goal

abbrev pub invariant-loop-k : goal.invariant-loop-k
invariant-loop-k l = pieces 0 l.line ≡ pieces 0 (drop l.k l.line)
