use mathlib.Core.List.{map}
use Rattle.token.specs.Bytes.{fold}
use Rattle.token.proofs.Words.{Seeking}
use Rattle.token.proofs.spelling.find_kind.Given as goal

abbrev pub invariant-loop-letters : goal.invariant-loop-letters
invariant-loop-letters l = Seeking (map fold l.word) l.table l.letters-index
