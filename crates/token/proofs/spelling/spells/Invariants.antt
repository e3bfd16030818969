use Rattle.token.proofs.Words.{Comparing}
use Rattle.token.proofs.spelling.spells.Given as goal

abbrev pub invariant-loop-b : goal.invariant-loop-b
invariant-loop-b l =
    (goal.iterator-loop-b).can_next l.b-iterator × (goal.iterator-loop-b).is_finite l.b-iterator
    × Comparing l.word l.letters l.b-iterator.a.rest.now l.b-iterator.b.rest.now
