-- The answer of the public call as one of the definition.
use Rattle.std.specs.Prelude.{Result, Ok, Err}
use Rattle.move_meaning.specs.Profile.{Answer, missed}
use Rattle.move_profile.specs.declared.Missed.{Missed}
use Rattle.move_profile.specs.declared.Missed.TheVariants.{Refused, NoFlag, OtherStatements}

-- the answer, as numbers
abbrev pub answer_told : Result (Unit {0}) Missed → Answer
answer_told (Ok a) = missed 0 0 0
answer_told (Err (Refused r)) = missed 1 r.number r.place
answer_told (Err NoFlag) = missed 2 0 0
answer_told (Err OtherStatements) = missed 3 0 0
