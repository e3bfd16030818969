use mathlib.Core.Path.{refl}
use native.Mathlib.Omega.{arith}
use Rattle.token.proofs.Words.{group, no_group}
use Rattle.token.proofs.spelling.group_of.Goals as goal

pub returns-in-2 : goal.returns-in-2
returns-in-2 c = group 2 (omega arith) (record { is = refl; few = omega arith; order = omega arith })

pub returns-in-3 : goal.returns-in-3
returns-in-3 c = group 3 (omega arith) (record { is = refl; few = omega arith; order = omega arith })

pub returns-in-4 : goal.returns-in-4
returns-in-4 c = group 4 (omega arith) (record { is = refl; few = omega arith; order = omega arith })

pub returns-in-5 : goal.returns-in-5
returns-in-5 c = group 5 (omega arith) (record { is = refl; few = omega arith; order = omega arith })

pub returns-in-6 : goal.returns-in-6
returns-in-6 c = group 6 (omega arith) (record { is = refl; few = omega arith; order = omega arith })

pub returns-in-9 : goal.returns-in-9
returns-in-9 c = group 9 (omega arith) (record { is = refl; few = omega arith; order = omega arith })

pub returns-in-10 : goal.returns-in-10
returns-in-10 c = group 10 (omega arith) (record { is = refl; few = omega arith; order = omega arith })

pub returns-in_default : goal.returns-in_default
returns-in_default c = search no_group
