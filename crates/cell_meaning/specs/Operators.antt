-- What an operator gives, by its kind of token. Relations and logic give 0 or 1.
use Rattle.std.specs.Prelude.{Ok, Err, ℕ, eqb, ℤ, if◌then◌else◌}
use Rattle.value.specs.declared.Value.{Value}
use Rattle.value.specs.declared.Fault.TheVariants.{OutOfRange, ZeroDivisor}
use Rattle.value.specs.Worked.{Worked, value, add_of, subtract_of, multiply_of, negate_of, divide_of, remainder_of, equal_of, not_equal_of, less_of, at_most_of, greater_of, at_least_of, and_of, or_of, not_of}
use Rattle.automaton.specs.Step.{Outcome, result, fault}
use Rattle.token.specs.Kind.{relation, operation}

-- what an operation of the value type gives, with the operator's place: 30 the result is out of range, 31 the divisor is zero
abbrev pub placed : ℕ → Worked → Outcome ℤ
placed place (Ok v) = result v.n
placed place (Err OutOfRange) = fault 30 place
placed place (Err ZeroDivisor) = fault 31 place

-- a unary operator: `-`, `!`, else `+`
unfoldable pub apply_unary : ℕ → ℤ → Worked
apply_unary op a =
    if eqb op operation.minus then negate_of a
    else if eqb op operation.not then Ok (not_of a)
    else Ok (value a)

-- a relation or logic: never a fault
unfoldable pub compare : ℕ → ℤ → ℤ → Value
compare op a b =
    if eqb op relation.equal then equal_of a b
    else if eqb op relation.unequal then not_equal_of a b
    else if eqb op relation.less then less_of a b
    else if eqb op relation.greater then greater_of a b
    else if eqb op relation.at_most then at_most_of a b
    else if eqb op relation.at_least then at_least_of a b
    else if eqb op operation.and then and_of a b
    else or_of a b

-- a binary operator
unfoldable pub apply_binary : ℕ → ℤ → ℤ → Worked
apply_binary op a b =
    if eqb op operation.plus then add_of a b
    else if eqb op operation.minus then subtract_of a b
    else if eqb op operation.times then multiply_of a b
    else if eqb op operation.slash then divide_of a b
    else if eqb op operation.percent then remainder_of a b
    else Ok (compare op a b)
