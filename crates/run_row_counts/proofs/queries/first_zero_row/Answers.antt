use Rattle.std.proofs.Common.{◌≡◌, sym, rules, tests}
use Rattle.std.proofs.lemmas.Iterator.{IsFirst-from_position, YieldsList-from_slice}
use Rattle.run_row_counts.proofs.QueryLaws.{row_refused, row_answered, first_found, none_found}
use Rattle.run_row_counts.proofs.queries.first_zero_row.Goals as goal

pub returns-then-not-one_a_row : goal.returns-then-not-one_a_row
returns-then-not-one_a_row c = row_refused _ (sym c.if-not-one_a_row.ensures)

pub returns-in-Some : goal.returns-in-Some
returns-in-Some c =
    row_answered _ (sym c.if-not-one_a_row.ensures) _
    (first_found _ _ c.in-Some.is (IsFirst-from_position _ _ _ (λ x. x ≡ 0 → ⊥) (λ x. x ≡ 0) c.position.ensures.ran (YieldsList-from_slice _ c.iter.ensures.rest) (λ x q k. search (rules, tests)) (λ x q k. search (rules, tests))))

pub returns-in-None : goal.returns-in-None
returns-in-None c =
    row_answered _ (sym c.if-not-one_a_row.ensures) _
    (none_found _ c.in-None.is (IsFirst-from_position _ _ _ (λ x. x ≡ 0 → ⊥) (λ x. x ≡ 0) c.position.ensures.ran (YieldsList-from_slice _ c.iter.ensures.rest) (λ x q k. search (rules, tests)) (λ x q k. search (rules, tests))))
