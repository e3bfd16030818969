use native.Mathlib.Omega.{arith}
use borrow.Author.Tests.{eq-eqb, ne_eqb}
use Rattle.grammar.specs.Expressions.{named_index}
use Rattle.read_state.proofs.Steps.{so, other, made, named, refused, used}
use Rattle.read_state.proofs.Going.{nowhere, goes_on}
use Rattle.read_expressions.proofs.named_index.Goals as goal

pub returns-then-e-eq-INDEX : goal.returns-then-e-eq-INDEX
unfolding named_index
returns-then-e-eq-INDEX c =
    let pre = c.requires in
    let entry_in = c.entry_in-e in
    let if1 = c.if-e-eq-INDEX in
    let use_name = c.use_name in
    λ source t. let u = use_name.ensures in record { gives = named _ _ entry_in.ensures (so _ _ (eq-eqb _ _ if1.true) (made _ (used _ entry_in.ensures u) (λ _ _ _. tt))); onward = goes_on (omega (arith, u.at)) (omega (arith, u.at, pre.1)) (omega (arith, u.count)) }

pub returns-then-e-eq-CONSTANT : goal.returns-then-e-eq-CONSTANT
unfolding named_index
returns-then-e-eq-CONSTANT c =
    let pre = c.requires in
    let entry_in = c.entry_in-e in
    let if1 = c.if-e-eq-INDEX in
    let if2 = c.if-e-eq-CONSTANT in
    let use-name2 = c.use_name-then-e-eq-CONSTANT in
    λ source t. let u = use-name2.ensures in record { gives = named _ _ entry_in.ensures (other _ _ (ne_eqb _ _ if1.false) (so _ _ (eq-eqb _ _ if2.true) (made _ (used _ entry_in.ensures u) (λ _ _ _. tt)))); onward = goes_on (omega (arith, u.at)) (omega (arith, u.at, pre.1)) (omega (arith, u.count)) }

pub returns : goal.returns
unfolding named_index
returns c =
    let entry_in = c.entry_in-e in
    let if1 = c.if-e-eq-INDEX in
    let if2 = c.if-e-eq-CONSTANT in
    let refuse = c.refuse in
    λ source t. let y = refuse.ensures in record { gives = named _ _ entry_in.ensures (other _ _ (ne_eqb _ _ if1.false) (other _ _ (ne_eqb _ _ if2.false) (refused _ y))); onward = nowhere y }
