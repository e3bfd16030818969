use Rattle.read_state.proofs.Steps.{on, on_told, so, other, token, named, found_it, missed_it, below_slot, refused, carried, advanced, used}
use Rattle.value.specs.Worked.{decode_of}
use Rattle.grammar.specs.Constants.{read_constant, named_constant}
use Rattle.read_state.proofs.Going.{nowhere, goes_on}
use native.Mathlib.Omega.{arith}
use mathlib.Core.Path.{◌∙◌, refl, sym, ap}
use borrow.Author.Tests.{eq-eqb, ne_eqb}
use Rattle.read_constants.proofs.read_constant.Goals as goal
use Rattle.read_constants.proofs.read_constant.Goals.{in-Some+else-e-eq-CONSTANT, in_default}

pub returns-then-t-eq-LITERAL : goal.returns-then-t-eq-LITERAL
unfolding read_constant
returns-then-t-eq-LITERAL c =
    let token_at = c.token_at-t in
    let if1 = c.if-t-eq-LITERAL in
    let m = c.moved.ensures in
    let k = c.with_value.ensures in
    record {
      gives =
          token _ token_at.ensures
          (so _ _ (eq-eqb _ _ if1.true)
          (on _ (advanced m) refl
          (λ _ _. carried _ k (ap decode_of (sym k.value)))));
      onward =
          goes_on
          (omega (arith, m.at, k.at))
          (omega (arith, m.at, k.at, token_at.ensures.inside, if1.true))
          (omega (arith, m.count, k.count));
    }

pub returns-then-not-is_name : goal.returns-then-not-is_name
unfolding read_constant
returns-then-not-is_name c =
    let y = c.refuse.ensures in
    record {
      gives =
          token _ c.token_at-t.ensures
          (other _ _ (ne_eqb _ _ c.if-t-eq-LITERAL.false)
          (other _ _ (sym c.is_name.ensures.is ∙ c.if-not-is_name.true)
          (refused _ y)));
      onward = nowhere y;
    }

pub entry_in-e-requires : goal.entry_in-e-requires
entry_in-e-requires c =
    let pre = c.requires in
    (omega (arith, below_slot c.find_name.ensures.below c.in-Some.is, pre.few), pre.list)

pub use_name-requires : goal.use_name-requires
use_name-requires c =
    let pre = c.requires in (
      pre.table,
      omega (arith, c.token_at-t.ensures.inside, c.is_name.ensures.kind c.if-not-is_name.false, pre.tokens),
    )

pub returns-then-e-eq-CONSTANT : goal.returns-then-e-eq-CONSTANT
unfolding read_constant named_constant
returns-then-e-eq-CONSTANT c =
    let token_at = c.token_at-t in
    let entry_in = c.entry_in-e in
    let u = c.use_name.ensures in
    let k = c.with_value-then-e-eq-CONSTANT.ensures in
    record {
      gives =
          token _ token_at.ensures
          (other _ _ (ne_eqb _ _ c.if-t-eq-LITERAL.false)
          (so _ _ (sym c.is_name.ensures.is ∙ c.if-not-is_name.false)
          (found_it _ _ _ c.find_name.ensures c.in-Some.is
          (named _ _ entry_in.ensures
          (so _ _ (eq-eqb _ _ c.if-e-eq-CONSTANT.true)
          (on_told _ (used _ entry_in.ensures u) refl
          (carried _ k (ap decode_of (sym k.value)))))))));
      onward =
          goes_on
          (omega (arith, u.at, k.at))
          (omega (arith, u.at, k.at, token_at.ensures.inside, c.is_name.ensures.kind c.if-not-is_name.false))
          (omega (arith, u.count, k.count));
    }

pub returns : goal.returns
unfolding read_constant named_constant
returns c =
    let token_at = c.token_at-t in
    let y = c.refuse-2.ensures in
    let known = sym c.is_name.ensures.is ∙ c.if-not-is_name.false in
    elim c.match-find_name.branch [
      | in-Some+else-e-eq-CONSTANT w ↦
          record {
            gives =
                token _ token_at.ensures
                (other _ _ (ne_eqb _ _ c.if-t-eq-LITERAL.false)
                (so _ _ known
                (found_it _ _ _ c.find_name.ensures w.in-Some.is
                (named _ _ w.entry_in-e.ensures
                (other _ _ (ne_eqb _ _ w.if-e-eq-CONSTANT.false)
                (refused _ y))))));
            onward = nowhere y;
          }
      | in_default w ↦
          record {
            gives =
                token _ token_at.ensures
                (other _ _ (ne_eqb _ _ c.if-t-eq-LITERAL.false)
                (so _ _ known
                (missed_it _ _ _ c.find_name.ensures w.in_default.is
                (refused _ y))));
            onward = nowhere y;
          }
    ]
