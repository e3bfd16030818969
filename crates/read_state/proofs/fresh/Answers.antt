use Rattle.grammar.specs.Reader.{fresh}
use native.Mathlib.Omega.{arith}
use mathlib.Core.Path.{◌∙◌, refl, sym}
use borrow.Author.Tests.{eq-eqb, ne_eqb, le-leb, lt-leb}
use Rattle.read_state.proofs.Reasons.{never_none}
use Rattle.read_state.proofs.Steps.{on, so, other, not_false, not_true, token, stated, found_it, missed_it, refused, returned, advanced}
use Rattle.read_state.proofs.Going.{nowhere, goes_on}
use Rattle.read_state.proofs.fresh.Goals as goal

pub returns-then-not-is_name : goal.returns-then-not-is_name
unfolding fresh
returns-then-not-is_name c =
    let y = c.refuse.ensures in
    record {
      gives = token _ c.token_at-t.ensures (stated _ (so _ _ (not_true (sym c.is_name.ensures.is ∙ c.if-not-is_name.true)) (refused _ y)));
      onward = nowhere y;
    }

pub returns-then-t-ne-NAME : goal.returns-then-t-ne-NAME
unfolding fresh
returns-then-t-ne-NAME c =
    let y = c.refuse-then-t-ne-NAME.ensures in
    record {
      gives =
          token _ c.token_at-t.ensures
          (stated _
          (other _ _ (not_false (sym c.is_name.ensures.is ∙ c.if-not-is_name.false))
          (so _ _ (not_true (ne_eqb _ _ c.if-t-ne-NAME.true))
          (refused _ y))));
      onward = nowhere y;
    }

pub returns-in-Some : goal.returns-in-Some
unfolding fresh
returns-in-Some c =
    let y = c.refuse-in-Some.ensures in
    record {
      gives =
          token _ c.token_at-t.ensures
          (stated _
          (other _ _ (not_false (sym c.is_name.ensures.is ∙ c.if-not-is_name.false))
          (other _ _ (not_false (eq-eqb _ _ c.if-t-ne-NAME.false))
          (found_it _ _ _ c.find_name.ensures c.in-Some.is
          (refused _ y)))));
      onward = nowhere y;
    }

pub returns-in-Some-full : goal.returns-in-Some-full
unfolding fresh
returns-in-Some-full c =
    let y = c.refuse-in-Some-full.ensures in
    record {
      gives =
          token _ c.token_at-t.ensures
          (stated _
          (other _ _ (not_false (sym c.is_name.ensures.is ∙ c.if-not-is_name.false))
          (other _ _ (not_false (eq-eqb _ _ c.if-t-ne-NAME.false))
          (missed_it _ _ _ c.find_name.ensures c.in_default.is
          (rw c.in-Some-full.is (so _ _ (not_true (never_none c.in-Some-full.reason)) (refused _ y)))))));
      onward = nowhere y;
    }

pub returns-then-s-ge-MOST_NAMES : goal.returns-then-s-ge-MOST_NAMES
unfolding fresh
returns-then-s-ge-MOST_NAMES c =
    let y = c.refuse-then-s-ge-MOST_NAMES.ensures in
    record {
      gives =
          token _ c.token_at-t.ensures
          (stated _
          (other _ _ (not_false (sym c.is_name.ensures.is ∙ c.if-not-is_name.false))
          (other _ _ (not_false (eq-eqb _ _ c.if-t-ne-NAME.false))
          (missed_it _ _ _ c.find_name.ensures c.in_default.is
          (rw c.in_default-full.is (so _ _ (le-leb _ _ c.if-s-ge-MOST_NAMES.true) (refused _ y)))))));
      onward = nowhere y;
    }

pub returns : goal.returns
unfolding fresh
returns c =
    let m = c.moved.ensures in
    record {
      gives =
          token _ c.token_at-t.ensures
          (stated _
          (other _ _ (not_false (sym c.is_name.ensures.is ∙ c.if-not-is_name.false))
          (other _ _ (not_false (eq-eqb _ _ c.if-t-ne-NAME.false))
          (missed_it _ _ _ c.find_name.ensures c.in_default.is
          (rw c.in_default-full.is
          (other _ _ (lt-leb _ _ c.if-s-ge-MOST_NAMES.false)
          (on _ (advanced m) refl
          (λ _ _. returned _ (omega (arith, m.at))))))))));
      onward =
          goes_on
          (omega (arith, m.at))
          (omega (arith, m.at, c.token_at-t.ensures.inside, c.if-t-ne-NAME.false))
          (omega (arith, m.count, c.if-s-ge-MOST_NAMES.false));
    }
