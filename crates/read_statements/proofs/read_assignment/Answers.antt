use Rattle.read_state.proofs.Steps.{on, off, here, returned, put_in}
use Rattle.read_state.proofs.Going.{nowhere, went, goes_on}
use native.Mathlib.Omega.{arith}
use mathlib.Core.Path.{refl}
use Rattle.grammar.specs.Statements.{read_assignment}
use Rattle.read_statements.proofs.Single.{put_as}
use Rattle.read_statements.proofs.read_assignment.Goals as goal

pub returns-in_default : goal.returns-in_default
unfolding read_assignment
returns-in_default c =
    let read_target = c.read_target-r in
    record { gives = here _ (off _ read_target.ensures.gives c.in_default.is); onward = nowhere c.in_default.is }

pub returns-in_default-q : goal.returns-in_default-q
unfolding read_assignment
returns-in_default-q c =
    let read_target = c.read_target-r in
    let forbid = c.forbid-q in
    record {
      gives = here _ (on _ read_target.ensures.gives c.in-Ok.is (λ to _. off _ (forbid.ensures.gives _ _) c.in_default-q.is));
      onward = nowhere c.in_default-q.is;
    }

pub returns-in_default-p : goal.returns-in_default-p
unfolding read_assignment
returns-in_default-p c =
    let read_target = c.read_target-r in
    let forbid = c.forbid-q in
    let read-clauses = c.read_clauses-p in
    record {
      gives = here _ (on _ read_target.ensures.gives c.in-Ok.is (λ to _. on _ (forbid.ensures.gives _ _) c.in-Ok-q.is (λ _ _. off _ read-clauses.ensures.gives c.in_default-p.is)));
      onward = nowhere c.in_default-p.is;
    }

pub returns : goal.returns
unfolding read_assignment
returns c =
    let read_target = c.read_target-r in
    let forbid = c.forbid-q in
    let read-clauses = c.read_clauses-p in
    let put_word = c.put_word in
    let put-word2 = c.put_word-2 in
    let t = went read_target.ensures.onward c.in-Ok.is in
    let v = went forbid.ensures.onward c.in-Ok-q.is in
    let w = went read-clauses.ensures.onward c.in-Ok-p.is in
    record {
      gives = here _ (on _ read_target.ensures.gives c.in-Ok.is (λ to e. on _ (forbid.ensures.gives _ _) c.in-Ok-q.is (λ _ _. on _ read-clauses.ensures.gives c.in-Ok-p.is (λ cs _. here _ (on _ (on _ (put_as _ _ _ e put_word.ensures) refl (λ _ _. put_in _ _ _ put-word2.ensures)) refl (λ _ _. returned _ tt))))));
      onward = goes_on (omega (arith, t.past, v.past, w.past)) w.within (omega (arith, t.few, v.few, w.few));
    }
