use Rattle.read_state.proofs.Going.{passed}
use native.Mathlib.Omega.{arith}
use mathlib.Core.Path.{refl}
use mathlib.Core.List.{[]}
use Rattle.grammar.specs.Reader.{again, done}
use Rattle.grammar.specs.Source.{group_turn}
use Rattle.read_state.proofs.Steps.{on, off, so, token, went_on, carried, returned, advanced}
use Rattle.read_state.proofs.Turns.{turn_first, turn_again, turn_done, turn_refused}
use Rattle.read_state.proofs.Going.{nowhere, went, goes_on, still}
use Rattle.read_declaration.proofs.Tests.{end_test}
use Rattle.read_declaration.proofs.Grouping.{no_ranges, turn_group}
use Rattle.read_declaration.proofs.read_groups.Goals as goal

pub loop-scan-init : goal.loop-scan-init
loop-scan-init c =
    let pre = c.requires in
    (turn_first [] (no_ranges _ _), pre.0, omega (arith, pre.1), omega arith, omega arith)

pub token_at-t-requires : goal.token_at-t-requires
token_at-t-requires c =
    let loop = c.loop-scan in
    let i = loop.invariant.1 in (i.tokens, i.table)

pub moved-requires : goal.moved-requires
moved-requires c =
    let loop = c.loop-scan in
    let token_at = c.token_at-t in
    let is-end = c.is_end in
    let if1 = c.if-is_end in
    omega (arith, loop.invariant.1.tokens, token_at.ensures.inside, is-end.ensures.kind if1.true)

pub returns-then-is_end : goal.returns-then-is_end
unfolding group_turn
returns-then-is_end c =
    let loop = c.loop-scan in
    let token_at = c.token_at-t in
    let is-end = c.is_end in
    let if1 = c.if-is_end in
    let moved = c.moved in
    let with_fields = c.with_fields in
    let i = loop.invariant.1 in
    let m = moved.ensures in
    let d = with_fields.ensures in
    record {
      gives =
          turn_done loop.invariant.0 (omega (arith, i.here, i.tokens)) (λ rs p. token _ token_at.ensures
          (so _ _ (end_test is-end.ensures rs p.many if1.true) (on _ (advanced m) refl (λ _ _. carried (done rs) d
          (record { ranges = rw d.fields p; some = omega (arith, d.fields, is-end.ensures.some if1.true); few = omega (arith, d.fields, loop.invariant.3); room = omega (arith, d.fields, d.at, m.at, loop.invariant.2); named = d.named })))));
      onward =
          goes_on (omega (arith, d.at, m.at, loop.invariant.4))
          (omega (arith, d.at, m.at, token_at.ensures.inside, is-end.ensures.kind if1.true))
          (omega (arith, d.count, m.count, i.few));
    }

pub group_start-b-requires : goal.group_start-b-requires
group_start-b-requires c =
    let loop = c.loop-scan in
    let token_at = c.token_at-t in
    omega (arith, loop.invariant.1.here, loop.invariant.1.tokens, token_at.ensures.inside)

pub read_group-requires : goal.read_group-requires
read_group-requires c =
    let loop = c.loop-scan in
    let token_at = c.token_at-t in
    let group-start = c.group_start-b in
    let i = loop.invariant.1 in
    let g = group-start.ensures in
    (record { tokens = i.tokens; table = i.table; list = i.list; here = omega (arith, g.near, i.here, token_at.ensures.inside); few = omega (arith, g.count, i.few) }, omega (arith, g.past, loop.invariant.2), loop.invariant.3)

pub returns-in_err-a : goal.returns-in_err-a
returns-in_err-a c =
    let loop = c.loop-scan in
    let token_at = c.token_at-t in
    let is-end = c.is_end in
    let if1 = c.if-is_end in
    let group-start = c.group_start-b in
    let read_group = c.read_group in
    let i = loop.invariant.1 in
    let y = c.in_err-a.was in
    rw (passed c.from_residual.ensures.1 y)
    record {
      gives =
          turn_refused loop.invariant.0 (omega (arith, i.here, i.tokens)) (λ rs p. turn_group _ rs
          token_at.ensures (end_test is-end.ensures rs p.many if1.false) group-start.ensures
          (off _ (read_group.ensures rs p).gives y)) y;
      onward = nowhere y;
    }

pub loop-scan-smaller : goal.loop-scan-smaller
loop-scan-smaller c =
    let loop = c.loop-scan in
    let group-start = c.group_start-b in
    let read_group = c.read_group in
    let x = loop.invariant.0 in
    let w = went (read_group.ensures x.x x.holds).onward c.in_ok-a.was in
    omega (arith, w.past, w.within, group-start.ensures.past, loop.invariant.1.tokens)

pub loop-scan-preserved : goal.loop-scan-preserved
loop-scan-preserved c =
    let loop = c.loop-scan in
    let token_at = c.token_at-t in
    let is-end = c.is_end in
    let if1 = c.if-is_end in
    let group-start = c.group_start-b in
    let read_group = c.read_group in
    let x = loop.invariant.0 in
    let i = loop.invariant.1 in
    let g = read_group.ensures x.x x.holds in
    let w = went g.onward c.in_ok-a.was in
    let f = (went_on g.gives c.in_ok-a.was).is.1 in (
      turn_again x (omega (arith, i.here, i.tokens)) (λ rs p. turn_group _ rs
          token_at.ensures (end_test is-end.ensures rs p.many if1.false) group-start.ensures
          (on _ (read_group.ensures rs p).gives c.in_ok-a.was (λ rs' q. returned (again rs') q.ranges)))
          (omega (arith, w.past, group-start.ensures.past)),
      still i read_group.auto.names read_group.auto.words w
          (omega arith),
      f.room,
      f.few,
      omega (arith, w.past, group-start.ensures.past, loop.invariant.4),
    )
