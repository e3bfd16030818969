use Rattle.read_state.proofs.Going.{passed}
use borrow.Author.Tests.{eq-eqb, ne_eqb}
use native.Mathlib.Omega.{arith}
use mathlib.Core.Path.{◌∙◌, refl, sym}
use Rattle.grammar.specs.Reader.{again, done}
use Rattle.grammar.specs.Source.{field_turn}
use Rattle.read_state.proofs.Steps.{on, on_told, off, so, other, token, carried, returned, advanced, declared}
use Rattle.read_state.proofs.Turns.{turn_again, turn_done, turn_refused, with_this}
use Rattle.read_state.proofs.Going.{nowhere, went, goes_on}
use Rattle.read_declaration.proofs.Naming.{naming_start, field_name, taken}
use Rattle.read_declaration.proofs.read_names.Goals as goal

pub loop-a-init : goal.loop-a-init
loop-a-init c =
    let pre = c.requires in
    (naming_start _ _ pre.1, pre.0)

pub fresh-requires : goal.fresh-requires
fresh-requires c =
    let loop = c.loop-a in
    loop.invariant.1

pub returns-in_err-a : goal.returns-in_err-a
unfolding field_turn
returns-in_err-a c =
    let loop = c.loop-a in
    let full = c.full in
    let fresh = c.fresh in
    let y = c.in_err-a.was in
    rw (passed c.from_residual.ensures.1 y)
    let i = loop.invariant.1 in
    record {
      gives =
          turn_refused loop.invariant.0.turning (omega (arith, i.here, i.tokens)) (with_this _ _
          (off _ (field_name loop.n full.ensures fresh.ensures.gives) y)) y;
      onward = nowhere y;
    }

pub overflow_sub-a : goal.overflow_sub-a
overflow_sub-a c =
    let fresh = c.fresh in
    omega (arith, (went fresh.ensures.onward c.in_ok-a.was).past)

pub declare-b-requires : goal.declare-b-requires
declare-b-requires c =
    let loop = c.loop-a in
    let fresh = c.fresh in
    let i = loop.invariant.1 in
    (i.tokens, i.table, omega (arith, (went fresh.ensures.onward c.in_ok-a.was).few), i.list)

pub forbid-requires : goal.forbid-requires
forbid-requires c =
    let loop = c.loop-a in
    let fresh = c.fresh in
    let declare = c.declare-b in
    let i = loop.invariant.1 in
    (i.tokens, i.table, omega (arith, (went fresh.ensures.onward c.in_ok-a.was).within, declare.ensures.at))

pub returns-in_err-f : goal.returns-in_err-f
unfolding field_turn
returns-in_err-f c =
    let loop = c.loop-a in
    let full = c.full in
    let fresh = c.fresh in
    let declare = c.declare-b in
    let forbid = c.forbid in
    let y = c.in_err-f.was in
    rw (passed c.from_residual-in_err-f.ensures.1 y)
    let i = loop.invariant.1 in
    record {
      gives =
          turn_refused loop.invariant.0.turning (omega (arith, i.here, i.tokens)) (with_this _ _
          (on_told _ (field_name loop.n full.ensures fresh.ensures.gives) c.in_ok-a.was (on _
          (declared _ _ _ declare.ensures) refl (λ _ _. off _ (forbid.ensures.gives _ _) y)))) y;
      onward = nowhere y;
    }

pub overflow_add-n : goal.overflow_add-n
overflow_add-n c =
    let loop = c.loop-a in
    omega (arith, loop.invariant.0.few)

pub token_at-t-requires : goal.token_at-t-requires
token_at-t-requires c =
    let loop = c.loop-a in
    let i = loop.invariant.1 in (i.tokens, i.table)

pub expect-requires : goal.expect-requires
expect-requires c =
    let loop = c.loop-a in
    let i = loop.invariant.1 in (i.tokens, i.table, omega arith)

pub returns-in_err-d : goal.returns-in_err-d
unfolding field_turn
returns-in_err-d c =
    let loop = c.loop-a in
    let full = c.full in
    let fresh = c.fresh in
    let declare = c.declare-b in
    let forbid = c.forbid in
    let token_at = c.token_at-t in
    let if1 = c.if-t-ne-COMMA in
    let expect = c.expect in
    let y = c.in_err-d.was in
    rw (passed c.from_residual-in_err-d.ensures.1 y)
    let i = loop.invariant.1 in
    record {
      gives =
          turn_refused loop.invariant.0.turning (omega (arith, i.here, i.tokens)) (with_this _ _
          (on_told _ (field_name loop.n full.ensures fresh.ensures.gives) c.in_ok-a.was (on _
          (declared _ _ _ declare.ensures) refl (λ _ _. on _ (forbid.ensures.gives _ _) c.in_ok-f.was (λ _ _. token _
          token_at.ensures (other _ _ (ne_eqb _ _ if1.true) (off _ (expect.ensures.gives _ _) y))))))) y;
      onward = nowhere y;
    }

pub returns-then-t-ne-COMMA : goal.returns-then-t-ne-COMMA
unfolding field_turn
returns-then-t-ne-COMMA c =
    let loop = c.loop-a in
    let full = c.full in
    let fresh = c.fresh in
    let declare = c.declare-b in
    let forbid = c.forbid in
    let token_at = c.token_at-t in
    let if1 = c.if-t-ne-COMMA in
    let expect = c.expect in
    let with_fields = c.with_fields in
    let i = loop.invariant.1 in
    let w = loop.invariant.0 in
    let m = with_fields.ensures in
    let a = went fresh.ensures.onward c.in_ok-a.was in
    let d = declare.ensures in
    let b = went forbid.ensures.onward c.in_ok-f.was in
    let e = went expect.ensures.onward c.in_ok-d.was in
    let l = taken loop.n full.ensures fresh.ensures.gives c.in_ok-a.was in
    record {
      gives =
          turn_done w.turning (omega (arith, i.here, i.tokens)) (with_this _ _
          (on_told _ (field_name loop.n full.ensures fresh.ensures.gives) c.in_ok-a.was (on _ (declared _ _ _ d) refl
          (λ _ _. on _ (forbid.ensures.gives _ _) c.in_ok-f.was (λ _ _. token _ token_at.ensures (other _ _ (ne_eqb _ _ if1.true)
          (on _ (expect.ensures.gives _ _) c.in_ok-d.was (λ _ _. carried (done _) m
          (record { is = sym m.fields; more = omega (arith, w.more, m.fields); few = omega (arith, l, m.fields); far = omega (arith, w.far, m.fields, m.at, a.past, d.at, b.past, e.past) })))))))));
      onward =
          goes_on (omega (arith, w.far, w.more, m.at, a.past, d.at, b.past, e.past)) (omega (arith, m.at, e.within))
          (omega (arith, m.count, e.few, b.few, d.count, a.few));
    }

pub moved-here-requires : goal.moved-here-requires
moved-here-requires c =
    let loop = c.loop-a in
    let token_at = c.token_at-t in
    let if1 = c.if-t-ne-COMMA in
    omega (arith, loop.invariant.1.tokens, token_at.ensures.inside, if1.false)

pub loop-a-smaller : goal.loop-a-smaller
loop-a-smaller c =
    let loop = c.loop-a in
    let fresh = c.fresh in
    let declare = c.declare-b in
    let forbid = c.forbid in
    let token_at = c.token_at-t in
    let if1 = c.if-t-ne-COMMA in
    let moved = c.moved-here in
    omega (arith, moved.ensures.at, (went fresh.ensures.onward c.in_ok-a.was).past, declare.ensures.at, (went forbid.ensures.onward c.in_ok-f.was).past, loop.invariant.1.tokens, token_at.ensures.inside, if1.false)

pub loop-a-preserved : goal.loop-a-preserved
unfolding field_turn
loop-a-preserved c =
    let loop = c.loop-a in
    let full = c.full in
    let fresh = c.fresh in
    let declare = c.declare-b in
    let forbid = c.forbid in
    let token_at = c.token_at-t in
    let if1 = c.if-t-ne-COMMA in
    let moved = c.moved-here in
    let i = loop.invariant.1 in
    let w = loop.invariant.0 in
    let m = moved.ensures in
    let a = went fresh.ensures.onward c.in_ok-a.was in
    let d = declare.ensures in
    let b = went forbid.ensures.onward c.in_ok-f.was in
    let l = taken loop.n full.ensures fresh.ensures.gives c.in_ok-a.was in (
      record {
        turning =
            turn_again w.turning (omega (arith, i.here, i.tokens)) (with_this _ _
            (on_told _ (field_name loop.n full.ensures fresh.ensures.gives) c.in_ok-a.was (on _ (declared _ _ _ d) refl
            (λ _ _. on _ (forbid.ensures.gives _ _) c.in_ok-f.was (λ _ _. token _ token_at.ensures (so _ _ (eq-eqb _ _ if1.false)
            (on _ (advanced m) refl (λ _ _. returned (again _) refl)))))))) (omega (arith, m.at, a.past, d.at, b.past));
        more = omega (arith, w.more);
        few = omega (arith, l);
        far = omega (arith, w.far, m.at, a.past, d.at, b.past);
      },
      record { tokens = i.tokens; table = i.table; list = declare.auto.names ∙ i.list; here = omega (arith, m.at, token_at.ensures.inside, if1.false); few = omega (arith, m.count, b.few, d.count, a.few) },
    )
