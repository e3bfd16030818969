use Rattle.read_state.proofs.Going.{passed}
use Rattle.grammar.specs.Source.{read_dims}
use Rattle.read_state.proofs.Steps.{on_told, off, so, other, returned, refused_last}
use Rattle.read_state.proofs.Going.{nowhere, went, goes_on}
use native.Mathlib.Omega.{arith}
use mathlib.Core.Path.{◌≡◌, refl, ◌∙◌}
use Rattle.read_declaration.proofs.Tests.{dims_good, dims_none, dims_many}
use borrow.Author.Rules.{rules}
use mathlib.Core.Bool.{false}
use lib.IntN.{pos}
use Rattle.value.specs.Number.{within}
use Rattle.value.specs.Worked.{decode_of}
use Rattle.read_declaration.proofs.read_dims.Goals as goal
use Rattle.read_declaration.proofs.read_dims.Goals.{then-a-lt1-via-then-a-lt1, then-a-lt1-via-else-a-lt1+then-a-gt-DIMS}

pub returns-in_err-a : goal.returns-in_err-a
unfolding read_dims
returns-in_err-a c =
    let read_constant = c.read_constant in
    let y = c.in_err-a.was in
    rw (passed c.from_residual.ensures.1 y)
    record { gives = off _ read_constant.ensures.gives y; onward = nowhere y }

pub overflow_sub-a : goal.overflow_sub-a
overflow_sub-a c =
    let read_constant = c.read_constant in
    omega (arith, (went read_constant.ensures.onward c.in_ok-a.was).past)

pub refuse-requires : goal.refuse-requires
refuse-requires c =
    let pre = c.requires in
    (pre.tokens, c.read_constant.auto.words ∙ pre.table)

pub returns-then-a-lt1 : goal.returns-then-a-lt1
unfolding read_dims
returns-then-a-lt1 c =
    let read_constant = c.read_constant in
    let y = c.refuse.ensures in
    let bad : within (pos 1) (pos 3) (decode_of c.in_ok-a.a.value) ≡ false =
    elim c.then-a-lt1.branch [
      | then-a-lt1-via-then-a-lt1 w ↦ dims_none _ w.if-a-lt1.true
      | then-a-lt1-via-else-a-lt1+then-a-gt-DIMS w ↦ dims_many _ w.if-a-gt-DIMS.true (search rules)
    ] in
    record { gives = on_told _ read_constant.ensures.gives c.in_ok-a.was (other _ _ bad (refused_last _ y)); onward = nowhere y }

pub returns : goal.returns
unfolding read_dims
returns c =
    let read_constant = c.read_constant in
    let if1 = c.if-a-lt1 in
    let if2 = c.if-a-gt-DIMS in
    let w = went read_constant.ensures.onward c.in_ok-a.was in
    record {
      gives =
          on_told _ read_constant.ensures.gives c.in_ok-a.was (so _ _ (dims_good _ if1.false if2.false) (returned _
          (record { is = refl; least = if1.false; most = if2.false })));
      onward = goes_on w.past w.within w.few;
    }
