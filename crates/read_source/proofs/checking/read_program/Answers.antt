use native.Mathlib.Omega.{arith}
use mathlib.Core.Path.{◌∙◌, refl, ap}
use Rattle.grammar.specs.Source.{read_program}
use Rattle.read_state.specs.Promises.Reading.{anything}
use Rattle.read_state.proofs.Steps.{on, off, no_further}
use Rattle.read_state.proofs.Going.{went}
use Rattle.read_declaration.specs.Promises.Fields.{next_in}
use Rattle.read_source.proofs.Finishing.{cell_is, in_cell}
use Rattle.read_source.proofs.Traces.{starts, read_so, unread}
use Rattle.read_source.proofs.checking.read_program.Goals as goal

pub read_constants-requires : goal.read_constants-requires
read_constants-requires c =
    let pre = c.requires in
    let d = c.default.ensures in
    record { tokens = pre.0; table = pre.1; list = pre.2; here = omega (arith, d.0); few = omega (arith, d.1.0) }

pub returns-in_err-a : goal.returns-in_err-a
unfolding read_program
returns-in_err-a c =
    let constants = rw (starts c.default.result c.default.ensures) at c.read_constants.ensures.gives in
    let y = c.in_err-a.was in
    unread _ (off {Q = anything} _ constants y) c.from_residual.ensures.1 y

pub read_cell-requires : goal.read_cell-requires
read_cell-requires c =
    let pre = c.requires in
    let u = went c.read_constants.ensures.onward c.in_ok-a.was in
    record { tokens = pre.0; table = c.read_constants.auto.words ∙ pre.1; list = c.read_constants.auto.names ∙ pre.2; here = u.within; few = u.few }

pub returns-in_err-cell : goal.returns-in_err-cell
unfolding read_program
returns-in_err-cell c =
    let constants = rw (starts c.default.result c.default.ensures) at c.read_constants.ensures.gives in
    let y = ap next_in c.in_err-cell.was in
    unread _ (on _ constants c.in_ok-a.was (λ _ _. off {Q = anything} _ c.read_cell.ensures.gives y)) c.from_residual-in_err-cell.ensures.1 y

pub read_block-requires : goal.read_block-requires
read_block-requires c =
    let pre = c.requires in
    let u = went c.read_cell.ensures.onward (ap next_in c.in_ok-cell.was) in
    record {
      tokens = pre.0;
      table = c.read_cell.auto.words ∙ c.read_constants.auto.words ∙ pre.1;
      list = c.read_cell.auto.names ∙ c.read_constants.auto.names ∙ pre.2;
      here = u.within;
      few = u.few;
    }

pub returns-in_err-b : goal.returns-in_err-b
unfolding read_program
returns-in_err-b c =
    let constants = rw (starts c.default.result c.default.ensures) at c.read_constants.ensures.gives in
    let cell = rw c.in_ok-cell.was at c.read_cell.ensures.gives in
    let y = c.in_err-b.was in
    unread _
    (on _ constants c.in_ok-a.was
    (λ _ _. on _ cell refl
    (λ d x. off {Q = anything} _ (in_cell c.new-inside.result c.new-inside.ensures (cell_is x) c.read_block.ensures.gives) y)))
    c.from_residual-in_err-b.ensures.1 y

pub finish-requires : goal.finish-requires
finish-requires c =
    let pre = c.requires in
    (pre.0, c.read_block.auto.words ∙ c.read_cell.auto.words ∙ c.read_constants.auto.words ∙ pre.1)

pub returns-in_err-finish : goal.returns-in_err-finish
unfolding read_program
returns-in_err-finish c =
    let constants = rw (starts c.default.result c.default.ensures) at c.read_constants.ensures.gives in
    let cell = rw c.in_ok-cell.was at c.read_cell.ensures.gives in
    let y = c.in_err-finish.was in
    unread _
    (on _ constants c.in_ok-a.was
    (λ _ _. on _ cell refl
    (λ d x. on _ (in_cell c.new-inside.result c.new-inside.ensures (cell_is x) c.read_block.ensures.gives) c.in_ok-b.was
    (λ b _. no_further {Q = anything} (c.finish.ensures.gives _ _ d b) y))))
    c.from_residual-in_err-finish.ensures.1 y

pub overflow_add-result : goal.overflow_add-result
overflow_add-result c =
    let pre = c.requires in
    let u = went c.read_constants.ensures.onward c.in_ok-a.was in
    let l = u.within in
    let m = pre.0 in
    omega arith

pub returns : goal.returns
returns c =
    let constants = rw (starts c.default.result c.default.ensures) at c.read_constants.ensures.gives in
    read_so constants c.in_ok-a.was c.read_cell.ensures.gives c.in_ok-cell.was c.new-inside.result c.new-inside.ensures c.read_block.ensures.gives c.in_ok-b.was
    c.finish.ensures c.in_ok-finish.was _ refl refl refl refl refl (went c.read_block.ensures.onward c.in_ok-b.was).few
