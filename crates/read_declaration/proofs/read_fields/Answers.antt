use Rattle.read_state.proofs.Going.{passed}
use native.Mathlib.Omega.{arith}
use mathlib.Core.Path.{◌∙◌, sym, refl}
use mathlib.Core.Bool.{true, false}
use Rattle.grammar.specs.Source.{read_fields, declared}
use Rattle.read_state.specs.Promises.Reading.{anything}
use Rattle.read_state.proofs.Steps.{on_told, off, so, other, token, kind_behind, made}
use Rattle.read_state.proofs.Going.{nowhere, went, goes_on}
use Rattle.read_declaration.proofs.Grouping.{unnamed_put}
use Rattle.read_declaration.proofs.Cells.{with_fields}
use Rattle.read_declaration.proofs.read_fields.Goals as goal

pub returns-in_err-a : goal.returns-in_err-a
unfolding read_fields
returns-in_err-a c =
    let token_at = c.token_at-t in
    let kind_at = c.kind_at-k in
    let is_unnamed = c.is_unnamed in
    let if1 = c.if-is_unnamed in
    let read_range = c.read_range in
    λ dims.
    let y = c.in_err-a.was in
    rw (passed c.from_residual.ensures.1 y)
    record {
      gives =
          token _ token_at.ensures (kind_behind _ kind_at.ensures (so _ _ (sym is_unnamed.ensures ∙ if1.true) (off _
          (off {Q = anything} _ read_range.ensures.gives y) y)));
      onward = nowhere y;
    }

pub write_ranges-requires : goal.write_ranges-requires
write_ranges-requires c =
    let pre = c.requires in
    let read_range = c.read_range in
    (read_range.auto.words ∙ pre.0.table, omega (arith, pre.1, pre.0.here, pre.0.tokens))

pub returns-then-is_unnamed : goal.returns-then-is_unnamed
unfolding read_fields
returns-then-is_unnamed c =
    let pre = c.requires in
    let token_at = c.token_at-t in
    let kind_at = c.kind_at-k in
    let is_unnamed = c.is_unnamed in
    let if1 = c.if-is_unnamed in
    let read_range = c.read_range in
    let write-ranges = c.write_ranges in
    λ dims.
    let w = went read_range.ensures.onward c.in_ok-a.was in
    let m = c.with_fields.ensures in
    record {
      gives =
          token _ token_at.ensures (kind_behind _ kind_at.ensures (so _ _ (sym is_unnamed.ensures ∙ if1.true) (made
          (declared dims false) (on_told _ read_range.ensures.gives c.in_ok-a.was (unnamed_put _ write-ranges.ensures
          (omega (arith, pre.1, w.past)) m)) (λ rs t p. with_fields dims false refl p))));
      onward = goes_on (omega (arith, m.at, w.past)) (omega (arith, m.at, w.within)) (omega (arith, m.count, w.few, pre.0.few));
    }

pub returns : goal.returns
unfolding read_fields
returns c =
    let token_at = c.token_at-t in
    let kind_at = c.kind_at-k in
    let is_unnamed = c.is_unnamed in
    let if1 = c.if-is_unnamed in
    let read-groups = c.read_groups in
    λ dims.
    let g = read-groups.ensures in
    record {
      gives =
          token _ token_at.ensures (kind_behind _ kind_at.ensures (other _ _ (sym is_unnamed.ensures ∙ if1.false) (made
          (declared dims true) g.gives (λ rs t p. with_fields dims true refl p))));
      onward = g.onward;
    }
