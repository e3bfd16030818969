use Rattle.read_state.proofs.Going.{passed}
use native.Mathlib.Omega.{arith}
use mathlib.Core.Path.{◌∙◌, refl}
use Rattle.grammar.specs.Source.{read_group}
use Rattle.read_state.proofs.Steps.{on, on_told, off, went_on}
use Rattle.read_state.proofs.Going.{nowhere, went, goes_on, still}
use Rattle.read_declaration.proofs.Keeping.{range_keeps}
use Rattle.read_declaration.proofs.Grouping.{behind, group_put}
use Rattle.read_declaration.proofs.read_group.Goals as goal

pub returns-in_err-a : goal.returns-in_err-a
unfolding read_group
returns-in_err-a c =
    let read_names = c.read_names in
    λ rs h.
    let y = c.in_err-a.was in
    rw (passed c.from_residual.ensures.1 y)
    record { gives = off _ (behind _ _ rs h.many read_names.ensures.gives) y; onward = nowhere y }

pub read_range-requires : goal.read_range-requires
read_range-requires c =
    let pre = c.requires in
    let read_names = c.read_names in
    still pre.0 read_names.auto.names refl (went read_names.ensures.onward c.in_ok-a.was) (omega arith)

pub returns-in_err-b : goal.returns-in_err-b
unfolding read_group
returns-in_err-b c =
    let read_names = c.read_names in
    let read_range = c.read_range in
    λ rs h.
    let y = c.in_err-b.was in
    rw (passed c.from_residual-in_err-b.ensures.1 y)
    record {
      gives = on _ (behind _ _ rs h.many read_names.ensures.gives) c.in_ok-a.was (λ k p. off _ read_range.ensures.gives y);
      onward = nowhere y;
    }

pub overflow_sub-more : goal.overflow_sub-more
overflow_sub-more c =
    let read_names = c.read_names in
    omega (arith, (went_on read_names.ensures.gives c.in_ok-a.was).is.1.more)

pub overflow_add-base : goal.overflow_add-base
overflow_add-base c =
    let pre = c.requires in
    omega (arith, pre.1, pre.0.here, pre.0.tokens)

pub write_ranges-requires : goal.write_ranges-requires
write_ranges-requires c =
    let pre = c.requires in
    let read_names = c.read_names in
    let read_range = c.read_range in
    let n = (went_on read_names.ensures.gives c.in_ok-a.was).is.1 in
    let a = went read_names.ensures.onward c.in_ok-a.was in
    (read_range.auto.words ∙ pre.0.table, omega (arith, pre.1, pre.0.tokens, n.more, n.far, a.within))

pub returns : goal.returns
unfolding read_group
returns c =
    let pre = c.requires in
    let read_names = c.read_names in
    let read_range = c.read_range in
    let write-ranges = c.write_ranges in
    let with_fields = c.with_fields in
    λ rs h.
    let n = (went_on read_names.ensures.gives c.in_ok-a.was).is.1 in
    let a = went read_names.ensures.onward c.in_ok-a.was in
    let b = went read_range.ensures.onward c.in_ok-b.was in
    let m = with_fields.ensures in
    record {
      gives =
          on _ (behind _ _ rs h.many read_names.ensures.gives) c.in_ok-a.was
          (λ k p. on_told _ read_range.ensures.gives c.in_ok-b.was (group_put _ _ rs k h
          (λ i l. range_keeps 4294967296 read_range.ensures.gives c.in_ok-b.was i
          (omega (arith, l, pre.1, a.past))) write-ranges.ensures p.is n.more n.few
          (omega (arith, pre.1, n.far, b.past)) m));
      onward = goes_on (omega (arith, m.at, a.past, b.past)) (omega (arith, m.at, b.within)) (omega (arith, m.count, b.few, a.few));
    }
