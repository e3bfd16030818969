use mathlib.Core.Path.{refl}
use Rattle.run_admission.proofs.Results.{passed}
use Rattle.move_profile.proofs.FlagLaws.{can_miss}
use Rattle.list_writer.proofs.SourceLaws.{source_read}
use Rattle.list_writer.proofs.WritingLaws.{source_refused, source_written, read_written}
use borrow.Author.Rules.{rules}
use Rattle.list_writer.proofs.write_listed.Goals as goal

pub returns-in_err-rule : goal.returns-in_err-rule
returns-in_err-rule c =
    let e = c.in_err-rule.was in
    source_refused (rw e at c.load.ensures.checks) (rw e at c.load.ensures.loads) _ _ refl (passed c.from_residual.ensures.1 e)

pub flag_of-flag-requires : goal.flag_of-flag-requires
flag_of-flag-requires c =
    let e = c.in_ok-rule.was in
    can_miss (rw e at c.load.ensures.checks) (rw e at c.load.ensures.loads) refl (search (c.load.auto, rules))

pub write_loaded-requires : goal.write_loaded-requires
write_loaded-requires c =
    let e = c.in_ok-rule.was in
    let a = source_read (rw e at c.load.ensures.checks) (rw e at c.load.ensures.loads) refl in (a.sized, a.some_fields)

pub returns : goal.returns
returns c =
    let e = c.in_ok-rule.was in
    read_written c.ranges.time (source_written (rw e at c.load.ensures.checks) (rw e at c.load.ensures.loads) _ _ refl c.flag_of-flag.ensures c.write_loaded.ensures)
