use Rattle.run_steps.proofs.StepwiseLaws.{started_begins, started_standing, started_begun}
use Rattle.run_steps.proofs.CountLaws.{filled_self, counts_from, refit}
use native.Mathlib.Omega.{arith}
use Rattle.run_steps.proofs.steps.run_by.Goals as goal

pub run_marked-requires : goal.run_marked-requires
run_marked-requires c =
    let begun = c.begin_marks.ensures in
    let filled = c.fill_asked.ensures in (
      started_begins c.requires.0 c.args.resumed c.args.all_open begun (omega (arith, c.begin_marks.auto.scratch)) (omega (arith, c.begin_marks.auto.marks)),
      started_standing c.requires.0 c.args.resumed c.args.all_open begun,
      c.fill_leaves.ensures,
      c.set_ways-listed.ensures,
      refit c.requires.1 (omega (arith, c.fill_asked.auto.counts)),
      filled_self filled,
      c.requires.2,
    )

pub returns : goal.returns
returns c =
    let ran = c.run_marked.ensures in
    record {
      ran = ran.ran_marked.from _ (started_begun c.requires.0 c.args.resumed c.args.all_open c.begin_marks.ensures);
      counts = counts_from c.fill_asked.ensures ran.counts;
    }
