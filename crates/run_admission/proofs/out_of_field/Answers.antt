use mathlib.Core.Path.{ap, ◌∙◌}
use lib.ListN.{get_or}
use Rattle.value.specs.declared.Value.{Value}
use Rattle.program.specs.Syntax.{no_range}
use Rattle.cell_meaning.specs.Evaluation.{in_field}
use Rattle.run_admission.proofs.EntryLaws.{rule_ranges, passed_on}
use Rattle.run_admission.proofs.out_of_field.Goals as goal

pub loop-e-preserved : goal.loop-e-preserved
loop-e-preserved c =
    let in_range = ap (λ (v : Value). in_field (get_or (rule_ranges c.args.words.now c.args.rule) c.loop-e.which no_range) v.n) c.value_at.ensures in
    passed_on _ _ _ c.loop-e.which c.loop-e.e c.loop-e.invariant c.loop-e-test.true (c.fits.ensures ∙ in_range) c.if-not-fits.false c.next_coordinate-which.ensures
