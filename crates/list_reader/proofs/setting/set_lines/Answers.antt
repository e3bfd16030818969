use mathlib.Core.Path.{◌∙◌}
use Rattle.list_reader.proofs.SettingLaws.{set_unended, set_time, set_again, set_end}
use Rattle.list_reader.proofs.setting.set_lines.Goals as goal

pub returns-then-text-end : goal.returns-then-text-end
returns-then-text-end c = set_unended c.args.sizes.now c.args.fields c.args.text.now c.args.from c.args.grid.now c.loop-at.invariant.0 c.loop-at-test.true c.line_end-end.ensures c.if-text-end.true

pub returns-then-is_time : goal.returns-then-is_time
returns-then-is_time c =
    set_time c.args.sizes.now c.args.fields c.args.text.now c.args.from c.args.grid.now c.loop-at.invariant.0 c.loop-at-test.true c.line_end-end.ensures c.if-text-end.false c.is_time.ensures c.if-is_time.true

pub loop-at-preserved : goal.loop-at-preserved
loop-at-preserved c = (
  set_again c.args.sizes.now c.args.fields c.args.text.now c.args.from c.args.grid.now c.loop-at.invariant.0 c.loop-at-test.true c.line_end-end.ensures c.if-text-end.false c.is_time.ensures
      c.if-is_time.false c.store_line.ensures,
  c.store_line.auto.grid ∙ c.loop-at.invariant.1,
)

pub returns : goal.returns
returns c = set_end c.args.sizes.now c.args.fields c.args.text.now c.args.from c.args.grid.now c.loop-at.invariant.0 c.loop-at-test.false
