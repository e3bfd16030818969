use Rattle.run_calls.specs.Calls.{source_lent}
use Rattle.list_writer.specs.WriterCalls.{wanted}
use Rattle.list_writer.proofs.WritingLaws.{unlisted, listed, read_written}
use Rattle.list_writer.proofs.write_list.Goals as goal

pub returns-then-not-is_built_in : goal.returns-then-not-is_built_in
returns-then-not-is_built_in c =
    unlisted (source_lent c.args.source.now c.args.list.now _ _) (wanted c.args.sizes.now c.args.earlier.now c.args.later.now c.args.time) _ c.is_built_in.ensures c.if-not-is_built_in.true-raw c.new.ensures

pub returns : goal.returns
returns c =
    listed (source_lent c.args.source.now c.args.list.now _ _) (wanted c.args.sizes.now c.args.earlier.now c.args.later.now c.args.time) _ c.is_built_in.ensures c.if-not-is_built_in.false-raw (read_written c.ranges.time c.write_listed.ensures)
