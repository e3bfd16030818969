use Rattle.run_calls.specs.Calls.{source_lent}
use Rattle.band_call.specs.BandCall.{band_asked}
use Rattle.band_call.proofs.CallLaws.{read_steps, call_unlisted, call_listed}
use Rattle.band_call.proofs.calling.step_band.Goals as goal

pub returns-then-not-is_built_in : goal.returns-then-not-is_built_in
returns-then-not-is_built_in c = call_unlisted (source_lent c.args.source.now c.args.list.now c.args.words.now c.args.names.now) (band_asked c.args.sizes.now c.args.first c.args.last c.args.held c.args.rows.now c.args.room.now c.args.time) c.is_built_in.ensures c.if-not-is_built_in.true-raw c.new.ensures c.refused.ensures

pub returns : goal.returns
returns c = call_listed (source_lent c.args.source.now c.args.list.now c.args.words.now c.args.names.now) (band_asked c.args.sizes.now c.args.first c.args.last c.args.held c.args.rows.now c.args.room.now c.args.time) c.is_built_in.ensures c.if-not-is_built_in.false-raw (read_steps c.ranges.time c.band_listed.ensures)
