use Rattle.api_entries.proofs.EntryLaws.{over_front}
use Rattle.api_entries.proofs.put_front.Goals as goal

pub returns : goal.returns
returns g c = rw (c.copy_from_slice.ensures.after, c.min-n.ensures) (over_front c.args.numbers.now c.args.entries.now)
