use Rattle.list_reader.proofs.ValueLaws.{still_number}
use Rattle.list_reader.proofs.values.still_fits.Goals as goal

pub returns-in-Some : goal.returns-in-Some
returns-in-Some c = still_number c.args.words.now c.args.rule c.args.k c.args.fit c.if-fit.true c.in-Some.is c.if-k-rule.true c.in_field.ensures
