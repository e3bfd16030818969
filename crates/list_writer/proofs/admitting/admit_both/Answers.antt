use Rattle.list_writer.proofs.AdmittingLaws.{admits_both}
use Rattle.list_writer.proofs.admitting.admit_both.Goals as goal

pub returns : goal.returns
returns c =
    admits_both c.ranges.time c.requires.0 c.requires.2 c.admit_grid-first.ensures c.admit_grid-second.ensures c.lower_of.ensures
