use Rattle.run_marking.proofs.OpenLaws.{fields_fit, opens_some, opens_none}
use Rattle.run_marking.proofs.open_changed.Goals as goal

pub differs-requires : goal.differs-requires
differs-requires c = fields_fit _ _ _ _ _ c.requires.7 c.requires.0.cells c.requires.3 c.requires.4 c.requires.5

pub open_from-requires : goal.open_from-requires
open_from-requires c = (c.requires.0, c.requires.1, c.requires.2, c.requires.6, c.requires.7)

pub returns-then-differs : goal.returns-then-differs
returns-then-differs c = opens_some _ _ _ _ _ _ c.differs.ensures _ c.if-differs.true c.open_from.ensures

pub returns-else-differs : goal.returns-else-differs
returns-else-differs c = opens_none _ _ _ _ _ _ c.differs.ensures c.if-differs.false
