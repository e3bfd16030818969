use Rattle.api_records.specs.Rows.{is_at}
use Rattle.api_records.proofs.LookupLaws.{NoneBelow}
use Rattle.api_records.proofs.lookup.find_by_place.Given as goal

abbrev pub invariant-loop-k : goal.invariant-loop-k
invariant-loop-k l = NoneBelow (is_at l.place) l.names l.k
