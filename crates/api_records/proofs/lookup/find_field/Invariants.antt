use Rattle.api_records.specs.Rows.{is_field_record}
use Rattle.api_records.proofs.LookupLaws.{NoneBelow}
use Rattle.api_records.proofs.lookup.find_field.Given as goal

abbrev pub invariant-loop-k : goal.invariant-loop-k
invariant-loop-k l = NoneBelow (is_field_record l.number) l.names l.k
