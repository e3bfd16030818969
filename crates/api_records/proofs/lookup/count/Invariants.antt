use Rattle.std.proofs.Common.{◌≡◌}
use Rattle.api_records.specs.Rows.{count_below}
use Rattle.api_records.proofs.lookup.count.Given as goal

abbrev pub invariant-loop-k : goal.invariant-loop-k
invariant-loop-k l = record { counted : l.n ≡ count_below l.names l.k }
