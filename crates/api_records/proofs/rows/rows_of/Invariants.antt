use Rattle.std.proofs.Common.{◌≡◌, replicate}
use Rattle.api_records.specs.Rows.{no_name, rows_of}
use Rattle.api_records.proofs.RowLaws.{filled}
use Rattle.api_records.proofs.rows.rows_of.Given as goal

-- after k turns the first k records are those of the flat words
abbrev pub invariant-loop-k : goal.invariant-loop-k
invariant-loop-k l = record { made : l.rows ≡ filled (replicate 256 no_name) (rows_of l.flat) l.k }
