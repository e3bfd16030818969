-- What the queries promise: the reply of the definition.
use Rattle.std.specs.Prelude.{ℕ, Result, Ok, Err}
use Rattle.program.specs.declared.reply.Reason.{Reason}
use Rattle.program.specs.Reason.{reason_number}
use Rattle.run_row_counts.specs.RowQueries.{RowReply, row_reply}

-- the reply that a query returns
abbrev pub row_reply_of : Result ℕ Reason → RowReply
row_reply_of (Ok value) = row_reply 0 value
row_reply_of (Err reason) = row_reply (reason_number reason) 0
