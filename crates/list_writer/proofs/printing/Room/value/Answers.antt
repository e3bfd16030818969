use Rattle.list_writer.proofs.PrintingLaws.{value_put}
use Rattle.list_writer.proofs.printing.Room.value.Goals as goal

pub returns-clause-puts : goal.returns-clause-puts
returns-clause-puts c = value_put c.ranges.z c.encode.ensures c.word.ensures.puts
