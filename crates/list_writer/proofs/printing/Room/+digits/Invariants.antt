use Rattle.list_writer.proofs.printing.Room.+digits.Given as goal

abbrev pub decreases-digits : goal.decreases-digits
decreases-digits l = l.n
