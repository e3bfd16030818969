use mathlib.Core.Path.{refl}
use native.Mathlib.Omega.{arith}
use borrow.Author.Rules.{rules}
use Rattle.tool_reply_line.proofs.Lines.{digits_length}
use Rattle.list_meaning.specs.Writing.{print_number}
use Rattle.list_writer.proofs.PrintingLaws.{separator_length, listed_bound, listed_start, listed_again}
use Rattle.list_writer.proofs.printing.Room.numbers.Goals as goal

pub loop-k-init : goal.loop-k-init
loop-k-init c = (listed_start print_number 0 c.args.numbers.now _ _, refl)

pub separator-requires : goal.separator-requires
separator-requires c =
    omega (arith, listed_bound print_number 0 c.args.numbers.now 10 (digits_length 9) (omega arith) c.loop-k.invariant.0)

pub number-requires : goal.number-requires
number-requires c =
    omega (arith, listed_bound print_number 0 c.args.numbers.now 10 (digits_length 9) (omega arith) c.loop-k.invariant.0, c.separator.ensures.puts.end, separator_length c.loop-k.k)

pub loop-k-preserved : goal.loop-k-preserved
loop-k-preserved c =
    (listed_again print_number 0 c.args.numbers.now c.loop-k.k c.loop-k-test.true c.loop-k.invariant.0 c.separator.ensures.puts c.number.ensures.puts, search rules)
