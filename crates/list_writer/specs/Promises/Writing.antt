-- What the writer returns, and what it leaves.
use Rattle.std.specs.Prelude.{◌≡◌, Bool, List, ℕ, Result}
use Rattle.std.proofs.Math.Option.{Option}
use Rattle.program.specs.Syntax.{Program}
use Rattle.program.specs.Refusal.{Refusal}
use Rattle.program.specs.declared.Rule.{Rule}
use Rattle.grammar.specs.Checking.{words_after}
use Rattle.grammar.specs.Promises.Flat.{names_after}
use Rattle.cell_meaning.specs.Promises.Stands.{Holds}
use Rattle.cell_meaning.specs.Written.{relatives_in}
use Rattle.run_calls.specs.Calls.{NameForm, SourceLent}
use Rattle.run_admission.specs.Promises.Admitting.{Lists}
use Rattle.move_meaning.specs.Promises.Flags.{flag_told}
use Rattle.list_meaning.specs.Writing.{Wanted, write, write_source}
use Rattle.list_writer.specs.WriterCalls.{writer_left, wrote_of}

-- the writer writes what the definition says, for every program that stands in the table, and the flag that the number stands for
pub record WritesLoaded (words : List ℕ) (rule : Rule) (told : ℕ) (q : Wanted) (room : List ℕ) (r : Result ℕ Refusal) (room' : List ℕ) : Type 0 where
  pub is : (p : Program) (flag : Option ℕ) → Holds words rule p → Lists words rule (relatives_in p) → told ≡ flag_told rule.fields flag
      → wrote_of r room' ≡ write p flag q room

-- what a source leaves, whether or not the rooms fit
pub record WritesSource (fit : Bool) (source : List ℕ) (q : Wanted) (words names room : List ℕ) (r : Result ℕ Refusal) (words' names' room' : List ℕ) : Type 0 where
  pub wrote : wrote_of r room' ≡ write_source fit source q room
  pub words_are : words' ≡ words_after fit source words
  pub names_are : names' ≡ names_after fit source names

-- the numbers that the writer returns, and the memory that it leaves, are those of the definition
pub record WriterLeaves {N : Type 0} (form : NameForm N) (l : SourceLent N) (q : Wanted) (room : List ℕ) (r : Result ℕ Refusal) (words : List ℕ) (names : List N) (room' : List ℕ) : Type 0 where
  pub is : record { answer = wrote_of r room'; words = words; names = names } ≡ writer_left form l q room
