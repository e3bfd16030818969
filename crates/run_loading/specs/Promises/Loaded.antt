-- What a call knows of a source that it has loaded and that is accepted.
use Rattle.std.specs.Prelude.{◌≡◌, Bool, List, ℕ, ◌<◌, length}
use Rattle.program.specs.declared.Rule.{Rule}
use Rattle.grammar.specs.Source.{Accepted}
use Rattle.grammar.specs.Checking.{accepted, read_source}
use Rattle.cell_meaning.specs.Written.{relatives_in}
use Rattle.run_meaning.proofs.Theorems.Locality.{Flagged}
use Rattle.program.specs.Promises.Fitting.{Sized}
use Rattle.move_profile.specs.Promises.Standing.{Stood}
use Rattle.run_admission.specs.Promises.Admitting.{Lists}

-- its program stands in the memory that is left, by the numbers of the rule, and they fit
pub record Accepts (fit : Bool) (source words names : List ℕ) (rule : Rule) : Type 0 where
  pub read : Accepted
  pub is : read_source fit source ≡ accepted read
  pub stood : Stood source words names rule read
  pub lists : Lists words rule (relatives_in read.program)
  pub timed : read.program.timed ≡ rule.timed
  pub flagged : Flagged read.program
  pub sized : Sized (length words) rule
  pub some_dims : 0 < rule.dims
  pub some_fields : 0 < rule.fields
