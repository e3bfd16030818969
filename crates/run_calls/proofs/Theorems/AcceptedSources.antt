-- What is known of an accepted source: it has a dimension and a field, and its program's flag is set where `time` stands.
use Prim.Native.Nat.{ℕ}
use mathlib.Core.Path.{◌≡◌, refl}
use mathlib.Core.Bool.{Bool}
use mathlib.Core.List.{List}
use Rattle.grammar.specs.Source.{Accepted}
use Rattle.grammar.specs.Checking.{accepted, read_source}
use Rattle.read_links.proofs.Theorems.Timed.{Timing}
use Rattle.read_links.proofs.Theorems.Accepted.{parsed, flagged}
use Rattle.run_meaning.proofs.Theorems.Locality.{timed_expr, timed_condition, timed_clauses, timed, Flagged}
use Rattle.move_meaning.proofs.Theorems.InProfile.{accepted_parsed}
use Rattle.list_meaning.proofs.Theorems.RoundTrip.{Declared}
use Rattle.list_meaning.proofs.Theorems.Sources.{declared}

-- whether `time` stands in a tree, clause by clause, as the theorem on accepted sources asks for it
pub timing : Timing timed_expr timed_condition timed_clauses timed
unfolding timed_expr timed_condition timed_clauses timed
timing = record {
  of_number = λ z. refl;
  of_variable = λ slot. refl;
  of_index = λ depth. refl;
  of_field = λ is f. refl;
  of_element = λ p zs e. refl;
  of_unary = λ op p e. refl;
  of_binary = λ op p d e. refl;
  of_none = refl;
  of_some = λ e. refl;
  of_nil = refl;
  of_cons = λ c cs. refl;
  of_empty = refl;
  of_assign = λ to cs rest. refl;
  of_select = λ c d e rest. refl;
  of_loop = λ r d rest. refl;
  of_exit = λ rest. refl;
  of_constant = λ rest. refl;
}

module _ (fit : Bool) (source : List ℕ) (a : Accepted) (e : read_source fit source ≡ accepted a) where
  pub accepted_declared : Declared a.program
  accepted_declared = let r = accepted_parsed fit source a e in declared source r.0 a r.1

  pub accepted_flagged : Flagged a.program
  accepted_flagged = let r = accepted_parsed fit source a e in flagged timing source a (parsed source r.0 a r.1)
