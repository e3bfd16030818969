-- What the functions promise of the flag of a source in the profile, of the first rule that it misses, and of the whole check.
use Rattle.std.specs.Prelude.{◌≡◌, Bool, List, ℕ, Result}
use Rattle.program.specs.declared.Rule.{Rule}
use Rattle.grammar.specs.Source.{Accepted}
use Rattle.grammar.specs.Checking.{words_after}
use Rattle.grammar.specs.Promises.Flat.{names_after}
use Rattle.move_meaning.specs.Profile.{flag_field, profile_flag, rule_missed, missed, one_move}
use Rattle.move_meaning.specs.Promises.Flags.{flag_told}
use Rattle.move_profile.specs.declared.Missed.{Missed}
use Rattle.move_profile.specs.Promises.Standing.{Stood}
use Rattle.move_profile.specs.Promises.Public.{answer_told}

-- the flag of an accepted source: its field's number, or the number of fields for none
pub record FlagOf (source words names : List ℕ) (rule : Rule) (r : ℕ) : Type 0 where
  pub is : (a : Accepted) → Stood source words names rule a → r ≡ flag_told rule.fields (profile_flag source a)

-- the first rule that an accepted source misses
pub record RuleMissed (source words names : List ℕ) (rule : Rule) (r : Result (Unit {0}) Missed) : Type 0 where
  pub is : (a : Accepted) → Stood source words names rule a → answer_told r ≡ missed (rule_missed (flag_field source a) (profile_flag source a)) 0 0

-- the answer, and the word table and the name list as a check leaves them; `fit` says whether what is lent beside the source fits
pub record CheckOneMove (fit : Bool) (source ws ns : List ℕ) (r : Result (Unit {0}) Missed) (ws' ns' : List ℕ) : Type 0 where
  pub answer : answer_told r ≡ one_move fit source
  pub words : ws' ≡ words_after fit source ws
  pub names : ns' ≡ names_after fit source ns
