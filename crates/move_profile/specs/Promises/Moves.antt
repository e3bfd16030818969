-- Rule 3: the statement. Nothing of it hangs on the number of dimensions.
use Rattle.std.specs.Prelude.{◌≡◌, Bool, List, ℕ, suc, ◌≤◌}
use Rattle.cell_meaning.specs.Links.{table_of}
use Rattle.move_meaning.specs.Profile.{tokens_in, kinds_at, opens_at, closes_at, past_constants, last_statement, moves_once}

pub record KindsAt (words : List ℕ) (n at : ℕ) (kinds : List ℕ) (r : Bool) : Type 0 where
  pub is : (dims : ℕ) → r ≡ kinds_at (table_of words n dims) at kinds

pub record OpensAt (words : List ℕ) (n f at : ℕ) (r : Bool) : Type 0 where
  pub is : (dims : ℕ) → r ≡ opens_at f (tokens_in words n dims) at

pub record ClosesAt (words : List ℕ) (n f at : ℕ) (r : Bool) : Type 0 where
  pub is : (dims : ℕ) → r ≡ closes_at f (tokens_in words n dims) at

pub record PastConstants (words : List ℕ) (n at r : ℕ) : Type 0 where
  pub is : (dims : ℕ) → r ≡ past_constants (suc n) (table_of words n dims) at
  pub within : r ≤ n

pub record LastStatement (words : List ℕ) (n at r : ℕ) : Type 0 where
  pub is : (dims : ℕ) → r ≡ last_statement (suc n) (tokens_in words n dims) n at
  pub within : r ≤ n

pub record DecidesMove (words : List ℕ) (n f at : ℕ) (r : Bool) : Type 0 where
  pub is : (dims : ℕ) → r ≡ moves_once f (tokens_in words n dims) at
