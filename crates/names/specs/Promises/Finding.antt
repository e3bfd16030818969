-- What the search for a name promises.
use Rattle.std.specs.Prelude.{◌≡◌, Bool, ◌&&◌, List, ℕ, ◌<◌, Some, None}
use Rattle.std.specs.Prelude as rust
use Rattle.std.proofs.Math.Option.{Option, none, some}
use Rattle.token.specs.Bytes.{same}
use Rattle.names.specs.declared.Entry.{Entry}
use Rattle.names.specs.Names.{entry_at, in_space, letters, find_name}

-- a name is of the name space and spelled as the n bytes from a place on
abbrev pub match_of : List ℕ → Bool → ℕ → ℕ → Entry → Bool
match_of source fields start n e = in_space fields e && same (letters source start n) (letters source e.start e.len)

-- whether the name in a slot is the one that is looked for
pub record Matches (source names : List ℕ) (slot : ℕ) (fields : Bool) (start n : ℕ) (r : Bool) : Type 0 where
  pub is : r ≡ match_of source fields start n (entry_at names slot)

-- the slot of a name, or that there is none
abbrev pub SlotFound : Type 0
SlotFound = rust.Option ℕ

abbrev pub found_of : Option ℕ → SlotFound
found_of (some slot) = Some slot
found_of none = None

abbrev pub Below : ℕ → SlotFound → Type 0
Below n (Some slot) = slot < n
Below n None = Unit {0}

-- the slot of the name, which is one of the list's, or that there is none
pub record Finds (source names : List ℕ) (count : ℕ) (fields : Bool) (start n : ℕ) (r : SlotFound) : Type 0 where
  pub is : r ≡ found_of (find_name source names count fields start n)
  pub below : Below count r
