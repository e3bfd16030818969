-- Text that is put into a room.
use Rattle.std.specs.Prelude.{◌≡◌, List, [], ◌∷◌, ℕ, zero, suc, ◌+◌, ◌^◌, ◌<◌, length}
use Rattle.std.proofs.lemmas.List.Edits.{sets}
use Rattle.list_writer.specs.declared.printing.Room.{Room}
use Rattle.grammar.specs.Decimal.{digits_of}

-- a text is put into a room from position `at` on, as far as the room goes; r is the position behind it
pub record Puts (old : List ℕ) (at : ℕ) (text new : List ℕ) (r : ℕ) : Type 0 where
  pub is : new ≡ sets old at text
  pub end : r ≡ at + length text

-- the decimal digits of n are put so; whatever most is, if n has at most so many and one more
pub record PutsDigits (old : List ℕ) (at n : ℕ) (new : List ℕ) (r : ℕ) : Type 0 where
  pub puts : (most : ℕ) → n < 10 ^ (most + 1) → Puts old at (digits_of most n) new r

-- the same of a room, behind what was put before
abbrev pub Put : Room → List ℕ → Room → Type 0
Put old text new = Puts old.bytes.now old.at text new.bytes.now new.at

abbrev pub PutDigits : Room → ℕ → Room → Type 0
PutDigits old n new = PutsDigits old.bytes.now old.at n new.bytes.now new.at

-- what stands before the k-th of several texts
abbrev pub separator : ℕ → List ℕ
separator zero = []
separator (suc k) = 44 ∷ 32 ∷ []
