-- The line with the spelling's numbers, and what writing a line promises.
use Rattle.std.specs.Prelude.{◌≡◌, List, ◌++◌, ℕ, ◌+◌, ◌^◌, ◌≤◌, ◌<◌, eqb, length, take, if◌then◌else◌}
use Rattle.token.specs.Bytes.{as_bytes}
use Rattle.program.specs.Refusal.{Refusal}
use Rattle.grammar.specs.Decimal.{digits_of}

-- a space and a number
abbrev pub item : ℕ → List ℕ
item n = as_bytes " " ++ digits_of 9 n

-- a refusal's number and place
abbrev pub refused_text : Refusal → List ℕ
refused_text c = as_bytes "refused " ++ digits_of 9 c.number ++ as_bytes " at " ++ digits_of 9 c.place

-- the line for a reply and, behind the place of a refusal, where its spelling stands, its first byte and its length
unfoldable pub spelled_line : Refusal → ℕ → ℕ → ℕ → List ℕ
spelled_line c stands start len =
    if eqb c.number 0 then as_bytes "accepted\n"
    else refused_text c ++ item stands ++ item start ++ item len ++ as_bytes "\n"

-- a text was written into a line, behind its first `at` bytes, up to position r
pub record LineWrote (old : List ℕ) (at : ℕ) (text new : List ℕ) (r : ℕ) : Type 0 where
  pub is : take r new ≡ take at old ++ text
  pub end : r ≡ at + length text

-- the decimal digits of n were written so; whatever most is, if n has at most so many and one more
abbrev pub Digits : List ℕ → ℕ → ℕ → List ℕ → ℕ → Type 0
Digits old at n new r = (most : ℕ) → n < 10 ^ (most + 1) → LineWrote old at (digits_of most n) new r

-- the first r bytes of a line, at most so many, are a text
pub record Says (most : ℕ) (text line : List ℕ) (r : ℕ) : Type 0 where
  pub is : take r line ≡ text
  pub within : r ≤ most
