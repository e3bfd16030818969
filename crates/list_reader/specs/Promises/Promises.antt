-- What the functions of this crate promise.
use Rattle.std.specs.Borrow.{Bor}
use Rattle.std.specs.Prelude.{◌≡◌, List, [], ◌∷◌, ℕ, ◌+◌, ◌≤◌, ◌<◌, length, drop, Option as Optional, Some, None}
use Rattle.std.proofs.Math.Option.{Option, some, none}
use Rattle.token.specs.Promises.Promises.{head_kind, too_large}
use Rattle.list_meaning.specs.Text.{Piece, literal, sign, with_piece, pieces}
use Rattle.list_meaning.specs.Promises.Walking.{to_end}
use Rattle.list_reader.specs.declared.Lexed.{Lexed}
use Rattle.list_reader.specs.declared.Lexed.TheVariants.{Literal, Sign, End}

-- r is the position of the first line end from `at` on, or the end of the text
pub record LineEnds (text : List ℕ) (at r : ℕ) : Type 0 where
  pub is : r ≡ at + to_end (drop at text)
  pub onward : at ≤ r
  pub within : r ≤ length text

-- the rest of a line is an end of it
abbrev pub IsEnd : List ℕ → List ℕ → Type 0
IsEnd line rest = (k : ℕ) × (rest ≡ drop k line)

-- the second line is an end of the first, the same tokens stand in both, and no separator at the head of the second
pub record Opens (line rest : List ℕ) : Type 0 where
  pub is : pieces 0 line ≡ pieces 0 rest
  pub within : length rest ≤ length line
  pub ends : IsEnd line rest
  pub stops : head_kind rest ≡ 1 → ⊥

-- the tokens of a line, by the first of them
abbrev pub line_tokens : Optional Lexed → Option (List Piece)
line_tokens (Some (Literal n rest)) = with_piece (literal n) (pieces 0 rest.now)
line_tokens (Some (Sign b rest)) = with_piece (sign b) (pieces 0 rest.now)
line_tokens (Some End) = some []
line_tokens None = none

-- the rest after a token is a shorter end of the line; a literal is at most 2147483647
abbrev pub LineOnward : List ℕ → Optional Lexed → Type 0
LineOnward line (Some (Literal n rest)) = (length rest.now < length line) × (n < too_large) × IsEnd line rest.now
LineOnward line (Some (Sign b rest)) = (length rest.now < length line) × IsEnd line rest.now
LineOnward line (Some End) = Unit {0}
LineOnward line None = Unit {0}

-- r is the first token of a line
pub record Lexes (line : List ℕ) (r : Optional Lexed) : Type 0 where
  pub is : pieces 0 line ≡ line_tokens r
  pub onward : LineOnward line r

-- ---- a literal, or a single byte

-- tokens that no literal leads, and tokens that no single byte leads
abbrev pub NoLiteral : Option (List Piece) → Type 0
NoLiteral none = Unit {0}
NoLiteral (some []) = Unit {0}
NoLiteral (some (literal n ∷ ps)) = ⊥
NoLiteral (some (sign b ∷ ps)) = Unit {0}

abbrev pub NoSign : Option (List Piece) → Type 0
NoSign none = Unit {0}
NoSign (some []) = Unit {0}
NoSign (some (literal n ∷ ps)) = Unit {0}
NoSign (some (sign b ∷ ps)) = ⊥

-- a number that was read, and the rest of the line after it
abbrev pub NumberRead : Type 0
NumberRead = ℕ × Bor (List ℕ)

abbrev pub ReadOnward : List ℕ → Optional NumberRead → Type 0
ReadOnward line None = Unit {0}
ReadOnward line (Some r) = (length r.1.now < length line) × IsEnd line r.1.now

abbrev pub LiteralFirst : Option (List Piece) → Optional NumberRead → Type 0
LiteralFirst o None = NoLiteral o
LiteralFirst o (Some r) = (o ≡ with_piece (literal r.0) (pieces 0 r.1.now)) × (r.0 < too_large)

abbrev pub SignFirst : Option (List Piece) → Optional NumberRead → Type 0
SignFirst o None = NoSign o
SignFirst o (Some r) = o ≡ with_piece (sign r.0) (pieces 0 r.1.now)

-- r is the literal that leads the tokens of a line
pub record ReadsLiteral (line : List ℕ) (r : Optional NumberRead) : Type 0 where
  pub is : LiteralFirst (pieces 0 line) r
  pub onward : ReadOnward line r

-- r is the single byte that leads the tokens of a line
pub record ReadsSign (line : List ℕ) (r : Optional NumberRead) : Type 0 where
  pub is : SignFirst (pieces 0 line) r
  pub onward : ReadOnward line r
