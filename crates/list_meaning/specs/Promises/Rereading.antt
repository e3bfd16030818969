-- What the laws of proofs/Rereading.antt are stated with.
use Rattle.std.specs.Prelude.{ℕ, suc, ◌≤◌, ◌≡◌, false, ℤ, pos, negsuc, nat_abs}
use mathlib.Core.List.{List, [], ◌∷◌, ◌++◌}
use Rattle.std.proofs.Math.Option.{Option, some, none}
use Rattle.std.proofs.Math.Dec.{eqb}
use Rattle.token.specs.Bytes.{kind_of}
use Rattle.list_meaning.specs.Text.{Piece, literal, sign, with_piece, pieces}
use Rattle.list_meaning.specs.Promises.Printing.{Apart}

-- ---- texts that are read as given tokens

-- tokens in front of others
abbrev pub prefixed : List Piece → Option (List Piece) → Option (List Piece)
prefixed [] o = o
prefixed (p ∷ ps) o = with_piece p (prefixed ps o)

-- a text is read as tokens wherever it stands before a text that does not go on a literal
pub record ReadAs (xs : List ℕ) (ps : List Piece) : Type 0 where
  pub says : (s : List ℕ) → Apart s → pieces 0 (xs ++ s) ≡ prefixed ps (pieces 0 s)

-- the tokens of a value
abbrev pub value_pieces : ℤ → List Piece
value_pieces (pos n) = literal n ∷ []
value_pieces (negsuc n) = sign 45 ∷ literal (suc n) ∷ []

-- the tokens of a field's value
abbrev pub field_pieces : Option ℤ → List Piece
field_pieces none = []
field_pieces (some z) = value_pieces z

-- a field's value that can be written
abbrev pub WritableField : Option ℤ → Type 0
WritableField none = Unit {0}
WritableField (some z) = nat_abs z ≤ 2147483647

-- ---- lists of numbers

-- a claim of every member of a list
abbrev pub All : {A : Type 0} → (A → Type 0) → List A → Type 0
All P [] = Unit {0}
All P (a ∷ as') = P a × All P as'

-- tokens with commas between them
abbrev pub spread : List (List Piece) → List Piece
spread [] = []
spread (x ∷ []) = x
spread (x ∷ y ∷ ys) = x ++ sign 44 ∷ spread (y ∷ ys)

-- ---- a cell's line

-- a number that can be written as a literal
abbrev pub Small : ℕ → Type 0
Small n = n ≤ 2147483647

-- a value that can be written with a sign and a literal
abbrev pub Writable : ℤ → Type 0
Writable z = nat_abs z ≤ 2147483647

-- ---- lines

-- no byte of a text ends a line
abbrev pub Unended : List ℕ → Type 0
Unended = All (λ b. eqb (kind_of b) 2 ≡ false)
