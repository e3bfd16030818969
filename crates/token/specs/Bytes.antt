-- The kinds of bytes, letters without case, and texts as bytes.
use Rattle.std.specs.Prelude.{Bool, true, false, ◌&&◌, ◌||◌, List, [], ◌∷◌, ℕ, ◌+◌, eqb, leb, if◌then◌else◌}
use Prim.Native.Char.{code}
use Prim.Native.String as S
use Prim.Native.String.{String}

-- a text as the list of its bytes (for texts of ASCII characters)
abbrev pub as_bytes : String → List ℕ
as_bytes S.[] = []
as_bytes (S.◌∷◌ c s) = code c ∷ as_bytes s

-- low ≤ n ≤ high
abbrev pub between : ℕ → ℕ → ℕ → Bool
between low high n = leb low n && leb n high

-- n is in a list
unfoldable pub member : ℕ → List ℕ → Bool
member n [] = false
member n (x ∷ xs) = eqb n x || member n xs

-- two lists of numbers are the same
unfoldable pub same : List ℕ → List ℕ → Bool
same [] [] = true
same [] (y ∷ ys) = false
same (x ∷ xs) [] = false
same (x ∷ xs) (y ∷ ys) = eqb x y && same xs ys

-- the numbers of the byte kinds
abbrev pub byte_kind :
    record { other : ℕ; blank : ℕ; line_end : ℕ; letter : ℕ; digit : ℕ; underscore : ℕ; comment : ℕ; sign : ℕ }
byte_kind = record { other = 0; blank = 1; line_end = 2; letter = 3; digit = 4; underscore = 5; comment = 6; sign = 7 }

-- the single-byte tokens
abbrev pub signs : List ℕ
signs = as_bytes "+-*/%&|!=<>[](),:.\""

-- the kind of a byte: space, tab, LF, VT, FF and CR separate; of these LF and CR end a line
unfoldable pub kind_of : ℕ → ℕ
kind_of b =
    if between 97 122 b || between 65 90 b then byte_kind.letter
    else if between 48 57 b then byte_kind.digit
    else if eqb b 10 || eqb b 13 then byte_kind.line_end
    else if eqb b 32 || between 9 12 b then byte_kind.blank
    else if eqb b 95 then byte_kind.underscore
    else if eqb b 35 then byte_kind.comment
    else if member b signs then byte_kind.sign
    else byte_kind.other

-- a letter's lower case; any other byte is itself
unfoldable pub fold : ℕ → ℕ
fold b = if between 65 90 b then b + 32 else b
