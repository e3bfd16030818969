-- What the functions of this crate promise, beside the definitions.
use Rattle.std.specs.Prelude.{Bool, true, false, ◌&&◌, ◌||◌, ◌≡◌, List, [], ◌∷◌, ◌++◌, ℕ, ◌+◌, ◌-◌, ◌*◌, ◌≤◌, ◌<◌, length, take, drop, get_or, eqb, if◌then◌else◌, Option, Some, None, unwrap_or}
use Rattle.std.specs.Borrow.{Bor}
use Rattle.std.specs.declared.ops.Range.{Range}
use Rattle.value.specs.Limits.{most_tokens}
use Rattle.token.specs.Bytes.{byte_kind, kind_of}
use Rattle.token.specs.Lexeme.{Lexeme, Spelled, spelled, keywords, two_byte_tokens, find_kind, starts, in_name, in_literal, extent, lexeme_of, word, digits, read_token}
use Rattle.token.specs.Scanning.{blanks, token_from, stop_number, scan, token_words, scanned_words, scan_of}
use Rattle.token.specs.declared.Token.{Token}
use Rattle.token.specs.declared.Scan.{Scan}
use Rattle.token.specs.declared.Lexed.{Lexed}
use Rattle.token.specs.declared.bytes.ByteKind.{ByteKind}
use Rattle.token.specs.declared.bytes.ByteKind.TheVariants.{Other, Blank, LineEnd, Letter, Digit, Underscore, Comment, Sign, End}
use Rattle.token.specs.declared.runs.Run.{Run}
use Rattle.token.specs.declared.runs.Run.TheVariants.{Name, Literal}

-- the number of a kind of bytes, and 8 for the end
abbrev pub kind_number : ByteKind → ℕ
kind_number Other = byte_kind.other
kind_number Blank = byte_kind.blank
kind_number LineEnd = byte_kind.line_end
kind_number Letter = byte_kind.letter
kind_number Digit = byte_kind.digit
kind_number Underscore = byte_kind.underscore
kind_number Comment = byte_kind.comment
kind_number Sign = byte_kind.sign
kind_number End = 8

-- the table has the kind of each byte
pub record Sorts (table : List ByteKind) : Type 0 where
  pub each : (b : ℕ) → b < 256 → kind_number (get_or table b Other) ≡ kind_of b

-- the number of the kind of the byte at the head, and 8 at the end
unfoldable pub head_kind : List ℕ → ℕ
head_kind [] = 8
head_kind (b ∷ bs) = kind_of b

-- ---- runs

-- r is n bytes behind `at`, and within the source if `at` is
pub record WalksTokens (n : ℕ) (source : List ℕ) (at r : ℕ) : Type 0 where
  pub is : r ≡ at + n
  pub within : r - at ≤ length source - at

-- a walk over separators and comments comes from `at`, inside a comment, to r, behind the comment
pub record Skips (source : List ℕ) (at r : ℕ) : Type 0 where
  pub left : at + blanks true (drop at source) ≡ r + blanks false (drop r source)
  pub onward : at ≤ r

-- a byte of a kind can go on a run
abbrev pub in_run : Run → ℕ → Bool
in_run Name k = eqb k byte_kind.letter || eqb k byte_kind.digit
in_run Literal k = eqb k byte_kind.digit

-- the test of an identifier's bytes, or of a literal's
abbrev pub run_test : Run → List ℕ → Bool
run_test Name = in_name
run_test Literal = in_literal

-- the byte at the head is in a run
unfoldable pub goes_on : (List ℕ → Bool) → List ℕ → Bool
goes_on test s = test s || starts byte_kind.underscore s && test (drop 1 s)

-- ---- literals

-- the least value that is too large
abbrev pub too_large : ℕ
too_large = 2147483648

-- a value with one byte more behind it
abbrev pub with_digit : ℕ → ℕ → ℕ
with_digit n b = if eqb b 95 then n else n * 10 + (b - 48)

-- ---- fixed spellings

-- those of n letters, in their order
abbrev pub of_length : ℕ → List Spelled → List Spelled
of_length n [] = []
of_length n (s ∷ ss) = if eqb (length s.letters) n then s ∷ of_length n ss else of_length n ss

-- the keywords and the predefined names by their length, and behind them the two-byte tokens
abbrev pub spellings : List Spelled
spellings =
    of_length 2 keywords ++ of_length 3 keywords ++ of_length 4 keywords ++ of_length 5 keywords ++ of_length 6 keywords
    ++ of_length 9 keywords ++ of_length 10 keywords ++ two_byte_tokens

-- the spelling with number i
abbrev pub spelling : ℕ → Spelled
spelling i = get_or spellings i (spelled "" 0)

-- the fixed spellings of a table of the code
abbrev pub spelled_of : List (Bor (List ℕ) × ℕ) → List Spelled
spelled_of [] = []
spelled_of (f ∷ fs) = record { letters = f.0.now; kind = f.1 } ∷ spelled_of fs

-- r is the kind of a spelling in a table, none if it is not there
pub record FindsKind (w : List ℕ) (table : List Spelled) (r : Option ℕ) : Type 0 where
  pub is : (other : ℕ) → unwrap_or r other ≡ find_kind w table other

-- the numbers of the keywords and predefined names of n letters
pub record Groups (n : ℕ) (r : Range ℕ) : Type 0 where
  pub is : take (r.end - r.start) (drop r.start spellings) ≡ of_length n keywords
  pub few : r.end ≤ 25
  pub order : r.start ≤ r.end

-- ---- a token at its place

-- the word at the head, and the literal at the head
abbrev pub word_here : List ℕ → Lexeme
word_here s = word s (extent in_name s)

abbrev pub digits_here : List ℕ → Lexeme
digits_here s = digits s (extent in_literal s)

-- a token at a place, and the place behind it
abbrev pub lexed_of : Lexeme → ℕ → Lexed
lexed_of w place = record { token = token_from w place; next = record { at = place + w.len } }

-- the token that stands at a place of the source, and the place behind it, which is further on and within the source
pub record ReadsToken (source : List ℕ) (at : ℕ) (r : Lexed) : Type 0 where
  pub is : r ≡ lexed_of (read_token (drop at source)) at
  pub start : r.token.start ≡ at
  pub behind : r.next.at ≡ at + r.token.len
  pub onward : at < r.next.at
  pub within : r.next.at ≤ length source
  pub told : 1 ≤ r.token.kind + r.token.value

-- ---- a source

-- r is the number at which the sequence stops at a token after `count` tokens; if it goes on there are fewer than 4096
pub record Stops (count : ℕ) (t : Token) (r : Option ℕ) : Type 0 where
  pub is : unwrap_or r 0 ≡ stop_number count (lexeme_of t.kind t.len t.value)
  pub some : r ≡ Some 0 → ⊥
  pub few : r ≡ None → count < most_tokens

-- the tokens stand at the beginning of the table
pub record Fills (source : List ℕ) (r : Scan) (table : List ℕ) : Type 0 where
  pub is : r ≡ scan_of (scan source)
  pub tokens : take (4 * r.count) table ≡ token_words (scan source).tokens
  pub few : r.count ≤ most_tokens
  pub within : r.place ≤ length source

-- the tokens stand in the table, and zeros behind them
pub record Scans (source : List ℕ) (r : Scan) (table : List ℕ) : Type 0 where
  pub is : r ≡ scan_of (scan source)
  pub words : table ≡ scanned_words (scan source)
  pub few : r.count ≤ most_tokens
  pub within : r.place ≤ length source
