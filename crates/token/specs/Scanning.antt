-- The tokens of a source in order, and where and why their sequence stops.
use Rattle.std.specs.Prelude.{Bool, true, false, ◌||◌, List, [], ◌∷◌, ◌++◌, ℕ, zero, suc, ◌+◌, ◌-◌, ◌*◌, ◌/◌, ◌%◌, length, drop, get_or, replicate, eqb, leb, ltb, if◌then◌else◌}
use Rattle.value.specs.Limits.{most_tokens, table_words}
use Rattle.token.specs.declared.Token.{Token}
use Rattle.token.specs.declared.Scan.{Scan}
use Rattle.token.specs.Bytes.{byte_kind, kind_of}
use Rattle.token.specs.Kind.{kind}
use Rattle.token.specs.Lexeme.{Lexeme, read_token}

-- how many bytes of separators and comments stand at the head; `inside` a comment or not
unfoldable pub blanks : Bool → List ℕ → ℕ
blanks inside [] = 0
blanks inside (b ∷ bs) =
    elim (eqb (kind_of b) byte_kind.line_end) [
      | true ↦ suc (blanks false bs)
      | false ↦ elim (inside || eqb (kind_of b) byte_kind.comment) [
        | true ↦ suc (blanks true bs)
        | false ↦ elim (eqb (kind_of b) byte_kind.blank) [ true ↦ suc (blanks false bs) | false ↦ 0 ]
      ]
    ]

-- the number at which the sequence stops where w stands after `count` tokens, and 0 if it goes on:
-- 3 and 4 go before 5, and 5 before 6
unfoldable pub stop_number : ℕ → Lexeme → ℕ
stop_number count w =
    if eqb w.kind kind.stop then w.value
    else if leb most_tokens count then 5
    else if eqb w.kind kind.refused then 6
    else 0

-- the tokens, the number and place of the stop behind them, and the kind of the token at which their sequence stops
abbrev pub Scanned : Type 0
Scanned = record { tokens : List Token; number : ℕ; place : ℕ; kind : ℕ }

abbrev pub stopped : ℕ → ℕ → ℕ → Scanned
stopped number place kind = record { tokens = []; number = number; place = place; kind = kind }

abbrev pub token_from : Lexeme → ℕ → Token
token_from w place = record { kind = w.kind; start = place; len = w.len; value = w.value }

-- the tokens from a place on, whose bytes are s, after `count` tokens. Each turn takes at least one byte, so that as many
-- turns as bytes, and one for the end, are enough. The end of the source stops the sequence with number 7 and no token
unfoldable pub scan_from : ℕ → ℕ → ℕ → List ℕ → Scanned
scan_from zero place count s = stopped 7 place kind.stop
scan_from (suc turns) place count s =
    let skipped = blanks false s in
    let here = place + skipped in
    elim (drop skipped s) [
      | [] ↦ stopped 7 here kind.stop
      | b ∷ bs ↦
          let w = read_token (b ∷ bs) in
          elim (eqb (stop_number count w) 0) [
            | true ↦
                let after = scan_from turns (here + w.len) (suc count) (drop w.len (b ∷ bs)) in
                record { tokens = token_from w here ∷ after.tokens; number = after.number; place = after.place; kind = after.kind }
            | false ↦ stopped (stop_number count w) here w.kind
          ]
    ]

-- the tokens of a source
unfoldable pub scan : List ℕ → Scanned
scan source = scan_from (suc (length source)) 0 0 source

-- ---- tokens in the word table: four words a token, of which word 0 is the kind, word 1 the place of the first byte plus 65536 times
-- the length, and word 2 a literal's value

-- the words of tokens; word 3 is 0
unfoldable pub token_words : List Token → List ℕ
token_words [] = []
token_words (t ∷ ts) = t.kind ∷ (t.start + 65536 * t.len) ∷ t.value ∷ 0 ∷ token_words ts

-- what scanning a source leaves in the table: its tokens, and zeros behind them
unfoldable pub scanned_words : Scanned → List ℕ
scanned_words s = token_words s.tokens ++ replicate (table_words - length (token_words s.tokens)) 0

-- how many tokens there are, and the stop
abbrev pub scan_of : Scanned → Scan
scan_of s = record { count = length s.tokens; number = s.number; place = s.place; kind = s.kind }

-- the token at position i of a table
abbrev pub token_at : List ℕ → ℕ → Token
token_at words i =
    let span = get_or words (4 * i + 1) 0 in
    record { kind = get_or words (4 * i) 0; start = span % 65536; len = span / 65536; value = get_or words (4 * i + 2) 0 }

-- the stop behind the last token, as a token: its value is its number
abbrev pub stop_of : Scan → Token
stop_of s = record { kind = kind.stop; start = s.place; len = 0; value = s.number }

-- the token at position i, or the stop behind the last one
unfoldable pub token_in : List ℕ → Scan → ℕ → Token
token_in words s i = if ltb i s.count then token_at words i else stop_of s

-- the kind of the token at position i, also of the one behind the last at which the sequence stops
unfoldable pub kind_in : List ℕ → Scan → ℕ → ℕ
kind_in words s i = if ltb i s.count then (token_at words i).kind else s.kind
