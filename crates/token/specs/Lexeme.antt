-- One token at the head of a text.
use Rattle.std.specs.Prelude.{Bool, true, false, ◌&&◌, ◌||◌, List, [], ◌∷◌, map, ℕ, suc, ◌+◌, ◌-◌, ◌*◌, take, drop, get_or, eqb, ltb, if◌then◌else◌}
use Prim.Native.String.{String}
use Rattle.token.specs.Bytes.{as_bytes, byte_kind, kind_of, fold, same}
use Rattle.token.specs.Kind.{kind, keyword, relation, delimiter}

-- ---- fixed spellings

-- a fixed spelling and its kind
abbrev pub Spelled : Type 0
Spelled = record { letters : List ℕ; kind : ℕ }

abbrev pub spelled : String → ℕ → Spelled
spelled s k = record { letters = as_bytes s; kind = k }

-- the keywords and the predefined names
abbrev pub keywords : List Spelled
keywords =
    spelled "agent" kind.refused ∷ spelled "const" keyword.const ∷ spelled "dimensions" keyword.dimensions
    ∷ spelled "else" keyword.else ∷ spelled "elsif" keyword.elsif ∷ spelled "end" keyword.end ∷ spelled "exit" keyword.exit
    ∷ spelled "for" keyword.for ∷ spelled "forall" keyword.forall ∷ spelled "if" keyword.if ∷ spelled "of" keyword.of
    ∷ spelled "otherwise" keyword.otherwise ∷ spelled "then" keyword.then ∷ spelled "when" keyword.when
    ∷ spelled "cell" kind.cell ∷ spelled "time" kind.time ∷ spelled "random" kind.refused ∷ []

-- the built-in list, which is lent beside a source: the predefined names, in lower case
abbrev pub built_in_names : List ℕ
built_in_names = as_bytes "cell time random"

-- a list is the built-in list
abbrev pub is_built_in : List ℕ → Bool
is_built_in list = same list built_in_names

abbrev pub two_byte_tokens : List Spelled
two_byte_tokens =
    spelled ":=" delimiter.assign ∷ spelled ".." delimiter.dots ∷ spelled "<=" relation.at_most ∷ spelled ">=" relation.at_least
    ∷ spelled "!=" relation.unequal ∷ spelled "->" kind.refused ∷ spelled "+%" kind.refused ∷ spelled "-%" kind.refused ∷ []

-- the kind of a spelling in a table, and `other` if it is not there
unfoldable pub find_kind : List ℕ → List Spelled → ℕ → ℕ
find_kind w [] other = other
find_kind w (s ∷ ss) other = elim (same w s.letters) [ true ↦ s.kind | false ↦ find_kind w ss other ]

-- ---- runs of bytes

-- the byte at the head is of kind k
unfoldable pub starts : ℕ → List ℕ → Bool
starts k [] = false
starts k (b ∷ bs) = eqb (kind_of b) k

-- the byte at the head can go on an identifier: a letter or a digit
unfoldable pub in_name : List ℕ → Bool
in_name s = starts byte_kind.letter s || starts byte_kind.digit s

-- the byte at the head can go on a literal: a digit
unfoldable pub in_literal : List ℕ → Bool
in_literal s = starts byte_kind.digit s

-- the length of the longest run at the head of bytes that satisfy the test, each with at most one underscore before it
unfoldable pub extent : (List ℕ → Bool) → List ℕ → ℕ
extent test [] = 0
extent test (b ∷ bs) = elim (test (b ∷ bs) || eqb (kind_of b) byte_kind.underscore && test bs) [ true ↦ suc (extent test bs) | false ↦ 0 ]

-- the value of decimal digits, underscores passed over, behind a value already read
unfoldable pub decimal : ℕ → List ℕ → ℕ
decimal n [] = n
decimal n (b ∷ bs) = decimal (if eqb b 95 then n else n * 10 + (b - 48)) bs

-- ---- a token without its place

-- its kind, its length, and a literal's value (else 0); where no token can be read, a stop, whose value is its number
abbrev pub Lexeme : Type 0
Lexeme = record { kind : ℕ; len : ℕ; value : ℕ }

abbrev pub lexeme_of : ℕ → ℕ → ℕ → Lexeme
lexeme_of k n v = record { kind = k; len = n; value = v }

-- no token can be read: 3
abbrev pub unreadable : Lexeme
unreadable = lexeme_of kind.stop 1 3

-- a keyword, a predefined name or an identifier of n bytes. Letter case does not matter
unfoldable pub word : List ℕ → ℕ → Lexeme
word s n = lexeme_of (find_kind (map fold (take n s)) keywords kind.name) n 0

-- a literal of n bytes: refused 3 if a letter or a stray underscore follows, 4 if it is over 2147483647
unfoldable pub digits : List ℕ → ℕ → Lexeme
digits s n =
    if starts byte_kind.letter (drop n s) || starts byte_kind.underscore (drop n s) then unreadable
    else if ltb 2147483647 (decimal 0 (take n s)) then lexeme_of kind.stop n 4
    else lexeme_of kind.literal n (decimal 0 (take n s))

-- a token of signs: the longest wins
unfoldable pub punctuation : List ℕ → Lexeme
punctuation s =
    let two = find_kind (take 2 s) two_byte_tokens 0 in
    let one = get_or s 0 0 in
    if eqb two 0 then lexeme_of (if eqb one 34 then kind.refused else one) 1 0
    else lexeme_of two 2 0

-- the token at the head of s, which begins with neither a separator nor a comment
unfoldable pub read_token : List ℕ → Lexeme
read_token s =
    if starts byte_kind.letter s then word s (extent in_name s)
    else if starts byte_kind.digit s then digits s (extent in_literal s)
    else if starts byte_kind.sign s then punctuation s
    else unreadable
