-- How tokens are read, from left to right: the state of a reading, and readers, from which the grammar is put together.
--
-- Nearly every rule refuses the token that reading stands at, so that the first refusal met is the reply. Two rules speak of the
-- token after something (an array constant without `[`, and too few values of an array): their refusal is noted and reading goes on;
-- what is refused at that very token with a lower number goes before it.
use Rattle.std.specs.Prelude.{Bool, false, not, ◌||◌, List, ℕ, zero, suc, ◌+◌, ◌-◌, eqb, leb, if◌then◌else◌}
use Rattle.std.proofs.Math.Option.{Option, none, some}
use Rattle.value.specs.Limits.{most_names}
use Rattle.token.specs.declared.Token.{Token}
use Rattle.token.specs.declared.Scan.{Scan}
use Rattle.token.specs.Kind.{kind}
use Rattle.token.specs.Scanning.{token_in, kind_in}
use Rattle.names.specs.declared.Entry.{Entry}
use Rattle.names.specs.Names.{entry_at, with_entry, without_entry, find_name}
use Rattle.program.specs.Table.{with_word}
use Rattle.program.specs.Refusal.{Refusal, refusal}
use Rattle.grammar.specs.Ranking.{first_of, broken}

-- what is read: the source's bytes, and how many tokens it has with the stop behind them
abbrev pub Input : Type 0
Input = record { source : List ℕ; scan : Scan }

-- where reading stands: the position of the next token, the refusal noted so far, how many names are in use, the words of the name
-- list, and the word table, in which the tokens stand
abbrev pub State : Type 0
State = record { at : ℕ; noted : Refusal; count : ℕ; names : List ℕ; words : List ℕ }

-- how a reading ends: with what was read, or with the number and place of the reply that refuses it
pub data Result (A : Type 0) : Type 0 where
  ok : A → Result A
  fail : (number place : ℕ) → Result A

-- a reader gives what it has read, with the next state, or the reply
abbrev pub Reader : Type 0 → Type 0
Reader A = Input → State → Result (A × State)

-- ---- one reader after another

infixl 10 ◌>>=◌ ◌>>◌ ◌<<◌ ◌▷◌
abbrev pub and_then : {A B : Type 0} → Result (A × State) → (A → State → Result (B × State)) → Result (B × State)
and_then (ok r) f = f r.0 r.1
and_then (fail number place) f = fail number place

-- one reader and then another, which may depend on what the first has read
unfoldable pub ◌>>=◌ : {A B : Type 0} → Reader A → (A → Reader B) → Reader B
◌>>=◌ m f input s = and_then (m input s) (λ a t. f a input t)

-- what the second has read
abbrev pub ◌>>◌ : {A B : Type 0} → Reader A → Reader B → Reader B
m >> k = m >>= λ _. k

-- nothing is read, and a is given
unfoldable pub return : {A : Type 0} → A → Reader A
return a input s = ok (a, s)

-- what the first has read
abbrev pub ◌<<◌ : {A B : Type 0} → Reader A → Reader B → Reader A
m << k = m >>= λ a. k >> return a

-- what f makes of what is read
abbrev pub ◌▷◌ : {A B : Type 0} → Reader A → (A → B) → Reader B
m ▷ f = m >>= λ a. return (f a)

abbrev pub unit : Unit {0}
unit = tt

abbrev pub nothing : Reader Unit
nothing = return unit

-- a turn of a repeated reader: once more, or the end
pub data Turn (S R : Type 0) : Type 0 where
  again : S → Turn S R
  done : R → Turn S R

abbrev pub turned : {S R : Type 0} → Turn S R → (S → Reader R) → Reader R
turned (again x) k = k x
turned (done r) k = return r

-- a reader's state at one point, as a reader of it
unfoldable pub get_state : Reader State
get_state input s = ok (s, s)

-- ---- refusals

abbrev pub refuse_with : {A : Type 0} → Refusal → Result A
refuse_with c = fail c.number c.place

-- the token at a position of the state's table, or the stop
abbrev pub token_of : Input → State → ℕ → Token
token_of input s i = token_in s.words input.scan i

-- refused by rule n at the next token
unfoldable pub refuse : {A : Type 0} → ℕ → Reader A
refuse n input s = refuse_with (first_of s.noted (broken n (token_of input s s.at)))

-- refused by rule n at the token just read
unfoldable pub refuse_last : {A : Type 0} → ℕ → Reader A
refuse_last n input s = refuse_with (first_of s.noted (broken n (token_of input s (s.at - 1))))

-- rule n is broken at the next token, but reading goes on: a lower number at this token would go before it
unfoldable pub note : ℕ → Reader Unit
note n input s =
    let c = first_of s.noted (refusal n (token_of input s s.at).start) in
    ok (unit, record { at = s.at; noted = c; count = s.count; names = s.names; words = s.words })

-- a turn and those after it. Each turn reads a token, so that `turns` are enough
unfoldable pub repeat : {S R : Type 0} → ℕ → (S → Reader (Turn S R)) → S → Reader R
repeat zero body x = refuse 7
repeat (suc n) body x = body x >>= λ t. turned t (λ y. repeat n body y)

abbrev pub turns : ℕ
turns = 4097

-- ---- tokens

abbrev pub is_kind : Token → ℕ → Bool
is_kind t k = eqb t.kind k

-- the next token
unfoldable pub next_token : Reader Token
next_token input s = ok (token_of input s s.at, s)

-- the kind of the token behind the next one, also where that is the one at which the sequence stops
unfoldable pub kind_after : Reader ℕ
kind_after input s = ok (kind_in s.words input.scan (s.at + 1), s)

-- the position of the next token
unfoldable pub position : Reader ℕ
position input s = ok (s.at, s)

-- over the next token
unfoldable pub advance : Reader Unit
advance input s = ok (unit, record { at = s.at + 1; noted = s.noted; count = s.count; names = s.names; words = s.words })

-- word w of the token at position i is written
unfoldable pub put : ℕ → ℕ → ℕ → Reader Unit
put i w v input s = ok (unit, record { at = s.at; noted = s.noted; count = s.count; names = s.names; words = with_word s.words i w v })

-- words 2 and 3 of the token at position i are written
abbrev pub put_both : ℕ → ℕ → ℕ → Reader Unit
put_both i v w = put i 2 v >> put i 3 w

-- over a token of kind k, else refused by rule n
unfoldable pub expect_or : ℕ → ℕ → Reader Unit
expect_or k n = next_token >>= λ t. if is_kind t k then advance else refuse n

abbrev pub expect : ℕ → Reader Unit
expect k = expect_or k 7

-- the next token must not be of kind k, else refused by rule n
unfoldable pub forbid : ℕ → ℕ → Reader Unit
forbid k n = next_token >>= λ t. if is_kind t k then refuse n else nothing

-- over an opening token, where one more may be open, else refused 14
unfoldable pub opening : Bool → Reader Unit
opening free = if free then advance else refuse 14

-- ---- names

-- an identifier, or `cell` or `time`
unfoldable pub is_name : Token → Bool
is_name t = is_kind t kind.name || is_kind t kind.cell || is_kind t kind.time

abbrev pub on_slot : {B : Type 0} → Option ℕ → (ℕ → B) → B → B
on_slot (some slot) found missing = found slot
on_slot none found missing = missing

-- what follows with the slot of the name of a name space (of fields, or of visible names) that is spelled as token t, or without one
unfoldable pub by_name : {A : Type 0} → Token → Bool → (ℕ → Reader A) → Reader A → Reader A
by_name t fields found missing input s =
    on_slot (find_name input.source s.names s.count fields t.start t.len) (λ slot. found slot input s) (missing input s)

-- the name in a slot
unfoldable pub entry_in : ℕ → Reader Entry
entry_in slot input s = ok (entry_at s.names slot, s)

-- the value of a name's record while reading: the number of a field or a variable, an index's depth, where an array's name is declared
abbrev pub number_of : Entry → ℕ
number_of e = e.word

abbrev pub depth_of : Entry → ℕ
depth_of e = e.word

abbrev pub array_at : Entry → ℕ
array_at e = e.word

-- a record of kind k with a value's word for the name at a token's position; its slot
unfoldable pub declare : ℕ → ℕ → ℕ → Reader ℕ
declare i k v input s =
    let t = token_of input s i in
    let names = with_entry s.names s.count (record { start = t.start; len = t.len; kind = k; word = v }) in
    ok (s.count, record { at = s.at; noted = s.noted; count = s.count + 1; names = names; words = s.words })

-- the record in a slot is free again
unfoldable pub release : ℕ → Reader Unit
release slot input s = ok (unit, record { at = s.at; noted = s.noted; count = s.count - 1; names = without_entry s.names slot; words = s.words })

-- over a name in declaration position; its token's position. Refused 7 if it is no name, 9 if it is predefined or taken, then by `full`
-- if that is not 0, then 15 if the list is full
unfoldable pub fresh : Bool → ℕ → Reader ℕ
fresh fields full =
    next_token >>= λ t.
    get_state >>= λ s.
    if not (is_name t) then refuse 7
    else if not (is_kind t kind.name) then refuse 9
    else by_name t fields (λ _. refuse 9)
    (if not (eqb full 0) then refuse full
    else if leb most_names s.count then refuse 15
    else advance >> return s.at)

-- the name of a constant, a variable or an index
abbrev pub fresh_name : Reader ℕ
fresh_name = fresh false 0

-- over a name in use, whose kind and value are noted in the table; its entry
unfoldable pub use_name : ℕ → Reader Entry
use_name slot =
    entry_in slot >>= λ e.
    position >>= λ i.
    put_both i e.kind e.word >> advance >> return e
