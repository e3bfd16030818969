-- What the code's readers promise. The definition's reader builds what is read (a number, a tree ..); the code keeps a place of reading,
-- the name words and the word table, so that a promise says: the definition goes on exactly if the code does, to the state that the code's
-- place stands for, and what it has read is related so to that place; or both refuse with the same reply.
use Rattle.std.specs.Prelude.{◌≡◌, Bool, true, List, ℕ, ◌+◌, ◌-◌, ◌≤◌, ℤ}
use Rattle.value.specs.Limits.{most_tokens, table_words, most_names, name_words}
use Rattle.value.specs.Worked.{decode_of}
use Rattle.token.specs.declared.Token.{Token}
use Rattle.token.specs.declared.Scan.{Scan}
use Rattle.token.specs.Scanning.{token_in}
use Rattle.names.specs.declared.Entry.{Entry}
use Rattle.names.specs.Names.{with_entry}
use Rattle.program.specs.Syntax as syntax
use Rattle.program.specs.Syntax.{Range}
use Rattle.program.specs.Table.{with_word}
use Rattle.program.specs.Reason.{reason_number}
use Rattle.program.specs.Refusal.{Refusal, refusal, no_refusal}
use Rattle.program.specs.declared.reply.Reason.{Reason}
use Rattle.grammar.specs.Ranking.{first_of, broken}
use Rattle.grammar.specs.Reader.{Input, State, Result, ok, fail, Reader, Turn, again, done, is_name}
use Rattle.read_state.specs.declared.Reading.{Reading}
use Rattle.read_state.specs.declared.Note.{Note}
use Rattle.std.specs.Prelude as rust
use Rattle.std.specs.Prelude.{Ok, Err, Some, None}

-- how a reading ends: with its state then, or with the reply that refuses
abbrev pub Read : Type 0
Read = rust.Result Reading Refusal

-- ---- what a place of reading stands for

abbrev pub input : List ℕ → Scan → Input
input source scan = record { source = source; scan = scan }

-- the refusal that is noted
abbrev pub note_refusal : Note → Refusal
note_refusal n = refusal (reason_number n.reason) n.place

abbrev pub refusal_noted : rust.Option Note → Refusal
refusal_noted None = no_refusal
refusal_noted (Some note) = note_refusal note

abbrev pub noted_in : Reading → Refusal
noted_in s = refusal_noted s.noted

-- the state that a place of reading, the name words and the word table stand for
abbrev pub state : Reading → List ℕ → List ℕ → State
state s ns ws = record { at = s.at; noted = noted_in s; count = s.count; names = ns; words = ws }

-- ---- how what is read is related to the place behind it

-- it follows from the place
abbrev pub exactly : {A : Type 0} → (Reading → A) → A → Reading → Type 0
exactly f a t = a ≡ f t

-- nothing is said of it
abbrev pub anything : {A : Type 0} → A → Reading → Type 0
anything a t = Unit {0}

-- a value, the number of a slot, a field or a variable, a range
abbrev pub InValue : ℤ → Reading → Type 0
InValue = exactly (λ t. decode_of t.value)

abbrev pub InNumber : ℕ → Reading → Type 0
InNumber = exactly (λ t. t.number)

abbrev pub bounds : Range → Reading → Type 0
bounds = exactly (λ t. syntax.range (decode_of t.low) (decode_of t.value))

-- the position of the token just read
abbrev pub passed : ℕ → Reading → Type 0
passed = exactly (λ t. t.at - 1)

-- it is a, whatever the place
abbrev pub only : {A : Type 0} → A → A → Reading → Type 0
only a b t = b ≡ a

-- a turn of a repeated reader: once more, with an X; the end, with an R
abbrev pub once_more : {S R : Type 0} → (S → Type 0) → Turn S R → Reading → Type 0
once_more X (again x) t = X x
once_more X (done r) t = ⊥

abbrev pub AtEnd : {S R : Type 0} → (R → Reading → Type 0) → Turn S R → Reading → Type 0
AtEnd Q (again x) t = ⊥
AtEnd Q (done r) t = Q r t

-- ---- the promise

abbrev pub Told : {A : Type 0} → (A → Reading → Type 0) → Result (A × State) → Read → List ℕ → List ℕ → Type 0
Told {A} R o (Ok t) ns ws = (a : A) × (R a t) × (o ≡ ok (a, state t ns ws))
Told R o (Err e) ns ws = o ≡ fail e.number e.place

-- the code's answer r, with the words at exit, is what reader m gives on the state that the entry stands for
pub record Gives {A : Type 0} (R : A → Reading → Type 0) (m : Reader A) (source : List ℕ) (scan : Scan) (s : Reading) (ns ws : List ℕ) (r : Read) (ns' ws' : List ℕ) : Type 0 where
  pub is : Told R (m (input source scan) (state s ns ws)) r ns' ws'

-- where reading went on: to position `least` at least and no further than behind the last token, with at most `top` names
abbrev pub Goes : ℕ → Scan → ℕ → Read → Type 0
Goes top scan least (Ok t) = (least ≤ t.at) × (t.at ≤ scan.count) × (t.count ≤ top)
Goes top scan least (Err e) = Unit {0}

pub record Onward (top : ℕ) (scan : Scan) (least : ℕ) (r : Read) : Type 0 where
  pub goes : Goes top scan least r

-- what every reader asks: the sizes of the name list and the table, and where reading stands
pub record Ready (scan : Scan) (listed tabled : ℕ) (s : Reading) : Type 0 where
  pub tokens : scan.count ≤ most_tokens
  pub table : tabled ≡ table_words
  pub list : listed ≡ name_words
  pub here : s.at ≤ scan.count
  pub few : s.count ≤ most_names

-- what a reader of the code promises: its answer, and that it reads a token at least
pub record Reads {A : Type 0} (R : A → Reading → Type 0) (m : Reader A) (source : List ℕ) (scan : Scan) (top : ℕ) (s : Reading) (ns ws : List ℕ) (r : Read) (ns' ws' : List ℕ) : Type 0 where
  pub gives : Gives R m source scan s ns ws r ns' ws'
  pub onward : Onward top scan (s.at + 1) r

-- what a reader promises that may read nothing
pub record Stays {A : Type 0} (R : A → Reading → Type 0) (m : Reader A) (source : List ℕ) (scan : Scan) (top : ℕ) (s : Reading) (ns ws : List ℕ) (r : Read) (ns' ws' : List ℕ) : Type 0 where
  pub gives : Gives R m source scan s ns ws r ns' ws'
  pub onward : Onward top scan s.at r

-- what a reader promises that looks at tokens alone, and reads so many
pub record Passes {A : Type 0} (R : A → Reading → Type 0) (m : Reader A) (scan : Scan) (many : ℕ) (s : Reading) (ws : List ℕ) (r : Read) : Type 0 where
  pub gives : (source ns : List ℕ) → Gives R m source scan s ns ws r ns ws
  pub onward : Onward s.count scan (s.at + many) r

-- ---- what the leaves promise

-- the first of two refusals, as an answer
abbrev pub first_refused : Refusal → Refusal → Read
first_refused a b = Err (first_of a b)

-- refused by rule n at the token at position i
abbrev pub refusing : List ℕ → Scan → Reading → ℕ → ℕ → Read
refusing ws scan s i n = first_refused (noted_in s) (broken n (token_in ws scan i))

-- the number of the rule that is broken, for a reason; 0: none
abbrev pub rule_number : rust.Option Reason → ℕ
rule_number None = 0
rule_number (Some reason) = reason_number reason

-- one name less
abbrev pub released_of : Reading → Reading
released_of s = record { at = s.at; noted = s.noted; count = s.count - 1; value = s.value; low = s.low; number = s.number; fields = s.fields; named = s.named; more = s.more }

abbrev pub moved_of : Reading → Reading
moved_of s = record { at = s.at + 1; noted = s.noted; count = s.count; value = s.value; low = s.low; number = s.number; fields = s.fields; named = s.named; more = s.more }

pub record Moved (s r : Reading) : Type 0 where
  pub is : r ≡ moved_of s
  pub at : r.at ≡ s.at + 1
  pub count : r.count ≡ s.count

-- what was read last stands beside the place of reading
abbrev pub carrying_value : Reading → ℕ → ℕ → Reading
carrying_value s v l = record { at = s.at; noted = s.noted; count = s.count; value = v; low = l; number = s.number; fields = s.fields; named = s.named; more = s.more }

abbrev pub carrying_number : Reading → ℕ → Reading
carrying_number s n = record { at = s.at; noted = s.noted; count = s.count; value = s.value; low = s.low; number = n; fields = s.fields; named = s.named; more = s.more }

abbrev pub carrying_fields : Reading → ℕ → Bool → Reading
carrying_fields s n named = record { at = s.at; noted = s.noted; count = s.count; value = s.value; low = s.low; number = s.number; fields = n; named = named; more = s.more }

abbrev pub carrying_more : Reading → Bool → Reading
carrying_more s m = record { at = s.at; noted = s.noted; count = s.count; value = s.value; low = s.low; number = s.number; fields = s.fields; named = s.named; more = m }

-- r is t, which stands where s does
pub record Carries (s t r : Reading) : Type 0 where
  pub is : r ≡ t
  pub here : (ns ws : List ℕ) → state r ns ws ≡ state s ns ws
  pub at : r.at ≡ s.at
  pub count : r.count ≡ s.count
  pub value : r.value ≡ t.value
  pub low : r.low ≡ t.low
  pub number : r.number ≡ t.number
  pub fields : r.fields ≡ t.fields
  pub named : r.named ≡ t.named
  pub more : r.more ≡ t.more

abbrev pub note_of : List ℕ → Scan → Reading → ℕ → Refusal
note_of ws scan s n = first_of (noted_in s) (refusal n (token_in ws scan s.at).start)

abbrev pub noted_of : Reading → rust.Option Note → Reading
noted_of s n = record { at = s.at; noted = n; count = s.count; value = s.value; low = s.low; number = s.number; fields = s.fields; named = s.named; more = s.more }

pub record Noted (ws : List ℕ) (scan : Scan) (s : Reading) (n : ℕ) (r : Reading) : Type 0 where
  pub is : r ≡ noted_of s r.noted
  pub noted : noted_in r ≡ note_of ws scan s n
  pub at : r.at ≡ s.at
  pub count : r.count ≡ s.count

-- whether a token is a name's; if so, it is no stop
pub record Named (t : Token) (r : Bool) : Type 0 where
  pub is : r ≡ is_name t
  pub kind : r ≡ true → 1 ≤ t.kind

-- a name is declared: its entry is written behind the others, and its slot is carried on
abbrev pub declared_of : Reading → Reading
declared_of s = record { at = s.at; noted = s.noted; count = s.count + 1; value = s.value; low = s.low; number = s.count; fields = s.fields; named = s.named; more = s.more }

abbrev pub entry_of : Token → ℕ → ℕ → Entry
entry_of t k v = record { start = t.start; len = t.len; kind = k; word = v }

pub record Declares (i k v : ℕ) (scan : Scan) (s : Reading) (ns ws : List ℕ) (r : Reading) (ns' : List ℕ) : Type 0 where
  pub words : ns' ≡ with_entry ns s.count (entry_of (token_in ws scan i) k v)
  pub is : r ≡ declared_of s
  pub at : r.at ≡ s.at
  pub count : r.count ≡ s.count + 1
  pub number : r.number ≡ s.count

-- a name in use is passed over: its kind and what the table notes of it are written
pub record Released (s r : Reading) : Type 0 where
  pub is : r ≡ released_of s
  pub at : r.at ≡ s.at
  pub count : r.count ≡ s.count - 1

pub record Uses (e : Entry) (s : Reading) (ws : List ℕ) (r : Reading) (ws' : List ℕ) : Type 0 where
  pub words : ws' ≡ with_word (with_word ws s.at 2 e.kind) s.at 3 e.word
  pub is : r ≡ moved_of s
  pub at : r.at ≡ s.at + 1
  pub count : r.count ≡ s.count
