-- What checking a source gives, and what the lent memory holds afterwards.
use Rattle.std.specs.Prelude.{Bool, not, ◌&&◌, List, ℕ, length, replicate, eqb, ltb, if◌then◌else◌}
use Rattle.value.specs.Limits.{most_bytes, table_words, name_words}
use Rattle.program.specs.Refusal.{Refusal, refusal, no_refusal}
use Rattle.grammar.specs.Reader.{Result, ok, fail}
use Rattle.grammar.specs.Source.{Accepted, parse}

-- the word table and the name list, as flat words, are of the right length
unfoldable pub rooms_fit : ℕ → ℕ → Bool
rooms_fit words names = eqb words table_words && eqb names name_words

-- how reading a source ends: turned away before any token, with 1 or 2; refused, with 3 to 15 or 40 to 45; or accepted
pub data SourceRead : Type 0 where
  turned_away : (number place : ℕ) → SourceRead
  refused : (number place : ℕ) → SourceRead
  accepted : Accepted → SourceRead

abbrev pub source_read : Result Accepted → SourceRead
source_read (ok a) = accepted a
source_read (fail number place) = refused number place

-- reading a source, whether or not the rooms fit
unfoldable pub read_source : Bool → List ℕ → SourceRead
read_source fit source =
    let read = source_read (parse source) in
    if not fit then turned_away 1 0
    else if ltb most_bytes (length source) then turned_away 2 most_bytes
    else read

-- an answer by how reading ends: by the number and place of a source that is turned away or refused, or by what is accepted
abbrev pub by_outcome : {A : Type 0} → (ℕ → ℕ → A) → (Accepted → A) → SourceRead → A
by_outcome refuse go (turned_away number place) = refuse number place
by_outcome refuse go (refused number place) = refuse number place
by_outcome refuse go (accepted a) = go a

abbrev pub reply_of : SourceRead → Refusal
reply_of = by_outcome refusal (λ a. no_refusal)

-- the number and place that a check gives; number 0: accepted
unfoldable pub check : Bool → List ℕ → Refusal
check fit source = reply_of (read_source fit source)

-- a room after reading, where `old` stood before: 1 and 2 touch nothing; 3 to 15 and 40 to 45 leave empty entries; an accepted source leaves `new` of it
abbrev pub room_left : {A : Type 0} → A → List A → (Accepted → List A) → SourceRead → List A
room_left none old new (turned_away number place) = old
room_left none old new (refused number place) = replicate (length old) none
room_left none old new (accepted a) = new a

-- the word table after a check or a run
unfoldable pub words_after : Bool → List ℕ → List ℕ → List ℕ
words_after fit source old = room_left 0 old (λ a. a.words) (read_source fit source)
