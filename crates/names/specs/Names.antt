-- The name list as flat words: four words a name (start, length, kind, value), one name for each declaration that holds, in order of
-- declaration: a loop's index has a record only while its loop is open.
--
-- While a source is read, the value of a variable is its number among the variables, that of an index its loop's depth, and that of an
-- array constant the position of its declaring name: what the word table notes where the name is used.
use Rattle.std.specs.Prelude.{Bool, not, ◌&&◌, ◌||◌, List, [], ◌∷◌, ◌++◌, ℕ, zero, suc, ◌+◌, ◌*◌, get_or, set, take, drop, replicate, eqb, if◌then◌else◌}
use Rattle.std.proofs.Math.Option.{Option, none, some}
use Rattle.token.specs.Bytes.{fold, same}
use Rattle.names.specs.declared.Entry.{Entry}

-- the kinds of names
abbrev pub name_kind : record { constant : ℕ; array : ℕ; field : ℕ; variable : ℕ; index : ℕ; const_field : ℕ }
name_kind = record { constant = 1; array = 2; field = 3; variable = 4; index = 5; const_field = 6 }

-- the name in a slot
unfoldable pub entry_at : List ℕ → ℕ → Entry
entry_at names slot =
    record { start = get_or names (4 * slot) 0; len = get_or names (4 * slot + 1) 0; kind = get_or names (4 * slot + 2) 0; word = get_or names (4 * slot + 3) 0 }

abbrev pub is : Entry → ℕ → Bool
is e k = eqb e.kind k

-- so many names from a slot on
unfoldable pub entries_from : List ℕ → ℕ → ℕ → List Entry
entries_from names slot zero = []
entries_from names slot (suc n) = entry_at names slot ∷ entries_from names (slot + 1) n

-- the words with a name written into a slot
abbrev pub with_entry : List ℕ → ℕ → Entry → List ℕ
with_entry names slot e =
    set (set (set (set names (4 * slot) e.start) (4 * slot + 1) e.len) (4 * slot + 2) e.kind) (4 * slot + 3) e.word

-- the words with a new value for the name in a slot
abbrev pub with_value : List ℕ → ℕ → ℕ → List ℕ
with_value names slot v = set names (4 * slot + 3) v

-- the words without the name in a slot: those behind it move down by one, and the last slot is zero
abbrev pub without_entry : List ℕ → ℕ → List ℕ
without_entry names slot = take (4 * slot) names ++ drop (4 * slot + 4) names ++ replicate 4 0

-- how many of the first n names are variables
unfoldable pub variables_in : List ℕ → ℕ → ℕ
variables_in names zero = 0
variables_in names (suc n) = if is (entry_at names n) name_kind.variable then variables_in names n + 1 else variables_in names n

-- ---- which names are seen

-- fields, const fields too, have a name space of their own
unfoldable pub is_field : Entry → Bool
is_field e = is e name_kind.field || is e name_kind.const_field

-- a name space: that of fields, or that of all other names
unfoldable pub in_space : Bool → Entry → Bool
in_space fields e = if fields then is_field e else not (is_field e)

-- ---- spelling

-- n bytes of the source from a place on, without letter case
unfoldable pub letters : List ℕ → ℕ → ℕ → List ℕ
letters source start zero = []
letters source start (suc n) = fold (get_or source start 0) ∷ letters source (start + 1) n

-- the number, from `slot` on, of the first name that satisfies the test and is spelled so
unfoldable pub find : List ℕ → (Entry → Bool) → List ℕ → ℕ → List Entry → Option ℕ
find source test word slot [] = none
find source test word slot (e ∷ es) =
    if test e && same word (letters source e.start e.len) then some slot
    else find source test word (slot + 1) es

-- the slot of the name of a name space that is spelled as the n bytes from a place on
unfoldable pub find_name : List ℕ → List ℕ → ℕ → Bool → ℕ → ℕ → Option ℕ
find_name source names count fields start n =
    find source (in_space fields) (letters source start n) 0 (entries_from names 0 count)
