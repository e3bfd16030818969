-- The name list as a row of records: 256 records, of which each has four of the flat words.
use Rattle.std.specs.Prelude.{◌≡◌, Bool, true, false, not, ◌&&◌, ◌||◌, List, [], ◌∷◌, ℕ, zero, suc, ◌+◌, ◌*◌, ◌<◌, ◌≤◌, eqb, pos, get_or, Option, Some, None, IfSome, if◌then◌else◌}
use Rattle.value.specs.Limits.{most_names}
use Rattle.value.specs.Worked.{encode_of, decode_of}
use Rattle.names.specs.Names.{name_kind}
use Rattle.api_records.specs.declared.Name.{Name}

-- a record where no name is declared
abbrev pub no_name : Name
no_name = record { start = 0; length = 0; kind = 0; value = pos 0 }

-- ---- the flat words

-- the record k of the flat words
abbrev pub row_at : List ℕ → ℕ → Name
row_at flat k = record { start = get_or flat (4 * k) 0; length = get_or flat (4 * k + 1) 0; kind = get_or flat (4 * k + 2) 0; value = decode_of (get_or flat (4 * k + 3) 0) }

-- so many records from the record k on
abbrev pub rows_from : List ℕ → ℕ → ℕ → List Name
rows_from flat k zero = []
rows_from flat k (suc n) = row_at flat k ∷ rows_from flat (suc k) n

-- the row of records that the flat words mean
unfoldable pub rows_of : List ℕ → List Name
rows_of flat = rows_from flat 0 most_names

-- ---- lookups

-- a name is declared in a record
abbrev pub is_declared : Name → Bool
is_declared r = not (eqb r.kind 0)

-- a count, with one record more
abbrev pub counted_on : ℕ → Name → ℕ
counted_on n r = if eqb r.kind 0 then n else n + 1

-- how many of the records below k are declared
abbrev pub count_below : List Name → ℕ → ℕ
count_below names zero = 0
count_below names (suc k) = counted_on (count_below names k) (get_or names k no_name)

-- how many records are declared
unfoldable pub record_count : List Name → ℕ
record_count names = count_below names most_names

-- a name is declared at a place
abbrev pub is_at : ℕ → Name → Bool
is_at place r = is_declared r && eqb r.start place

-- a record is that of the field that has a number, const or not
abbrev pub is_field_record : ℕ → Name → Bool
is_field_record number r = (eqb r.kind name_kind.field || eqb r.kind name_kind.const_field) && eqb (encode_of r.value) number

-- the number of a record; most_names where there is none
abbrev pub record_number : Option ℕ → ℕ
record_number (Some k) = k
record_number None = most_names

-- a record that is found is one of the first most_names
abbrev pub IsInRow : Option ℕ → Type 0
IsInRow r = IfSome r (λ k. k < most_names)

-- r is the number of the first record that passes a test; most_names if there is none
pub record FindsFirst (test : Name → Bool) (names : List Name) (r : ℕ) : Type 0 where
  pub within : r ≤ most_names
  pub here : r < most_names → test (get_or names r no_name) ≡ true
  pub first : (k : ℕ) → k < r → test (get_or names k no_name) ≡ false

-- that of the first name that is declared at a place
abbrev pub FindsPlace : List Name → ℕ → ℕ → Type 0
FindsPlace names place r = FindsFirst (is_at place) names r

-- that of the field that has a number
abbrev pub FindsField : List Name → ℕ → ℕ → Type 0
FindsField names number r = FindsFirst (is_field_record number) names r
