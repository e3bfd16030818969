-- What reading the cell declaration promises: how the fields follow from the code's place of reading and the word table.
use Rattle.std.specs.Prelude.{◌≡◌, Bool, true, ◌&&◌, List, ℕ, ◌+◌, ◌*◌, ◌≤◌, ◌<◌, min, length, get_or, eqb, leb, ltb, ℤ, if◌then◌else◌, Result, Ok, Err}
use Rattle.value.specs.Limits.{most_dims, most_fields}
use Rattle.value.specs.Worked.{decode_of, encode_of}
use Rattle.token.specs.declared.Token.{Token}
use Rattle.token.specs.Kind.{keyword}
use Rattle.names.specs.Names.{name_kind}
use Rattle.program.specs.Syntax.{Range, no_range}
use Rattle.program.specs.Refusal.{Refusal}
use Rattle.program.specs.Promises.Ranges.{range_at}
use Rattle.grammar.specs.Reader.{is_kind}
use Rattle.grammar.specs.Source.{Declared, with_ranges}
use Rattle.read_state.specs.Promises.Reading.{Read, moved_of, carrying_number}
use Rattle.read_state.specs.declared.Reading.{Reading}
use Rattle.read_declaration.specs.declared.CellRead.{CellRead}

-- the rule that refuses one more field name behind n fields; 0: none
abbrev pub full_of : ℕ → ℕ
full_of n = if leb 8 n then 43 else 0

-- there are n fields, a number in `fields`, after the names of a group behind `got` fields, which were read from position `at` on: one name
-- at least, with a token for each
pub record Counted (got at n : ℕ) (t : Reading) : Type 0 where
  pub is : n ≡ t.fields
  pub more : got < t.fields
  pub few : t.fields ≤ most_fields
  pub far : t.fields + at ≤ t.at + got

-- n ranges stand in words 2 and 3 of the tokens from position `base` on
pub record Ranges (words : List ℕ) (base : ℕ) (ranges : List Range) (n : ℕ) : Type 0 where
  pub many : length ranges ≡ n
  pub stand : (k : ℕ) → k < n → range_at words (base + k) ≡ get_or ranges k no_range

-- the fields read so far: their number, one at least and eight at most, in `fields`, and whether they are named in `named`;
-- there is a token for each behind position `base`
pub record Fields (words : List ℕ) (base : ℕ) (flag : Bool) (got : List Range) (t : Reading) : Type 0 where
  pub ranges : Ranges words base got t.fields
  pub some : 1 ≤ t.fields
  pub few : t.fields ≤ most_fields
  pub room : base + t.fields < t.at
  pub named : t.named ≡ flag

-- whether `end` stands behind n fields, of which there is one at least
pub record FieldsEnd (t : Token) (n : ℕ) (r : Bool) : Type 0 where
  pub is : r ≡ (is_kind t keyword.end && ltb 0 n)
  pub kind : r ≡ true → 1 ≤ t.kind
  pub some : r ≡ true → 1 ≤ n

-- where a group begins: behind `const` if it stands there; the fields' kind is in `number`
abbrev pub start_of : Token → Reading → Reading
start_of t s = if is_kind t keyword.const then carrying_number (moved_of s) name_kind.const_field else carrying_number s name_kind.field

pub record Starts (t : Token) (s r : Reading) : Type 0 where
  pub is : r ≡ start_of t s
  pub past : s.at ≤ r.at
  pub near : r.at ≤ s.at + min 1 t.kind
  pub count : r.count ≡ s.count

-- a number of dimensions, in `value`
pub record Dims (z : ℤ) (t : Reading) : Type 0 where
  pub is : z ≡ decode_of t.value
  pub least : 1 ≤ t.value
  pub most : t.value ≤ most_dims

-- what is declared of a cell, with the number of fields and whether they are named beside the place of reading
pub record Fielded (words : List ℕ) (base : ℕ) (z : ℤ) (d : Declared) (t : Reading) : Type 0 where
  pub dims : d.cell.dims ≡ encode_of z
  pub named : d.cell.named ≡ t.named
  pub ranges : Ranges words base d.fields t.fields
  pub some : 1 ≤ t.fields
  pub few : t.fields ≤ most_fields
  pub room : base + t.fields < t.at

-- what is declared of a cell, as the code has it: field k has its range in words 2 and 3 of the token k behind position `base`
pub record DeclaresField (words : List ℕ) (c : CellRead) (d : Declared) (t : Reading) : Type 0 where
  pub dims : d.cell.dims ≡ c.dims
  pub least : 1 ≤ c.dims
  pub most : c.dims ≤ most_dims
  pub named : d.cell.named ≡ c.named
  pub ranges : Ranges words c.base d.fields c.fields
  pub some : 1 ≤ c.fields
  pub few : c.fields ≤ most_fields
  pub room : c.base + c.fields < t.at

-- how the reading of the cell declaration ends
abbrev pub next_in : Result CellRead Refusal → Read
next_in (Ok c) = Ok c.next
next_in (Err e) = Err e

-- what is declared, of a cell declaration that was read
abbrev pub DeclaresCell : List ℕ → Result CellRead Refusal → Declared → Reading → Type 0
DeclaresCell words (Ok c) d t = DeclaresField words c d t
DeclaresCell words (Err e) d t = ⊥

-- so many words of the table, from position i on, have the range in place of what `old` had, and those before it stay
pub record Ranged (old : List ℕ) (i n : ℕ) (r : Range) (new : List ℕ) : Type 0 where
  pub is : new ≡ with_ranges old i n r
  pub stand : (k : ℕ) → k < n → range_at new (i + k) ≡ r
  pub before : (p : ℕ) → p < 4 * i → get_or new p 0 ≡ get_or old p 0
