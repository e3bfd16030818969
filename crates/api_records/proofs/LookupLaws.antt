-- The lookups in a row of records, record by record.
use mathlib.Core.Path.{◌≡◌, refl}
use mathlib.Core.Bool.{Bool, true, false}
use mathlib.Core.List.{List}
use Prim.Native.Nat.{ℕ, zero, suc, ◌+◌, ◌≤◌, ◌<◌}
use native.Mathlib.Omega.{arith}
use lib.Dec.{eqb}
use lib.ListN.{get_or}
use borrow.Author.Tests.{eq-eqb, ne_eqb}
use Rattle.std.specs.Prelude.{if◌then◌else◌}
use Rattle.value.specs.Worked.{encode_of}
use Rattle.api_records.specs.declared.Name.{Name}
use Rattle.api_records.specs.Rows.{no_name, counted_on, count_below, record_count, is_at, is_field_record}

-- ---- one record

pub not_counted : (n : ℕ) (r : Name) → r.kind ≡ 0 → n ≡ counted_on n r
not_counted n r e = simp (eq-eqb r.kind 0 e)

pub is_counted : (n : ℕ) (r : Name) → (r.kind ≡ 0 → ⊥) → n + 1 ≡ counted_on n r
is_counted n r e = simp (ne_eqb r.kind 0 e)

-- ---- the tests

pub undeclared : (place : ℕ) (r : Name) → r.kind ≡ 0 → false ≡ is_at place r
undeclared place r e = simp (eq-eqb r.kind 0 e)

pub declared_at : (place : ℕ) (r : Name) → (r.kind ≡ 0 → ⊥) → eqb r.start place ≡ is_at place r
declared_at place r e = simp (ne_eqb r.kind 0 e)

pub plain_field : (number : ℕ) (r : Name) → r.kind ≡ 3 → eqb (encode_of r.value) number ≡ is_field_record number r
plain_field number r e = simp (eq-eqb r.kind 3 e)

pub const_field : (number : ℕ) (r : Name) → r.kind ≡ 6 → eqb (encode_of r.value) number ≡ is_field_record number r
const_field number r e = simp e

pub no_field : (number : ℕ) (r : Name) → (r.kind ≡ 3 → ⊥) → (r.kind ≡ 6 → ⊥) → false ≡ is_field_record number r
no_field number r e f = simp (ne_eqb r.kind 3 e, ne_eqb r.kind 6 f)

-- ---- the count

step_count : (t : Bool) (n k : ℕ) → n ≤ k → (if t then n else n + 1) ≤ suc k
step_count true n k l = omega (arith, l)
step_count false n k l = omega (arith, l)

pub count_few : (names : List Name) (k : ℕ) → count_below names k ≤ k
count_few names zero = omega arith
count_few names (suc k) = step_count (eqb (get_or names k no_name).kind 0) (count_below names k) k (count_few names k)

pub count_is : (names : List Name) → count_below names 256 ≡ record_count names
unfolding record_count
count_is names = refl

-- ---- the search for the first record that passes a test

-- none of the records below k does
abbrev pub NoneBelow : (Name → Bool) → List Name → ℕ → Type 0
NoneBelow test names k = (j : ℕ) → j < k → test (get_or names j no_name) ≡ false
