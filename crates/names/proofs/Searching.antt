-- Which names are seen, and the search for one: one law for each way through the code. Assumes nothing.
use Prim.Native.Nat.{ℕ, suc, ◌+◌, ◌-◌, ◌≤◌, ◌<◌}
use native.Mathlib.Omega.{arith}
use native.Mathlib.Nat.{sub-zero}
use mathlib.Core.Path.{◌≡◌, refl, sym, ap, ◌∙◌}
use mathlib.Core.List.{List}
use mathlib.Core.Bool.{Bool, true, false, not, ◌&&◌, beq}
use mathlib.Core.Option.{none, some}
use lib.Dec.{eqb}
use borrow.Author.Tests.{ne_eqb}
use Rattle.std.specs.Prelude.{Some, None, if◌then◌else◌}
use Rattle.token.specs.Bytes.{same}
use Rattle.names.specs.Names.{entry_at, entries_from, is_field, in_space, letters, find, find_name}
use Rattle.names.specs.Promises.Finding.{match_of, Matches, found_of, Finds}
use Rattle.names.specs.declared.Entry.{Entry}
use Rattle.names.proofs.Spelling.{unlike}

-- ---- which names are seen

module _ (e : Entry) where
  pub field_plain : e.kind ≡ 3 → eqb e.kind 3 ≡ is_field e
  unfolding is_field
  field_plain k = simp k

  pub field_const : (e.kind ≡ 3 → ⊥) → eqb e.kind 6 ≡ is_field e
  unfolding is_field
  field_const d = simp (ne_eqb _ _ d)

  pub space_is : (fields : Bool) {r : Bool} → r ≡ is_field e → beq fields r ≡ in_space fields e
  unfolding in_space
  space_is fields q = rw q (by fields (is_field e))
    where
      by : (t r : Bool) → beq t r ≡ (if t then r else not r)
      by true true = refl
      by true false = refl
      by false true = refl
      by false false = refl

-- ---- one name

module _ (source names : List ℕ) (slot : ℕ) (fields : Bool) (start n : ℕ) where
  no_match : (e : Entry) → false ≡ same (letters source start n) (letters source e.start e.len) → false ≡ match_of source fields start n e
  no_match e h = by (in_space fields e) h
    where
      by : {u : Bool} (t : Bool) → false ≡ u → false ≡ (t && u)
      by true e = e
      by false e = refl

  pub match_length : {m : ℕ} → m ≡ (entry_at names slot).len → (m ≡ n → ⊥) → Matches source names slot fields start n false
  match_length q d =
      record { is = no_match (entry_at names slot) (unlike source start n (entry_at names slot).start (entry_at names slot).len (λ e. d (q ∙ sym e))) }

  module _ {m : ℕ} (q : m ≡ (entry_at names slot).len) (k : m ≡ n) {e : Entry} (h : e ≡ entry_at names slot) {t : Bool} (p : t ≡ in_space fields e) where
    same_len : e.len ≡ n
    same_len = ap (λ (x : Entry). x.len) h ∙ sym q ∙ k

    pub match_space : t ≡ false → Matches source names slot fields start n false
    match_space u = record { is = rw (← h, ← p, u) }

    pub match_letters : t ≡ true → {r : Bool} → r ≡ same (letters source start n) (letters source e.start n) → Matches source names slot fields start n r
    match_letters u y = record { is = y ∙ rw (← h, ← p, u, same_len) }

-- ---- the list

-- what is left to search from slot i on
pub record Seeks (source names : List ℕ) (count : ℕ) (fields : Bool) (start n i : ℕ) : Type 0 where
  pub within : i ≤ count
  pub left :
      find_name source names count fields start n
      ≡ find source (in_space fields) (letters source start n) i (entries_from names i (count - i))

module _ (source names : List ℕ) (count : ℕ) (fields : Bool) (start n : ℕ) where
  pub seek_start : Seeks source names count fields start n 0
  unfolding find_name
  seek_start = record { within = omega arith; left = rw (sub-zero count) }

  module _ (i : ℕ) (h : Seeks source names count fields start n i) where
    pub seek_none : count ≤ i → Finds source names count fields start n None
    unfolding find entries_from
    seek_none l =
        let z : count - i ≡ 0 = omega arith in
        let q : find source (in_space fields) (letters source start n) i (entries_from names i (count - i)) ≡ none = rw z in
        record { is = sym (ap found_of (h.left ∙ q)); below = tt }

    module _ (l : i < count) {b : Bool} (m : Matches source names i fields start n b) where
      step :
          find source (in_space fields) (letters source start n) i (entries_from names i (count - i))
          ≡ (if b then some i else find source (in_space fields) (letters source start n) (i + 1) (entries_from names (i + 1) (count - (i + 1))))
      unfolding find entries_from
      step = let z : count - i ≡ suc (count - (i + 1)) = omega arith in rw (z, m.is)

      pub seek_differs : b ≡ false → Seeks source names count fields start n (i + 1)
      seek_differs u = record { within = omega arith; left = h.left ∙ step ∙ rw u }

      pub seek_found : b ≡ true → Finds source names count fields start n (Some i)
      seek_found u = let q : find_name source names count fields start n ≡ some i = h.left ∙ step ∙ rw u in record { is = sym (ap found_of q); below = l }

pub ruleset Searches =
    (field_plain, field_const, space_is, match_length, match_space, match_letters, seek_start, seek_none, seek_differs, seek_found)
