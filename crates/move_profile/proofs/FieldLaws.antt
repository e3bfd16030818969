-- Rule 2: one law for each way through the code.
use Prim.Native.Nat.{ℕ, zero, suc, ◌+◌, ◌-◌, ◌≤◌, ◌<◌}
use native.Mathlib.Omega.{arith}
use mathlib.Core.Path.{◌≡◌, refl, sym, ap, ◌∙◌, subst}
use mathlib.Core.Logic.{◌⊎◌, inl, inr}
use mathlib.Core.Bool.{Bool, true, false, ◌&&◌}
use mathlib.Core.List.{List, [], ◌∷◌}
use mathlib.Core.Option.{Option, none, some}
use lib.ListN.{length, get_or, get_or-eq_default}
use lib.Dec.{eqb}
use mir.Syntax.{w32}
use mir.Val.{SFits}
use borrow.Author.Tests.{eq-eqb, ne_eqb}
use lib.IntN.{pos}
use Rattle.value.specs.Limits.{most_names}
use Rattle.value.specs.Number.{eq_z}
use Rattle.value.specs.declared.Value.{Value}
use Rattle.std.specs.Prelude as rust
use Rattle.std.specs.Prelude.{Some, None, if◌then◌else◌}
use Rattle.value.specs.Worked.{value, decode_of}
use Rattle.automaton.specs.Promises.ListedLaws.{length_list_of, get_or_list_of, last_or_below}
use Rattle.token.specs.Bytes.{as_bytes, fold, same}
use Rattle.names.specs.declared.Entry.{Entry}
use Rattle.names.specs.Names.{is_field, entry_at, entries_from, letters, find}
use Rattle.program.specs.Syntax.{Range, no_range}
use Rattle.program.specs.declared.Rule.{Rule}
use Rattle.cell_meaning.specs.Promises.Stands.{range_in, rule_table, ranges_in}
use Rattle.cell_meaning.specs.Links.{word_in}
use Rattle.move_meaning.specs.Profile.{moved_slot, is_flag, flag_of, flag_in}
use Rattle.move_meaning.specs.Promises.Flags.{flag_told}
use Rattle.move_profile.specs.Promises.Fields.{option_of, NamesMoved, MovedSlot, IsFlag, FlagField}

-- ---- the spelling

and_false : {u : Bool} (t : Bool) → false ≡ u → false ≡ (t && u)
and_false true e = e
and_false false e = refl

-- a text of another length is another one
pub other_length : (w source : List ℕ) (start n : ℕ) → (n ≡ length w → ⊥) → false ≡ same w (letters source start n)
unfolding same letters
other_length [] source start zero h = absurd (h refl)
other_length [] source start (suc n) h = refl
other_length (x ∷ w) source start zero h = refl
other_length (x ∷ w) source start (suc n) h = and_false (eqb x (fold (get_or source start 0))) (other_length w source (start + 1) n (λ e. h (ap suc e)))

-- one with another letter too
pub other_letter : (w source : List ℕ) (start k : ℕ) → k < length w → (fold (get_or source (start + k) 0) ≡ get_or w k 0 → ⊥) → false ≡ same w (letters source start (length w))
unfolding same letters
other_letter [] source start k l h = absurd (omega arith)
other_letter (x ∷ w) source start zero l h =
    ap (λ (t : Bool). t && same w (letters source (start + 1) (length w))) (sym (ne_eqb x (fold (get_or source start 0)) (λ e. h (ap (λ (i : ℕ). fold (get_or source i 0)) (omega arith) ∙ sym e))))
other_letter (x ∷ w) source start (suc k) l h =
    and_false (eqb x (fold (get_or source start 0))) (other_letter w source (start + 1) k (omega arith) (λ e. h (ap (λ (i : ℕ). fold (get_or source i 0)) (omega arith) ∙ e)))

-- one with all letters is the same
all_letters : (w source : List ℕ) (start : ℕ) → ((k : ℕ) → k < length w → fold (get_or source (start + k) 0) ≡ get_or w k 0) → true ≡ same w (letters source start (length w))
unfolding same letters
all_letters [] source start h = refl
all_letters (x ∷ w) source start h =
    let first : eqb x (fold (get_or source start 0)) ≡ true = eq-eqb x _ (sym (ap (λ (i : ℕ). fold (get_or source i 0)) (omega arith) ∙ h 0 (omega arith))) in
    let rest = all_letters w source (start + 1) (λ k l. ap (λ (i : ℕ). fold (get_or source i 0)) (omega arith) ∙ h (suc k) (omega arith)) in
    rest ∙ ap (λ (t : Bool). t && same w (letters source (start + 1) (length w))) (sym first)

module _ (source : List ℕ) (start : ℕ) where
  -- the first k letters are there
  pub record Spells (k : ℕ) : Type 0 where
    pub each : (j : ℕ) → j < k → fold (get_or source (start + j) 0) ≡ get_or (as_bytes "moved") j 0

  pub spells_start : Spells 0
  spells_start = record { each = λ j l. absurd (omega arith) }

  pub spells_more : {k : ℕ} {a : ℕ} → a ≡ fold (get_or source (start + k) 0) → Spells k → a ≡ get_or (as_bytes "moved") k 0 → Spells (k + 1)
  spells_more {k} p s e = record { each = λ j h. at j (last_or_below (let w : j < suc k = omega arith in w)) }
    where
      at : (j : ℕ) → (j ≡ k) ⊎ (j < k) → fold (get_or source (start + j) 0) ≡ get_or (as_bytes "moved") j 0
      at j (inl q) = rw q (sym p ∙ e)
      at j (inr q) = s.each j q

module _ (source : List ℕ) (start : ℕ) {len : ℕ} where
  pub moved_length : (len ≡ 5 → ⊥) → false ≡ same (as_bytes "moved") (letters source start len)
  moved_length h = other_length (as_bytes "moved") source start len h

  module _ {k : ℕ} (l : k < 5) {a : ℕ} (p : a ≡ fold (get_or source (start + k) 0)) where
    pub moved_other : len ≡ 5 → (a ≡ get_or (as_bytes "moved") k 0 → ⊥) → false ≡ same (as_bytes "moved") (letters source start len)
    moved_other five h = other_letter (as_bytes "moved") source start k l (λ e. h (p ∙ e)) ∙ ap (λ (n : ℕ). same (as_bytes "moved") (letters source start n)) (sym five)

  pub moved_all : len ≡ 5 → {k : ℕ} → Spells source start k → 5 ≤ k → true ≡ same (as_bytes "moved") (letters source start len)
  moved_all five s l = all_letters (as_bytes "moved") source start (λ j h. s.each j (omega arith)) ∙ ap (λ (n : ℕ). same (as_bytes "moved") (letters source start n)) (sym five)

pub ruleset Spellings = (spells_start, moved_length, moved_other, spells_more, moved_all)

-- ---- the slot

module _ (source names : List ℕ) (slot : ℕ) {e : Entry} (is : e ≡ entry_at names slot) {t : Bool} (field : t ≡ is_field e) where
  pub named_field : t ≡ true → {r : Bool} → r ≡ same (as_bytes "moved") (letters source e.start e.len) → NamesMoved source names slot r
  named_field y q = record { is = q ∙ rw (← is, ← field, y) }

  pub named_other : t ≡ false → NamesMoved source names slot false
  named_other y = record { is = rw (← is, ← field, y) }

pub ruleset Namings = (named_field, named_other)

-- what is left to search from slot i on
pub record Seeks (source names : List ℕ) (i : ℕ) : Type 0 where
  pub within : i ≤ most_names
  pub left : moved_slot source names ≡ find source is_field (as_bytes "moved") i (entries_from names i (most_names - i))

module _ (source names : List ℕ) where
  pub seek_start : Seeks source names 0
  seek_start = record { within = omega arith; left = refl }

  module _ {i : ℕ} (h : Seeks source names i) where
    pub seek_none : most_names ≤ i → MovedSlot source names None
    unfolding find entries_from
    seek_none l =
        let z : most_names - i ≡ 0 = omega arith in
        record { is = sym (ap option_of (h.left ∙ ap (λ (n : ℕ). find source is_field (as_bytes "moved") i (entries_from names i n)) z)); below = λ slot q. cc }

    module _ (l : i < most_names) {b : Bool} (m : NamesMoved source names i b) where
      turn : moved_slot source names ≡ (if b then some i else find source is_field (as_bytes "moved") (i + 1) (entries_from names (i + 1) (most_names - (i + 1))))
      unfolding find entries_from
      turn =
          let z : most_names - i ≡ suc (most_names - (i + 1)) = omega arith in
          h.left ∙ ap (λ (n : ℕ). find source is_field (as_bytes "moved") i (entries_from names i n)) z
          ∙ ap (λ (t : Bool). if t then some i else find source is_field (as_bytes "moved") (i + 1) (entries_from names (i + 1) (most_names - (i + 1)))) (sym m.is)

      chosen : {x : Bool} → b ≡ x → (if b then some i else find source is_field (as_bytes "moved") (i + 1) (entries_from names (i + 1) (most_names - (i + 1))))
          ≡ (if x then some i else find source is_field (as_bytes "moved") (i + 1) (entries_from names (i + 1) (most_names - (i + 1))))
      chosen y = ap (λ (t : Bool). if t then some i else find source is_field (as_bytes "moved") (i + 1) (entries_from names (i + 1) (most_names - (i + 1)))) y

      pub seek_found : b ≡ true → MovedSlot source names (Some i)
      seek_found y = record { is = sym (ap option_of (turn ∙ chosen y)); below = λ slot q. let same : i ≡ slot = cc in subst (λ (n : ℕ). n < most_names) same l }

      pub seek_more : b ≡ false → Seeks source names (i + 1)
      seek_more y = record { within = omega arith; left = turn ∙ chosen y }

pub ruleset Seekings = (seek_start, seek_none, seek_found, seek_more)

-- ---- the field

module _ (words : List ℕ) (n at : ℕ) {w : ℕ} (p : w ≡ word_in words n 2 at) {low : Value} (s : low ≡ value (decode_of w)) (fits : SFits w32 low.n) where
  low_is : decode_of (word_in words n 2 at) ≡ low.n
  low_is = ap decode_of (sym p) ∙ ap (λ (v : Value). v.n) (sym s)

  module _ {v : ℕ} (y : v ≡ word_in words n 3 at) {high : Value} (t : high ≡ value (decode_of v)) (small : SFits w32 high.n) where
    pub range_is : {r : Bool} → r ≡ (eq_z low.n (pos 0) && eq_z high.n (pos 1)) → IsFlag words n at r
    range_is e = record { is = λ dims. e ∙ rw (low_is, ap decode_of (sym y) ∙ ap (λ (v : Value). v.n) (sym t)) refl }

found_slot : (o : Option ℕ) (slot : ℕ) → Some slot ≡ option_of o → o ≡ some slot
found_slot none slot e = absurd (let z : ◌≡◌ {A = ℕ} 0 1 = cc in omega arith)
found_slot (some s) slot e = let z : slot ≡ s = cc in ap (λ (x : ℕ). some x) (sym z)

found_none : (o : Option ℕ) → None ≡ option_of o → o ≡ none
found_none none e = refl
found_none (some s) e = absurd (let z : ◌≡◌ {A = ℕ} 0 1 = cc in omega arith)

module _ (source words names : List ℕ) (rule : Rule) {found : rust.Option ℕ} (m : MovedSlot source names found) where
  -- the field, by the name in a slot
  of_entry : Entry → Option ℕ
  of_entry e = flag_of e (ranges_in (rule_table words rule) rule.base rule.fields)

  pub field_missing : found ≡ None → FlagField source words names rule rule.fields
  field_missing q =
      record { is = ap (λ (o : Option ℕ). flag_told rule.fields (flag_in o names (ranges_in (rule_table words rule) rule.base rule.fields))) (sym (found_none (moved_slot source names) (sym q ∙ m.is))) }

  pub slot_below : {slot : ℕ} → found ≡ Some slot → slot < most_names
  slot_below {slot} q = m.below slot q

  module _ {slot : ℕ} (q : found ≡ Some slot) {e : Entry} (is : e ≡ entry_at names slot) where
    by_entry : (r : ℕ) → r ≡ flag_told rule.fields (of_entry e) → FlagField source words names rule r
    unfolding of_entry
    by_entry r h =
        record {
          is =
              h ∙ ap (λ (x : Entry). flag_told rule.fields (flag_of x (ranges_in (rule_table words rule) rule.base rule.fields))) is
              ∙ ap (λ (o : Option ℕ). flag_told rule.fields (flag_in o names (ranges_in (rule_table words rule) rule.base rule.fields))) (sym (found_slot (moved_slot source names) slot (sym q ∙ m.is)));
        }

    pub field_const : (e.kind ≡ 3 → ⊥) → FlagField source words names rule rule.fields
    unfolding of_entry
    field_const d = by_entry rule.fields (rw (ne_eqb e.kind 3 d) refl)

    module _ (k : e.kind ≡ 3) where
      -- the test on a range
      tested : (r : Range) → get_or (ranges_in (rule_table words rule) rule.base rule.fields) e.word no_range ≡ r → {f : ℕ}
          → f ≡ flag_told rule.fields (if is_flag r then some e.word else none) → FlagField source words names rule f
      unfolding of_entry
      tested r h {f} z = by_entry f (z ∙ rw (eq-eqb e.kind 3 k, h) refl)

      pub field_far : rule.fields ≤ e.word → FlagField source words names rule rule.fields
      field_far l =
          tested no_range
          (get_or-eq_default (ranges_in (rule_table words rule) rule.base rule.fields) no_range {n = e.word}
          (subst (λ (n : ℕ). n ≤ e.word) (sym (length_list_of (λ (k : ℕ). range_in (rule_table words rule) (rule.base + k)) rule.fields)) l)) refl

      module _ (l : e.word < rule.fields) {t : Bool} (p : IsFlag words rule.tokens (rule.base + e.word) t) where
        here : get_or (ranges_in (rule_table words rule) rule.base rule.fields) e.word no_range ≡ range_in (rule_table words rule) (rule.base + e.word)
        here = get_or_list_of _ rule.fields e.word no_range l

        pub field_other : t ≡ false → FlagField source words names rule rule.fields
        field_other d = tested _ here (rw (← p.is rule.dims, d) refl)

        pub field_is : t ≡ true → FlagField source words names rule e.word
        field_is d = tested _ here (rw (← p.is rule.dims, d) refl)

pub ruleset Fields = (field_missing, field_const, field_far, field_other, field_is)
