-- A name list without one of its names, and the variables that it has.
use Prim.Native.Nat.{ℕ, zero, suc, ◌+◌, ◌-◌, ◌*◌, ◌≤◌, ◌<◌}
use native.Mathlib.Omega.{arith}
use native.Mathlib.Numerals.{add-one}
use mathlib.Core.Path.{◌≡◌, refl, sym, ap, ap₂, ◌∙◌}
use mathlib.Core.Bool.{Bool, true, false}
use mathlib.Core.List.{List, ◌++◌}
use lib.Dec.{eqb, ltb}
use lib.ListN.{length, get_or, take, drop, replicate, length-append, length-drop, length-replicate, get_or-replicate, get_or-append}
use lib.Seq.{length-take-le, get_or-append-add, get_or-take, get_or-drop}
use borrow.Author.Tests.{eqb-true, eqb-false, ltb-true, ltb-false, eq-eqb, ne_eqb}
use Rattle.std.specs.Prelude.{if◌then◌else◌}
use Rattle.names.specs.declared.Entry.{Entry}
use Rattle.names.specs.Names.{name_kind, entry_at, without_entry, variables_in}

-- ---- a name taken out

-- two lists have the same name in two slots
pub same_entry : (names names' : List ℕ) (i j : ℕ) → ((k : ℕ) → k < 4 → get_or names' (4 * j + k) 0 ≡ get_or names (4 * i + k) 0) → entry_at names' j ≡ entry_at names i
unfolding entry_at
same_entry names names' i j h = λ x. record { start = first x; len = h 1 (omega arith) x; kind = h 2 (omega arith) x; word = h 3 (omega arith) x }
  where
    first : get_or names' (4 * j) 0 ≡ get_or names (4 * i) 0
    first =
        let p : 4 * j ≡ 4 * j + 0 = omega arith in
        let q : 4 * i + 0 ≡ 4 * i = omega arith in
        ap (λ (n : ℕ). get_or names' n 0) p ∙ h 0 (omega arith) ∙ ap (λ (n : ℕ). get_or names n 0) q

module _ (names : List ℕ) (slot : ℕ) (room : 4 * slot + 4 ≤ length names) where
  front : length (take (4 * slot) names) ≡ 4 * slot
  front = length-take-le (4 * slot) names (omega arith)

  kept : length (take (4 * slot) names ++ drop (4 * slot + 4) names) + 4 ≡ length names
  kept = omega (arith, length-append (take (4 * slot) names) (drop (4 * slot + 4) names), front, length-drop (4 * slot + 4) names)

  pub without_length : length (without_entry names slot) ≡ length names
  without_length =
      length-append (take (4 * slot) names ++ drop (4 * slot + 4) names) (replicate 4 0) ∙ omega (arith, kept, length-replicate {A = ℕ} 4 0)

  word_before : (j : ℕ) → j < 4 * slot → get_or (without_entry names slot) j 0 ≡ get_or names j 0
  word_before j l =
      get_or-append (take (4 * slot) names ++ drop (4 * slot + 4) names) (replicate 4 0) 0 j (omega (arith, kept))
      ∙ get_or-append (take (4 * slot) names) (drop (4 * slot + 4) names) 0 j (omega (arith, front)) ∙ get_or-take (4 * slot) names j 0 l

  word_behind : (k : ℕ) → 4 * slot + k + 4 < length names → get_or (without_entry names slot) (4 * slot + k) 0 ≡ get_or names (4 * slot + k + 4) 0
  word_behind k l =
      let e : 4 * slot + k ≡ length (take (4 * slot) names) + k = omega (arith, front) in
      let f : 4 * slot + 4 + k ≡ 4 * slot + k + 4 = omega arith in
      get_or-append (take (4 * slot) names ++ drop (4 * slot + 4) names) (replicate 4 0) 0 (4 * slot + k) (omega (arith, kept))
      ∙ ap (λ (n : ℕ). get_or (take (4 * slot) names ++ drop (4 * slot + 4) names) n 0) e
      ∙ get_or-append-add (take (4 * slot) names) (drop (4 * slot + 4) names) k 0 ∙ get_or-drop (4 * slot + 4) names k 0 ∙ ap (λ (n : ℕ). get_or names n 0) f

  -- the words at the end are zero
  word_last : (j k : ℕ) → k < 4 → j + 4 ≡ length names + k → get_or (without_entry names slot) j 0 ≡ 0
  word_last j k l q =
      let e : j ≡ length (take (4 * slot) names ++ drop (4 * slot + 4) names) + k = omega (arith, kept) in
      ap (λ (n : ℕ). get_or (without_entry names slot) n 0) e
      ∙ get_or-append-add (take (4 * slot) names ++ drop (4 * slot + 4) names) (replicate 4 0) k 0 ∙ get_or-replicate 4 k 0 0 l

  -- a name before the slot stays, and one behind it moves down
  pub entry_before : (j : ℕ) → j < slot → entry_at (without_entry names slot) j ≡ entry_at names j
  entry_before j l = same_entry names (without_entry names slot) j j (λ k o. word_before (4 * j + k) (omega arith))

  pub entry_behind : (j : ℕ) → slot ≤ j → 4 * (j + 1) + 4 ≤ length names → entry_at (without_entry names slot) j ≡ entry_at names (j + 1)
  entry_behind j l m = same_entry names (without_entry names slot) (j + 1) j (λ k o. word k o)
    where
      word : (k : ℕ) → k < 4 → get_or (without_entry names slot) (4 * j + k) 0 ≡ get_or names (4 * (j + 1) + k) 0
      word k o =
          let n = 4 * j + k - 4 * slot in
          let e : 4 * j + k ≡ 4 * slot + n = omega arith in
          let f : 4 * slot + n + 4 ≡ 4 * (j + 1) + k = omega arith in
          ap (λ (i : ℕ). get_or (without_entry names slot) i 0) e ∙ word_behind n (omega arith) ∙ ap (λ (i : ℕ). get_or names i 0) f

  -- where the words behind n + 1 names are zero, those behind n names are
  pub rest_zero : (n : ℕ) → slot ≤ n → ((j : ℕ) → 4 * (n + 1) ≤ j → j < length names → get_or names j 0 ≡ 0) → (j : ℕ) → 4 * n ≤ j → j < length names → get_or (without_entry names slot) j 0 ≡ 0
  rest_zero n l h j m o = by (ltb (j + 4) (length names)) refl
    where
      by : (b : Bool) → ltb (j + 4) (length names) ≡ b → get_or (without_entry names slot) j 0 ≡ 0
      by true q =
          let k = j - 4 * slot in
          let e : j ≡ 4 * slot + k = omega arith in
          let p = ltb-true (j + 4) (length names) q in
          ap (λ (i : ℕ). get_or (without_entry names slot) i 0) e ∙ word_behind k (omega arith) ∙ h (4 * slot + k + 4) (omega arith) (omega arith)
      by false q = let p = ltb-false (j + 4) (length names) q in word_last j (j + 4 - length names) (omega arith) (omega arith)

-- ---- variables

-- by what the name behind them is
pub one_more : (names : List ℕ) (n : ℕ) → (entry_at names n).kind ≡ name_kind.variable → variables_in names (n + 1) ≡ variables_in names n + 1
unfolding variables_in
one_more names n k = ap (variables_in names) (add-one n) ∙ simp (eq-eqb _ _ k)

pub no_more : (names : List ℕ) (n : ℕ) → ((entry_at names n).kind ≡ name_kind.variable → ⊥) → variables_in names (n + 1) ≡ variables_in names n
unfolding variables_in
no_more names n k = ap (variables_in names) (add-one n) ∙ simp (ne_eqb _ _ k)

-- by the kinds of the names alone
pub variables_kept : (names names' : List ℕ) (n : ℕ) → ((j : ℕ) → j < n → (entry_at names' j).kind ≡ (entry_at names j).kind) → variables_in names' n ≡ variables_in names n
unfolding variables_in
variables_kept names names' zero h = refl
variables_kept names names' (suc n) h =
    ap₂ (λ (k v : ℕ). if eqb k name_kind.variable then v + 1 else v) (h n (omega arith)) (variables_kept names names' n (λ j l. h j (omega arith)))

-- no fewer among more names, and no more than names
pub variables_more : (names : List ℕ) (n k : ℕ) → (variables_in names n ≤ variables_in names (n + k)) × (variables_in names (n + k) ≤ variables_in names n + k)
variables_more names n zero = let e : variables_in names (n + 0) ≡ variables_in names n = ap (variables_in names) (omega arith) in (omega arith, omega arith)
variables_more names n (suc k) =
    let e : n + suc k ≡ n + k + 1 = omega arith in
    rw e (by (eqb (entry_at names (n + k)).kind name_kind.variable) refl (variables_more names n k))
  where
    by : (b : Bool) → eqb (entry_at names (n + k)).kind name_kind.variable ≡ b → (variables_in names n ≤ variables_in names (n + k)) × (variables_in names (n + k) ≤ variables_in names n + k)
        → (variables_in names n ≤ variables_in names (n + k + 1)) × (variables_in names (n + k + 1) ≤ variables_in names n + suc k)
    by true q h = let e = one_more names (n + k) (eqb-true _ _ q) in (omega (arith, h.0), omega (arith, h.1))
    by false q h = let e = no_more names (n + k) (eqb-false _ _ q) in (omega (arith, h.0), omega (arith, h.1))

-- taking out a name that is no variable leaves their number
pub variables_without : (names : List ℕ) (slot : ℕ) → ((entry_at names slot).kind ≡ name_kind.variable → ⊥) → (k : ℕ) → 4 * (slot + k) + 4 ≤ length names
    → variables_in (without_entry names slot) (slot + k) ≡ variables_in names (slot + k + 1)
variables_without names slot d zero l =
    let e : slot + 0 ≡ slot = omega arith in
    rw e (variables_kept names (without_entry names slot) slot (λ j m. ap (λ (y : Entry). y.kind) (entry_before names slot (omega arith) j m)) ∙ sym (no_more names slot d))
variables_without names slot d (suc k) l =
    let f : slot + suc k ≡ slot + k + 1 = omega arith in
    rw f (by (eqb (entry_at names (slot + k + 1)).kind name_kind.variable) refl (variables_without names slot d k (omega arith)))
  where
    e : (entry_at (without_entry names slot) (slot + k)).kind ≡ (entry_at names (slot + k + 1)).kind
    e = ap (λ (y : Entry). y.kind) (entry_behind names slot (omega arith) (slot + k) (omega arith) (omega arith))

    by : (b : Bool) → eqb (entry_at names (slot + k + 1)).kind name_kind.variable ≡ b → variables_in (without_entry names slot) (slot + k) ≡ variables_in names (slot + k + 1)
        → variables_in (without_entry names slot) (slot + k + 1) ≡ variables_in names (slot + k + 1 + 1)
    by true q h = one_more _ (slot + k) (e ∙ eqb-true _ _ q) ∙ omega (arith, h, one_more names (slot + k + 1) (eqb-true _ _ q))
    by false q h = no_more _ (slot + k) (λ z. eqb-false _ _ q (sym e ∙ z)) ∙ omega (arith, h, no_more names (slot + k + 1) (eqb-false _ _ q))
