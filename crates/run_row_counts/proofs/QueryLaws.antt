-- What is asked of row counts: the tests, the sum over some rows, and the search for the first row with one.
use Prim.Native.Nat.{ℕ, zero, suc, ◌+◌, ◌-◌, ◌≤◌, ◌<◌}
use native.Mathlib.Numerals.{add-one}
use native.Mathlib.Omega.{arith}
use mathlib.Core.Path.{◌≡◌, refl, sym, ap, ◌∙◌}
use mathlib.Core.Logic.{◌⊎◌, inl, inr}
use mathlib.Core.Bool.{Bool, true, false, ◌&&◌, cond}
use mathlib.Core.List.{List}
use mathlib.Core.Option.{Option, none, some}
use lib.ListN.{length, get_or, take, drop}
use lib.Seq.{get_or-take, get_or-drop}
use lib.Dec.{ltb, leb}
use borrow.Author.Tests.{lt-ltb, le-leb, lt-leb, ltb-true, leb-true}
use Rattle.value.proofs.Theorems.Laws.{and_both}
use Rattle.automaton.specs.Promises.ListedLaws.{last_or_below}
use Rattle.automaton.specs.Step.{non_zero}
use Rattle.automaton.specs.Rows.{in_rows, or_later, lowest, first_row}
use Rattle.std.specs.Prelude as rust
use Rattle.std.specs.Prelude.{MatchOption}
use Rattle.std.specs.List.{AllWithin, HoldsAt}
use Rattle.std.proofs.option.Match.{if_some}
use Rattle.run_marked_cells.proofs.ScanLaws.{non_zero_true}
use Rattle.run_row_counts.specs.RowQueries.{row_reply, counts_refused, one_a_row, rows_within, rows_asked, row_found, row_asked}

-- ---- the tests

pub no_counts : (n : ℕ) → n ≡ 0 → one_a_row n ≡ false
unfolding one_a_row
no_counts n e = rw e

pub some_counts : (n : ℕ) → (n ≡ 0 → ⊥) → one_a_row n ≡ leb n 4096
unfolding one_a_row
some_counts n d = rw (lt-ltb 0 n (above n d))
  where
    above : (n : ℕ) → (n ≡ 0 → ⊥) → 0 < n
    above zero d = absurd (d refl)
    above (suc n) d = omega arith

module _ (n a b : ℕ) where
  pub no_rows : one_a_row n ≡ false → rows_within n a b ≡ false
  unfolding rows_within
  no_rows e = rw e

  pub rows_reversed : one_a_row n ≡ true → b < a → rows_within n a b ≡ false
  unfolding rows_within
  rows_reversed e l = rw (e, lt-leb a b l)

  pub rows_in_order : one_a_row n ≡ true → a ≤ b → rows_within n a b ≡ ltb b n
  unfolding rows_within
  rows_in_order e l = rw (e, le-leb a b l)

  -- what rows that can be asked are
  pub record RowsFit : Type 0 where
    pub few : n ≤ 4096
    pub order : a ≤ b
    pub inside : b < n

  pub rows_fit : rows_within n a b ≡ true → RowsFit
  unfolding rows_within one_a_row
  rows_fit e =
      let order = and_both (one_a_row n && leb a b) (ltb b n) e in
      let rows = and_both (one_a_row n) (leb a b) order.0 in
      record {
        few = leb-true n 4096 (and_both (ltb 0 n) (leb n 4096) rows.0).1;
        order = leb-true a b rows.1;
        inside = ltb-true b n order.1;
      }

-- ---- the replies

module _ (counts : List ℕ) where
  pub rows_refused : (a b : ℕ) → rows_within (length counts) a b ≡ false → counts_refused ≡ rows_asked counts a b
  unfolding rows_asked
  rows_refused a b e = rw e

  pub rows_answered : (a b : ℕ) → rows_within (length counts) a b ≡ true → row_reply 0 (in_rows counts a (suc b - a)) ≡ rows_asked counts a b
  unfolding rows_asked
  rows_answered a b e = rw e

  pub row_refused : one_a_row (length counts) ≡ false → counts_refused ≡ row_asked counts
  unfolding row_asked
  row_refused e = rw e

  pub row_answered : one_a_row (length counts) ≡ true → (found : Option ℕ) → first_row counts ≡ found → row_found found ≡ row_asked counts
  unfolding row_asked
  row_answered e found f = rw (e, f)

  -- ---- the sum

  -- one row more
  pub in_rows_more : (a b k sum count : ℕ) → sum ≡ in_rows counts a k → count ≡ get_or (take (b + 1 - a) (drop a counts)) k 0 → k < b + 1 - a → sum + count ≡ in_rows counts a (k + 1)
  unfolding in_rows
  in_rows_more a b k sum count e is l = rw (add-one k, e, is, get_or-take (b + 1 - a) (drop a counts) k 0 l, get_or-drop a counts k 0) refl

  pub in_no_rows : (a : ℕ) → 0 ≡ in_rows counts a 0
  unfolding in_rows
  in_no_rows a = refl

  -- ---- the search

  -- whether a row has one
  abbrev pub has_one : ℕ → Bool
  has_one r = non_zero (get_or counts r 0)

  none_within : (n : ℕ) → ((k : ℕ) → k < n → has_one k ≡ false) → lowest has_one n ≡ none
  unfolding lowest
  none_within zero h = refl
  none_within (suc n) h = rw (none_within n (λ k l. h k (omega arith)), h n (omega arith)) refl

  found_below : (n row : ℕ) → row < n → lowest has_one row ≡ none → has_one row ≡ true → lowest has_one n ≡ some row
  unfolding lowest
  found_below zero row l h e = absurd (omega arith)
  found_below (suc n) row l h e = by (last_or_below l) (found_below n row)
    where
      by : (row ≡ n) ⊎ (row < n) → (row < n → lowest has_one row ≡ none → has_one row ≡ true → lowest has_one n ≡ some row) → or_later (lowest has_one n) (cond (has_one n) (some n) none) ≡ some row
      by (inl s) below =
          let e' : has_one n ≡ true = ap has_one (sym s) ∙ e in
          let h' : lowest has_one n ≡ none = ap (lowest has_one) (sym s) ∙ h in
          rw (e', h') (ap some (sym s))
      by (inr s) below = rw (below s h e)

  -- what a search for a count that is not 0 finds
  abbrev pub FoundFirst : rust.Option ℕ → Type 0
  FoundFirst r = MatchOption r (AllWithin (λ x. x ≡ 0) counts 0 (length counts)) (λ i. (i < length counts) × HoldsAt (λ x. x ≡ 0 → ⊥) counts i × AllWithin (λ x. x ≡ 0) counts 0 i)

  pub first_found : {r : rust.Option ℕ} (row : ℕ) → r ≡ rust.Some row → FoundFirst r → first_row counts ≡ some row
  unfolding first_row
  first_found row e found =
      let first = if_some _ _ _ e found in
      found_below (length counts) row first.0 (none_within row (λ k l. ap non_zero (first.2 k 0 (omega arith) l))) (non_zero_true (get_or counts row 0) (first.1 0))

  pub none_found : {r : rust.Option ℕ} → r ≡ rust.None → FoundFirst r → first_row counts ≡ none
  unfolding first_row
  none_found {r} e found = let all : FoundFirst rust.None = rw e at found in none_within (length counts) (λ k l. ap non_zero (all k 0 (omega arith) l))
