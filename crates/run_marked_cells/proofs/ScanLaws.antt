-- The search for the next marked cell, and for the end of a run of them.
use Prim.Native.Nat.{ℕ, zero, suc, ◌+◌, ◌-◌, ◌≤◌, ◌<◌}
use native.Mathlib.Omega.{arith}
use mathlib.Core.Path.{◌≡◌, refl, ap, ◌∙◌}
use mathlib.Core.Logic.{◌⊎◌, inl, inr}
use mathlib.Core.Bool.{Bool, true, false}
use mathlib.Core.List.{List}
use lib.ListN.{length, get_or, take, drop, length-drop}
use lib.Seq.{length-take-le, get_or-take, get_or-drop}
use lib.Dec.{ltb}
use borrow.Author.Tests.{ltb-true, ltb-false}
use Rattle.std.specs.Prelude as rust
use Rattle.std.specs.Prelude.{MatchOption}
use Rattle.std.specs.List.{AllWithin, HoldsAt}
use Rattle.std.proofs.option.Match.{if_some}
use Rattle.automaton.specs.Step.{non_zero, marked}
use Rattle.run_marked_cells.specs.Promises.Clear.{Clear}
use Rattle.run_marked_cells.specs.Promises.Marked.{NextMarked, MarkedUpTo}

pub below_or : (a b : ℕ) → (a < b) ⊎ (b ≤ a)
below_or a b = go (ltb a b) refl
  where
    go : (t : Bool) → ltb a b ≡ t → (a < b) ⊎ (b ≤ a)
    go true e = inl (ltb-true a b e)
    go false e = inr (ltb-false a b e)

pub non_zero_true : (n : ℕ) → (n ≡ 0 → ⊥) → non_zero n ≡ true
non_zero_true zero h = absurd (h refl)
non_zero_true (suc n) h = refl

is_marked : (marks : List ℕ) (c : ℕ) → (get_or marks c 0 ≡ 0 → ⊥) → marked marks c ≡ true
unfolding marked
is_marked marks c h = non_zero_true (get_or marks c 0) h

pub is_unmarked : (marks : List ℕ) (c : ℕ) → get_or marks c 0 ≡ 0 → marked marks c ≡ false
unfolding marked
is_unmarked marks c e = ap non_zero e

-- from a cell on, none below `at` is marked
pub record Scanned (marks : List ℕ) (from at : ℕ) : Type 0 where
  pub onward : from ≤ at
  pub within : at ≤ length marks
  pub skipped : (c : ℕ) → from ≤ c → c < at → marked marks c ≡ false

pub scan_start : (marks : List ℕ) (from : ℕ) → from ≤ length marks → Scanned marks from from
scan_start marks from l = record { onward = omega arith; within = l; skipped = λ c a b. absurd (omega arith) }

module _ (marks : List ℕ) (from at : ℕ) (h : Scanned marks from at) where
  pub scan_found : at < length marks → (get_or marks at 0 ≡ 0 → ⊥) → NextMarked marks from at
  scan_found l m = record { onward = h.onward; within = h.within; skipped = h.skipped; found = λ k. is_marked marks at m }

  -- a cell without a mark is passed over, and those behind it
  pub scan_more : {r : ℕ} → at < length marks → get_or marks at 0 ≡ 0 → Clear marks (at + 1) r → Scanned marks from r
  scan_more {r} l e k =
      let o = h.onward in
      let p = k.onward in
      record { onward = omega arith; within = k.within; skipped = λ c a b. on c a b (below_or at c) (below_or c at) }
    where
      on : (c : ℕ) → from ≤ c → c < r → (at < c) ⊎ (c ≤ at) → (c < at) ⊎ (at ≤ c) → marked marks c ≡ false
      on c a b (inl q) u = is_unmarked marks c (k.clear c (omega arith) b)
      on c a b (inr q) (inl u) = h.skipped c a u
      on c a b (inr q) (inr u) = let s : c ≡ at = omega arith in ap (marked marks) s ∙ is_unmarked marks at e

  pub scan_end : length marks ≤ at → NextMarked marks from (length marks)
  scan_end l =
      let o = h.onward in
      let w = h.within in
      record { onward = omega arith; within = omega arith; skipped = λ c a b. h.skipped c a (omega arith); found = λ k. absurd (omega arith) }

-- ---- a run of marked cells

module _ (marks : List ℕ) (from : ℕ) where
  -- the marks behind a cell
  abbrev behind : List ℕ
  behind = take (length marks - (from + 1)) (drop (from + 1) marks)

  -- what a search for a mark that is 0 finds in them
  abbrev pub FoundEnd : rust.Option ℕ → Type 0
  FoundEnd r = MatchOption r (AllWithin (λ x. x ≡ 0 → ⊥) behind 0 (length behind)) (λ i. (i < length behind) × HoldsAt (λ x. x ≡ 0) behind i × AllWithin (λ x. x ≡ 0 → ⊥) behind 0 i)

  size : length behind ≡ length marks - (from + 1)
  size = length-take-le (length marks - (from + 1)) (drop (from + 1) marks) (rw length-drop (omega arith))

  run_to : (i : ℕ) → i ≤ length marks - (from + 1) → from < length marks → AllWithin (λ x. x ≡ 0 → ⊥) behind 0 i → MarkedUpTo marks from (from + 1 + i)
  run_to i l some all = record { onward = omega arith; within = omega arith; between = λ c a b. on c a (omega (arith, b)) }
    where
      on : (c : ℕ) → from < c → c < from + 1 + i → marked marks c ≡ true
      on c a b =
          let k = c - (from + 1) in
          let there : from + 1 + k ≡ c = omega arith in
          let here : get_or behind k 0 ≡ get_or marks c 0 =
          get_or-take (length marks - (from + 1)) (drop (from + 1) marks) k 0 (omega arith) ∙ get_or-drop (from + 1) marks k 0 ∙ ap (λ (x : ℕ). get_or marks x 0) there
          in
          is_marked marks c (λ z. all k 0 (omega arith) (omega arith) (here ∙ z))

  pub run_found : {r : rust.Option ℕ} (i : ℕ) → from < length marks → r ≡ rust.Some i → FoundEnd r → MarkedUpTo marks from (from + 1 + i)
  run_found i some e found = let first = if_some _ _ _ e found in run_to i (omega (arith, first.0, size)) some first.2

  pub run_none : {r : rust.Option ℕ} → from < length marks → r ≡ rust.None → FoundEnd r → MarkedUpTo marks from (length marks)
  run_none some e found =
      let all : FoundEnd rust.None = rw e at found in
      let last : from + 1 + (length marks - (from + 1)) ≡ length marks = omega arith in
      rw last at (run_to (length marks - (from + 1)) (omega arith) some (λ k d a l. all k d a (omega (arith, l, size))))

-- with the cell before them, if it is marked
pub run_marked : (marks : List ℕ) (from at : ℕ) → marked marks from ≡ true → MarkedUpTo marks from at → (c : ℕ) → from ≤ c → c < at → marked marks c ≡ true
run_marked marks from at m h c a b = on (below_or from c)
  where
    on : (from < c) ⊎ (c ≤ from) → marked marks c ≡ true
    on (inl l) = h.between c l b
    on (inr l) = let e : c ≡ from = omega arith in ap (marked marks) e ∙ m
