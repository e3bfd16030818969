-- A name taken out of the list, and variables counted. Assumes nothing.
use mathlib.Core.Path.{◌≡◌, refl, sym, ap, ◌∙◌}
use mathlib.Core.List.{List, [], ◌++◌, append-nil}
use Prim.Native.Nat.{ℕ, ◌+◌, ◌-◌, ◌*◌, ◌≤◌, ◌<◌}
use native.Mathlib.Numerals.{add-one}
use native.Mathlib.Omega.{arith}
use lib.ListN.{length, get_or, set, take, drop, replicate, length-drop, drop_of_length-le}
use lib.Seq.{paste, paste-suc, length-paste, take-paste, drop-paste, get_or-drop, take_all}
use borrow.Rule.Slice.PartMut.{put_mid, mid_of, mid_len}
use borrow.Author.Tests.{eq-eqb, ne_eqb}
use Rattle.names.specs.Names.{entry_at, variables_in}

-- the words behind a name, moved down one by one: k of them
abbrev pub moved : List ℕ → ℕ → ℕ → List ℕ
moved names from k = paste names from (drop (from + 4) names) k

module _ (names : List ℕ) (from : ℕ) (size : length names ≡ 1024) (low : from ≤ 1020) where
  rest : length (drop (from + 4) names) ≡ 1020 - from
  rest = length-drop (from + 4) names ∙ omega arith

  moved_length : (k : ℕ) → k ≤ 1020 - from → length (moved names from k) ≡ 1024
  moved_length k l = length-paste names from (drop (from + 4) names) k (omega arith) (omega (arith, rest)) ∙ size

  -- the word four places on has not been moved over yet
  ahead : (k : ℕ) → k < 1020 - from → get_or (moved names from k) (from + k + 4) 0 ≡ get_or (drop (from + 4) names) k 0
  ahead k l =
      let e : from + k + 4 ≡ from + 4 + k = omega arith in
      sym (get_or-drop (from + k) (moved names from k) 4 0)
      ∙ ap (λ (x : List ℕ). get_or x 4 0) (drop-paste names from (drop (from + 4) names) k (omega arith) (omega (arith, rest)))
      ∙ get_or-drop (from + k) names 4 0 ∙ ap (λ (j : ℕ). get_or names j 0) e ∙ sym (get_or-drop (from + 4) names k 0)

  pub one_moved : (k : ℕ) → k < 1020 - from → set (moved names from k) (from + k) (get_or (moved names from k) (from + k + 4) 0) ≡ moved names from (k + 1)
  one_moved k l = rw (ahead k l, add-one k) (paste-suc names from (drop (from + 4) names) k 0 (omega arith) (omega (arith, rest)))

  kept : take 1020 (moved names from (1020 - from)) ≡ take from names ++ drop (from + 4) names
  kept =
      let m = moved names from (1020 - from) in
      let e : from + (1020 - from) ≡ 1020 = omega arith in
      ap (λ (n : ℕ). take n m) (sym e) ∙ take-paste names from (drop (from + 4) names) (1020 - from) (omega arith) (omega (arith, rest))
      ∙ ap (λ (x : List ℕ). take from names ++ x) (take_all (1020 - from) (drop (from + 4) names) (omega (arith, rest)))

  -- all of them moved, and the last four put to zero
  pub all_moved : {m f : List ℕ} → m ≡ moved names from (1020 - from) → f ≡ replicate (length (mid_of 1020 (length m - 1020) m)) 0
      → put_mid 1020 (length m - 1020) m f ≡ take from names ++ drop (from + 4) names ++ replicate 4 0
  all_moved p q =
      let t = moved names from (1020 - from) in
      let l : length t ≡ 1024 = moved_length (1020 - from) (omega arith) in
      let e : drop (length t - 1020) (drop 1020 t) ≡ [] = drop_of_length-le (drop 1020 t) (omega (arith, length-drop 1020 t)) in
      let four : length (mid_of 1020 (length t - 1020) t) ≡ 4 = mid_len 1020 (length t) t (omega arith) ∙ omega (arith, l) in
      let z = q ∙ ap (λ (n : ℕ). replicate n 0) (ap (λ (x : List ℕ). length (mid_of 1020 (length x - 1020) x)) p ∙ four) in
      rw (p, z, kept, e) (ap (λ (x : List ℕ). take from names ++ drop (from + 4) names ++ x) (append-nil (replicate 4 0)))

-- ---- variables

module _ (names : List ℕ) (i : ℕ) where
  pub variable_more : get_or names (4 * i + 2) 0 ≡ 4 → variables_in names (i + 1) ≡ variables_in names i + 1
  unfolding variables_in entry_at
  variable_more e = rw add-one (rw (variables_in, eq-eqb (get_or names (4 * i + 2) 0) 4 e))

  pub variable_not : (get_or names (4 * i + 2) 0 ≡ 4 → ⊥) → variables_in names (i + 1) ≡ variables_in names i
  unfolding variables_in entry_at
  variable_not e = rw add-one (rw (variables_in, ne_eqb (get_or names (4 * i + 2) 0) 4 e))

pub none_yet : (names : List ℕ) → 0 ≡ variables_in names 0
unfolding variables_in
none_yet names = refl
