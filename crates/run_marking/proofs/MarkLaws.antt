-- The laws of marks, and of cells that changed.
use Prim.Native.Nat.{ℕ, suc, ◌+◌, ◌*◌, ◌/◌, ◌%◌, ◌≤◌, ◌<◌}
use native.Mathlib.Nat.{not-suc-le-zero}
use native.Mathlib.Decide.{ℕ_discrete, dec_le}
use native.Mathlib.Omega.{arith}
use mathlib.Core.Path.{◌≡◌, refl, sym, ap, ◌∙◌}
use mathlib.Core.Bool.{Bool, true, false, not}
use mathlib.Core.Logic.{◌⊎◌, inl, inr}
use mathlib.Core.List.{List, map}
use lib.ListN.{length, get_or}
use lib.IntN.{ℤ, pos}
use borrow.Author.Tests.{not-false}
use Rattle.value.specs.Number.{eq_z}
use Rattle.value.proofs.Theorems.Laws.{eq_z_true, eq_z_refl}
use Rattle.automaton.specs.Promises.ListedLaws.{get_or_list_of, list_of_ext, last_or_below}
use Rattle.automaton.specs.Grid.{cell_of, differ}
use Rattle.automaton.proofs.Theorems.GridLaws.{differ_false, differ_self}
use Rattle.run_marked_cells.specs.Promises.Clear.{Clear}
use Rattle.std.proofs.lemmas.List.{length-map, get_or-map}
use Rattle.run_marking.specs.Promises.Noting.{NextOdd, Halved}

-- ---- cells that changed

-- the first k entries from a place on are the same in two grids
pub record Same (old grid : List ℤ) (from k : ℕ) : Type 0 where
  pub each : (m : ℕ) → m < k → get_or old (from + m) (pos 0) ≡ get_or grid (from + m) (pos 0)

module _ (old grid : List ℤ) (from : ℕ) where
  pub same_start : Same old grid from 0
  same_start = record { each = λ m l. absurd (not-suc-le-zero l) }

  pub same_more : (k : ℕ) → Same old grid from k → {b : Bool} → b ≡ not (eq_z (get_or old (from + k) (pos 0)) (get_or grid (from + k) (pos 0))) → b ≡ false → Same old grid from (k + 1)
  same_more k s {b} q e = record { each = λ m l. at m (last_or_below (let w : m < suc k = omega arith in w)) }
    where
      at : (m : ℕ) → (m ≡ k) ⊎ (m < k) → get_or old (from + m) (pos 0) ≡ get_or grid (from + m) (pos 0)
      at m (inl r) = rw r (eq_z_true _ _ (not-false _ (sym q ∙ e)))
      at m (inr r) = s.each m r

module _ (old grid : List ℤ) (fields c : ℕ) where
  pub same_all : (from k : ℕ) → from ≡ c * fields → fields ≤ k → Same old grid from k → false ≡ differ (cell_of fields old c) (cell_of fields grid c)
  unfolding cell_of
  same_all from k q l s =
      sym (ap (λ (a : List ℤ). differ a (cell_of fields grid c)) (list_of_ext _ _ fields (λ m r. rw q at (s.each m (omega arith)))) ∙ differ_self (cell_of fields grid c))

  pub differs_here : (from k : ℕ) → from ≡ c * fields → k < fields → {b : Bool} → b ≡ not (eq_z (get_or old (from + k) (pos 0)) (get_or grid (from + k) (pos 0))) → b ≡ true
      → true ≡ differ (cell_of fields old c) (cell_of fields grid c)
  unfolding cell_of
  differs_here from k q l {b} e t = go (differ (cell_of fields old c) (cell_of fields grid c)) refl
    where
      go : (d : Bool) → differ (cell_of fields old c) (cell_of fields grid c) ≡ d → true ≡ d
      go true r = refl
      go false r =
          let x : ℤ = get_or old (c * fields + k) (pos 0) in
          let y : ℤ = get_or grid (c * fields + k) (pos 0) in
          let a : x ≡ y =
          sym (get_or_list_of (λ m. get_or old (c * fields + m) (pos 0)) fields k (pos 0) l)
          ∙ ap (λ (z : List ℤ). get_or z k (pos 0)) (differ_false (cell_of fields old c) (cell_of fields grid c) r)
          ∙ get_or_list_of (λ m. get_or grid (c * fields + m) (pos 0)) fields k (pos 0) l
          in
          let e' : b ≡ not (eq_z x y) = e ∙ ap (λ (i : ℕ). not (eq_z (get_or old (i + k) (pos 0)) (get_or grid (i + k) (pos 0)))) q in
          sym t ∙ e' ∙ ap (λ (z : ℤ). not (eq_z z y)) a ∙ ap not (eq_z_refl y)

-- ---- the next marked cell

pub next_start : (marks : List ℕ) (from : ℕ) → from ≤ length marks → NextOdd marks from from
next_start marks from l = record { low = omega arith; end = l; passed = λ k p q. absurd (omega arith) }

-- a cell with an even mark is passed over, and those without a mark behind it
pub next_more : (marks : List ℕ) (from c : ℕ) {r : ℕ} → NextOdd marks from c → c < length marks → (get_or marks c 0 % 2 ≡ 1 → ⊥) → Clear marks (c + 1) r → NextOdd marks from r
next_more marks from c {r} s l out z = record {
  low = omega (arith, s.low, z.onward);
  end = z.within;
  passed = λ k p q. at k p q (dec_le k c);
}
  where
    even : (x : ℕ) → (x % 2 ≡ 1 → ⊥) → x % 2 ≡ 0
    even x h = go (ℕ_discrete (x % 2) 1)
      where
        go : Dec (x % 2 ≡ 1) → x % 2 ≡ 0
        go (yes e) = absurd (h e)
        go (no e) = omega arith

    known : (k : ℕ) → from ≤ k → (k ≡ c) ⊎ (k < c) → get_or marks k 0 % 2 ≡ 0
    known k p (inl e) = rw e (even (get_or marks c 0) out)
    known k p (inr e) = s.passed k p e

    at : (k : ℕ) → from ≤ k → k < r → Dec (k ≤ c) → get_or marks k 0 % 2 ≡ 0
    at k p q (yes d) = known k p (last_or_below (let w : k < suc c = omega arith in w))
    at k p q (no d) = ap (λ (x : ℕ). x % 2) (z.clear k (omega arith) q)

-- ---- halving

pub halved : (marks : List ℕ) → Halved marks (map (λ x. x / 2) marks)
halved marks = record { len = length-map marks (λ x. x / 2); each = λ k l. get_or-map (λ x. x / 2) marks k 0 0 l }
