-- The exchange of the marked cells.
use Prim.Native.Nat.{ℕ, ◌+◌, ◌-◌, ◌*◌, ◌≤◌, ◌<◌}
use native.Mathlib.Omega.{arith}
use native.Mathlib.Nat.{mul-le-mul, mul-le-mul_right}
use mathlib.Core.Path.{◌≡◌, refl, sym, ap, ◌∙◌}
use mathlib.Core.Logic.{◌⊎◌, inl, inr}
use mathlib.Core.Bool.{true, cond}
use mathlib.Core.List.{List, ◌++◌}
use lib.ListN.{length, get_or, take, drop, length-append, length-drop}
use lib.Seq.{length-take-le, get_or-take, get_or-drop}
use lib.IntN.{ℤ, pos}
use Rattle.automaton.specs.Step.{marked}
use Rattle.automaton.specs.Grid.{cell_of}
use Rattle.run_marked_cells.specs.Promises.Marked.{NextMarked, Swapping, Swapped, Exchanging, Exchanged}
use Rattle.run_marked_cells.proofs.ScanLaws.{below_or}
use Rattle.run_marked_cells.proofs.PartLaws.{entry_before, cell_same, pasted, paste_below, paste_inside, paste_above}

-- ---- entries

-- the same is asked the other way round
pub turned : {a b from end : ℕ} → Swapping a b from end → Swapping b a from end
turned s = record { alike = sym s.alike; order = s.order; within = omega (arith, s.alike, s.within) }

-- a part of a, with that of b put in its place
pub swap_part : (a b v : List ℤ) (from end : ℕ) → Swapping (length a) (length b) from end → v ≡ take (end - from) (drop from b)
    → Swapped a b (take from a ++ (v ++ drop (end - from) (drop from a))) from end
swap_part a b v from end s put = record {
  size = rw (length-append, length-append, length-take-le from a (omega arith), size, length-drop, length-drop) (omega arith);
  inside = λ e l m. ap (λ (n : ℕ). get_or (pasted from k a v room size) n (pos 0)) (there e l) ∙ paste_inside from k a v room size (e - from) (omega arith) ∙ put_at e l m;
  below = paste_below from k a v room size;
  above = λ e l. paste_above from k a v room size e (omega arith);
}
  where
    k : ℕ
    k = end - from

    order : from ≤ end
    order = s.order

    within : end ≤ length a
    within = s.within

    size : length v ≡ k
    size = ap length put ∙ length-take-le k (drop from b) (let e = s.alike in rw length-drop (omega arith))

    room : from + k ≤ length a
    room = omega arith

    there : (e : ℕ) → from ≤ e → e ≡ from + (e - from)
    there e l = omega arith

    put_at : (e : ℕ) → from ≤ e → e < end → get_or v (e - from) (pos 0) ≡ get_or b e (pos 0)
    put_at e l m =
        ap (λ (xs : List ℤ). get_or xs (e - from) (pos 0)) put
        ∙ get_or-take k (drop from b) (e - from) (pos 0) (omega arith)
        ∙ get_or-drop from b (e - from) (pos 0)
        ∙ ap (λ (n : ℕ). get_or b n (pos 0)) (sym (there e l))

-- ---- cells

-- below the cell i the marked cells are exchanged; from there on all is as it was
pub record Half (fields : ℕ) (marks : List ℕ) (a b a' : List ℤ) (i : ℕ) : Type 0 where
  pub size : length a' ≡ length a
  pub done : (c : ℕ) → c < i → cell_of fields a' c ≡ cond (marked marks c) (cell_of fields b c) (cell_of fields a c)
  pub rest : (c : ℕ) → i ≤ c → cell_of fields a' c ≡ cell_of fields a c

-- the fields of the cells up to one are entries of the grid, of which there are not too many
pub exchange_room : {a b marks fields : ℕ} (past : ℕ) → Exchanging a b marks fields → past ≤ marks → (past * fields ≤ a) × (a ≤ 8388608)
exchange_room {a} {b} {marks} {fields} past x l =
    let e = x.entries in
    (omega (arith, mul-le-mul_right {m = past} {n = marks} fields l), omega (arith, mul-le-mul {n₁ = marks} {m₁ = fields} {n₂ = 1048576} {m₂ = 8} x.few x.most))

pub swapping : {a b marks fields a' b' : ℕ} (cell past : ℕ) → Exchanging a b marks fields → cell < past → past ≤ marks → a' ≡ a → b' ≡ b
    → Swapping a' b' (cell * fields) (past * fields)
swapping {fields} cell past x o l e e' = record {
  alike = e' ∙ x.alike ∙ sym e;
  order = mul-le-mul_right {m = cell} {n = past} fields (omega arith);
  within = let r = (exchange_room past x l).0 in omega arith;
}

module _ (fields : ℕ) (marks : List ℕ) (a b : List ℤ) where
  pub half_start : Half fields marks a b a 0
  half_start = record { size = refl; done = λ c l. absurd (omega arith); rest = λ c l. refl }

  -- cells that are not marked are passed over
  pub half_skip : (a' : List ℤ) (i r : ℕ) → Half fields marks a b a' i → NextMarked marks i r → Half fields marks a b a' r
  half_skip a' i r h n = record {
    size = h.size;
    done = λ c l. by c l (below_or c i);
    rest = λ c l. let o = n.onward in h.rest c (omega arith);
  }
    where
      by : (c : ℕ) → c < r → (c < i) ⊎ (i ≤ c) → cell_of fields a' c ≡ cond (marked marks c) (cell_of fields b c) (cell_of fields a c)
      by c l (inl m) = h.done c m
      by c l (inr m) = rw (n.skipped c m l) (h.rest c m)

  -- a run of marked cells is exchanged
  pub half_run : (a' b' a'' : List ℤ) (i r : ℕ) → Half fields marks a b a' i → Half fields marks b a b' i → i < r → ((c : ℕ) → i ≤ c → c < r → marked marks c ≡ true)
      → Swapped a' b' a'' (i * fields) (r * fields) → Half fields marks a b a'' r
  half_run a' b' a'' i r h h' o m s = record {
    size = s.size ∙ h.size;
    done = λ c l. by c l (below_or c i);
    rest = λ c l. cell_same fields c a' a'' (λ k n. s.above _ (omega (arith, mul-le-mul_right {m = r} {n = c} fields l))) ∙ h.rest c (omega arith);
  }
    where
      by : (c : ℕ) → c < r → (c < i) ⊎ (i ≤ c) → cell_of fields a'' c ≡ cond (marked marks c) (cell_of fields b c) (cell_of fields a c)
      by c l (inl q) = cell_same fields c a' a'' (λ k n. s.below _ (entry_before fields c i k q n)) ∙ h.done c q
      by c l (inr q) =
          rw (m c q l)
          (cell_same fields c b' a'' (λ k n. s.inside _ (omega (arith, mul-le-mul_right {m = i} {n = c} fields q)) (entry_before fields c r k l n))
          ∙ h'.rest c q)

  pub half_end : (a' : List ℤ) (i : ℕ) → Half fields marks a b a' i → length marks ≤ i → Exchanged fields marks a b a'
  half_end a' i h l = record { size = h.size; cells = λ c m. h.done c (omega arith) }
