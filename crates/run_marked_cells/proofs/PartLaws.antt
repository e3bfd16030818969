-- The fields of a cell as a part of a grid.
use Prim.Native.Nat.{ℕ, suc, ◌+◌, ◌-◌, ◌*◌, ◌/◌, ◌%◌, ◌≤◌, ◌<◌}
use native.Mathlib.Nat.{mul-le-mul_right, mod-lt, div-lt_iff_lt-mul, div-add-mod'}
use native.Mathlib.Omega.{arith}
use mathlib.Core.Path.{◌≡◌, sym, ap, ◌∙◌, subst}
use mathlib.Core.Logic.{◌⊎◌, inl, inr}
use mathlib.Core.List.{List, ◌++◌}
use lib.ListN.{length, get_or, take, drop, get_or-append}
use lib.Seq.{ext_get_or, length-take-le, get_or-append-add, get_or-take, get_or-drop}
use lib.IntN.{ℤ, pos}
use Rattle.automaton.specs.Promises.ListedLaws.{length_list_of, get_or_list_of, list_of_ext}
use Rattle.automaton.specs.Grid.{cell_of, grid_of}
use Rattle.automaton.proofs.Theorems.GridLaws.{some_field}
use Rattle.run_marked_cells.proofs.ScanLaws.{below_or}

-- an entry of a cell lies before the fields of a later one
pub entry_before : (fields c cell k : ℕ) → c < cell → k < fields → c * fields + k < cell * fields
entry_before fields c cell k l m = omega (arith, mul-le-mul_right {m = suc c} {n = cell} fields l)

-- an entry of another cell lies before a cell's fields, or past them
apart : (fields cell c k : ℕ) → (c ≡ cell → ⊥) → k < fields → (c * fields + k < cell * fields) ⊎ (cell * fields + fields ≤ c * fields + k)
apart fields cell c k d l = go (below_or c cell) (below_or cell c)
  where
    go : (c < cell) ⊎ (cell ≤ c) → (cell < c) ⊎ (c ≤ cell) → (c * fields + k < cell * fields) ⊎ (cell * fields + fields ≤ c * fields + k)
    go (inl m) n = inl (entry_before fields c cell k m l)
    go (inr m) (inl n) = inr (omega (arith, mul-le-mul_right {m = suc cell} {n = c} fields n))
    go (inr m) (inr n) = absurd (d (omega arith))

-- a cell whose part is left alone keeps its fields
pub cell_kept : (fields cell : ℕ) (a a' : List ℤ) → ((e : ℕ) → e < cell * fields → get_or a' e (pos 0) ≡ get_or a e (pos 0))
    → ((e : ℕ) → cell * fields + fields ≤ e → get_or a' e (pos 0) ≡ get_or a e (pos 0)) → (c : ℕ) → (c ≡ cell → ⊥) → cell_of fields a' c ≡ cell_of fields a c
unfolding cell_of
cell_kept fields cell a a' below above c d = list_of_ext _ _ fields (λ k l. at k (apart fields cell c k d l))
  where
    at : (k : ℕ) → (c * fields + k < cell * fields) ⊎ (cell * fields + fields ≤ c * fields + k) → get_or a' (c * fields + k) (pos 0) ≡ get_or a (c * fields + k) (pos 0)
    at k (inl q) = below _ q
    at k (inr q) = above _ q

-- a cell whose entries are those of another list has its fields from there
pub cell_same : (fields cell : ℕ) (b a' : List ℤ) → ((k : ℕ) → k < fields → get_or a' (cell * fields + k) (pos 0) ≡ get_or b (cell * fields + k) (pos 0))
    → cell_of fields a' cell ≡ cell_of fields b cell
unfolding cell_of
cell_same fields cell b a' same = list_of_ext _ _ fields same

-- ---- a list in which a part is put in place of another

module _ (from k : ℕ) (xs ys : List ℤ) (room : from + k ≤ length xs) (size : length ys ≡ k) where
  abbrev pub pasted : List ℤ
  pasted = take from xs ++ (ys ++ drop k (drop from xs))

  front : length (take from xs) ≡ from
  front = length-take-le from xs (omega arith)

  pub paste_below : (e : ℕ) → e < from → get_or pasted e (pos 0) ≡ get_or xs e (pos 0)
  paste_below e l = get_or-append (take from xs) _ (pos 0) e (let f = front in omega arith) ∙ get_or-take from xs e (pos 0) l

  -- past the front
  paste_add : (n : ℕ) → get_or pasted (from + n) (pos 0) ≡ get_or (ys ++ drop k (drop from xs)) n (pos 0)
  paste_add n = ap (λ (m : ℕ). get_or pasted (m + n) (pos 0)) (sym front) ∙ get_or-append-add (take from xs) _ n (pos 0)

  pub paste_inside : (n : ℕ) → n < k → get_or pasted (from + n) (pos 0) ≡ get_or ys n (pos 0)
  paste_inside n l = paste_add n ∙ get_or-append ys _ (pos 0) n (let s = size in omega arith)

  pub paste_above : (e : ℕ) → from + k ≤ e → get_or pasted e (pos 0) ≡ get_or xs e (pos 0)
  paste_above e l =
      let n = e - (from + k) in
      let q : from + (k + n) ≡ e = omega arith in
      let s : k + n ≡ length ys + n = let z = size in omega arith in
      ap (λ (m : ℕ). get_or pasted m (pos 0)) (sym q) ∙ paste_add (k + n)
      ∙ ap (λ (m : ℕ). get_or (ys ++ drop k (drop from xs)) m (pos 0)) s
      ∙ get_or-append-add ys (drop k (drop from xs)) n (pos 0)
      ∙ get_or-drop k (drop from xs) n (pos 0) ∙ get_or-drop from xs (k + n) (pos 0) ∙ ap (λ (m : ℕ). get_or xs m (pos 0)) q

module _ (fields cell k : ℕ) (xs ys : List ℤ) (room : cell * fields + fields ≤ length xs) (size : length ys ≡ fields) (whole : k ≡ fields) where
  abbrev part_put : List ℤ
  part_put = take (cell * fields) xs ++ (ys ++ drop k (drop (cell * fields) xs))

  same_put : part_put ≡ take (cell * fields) xs ++ (ys ++ drop fields (drop (cell * fields) xs))
  same_put = ap (λ (n : ℕ). take (cell * fields) xs ++ (ys ++ drop n (drop (cell * fields) xs))) whole

  pub part_own : cell_of fields part_put cell ≡ ys
  unfolding cell_of
  part_own =
      ap (λ (l : List ℤ). cell_of fields l cell) same_put
      ∙ ext_get_or (pos 0) _ ys (length_list_of _ fields ∙ sym size)
      (λ j l. let lj : j < fields = rw (length_list_of (λ (n : ℕ). get_or (take (cell * fields) xs ++ (ys ++ drop fields (drop (cell * fields) xs))) (cell * fields + n) (pos 0)) fields) at l in
      get_or_list_of _ fields j (pos 0) lj ∙ paste_inside (cell * fields) fields xs ys room size j lj)

  pub part_kept : (c : ℕ) → (c ≡ cell → ⊥) → cell_of fields part_put c ≡ cell_of fields xs c
  part_kept c d =
      ap (λ (l : List ℤ). cell_of fields l c) same_put
      ∙ cell_kept fields cell xs _ (paste_below (cell * fields) fields xs ys room size) (paste_above (cell * fields) fields xs ys room size) c d

-- ---- a grid by its cells

-- a grid is the one of its cells' fields
pub flat_ext : (fields cells : ℕ) (g : List ℤ) (s : ℕ → List ℤ) → length g ≡ cells * fields → ((c : ℕ) → c < cells → cell_of fields g c ≡ s c) → g ≡ grid_of fields cells s
unfolding cell_of grid_of
flat_ext fields cells g s e h =
    ext_get_or (pos 0) g (grid_of fields cells s) (e ∙ sym (length_list_of _ (cells * fields)))
    (λ k l. at k (subst (λ (x : ℕ). k < x) e l))
  where
    at : (k : ℕ) → k < cells * fields → get_or g k (pos 0) ≡ get_or (grid_of fields cells s) k (pos 0)
    at k l =
        let z = some_field cells fields k l in
        let c = k / fields in
        let j = k % fields in
        let lj : j < fields = mod-lt k z in
        let lc : c < cells = (div-lt_iff_lt-mul z).1 l in
        ap (λ (x : ℕ). get_or g x (pos 0)) (sym (div-add-mod' k fields))
        ∙ sym (get_or_list_of (λ (x : ℕ). get_or g (c * fields + x) (pos 0)) fields j (pos 0) lj)
        ∙ ap (λ (a : List ℤ). get_or a j (pos 0)) (h c lc)
        ∙ sym (get_or_list_of (λ (x : ℕ). get_or (s (x / fields)) (x % fields) (pos 0)) (cells * fields) k (pos 0) l)
