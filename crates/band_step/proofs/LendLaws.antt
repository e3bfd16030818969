-- The rows that a band is lent, one after the other.
use Prim.Native.Nat.{ℕ, suc, ◌+◌, ◌-◌, ◌*◌, ◌/◌, ◌%◌, ◌≤◌, ◌<◌}
use native.Mathlib.Omega.{arith}
use native.Mathlib.Nat.{mul-le-mul_right, mul_assoc, add-mul, add_assoc, mod-lt, mod-eq_of_lt, add-mod_right, mod-add-mod, div-lt_iff_lt-mul, div-add-mod'}
use mathlib.Core.Path.{◌≡◌, refl, sym, ap, ap₂, ◌∙◌, subst}
use mathlib.Core.Logic.{◌⊎◌, inl, inr}
use mathlib.Core.Bool.{Bool, true, false}
use mathlib.Core.List.{List, [], ◌∷◌, ◌++◌}
use lib.ListN.{length, get_or, take, drop, take-append-drop, length-append, length-drop}
use lib.Seq.{ext_get_or, length-take-le, get_or-take, get_or-drop}
use lib.Dec.{ltb}
use borrow.Author.Tests.{ltb-true, ltb-false}
use lib.IntN.{ℤ, pos, negsuc, sub_ℕ}
use Rattle.value.specs.Worked.{wrap_of}
use Rattle.automaton.specs.Promises.ListedLaws.{last_or_below, list_of_ext}
use Rattle.automaton.specs.Shape.{product}
use Rattle.automaton.specs.Grid.{cell_of}
use Rattle.automaton.proofs.Theorems.GridLaws.{some_field}
use Rattle.automaton.specs.Promises.BandSteps.{rows_lent}
use Rattle.run_marked_cells.proofs.PartLaws.{entry_before, paste_below, paste_inside, paste_above, flat_ext}
use Rattle.band_step.specs.Promises.Lending.{copied, Lending, with_rows}

-- ---- one row

pub copied_of : (grid room part : List ℤ) (from to width a b : ℕ) → part ≡ take a (drop from grid) → a ≡ width → b ≡ width
    → take to room ++ (part ++ drop b (drop to room)) ≡ copied grid room from to width
copied_of grid room part from to width a b e p q =
    ap₂ (λ (x : List ℤ) (n : ℕ). take to room ++ (x ++ drop n (drop to room))) (e ∙ ap (λ (n : ℕ). take n (drop from grid)) p) q

-- ---- rows in turn

-- the number of a row that is lent, by how far it lies behind the first of them
abbrev row_at : (n first before k : ℕ) → ℕ
row_at n first before k = (first + n - before + k) % n

-- it is the wrapped one
pub row_wraps : (n first before k : ℕ) → first < n → before ≤ n → wrap_of first (sub_ℕ k before) n ≡ row_at n first before k
row_wraps n first before k l m = by (ltb k before) refl
  where
    far : (t : Bool) → ltb first (suc (before - suc k)) ≡ t → k < before
        → wrap_of first (negsuc (before - suc k)) n ≡ row_at n first before k
    far true q b =
        let h = ltb-true first (suc (before - suc k)) q in
        rw q (ap (λ (x : ℕ). n - suc x) (mod-eq_of_lt (omega arith)) ∙ omega arith ∙ sym (mod-eq_of_lt {n = first + n - before + k} {m = n} (omega arith)))
    far false q b =
        let h = ltb-false first (suc (before - suc k)) q in
        rw q (sym (ap (λ (x : ℕ). x % n) (omega arith) ∙ add-mod_right (first - suc (before - suc k)) n))

    by : (t : Bool) → ltb k before ≡ t → wrap_of first (sub_ℕ k before) n ≡ row_at n first before k
    by true q = let h = ltb-true k before q in rw q (far (ltb first (suc (before - suc k))) refl h)
    by false q =
        let h = ltb-false k before q in
        rw q (sym (ap (λ (x : ℕ). x % n) (omega arith) ∙ add-mod_right (first + (k - before)) n))

-- the row behind it
row_more : (n first before k : ℕ) → (row_at n first before k + 1) % n ≡ row_at n first before (k + 1)
row_more n first before k = mod-add-mod (first + n - before + k) n 1 ∙ ap (λ (x : ℕ). x % n) (add_assoc (first + n - before) k 1)

-- so many rows are copied
pub record Lent (n first before width : ℕ) (grid room₀ : List ℤ) (k from : ℕ) (room : List ℤ) : Type 0 where
  pub size : length room ≡ length room₀
  pub from_is : from ≡ row_at n first before k
  pub rows : (r j : ℕ) → r < k → j < width → get_or room (r * width + j) (pos 0) ≡ get_or grid (row_at n first before r * width + j) (pos 0)
  pub rest : (e : ℕ) → k * width ≤ e → get_or room e (pos 0) ≡ get_or room₀ e (pos 0)

module _ {n first before width : ℕ} {grid room₀ : List ℤ} where
  pub lent_start : {from : ℕ} → from ≡ (first + n - before) % n → Lent n first before width grid room₀ 0 from room₀
  lent_start e = record { size = refl; from_is = e ∙ ap (λ (x : ℕ). x % n) (omega arith); rows = λ r j l. absurd (omega arith); rest = λ e l. refl }

  pub lent_more : {k from next : ℕ} {room room' : List ℤ} → Lent n first before width grid room₀ k from room → from * width + width ≤ length grid → k * width + width ≤ length room
      → next ≡ (from + 1) % n → room' ≡ copied grid room (from * width) (k * width) width → Lent n first before width grid room₀ (k + 1) next room'
  lent_more {k} {from} {next} {room} {room'} h source target step is = rw is (record {
    size = sized ∙ h.size;
    from_is = step ∙ ap (λ (x : ℕ). (x + 1) % n) h.from_is ∙ row_more n first before k;
    rows = λ r j l m. by r j m (last_or_below (omega arith));
    rest = λ e l. paste_above (k * width) width room part target long e (omega arith) ∙ h.rest e (omega arith);
  })
    where
      part : List ℤ
      part = take width (drop (from * width) grid)

      long : length part ≡ width
      long = length-take-le width (drop (from * width) grid) (let e = length-drop (from * width) grid in omega arith)

      sized : length (copied grid room (from * width) (k * width) width) ≡ length room
      sized = omega (arith, length-append (take (k * width) room) (part ++ drop width (drop (k * width) room)), length-append part (drop width (drop (k * width) room)), long, length-take-le (k * width) room (omega arith), length-drop width (drop (k * width) room), length-drop (k * width) room)

      by : (r j : ℕ) → j < width → (r ≡ k) ⊎ (r < k) → get_or (copied grid room (from * width) (k * width) width) (r * width + j) (pos 0) ≡ get_or grid (row_at n first before r * width + j) (pos 0)
      by r j m (inl q) =
          ap (λ (x : ℕ). get_or (copied grid room (from * width) (k * width) width) (x * width + j) (pos 0)) q
          ∙ paste_inside (k * width) width room part target long j m ∙ get_or-take width (drop (from * width) grid) j (pos 0) m ∙ get_or-drop (from * width) grid j (pos 0)
          ∙ ap (λ (x : ℕ). get_or grid (x * width + j) (pos 0)) (h.from_is ∙ ap (row_at n first before) (sym q))
      by r j m (inr q) = paste_below (k * width) width room part target long (r * width + j) (entry_before width r k j q m) ∙ h.rows r j q m

  pub from_inside : {k from : ℕ} {room : List ℤ} → Lent n first before width grid room₀ k from room → 0 < n → from < n
  from_inside {k} h l = subst (λ (x : ℕ). x < n) (sym h.from_is) (mod-lt (first + n - before + k) l)

-- ---- all rows

-- an entry of a row's cell
in_row : (r q i fields j : ℕ) → (r * q + i) * fields + j ≡ r * (q * fields) + (i * fields + j)
in_row r q i fields j = ap (λ (x : ℕ). x + j) (add-mul (r * q) i fields) ∙ add_assoc (r * q * fields) (i * fields) j ∙ ap (λ (x : ℕ). x + (i * fields + j)) (mul_assoc r q fields)

lent_all : (n : ℕ) (ns : List ℕ) (fields first before count from : ℕ) (grid room₀ room : List ℤ) → first < n → before ≤ n → count * product ns * fields ≤ length room₀
    → Lent n first before (product ns * fields) grid room₀ count from room → room ≡ with_rows (n ∷ ns) fields first before count grid room₀
unfolding rows_lent cell_of
lent_all n ns fields first before count from grid room₀ room l near fits h =
    sym (take-append-drop m room) ∙ ap₂ (λ (x y : List ℤ). x ++ y) front back
  where
    q : ℕ
    q = product ns

    m : ℕ
    m = count * q * fields

    m_is : m ≡ count * (q * fields)
    m_is = mul_assoc count q fields

    room_long : m ≤ length room
    room_long = let s = h.size in omega arith

    back : drop m room ≡ drop m room₀
    back = ext_get_or (pos 0) (drop m room) (drop m room₀) (length-drop m room ∙ ap (λ (x : ℕ). x - m) h.size ∙ sym (length-drop m room₀))
        (λ e u. get_or-drop m room e (pos 0) ∙ h.rest (m + e) (omega (arith, m_is)) ∙ sym (get_or-drop m room₀ e (pos 0)))

    cell_at : (c : ℕ) → c < count * q → cell_of fields (take m room) c ≡ cell_of fields grid (wrap_of first (sub_ℕ (c / q) before) n * q + c % q)
    cell_at c u = list_of_ext _ _ fields (λ j v.
        let inside : c * fields + j < m = entry_before fields c (count * q) j u v in
        let some : 0 < q = some_field count q c u in
        let r = c / q in
        let i = c % q in
        let whole : c / q * q + c % q ≡ c = div-add-mod' c q in
        get_or-take m room (c * fields + j) (pos 0) inside
        ∙ ap (λ (x : ℕ). get_or room (x * fields + j) (pos 0)) (sym whole)
        ∙ ap (λ (x : ℕ). get_or room x (pos 0)) (in_row r q i fields j)
        ∙ h.rows r (i * fields + j) ((div-lt_iff_lt-mul some).1 u) (entry_before fields i q j (mod-lt c some) v)
        ∙ ap (λ (x : ℕ). get_or grid x (pos 0)) (sym (in_row (row_at n first before r) q i fields j))
        ∙ ap (λ (x : ℕ). get_or grid ((x * q + i) * fields + j) (pos 0)) (sym (row_wraps n first before r l near)))

    front : take m room ≡ rows_lent ns fields n count before first grid
    front = flat_ext fields (count * q) (take m room) _ (length-take-le m room room_long) cell_at

pub lent_done : {sizes : List ℕ} {row fields entries first before count lent : ℕ} {grid room₀ room : List ℤ} {k from : ℕ} → Lending sizes row fields entries first before count lent → length room₀ ≡ lent
    → Lent (get_or sizes 0 0) first before (row * fields) grid room₀ k from room → k ≤ count → count ≤ k → room ≡ with_rows sizes fields first before count grid room₀
lent_done {sizes} {row} {fields} {entries} {first} {before} {count} {lent} {grid} {room₀} {room} {k} {from} x size h a b =
    by sizes x.some_dims x.row_is x.a_row x.near (subst (λ (i : ℕ). Lent (get_or sizes 0 0) first before (row * fields) grid room₀ i from room) (omega arith) h)
  where
    by : (ss : List ℕ) → 0 < length ss → row ≡ product (drop 1 ss) → first < get_or ss 0 0 → before ≤ get_or ss 0 0 → Lent (get_or ss 0 0) first before (row * fields) grid room₀ count from room
        → room ≡ with_rows ss fields first before count grid room₀
    by [] z e l m t = absurd (omega arith)
    by (n ∷ ns) z e l m t =
        let fits : count * product ns * fields ≤ length room₀ = subst (λ (i : ℕ). count * i * fields ≤ length room₀) e (let f = x.room_fits in omega arith) in
        lent_all n ns fields first before count from grid room₀ room l m fits (rw e at t)

-- ---- what is asked of the numbers

-- a row of the grid
module _ {sizes : List ℕ} {row fields entries first before count lent : ℕ} (x : Lending sizes row fields entries first before count lent) where
  pub row_inside : {from : ℕ} → from < get_or sizes 0 0 → from * (row * fields) + row * fields ≤ entries
  row_inside {from} l = by sizes x.some_dims x.row_is l x.entries_are
    where
      by : (ss : List ℕ) → 0 < length ss → row ≡ product (drop 1 ss) → from < get_or ss 0 0 → product ss * fields ≡ entries → from * (row * fields) + row * fields ≤ entries
      by [] z e m u = absurd (omega arith)
      by (n ∷ ns) z e m u =
          rw e (omega (arith, mul-le-mul_right {m = suc from} {n = n} (product ns * fields) m, mul_assoc n (product ns) fields))

  pub room_inside : {k : ℕ} → k < count → k * (row * fields) + row * fields ≤ lent
  room_inside {k} l = omega (arith, mul-le-mul_right {m = suc k} {n = count} (row * fields) l, mul_assoc count row fields, x.room_fits)

-- ---- the sizes of a room

pub shape_one : (ss : List ℕ) (rows : ℕ) → length ss ≡ 1 → take (length ss) (rows ∷ 1 ∷ 1 ∷ []) ≡ rows ∷ drop 1 ss
shape_one [] rows e = absurd (omega arith)
shape_one (n ∷ []) rows e = refl
shape_one (n ∷ m ∷ ss) rows e = absurd (omega arith)

pub shape_two : (ss : List ℕ) (rows : ℕ) → length ss ≡ 2 → take (length ss) (rows ∷ get_or ss 1 0 ∷ 1 ∷ []) ≡ rows ∷ drop 1 ss
shape_two [] rows e = absurd (omega arith)
shape_two (n ∷ []) rows e = absurd (omega arith)
shape_two (n ∷ m ∷ []) rows e = refl
shape_two (n ∷ m ∷ k ∷ ss) rows e = absurd (omega arith)

pub shape_three : (ss : List ℕ) (rows : ℕ) → 0 < length ss → length ss ≤ 3 → (length ss ≡ 1 → ⊥) → (length ss ≡ 2 → ⊥) → take (length ss) (rows ∷ get_or ss 1 0 ∷ get_or ss 2 0 ∷ []) ≡ rows ∷ drop 1 ss
shape_three [] rows l m a b = absurd (omega arith)
shape_three (n ∷ []) rows l m a b = absurd (a refl)
shape_three (n ∷ k ∷ []) rows l m a b = absurd (b refl)
shape_three (n ∷ k ∷ j ∷ []) rows l m a b = refl
shape_three (n ∷ k ∷ j ∷ i ∷ ss) rows l m a b = absurd (omega arith)
