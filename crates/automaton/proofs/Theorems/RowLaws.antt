-- What the row counts alone tell is what the grid tells; and how one cell that changes moves them.
use Prim.Native.Nat.{ℕ, zero, suc, ◌+◌, ◌-◌, ◌*◌, ◌/◌, ◌<◌, ◌≤◌}
use native.Mathlib.Nat.{add-zero, add-suc, add_assoc, zero-mul, le-suc, le_trans, le_refl, mul-add-div_right, div-eq_of_lt}
use native.Mathlib.Omega.{arith}
use mathlib.Core.Path.{◌≡◌, refl, sym, ap, ap₂, ◌∙◌, subst}
use mathlib.Core.Logic.{◌⊎◌, inl, inr}
use mathlib.Core.Bool.{Bool, true, false, ◌||◌, cond}
use mathlib.Core.Option.{Option, none, some}
use lib.ListN.{get_or, set, length-set}
use lib.Dec.{eqb}
use borrow.Author.Tests.{eqb-true, eqb-false}
use lib.Seq.{get_or-set_same, get_or-set_other, ext_get_or}
use Rattle.value.proofs.Theorems.Truth.{or_true, or_no}
use Rattle.automaton.specs.Promises.ListedLaws.{length_list_of, get_or_list_of, last_or_below}
use Rattle.automaton.specs.Step.{how_many, non_zero}
use Rattle.automaton.proofs.Theorems.Quiet.{how_many_ext}
use Rattle.automaton.specs.Rows.{counts_by, in_rows, or_later, lowest, first_row}
use Rattle.automaton.specs.Promises.RowsOfGrid.{cells_in_rows, some_below, first_row_with}

-- ---- numbers below n that pass a test

count_split : (p : ℕ → Bool) (m k : ℕ) → how_many p (m + k) ≡ how_many p m + how_many (λ i. p (m + i)) k
unfolding how_many
count_split p m zero = ap (how_many p) (add-zero m) ∙ sym (add-zero (how_many p m))
count_split p m (suc k) =
    ap (how_many p) (add-suc m k) ∙ ap (λ (x : ℕ). x + cond (p (m + k)) 1 0) (count_split p m k) ∙ add_assoc (how_many p m) (how_many (λ i. p (m + i)) k) (cond (p (m + k)) 1 0)

-- some pass it exactly if their number is not 0
count_some : (p : ℕ → Bool) (n : ℕ) → non_zero (how_many p n) ≡ some_below p n
unfolding how_many some_below
count_some p zero = refl
count_some p (suc n) = by (p n) (how_many p n) (count_some p n)
  where
    by : (b : Bool) (x : ℕ) → non_zero x ≡ some_below p n → non_zero (x + cond b 1 0) ≡ (some_below p n || b)
    by true x h = ap non_zero (let e : x + 1 ≡ suc x = omega arith in e) ∙ sym (or_true (some_below p n))
    by false x h = ap non_zero (add-zero x) ∙ h ∙ sym (or_no (some_below p n))

lowest_ext : (p q : ℕ → Bool) (n : ℕ) → ((c : ℕ) → c < n → p c ≡ q c) → lowest p n ≡ lowest q n
unfolding lowest
lowest_ext p q zero h = refl
lowest_ext p q (suc n) h = ap₂ (λ (a : Option ℕ) (b : Bool). or_later a (cond b (some n) none)) (lowest_ext p q n (λ c l. h c (le_trans l (le-suc n)))) (h n (le_refl (suc n)))

-- ---- what the counts tell

module _ (p : ℕ → Bool) (n q : ℕ) where
  pub count_at : (r : ℕ) → r < n → get_or (counts_by p n q) r 0 ≡ how_many (λ j. p (r * q + j)) q
  unfolding counts_by
  count_at r l = get_or_list_of (λ r. how_many (λ j. p (r * q + j)) q) n r 0 l

  -- How many in some rows.
  pub in_rows_is : (a k : ℕ) → a + k ≤ n → in_rows (counts_by p n q) a k ≡ cells_in_rows p q a k
  unfolding in_rows cells_in_rows how_many
  in_rows_is a zero l = sym (ap (how_many (λ i. p (a * q + i))) (zero-mul q))
  in_rows_is a (suc k) l =
      ap₂ ◌+◌ (in_rows_is a k (omega arith)) (count_at (a + k) (omega arith) ∙ how_many_ext _ _ q (λ j lj. ap p (omega arith)))
      ∙ sym (ap (how_many (λ i. p (a * q + i))) more ∙ count_split (λ i. p (a * q + i)) (k * q) q)
    where
      more : suc k * q ≡ k * q + q
      more = omega arith

  -- The first row with one.
  pub first_row_is : first_row (counts_by p n q) ≡ first_row_with p n q
  unfolding first_row first_row_with counts_by
  first_row_is =
      ap (lowest (λ r. non_zero (get_or (counts_by p n q) r 0))) (length_list_of _ n)
      ∙ lowest_ext _ _ n (λ r l. ap non_zero (count_at r l) ∙ count_some (λ j. p (r * q + j)) q)

-- ---- one cell changes

-- 1 where a test holds, else 0
abbrev pub bit : Bool → ℕ
bit b = cond b 1 0

-- a test that is changed at one number changes how many pass it
count_one : (p p' : ℕ → Bool) (n c : ℕ) → c < n → ((x : ℕ) → (x ≡ c → ⊥) → p' x ≡ p x) → how_many p' n + bit (p c) ≡ how_many p n + bit (p' c)
unfolding how_many
count_one p p' zero c l h = absurd (omega arith)
count_one p p' (suc n) c l h = by (last_or_below l) (count_one p p' n c)
  where
    by : (c ≡ n) ⊎ (c < n) → (c < n → ((x : ℕ) → (x ≡ c → ⊥) → p' x ≡ p x) → how_many p' n + bit (p c) ≡ how_many p n + bit (p' c))
        → how_many p' n + bit (p' n) + bit (p c) ≡ how_many p n + bit (p n) + bit (p' c)
    by (inl e) rest =
        let same : how_many p' n ≡ how_many p n = how_many_ext p' p n (λ x lx. h x (λ q. let z = q in omega arith)) in
        let here : bit (p c) ≡ bit (p n) = ap (λ (x : ℕ). bit (p x)) e in
        let here' : bit (p' c) ≡ bit (p' n) = ap (λ (x : ℕ). bit (p' x)) e in
        omega (arith, same, here, here')
    by (inr e) rest =
        let last : bit (p' n) ≡ bit (p n) = ap (λ (b : Bool). cond b 1 0) (h n (λ q. let z = q in omega arith)) in
        omega (arith, rest e h, last)

same_row : (k r i j q : ℕ) → i < q → j < q → k * q + i ≡ r * q + j → k ≡ r
same_row k r i j q li lj e = sym (row k i li) ∙ ap (λ (x : ℕ). x / q) e ∙ row r j lj
  where
    row : (a b : ℕ) → b < q → (a * q + b) / q ≡ a
    row a b l = mul-add-div_right (omega arith) a b ∙ ap (λ (x : ℕ). a + x) (div-eq_of_lt l) ∙ add-zero a

-- Where one cell changes, the count of its row loses what it had and gains what it has; the others stay.
pub counts_one : (p p' : ℕ → Bool) (n q r j : ℕ) → r < n → j < q → ((x : ℕ) → (x ≡ r * q + j → ⊥) → p' x ≡ p x)
    → counts_by p' n q ≡ set (counts_by p n q) r (get_or (counts_by p n q) r 0 + bit (p' (r * q + j)) - bit (p (r * q + j)))
unfolding counts_by
counts_one p p' n q r j lr lj h =
    ext_get_or 0 (counts_by p' n q) (set (counts_by p n q) r new) (length_list_of _ n ∙ sym (length-set (counts_by p n q) r new ∙ length_list_of _ n))
    (λ k lk. at k (subst (λ (m : ℕ). k < m) (length_list_of _ n) lk))
  where
    new : ℕ
    new = get_or (counts_by p n q) r 0 + bit (p' (r * q + j)) - bit (p (r * q + j))

    here : how_many (λ i. p' (r * q + i)) q ≡ new
    here =
        let one = count_one (λ i. p (r * q + i)) (λ i. p' (r * q + i)) q j lj (λ x other. h (r * q + x) (λ e. other (omega arith))) in
        omega (arith, one, count_at p n q r lr)

    other_row : (k : ℕ) → k < n → (k ≡ r → ⊥) → how_many (λ i. p' (k * q + i)) q ≡ how_many (λ i. p (k * q + i)) q
    other_row k lk other = how_many_ext _ _ q (λ i li. h (k * q + i) (λ e. other (same_row k r i j q li lj e)))

    at : (k : ℕ) → k < n → get_or (counts_by p' n q) k 0 ≡ get_or (set (counts_by p n q) r new) k 0
    at k lk = by (eqb k r) refl
      where
        by : (t : Bool) → eqb k r ≡ t → get_or (counts_by p' n q) k 0 ≡ get_or (set (counts_by p n q) r new) k 0
        by true e =
            let is : k ≡ r = eqb-true k r e in
            count_at p' n q k lk ∙ ap (λ (x : ℕ). how_many (λ i. p' (x * q + i)) q) is ∙ here
            ∙ sym (get_or-set_same (counts_by p n q) r new 0 (subst (λ (m : ℕ). r < m) (sym (length_list_of _ n)) lr)) ∙ ap (λ (x : ℕ). get_or (set (counts_by p n q) r new) x 0) (sym is)
        by false e =
            let other : k ≡ r → ⊥ = eqb-false k r e in
            count_at p' n q k lk ∙ other_row k lk other ∙ sym (count_at p n q k lk) ∙ sym (get_or-set_other (counts_by p n q) r k new 0 other)
