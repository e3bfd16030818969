-- Letters without case, and the comparison of two spellings: one law for each way through the code. Assumes nothing.
use Prim.Native.Nat.{ℕ, zero, suc, ◌+◌, ◌-◌, ◌≤◌, ◌<◌}
use native.Mathlib.Omega.{arith}
use native.Mathlib.Nat.{add-zero, sub-zero}
use mathlib.Core.Path.{◌≡◌, refl, sym, ap, ◌∙◌}
use mathlib.Core.List.{List, ◌∷◌}
use mathlib.Core.Bool.{Bool, true, false, ◌&&◌}
use lib.ListN.{length, get_or, get_or-eq_default}
use lib.Dec.{eqb, leb}
use Rattle.std.specs.Prelude.{if◌then◌else◌}
use borrow.Author.Tests.{eq-eqb, ne_eqb, le-leb, lt-leb}
use Rattle.std.specs.Char.{LowercasesTo}
use mathlib.Core.Logic.{inl, inr}
use Rattle.token.specs.Bytes.{fold, same}
use Rattle.names.specs.Names.{letters}

-- ---- a letter

-- the library's lower case is the definition's
lower_is : {b r : ℕ} → LowercasesTo b r → r ≡ fold b
unfolding fold
lower_is {b} (inl (h, e)) = e ∙ simp (le-leb 65 b h.0, le-leb b 90 h.1)
lower_is {b} (inr (inl h, e)) = e ∙ simp (lt-leb 65 b h)
lower_is {b} (inr (inr h, e)) = e ∙ by (leb 65 b) (lt-leb b 90 h)
  where
    by : {u : Bool} (t : Bool) → u ≡ false → b ≡ (if t && u then b + 32 else b)
    by true q = simp q
    by false q = refl

pub lower_fold : {a b r : ℕ} → LowercasesTo b r → b ≡ a → r ≡ fold a
lower_fold h e = lower_is h ∙ ap fold e

pub fold_end : (source : List ℕ) (i : ℕ) → length source ≤ i → 0 ≡ fold (get_or source i 0)
unfolding fold
fold_end source i h = sym (ap fold (get_or-eq_default source 0 {n = i} h))

-- ---- spellings

-- those of two lengths differ
pub unlike : (source : List ℕ) (a n b m : ℕ) → (n ≡ m → ⊥) → false ≡ same (letters source a n) (letters source b m)
unfolding letters same
unlike source a zero b zero h = absurd (h refl)
unlike source a zero b (suc m) h = refl
unlike source a (suc n) b zero h = refl
unlike source a (suc n) b (suc m) h =
    by (eqb (fold (get_or source a 0)) (fold (get_or source b 0))) (unlike source (a + 1) n (b + 1) m (λ e. h (ap suc e)))
  where
    by : {u : Bool} (t : Bool) → false ≡ u → false ≡ (t && u)
    by true e = e
    by false e = refl

-- what is left to compare after k letters
pub record Alike (source : List ℕ) (a b n k : ℕ) : Type 0 where
  pub within : k ≤ n
  pub left : same (letters source a n) (letters source b n) ≡ same (letters source (a + k) (n - k)) (letters source (b + k) (n - k))

pub alike_start : (source : List ℕ) (a b n : ℕ) → Alike source a b n 0
alike_start source a b n = record { within = omega arith; left = rw (add-zero a, add-zero b, sub-zero n) }

letters_more : (source : List ℕ) (a k n : ℕ) → k < n → letters source (a + k) (n - k) ≡ fold (get_or source (a + k) 0) ∷ letters source (a + (k + 1)) (n - (k + 1))
unfolding letters
letters_more source a k n h =
    let e : n - k ≡ suc (n - (k + 1)) = omega arith in
    let q : a + k + 1 ≡ a + (k + 1) = omega arith in
    ap (letters source (a + k)) e ∙ ap (λ (x : ℕ). fold (get_or source (a + k) 0) ∷ letters source x (n - (k + 1))) q

module _
    (source : List ℕ)
    (a b n k : ℕ)
    (h : Alike source a b n k)
    (l : k < n)
    {x y : ℕ}
    (p : x ≡ fold (get_or source (a + k) 0))
    (q : y ≡ fold (get_or source (b + k) 0))
  where
    turn :
        same (letters source (a + k) (n - k)) (letters source (b + k) (n - k))
        ≡ (eqb x y && same (letters source (a + (k + 1)) (n - (k + 1))) (letters source (b + (k + 1)) (n - (k + 1))))
    unfolding same
    turn = rw (p, q, letters_more source a k n l, letters_more source b k n l)

    pub alike_more : x ≡ y → Alike source a b n (k + 1)
    alike_more e = record { within = omega arith; left = h.left ∙ turn ∙ simp (eq-eqb x y e) }

    pub alike_end : (x ≡ y → ⊥) → false ≡ same (letters source a n) (letters source b n)
    alike_end d = sym (h.left ∙ turn ∙ simp (ne_eqb x y d))

pub alike_all : (source : List ℕ) (a b n k : ℕ) → Alike source a b n k → n ≤ k → true ≡ same (letters source a n) (letters source b n)
unfolding letters same
alike_all source a b n k h l = let z : n - k ≡ 0 = omega arith in sym (h.left ∙ rw z)

pub ruleset Spellings = (fold_end, alike_start, alike_more, alike_end, alike_all)
