-- The value of a literal, kept at most 2147483648.
use mathlib.Core.Path.{◌≡◌, refl, sym, ap, ◌∙◌}
use mathlib.Core.Bool.{Bool, true, false}
use mathlib.Core.List.{List, [], ◌∷◌}
use Prim.Native.Nat.{ℕ, suc, ◌+◌, ◌-◌, ◌*◌, ◌≤◌, ◌<◌, min}
use native.Mathlib.Omega.{arith}
use lib.ListN.{length, take, drop, get_or}
use lib.Dec.{eqb}
use borrow.Author.Tests.{eq-eqb, ne_eqb}
use Rattle.std.specs.Prelude.{if◌then◌else◌}
use Rattle.token.specs.Lexeme.{decimal}
use Rattle.token.specs.Promises.Promises.{too_large, with_digit}
use Rattle.token.proofs.Heads.{drop_here}

-- ---- one byte

module _ (n b : ℕ) where
  pub byte_same : n ≤ too_large → b ≡ 95 → n ≡ min too_large (with_digit n b)
  byte_same h e = simp (eq-eqb b 95 e) (omega arith)

  module _ (d : b ≡ 95 → ⊥) {x : ℕ} (e : x ≡ b - 48) where
    pub byte_more : n * 10 + x < too_large → n * 10 + x ≡ min too_large (with_digit n b)
    byte_more h = simp (ne_eqb b 95 d) (omega arith)

    pub byte_most : too_large ≤ n * 10 + x → too_large ≡ min too_large (with_digit n b)
    byte_most h = simp (ne_eqb b 95 d) (omega arith)

pub ruleset Bytes = (byte_same, byte_more, byte_most)

-- ---- all bytes: it is enough to keep the least value that is too large

kept : (n b : ℕ) → min too_large (with_digit (min too_large n) b) ≡ min too_large (with_digit n b)
kept n b = go (eqb b 95)
  where
    go : (t : Bool) → min too_large (if t then min too_large n else min too_large n * 10 + (b - 48)) ≡ min too_large (if t then n else n * 10 + (b - 48))
    go true = omega arith
    go false = omega arith

least : (n : ℕ) (s : List ℕ) → min too_large (decimal (min too_large n) s) ≡ min too_large (decimal n s)
unfolding decimal
least n [] = omega arith
least n (b ∷ bs) =
    sym (least (with_digit (min too_large n) b) bs) ∙ ap (λ (x : ℕ). min too_large (decimal x bs)) (kept n b)
    ∙ least (with_digit n b) bs

-- from position i on, behind `value`, is what is left of the literal from `at` on
pub record Summing (s : List ℕ) (at end i value : ℕ) : Type 0 where
  pub small : value ≤ too_large
  pub left : min too_large (decimal 0 (take (end - at) (drop at s))) ≡ min too_large (decimal value (take (end - i) (drop i s)))

module _ (s : List ℕ) (at end : ℕ) where
  pub sum_start : Summing s at end at 0
  sum_start = record { small = omega arith; left = refl }

  module _ {i value : ℕ} (w : Summing s at end i value) where
    pub sum_all : end ≤ i → value ≡ min too_large (decimal 0 (take (end - at) (drop at s)))
    unfolding decimal
    sum_all h =
        let e : end - i ≡ 0 = omega arith in
        let q : decimal value (take (end - i) (drop i s)) ≡ value = rw e in
        omega (arith, w.left, w.small, q)

    turn : i < end → end ≤ length s → decimal value (take (end - i) (drop i s)) ≡ decimal (with_digit value (get_or s i 0)) (take (end - (i + 1)) (drop (i + 1) s))
    unfolding decimal
    turn h l = let e : end - i ≡ suc (end - (i + 1)) = omega arith in rw (e, drop_here s i (omega arith))

    pub sum_more : i < end → end ≤ length s → {x : ℕ} → x ≡ min too_large (with_digit value (get_or s i 0)) → Summing s at end (i + 1) x
    sum_more h l e =
        record {
          small = omega arith;
          left = w.left ∙ ap (min too_large) (turn h l) ∙ sym (least (with_digit value (get_or s i 0)) (take (end - (i + 1)) (drop (i + 1) s))) ∙ rw e;
        }

pub ruleset Sums = (sum_start, sum_all, sum_more)
