-- Separators and comments: what a byte does to the walk over them, and what is left of the walk.
use mathlib.Core.Path.{◌≡◌, refl, sym, ap, ◌∙◌}
use mathlib.Core.Bool.{Bool, true, false, ◌||◌}
use mathlib.Core.List.{List, [], ◌∷◌}
use Prim.Native.Nat.{ℕ, suc, ◌+◌, ◌≤◌, ◌<◌}
use native.Mathlib.Omega.{arith}
use lib.ListN.{length, drop, drop_of_length-le}
use lib.Dec.{eqb}
use Rattle.token.specs.Bytes.{kind_of}
use Rattle.token.specs.declared.bytes.ByteKind.{ByteKind}
use Rattle.token.specs.declared.bytes.ByteKind.TheVariants.{Blank, LineEnd, Comment}
use Rattle.token.specs.Scanning.{blanks}
use Rattle.token.specs.Promises.Promises.{WalksTokens, Skips, kind_number, head_kind}
use Rattle.token.proofs.Heads.{walks, drop_here}
use Rattle.token.proofs.Numbers.{apart_eqb}

-- ---- one byte, by its kind

module _ {s : List ℕ} {x : ℕ} {xs : List ℕ} (q : s ≡ x ∷ xs) (k : ByteKind) (e : kind_number k ≡ head_kind s) where
  here : kind_of x ≡ kind_number k
  unfolding head_kind
  here = sym (e ∙ ap head_kind q)

  ends_line : (inside : Bool) → k ≡ LineEnd → blanks inside s ≡ suc (blanks false xs)
  unfolding blanks
  ends_line inside l = rw (q, blanks, here, l)

  goes_on_inside : (k ≡ LineEnd → ⊥) → blanks true s ≡ suc (blanks true xs)
  unfolding blanks
  goes_on_inside l = rw (q, blanks, here, apart_eqb k LineEnd l)

  begins : k ≡ Comment → blanks false s ≡ suc (blanks true xs)
  unfolding blanks
  begins c = rw (q, blanks, here, c, here, c)

  separates : k ≡ Blank → blanks false s ≡ suc (blanks false xs)
  unfolding blanks
  separates c = rw (q, blanks, here, c, here, c, here, c)

  none : (k ≡ LineEnd → ⊥) → (k ≡ Comment → ⊥) → (k ≡ Blank → ⊥) → blanks false s ≡ 0
  unfolding blanks
  none l c b = rw (q, blanks, here, apart_eqb k LineEnd l, here, apart_eqb k Comment c, here, apart_eqb k Blank b)

-- ---- the walk

pub blanks_within : (inside : Bool) (s : List ℕ) → blanks inside s ≤ length s
unfolding blanks
blanks_within inside [] = omega arith
blanks_within inside (b ∷ bs) = at_most (eqb (kind_of b) 2) (inside || eqb (kind_of b) 6) (eqb (kind_of b) 1) (blanks_within true bs) (blanks_within false bs)
  where
    at_most : (p q r : Bool) {m n k : ℕ} → m ≤ k → n ≤ k → elim p [ true ↦ suc n | false ↦ elim q [ true ↦ suc m | false ↦ elim r [ true ↦ suc n | false ↦ 0 ] ] ] ≤ suc k
    at_most true q r g h = omega arith
    at_most false true r g h = omega arith
    at_most false false true g h = omega arith
    at_most false false false g h = omega arith

-- inside a comment each byte that ends no line is skipped
pub record Skipping (s : List ℕ) (at i : ℕ) : Type 0 where
  pub left : at + blanks true (drop at s) ≡ i + blanks true (drop i s)
  pub onward : at ≤ i

module _ (s : List ℕ) (at : ℕ) where
  pub skip_start : Skipping s at at
  skip_start = record { left = refl; onward = omega arith }

  module _ {i : ℕ} (w : Skipping s at i) where
    pub skip_all : length s ≤ i → Skips s at i
    unfolding blanks
    skip_all h = let z : drop i s ≡ [] = drop_of_length-le s h in record { left = w.left ∙ rw z; onward = w.onward }

    module _ (h : i < length s) {k : ByteKind} (e : kind_number k ≡ head_kind (drop i s)) where
      pub skip_end : k ≡ LineEnd → Skips s at i
      skip_end l = record { left = w.left ∙ rw (ends_line (drop_here s i h) k e true l, ends_line (drop_here s i h) k e false l); onward = w.onward }

      pub skip_more : (k ≡ LineEnd → ⊥) → Skipping s at (i + 1)
      skip_more l = record { left = omega (arith, w.left, goes_on_inside (drop_here s i h) k e l); onward = omega (arith, w.onward) }

pub ruleset Comments = (skip_start, skip_all, skip_end, skip_more)

-- from position i on is what is left of the walk from `at` on
pub record Passing (s : List ℕ) (at i : ℕ) : Type 0 where
  pub left : at + blanks false (drop at s) ≡ i + blanks false (drop i s)

module _ (s : List ℕ) (at : ℕ) where
  pub pass_start : Passing s at at
  pass_start = record { left = refl }

  module _ {i : ℕ} (w : Passing s at i) where
    ends : blanks false (drop i s) ≡ 0 → WalksTokens (blanks false (drop at s)) s at i
    ends e = walks s at (blanks_within false (drop at s)) (omega (arith, w.left, e))

    pub pass_all : length s ≤ i → WalksTokens (blanks false (drop at s)) s at i
    unfolding blanks
    pass_all h = ends (rw (drop_of_length-le s h))

    module _ (h : i < length s) {k : ByteKind} (e : kind_number k ≡ head_kind (drop i s)) where
      pub pass_stop : (k ≡ LineEnd → ⊥) → (k ≡ Comment → ⊥) → (k ≡ Blank → ⊥) → WalksTokens (blanks false (drop at s)) s at i
      pass_stop l c b = ends (none (drop_here s i h) k e l c b)

      pub pass_line : k ≡ LineEnd → Passing s at (i + 1)
      pass_line l = record { left = omega (arith, w.left, ends_line (drop_here s i h) k e false l) }

      pub pass_blank : k ≡ Blank → Passing s at (i + 1)
      pass_blank b = record { left = omega (arith, w.left, separates (drop_here s i h) k e b) }

      pub pass_comment : k ≡ Comment → {j : ℕ} → Skips s (i + 1) j → Passing s at j
      pass_comment c v = record { left = omega (arith, w.left, begins (drop_here s i h) k e c, v.left) }

pub ruleset Passes = (pass_start, pass_all, pass_stop, pass_line, pass_blank, pass_comment)
