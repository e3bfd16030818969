-- Fixed spellings: comparing a part of the source with one, letter case aside, and finding one.
use mathlib.Core.Path.{◌≡◌, refl, sym, ap, ◌∙◌}
use mathlib.Core.Bool.{Bool, true, false, ◌&&◌}
use mathlib.Core.List.{List, [], ◌∷◌, map}
use mathlib.Core.Logic.{◌⊎◌, inl, inr}
use Prim.Native.Nat.{ℕ, zero, suc, ◌+◌, ◌≤◌, ◌<◌}
use native.Mathlib.Omega.{arith}
use native.Mathlib.Numerals.{add-one}
use lib.Dec.{T, eqb, ltb, eqb→eq, ltb→lt}
use lib.ListN.{length, take, drop, get_or, length-map, drop_of_length-le}
use lib.Seq.{drop-cons}
use borrow.Author.Tests.{eq-eqb, ne_eqb, eqb-false, le-leb, lt-leb, ltb-true, ltb-false}
use Rattle.std.specs.Prelude.{if◌then◌else◌, Some, None}
use Rattle.std.specs.Borrow.{Bor}
use Rattle.std.specs.Char.{to_ascii_lowercase}
use Rattle.std.specs.declared.ops.Range.{Range}
use Rattle.std.proofs.lemmas.Bool.{cases_lt}
use Rattle.std.proofs.lemmas.Str.Ascii.{lowercase_is}
use Rattle.token.specs.Bytes.{between, fold, same}
use Rattle.token.specs.Lexeme.{Spelled, find_kind}
use Rattle.token.specs.Promises.Promises.{of_length, spelled_of, FindsKind, Groups}

-- ---- a letter's lower case: std's is the definition's

pub folds : (b : ℕ) → to_ascii_lowercase b ≡ fold b
unfolding fold
folds b = go (cases_lt b 65) (cases_lt 90 b)
  where
    go : (b < 65) ⊎ (65 ≤ b) → (90 < b) ⊎ (b ≤ 90) → to_ascii_lowercase b ≡ fold b
    go (inl p) q = (lowercase_is b).1 p ∙ sym (rw (lt-leb 65 b p))
    go (inr p) (inl q) = (lowercase_is b).2 q ∙ sym (rw (le-leb 65 b p, lt-leb b 90 q))
    go (inr p) (inr q) = (lowercase_is b).0 (p, q) ∙ sym (rw (le-leb 65 b p, le-leb b 90 q))

fold_below : (b : ℕ) → b < 65 → fold b ≡ b
unfolding fold
fold_below b h = rw (lt-leb 65 b h)

fold_grows : (b : ℕ) → b ≤ fold b
unfolding fold
fold_grows b = go (between 65 90 b)
  where
    go : (t : Bool) → b ≤ (if t then b + 32 else b)
    go true = omega arith
    go false = omega arith

-- ---- two lists of letters, from the front

-- both parts of a test hold
both : (a b : Bool) → T (a && b) → T a × T b
both true b t = (tt, t)
both false b t = absurd t

-- lists that pass the test are equal
pub alike : (a b : List ℕ) → T (same a b) → a ≡ b
unfolding same
alike [] [] t = refl
alike [] (y ∷ b) t = absurd t
alike (x ∷ a) [] t = absurd t
alike (x ∷ a) (y ∷ b) t =
    let u : T (eqb x y) × T (same a b) = both (eqb x y) (same a b) t in
    ap (λ (n : ℕ). n ∷ a) (eqb→eq x y u.0) ∙ ap (λ (l : List ℕ). y ∷ l) (alike a b u.1)

pub unlike : (a b : List ℕ) → (length a ≡ length b → ⊥) → same a b ≡ false
unfolding same
unlike [] [] h = absurd (h refl)
unlike [] (y ∷ b) h = refl
unlike (x ∷ a) [] h = refl
unlike (x ∷ a) (y ∷ b) h = go (eqb x y) (unlike a b (λ e. h (ap suc e)))
  where
    go : (t : Bool) {u : Bool} → u ≡ false → (t && u) ≡ false
    go true e = e
    go false e = refl

same_itself : (a : List ℕ) → same a a ≡ true
unfolding same
same_itself [] = refl
same_itself (x ∷ a) = rw (eq-eqb x x refl, same_itself a)

-- ---- the search

module _ (w : List ℕ) (x : Spelled) (xs : List Spelled) (other : ℕ) where
  found : same w x.letters ≡ true → find_kind w (x ∷ xs) other ≡ x.kind
  unfolding find_kind
  found e = rw (find_kind, e)

  missed : same w x.letters ≡ false → find_kind w (x ∷ xs) other ≡ find_kind w xs other
  unfolding find_kind
  missed e = rw (find_kind, e)

-- a table that has no kind 0 gives none
abbrev pub no_zeros : List Spelled → Bool
no_zeros [] = true
no_zeros (x ∷ xs) = ltb 0 x.kind && no_zeros xs

pub some_kind : (w : List ℕ) (t : List Spelled) (other : ℕ) → T (no_zeros t) → 0 < other → 0 < find_kind w t other
unfolding find_kind
some_kind w [] other h l = l
some_kind w (x ∷ xs) other h l =
    let u = both (ltb 0 x.kind) (no_zeros xs) h in
    go (same w x.letters) (ltb→lt 0 x.kind u.0) (some_kind w xs other u.1 l)
  where
    go : (t : Bool) {a b : ℕ} → 0 < a → 0 < b → 0 < elim t [ true ↦ a | false ↦ b ]
    go true p q = p
    go false p q = q

-- a spelling of another length is passed over: only those of the same length count
pub by_length : (w : List ℕ) (n : ℕ) (t : List Spelled) (other : ℕ) → length w ≡ n → find_kind w t other ≡ find_kind w (of_length n t) other
by_length w n [] other e = refl
by_length w n (x ∷ xs) other e = by (eqb (length x.letters) n) refl (same w x.letters) refl (by_length w n xs other e)
  where
    by : (b : Bool) → eqb (length x.letters) n ≡ b → (c : Bool) → same w x.letters ≡ c → find_kind w xs other ≡ find_kind w (of_length n xs) other
        → find_kind w (x ∷ xs) other ≡ find_kind w (if b then x ∷ of_length n xs else of_length n xs) other
    by true q true p r = found w x xs other p ∙ sym (found w x (of_length n xs) other p)
    by true q false p r = missed w x xs other p ∙ r ∙ sym (missed w x (of_length n xs) other p)
    by false q c p r = missed w x xs other (unlike w x.letters (λ d. eqb-false (length x.letters) n q (sym d ∙ e))) ∙ r

-- ---- the tables of the code

-- the groups, each as it computes
pub group : (k : ℕ) {n : ℕ} → n ≡ k → {r : Range ℕ} → Groups k r → Groups n r
group k e h = rw e h

-- no keyword and no predefined name has another length
pub no_group : (n : ℕ) → (n ≡ 2 → ⊥) → (n ≡ 3 → ⊥) → (n ≡ 4 → ⊥) → (n ≡ 5 → ⊥) → (n ≡ 6 → ⊥) → (n ≡ 9 → ⊥) → (n ≡ 10 → ⊥) → Groups n (record { start = 0; end = 0 })
no_group n n₂ n₃ n₄ n₅ n₆ n₉ n₁₀ =
    record {
      is = simp (ne_eqb 2 n (λ e. n₂ (sym e)), ne_eqb 3 n (λ e. n₃ (sym e)), ne_eqb 4 n (λ e. n₄ (sym e)), ne_eqb 5 n (λ e. n₅ (sym e)), ne_eqb 6 n (λ e. n₆ (sym e)), ne_eqb 9 n (λ e. n₉ (sym e)), ne_eqb 10 n (λ e. n₁₀ (sym e)));
      few = omega arith;
      order = omega arith;
    }

-- a part of the table is that part of the spellings
pub spelled_part : (i n : ℕ) (t : List (Bor (List ℕ) × ℕ)) → spelled_of (take n (drop i t)) ≡ take n (drop i (spelled_of t))
spelled_part zero zero t = refl
spelled_part zero (suc n) [] = refl
spelled_part zero (suc n) (f ∷ t) = rw (spelled_part zero n t)
spelled_part (suc i) zero t = refl
spelled_part (suc i) (suc n) [] = refl
spelled_part (suc i) (suc n) (f ∷ t) = spelled_part i (suc n) t

-- ---- a word and the letters of a spelling

-- the rest u is to be compared with the rest y
pub record Comparing (s x u y : List ℕ) : Type 0 where
  pub left : same (map fold s) x ≡ same (map fold u) y
  pub long : length u ≡ length y

module _ (s x : List ℕ) where
  pub compare_start : length s ≡ length x → Comparing s x s x
  compare_start e = record { left = refl; long = e }

  pub compare_unlike : (length s ≡ length x → ⊥) → false ≡ same (map fold s) x
  compare_unlike d = sym (unlike (map fold s) x (λ e. d (sym (length-map s fold) ∙ e)))

  pub compare_all : {u y : List ℕ} → Comparing s x u y → u ≡ [] → y ≡ [] → true ≡ same (map fold s) x
  unfolding same
  compare_all w e d = sym (w.left ∙ rw (e, d))

  module _ {a b : ℕ} {u y : List ℕ} (w : Comparing s x (a ∷ u) (b ∷ y)) where
    here_same : same (map fold s) x ≡ (eqb (to_ascii_lowercase a) b && same (map fold u) y)
    unfolding same
    here_same = w.left ∙ rw (folds a)

    pub compare_more : to_ascii_lowercase a ≡ b → Comparing s x u y
    compare_more e = record { left = here_same ∙ simp (eq-eqb _ _ e); long = omega (arith, w.long) }

    pub compare_not : (to_ascii_lowercase a ≡ b → ⊥) → false ≡ same (map fold s) x
    compare_not e = sym (here_same ∙ simp (ne_eqb _ _ e))

pub ruleset Compares = (compare_start, compare_unlike, compare_all, compare_more, compare_not)

-- ---- the search of the code

-- from number i on is what is left to search
pub record Seeking (w : List ℕ) (t : List (Bor (List ℕ) × ℕ)) (i : ℕ) : Type 0 where
  pub left : (other : ℕ) → find_kind w (spelled_of t) other ≡ find_kind w (spelled_of (drop i t)) other

pub seek_start : (w : List ℕ) (t : List (Bor (List ℕ) × ℕ)) → Seeking w t 0
seek_start w t = record { left = λ other. refl }

module _ (w : List ℕ) (t : List (Bor (List ℕ) × ℕ)) {i : ℕ} (k : Seeking w t i) where
  pub seek_none : length t ≤ i → FindsKind w (spelled_of t) None
  unfolding find_kind
  seek_none h = record { is = λ other. sym (k.left other ∙ rw (drop_of_length-le t h)) }

  module _ (h : i < length t) (d : Bor (List ℕ) × ℕ) {b : Bool} (q : b ≡ same w (get_or t i d).0.now) where
    left : (other : ℕ) → find_kind w (spelled_of t) other ≡ find_kind w (spelled_of (get_or t i d ∷ drop (i + 1) t)) other
    left other =
        let split : drop i t ≡ get_or t i d ∷ drop (i + 1) t = rw (add-one, drop-cons t i d h) in
        k.left other ∙ ap (λ (r : List (Bor (List ℕ) × ℕ)). find_kind w (spelled_of r) other) split

    pub seek_found : b ≡ true → FindsKind w (spelled_of t) (Some (get_or t i d).1)
    seek_found e = record { is = λ other. sym (left other ∙ found w _ _ other (sym q ∙ e)) }

    pub seek_next : b ≡ false → Seeking w t (i + 1)
    seek_next e = record { left = λ other. left other ∙ missed w _ _ other (sym q ∙ e) }

pub ruleset Seeks = (seek_start, seek_none, seek_found, seek_next)

-- ---- tokens of signs

-- bytes shorter than every spelling of a table are none of them
abbrev pub all_longer : ℕ → List Spelled → Bool
all_longer n [] = true
all_longer n (x ∷ xs) = ltb n (length x.letters) && all_longer n xs

pub too_short : (w : List ℕ) (t : List Spelled) (other : ℕ) → T (all_longer (length w) t) → find_kind w t other ≡ other
unfolding find_kind
too_short w [] other h = refl
too_short w (x ∷ xs) other h =
    let u = both (ltb (length w) (length x.letters)) (all_longer (length w) xs) h in
    let d : length w < length x.letters = ltb→lt _ _ u.0 in
    missed w x xs other (unlike w x.letters (λ e. omega arith)) ∙ too_short w xs other u.1

-- where no spelling of a table has a letter, letter case is no matter
abbrev signs : List ℕ → Bool
signs [] = true
signs (y ∷ ys) = ltb y 65 && signs ys

abbrev pub signs_only : List Spelled → Bool
signs_only [] = true
signs_only (x ∷ xs) = signs x.letters && signs_only xs

sign_same : (b y : ℕ) → y < 65 → eqb (fold b) y ≡ eqb b y
sign_same b y h = go (ltb b 65) refl
  where
    go : (t : Bool) → ltb b 65 ≡ t → eqb (fold b) y ≡ eqb b y
    go true e = ap (λ (x : ℕ). eqb x y) (fold_below b (ltb-true b 65 e))
    go false e = ne_eqb (fold b) y (λ q. omega (arith, fold_grows b, ltb-false b 65 e)) ∙ sym (ne_eqb b y (λ q. omega (arith, ltb-false b 65 e)))

signs_same : (w ys : List ℕ) → T (signs ys) → same (map fold w) ys ≡ same w ys
unfolding same
signs_same [] [] h = refl
signs_same [] (y ∷ ys) h = refl
signs_same (b ∷ w) [] h = refl
signs_same (b ∷ w) (y ∷ ys) h =
    let u = both (ltb y 65) (signs ys) h in
    rw (sign_same b y (ltb→lt y 65 u.0), signs_same w ys u.1)

pub signs_fold : (w : List ℕ) (t : List Spelled) (other : ℕ) → T (signs_only t) → find_kind (map fold w) t other ≡ find_kind w t other
unfolding find_kind
signs_fold w [] other h = refl
signs_fold w (x ∷ xs) other h =
    let u = both (signs x.letters) (signs_only xs) h in
    rw (find_kind, signs_same w x.letters u.0)
    (ap (λ (n : ℕ). elim (same w x.letters) [ true ↦ x.kind | false ↦ n ]) (signs_fold w xs other u.1))
