-- The coordinates of a cell, found one after the other from the last dimension to the first: each is a rest modulo the size, and the rest is divided by it.
use Prim.Native.Nat.{ℕ, zero, suc, ◌+◌, ◌*◌, ◌/◌, ◌%◌, ◌≤◌, ◌<◌}
use native.Mathlib.Nat.{add-zero, mod-lt, div-add-mod', not-suc-le-zero, mul-le-mul_left, mul-le-mul_right}
use native.Mathlib.Omega.{arith}
use mathlib.Core.Path.{◌≡◌, refl, sym, ap, ◌∙◌, subst}
use mathlib.Core.List.{List, [], ◌∷◌}
use lib.ListN.{length, get_or, drop}
use lib.Seq.{drop-cons, drop-length}
use Rattle.automaton.specs.Shape.{product, cell_number, coordinates}
use Rattle.automaton.specs.Promises.ShapeLaws.{Inside, Positive}
use Rattle.automaton.proofs.ShapeLaws.{product_pos, coordinates_number}

pub size_positive : (ns : List ℕ) → Positive ns → (k : ℕ) → k < length ns → 0 < get_or ns k 0
size_positive [] h k l = absurd (not-suc-le-zero l)
size_positive (n ∷ ns) h zero l = h.0
size_positive (n ∷ ns) h (suc k) l = size_positive ns h.1 k (omega arith)

pub size_small : (ns : List ℕ) → Positive ns → (k : ℕ) → k < length ns → get_or ns k 0 ≤ product ns
size_small [] h k l = absurd (not-suc-le-zero l)
size_small (n ∷ ns) h zero l = omega (arith, mul-le-mul_left n (product_pos ns h.1))
size_small (n ∷ ns) h (suc k) l = omega (arith, size_small ns h.1 k (omega arith), mul-le-mul_right (product ns) h.0)

pub coordinates_length : (ns : List ℕ) (x : ℕ) → length (coordinates ns x) ≡ length ns
coordinates_length [] x = refl
coordinates_length (n ∷ ns) x = ap suc (coordinates_length ns _)

-- from the dimension k on the coordinates are known, and P holds of each
pub record Digits (ns : List ℕ) (x : ℕ) (P : ℕ → ℕ → Type 0) (rest k : ℕ) : Type 0 where
  pub place : List ℕ
  pub turn : k + length place ≡ length ns
  pub inside : Inside (drop k ns) place
  pub number : x ≡ rest * product (drop k ns) + cell_number (drop k ns) place
  pub each : (m : ℕ) → m < length place → P (k + m) (get_or place m 0)

module _ (ns : List ℕ) (x : ℕ) where
  pub digits_start : (P : ℕ → ℕ → Type 0) → Digits ns x P x (length ns)
  digits_start P = record {
    place = [];
    turn = omega arith;
    inside = rw (drop-length ns) tt;
    number = rw (drop-length ns) (omega arith);
    each = λ m l. absurd (not-suc-le-zero l);
  }

  split : (r n p y : ℕ) → r / n * n + r % n ≡ r → r * p + y ≡ r / n * (n * p) + (r % n * p + y)
  split r n p y e = ap (λ (z : ℕ). z * p + y) (sym e) ∙ go (r / n) (r % n)
    where
      go : (q w : ℕ) → (q * n + w) * p + y ≡ q * (n * p) + (w * p + y)
      go q w = omega arith

  -- one dimension more; what holds of those behind it is kept
  pub digits_more : (P P' : ℕ → ℕ → Type 0) (rest k j : ℕ) → Positive ns → Digits ns x P rest k → k ≡ suc j → P' j (rest % get_or ns j 0)
      → ((i d : ℕ) → j < i → P i d → P' i d) → Digits ns x P' (rest / get_or ns j 0) j
  digits_more P P' rest k j positive s ek now kept = record {
    place = rest % get_or ns j 0 ∷ s.place;
    turn = omega (arith, s.turn);
    inside = rw cons (mod-lt rest some, rw ek at s.inside);
    number = number';
    each = at;
  }
    where
      n : ℕ
      n = get_or ns j 0

      below : j < length ns
      below = omega (arith, s.turn)

      some : 0 < n
      some = size_positive ns positive j below

      cons : drop j ns ≡ n ∷ drop (suc j) ns
      cons = drop-cons ns j 0 below

      number' : x ≡ rest / n * product (drop j ns) + cell_number (drop j ns) (rest % n ∷ s.place)
      number' = s.number ∙ rw (ek, cons) (split rest n (product (drop (suc j) ns)) (cell_number (drop (suc j) ns) s.place) (div-add-mod' rest n))

      at : (m : ℕ) → m < suc (length s.place) → P' (j + m) (get_or (rest % n ∷ s.place) m 0)
      at zero h = subst (λ (i : ℕ). P' i (rest % n)) (sym (add-zero j)) now
      at (suc m) h =
          let e : k + m ≡ j + suc m = omega arith in
          kept (j + suc m) (get_or s.place m 0) (omega arith) (subst (λ (i : ℕ). P i (get_or s.place m 0)) e (s.each m (omega arith)))

  -- at the first dimension they are the coordinates
  pub digits_done : (P : ℕ → ℕ → Type 0) (rest k : ℕ) → x < product ns → Digits ns x P rest k → k ≤ 0 → (m : ℕ) → m < length ns → P m (get_or (coordinates ns x) m 0)
  digits_done P rest k l s z m h =
      let e : k + m ≡ m = omega arith in
      rw place' (subst (λ (i : ℕ). P i (get_or s.place m 0)) e (s.each m (omega (arith, s.turn))))
    where
      zeroth : k ≡ 0
      zeroth = omega arith

      inside' : Inside ns s.place
      inside' = rw zeroth at s.inside

      number' : x ≡ rest * product ns + cell_number ns s.place
      number' = rw zeroth at s.number

      none : (r p y : ℕ) → x ≡ r * p + y → x < p → y ≡ x
      none zero p y e h = omega arith
      none (suc r) p y e h = absurd (omega arith)

      place' : coordinates ns x ≡ s.place
      place' = ap (coordinates ns) (sym (none rest (product ns) _ number' l)) ∙ coordinates_number ns s.place inside'
