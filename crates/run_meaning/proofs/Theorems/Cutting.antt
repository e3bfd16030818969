-- Products cut at 257: the number, or 257 where it is more than 256.
use Prim.Native.Nat.{ℕ, zero, suc, ◌*◌, ◌≤◌, min}
use native.Mathlib.Nat.{mul-le-mul, min-eq_right}
use native.Mathlib.Decide.{dec_le}
use native.Mathlib.Omega.{arith}
use mathlib.Core.Path.{◌≡◌, sym, ap, ap₂, ◌∙◌}
use mathlib.Core.List.{List}
use lib.ListN.{length, get_or, drop}
use lib.Seq.{drop-cons, drop-length}
use Rattle.automaton.specs.Shape.{product}

large : (a b : ℕ) → 257 ≤ a → 1 ≤ b → min 257 (a * b) ≡ 257
large a b l m = let p = mul-le-mul l m in omega arith

swap : (a b : ℕ) → a * b ≡ b * a
swap a b = omega arith

cut_left : (a b : ℕ) → min 257 (min 257 a * b) ≡ min 257 (a * b)
cut_left a zero = let e : min 257 a * 0 ≡ a * 0 = omega arith in ap (min 257) e
cut_left a (suc b) = go (dec_le a 257)
  where
    go : Dec (a ≤ 257) → min 257 (min 257 a * suc b) ≡ min 257 (a * suc b)
    go (yes l) = ap (λ (x : ℕ). min 257 (x * suc b)) (min-eq_right l)
    go (no l) =
        let e : min 257 a ≡ 257 = omega arith in
        ap (λ (x : ℕ). min 257 (x * suc b)) e ∙ large 257 (suc b) (omega arith) (omega arith) ∙ sym (large a (suc b) (omega arith) (omega arith))

-- each factor may be cut first
pub cut_product : (a b : ℕ) → min 257 (min 257 a * min 257 b) ≡ min 257 (a * b)
cut_product a b =
    cut_left a (min 257 b) ∙ ap (min 257) (swap a (min 257 b)) ∙ cut_left b a ∙ ap (min 257) (swap b a)

-- the product of the numbers from the d-th on
pub record Counting (ns : List ℕ) (total d : ℕ) : Type 0 where
  pub low : d ≤ length ns
  pub says : total ≡ min 257 (product (drop d ns))

module _ (ns : List ℕ) where
  pub counting_start : (d : ℕ) → d ≡ length ns → Counting ns 1 d
  counting_start d e = record { low = omega arith; says = sym (ap (λ (xs : List ℕ). min 257 (product xs)) (ap (λ (k : ℕ). drop k ns) e ∙ drop-length ns)) }

  pub counting_more : (total d j : ℕ) {n m : ℕ} → Counting ns total d → d ≡ suc j → n ≡ min 257 (get_or ns j 0) → m ≡ min 257 (n * total) → Counting ns m j
  counting_more total d j {n} {m} c e en em = record {
    low = omega (arith, c.low);
    says =
        em ∙ ap₂ (λ (x y : ℕ). min 257 (x * y)) en (c.says ∙ ap (λ (k : ℕ). min 257 (product (drop k ns))) e) ∙ cut_product (get_or ns j 0) (product (drop (suc j) ns))
        ∙ ap (λ (xs : List ℕ). min 257 (product xs)) (sym (drop-cons ns j 0 (omega (arith, c.low))));
  }

  pub counting_small : (total d : ℕ) → Counting ns total d → total ≤ 257
  counting_small total d c = omega (arith, c.says)

  pub counting_done : (total d : ℕ) → Counting ns total d → d ≤ 0 → total ≡ min 257 (product ns)
  counting_done total d c l = let z : d ≡ 0 = omega arith in c.says ∙ ap (λ (k : ℕ). min 257 (product (drop k ns))) z
