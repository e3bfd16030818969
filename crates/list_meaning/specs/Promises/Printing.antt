-- Decimal digits: the digits printed for a number are a literal that is read as that number.
use Prim.Native.Nat.{ℕ, zero, suc, ◌+◌, ◌-◌, ◌*◌, ◌/◌, ◌%◌, ◌^◌, ◌≤◌, ◌<◌}
use Rattle.std.proofs.Common.{zero-add, pow-suc, not-suc-le-zero, arith, sym, ◌∙◌, inl, inr, eqb-true, ne_eqb, le-ltb, ltb-true}
use Rattle.std.specs.Prelude.{◌≡◌, refl, ◌⊎◌, Bool, false, ◌&&◌, ◌||◌, List, [], ◌∷◌, ◌++◌, length, eqb, ltb, if◌then◌else◌}
use Rattle.std.proofs.Math.Path.{ap}
use Rattle.std.proofs.Math.Bool.{true}
use Rattle.std.proofs.Math.Seq.{take-append_seam, drop-append_seam}
use Rattle.value.proofs.Theorems.Laws.{and_both}
use Rattle.automaton.specs.Promises.ListedLaws.{last_or_below}
use Rattle.token.specs.Bytes.{kind_of}
use Rattle.token.specs.Lexeme.{starts, in_literal, extent, decimal, digits, lexeme_of}
use Rattle.grammar.specs.Decimal.{digits_of}
use Rattle.list_meaning.specs.Text.{literal_at}

-- ---- a rule for all numbers below a bound, by one computed test

all_below : (ℕ → Bool) → ℕ → Bool
all_below f zero = true
all_below f (suc n) = all_below f n && f n

below_holds : (f : ℕ → Bool) (n : ℕ) → all_below f n ≡ true → (d : ℕ) → d < n → f d ≡ true
unfolding all_below
below_holds f zero e d l = absurd (not-suc-le-zero l)
below_holds f (suc n) e d l = by (below_holds f n (and_both (all_below f n) (f n) e).0 d) (last_or_below l)
  where
    by : (d < n → f d ≡ true) → (d ≡ n) ⊎ (d < n) → f d ≡ true
    by below (inl q) = ap f q ∙ (and_both (all_below f n) (f n) e).1
    by below (inr q) = below q

-- ---- digits

-- a byte is a digit
abbrev pub Digit : ℕ → Type 0
Digit b = (d : ℕ) × (d < 10) × (b ≡ 48 + d)

-- all bytes are digits
abbrev pub PrintedDigits : List ℕ → Type 0
PrintedDigits [] = Unit {0}
PrintedDigits (b ∷ bs) = Digit b × PrintedDigits bs

digit_test : ℕ → Bool
digit_test d = eqb (kind_of (48 + d)) 4

digit_tests : all_below digit_test 10 ≡ true
unfolding all_below digit_test kind_of
digit_tests = refl

pub digit_kind : (b : ℕ) → Digit b → kind_of b ≡ 4
unfolding digit_test
digit_kind b (d, l, e) = ap kind_of e ∙ eqb-true (kind_of (48 + d)) 4 (below_holds digit_test 10 digit_tests d l)

pub digits_append : (xs ys : List ℕ) → PrintedDigits xs → PrintedDigits ys → PrintedDigits (xs ++ ys)
digits_append [] ys p q = q
digits_append (x ∷ xs) ys p q = (p.0, digits_append xs ys p.1 q)

-- ---- the value

decimal_last : (m : ℕ) (xs : List ℕ) (d : ℕ) → d < 10 → decimal m (xs ++ (48 + d) ∷ []) ≡ decimal m xs * 10 + d
unfolding decimal
decimal_last m [] d l =
    let n : eqb (48 + d) 95 ≡ false = ne_eqb (48 + d) 95 (λ q. let w = q in omega arith) in
    rw n (omega arith)
decimal_last m (x ∷ xs) d l = decimal_last (if eqb x 95 then m else m * 10 + (x - 48)) xs d l

-- xs are the digits of a literal with the value n
pub record Literal (xs : List ℕ) (n : ℕ) : Type 0 where
  pub first : ℕ
  pub more : List ℕ
  pub is : xs ≡ first ∷ more
  pub digit : Digit first
  pub digits : PrintedDigits more
  pub value : decimal 0 xs ≡ n

one_literal : (n : ℕ) → n < 10 → Literal ((48 + n) ∷ []) n
unfolding decimal
one_literal n l = record { first = 48 + n; more = []; is = refl; digit = (n, l, refl); digits = tt; value = decimal_last 0 [] n l ∙ zero-add n }

more_literal : (xs : List ℕ) (n : ℕ) → Literal xs (n / 10) → Literal (xs ++ (48 + n % 10) ∷ []) n
more_literal xs n h =
    record {
      first = h.first;
      more = h.more ++ (48 + n % 10) ∷ [];
      is = ap (λ (l : List ℕ). l ++ (48 + n % 10) ∷ []) h.is;
      digit = h.digit;
      digits = digits_append h.more ((48 + n % 10) ∷ []) h.digits ((n % 10, omega arith, refl), tt);
      value = decimal_last 0 xs (n % 10) (omega arith) ∙ (let e = h.value in omega arith);
    }

-- the digits printed for a number are a literal of its value
pub print_literal : (most n : ℕ) → n < 10 ^ (most + 1) → Literal (digits_of most n) n
unfolding digits_of
print_literal zero n l = one_literal n (omega arith)
print_literal (suc most) n l = by (ltb n 10) refl (print_literal most (n / 10))
  where
    by : (t : Bool) → ltb n 10 ≡ t → (n / 10 < 10 ^ (most + 1) → Literal (digits_of most (n / 10)) (n / 10))
        → Literal (elim t [ true ↦ (48 + n) ∷ [] | false ↦ digits_of most (n / 10) ++ (48 + n % 10) ∷ [] ]) n
    by true e h = one_literal n (ltb-true n 10 e)
    by false e h =
        let q : suc most + 1 ≡ suc (most + 1) = omega arith in
        let p = ap (λ (k : ℕ). 10 ^ k) q ∙ pow-suc 10 (most + 1) in
        more_literal (digits_of most (n / 10)) n (h (omega arith))

-- ---- reading it

-- a text that does not go on a literal
pub record Apart (s : List ℕ) : Type 0 where
  pub letter : starts 3 s ≡ false
  pub digit : starts 4 s ≡ false
  pub underscore : starts 5 s ≡ false

-- whether a byte goes on a literal
goes_on : ℕ → List ℕ → Bool
goes_on b bs = in_literal (b ∷ bs) || eqb (kind_of b) 5 && in_literal bs

extent_at : (b : ℕ) (bs : List ℕ) (t : Bool) → goes_on b bs ≡ t → extent in_literal (b ∷ bs) ≡ elim t [ true ↦ suc (extent in_literal bs) | false ↦ 0 ]
unfolding extent goes_on
extent_at b bs t e = ap (λ (t : Bool). elim t [ true ↦ suc (extent in_literal bs) | false ↦ 0 ]) e

stops : (b : ℕ) (bs : List ℕ) → Apart (b ∷ bs) → goes_on b bs ≡ false
unfolding goes_on in_literal starts
stops b bs a = rw (a.digit, a.underscore)

extent_none : (s : List ℕ) → Apart s → extent in_literal s ≡ 0
unfolding extent
extent_none [] a = refl
extent_none (b ∷ bs) a = extent_at b bs false (stops b bs a)

pub extent_digits : (xs s : List ℕ) → PrintedDigits xs → Apart s → extent in_literal (xs ++ s) ≡ length xs
extent_digits [] s p a = extent_none s a
extent_digits (x ∷ xs) s p a =
    let e : goes_on x (xs ++ s) ≡ true = unfold goes_on in unfold in_literal in unfold starts in rw (digit_kind x p.0) in
    extent_at x (xs ++ s) true e ∙ ap suc (extent_digits xs s p.1 a)

digits_at : (x : ℕ) (xs s : List ℕ) → Apart s → (n : ℕ) → decimal 0 (x ∷ xs) ≡ n → n ≤ 2147483647
    → digits (x ∷ xs ++ s) (suc (length xs)) ≡ lexeme_of 2 (suc (length xs)) n
unfolding digits
digits_at x xs s a n e l =
    let small : ltb 2147483647 n ≡ false = le-ltb 2147483647 n l in
    rw (drop-append_seam xs s, take-append_seam xs s, a.letter, a.underscore, e, small)

read_at : (x : ℕ) (xs s : List ℕ) → Digit x → PrintedDigits xs → Apart s → (n : ℕ) → decimal 0 (x ∷ xs) ≡ n → n ≤ 2147483647
    → literal_at (x ∷ xs ++ s) ≡ lexeme_of 2 (suc (length xs)) n
read_at x xs s p q a n e l =
    ap (digits (x ∷ xs ++ s)) (extent_digits (x ∷ xs) s (p, q) a) ∙ digits_at x xs s a n e l

-- a literal at the head of a text is read as such
pub read_literal : (xs : List ℕ) (n : ℕ) (s : List ℕ) → Literal xs n → n ≤ 2147483647 → Apart s → literal_at (xs ++ s) ≡ lexeme_of 2 (length xs) n
read_literal xs n s h l a =
    ap (λ (ys : List ℕ). literal_at (ys ++ s)) h.is ∙ read_at h.first h.more s h.digit h.digits a n (ap (decimal 0) (sym h.is) ∙ h.value) l
    ∙ ap (λ (ys : List ℕ). lexeme_of 2 (length ys) n) (sym h.is)
