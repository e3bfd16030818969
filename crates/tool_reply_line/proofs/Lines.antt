-- Texts and decimal digits that are written into a line. Assumes nothing.
use Prim.Native.Nat.{ℕ, zero, suc, ◌+◌, ◌/◌, ◌%◌, ◌^◌, ◌≤◌, ◌<◌}
use native.Mathlib.Omega.{arith}
use native.Mathlib.Nat.{add-zero, pow-suc}
use native.Mathlib.Numerals.{add-one}
use mathlib.Core.Path.{◌≡◌, refl, sym, ap, ◌∙◌}
use mathlib.Core.Bool.{Bool, true, false}
use mathlib.Core.List.{List, [], ◌∷◌, ◌++◌, append_assoc, append-nil}
use lib.ListN.{length, get_or, set, take, length-append}
use lib.Seq.{take-suc-set, take-suc, take_all}
use lib.Dec.{ltb}
use borrow.Author.Tests.{eq-eqb, ne_eqb, lt-ltb, le-ltb, ltb-true, ltb-false}
use Rattle.token.specs.Bytes.{as_bytes}
use Rattle.program.specs.Refusal.{refusal}
use Rattle.grammar.specs.Answer.{answer_line}
use Rattle.grammar.specs.Decimal.{digits_of}
use Rattle.tool_reply_line.specs.Promises.Line.{item, refused_text, spelled_line, LineWrote, Digits, Says}

-- one text behind another
pub and_then : {old new last a b : List ℕ} {at m r : ℕ} → LineWrote old at a new m → LineWrote new m b last r → LineWrote old at (a ++ b) last r
and_then {old} {new} {last} {a} {b} {at} {m} {r} x y =
    record { is = y.is ∙ rw x.is (append_assoc (take at old) a b); end = let p = x.end in let q = y.end in simp length-append (omega arith) }

pub wrote_byte : (old : List ℕ) (at b : ℕ) → at < length old → LineWrote old at (b ∷ []) (set old at b) (at + 1)
wrote_byte old at b l = record { is = rw (add-one at) (take-suc-set old at b l); end = refl }

-- ---- digits

-- a number of one digit, and of more
pub one_digit : (most n : ℕ) → n < 10 → digits_of most n ≡ (48 + n) ∷ []
unfolding digits_of
one_digit zero n h = refl
one_digit (suc most) n h = ap (λ (t : Bool). elim t [ true ↦ (48 + n) ∷ [] | false ↦ digits_of most (n / 10) ++ (48 + n % 10) ∷ [] ]) (lt-ltb n 10 h)

pub more_digits : (most n : ℕ) → 10 ≤ n → digits_of (suc most) n ≡ digits_of most (n / 10) ++ (48 + n % 10) ∷ []
unfolding digits_of
more_digits most n h = ap (λ (t : Bool). elim t [ true ↦ (48 + n) ∷ [] | false ↦ digits_of most (n / 10) ++ (48 + n % 10) ∷ [] ]) (le-ltb n 10 h)

-- there are at most so many
pub digits_length : (most n : ℕ) → length (digits_of most n) ≤ most + 1
unfolding digits_of
digits_length zero n = omega arith
digits_length (suc most) n = by (ltb n 10) refl (digits_length most (n / 10))
  where
    by : (t : Bool) → ltb n 10 ≡ t → length (digits_of most (n / 10)) ≤ most + 1 → length (digits_of (suc most) n) ≤ suc most + 1
    by true e h = let q = ap length (one_digit (suc most) n (ltb-true n 10 e)) in omega arith
    by false e h = let q = simp length-append at (ap length (more_digits most n (ltb-false n 10 e))) in omega arith

pub wrote_one : {old new : List ℕ} {at n r : ℕ} → n < 10 → LineWrote old at ((48 + n) ∷ []) new r → Digits old at n new r
wrote_one {n = n} h x most l = rw (one_digit most n h) x

pub wrote_last : {old mid new : List ℕ} {at n m r : ℕ} → 10 ≤ n → Digits old at (n / 10) mid m → LineWrote mid m ((48 + n % 10) ∷ []) new r → Digits old at n new r
wrote_last h x y zero l = absurd (omega arith)
wrote_last {n = n} h x y (suc most) l =
    let q : suc most + 1 ≡ suc (most + 1) = omega arith in
    let e = ap (λ (k : ℕ). 10 ^ k) q ∙ pow-suc 10 (most + 1) in
    rw (more_digits most n h) (and_then (x most (omega arith)) y)

-- of a 32-bit number there are at most ten
pub digits_end : {old new : List ℕ} {at n r : ℕ} → n < 2 ^ 32 → Digits old at n new r → r ≤ at + 10
digits_end {n = n} h x = omega (arith, (x 9 (omega arith)).end, digits_length 9 n)

-- ---- a space and a number

pub wrote_item : {old mid new : List ℕ} {at n m r : ℕ} → n < 2 ^ 32 → LineWrote old at (as_bytes " ") mid m → Digits mid m n new r → LineWrote old at (item n) new r
wrote_item h x y = and_then x (y 9 (omega arith))

pub item_end : (n : ℕ) {old new : List ℕ} {at r : ℕ} → LineWrote old at (item n) new r → r ≤ at + 11
item_end n x = omega (arith, x.end, digits_length 9 n)

-- ---- the line

pub wrote_refused : {old a b c new : List ℕ} {number place i j k r : ℕ} → number < 2 ^ 32 → place < 2 ^ 32 → LineWrote old 0 (as_bytes "refused ") a i → Digits a i number b j → LineWrote b j (as_bytes " at ") c k → Digits c k place new r → LineWrote old 0 (refused_text (refusal number place)) new r
wrote_refused f g x y z u = and_then (and_then (and_then x (y 9 (omega arith))) z) (u 9 (omega arith))

pub refused_end : (number place : ℕ) {old new : List ℕ} {r : ℕ} → LineWrote old 0 (refused_text (refusal number place)) new r → r ≤ 32
refused_end number place x = omega (arith, simp length-append at x.end, digits_length 9 number, digits_length 9 place)

module _ (number place : ℕ) where
  pub says_accepted : {old new : List ℕ} {r : ℕ} → number ≡ 0 → LineWrote old 0 (as_bytes "accepted\n") new r → Says 33 (answer_line (refusal number place)) new r
  unfolding answer_line
  says_accepted e x = let p = x.end in record { is = rw (eq-eqb number 0 e) x.is; within = omega arith }

  pub says_refused : {old mid new : List ℕ} {m r : ℕ} → (number ≡ 0 → ⊥) → LineWrote old 0 (refused_text (refusal number place)) mid m → LineWrote mid m (as_bytes "\n") new r → Says 33 (answer_line (refusal number place)) new r
  unfolding answer_line
  says_refused e x y =
      record { is = rw (ne_eqb number 0 e) (and_then x y).is; within = omega (arith, refused_end number place x, y.end) }

  module _ (stands start len : ℕ) where
    pub spells_accepted : {old new : List ℕ} {r : ℕ} → number ≡ 0 → LineWrote old 0 (as_bytes "accepted\n") new r → Says 66 (spelled_line (refusal number place) stands start len) new r
    unfolding spelled_line
    spells_accepted e x = let p = x.end in record { is = rw (eq-eqb number 0 e) x.is; within = omega arith }

    pub spells_refused : {old a b c d new : List ℕ} {i j k l r : ℕ} → (number ≡ 0 → ⊥) → LineWrote old 0 (refused_text (refusal number place)) a i → LineWrote a i (item stands) b j → LineWrote b j (item start) c k → LineWrote c k (item len) d l → LineWrote d l (as_bytes "\n") new r → Says 66 (spelled_line (refusal number place) stands start len) new r
    unfolding spelled_line
    spells_refused e x y z u v =
        record {
          is = rw (ne_eqb number 0 e) (and_then (and_then (and_then (and_then x y) z) u) v).is;
          within = omega (arith, refused_end number place x, item_end stands y, item_end start z, item_end len u, v.end);
        }
