-- Text that is put into a room: one text behind another, digits, values, and texts with separators.
use Prim.Native.Nat.{ℕ, zero, suc, ◌+◌, ◌-◌, ◌*◌, ◌/◌, ◌%◌, ◌^◌, ◌≤◌, ◌<◌}
use native.Mathlib.Nat.{add-zero, pow-suc, mul-suc}
use native.Mathlib.Numerals.{add-one}
use native.Mathlib.Omega.{arith}
use mathlib.Core.Path.{◌≡◌, refl, sym, ap, ap₂, ◌∙◌, subst}
use mathlib.Core.Bool.{Bool, true}
use mathlib.Core.List.{List, [], ◌∷◌, ◌++◌, map, append_assoc}
use mathlib.Core.Option.{Option, some, none}
use lib.ListN.{length, get_or, set, take, length-append, length-map}
use lib.Seq.{sets, take_all, take-suc, length-take-le}
use lib.Dec.{eqb}
use lib.IntN.{ℤ, pos, negsuc}
use mir.Syntax.{w32}
use mir.Val.{SFits, to_z, of_z}
use mir.Facts.{to_z-of_z}
use borrow.Author.Tests.{lt-ltb, le-ltb, le-leb}
use Rattle.value.specs.Number.{in_range}
use Rattle.value.specs.Worked.{encode_of, decode_of}
use Rattle.value.proofs.Theorems.Laws.{decode_encode, sub_lt}
use Rattle.grammar.specs.Decimal.{digits_of}
use Rattle.tool_reply_line.proofs.Lines.{one_digit, more_digits, digits_length}
use Rattle.list_meaning.specs.Writing.{print_number, print_value, print_field, listed, shown}
use Rattle.list_meaning.specs.Promises.Showing.{length_shown, field_shown, shown_at}
use Rattle.list_writer.specs.Promises.Printing.{Puts, PutsDigits, separator}

-- ---- one text behind another

pub puts_nothing : (old : List ℕ) (at : ℕ) → Puts old at [] old at
puts_nothing old at = record { is = refl; end = sym (add-zero at) }

sets_append : (a b old : List ℕ) (at : ℕ) → sets (sets old at a) (at + length a) b ≡ sets old at (a ++ b)
sets_append [] b old at = ap (λ (k : ℕ). sets old k b) (add-zero at)
sets_append (x ∷ a) b old at =
    let e : at + suc (length a) ≡ suc at + length a = omega arith in
    ap (λ (k : ℕ). sets (sets (set old at x) (suc at) a) k b) e ∙ sets_append a b (set old at x) (suc at)

pub and_then : {old mid new a b : List ℕ} {at m r : ℕ} → Puts old at a mid m → Puts mid m b new r → Puts old at (a ++ b) new r
and_then {old} {mid} {new} {a} {b} {at} {m} {r} x y =
    record {
      is = y.is ∙ ap₂ (λ (l : List ℕ) (k : ℕ). sets l k b) x.is x.end ∙ sets_append a b old at;
      end = omega (arith, length-append a b, x.end, y.end);
    }

-- ---- digits

pub one_put : {old new : List ℕ} {at n r : ℕ} → n < 10 → Puts old at ((48 + n) ∷ []) new r → PutsDigits old at n new r
one_put {n = n} h x = record { puts = λ most l. rw (one_digit most n h) x }

more_by : (most : ℕ) {old mid new : List ℕ} {at n m r : ℕ} → 10 ≤ n → PutsDigits old at (n / 10) mid m → Puts mid m ((48 + n % 10) ∷ []) new r → n < 10 ^ (most + 1) → Puts old at (digits_of most n) new r
more_by zero h x y l = absurd (omega arith)
more_by (suc most) {n = n} h x y l =
    let q : suc most + 1 ≡ suc (most + 1) = omega arith in
    let e = ap (λ (k : ℕ). 10 ^ k) q ∙ pow-suc 10 (most + 1) in
    rw (more_digits most n h) (and_then (x.puts most (omega arith)) y)

pub more_put : {old mid new : List ℕ} {at n m r : ℕ} → 10 ≤ n → PutsDigits old at (n / 10) mid m → Puts mid m ((48 + n % 10) ∷ []) new r → PutsDigits old at n new r
more_put h x y = record { puts = λ most l. more_by most h x y l }

-- a 32-bit number
pub number_put : {old new : List ℕ} {at n r : ℕ} → n < 2 ^ 32 → PutsDigits old at n new r → Puts old at (print_number n) new r
number_put h x = x.puts 9 (omega arith)

-- ---- values

pub word_plain : {old new : List ℕ} {at w r : ℕ} → w < 2147483648 → Puts old at (print_number w) new r → Puts old at (print_value (decode_of w)) new r
word_plain {w = w} h x = rw (lt-ltb w 2147483648 h) x

pub word_signed : {old mid new : List ℕ} {at w m r : ℕ} → 2147483648 ≤ w → w < 2 ^ 32 → Puts old at (45 ∷ []) mid m → Puts mid m (print_number (4294967295 - w + 1)) new r → Puts old at (print_value (decode_of w)) new r
word_signed {old} {mid} {new} {at} {w} {m} {r} h l x y =
    let e : 4294967295 - w + 1 ≡ suc (4294967296 - suc w) = omega arith in
    let z : Puts mid m (print_number (suc (4294967296 - suc w))) new r = subst (λ (k : ℕ). Puts mid m (print_number k) new r) e y in
    rw (le-ltb w 2147483648 h, sub_lt w 4294967296 (omega arith)) (and_then x z)

small_range : (z : ℤ) → SFits w32 z → in_range z ≡ true
small_range (pos n) f = le-leb n 2147483647 (let x = f.sfits in omega arith)
small_range (negsuc n) f = rw (le-leb n 2147483647 (let x = f.sfits in omega arith))

pub value_put : {old new : List ℕ} {at e r : ℕ} {z : ℤ} → SFits w32 z → e ≡ encode_of (to_z w32 (of_z w32 z)) → Puts old at (print_value (decode_of e)) new r → Puts old at (print_value z) new r
value_put {old} {new} {at} {e} {r} {z} f q = subst (λ (y : ℤ). Puts old at (print_value y) new r) (ap decode_of (q ∙ ap encode_of (to_z-of_z f)) ∙ decode_encode z (small_range z f))

-- as the machine reads it
pub field_read : {old new : List ℕ} {at r : ℕ} (flag : Bool) (z : ℤ) → SFits w32 z → Puts old at (print_field (field_shown flag (to_z w32 (of_z w32 z)))) new r → Puts old at (print_field (field_shown flag z)) new r
field_read {old} {new} {at} {r} flag z f = subst (λ (y : ℤ). Puts old at (print_field (field_shown flag y)) new r) (to_z-of_z f)

-- at most so many bytes
pub value_length : (z : ℤ) → length (print_value z) ≤ 11
value_length (pos n) = omega (arith, digits_length 9 n)
value_length (negsuc n) = omega (arith, digits_length 9 (suc n))

pub field_length : (v : Option ℤ) → length (print_field v) ≤ 11
field_length none = omega arith
field_length (some z) = value_length z

-- ---- texts with separators

pub separator_length : (k : ℕ) → length (separator k) ≤ 2
separator_length zero = omega arith
separator_length (suc k) = omega arith

listed_last : (xs : List (List ℕ)) (x : List ℕ) → listed (xs ++ x ∷ []) ≡ listed xs ++ separator (length xs) ++ x
unfolding listed
listed_last [] x = refl
listed_last (a ∷ []) x = sym (append_assoc a _ _)
listed_last (a ∷ b ∷ xs) x =
    ap (λ (t : List ℕ). a ++ 44 ∷ 32 ∷ t) (listed_last (b ∷ xs) x) ∙ sym (append_assoc a (44 ∷ 32 ∷ listed (b ∷ xs) ++ separator (suc (length xs))) x)
    ∙ ap (λ (t : List ℕ). t ++ x) (sym (append_assoc a (44 ∷ 32 ∷ listed (b ∷ xs)) (separator (suc (length xs)))))

map_last : {A : Type 0} (f : A → List ℕ) (xs : List A) (x : A) → map f (xs ++ x ∷ []) ≡ map f xs ++ f x ∷ []
map_last f [] x = refl
map_last f (a ∷ xs) x = ap (λ (t : List (List ℕ)). f a ∷ t) (map_last f xs x)

listed_none : listed [] ≡ []
unfolding listed
listed_none = refl

length_cons : (most : ℕ) {A : Type 0} (f : A → List ℕ) → ((a : A) → length (f a) ≤ most) → (a : A) (xs : List A) → length (listed (map f (a ∷ xs))) ≤ most + (most + 2) * length xs
unfolding listed
length_cons most f h a [] = omega (arith, h a)
length_cons most f h a (b ∷ xs) =
    omega (arith, h a, length_cons most f h b xs, mul-suc (most + 2) (length xs), length-append (f a) (44 ∷ 32 ∷ listed (map f (b ∷ xs))))

pub listed_length : (most : ℕ) {A : Type 0} (f : A → List ℕ) → ((a : A) → length (f a) ≤ most) → (xs : List A) → length (listed (map f xs)) ≤ (most + 2) * length xs
listed_length most f h [] = omega (arith, ap length listed_none)
listed_length most f h (a ∷ xs) = omega (arith, length_cons most f h a xs, mul-suc (most + 2) (length xs))

module _ {A : Type 0} (f : A → List ℕ) (d : A) (xs : List A) where
  listed_more : (k : ℕ) → k < length xs → listed (map f (take (k + 1) xs)) ≡ listed (map f (take k xs)) ++ separator k ++ f (get_or xs k d)
  listed_more k l =
      ap (λ (n : ℕ). listed (map f (take n xs))) (add-one k) ∙ ap (λ (t : List A). listed (map f t)) (take-suc xs k d l) ∙ ap listed (map_last f (take k xs) (get_or xs k d))
      ∙ listed_last (map f (take k xs)) (f (get_or xs k d))
      ∙ ap (λ (n : ℕ). listed (map f (take k xs)) ++ separator n ++ f (get_or xs k d)) (length-map (take k xs) f ∙ length-take-le k xs (omega arith))

  -- how far the first k of them go
  pub listed_bound : (most : ℕ) → ((a : A) → length (f a) ≤ most) → {old new : List ℕ} {at r k : ℕ} → k ≤ length xs → Puts old at (listed (map f (take k xs))) new r → r ≤ at + (most + 2) * k
  listed_bound most h {k = k} l x = omega (arith, x.end, listed_length most f h (take k xs), ap (λ (n : ℕ). (most + 2) * n) (length-take-le k xs l))

  pub listed_start : (old : List ℕ) (at : ℕ) → Puts old at (listed (map f (take 0 xs))) old at
  listed_start old at = rw listed_none (puts_nothing old at)

  pub listed_again : {old mid more new : List ℕ} {at here m r : ℕ} (k : ℕ) → k < length xs → Puts old at (listed (map f (take k xs))) mid here → Puts mid here (separator k) more m → Puts more m (f (get_or xs k d)) new r
      → Puts old at (listed (map f (take (k + 1) xs))) new r
  listed_again {old} {mid} {more} {new} {at} {here} {m} {r} k l x y z = subst (λ (t : List ℕ). Puts old at t new r) (sym (listed_more k l)) (and_then (and_then x y) z)

  pub listed_end : {old new : List ℕ} {at r : ℕ} (k : ℕ) → length xs ≤ k → Puts old at (listed (map f (take k xs))) new r → Puts old at (listed (map f xs)) new r
  listed_end {old} {new} {at} {r} k l x = subst (λ (t : List A). Puts old at (listed (map f t)) new r) (take_all k xs l) x

-- ---- the values of a cell

module _ (flag : ℕ) (vs : List ℤ) where
  pub fields_start : (old : List ℕ) (at : ℕ) → Puts old at (listed (map print_field (take 0 (shown (some flag) vs)))) old at
  fields_start = listed_start print_field none (shown (some flag) vs)

  pub fields_bound : {old new : List ℕ} {at r k : ℕ} → k ≤ length vs → Puts old at (listed (map print_field (take k (shown (some flag) vs)))) new r → r ≤ at + 13 * k
  fields_bound l x = listed_bound print_field none (shown (some flag) vs) 11 field_length (omega (arith, length_shown (some flag) vs)) x

  pub fields_again : {old mid more new : List ℕ} {at here m r : ℕ} (k : ℕ) → k < length vs → Puts old at (listed (map print_field (take k (shown (some flag) vs)))) mid here → Puts mid here (separator k) more m
      → Puts more m (print_field (field_shown (eqb k flag) (get_or vs k (pos 0)))) new r → Puts old at (listed (map print_field (take (k + 1) (shown (some flag) vs)))) new r
  fields_again {more = more} {new = new} {m = m} {r = r} k l x y z =
      listed_again print_field none (shown (some flag) vs) k (omega (arith, length_shown (some flag) vs)) x y (subst (λ (v : Option ℤ). Puts more m (print_field v) new r) (sym (shown_at flag vs k l)) z)

  pub fields_end : {old new : List ℕ} {at r : ℕ} (k : ℕ) → length vs ≤ k → Puts old at (listed (map print_field (take k (shown (some flag) vs)))) new r → Puts old at (listed (map print_field (shown (some flag) vs))) new r
  fields_end k l x = listed_end print_field none (shown (some flag) vs) k (omega (arith, length_shown (some flag) vs)) x
