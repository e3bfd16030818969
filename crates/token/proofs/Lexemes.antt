-- One token: one law for each way in which it is read, and its length.
use mathlib.Core.Path.{◌≡◌, refl, sym, ap, ◌∙◌}
use mathlib.Core.Bool.{Bool, true, false, ◌||◌}
use mathlib.Core.List.{List, [], ◌∷◌, map}
use Prim.Native.Nat.{ℕ, zero, suc, ◌+◌, ◌-◌, ◌≤◌, ◌<◌, min}
use native.Mathlib.Omega.{arith}
use native.Mathlib.Nat.{add-zero}
use lib.Dec.{eqb, ltb}
use lib.ListN.{length, take, drop, get_or, length-take, length-drop, length-map, drop_of_length-le}
use lib.Seq.{get_or-drop, drop-drop}
use borrow.Author.Tests.{ne_eqb, eqb-false, lt-ltb, le-ltb}
use Rattle.std.specs.Prelude.{if◌then◌else◌, Option, Some, None, unwrap_or}
use Rattle.std.specs.Borrow.{Bor}
use Rattle.token.specs.Bytes.{kind_of, member, fold}
use Rattle.token.specs.Lexeme.{Lexeme, find_kind, keywords, two_byte_tokens, starts, in_name, in_literal, extent, decimal, lexeme_of, unreadable, word, digits, punctuation, read_token}
use Rattle.token.specs.declared.Lexed.{Lexed}
use Rattle.token.specs.declared.bytes.ByteKind.{ByteKind}
use Rattle.token.specs.declared.bytes.ByteKind.TheVariants.{Letter, Digit, Underscore, Sign}
use Rattle.token.specs.Promises.Promises.{WalksTokens, kind_number, head_kind, too_large, of_length, spelled_of, FindsKind, word_here, digits_here, lexed_of, ReadsToken}
use Rattle.token.proofs.Heads.{drop_here, starts_as}
use Rattle.token.proofs.Extents.{extent_within, extent_first}
use Rattle.token.proofs.Numbers.{apart_eqb}
use Rattle.token.proofs.Words.{by_length, some_kind, signs_fold, too_short}

-- ---- a word

pub word_read : (s : List ℕ) (at : ℕ) {end : ℕ} (t : List (Bor (List ℕ) × ℕ)) {o : Option ℕ} {k n : ℕ} {r : Lexed} → WalksTokens (extent in_name (drop at s)) s at end → at < length s → n ≡ length (take (end - at) (drop at s)) → spelled_of t ≡ of_length n keywords → FindsKind (map fold (take (end - at) (drop at s))) (spelled_of t) o → k ≡ unwrap_or o 1 → r ≡ lexed_of (lexeme_of k n 0) at → r ≡ lexed_of (word_here (drop at s)) at
unfolding word
word_read s at {end} t {o} {k} {n} e l m g f q p =
    let size : n ≡ end - at = m ∙ length-take (end - at) (drop at s) ∙ simp length-drop (omega (arith, e.within)) in
    let here : n ≡ extent in_name (drop at s) = omega (arith, e.is, size) in
    let w = map fold (take (end - at) (drop at s)) in
    let found : unwrap_or o 1 ≡ find_kind w (of_length n keywords) 1 = f.is 1 ∙ rw g in
    let kind_is : k ≡ find_kind w keywords 1 = q ∙ found ∙ sym (by_length w n keywords 1 (length-map (take (end - at) (drop at s)) fold ∙ sym m)) in
    p ∙ rw (kind_is, ← size, here)

-- ---- a literal

module _ (s : List ℕ) (at : ℕ) {end : ℕ} (e : WalksTokens (extent in_literal (drop at s)) s at end) {k : ByteKind} (q : kind_number k ≡ head_kind (drop end s)) where
  size : k ≡ k → end - at ≡ extent in_literal (drop at s)
  size z = omega (arith, e.is)

  behind : k ≡ k → (n : ℕ) → n < 8 → starts n (drop (extent in_literal (drop at s)) (drop at s)) ≡ eqb (kind_number k) n
  behind z n h = ap (starts n) (drop-drop (extent in_literal (drop at s)) at s ∙ ap (λ (x : ℕ). drop x s) (sym e.is)) ∙ starts_as (drop end s) q n h

  pub digits_letter : {r : Lexed} → k ≡ Letter → r ≡ lexed_of unreadable at → r ≡ lexed_of (digits_here (drop at s)) at
  unfolding digits
  digits_letter d p = p ∙ simp (behind refl 3 (omega arith), d)

  pub digits_underscore : {r : Lexed} → k ≡ Underscore → r ≡ lexed_of unreadable at → r ≡ lexed_of (digits_here (drop at s)) at
  unfolding digits
  digits_underscore d p = p ∙ simp (behind refl 3 (omega arith), behind refl 5 (omega arith), d)

  module _ (c : k ≡ Letter → ⊥) (d : k ≡ Underscore → ⊥) {v : ℕ} (w : v ≡ min too_large (decimal 0 (take (end - at) (drop at s)))) where
    value : v ≡ min too_large (decimal 0 (take (extent in_literal (drop at s)) (drop at s)))
    value = w ∙ rw (size refl)

    pub digits_large : {r : Lexed} → too_large ≤ v → r ≡ lexed_of (lexeme_of 0 (end - at) 4) at → r ≡ lexed_of (digits_here (drop at s)) at
    unfolding digits
    digits_large h p =
        let l : 2147483647 < decimal 0 (take (extent in_literal (drop at s)) (drop at s)) = omega (arith, value) in
        p ∙ simp (behind refl 3 (omega arith), behind refl 5 (omega arith), apart_eqb k Letter c, apart_eqb k Underscore d, lt-ltb _ _ l, size refl)

    pub digits_value : {r : Lexed} → v < too_large → r ≡ lexed_of (lexeme_of 2 (end - at) v) at → r ≡ lexed_of (digits_here (drop at s)) at
    unfolding digits
    digits_value h p =
        let l : decimal 0 (take (extent in_literal (drop at s)) (drop at s)) ≡ v = omega (arith, value) in
        p ∙ simp (behind refl 3 (omega arith), behind refl 5 (omega arith), apart_eqb k Letter c, apart_eqb k Underscore d, l, le-ltb 2147483647 v (omega arith), size refl)

pub ruleset Digits = (digits_letter, digits_underscore, digits_large, digits_value)

-- ---- a token of signs

pub pair_read : (s : List ℕ) (at : ℕ) (t : List (Bor (List ℕ) × ℕ)) {o : Option ℕ} → spelled_of t ≡ two_byte_tokens → FindsKind (map fold (take 2 (drop at s))) (spelled_of t) o → FindsKind (take 2 (drop at s)) two_byte_tokens o
pair_read s at t g f = record { is = λ other. f.is other ∙ rw g (signs_fold (take 2 (drop at s)) two_byte_tokens other tt) }

pub pair_none : (s : List ℕ) (at : ℕ) → at < length s → length s ≤ at + 1 → FindsKind (take 2 (drop at s)) two_byte_tokens None
pair_none s at h l = record { is = λ other. sym (rw (drop_here s at h, drop_of_length-le s l) (too_short (get_or s at 0 ∷ []) two_byte_tokens other tt)) }

first : (s : List ℕ) (at : ℕ) → get_or (drop at s) 0 0 ≡ get_or s at 0
first s at = get_or-drop at s 0 0 ∙ rw (add-zero at)

-- no two-byte token has kind 0
some_pair : (w : List ℕ) {two : ℕ} → FindsKind w two_byte_tokens (Some two) → two ≡ 0 → ⊥
some_pair w e z = let p = some_kind w two_byte_tokens 1 tt (omega arith) in let q : unwrap_or (Some 0) 1 ≡ find_kind w two_byte_tokens 1 = rw (← z) (e.is 1) in omega (arith, p, q)

module _ (s : List ℕ) (at : ℕ) {r : Lexed} where
  pub sign_two : {two : ℕ} → FindsKind (take 2 (drop at s)) two_byte_tokens (Some two) → r ≡ lexed_of (lexeme_of two 2 0) at → r ≡ lexed_of (punctuation (drop at s)) at
  unfolding punctuation
  sign_two {two} e p = p ∙ simp (← e.is 0, ne_eqb two 0 (some_pair (take 2 (drop at s)) e))

  module _ (e : FindsKind (take 2 (drop at s)) two_byte_tokens None) where
    pub sign_quote : get_or s at 0 ≡ 34 → r ≡ lexed_of (lexeme_of 18 1 0) at → r ≡ lexed_of (punctuation (drop at s)) at
    unfolding punctuation
    sign_quote q p = p ∙ simp (← e.is 0, first s at, q)

    pub sign_one : (get_or s at 0 ≡ 34 → ⊥) → r ≡ lexed_of (lexeme_of (get_or s at 0) 1 0) at → r ≡ lexed_of (punctuation (drop at s)) at
    unfolding punctuation
    sign_one d p = p ∙ simp (← e.is 0, first s at, ne_eqb (get_or s at 0) 34 d)

pub ruleset Signs = (sign_two, sign_quote, sign_one)

-- ---- its length: at least one byte, and no more than there are; and if it is a stop, it has a number

abbrev Sound : List ℕ → Lexeme → Type 0
Sound s w = (1 ≤ w.len) × (w.len ≤ length s) × (1 ≤ w.kind + w.value)

either : (s : List ℕ) (t : Bool) (v w : Lexeme) → (t ≡ true → Sound s v) → (t ≡ false → Sound s w) → Sound s (if t then v else w)
either s true v w p q = p refl
either s false v w p q = q refl

two_bytes : (s : List ℕ) → (find_kind (take 2 s) two_byte_tokens 0 ≡ 0 → ⊥) → 2 ≤ length s
two_bytes [] h = absurd (h (too_short [] two_byte_tokens 0 tt))
two_bytes (a ∷ []) h = absurd (h (too_short (a ∷ []) two_byte_tokens 0 tt))
two_bytes (a ∷ b ∷ s) h = omega arith

-- a byte that is a sign is not 0
one_byte : (s : List ℕ) → starts 7 s ≡ true → 1 ≤ get_or s 0 0
unfolding starts kind_of member
one_byte [] e = let z : ◌≡◌ {A = ℕ} 0 1 = cc in omega arith
one_byte (zero ∷ s) e = let z : ◌≡◌ {A = ℕ} 0 1 = cc in omega arith
one_byte (suc b ∷ s) e = omega arith

module _ (s : List ℕ) (h : 0 < length s) where
  sound_digits : (n : ℕ) → 1 ≤ n → n ≤ length s → Sound s (digits s n)
  unfolding digits
  sound_digits n a b =
      either s (starts 3 (drop n s) || starts 5 (drop n s)) unreadable _ (λ _. (omega arith, omega arith, omega arith))
      (λ _. either s (ltb 2147483647 (decimal 0 (take n s))) (lexeme_of 0 n 4) _ (λ _. (a, b, omega arith)) (λ _. (a, b, omega arith)))

  sound_signs : starts 7 s ≡ true → Sound s (punctuation s)
  unfolding punctuation
  sound_signs g =
      either s (eqb (find_kind (take 2 s) two_byte_tokens 0) 0) (lexeme_of (if eqb (get_or s 0 0) 34 then 18 else get_or s 0 0) 1 0) _
      (λ _. (omega arith, omega arith, quote (eqb (get_or s 0 0) 34)))
      (λ e. let d = eqb-false _ _ e in (omega arith, two_bytes s d, omega arith))
    where
      quote : (t : Bool) → 1 ≤ (if t then 18 else get_or s 0 0) + 0
      quote true = omega arith
      quote false = omega (arith, one_byte s g)

  pub sound : Sound s (read_token s)
  unfolding read_token word in_name in_literal
  sound =
      either s (starts 3 s) (word s (extent in_name s)) _
      (λ e. (extent_first in_name s h (rw e), extent_within in_name s, omega (arith, some_kind (map fold (take (extent in_name s) s)) keywords 1 tt (omega arith))))
      (λ _. either s (starts 4 s) (digits s (extent in_literal s)) _
      (λ e. sound_digits (extent in_literal s) (extent_first in_literal s h e) (extent_within in_literal s))
      (λ _. either s (starts 7 s) (punctuation s) unreadable (λ e. sound_signs e) (λ _. (omega arith, omega arith, omega arith))))

-- ---- the token at a place

read : (s : List ℕ) (at : ℕ) {r : Lexed} → at < length s → r ≡ lexed_of (read_token (drop at s)) at → ReadsToken s at r
read s at h p =
    let z = sound (drop at s) (simp length-drop (omega arith)) in
    record {
      is = p;
      start = rw p;
      behind = rw p;
      onward = rw p (omega (arith, z.0));
      within = rw p (omega (arith, z.1, length-drop at s));
      told = rw p z.2;
    }

module _ (s : List ℕ) (at : ℕ) (h : at < length s) {k : ByteKind} (e : kind_number k ≡ head_kind (drop at s)) where
  head : k ≡ k → (n : ℕ) → n < 8 → starts n (drop at s) ≡ eqb (kind_number k) n
  head z = starts_as (drop at s) e

  pub reads_word : k ≡ Letter → {r : Lexed} → r ≡ lexed_of (word_here (drop at s)) at → ReadsToken s at r
  unfolding read_token
  reads_word a p = read s at h (p ∙ simp (head refl 3 (omega arith), a))

  pub reads_digits : k ≡ Digit → {r : Lexed} → r ≡ lexed_of (digits_here (drop at s)) at → ReadsToken s at r
  unfolding read_token
  reads_digits b p = read s at h (p ∙ simp (head refl 3 (omega arith), head refl 4 (omega arith), b))

  pub reads_sign : k ≡ Sign → {r : Lexed} → r ≡ lexed_of (punctuation (drop at s)) at → ReadsToken s at r
  unfolding read_token
  reads_sign c p = read s at h (p ∙ simp (head refl 3 (omega arith), head refl 4 (omega arith), head refl 7 (omega arith), c))

  pub reads_none : (k ≡ Letter → ⊥) → (k ≡ Digit → ⊥) → (k ≡ Sign → ⊥) → {r : Lexed} → r ≡ lexed_of unreadable at → ReadsToken s at r
  unfolding read_token
  reads_none a b c p = read s at h (p ∙ simp (head refl 3 (omega arith), head refl 4 (omega arith), head refl 7 (omega arith), apart_eqb k Letter a, apart_eqb k Digit b, apart_eqb k Sign c))

pub ruleset Tokens = (reads_word, reads_digits, reads_sign, reads_none)
