-- What stands at the head of what is left of a source.
use mathlib.Core.Path.{◌≡◌, refl, ap, sym, ◌∙◌}
use mathlib.Core.List.{List, [], ◌∷◌}
use Prim.Native.Nat.{ℕ, ◌+◌, ◌≤◌, ◌<◌}
use native.Mathlib.Omega.{arith}
use native.Mathlib.Numerals.{add-one}
use lib.ListN.{length, drop, get_or, length-drop, drop_of_length-le}
use lib.Seq.{drop-cons}
use lib.Dec.{eqb}
use borrow.Author.Tests.{ne_eqb}
use Rattle.token.specs.Bytes.{kind_of}
use Rattle.token.specs.Lexeme.{starts}
use Rattle.token.specs.Promises.Promises.{WalksTokens, head_kind}

-- what stands at a position, and what stands behind it
pub drop_here : (s : List ℕ) (i : ℕ) → i < length s → drop i s ≡ get_or s i 0 ∷ drop (i + 1) s
drop_here s i h = rw (add-one, drop-cons s i 0)

-- a walk over no more bytes than there are
pub walks : (s : List ℕ) (at : ℕ) {n r : ℕ} → n ≤ length (drop at s) → r ≡ at + n → WalksTokens n s at r
walks s at h e = record { is = e; within = omega (arith, length-drop at s) }

-- the kind at a position, inside and past the end
pub head_inside : (s : List ℕ) (i : ℕ) {k : ℕ} → i < length s → k ≡ kind_of (get_or s i 0) → k ≡ head_kind (drop i s)
unfolding head_kind
head_inside s i h e = e ∙ sym (ap head_kind (drop_here s i h))

pub head_past : (s : List ℕ) (i : ℕ) → length s ≤ i → 8 ≡ head_kind (drop i s)
unfolding head_kind
head_past s i h = sym (ap head_kind (drop_of_length-le s h))

-- a test for a kind below 8 is a test of the kind at the head
starts_is : (s : List ℕ) (n : ℕ) → n < 8 → starts n s ≡ eqb (head_kind s) n
unfolding starts head_kind
starts_is [] n h = sym (ne_eqb 8 n (λ e. omega arith))
starts_is (b ∷ bs) n h = refl

pub starts_as : (s : List ℕ) {k : ℕ} → k ≡ head_kind s → (n : ℕ) → n < 8 → starts n s ≡ eqb k n
starts_as s e n h = starts_is s n h ∙ ap (λ (x : ℕ). eqb x n) (sym e)
