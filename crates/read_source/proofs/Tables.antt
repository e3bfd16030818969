-- The kinds of tokens in a table, the values of names after acceptance, and zeros. Assumes nothing.
use Prim.Native.Nat.{ℕ, zero, suc, ◌+◌, ◌-◌, ◌*◌, ◌≤◌, ◌<◌}
use native.Mathlib.Omega.{arith}
use native.Mathlib.Numerals.{add-one}
use mathlib.Core.Path.{◌≡◌, refl, sym, ap, ◌∙◌}
use mathlib.Core.List.{List}
use mathlib.Core.Bool.{Bool, true, false, ◌||◌}
use lib.ListN.{length, get_or, length-set}
use lib.Dec.{eqb, ltb}
use borrow.Author.Tests.{eq-eqb, ne_eqb, ltb-true, ltb-false}
use Rattle.value.proofs.Theorems.Truth.{or_second}
use Rattle.names.specs.declared.Entry.{Entry}
use Rattle.names.specs.Names.{entry_at, with_value}
use Rattle.program.specs.Table.{word_at}
use Rattle.grammar.specs.Source.{has_kind, settled_value, settled}

-- ---- tokens of a kind

module _ (kind : ℕ) (words : List ℕ) where
  -- word 0 of a token, at its position
  first_word : (n i : ℕ) → n ≡ i → word_at words n 0 ≡ get_or words (4 * i) 0
  first_word n i e = ap (λ (j : ℕ). get_or words j 0) (omega arith)

  -- one of n tokens is of the kind
  pub seen : (i n : ℕ) → i < n → get_or words (4 * i) 0 ≡ kind → true ≡ has_kind kind words n
  unfolding has_kind
  seen i zero l e = absurd (omega arith)
  seen i (suc n) l e = by (λ h. seen i n h e) (ltb i n) refl
    where
      by : (i < n → true ≡ has_kind kind words n) → (t : Bool) → ltb i n ≡ t → true ≡ (has_kind kind words n || eqb (word_at words n 0) kind)
      by more true d = rw (← more (ltb-true i n d)) refl
      by more false d = let k = ltb-false i n d in sym (or_second (has_kind kind words n) (eq-eqb _ _ (first_word n i (omega arith) ∙ e)))

  -- none of the first i tokens is, nor the next one
  pub unseen_next : (i : ℕ) → false ≡ has_kind kind words i → (get_or words (4 * i) 0 ≡ kind → ⊥) → false ≡ has_kind kind words (i + 1)
  unfolding has_kind
  unseen_next i h d = rw (add-one i, ← h, ne_eqb _ _ (λ q. d (sym (first_word i i refl) ∙ q))) refl

-- ---- values after acceptance

-- the first i names have them
pub record Settled (words old : List ℕ) (i : ℕ) (new : List ℕ) : Type 0 where
  pub is : new ≡ settled words old i
  pub long : length new ≡ length old

pub settled_start : (words old : List ℕ) → Settled words old 0 old
unfolding settled
settled_start words old = record { is = refl; long = refl }

pub settled_next : (words old : List ℕ) (i : ℕ) (new : List ℕ) → Settled words old i new → {e : Entry} → e ≡ entry_at new i → {w : ℕ} → w ≡ settled_value words e → {after : List ℕ} → after ≡ with_value new i w
    → Settled words old (i + 1) after
unfolding settled
settled_next words old i new h {e} q {w} p {after} a = record { is = a ∙ rw (p, q, h.is) (sym (ap (settled words old) (add-one i))); long = ap length a ∙ length-set new (4 * i + 3) w ∙ h.long }
