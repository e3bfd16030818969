-- Ranges and words: one law for each way through the code. Assumes nothing.
use Prim.Native.Nat.{ℕ, ◌≤◌, ◌<◌}
use mathlib.Core.Path.{◌≡◌, sym, ap, ◌∙◌}
use mathlib.Core.Bool.{Bool}
use lib.IntN.{ℤ, pos}
use borrow.Author.Tests.{ne_eqb, le-leb, lt-leb}
use Rattle.value.specs.Number.{within}
use Rattle.value.specs.Worked.{value, encode_of, decode_of, span_of}
use Rattle.value.proofs.Theorems.Laws.{encode_decode}
use Rattle.value.specs.declared.Value.{Value}
use Rattle.grammar.specs.Constants.{range_rule}

-- ---- words and sizes

same_value : {v : Value} (w : ℕ) → v ≡ value (decode_of w) → v.n ≡ decode_of w
same_value w p = ap (λ (x : Value). x.n) p

-- the word of the value that a word stands for
pub word_of : (x : ℕ) {z : ℤ} → z ≡ decode_of x → x < 4294967296 → encode_of z ≡ x
word_of x e h = ap encode_of e ∙ encode_decode x h

pub size_test : (x : ℕ) {v : Value} {t : Bool} → v ≡ value (decode_of x) → t ≡ within (pos 1) (pos 1024) v.n → within (pos 1) (pos 1024) (decode_of x) ≡ t
size_test x p q = ap (within (pos 1) (pos 1024)) (sym (same_value x p)) ∙ sym q

-- ---- ranges

module _ (low high most : ℕ) {v u : Value} {span : ℕ} (p : v ≡ value (decode_of low)) (q : u ≡ value (decode_of high)) (e : span ≡ span_of v.n u.n) where
  same_span : span ≡ span_of (decode_of low) (decode_of high)
  same_span = e ∙ ap (λ (x : Value). span_of x.n u.n) p ∙ ap (λ (x : Value). span_of (decode_of low) x.n) q

  pub rule_reversed : span ≡ 0 → 41 ≡ range_rule most (decode_of low) (decode_of high)
  unfolding range_rule
  rule_reversed h = rw (← same_span, h)

  pub rule_none : (span ≡ 0 → ⊥) → span ≤ most → 0 ≡ range_rule most (decode_of low) (decode_of high)
  unfolding range_rule
  rule_none h l = rw (← same_span, ne_eqb span 0 h, le-leb span most l)

  pub rule_long : (span ≡ 0 → ⊥) → most < span → 42 ≡ range_rule most (decode_of low) (decode_of high)
  unfolding range_rule
  rule_long h l = rw (← same_span, ne_eqb span 0 h, lt-leb span most l)
