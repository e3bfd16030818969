-- One law for each way through the tests of the declaration. Assumes nothing.
use Prim.Native.Nat.{ℕ, ◌≤◌, ◌<◌}
use native.Mathlib.Omega.{arith}
use mathlib.Core.Path.{◌≡◌, refl, sym, ap, ◌∙◌}
use mathlib.Core.Bool.{Bool, true, false, ◌&&◌}
use mathlib.Core.List.{List}
use lib.ListN.{length}
use lib.Dec.{eqb, ltb}
use lib.IntN.{pos}
use borrow.Author.Tests.{eq-eqb, ne_eqb, le-leb, lt-leb, lt-ltb, ltb-true}
use Rattle.value.specs.Number.{within}
use Rattle.value.specs.Worked.{decode_of}
use Rattle.value.proofs.Theorems.Laws.{never}
use Rattle.token.specs.declared.Token.{Token}
use Rattle.token.specs.Kind.{keyword}
use Rattle.program.specs.Syntax.{Range}
use Rattle.grammar.specs.Reader.{is_kind}
use Rattle.grammar.specs.Constants.{is_sign}
use Rattle.grammar.specs.Source.{is_unnamed}
use Rattle.read_state.specs.Promises.Reading.{Moved, Carries, carrying_number, Named}
use Rattle.read_state.specs.declared.Reading.{Reading}
use Rattle.read_declaration.specs.Promises.Fields.{full_of, FieldsEnd, Starts}

-- ---- room for one more field

pub full_up : (n : ℕ) → 8 ≤ n → 43 ≡ full_of n
full_up n h = simp (le-leb 8 n h)

pub full_not : (n : ℕ) → n < 8 → 0 ≡ full_of n
full_not n h = simp (lt-leb 8 n h)

-- ---- an unnamed range

module _ (t : Token) (k : ℕ) where
  pub unnamed_plus : t.kind ≡ 43 → true ≡ is_unnamed t k
  unfolding is_unnamed is_sign
  unnamed_plus e = simp (eq-eqb t.kind 43 e)

  pub unnamed_minus : (t.kind ≡ 43 → ⊥) → t.kind ≡ 45 → true ≡ is_unnamed t k
  unfolding is_unnamed is_sign
  unnamed_minus a e = simp (ne_eqb t.kind 43 a, eq-eqb t.kind 45 e)

  module _ (a : t.kind ≡ 43 → ⊥) (b : t.kind ≡ 45 → ⊥) where
    pub unnamed_literal : t.kind ≡ 2 → true ≡ is_unnamed t k
    unfolding is_unnamed is_sign
    unnamed_literal e = simp (ne_eqb t.kind 43 a, ne_eqb t.kind 45 b, eq-eqb t.kind 2 e)

    module _ (c : t.kind ≡ 2 → ⊥) {r : Bool} (x : Named t r) where
      rest : is_unnamed t k ≡ (r && eqb k 129)
      unfolding is_unnamed is_sign
      rest = simp (ne_eqb t.kind 43 a, ne_eqb t.kind 45 b, ne_eqb t.kind 2 c, x.is)

      pub unnamed_name : r ≡ true → eqb k 129 ≡ is_unnamed t k
      unnamed_name e = sym (rest ∙ rw e)

      pub named_not : r ≡ false → false ≡ is_unnamed t k
      named_not e = sym (rest ∙ rw e)

-- ---- groups

module _ (t : Token) (n : ℕ) where
  pub ends : t.kind ≡ 9 → FieldsEnd t n (ltb 0 n)
  ends e = record { is = sym (rw (eq-eqb t.kind 9 e)); kind = λ _. omega (arith, e); some = λ q. ltb-true 0 n q }

  pub ends_not : (t.kind ≡ 9 → ⊥) → FieldsEnd t n false
  ends_not e = record { is = sym (rw (ne_eqb t.kind 9 e)); kind = never; some = never }

-- the test behind as many fields as there are ranges
pub end_test : {t : Token} {n : ℕ} {r v : Bool} → FieldsEnd t n r → (rs : List Range) → length rs ≡ n → r ≡ v → (is_kind t keyword.end && ltb 0 (length rs)) ≡ v
end_test {t} x rs e q = ap (λ (m : ℕ). is_kind t keyword.end && ltb 0 m) e ∙ sym x.is ∙ q

module _ {t : Token} {s : Reading} where
  pub starts_const : t.kind ≡ 5 → {m r : Reading} → Moved s m → Carries m (carrying_number m 6) r → Starts t s r
  starts_const e {m} x y =
      record {
        is = y.is ∙ ap (λ (z : Reading). carrying_number z 6) x.is ∙ sym (rw (eq-eqb t.kind 5 e));
        past = omega (arith, x.at, y.at);
        near = omega (arith, x.at, y.at, e);
        count = y.count ∙ x.count;
      }

  pub starts_plain : (t.kind ≡ 5 → ⊥) → {r : Reading} → Carries s (carrying_number s 3) r → Starts t s r
  starts_plain e y =
      record { is = y.is ∙ sym (rw (ne_eqb t.kind 5 e)); past = omega (arith, y.at); near = omega (arith, y.at); count = y.count }

-- ---- the number of dimensions

module _ (w : ℕ) where
  pub dims_good : 1 ≤ w → w ≤ 3 → within (pos 1) (pos 3) (decode_of w) ≡ true
  dims_good h l = simp (lt-ltb w 2147483648 (omega arith), le-leb 1 w h, le-leb w 3 l)

  pub dims_none : w < 1 → within (pos 1) (pos 3) (decode_of w) ≡ false
  dims_none h = let e : w ≡ 0 = omega arith in rw e

  pub dims_many : 3 < w → w < 4294967296 → within (pos 1) (pos 3) (decode_of w) ≡ false
  dims_many h l = by (ltb w 2147483648) refl
    where
      by : (t : Bool) → ltb w 2147483648 ≡ t → within (pos 1) (pos 3) (decode_of w) ≡ false
      by true e = simp (e, le-leb 1 w (omega arith), lt-leb w 3 h)
      by false e = simp (e, lt-ltb w 4294967296 l)
