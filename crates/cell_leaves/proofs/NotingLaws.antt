-- The laws of what operand stands at a position by itself.
use Prim.Native.Nat.{ℕ, zero, suc, ◌+◌, ◌<◌, ◌≤◌}
use native.Mathlib.Omega.{arith}
use mathlib.Core.Path.{◌≡◌, refl, sym, ap, ◌∙◌}
use mathlib.Core.Bool.{false}
use mathlib.Core.Logic.{inl, inr}
use mathlib.Core.List.{List, []}
use Rattle.value.specs.Worked.{decode_of}
use Rattle.token.specs.Kind.{level_of}
use Rattle.program.specs.Syntax.{Expr, number, variable, field}
use Rattle.cell_meaning.specs.Promises.Stands.{indices_in, is_sign_kind, is_unary, parsed, decode_primary, decode_name}
use Rattle.cell_meaning.specs.Links.{Table}
use Rattle.cell_meaning.specs.Promises.Leaves.{OperandIs, LeafAt}
use Rattle.cell_operands.proofs.DecodingLaws.{never, was_bare, was_name}
use Rattle.cell_leaves.specs.declared.Leaf.{Leaf}
use Rattle.cell_leaves.specs.Promises.Filling.{words_of, FieldSort}

-- ---- what the operand is, by the token

module _ (t : Table) (p : ℕ) where
  module _ (e : Expr) (x : ℕ) where
    primary_is : is_unary (t.kind p) ≡ false → ((f : ℕ) → decode_primary (suc f) t p ≡ parsed e x) → OperandIs t p e x
    unfolding decode_primary
    primary_is u d fuel e' x' q = go (was_bare t p x' e' u fuel q)
      where
        go : (f : ℕ) × (decode_primary f t p ≡ parsed e' x') → parsed e' x' ≡ parsed e x
        go (zero, h) = never h
        go (suc f, h) = sym h ∙ d f

    name_is : t.kind p ≡ 1 → ((f : ℕ) → decode_name (suc f) t p ≡ parsed e x) → OperandIs t p e x
    unfolding decode_name is_unary is_sign_kind
    name_is k d fuel e' x' q = let s = was_bare t p x' e' (simp k) fuel q in go (was_name t p x' e' k s.0 s.1)
      where
        go : (f : ℕ) × (decode_name f t p ≡ parsed e' x') → parsed e' x' ≡ parsed e x
        go (zero, h) = never h
        go (suc f, h) = sym h ∙ d f

  literal_is : t.kind p ≡ 2 → OperandIs t p (number (decode_of (t.word2 p))) (p + 1)
  unfolding decode_primary is_unary is_sign_kind
  literal_is k = primary_is _ _ (simp k) (λ f. simp k)

  constant_is : t.kind p ≡ 1 → t.word2 p ≡ 1 → OperandIs t p (number (decode_of (t.word3 p))) (p + 1)
  unfolding decode_name
  constant_is k r = name_is _ _ k (λ f. simp r)

  variable_is : t.kind p ≡ 1 → t.word2 p ≡ 4 → OperandIs t p (variable (t.word3 p)) (p + 1)
  unfolding decode_name
  variable_is k r = name_is _ _ k (λ f. simp r)

  own_is : t.kind p ≡ 3 → OperandIs t p (field [] (t.word2 p)) (t.past p)
  unfolding decode_primary is_unary is_sign_kind
  own_is k = primary_is _ _ (simp k) (λ f. simp k)

  near_is : t.kind p ≡ 91 → OperandIs t p (field (indices_in t t.dims (p + 1)) (t.word2 p)) (t.past p)
  unfolding decode_primary is_unary is_sign_kind
  near_is k = primary_is _ _ (simp k) (λ f. simp k)

-- ---- what is noted, by the token

-- nothing
pub unnoted : (t : Table) (ns : List ℕ) (n fields slots p : ℕ) (w : ℕ → ℕ) → w 0 ≡ 0 → w 3 ≡ level_of (t.kind p) → ((w 3 ≡ 0 → ⊥) → w 1 ≡ t.kind p) → LeafAt t ns n fields slots w p
unnoted t ns n fields slots p w e l o = record {
  level = l;
  operator = o;
  bare = λ h. absurd (h e);
  onward = λ h. absurd (h e);
  number = λ h. absurd (omega arith);
  variable = λ h. absurd (omega arith);
  own = λ h. absurd (omega arith);
  near = λ h. absurd (omega arith);
}

abbrev leaf : ℕ → ℕ → ℕ → Leaf
leaf s w x = record { sort = s; word = w; next = x; level = 0 }

module _ (t : Table) (n fields slots p : ℕ) where
  abbrev Fits : Leaf → Type 0
  Fits l = LeafAt t [] n fields slots (words_of l) p

  number_fits : (w : ℕ) → level_of (t.kind p) ≡ 0 → is_unary (t.kind p) ≡ false → p < n → OperandIs t p (number (decode_of w)) (p + 1) → Fits (leaf 1 w (p + 1))
  number_fits w l u h o = record {
    level = sym l;
    operator = λ q. absurd (q refl);
    bare = λ q. u;
    onward = λ q. (omega arith, omega arith);
    number = λ q. o;
    variable = λ q. absurd (omega arith);
    own = λ q. absurd (omega arith);
    near = λ q. absurd (omega arith);
  }

  pub literal_leaf : {k w : ℕ} → k ≡ t.kind p → k ≡ 2 → w ≡ t.word2 p → p < n → Fits (leaf 1 w (p + 1))
  unfolding level_of is_unary is_sign_kind
  literal_leaf ek e ew l = let k = sym ek ∙ e in number_fits _ (simp k) (simp k) l (rw ew (literal_is t p k))

  module _ (k : t.kind p ≡ 1) where
    pub name_unnoted : Fits (leaf 0 0 0)
    unfolding level_of
    name_unnoted = unnoted t [] n fields slots p _ refl (sym (simp k)) (λ q. absurd (q refl))

    module _ (l : p < n) {v w : ℕ} (ev : v ≡ t.word2 p) (ew : w ≡ t.word3 p) where
      pub constant_leaf : v ≡ 1 → Fits (leaf 1 w (p + 1))
      unfolding level_of is_unary is_sign_kind
      constant_leaf e = number_fits _ (simp k) (simp k) l (rw ew (constant_is t p k (sym ev ∙ e)))

      pub variable_leaf : v ≡ 4 → w < slots → Fits (leaf 2 w (p + 1))
      unfolding level_of is_unary is_sign_kind
      variable_leaf e f = record {
        level = sym (simp k);
        operator = λ q. absurd (q refl);
        bare = λ q. simp k;
        onward = λ q. (omega arith, omega arith);
        number = λ q. absurd (omega arith);
        variable = λ q. (f, rw ew (variable_is t p k (sym ev ∙ e)));
        own = λ q. absurd (omega arith);
        near = λ q. absurd (omega arith);
      }

  pub field_unnoted : {s : ℕ} → FieldSort (t.kind p) s → Fits (leaf 0 0 0)
  unfolding level_of
  field_unnoted (inl (k, e)) = unnoted t [] n fields slots p _ refl (sym (simp k)) (λ q. absurd (q refl))
  field_unnoted (inr (k, e)) = unnoted t [] n fields slots p _ refl (sym (simp k)) (λ q. absurd (q refl))

  pub field_leaf : {s w x : ℕ} → FieldSort (t.kind p) s → w ≡ t.word2 p → w < fields → x ≡ t.past p → (p < x) × (x ≤ n) → Fits (leaf s w x)
  unfolding level_of is_unary is_sign_kind
  field_leaf (inl (k, e)) ew f ex o = record {
    level = sym (simp k);
    operator = λ q. absurd (q refl);
    bare = λ q. simp k;
    onward = λ q. o;
    number = λ q. absurd (omega arith);
    variable = λ q. absurd (omega arith);
    own = λ q. (f, rw (ew, ex) (own_is t p k));
    near = λ q. absurd (omega arith);
  }
  field_leaf (inr (k, e)) ew f ex o = record {
    level = sym (simp k);
    operator = λ q. absurd (q refl);
    bare = λ q. simp k;
    onward = λ q. o;
    number = λ q. absurd (omega arith);
    variable = λ q. absurd (omega arith);
    own = λ q. absurd (omega arith);
    near = λ q. (f, rw (ew, ex) (near_is t p k), λ vs. tt);
  }

  pub other_unnoted : {k l : ℕ} → k ≡ t.kind p → l ≡ level_of k → Fits (record { sort = 0; word = k; next = 0; level = l })
  other_unnoted {k} {l} ek el = unnoted t [] n fields slots p _ refl (el ∙ ap level_of ek) (λ q. ek)
