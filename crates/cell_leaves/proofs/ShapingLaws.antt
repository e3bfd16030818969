-- The laws of writing the shapes.
use Prim.Native.Nat.{ℕ, ◌+◌, ◌*◌, ◌<◌, ◌≤◌}
use native.Mathlib.Decide.{dec_lt}
use native.Mathlib.Omega.{arith}
use mathlib.Core.Path.{◌≡◌, refl, sym, ap, ◌∙◌}
use mathlib.Core.List.{List}
use lib.ListN.{length, set}
use lib.Seq.{get_or-set_same, get_or-set_other}
use Rattle.token.specs.Kind.{level_of}
use Rattle.cell_meaning.specs.Links.{word_in, table_of}
use Rattle.cell_meaning.specs.Promises.Leaves.{leaf_word, Simple, Last, ShapeAt, Leaves}
use Rattle.cell_operands.proofs.TableLaws.{token}
use Rattle.cell_leaves.specs.Promises.Shaping.{Linked, After, Shape, LeafWritten, LeafShaped}
use Rattle.cell_leaves.proofs.WritingLaws.{leaf_same, Filled}

-- ---- what is read

module _ {n : ℕ} {leaves : List ℕ} (links : Linked n leaves) {p : ℕ} (l : p ≤ n) where
  pub next_small : {s x : ℕ} → s ≡ leaf_word leaves p 0 → (s ≡ 0 → ⊥) → s ≤ 3 → x ≡ leaf_word leaves p 2 → x ≤ n
  next_small es a b ex = let o = links.onward p l (omega arith, omega arith) in omega arith

  -- behind a relation or logic something stands
  pub behind_small : {r x : ℕ} → After leaves p r → (r ≡ 0 → ⊥) → r ≤ 2 → x ≡ leaf_word leaves p 2 → x < n
  behind_small a b c ex =
      let s = a.level (omega arith) in
      let o = links.onward p l s.0 in
      let i = links.inside (leaf_word leaves p 2) o (λ z. b (sym s.1 ∙ z)) in
      omega arith

module _ (leaves : List ℕ) (p : ℕ) where
  pub level_behind : {s x r : ℕ} → s ≡ leaf_word leaves p 0 → (s ≡ 0 → ⊥) → s ≤ 3 → x ≡ leaf_word leaves p 2 → r ≡ leaf_word leaves x 3 → After leaves p r
  level_behind es a b ex er = record { level = λ h. ((omega arith, omega arith), sym (rw ex at er)) }

  pub none_behind : After leaves p 5
  none_behind = record { level = λ h. absurd (omega arith) }

  -- the shape by the levels

  pub shape_one : {r : ℕ} → After leaves p r → r ≡ 0 → Shape leaves p 1
  shape_one a e = let s = a.level (omega arith) in record { alone = λ q. (s.0, s.1 ∙ e); related = λ q. absurd (omega arith) }

  pub shape_two : {r x r' : ℕ} → After leaves p r → (r ≡ 0 → ⊥) → r ≤ 2 → x ≡ leaf_word leaves p 2 → After leaves (x + 1) r' → r' ≡ 0 → Shape leaves p 2
  shape_two {r} {x} {r'} a b c ex a' e =
      let s = a.level (omega arith) in
      let s' = a'.level (omega arith) in
      let last : Last leaves (x + 1) = (s'.0, s'.1 ∙ e) in
      record { alone = λ q. absurd (omega arith); related = λ q. (s.0, omega (arith, s.1), omega (arith, s.1), rw ex at last) }

  pub shape_none : Shape leaves p 0
  shape_none = record { alone = λ q. absurd (omega arith); related = λ q. absurd (omega arith) }

-- ---- all positions

-- what is said of the words below 7 holds where they are the same

module _ (old new : List ℕ) (same : (p k : ℕ) → k < 7 → leaf_word new p k ≡ leaf_word old p k) where
  simple_same : (p : ℕ) → Simple (leaf_word old p 0) → Simple (leaf_word new p 0)
  simple_same p s = rw (same p 0 (omega arith)) s

  level_same : (p : ℕ) → leaf_word new (leaf_word new p 2) 3 ≡ leaf_word old (leaf_word old p 2) 3
  level_same p = same (leaf_word new p 2) 3 (omega arith) ∙ ap (λ (x : ℕ). leaf_word old x 3) (same p 2 (omega arith))

  last_same : (p : ℕ) → Last old p → Last new p
  last_same p (s, e) = (simple_same p s, level_same p ∙ e)

  shape_same : (p : ℕ) → Shape old p (leaf_word new p 7) → ShapeAt new p
  shape_same p s = record {
    alone = λ q. last_same p (s.alone q);
    related = λ q. let r = s.related q in let e = level_same p in
        (simple_same p r.0, omega (arith, r.1), omega (arith, r.2), rw (same p 2 (omega arith)) (last_same (leaf_word old p 2 + 1) r.3));
  }

  linked_same : {n : ℕ} → Linked n old → Linked n new
  linked_same links = record {
    onward = λ p l s. rw (same p 2 (omega arith)) (links.onward p l (rw (same p 0 (omega arith)) at s));
    inside = λ p l h. links.inside p l (λ z. h (same p 3 (omega arith) ∙ z));
  }

-- one position after the other

pub shaped_start : (ws : List ℕ) → LeafShaped 0 ws ws
shaped_start ws = record { same = λ p k l. refl; shape = λ p l. absurd (omega arith) }

module _ {old ws : List ℕ} {p : ℕ} (x : LeafShaped p old ws) where
  pub shaped_linked : {n : ℕ} → Linked n old → Linked n ws
  shaped_linked links = linked_same old ws x.same links

  pub shaped_more : {s : ℕ} {after : List ℕ} → LeafWritten p s ws after → Shape ws p s → LeafShaped (p + 1) old after
  shaped_more {s} w h = rw w.is (record { same = λ q k l. same q k l ∙ x.same q k l; shape = λ q l. go q (dec_lt q p) l })
    where
      new : List ℕ
      new = set ws (8 * p + 7) s

      same : (q k : ℕ) → k < 7 → leaf_word new q k ≡ leaf_word ws q k
      same q k l = get_or-set_other ws (8 * p + 7) (8 * q + k) s 0 (λ e. omega arith)

      go : (q : ℕ) → Dec (q < p) → q < p + 1 → ShapeAt new q
      go q (yes m) l =
          let e : leaf_word new q 7 ≡ leaf_word ws q 7 = get_or-set_other ws (8 * p + 7) (8 * q + 7) s 0 (λ e. omega arith) in
          let b = x.shape q m in
          shape_same ws new same q (record { alone = λ z. b.alone (sym e ∙ z); related = λ z. b.related (sym e ∙ z) })
      go q (no m) l =
          let e : leaf_word new p 7 ≡ s = get_or-set_same ws (8 * p + 7) s 0 w.room in
          let i : q ≡ p = omega arith in
          rw i (shape_same ws new same p (rw e h))

  pub shaped_done : {n : ℕ} → n < p → LeafShaped (n + 1) old ws
  shaped_done l = record { same = x.same; shape = λ q h. x.shape q (omega arith) }

-- ---- the whole table

module _ (words sizes : List ℕ) (n fields slots : ℕ) {ws : List ℕ} {p : ℕ} (x : Filled (table_of words n (length sizes)) sizes n fields slots ws p) (l : n < p) where
  pub filled_linked : Linked n ws
  unfolding level_of
  filled_linked = record { onward = λ q h s. ((x.at q (omega arith)).onward (λ z. omega (arith, s.0))).1; inside = λ q h a. go q h (dec_lt 0 (word_in words n 0 q)) a }
    where
      go : (q : ℕ) → q ≤ n → Dec (0 < word_in words n 0 q) → (leaf_word ws q 3 ≡ 0 → ⊥) → q < n
      go q h (yes m) a = token words n q refl m
      go q h (no m) a = let e : word_in words n 0 q ≡ 0 = omega arith in absurd (a ((x.at q (omega arith)).level ∙ ap level_of e))

  pub filled_leaves : {new : List ℕ} → length sizes ≤ 3 → LeafShaped (n + 1) ws new → Leaves new words sizes n fields slots
  filled_leaves {new} few s = record {
    at = λ q h. leaf_same _ n fields slots q sizes (leaf_word ws q) (leaf_word new q) few (s.same q) (x.at q (omega arith));
    shape = λ q h. s.shape q (omega arith);
  }
