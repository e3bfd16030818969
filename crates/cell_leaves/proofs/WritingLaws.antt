-- The laws of writing the words of a position.
use Prim.Native.Nat.{ℕ, zero, suc, ◌+◌, ◌*◌, ◌<◌, ◌≤◌}
use native.Mathlib.Decide.{dec_lt}
use native.Mathlib.Nat.{add-zero}
use native.Mathlib.Omega.{arith}
use mathlib.Core.Path.{◌≡◌, refl, sym, ap, ◌∙◌}
use mathlib.Core.Bool.{Bool, true, false, ◌&&◌}
use mathlib.Core.List.{List, [], ◌∷◌}
use lib.Dec.{eqb}
use lib.IntN.{ℤ}
use lib.ListN.{length, get_or, set, drop, length-set, drop_of_length-le}
use lib.Seq.{get_or-set_same, get_or-set_other, drop-cons}
use borrow.Author.Tests.{eq-eqb, ne_eqb}
use Rattle.value.specs.Worked.{value, decode_of, wrap_of}
use Rattle.value.specs.declared.Value.{Value}
use Rattle.token.specs.Kind.{level_of}
use Rattle.automaton.specs.Promises.ShapeLaws.{Positive}
use Rattle.cell_meaning.specs.Evaluation.{offset}
use Rattle.cell_meaning.specs.Promises.Stands.{index_in, next_index}
use Rattle.cell_meaning.specs.Links.{Table}
use Rattle.cell_meaning.specs.Promises.Leaves.{leaf_word, OffsetsAre, LeafAt}
use Rattle.cell_leaves.specs.declared.Leaf.{Leaf}
use Rattle.cell_leaves.specs.Promises.Filling.{words_of, LeavesKept, Offsets, LeavesNoted}
use Rattle.cell_leaves.proofs.NotingLaws.{unnoted}

-- ---- what stays

kept_start : (low high : ℕ) (l : List ℕ) → LeavesKept low high l l
kept_start low high l = record { same = λ j out. refl }

kept_set : {low high : ℕ} {old new : List ℕ} (i v : ℕ) → LeavesKept low high old new → low ≤ i → i < high → LeavesKept low high old (set new i v)
kept_set {low} {high} {old} {new} i v kept a b = record { same = λ j out. get_or-set_other new i j v 0 (λ e. out (omega arith) (omega arith)) ∙ kept.same j out }

kept_wide : {a b low high : ℕ} {old new : List ℕ} → LeavesKept a b old new → low ≤ a → b ≤ high → LeavesKept low high old new
kept_wide kept l h = record { same = λ j out. kept.same j (λ x y. out (omega arith) (omega arith)) }

kept_then : {low high : ℕ} {old mid new : List ℕ} → LeavesKept low high old mid → LeavesKept low high mid new → LeavesKept low high old new
kept_then a b = record { same = λ j out. b.same j out ∙ a.same j out }

-- ---- the first four words

pub noted : (l : Leaf) (p : ℕ) (ws : List ℕ) → 8 * p + 8 ≤ length ws
    → LeavesNoted l p ws (set (set (set (set ws (8 * p) l.sort) (8 * p + 1) l.word) (8 * p + 2) l.next) (8 * p + 3) l.level)
noted l p ws room = record {
  words = words;
  kept =
      kept_set (8 * p + 3) l.level
      (kept_set (8 * p + 2) l.next
      (kept_set (8 * p + 1) l.word (kept_set (8 * p) l.sort (kept_start (8 * p) (8 * p + 4) ws) (omega arith) (omega arith)) (omega arith) (omega arith))
      (omega arith) (omega arith))
      (omega arith) (omega arith);
}
  where
    w₁ : List ℕ
    w₁ = set ws (8 * p) l.sort

    w₂ : List ℕ
    w₂ = set w₁ (8 * p + 1) l.word

    w₃ : List ℕ
    w₃ = set w₂ (8 * p + 2) l.next

    words : (k : ℕ) → k < 4 → leaf_word (set w₃ (8 * p + 3) l.level) p k ≡ words_of l k
    words zero h =
        get_or-set_other w₃ (8 * p + 3) (8 * p + 0) l.level 0 (λ e. omega arith) ∙ get_or-set_other w₂ (8 * p + 2) (8 * p + 0) l.next 0 (λ e. omega arith)
        ∙ get_or-set_other w₁ (8 * p + 1) (8 * p + 0) l.word 0 (λ e. omega arith) ∙ ap (λ (i : ℕ). get_or w₁ i 0) (add-zero (8 * p))
        ∙ get_or-set_same ws (8 * p) l.sort 0 (omega arith)
    words (suc zero) h =
        get_or-set_other w₃ (8 * p + 3) (8 * p + 1) l.level 0 (λ e. omega arith) ∙ get_or-set_other w₂ (8 * p + 2) (8 * p + 1) l.next 0 (λ e. omega arith)
        ∙ get_or-set_same w₁ (8 * p + 1) l.word 0 (simp length-set (omega arith))
    words (suc (suc zero)) h =
        get_or-set_other w₃ (8 * p + 3) (8 * p + 2) l.level 0 (λ e. omega arith) ∙ get_or-set_same w₂ (8 * p + 2) l.next 0 (simp length-set (omega arith))
    words (suc (suc (suc zero))) h = get_or-set_same w₃ (8 * p + 3) l.level 0 (simp length-set (omega arith))
    words (suc (suc (suc (suc k)))) h = absurd (omega arith)

-- ---- elements

module _ {k x : ℕ} (ek : k ≡ x) where
  pub moving_name : {v y : ℕ} → k ≡ 1 → v ≡ y → eqb v 5 ≡ (eqb x 1 && eqb y 5)
  moving_name e f = sym (simp (eq-eqb _ _ (sym ek ∙ e), ← f))

  pub moving_other : (y : ℕ) → (k ≡ 1 → ⊥) → false ≡ (eqb x 1 && eqb y 5)
  moving_other y e = sym (simp (ne_eqb _ _ (λ u. e (ek ∙ u))))

still_offset : (t : Table) (vs : List ℤ) (at : ℕ) → (eqb (t.kind at) 1 && eqb (t.word2 at) 5) ≡ false → offset vs (index_in t at) ≡ decode_of (t.word3 at)
unfolding index_in
still_offset t vs at h = simp h

pub some_size : (ns : List ℕ) (k : ℕ) → Positive ns → k < length ns → 0 < get_or ns k 0
some_size [] k h l = absurd (omega arith)
some_size (n ∷ ns) zero h l = h.0
some_size (n ∷ ns) (suc k) h l = some_size ns k h.1 (omega arith)

-- ---- the offsets, one dimension after the other

module _ (t : Table) (ns : List ℕ) (p : ℕ) where
  -- the first k are written, and whatever words they stand in, the others are all that is left
  pub record Steps (old new : List ℕ) (here k : ℕ) : Type 0 where
    pub turn : k ≤ length ns
    pub near : here ≤ p + 1 + 3 * k
    pub size : length new ≡ length old
    pub kept : LeavesKept (8 * p + 4) (8 * p + 8) old new
    pub says : (w : ℕ → ℕ) → ((j : ℕ) → j < 4 + k → w j ≡ leaf_word new p j) → (vs : List ℤ) → OffsetsAre t vs w (drop k ns) here (4 + k) → OffsetsAre t vs w ns (p + 1) 4

  pub steps_start : (ws : List ℕ) → Steps ws ws (p + 1) 0
  steps_start ws = record { turn = omega arith; near = omega arith; size = refl; kept = kept_start _ _ ws; says = λ w e vs h. h }

  module _ {old new : List ℕ} {here k : ℕ} (s : Steps old new here k) where
    pub steps_more : k < length ns → length ns ≤ 3 → 8 * p + 8 ≤ length old
        → {b : Bool} {x to there : ℕ} {v : Value} → b ≡ (eqb (t.kind here) 1 && eqb (t.word2 here) 5) → b ≡ false → x ≡ t.word3 here → v ≡ value (decode_of x)
        → to ≡ wrap_of 0 v.n (get_or ns k 0) → (there ≡ next_index t here) × (there ≤ here + 3) → Steps old (set new (8 * p + 4 + k) to) there (k + 1)
    steps_more l few room {b} {x} {to} {there} {v} eb hb ex ev et en =
        let sz = s.size in
        let nr = s.near in
        let z = en.1 in
        record {
          turn = omega arith;
          near = omega arith;
          size = length-set new (8 * p + 4 + k) to ∙ sz;
          kept = kept_set (8 * p + 4 + k) to s.kept (omega arith) (omega arith);
          says = says;
        }
      where
        after : List ℕ
        after = set new (8 * p + 4 + k) to

        is : (vs : List ℤ) → to ≡ wrap_of 0 (offset vs (index_in t here)) (get_or ns k 0)
        is vs =
            et ∙ ap (λ (u : Value). wrap_of 0 u.n (get_or ns k 0)) ev
            ∙ ap (λ (z : ℤ). wrap_of 0 z (get_or ns k 0)) (ap decode_of ex ∙ sym (still_offset t vs here (sym eb ∙ hb)))

        first : (w : ℕ → ℕ) → ((j : ℕ) → j < 4 + (k + 1) → w j ≡ leaf_word after p j) → w (4 + k) ≡ to
        first w e =
            let sz = s.size in
            let q : 8 * p + (4 + k) ≡ 8 * p + 4 + k = omega arith in
            e (4 + k) (omega arith) ∙ ap (λ (i : ℕ). get_or after i 0) q ∙ get_or-set_same new (8 * p + 4 + k) to 0 (omega arith)

        rest : (w : ℕ → ℕ) (vs : List ℤ) → OffsetsAre t vs w (drop (k + 1) ns) there (4 + (k + 1)) → OffsetsAre t vs w (drop (suc k) ns) (next_index t here) (suc (4 + k))
        rest w vs h =
            let a : k + 1 ≡ suc k = omega arith in
            let b : 4 + suc k ≡ suc (4 + k) = omega arith in
            rw b at (rw a at (rw en.0 at h))

        says : (w : ℕ → ℕ) → ((j : ℕ) → j < 4 + (k + 1) → w j ≡ leaf_word after p j) → (vs : List ℤ)
            → OffsetsAre t vs w (drop (k + 1) ns) there (4 + (k + 1)) → OffsetsAre t vs w ns (p + 1) 4
        says w e vs h =
            s.says w (λ j q. e j (omega arith) ∙ get_or-set_other new (8 * p + 4 + k) (8 * p + j) to 0 (λ u. omega arith)) vs
            (rw (drop-cons ns k 0 l) (first w e ∙ is vs, rest w vs h))

    pub steps_done : length ns ≤ k → {b : Bool} → Offsets t ns (leaf_word new p) p b
    steps_done l e vs = s.says (leaf_word new p) (λ j q. refl) vs (rw (drop_of_length-le ns l) tt)

-- ---- the words of a position, by words that are the same

offsets_same : (t : Table) (vs : List ℤ) (w w' : ℕ → ℕ) (ns : List ℕ) (at k : ℕ) → ((j : ℕ) → k ≤ j → j < k + length ns → w' j ≡ w j) → OffsetsAre t vs w ns at k
    → OffsetsAre t vs w' ns at k
offsets_same t vs w w' [] at k e h = tt
offsets_same t vs w w' (n ∷ ns) at k e h =
    (e k (omega arith) (omega arith) ∙ h.0, offsets_same t vs w w' ns (next_index t at) (suc k) (λ j a b. e j (omega arith) (omega arith)) h.1)

module _ (t : Table) (n fields slots p : ℕ) where
  leaf_by : (ms ns : List ℕ) (w w' : ℕ → ℕ) → ((k : ℕ) → k < 4 → w' k ≡ w k) → LeafAt t ms n fields slots w p
      → (w' 0 ≡ 4 → (vs : List ℤ) → OffsetsAre t vs w' ns (p + 1) 4) → LeafAt t ns n fields slots w' p
  leaf_by ms ns w w' e a o =
      let e₀ : w' 0 ≡ w 0 = e 0 (omega arith) in
      let e₁ : w' 1 ≡ w 1 = e 1 (omega arith) in
      let e₂ : w' 2 ≡ w 2 = e 2 (omega arith) in
      let e₃ : w' 3 ≡ w 3 = e 3 (omega arith) in
      record {
        level = e₃ ∙ a.level;
        operator = λ h. e₁ ∙ a.operator (λ z. h (e₃ ∙ z));
        bare = λ h. a.bare (λ z. h (e₀ ∙ z));
        onward = λ h. rw e₂ (a.onward (λ z. h (e₀ ∙ z)));
        number = λ h. rw (e₁, e₂) (a.number (sym e₀ ∙ h));
        variable = λ h. rw (e₁, e₂) (a.variable (sym e₀ ∙ h));
        own = λ h. rw (e₁, e₂) (a.own (sym e₀ ∙ h));
        near = λ h. let s = a.near (sym e₀ ∙ h) in (rw e₁ s.0, rw (e₁, e₂) s.1, o h);
      }

  pub leaf_same : (ns : List ℕ) (w w' : ℕ → ℕ) → length ns ≤ 3 → ((k : ℕ) → k < 7 → w' k ≡ w k) → LeafAt t ns n fields slots w p → LeafAt t ns n fields slots w' p
  leaf_same ns w w' few same a =
      leaf_by ns ns w w' (λ k c. same k (omega arith)) a
      (λ z vs. offsets_same t vs w w' ns (p + 1) 4 (λ j u v. same j (omega arith)) ((a.near (sym (same 0 (omega arith)) ∙ z)).2 vs))

  module _ (ns : List ℕ) {l : Leaf} {mid new : List ℕ} (x : LeavesNoted l p mid new) where
    -- what is written there: what is noted with its offsets, nothing, or what has no offsets

    module _ {old : List ℕ} {b : Bool} (y : LeavesKept (8 * p + 4) (8 * p + 8) old mid × Offsets t ns (leaf_word mid p) p b) where
      around : LeavesKept (8 * p) (8 * p + 8) old new
      around = kept_then (kept_wide y.0 (omega arith) (omega arith)) (kept_wide x.kept (omega arith) (omega arith))

      pub written_near : LeafAt t [] n fields slots (words_of l) p → b ≡ true → LeavesKept (8 * p) (8 * p + 8) old new × LeafAt t ns n fields slots (leaf_word new p) p
      written_near a h = (
        around,
        leaf_by [] ns (words_of l) (leaf_word new p) x.words a
            (λ q vs. offsets_same t vs (leaf_word mid p) (leaf_word new p) ns (p + 1) 4 (λ j u v. x.kept.same (8 * p + j) (λ c d. omega arith)) (y.1 h vs)),
      )

      pub written_none : l.sort ≡ 0 → l.level ≡ level_of (t.kind p) → ((l.level ≡ 0 → ⊥) → l.word ≡ t.kind p) → LeavesKept (8 * p) (8 * p + 8) old new × LeafAt t ns n fields slots (leaf_word new p) p
      written_none e f g =
          let e₃ : leaf_word new p 3 ≡ l.level = x.words 3 (omega arith) in
          (around, unnoted t ns n fields slots p (leaf_word new p) (x.words 0 (omega arith) ∙ e) (e₃ ∙ f) (λ h. x.words 1 (omega arith) ∙ g (λ z. h (e₃ ∙ z))))

    pub written_plain : LeafAt t [] n fields slots (words_of l) p → (l.sort ≡ 4 → ⊥) → LeavesKept (8 * p) (8 * p + 8) mid new × LeafAt t ns n fields slots (leaf_word new p) p
    written_plain a h = (
      kept_wide x.kept (omega arith) (omega arith),
      leaf_by [] ns (words_of l) (leaf_word new p) x.words a (λ q vs. absurd (h (sym (x.words 0 (omega arith)) ∙ q))),
    )

-- ---- all positions

module _ (t : Table) (ns : List ℕ) (n fields slots : ℕ) where
  -- the positions below p are written
  pub record Filled (leaves : List ℕ) (p : ℕ) : Type 0 where
    pub turn : p ≤ n + 1
    pub at : (q : ℕ) → q < p → LeafAt t ns n fields slots (leaf_word leaves q) q

  pub filled_start : (leaves : List ℕ) → Filled leaves 0
  filled_start leaves = record { turn = omega arith; at = λ q h. absurd (omega arith) }

  pub filled_more : {old new : List ℕ} {p : ℕ} → length ns ≤ 3 → Filled old p → p ≤ n → LeavesKept (8 * p) (8 * p + 8) old new × LeafAt t ns n fields slots (leaf_word new p) p → Filled new (p + 1)
  filled_more {old} {new} {p} few f l (kept, a) = record { turn = omega arith; at = λ q h. go q (dec_lt q p) h }
    where
      go : (q : ℕ) → Dec (q < p) → q < p + 1 → LeafAt t ns n fields slots (leaf_word new q) q
      go q (yes m) h =
          leaf_same t n fields slots q ns (leaf_word old q) (leaf_word new q) few (λ k c. kept.same (8 * q + k) (λ u v. omega arith)) (f.at q m)
      go q (no m) h = let e : q ≡ p = omega arith in rw e a
