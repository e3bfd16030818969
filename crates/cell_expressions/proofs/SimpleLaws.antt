-- The laws of expressions of one or two operands, by the shapes that the leaf table has.
use Prim.Native.Nat.{ℕ, ◌+◌, ◌<◌, ◌≤◌}
use native.Mathlib.Decide.{dec_lt}
use native.Mathlib.Omega.{arith}
use mathlib.Core.Path.{◌≡◌, refl, sym, ◌∙◌}
use mathlib.Core.List.{List}
use lib.ListN.{take}
use lib.IntN.{ℤ}
use Rattle.token.specs.Kind.{level_of}
use Rattle.value.specs.declared.Value.{Value}
use Rattle.cell_meaning.specs.Operators.{compare}
use Rattle.cell_meaning.specs.Links.{word_in}
use Rattle.cell_meaning.specs.Promises.Leaves.{leaf_word, Simple, Last}
use Rattle.cell_operands.specs.Promises.Working.{EvaluatedTo, site_table, env_of, SiteReady, Leaf, Quick}
use Rattle.cell_operands.specs.declared.Site.{Site}
use Rattle.cell_operands.proofs.NotedLaws.{leaf_within, leaf_onto, level_at, operator_at, operator_within}
use Rattle.cell_expressions.proofs.ExpressionLaws.{simple_alone, simple_related}

module _ {leaves words sizes point : List ℕ} {grid : List ℤ} {site : Site} {depth : ℕ} (r : SiteReady leaves words sizes point grid site depth) where
  abbrev Operand : List ℤ → List ℤ → ℕ → Value → ℕ → Type 0
  Operand vars index p v past = Leaf (site_table words sizes site) (env_of words sizes grid site) (take site.slots vars) (take depth index) site.tokens p (EvaluatedTo v past)

  abbrev Whole : List ℤ → List ℤ → ℕ → Value → ℕ → Type 0
  Whole vars index p v past = Quick (site_table words sizes site) (env_of words sizes grid site) (take site.slots vars) (take depth index) site.tokens p 1 (EvaluatedTo v past)

  module _ {at shape : ℕ} (l : at ≤ site.tokens) (es : shape ≡ leaf_word leaves at 7) (some : shape ≡ 0 → ⊥) (few : shape ≤ 2) where
    -- the first operand
    pub first_simple : Simple (leaf_word leaves at 0)
    first_simple = go (dec_lt shape 2)
      where
        go : Dec (shape < 2) → Simple (leaf_word leaves at 0)
        go (yes h) = let e : shape ≡ 1 = omega arith in ((r.noted.shape at l).alone (sym es ∙ e)).0
        go (no h) = let e : shape ≡ 2 = omega arith in ((r.noted.shape at l).related (sym es ∙ e)).0

    module _ {next : ℕ} (en : next ≡ leaf_word leaves at 2) where
      first_within : next ≤ site.tokens
      first_within = let s = first_simple in rw en ((r.noted.at at l).onward (λ z. omega arith)).1

      -- the level of what stands behind it
      level_behind : leaf_word leaves next 3 ≡ level_of (word_in words site.tokens 0 next)
      level_behind = level_at r next first_within refl

      pub one_operand : (vars index : List ℤ) {a : Value} → shape ≡ 1 → Operand vars index at a (leaf_word leaves at 2) → Whole vars index at a next
      one_operand vars index h x = simple_alone _ _ _ _ _ at l (leaf_onto _ _ _ _ _ at en x) level_behind (rw en ((r.noted.shape at l).alone (sym es ∙ h)).1)

      module _ (two : shape ≡ 1 → ⊥) where
        behind : (1 ≤ leaf_word leaves next 3) × (leaf_word leaves next 3 ≤ 2) × Last leaves (next + 1)
        behind = let e : shape ≡ 2 = omega arith in let h = (r.noted.shape at l).related (sym es ∙ e) in rw en (h.1, h.2, h.3)

        -- the operator between the operands
        pub between : next < site.tokens
        between = operator_within r next first_within refl behind.0

        -- the second operand
        pub second_simple : Simple (leaf_word leaves (next + 1) 0)
        second_simple = behind.2.0

        pub two_operands : (vars index : List ℤ) {a b v : Value} {op past : ℕ} → Operand vars index at a (leaf_word leaves at 2) → Operand vars index (next + 1) b (leaf_word leaves (next + 1) 2)
            → past ≡ leaf_word leaves (next + 1) 2 → op ≡ leaf_word leaves next 1 → v ≡ compare op a.n b.n → Whole vars index at v past
        two_operands vars index {past} x y ep eo e =
            let z = leaf_onto _ _ _ _ _ (next + 1) ep y in
            simple_related _ _ _ _ _ at l (leaf_onto _ _ _ _ _ at en x) level_behind behind.0 behind.1 between (operator_at r next first_within refl behind.0 eo) z
            (level_at r past (leaf_within _ _ _ _ _ _ z refl).1 {k = leaf_word leaves past 3} refl) (rw ep behind.2.1) e
