-- What the second pass over the leaf table reads and writes: the shapes of expressions.
use Rattle.std.specs.Prelude.{◌≡◌, List, ℕ, ◌+◌, ◌*◌, ◌<◌, ◌≤◌, length, set}
use Rattle.cell_meaning.specs.Promises.Leaves.{leaf_word, Simple, Last, ShapeAt}

-- past a simple operand comes one of the n tokens or the end, and the end is no operator
pub record Linked (n : ℕ) (leaves : List ℕ) : Type 0 where
  pub onward : (p : ℕ) → p ≤ n → Simple (leaf_word leaves p 0) → leaf_word leaves p 2 ≤ n
  pub inside : (p : ℕ) → p ≤ n → (leaf_word leaves p 3 ≡ 0 → ⊥) → p < n

-- the operand at a position is simple, and l is the level behind it; or l is no level
pub record After (leaves : List ℕ) (p l : ℕ) : Type 0 where
  pub level : l < 5 → Simple (leaf_word leaves p 0) × (leaf_word leaves (leaf_word leaves p 2) 3 ≡ l)

-- s is right as the word 7 of a position
pub record Shape (leaves : List ℕ) (p s : ℕ) : Type 0 where
  pub alone : s ≡ 1 → Last leaves p
  pub related : s ≡ 2
      → Simple (leaf_word leaves p 0) × (1 ≤ leaf_word leaves (leaf_word leaves p 2) 3) × (leaf_word leaves (leaf_word leaves p 2) 3 ≤ 2) × Last leaves (leaf_word leaves p 2 + 1)

-- word 7 of a position is written
pub record LeafWritten (p s : ℕ) (old new : List ℕ) : Type 0 where
  pub is : new ≡ set old (8 * p + 7) s
  pub room : 8 * p + 7 < length old

-- the positions below `end` have their word 7, and no other words are written
pub record LeafShaped (end : ℕ) (old new : List ℕ) : Type 0 where
  pub same : (p k : ℕ) → k < 7 → leaf_word new p k ≡ leaf_word old p k
  pub shape : (p : ℕ) → p < end → ShapeAt new p
