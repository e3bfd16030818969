-- What is written at one position of the leaf table, and what stays.
use Rattle.std.specs.Prelude.{◌≡◌, Bool, true, ◌⊎◌, List, ℕ, zero, suc, ◌+◌, ◌*◌, ◌<◌, ◌≤◌, get_or, ℤ}
use Rattle.token.specs.Kind.{kind, delimiter}
use Rattle.cell_meaning.specs.Links.{Table}
use Rattle.cell_meaning.specs.Promises.Leaves.{leaf_word, sort, OffsetsAre}
use Rattle.cell_leaves.specs.declared.Leaf.{Leaf}

-- word k of a position, where k is below 4
abbrev pub words_of : Leaf → ℕ → ℕ
words_of l zero = l.sort
words_of l (suc zero) = l.word
words_of l (suc (suc zero)) = l.next
words_of l (suc (suc (suc k))) = l.level

-- the kind of a token that names a field, and the sort of the operand there
abbrev pub FieldSort : ℕ → ℕ → Type 0
FieldSort k s = ((k ≡ kind.cell) × (s ≡ sort.own)) ⊎ ((k ≡ delimiter.bracket) × (s ≡ sort.near))

-- the entries before `low`, and those from `high` on, are as they were
pub record LeavesKept (low high : ℕ) (old new : List ℕ) : Type 0 where
  pub same : (j : ℕ) → (low ≤ j → j < high → ⊥) → get_or new j 0 ≡ get_or old j 0

-- the words w of the position p have the offsets, unless they are refused
abbrev pub Offsets : Table → List ℕ → (ℕ → ℕ) → ℕ → Bool → Type 0
Offsets t sizes w p b = b ≡ true → (vs : List ℤ) → OffsetsAre t vs w sizes (p + 1) 4

-- the first four words of the position p are written, and no others
pub record LeavesNoted (l : Leaf) (p : ℕ) (old new : List ℕ) : Type 0 where
  pub words : (k : ℕ) → k < 4 → leaf_word new p k ≡ words_of l k
  pub kept : LeavesKept (8 * p) (8 * p + 4) old new
