-- What setting the block that is due promises.
use Rattle.std.specs.Prelude.{◌≡◌, Bool, true, false, List, ℕ, ◌≤◌, length, eqb, ℤ, Option, Some, None}
use Rattle.value.specs.Limits.{most_fields}
use Rattle.run_meaning.specs.declared.Bounds.{Bounds}
use Rattle.list_reader.specs.declared.setting.Block.{Block}
use Rattle.list_reader.specs.Promises.Points.{Dimensions}
use Rattle.list_reader.specs.Promises.Settings.{NextTime, SetsLines}
use Rattle.run_marking.specs.Promises.Opened.{Markable, MarksChanged}

-- the block that is set next, if there is one
abbrev pub Next : Type 0
Next = Option Block

-- whether a block is due at a time
abbrev pub is_due : Next → ℕ → Bool
is_due (Some b) t = eqb b.time t
is_due None t = false

-- where its cells' lines begin
abbrev pub lines_of : Next → ℕ
lines_of (Some b) = b.behind
lines_of None = 0

-- what is asked before the block is set
pub record Settable (text sizes : List ℕ) (bounds : Bounds) (backs : List ℕ) (listed fields : ℕ) (grid scratch : List ℤ) (marks : List ℕ) (next : Next) : Type 0 where
  pub within : lines_of next ≤ length text
  pub dimensions : Dimensions sizes
  pub scratch_fits : length scratch ≡ length grid
  pub markable : (old new : List ℤ) → length old ≡ length grid → length new ≡ length grid → Markable sizes bounds backs listed fields old new marks
  pub few_fields : fields ≤ most_fields
  pub few_entries : length grid ≤ 8388608

-- a block that is due is set, and the list's next one follows it: the cells that it opens are marked beside the others, unless all are open. Else all stays
pub record DueSet (text sizes : List ℕ) (bounds : Bounds) (backs : List ℕ) (listed : ℕ) (all_open : Bool) (fields : ℕ) (grid scratch : List ℤ) (marks : List ℕ) (t : ℕ) (next next' : Next) (grid' scratch' : List ℤ) (marks' : List ℕ) : Type 0 where
  pub stays : is_due next t ≡ false → (next' ≡ next) × (grid' ≡ grid) × (scratch' ≡ scratch) × (marks' ≡ marks)
  pub sets : is_due next t ≡ true → (at : ℕ) × SetsLines sizes fields text (lines_of next) at grid grid' × NextTime text at next'
  pub stands : is_due next t ≡ true → all_open ≡ true → (scratch' ≡ scratch) × (marks' ≡ marks)
  pub opens : is_due next t ≡ true → all_open ≡ false → (scratch' ≡ grid) × MarksChanged sizes bounds backs listed fields grid grid' marks marks'
