-- What the functions that set a block promise.
use Rattle.std.specs.Prelude.{◌≡◌, Bool, true, false, List, [], ◌∷◌, ℕ, ◌*◌, ◌≤◌, length, drop, ℤ, Option as Optional, Some, None}
use Rattle.std.proofs.Math.Option.{Option, some}
use Rattle.automaton.specs.Shape as shape
use Rattle.list_meaning.specs.Text.{pieces}
use Rattle.list_meaning.specs.Lines.{Said, bad, time, cell, said_in, said}
use Rattle.list_meaning.specs.ListChecking.{Limits}
use Rattle.list_meaning.specs.Setting.{store_values, set_lines}
use Rattle.list_meaning.specs.Promises.Passing.{LinePasses}
use Rattle.list_reader.specs.Promises.Values.{line_values}
use Rattle.list_reader.specs.Promises.Checks.{cell_said}
use Rattle.list_reader.specs.declared.setting.Block.{Block}

-- the values of a line are stored from entry e on
pub record StoresValues (line : List ℕ) (e : ℕ) (g h : List ℤ) : Type 0 where
  pub is : (vs : List (Option ℤ)) → line_values (pieces 0 line) ≡ some vs → h ≡ store_values g e vs

-- the values of a cell's line are stored, which stands in `line` from behind its `[` on
pub record StoresCell (sizes : List ℕ) (fields : ℕ) (line : List ℕ) (g h : List ℤ) : Type 0 where
  pub is : (is : List ℕ) (vs : List (Option ℤ)) → cell_said (pieces 0 line) ≡ cell is vs → length is ≡ length sizes
      → h ≡ store_values g (shape.cell_number sizes is * fields) vs

-- the values of a cell's line are stored
pub record StoresLine (sizes : List ℕ) (fields : ℕ) (line : List ℕ) (g h : List ℤ) : Type 0 where
  pub is : (is : List ℕ) (vs : List (Option ℤ)) → said_in (pieces 0 line) ≡ cell is vs → length is ≡ length sizes
      → h ≡ store_values g (shape.cell_number sizes is * fields) vs

-- r says whether a line is a time's or a cell's
pub record TellsTime (line : List ℕ) (r : Bool) : Type 0 where
  pub time_line : (t : ℕ) → said_in (pieces 0 line) ≡ time t → r ≡ true
  pub cell_line : (is : List ℕ) (vs : List (Option ℤ)) → said_in (pieces 0 line) ≡ cell is vs → r ≡ false

-- lines that begin with a block, or none
abbrev pub AtBlock : List Said → Type 0
AtBlock [] = Unit {0}
AtBlock (bad ∷ ss) = ⊥
AtBlock (time t ∷ ss) = Unit {0}
AtBlock (cell is vs ∷ ss) = ⊥

-- of a list that passes behind the time t from `at` on: the rest of the block of t is set, and r is behind it
pub record SetBlock (q : Limits) (sizes : List ℕ) (fields t : ℕ) (text : List ℕ) (at r : ℕ) (g h : List ℤ) : Type 0 where
  pub sets : set_lines sizes fields t true g (said (drop at text)) ≡ h
  -- what other times set stands from r on
  pub skips : (u : ℕ) (k : List ℤ) → set_lines sizes fields u false k (said (drop at text)) ≡ set_lines sizes fields u false k (said (drop r text))
  -- and passes there too
  pub number : ℕ
  pub passes : LinePasses q (some t) number (said (drop r text))
  pub opens : AtBlock (said (drop r text))

pub record SetsLines (sizes : List ℕ) (fields : ℕ) (text : List ℕ) (at r : ℕ) (g h : List ℤ) : Type 0 where
  pub is : (q : Limits) (t n : ℕ) → q.sizes ≡ sizes → LinePasses q (some t) n (said (drop at text)) → SetBlock q sizes fields t text at r g h
  pub within : r ≤ length text

-- the block that begins at `at`: its time, and where its cells begin
pub record BlockBegins (text : List ℕ) (t : ℕ) (ss : List Said) (r : Optional Block) : Type 0 where
  pub behind : ℕ
  pub is : r ≡ Some (record { time = t; behind = behind })
  pub rest : said (drop behind text) ≡ ss
  pub within : behind ≤ length text

-- r is the block that begins at `at`, if the text does not end there
pub record NextTime (text : List ℕ) (at : ℕ) (r : Optional Block) : Type 0 where
  pub ends : said (drop at text) ≡ [] → r ≡ None
  pub begins : (t : ℕ) (ss : List Said) → said (drop at text) ≡ time t ∷ ss → BlockBegins text t ss r
