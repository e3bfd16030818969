-- What the laws of proofs/Passing.antt are stated with.
use Rattle.std.specs.Prelude.{ℕ, Bool}
use Rattle.std.proofs.Math.Path.{◌≡◌}
use Rattle.std.proofs.Math.Bool.{true}
use mathlib.Core.List.{List, [], ◌∷◌}
use Rattle.std.proofs.Math.Option.{Option}
use Rattle.std.proofs.Math.Dec.{eqb}
use Rattle.list_meaning.specs.Text.{Line}
use Rattle.list_meaning.specs.Lines.{Said, bad, time, cell}
use Rattle.list_meaning.specs.ListChecking.{Limits, time_behind, check_lines}

-- ---- one line of a list that passes

-- lines pass behind a time, if any
pub record LinePasses (q : Limits) (before : Option ℕ) (n : ℕ) (ss : List Said) : Type 0 where
  pub is : (check_lines q before n ss).number ≡ 0

-- ---- two lists, one behind the other

-- the last time of lines behind a time
abbrev pub last_time : Option ℕ → List Said → Option ℕ
last_time before [] = before
last_time before (s ∷ ss) = last_time (time_behind before s) ss

-- whether the lines behind these are of the block with time t
abbrev pub left_within : ℕ → Bool → List Said → Bool
left_within t w [] = w
left_within t w (bad ∷ ss) = left_within t w ss
left_within t w (time u ∷ ss) = left_within t (eqb u t) ss
left_within t w (cell is vs ∷ ss) = left_within t w ss

-- ---- the text of two lists

-- every line of a text has its end
abbrev pub Ended : List Line → Type 0
Ended [] = Unit {0}
Ended (l ∷ ls) = (l.ended ≡ true) × Ended ls
