-- What the functions over one relative index promise.
use Rattle.std.specs.Prelude.{◌≡◌, Bool, true, false, List, ℕ, ◌<◌, ◌≤◌, min, eqb, ltb, ℤ, pos, ◌+ℤ◌, get_or, if◌then◌else◌}
use Rattle.std.proofs.Math.Option.{Option, none, some}
use Rattle.value.specs.Limits.{most_places}
use Rattle.value.specs.Number.{in_range}
use Rattle.value.specs.Worked.{decode_of, span_of}
use Rattle.automaton.specs.Listed.{list_of}
use Rattle.program.specs.Syntax.{Range, range, Index, fixed, moving}
use Rattle.program.specs.declared.Rule.{Rule}
use Rattle.cell_meaning.specs.Promises.Stands.{rule_table, indices_in}
use Rattle.cell_meaning.specs.Written.{Relative}
use Rattle.cell_meaning.specs.Places.{used_ranges, choice_count, vectors_of}
use Rattle.run_meaning.specs.declared.Bounds.{Bounds}
use Rattle.run_meaning.specs.declared.Reach.{Reach}
use Rattle.run_places.specs.declared.loops.Loops.{Loops}
use Rattle.run_meaning.specs.Promises.Fitting.{place_at, places_of}

-- the values that the first words of a list stand for
abbrev pub vector_values : List ℕ → ℕ → List ℤ
vector_values words depth = list_of (λ d. decode_of (get_or words d 0)) depth

-- the values that two words stand for
abbrev pub ends : ℕ → ℕ → Range
ends low high = range (decode_of low) (decode_of high)

-- the ranges of the open loops, of which there are `depth`, outermost first
abbrev pub loops_of : List ℕ → List ℕ → ℕ → List Range
loops_of lows highs depth = list_of (λ k. ends (get_or lows k 0) (get_or highs k 0)) depth

-- the ranges of open loops
abbrev pub open_loops : Loops → List Range
open_loops l = loops_of l.lows l.highs l.depth

-- an element of a relative index is the variable of the loop at a depth
abbrev pub is_variable : ℕ → Index → Bool
is_variable depth (fixed place z) = false
is_variable depth (moving place d) = eqb d depth

-- how many values there are from one word's to another's, 257 for more than 256; so many from the first on are in range
pub record Spanned (low high n : ℕ) : Type 0 where
  pub is : n ≡ min 257 (span_of (decode_of low) (decode_of high))
  pub inside : (k : ℕ) → k < n → in_range (decode_of low +ℤ pos k) ≡ true

-- the first places of a list are given ones, if there are not more than 256
pub record Vectors (dims count : ℕ) (place : ℕ → List ℤ) (list : List (List ℕ)) : Type 0 where
  pub each : count ≤ most_places → (e : ℕ) → e < count → place_at list dims e ≡ place e

-- the index vectors that a relative index can take; none, if there are too many
unfoldable pub index_places : ℕ → Relative → Option (List (List ℤ))
index_places dims r = if ltb most_places (choice_count (used_ranges r.loops r.elements)) then none else some (vectors_of dims r)

-- the relative index whose elements stand from a position on
abbrev pub relative_at : List ℕ → Rule → List Range → ℕ → Relative
relative_at words rule loops at = record { loops = loops; elements = indices_in (rule_table words rule) rule.dims at }

pub record IndexReach (words : List ℕ) (rule : Rule) (loops : List Range) (at : ℕ) (bounds : Bounds) (r : Reach) : Type 0 where
  pub bounded : r.bounds ≡ bounds
  pub places : places_of r rule.dims ≡ index_places rule.dims (relative_at words rule loops at)
