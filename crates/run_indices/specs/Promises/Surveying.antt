-- What the written indices of a program come to, counted one after another.
use Rattle.std.specs.Prelude.{◌≡◌, Bool, false, ◌&&◌, ◌||◌, List, [], ◌∷◌, ℕ, suc, max, ◌<◌, eqb, ltb, ℤ, nat_abs, length, get_or, set, replicate, Option, Some, None, if◌then◌else◌}
use Rattle.std.proofs.Math.Option as math
use Rattle.std.proofs.Math.Option.{some}
use Rattle.value.specs.Limits.{most_open, most_dims}
use Rattle.automaton.specs.Shape.{Bound}
use Rattle.token.specs.Kind.{keyword}
use Rattle.program.specs.Syntax.{Range}
use Rattle.cell_meaning.specs.Written.{Relative, Written, written_of}
use Rattle.cell_meaning.specs.Promises.Stands.{rule_table}
use Rattle.cell_meaning.specs.Promises.Listing.{written_at, written_from, Writes}
use Rattle.cell_meaning.specs.Places.{own_place, add_relatives}
use Rattle.run_meaning.specs.declared.Bounds.{Bounds}
use Rattle.program.specs.Refusal.{Refusal, refusal, no_refusal}
use Rattle.program.specs.declared.Rule.{Rule}
use Rattle.run_meaning.specs.Admission.{too_far}
use Rattle.run_meaning.specs.Reach.{own_only, widen, widened}
use Rattle.program.specs.Promises.Fitting.{Sized}
use Rattle.run_meaning.specs.Promises.Fitting.{bound_at, bounds_of, places_of}
use Rattle.run_places.specs.Promises.Vectors.{ends}
use Rattle.run_indices.specs.declared.Count.{Count}
use Rattle.run_indices.specs.declared.Survey.{Survey}

-- ---- the count

-- the first index that is larger in size than its dimension, number 0 for none; and the bounds, one for each dimension
pub record Tally : Type 0 where
  pub far : Refusal
  pub bounds : List Bound

-- an end of the values is larger in size than the dimension
unfoldable pub goes_past : ℕ → Range → Bool
goes_past size r = ltb size (nat_abs r.low) || ltb size (nat_abs r.high)

-- one more written index
unfoldable pub tallied : List ℕ → Tally → Written → Tally
tallied sizes s w =
    record {
      far = if eqb s.far.number 0 && goes_past (get_or sizes w.dim 0) w.values then refusal 23 w.place else s.far;
      bounds = set s.bounds w.dim (widen (get_or s.bounds w.dim own_only) w.values);
    }

unfoldable pub tally : List ℕ → Tally → List Written → Tally
tally sizes s [] = s
tally sizes s (w ∷ ws) = tally sizes (tallied sizes s w) ws

-- an index that is larger in size than its dimension is refused at its place
abbrev pub far_of : Option ℕ → Refusal
far_of None = no_refusal
far_of (Some place) = refusal 23 place

-- what a count says, in the first dimensions
abbrev pub tally_of : Count → ℕ → Tally
tally_of s dims = record { far = far_of s.far; bounds = bounds_of s.bounds dims }

-- ---- the survey

-- the count of the elements, and the places
pub record Found : Type 0 where
  pub tally : Tally
  pub places : math.Option (List (List ℤ))

-- with more relative indices
abbrev pub found : List ℕ → ℕ → Found → List Relative → Found
found sizes dims f rs = record { tally = tally sizes f.tally (written_of rs); places = add_relatives dims f.places rs }

-- what a survey says, in the first dimensions
abbrev pub survey_of : Survey → ℕ → Found
survey_of s dims = record { tally = record { far = far_of s.far; bounds = bounds_of s.reach.bounds dims }; places = places_of s.reach dims }

-- ---- what the walk has at hand

-- what is asked
pub record Walks (words : ℕ) (rule : Rule) (sizes : ℕ) : Type 0 where
  pub sized : Sized words rule
  pub dims : sizes ≡ rule.dims

-- the indices that are written from a position up to another: each step leads forward, so that there is enough fuel
abbrev pub listed_places : List ℕ → Rule → List Range → ℕ → ℕ → List Relative
listed_places words rule loops at to = written_from (suc rule.tokens) (rule_table words rule) loops at to

-- ---- promises

-- one dimension of a box is widened, and the others stay
pub record Wider (bounds : Bounds) (dim back ahead : ℕ) (r : Bounds) : Type 0 where
  pub here : bound_at r dim ≡ record { back = max (bound_at bounds dim).back back; ahead = max (bound_at bounds dim).ahead ahead }
  pub others : (k : ℕ) → k < most_dims → (k ≡ dim → ⊥) → bound_at r k ≡ bound_at bounds k

-- one written index is counted, with the values that two words stand for, in a dimension of a given size
pub record Counts (s : Count) (size place dim low high : ℕ) (r : Count) : Type 0 where
  pub far : far_of r.far ≡ (if eqb (far_of s.far).number 0 && goes_past size (ends low high) then refusal 23 place else far_of s.far)
  pub here : bound_at r.bounds dim ≡ widen (bound_at s.bounds dim) (ends low high)
  pub others : (k : ℕ) → k < most_dims → (k ≡ dim → ⊥) → bound_at r.bounds k ≡ bound_at s.bounds k

-- what is written at a position where no loop opens is counted
pub record CountsAt (words : List ℕ) (rule : Rule) (sizes : List ℕ) (loops : List Range) (at : ℕ) (s r : Survey) : Type 0 where
  pub says : (part : List Relative) → (eqb ((rule_table words rule).kind at) keyword.forall && ltb (length loops) most_open) ≡ false
      → survey_of r rule.dims ≡ found sizes rule.dims (survey_of s rule.dims) (written_at (rule_table words rule) loops at part)

-- the survey of a program that stands in a table
pub record Surveyed (words : List ℕ) (rule : Rule) (sizes : List ℕ) (r : Survey) : Type 0 where
  pub far : (rs : List Relative) → Writes (rule_table words rule) [] rule.body rule.tokens rs → far_of r.far ≡ too_far sizes (written_of rs)
  pub bounds : (rs : List Relative) → Writes (rule_table words rule) [] rule.body rule.tokens rs
      → bounds_of r.reach.bounds rule.dims ≡ widened (replicate rule.dims own_only) (written_of rs)
  pub places : (rs : List Relative) → Writes (rule_table words rule) [] rule.body rule.tokens rs
      → places_of r.reach rule.dims ≡ add_relatives rule.dims (some (own_place rule.dims ∷ [])) rs
