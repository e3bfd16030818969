-- The fields of a program that stands in a table, and what a reach record holds.
use Rattle.std.specs.Prelude.{◌≡◌, List, [], ◌∷◌, ℕ, zero, suc, ◌<◌, ◌≤◌, length, get_or, replicate, ltb, ℤ, if◌then◌else◌}
use Rattle.std.proofs.Common.{refl, ap, ◌∙◌, arith}
use Rattle.std.proofs.Math.Option.{Option, none, some}
use Rattle.value.specs.Limits.{most_dims, most_places}
use Rattle.value.specs.Worked.{decode_of}
use Rattle.automaton.specs.Listed.{list_of}
use Rattle.automaton.specs.Promises.ListedLaws.{length_list_of}
use Rattle.automaton.specs.Shape.{Bound}
use Rattle.program.specs.Syntax.{Program}
use Rattle.program.specs.declared.Rule.{Rule}
use Rattle.cell_meaning.specs.Promises.Stands.{Holds}
use Rattle.cell_meaning.specs.Places.{own_place}
use Rattle.run_meaning.specs.Reach.{own_only}
use Rattle.run_meaning.specs.declared.Bound as declared
use Rattle.run_meaning.specs.declared.Bounds.{Bounds}
use Rattle.run_meaning.specs.declared.Reach.{Reach}

-- a program that stands in a table has as many fields as its rule says
pub held_fields : {words : List ℕ} {rule : Rule} (p : Program) → Holds words rule p → length p.fields ≡ rule.fields
held_fields {words} {rule} p h = ap length h.fields ∙ length_list_of _ rule.fields

-- ---- the reach record

-- a bound, as a box of the definition has it
abbrev pub seen : declared.Bound → Bound
seen b = record { back = b.back; ahead = b.ahead }

-- a bound that is in no box
abbrev pub no_bound : declared.Bound
no_bound = record { back = 0; ahead = 0 }

-- a box's bound in one dimension
abbrev pub bound_at : Bounds → ℕ → Bound
bound_at b zero = seen (get_or b.dims 0 no_bound)
bound_at b (suc zero) = seen (get_or b.dims 1 no_bound)
bound_at b (suc (suc k)) = seen (get_or b.dims 2 no_bound)

pub bound_is : (b : Bounds) (k : ℕ) → k < most_dims → seen (get_or b.dims k no_bound) ≡ bound_at b k
bound_is b zero l = refl
bound_is b (suc zero) l = refl
bound_is b (suc (suc zero)) l = refl
bound_is b (suc (suc (suc k))) l = absurd (omega arith)

-- the bounds of the first n dimensions
abbrev pub bounds_of : Bounds → ℕ → List Bound
bounds_of b n = list_of (bound_at b) n

-- no index within a box is larger in size than its dimension
abbrev pub Near : List ℕ → Bounds → Type 0
Near sizes b = (k : ℕ) → k < length sizes → ((bound_at b k).back ≤ get_or sizes k 0) × ((bound_at b k).ahead ≤ get_or sizes k 0)

-- place k of a list of places: the values of its words, one for each dimension
abbrev pub place_at : List (List ℕ) → ℕ → ℕ → List ℤ
place_at places dims k = list_of (λ d. decode_of (get_or (get_or places k []) d 0)) dims

-- so many places; over 256 are too many
abbrev pub place_list : List (List ℕ) → ℕ → ℕ → Option (List (List ℤ))
place_list places dims count = if ltb most_places count then none else some (list_of (place_at places dims) count)

-- the places of a reach
abbrev pub places_of : Reach → ℕ → Option (List (List ℤ))
places_of r dims = place_list r.places dims r.count

-- the reach that has the own cell alone
pub record OwnOnly (r : Reach) : Type 0 where
  pub bounds : (dims : ℕ) → bounds_of r.bounds dims ≡ replicate dims own_only
  pub places : (dims : ℕ) → places_of r dims ≡ some (own_place dims ∷ [])
