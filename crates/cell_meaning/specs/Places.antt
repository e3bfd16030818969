-- The places that a program can read: the index vectors that its relative indices can take, the own cell's included, each once before wrapping.
use Rattle.std.specs.Prelude.{Bool, false, not, ◌||◌, List, [], ◌∷◌, ◌++◌, map, ℕ, length, get_or, eqb, leb, ltb, ℤ, pos, ◌+ℤ◌, if◌then◌else◌}
use Rattle.std.proofs.Math.Option.{Option, none, some}
use Rattle.value.specs.Limits.{most_places}
use Rattle.value.specs.Worked.{span_of}
use Rattle.automaton.specs.Listed.{list_of}
use Rattle.automaton.specs.Shape.{product, coordinates}
use Rattle.automaton.specs.Grid.{differ}
use Rattle.program.specs.Syntax.{Range, no_range, Index, fixed, moving, Program}
use Rattle.cell_meaning.specs.Evaluation.{offsets}
use Rattle.cell_meaning.specs.Written.{Relative, relatives_in}

-- ---- one relative index

-- the variable of the loop at a depth stands in a relative index
abbrev pub uses : ℕ → List Index → Bool
uses depth [] = false
uses depth (fixed place z ∷ is) = uses depth is
uses depth (moving place d ∷ is) = eqb d depth || uses depth is

-- the values that an index variable goes through for a relative index: its range if it stands there, else 0 alone
abbrev pub used_range : List Range → List Index → ℕ → Range
used_range loops is depth = if uses depth is then get_or loops depth no_range else no_range

-- those of each open loop, outermost first
abbrev pub used_ranges : List Range → List Index → List Range
used_ranges loops is = list_of (used_range loops is) (length loops)

-- how many values a range has
abbrev pub span : Range → ℕ
span r = span_of r.low r.high

-- in each range the k-th value, for the k of that range
abbrev pub values_at : List Range → List ℕ → List ℤ
values_at [] ks = []
values_at (r ∷ rs) [] = []
values_at (r ∷ rs) (k ∷ ks) = (r.low +ℤ pos k) ∷ values_at rs ks

-- the e-th choice of values, in the order of the cells of a grid whose sizes are the numbers of values
abbrev pub choice_at : List Range → ℕ → List ℤ
choice_at rs e = values_at rs (coordinates (map span rs) e)

-- how many choices there are
abbrev pub choice_count : List Range → ℕ
choice_count rs = product (map span rs)

-- the index vectors that a relative index can take: one for each choice of values for the variables that stand in it, so that elements with
-- the same variable move together
unfoldable pub vectors_of : ℕ → Relative → List (List ℤ)
vectors_of dims r =
    let rs = used_ranges r.loops r.elements in
    list_of (λ e. offsets dims (choice_at rs e) r.elements) (choice_count rs)

-- ---- all of a program

-- an index vector is in a list
unfoldable pub has_place : List (List ℤ) → List ℤ → Bool
has_place [] ds = false
has_place (p ∷ ps) ds = not (differ p ds) || has_place ps ds

-- one more place, unless it is in the list already; none, if there would be too many
unfoldable pub add_place : Option (List (List ℤ)) → List ℤ → Option (List (List ℤ))
add_place none ds = none
add_place (some ps) ds =
    if has_place ps ds then some ps
    else if leb most_places (length ps) then none
    else some (ps ++ (ds ∷ []))

unfoldable pub add_places : Option (List (List ℤ)) → List (List ℤ) → Option (List (List ℤ))
add_places ps [] = ps
add_places ps (ds ∷ dss) = add_places (add_place ps ds) dss

-- those of a relative index. They are pairwise different, so that there are too many where one index alone has them
unfoldable pub add_relative : ℕ → Option (List (List ℤ)) → Relative → Option (List (List ℤ))
add_relative dims ps r =
    if ltb most_places (choice_count (used_ranges r.loops r.elements)) then none
    else add_places ps (vectors_of dims r)

unfoldable pub add_relatives : ℕ → Option (List (List ℤ)) → List Relative → Option (List (List ℤ))
add_relatives dims ps [] = ps
add_relatives dims ps (r ∷ rs) = add_relatives dims (add_relative dims ps r) rs

-- the own cell
abbrev pub own_place : ℕ → List ℤ
own_place dims = offsets dims [] []

-- the places of a program, the own cell first, the others in the order of the source; none, if there would be more than 256
unfoldable pub places : Program → Option (List (List ℤ))
places p = add_relatives p.dims (some (own_place p.dims ∷ [])) (relatives_in p)
