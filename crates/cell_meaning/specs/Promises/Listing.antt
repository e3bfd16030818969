-- The relative indices that are written in the tokens of a table, from one position up to another.
use Rattle.std.specs.Prelude.{◌≡◌, Bool, ◌&&◌, ◌||◌, List, [], ◌∷◌, ◌++◌, ℕ, zero, suc, ◌+◌, ◌≤◌, eqb, ltb, length, if◌then◌else◌}
use Rattle.value.specs.Limits.{most_open}
use Rattle.token.specs.Kind.{keyword, delimiter}
use Rattle.program.specs.Syntax.{Range}
use Rattle.cell_meaning.specs.Written.{Relative, relative_of}
use Rattle.cell_meaning.specs.Promises.Stands.{range_in, indices_in}
use Rattle.cell_meaning.specs.Links.{Table}

-- a relative index begins at a position: at its `[` the position past it is noted; at the `[` of an array constant's element none is
unfoldable pub is_index : Table → ℕ → Bool
is_index t at = eqb (t.kind at) delimiter.bracket && ltb 0 (t.word3 at)

-- the position behind what stands at a position: a loop, a declaration or a relative index, else one token
unfoldable pub behind : Table → ℕ → ℕ
behind t at =
    if eqb (t.kind at) keyword.forall || eqb (t.kind at) keyword.const || is_index t at then t.past at
    else at + 1

-- the indices that are written in what stands at a position; `part` are those of a loop's part. One loop more than can be open together
-- counts as empty
unfoldable pub written_at : Table → List Range → ℕ → List Relative → List Relative
written_at t loops at part =
    if eqb (t.kind at) keyword.forall then (if ltb (length loops) most_open then part else [])
    else if is_index t at then relative_of loops (indices_in t t.dims (at + 1))
    else []

-- those from a position up to another, under the ranges of the open loops, outermost first; by fuel, of which there must be enough
unfoldable pub written_from : ℕ → Table → List Range → ℕ → ℕ → List Relative
written_from zero t loops at to = []
written_from (suc fuel) t loops at to =
    if ltb at to then
    written_at t loops at (written_from fuel t (loops ++ (range_in t (at + 1) ∷ [])) (t.inner at) (t.past at)) ++ written_from fuel t loops (behind t at) to
    else []

-- these are the indices written from a position up to another
pub record Writes (t : Table) (loops : List Range) (at to : ℕ) (ws : List Relative) : Type 0 where
  pub enough : ℕ
  pub says : (fuel : ℕ) → enough ≤ fuel → written_from fuel t loops at to ≡ ws
