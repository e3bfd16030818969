-- What is lent to the evaluation of a cell, as promises see it.
use Rattle.std.specs.Prelude.{List, ℕ, ◌+◌, ℤ, length, take}
use Rattle.value.specs.Worked.{value}
use Rattle.value.specs.declared.Value.{Value}
use Rattle.cell_meaning.specs.Evaluation.{Env, entry, offsets}
use Rattle.cell_meaning.specs.Promises.Stands.{indices_in}
use Rattle.cell_meaning.specs.Links.{Table}
use Rattle.cell_operands.specs.declared.Site.{Site}
use Rattle.cell_operands.specs.Promises.Working.{site_table, env_of, SiteReady}

abbrev pub SceneLent : Type 0
SceneLent = record { leaves : List ℕ; words : List ℕ; sizes : List ℕ; point : List ℕ; grid : List ℤ; site : Site; depth : ℕ }

-- what is asked of it
abbrev pub SceneReady : SceneLent → Type 0
SceneReady s = SiteReady s.leaves s.words s.sizes s.point s.grid s.site s.depth

-- with one more loop open
abbrev pub deeper : SceneLent → SceneLent
deeper s = record { leaves = s.leaves; words = s.words; sizes = s.sizes; point = s.point; grid = s.grid; site = s.site; depth = s.depth + 1 }

abbrev pub table : SceneLent → Table
table s = site_table s.words s.sizes s.site

abbrev pub env : SceneLent → Env
env s = env_of s.words s.sizes s.grid s.site

-- the field that is noted at the `[` at a position, of the cell at the relative index after it
abbrev pub neighbour_field : SceneLent → List ℤ → ℕ → Value
neighbour_field s index at =
    value (entry ((env s).look (offsets (length s.sizes) (take s.depth index) (indices_in (table s) (length s.sizes) (at + 1)))) ((table s).word2 at))

-- a promise of what stands in the table, by what a cell's evaluation reads, the variables in use, the index variables of the open loops, and the number of tokens
abbrev pub In : {A : Type 1} → (Table → Env → List ℤ → List ℤ → ℕ → A) → SceneLent → List ℤ → List ℤ → A
In Promise s vars index = Promise (table s) (env s) (take s.site.slots vars) (take s.depth index) s.site.tokens
