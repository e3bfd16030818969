-- The spelling of a reply as bytes, and what the functions promise of it.
use Rattle.std.specs.Prelude.{◌≡◌, true, false, List, [], ◌∷◌, ℕ, ◌+◌, ◌<◌, ◌≤◌, length, take, drop, if◌then◌else◌, Option, Some, None}
use Rattle.value.specs.Limits.{most_bytes}
use Rattle.token.specs.Lexeme.{is_built_in}
use Rattle.spelling.specs.declared.Part as code
use Rattle.spelling.specs.declared.Part.TheVariants.{Listed, Source}
use Rattle.spelling.specs.declared.Told.{Told}
use Rattle.spelling.specs.Spelling.{Part, part, part_at}

-- a part of the source, or of the list
abbrev pub taken : List ℕ → List ℕ → Part → List ℕ
taken source list p = take p.len (drop p.start (if p.listed then list else source))

-- the spelling of a reply. With another built-in list every source is refused 1, and there is none
unfoldable pub spelling_of : List ℕ → List ℕ → ℕ → ℕ → List ℕ
spelling_of source list number place = if is_built_in list then taken source list (part_at source number place) else []

abbrev pub told_entries : Told → List ℕ
told_entries t = t.stands ∷ t.start ∷ t.len ∷ []

-- the part that the code has found
abbrev pub part_of : Option code.Part → Part
part_of (Some (Listed start len)) = part true start len
part_of (Some (Source start len)) = part false start len
part_of None = part false 0 0

-- what `part_at` promises: the part, which is not empty and lies within the list or the source
pub record IsPart (source : List ℕ) (number place : ℕ) (p : Option code.Part) : Type 0 where
  pub is : part_of p ≡ part_at source number place
  pub in_list : (start len : ℕ) → p ≡ Some (Listed start len) → (0 < len) × (start + len ≤ 16)
  pub in_source : (start len : ℕ) → p ≡ Some (Source start len) → (0 < len) × (start + len ≤ length source) × (start + len ≤ most_bytes)
