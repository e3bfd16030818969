-- What the function promises that compares one entry.
use Rattle.std.specs.Prelude.{◌≡◌, List, [], ◌∷◌, ℕ, ◌+◌, ◌*◌, ltb, ℤ, pos, if◌then◌else◌}
use Rattle.std.proofs.lemmas.List.Edits.{sets}
use Rattle.value.specs.Number.{eq_z}

-- how many differences there are once an entry with these values is compared, where there were n before it
abbrev pub next_total : ℕ → ℤ → ℤ → ℕ
next_total n a b = if eq_z a b then n else n + 1

-- the room then: difference n stands in its three places, if the room has them
abbrev pub next_room : ℕ → ℕ → ℕ → ℤ → ℤ → List ℤ → List ℤ
next_room k n entry a b room =
    if eq_z a b then room
    else if ltb n k then sets room (3 * n) (pos entry ∷ a ∷ b ∷ [])
    else room

-- what `compare_entry` promises
pub record ComparesEntry (k n entry : ℕ) (a b : ℤ) (room : List ℤ) (r : ℕ) (room' : List ℤ) : Type 0 where
  pub total : r ≡ next_total n a b
  pub room_is : room' ≡ next_room k n entry a b room
