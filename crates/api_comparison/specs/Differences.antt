-- Two grids compared, without a source: where they differ, what a comparison returns, and what it leaves in the room lent for the list.
use Rattle.std.specs.Prelude.{Bool, ◌&&◌, List, [], ◌∷◌, ◌++◌, ℕ, ◌+◌, ◌*◌, length, take, drop, eqb, leb, ℤ, pos, if◌then◌else◌}
use Rattle.value.specs.Number.{eq_z}

-- an entry that differs: its number, its value in the left grid and its value in the right grid
abbrev pub Difference : Type 0
Difference = record { entry : ℕ; left : ℤ; right : ℤ }

abbrev pub difference : ℕ → ℤ → ℤ → Difference
difference n a b = record { entry = n; left = a; right = b }

-- the differing entries of two grids in rising order, where the first entry has number n
unfoldable pub differences : ℕ → List ℤ → List ℤ → List Difference
differences n [] right = []
differences n (a ∷ left) [] = []
differences n (a ∷ left) (b ∷ right) =
    let rest = differences (n + 1) left right in
    if eq_z a b then rest else difference n a b ∷ rest

-- three numbers for each difference: entry number, left value, right value
abbrev pub triples : List Difference → List ℤ
triples [] = []
triples (d ∷ ds) = pos d.entry ∷ d.left ∷ d.right ∷ triples ds

-- at most so many entries a grid
abbrev pub most_entries : ℕ
most_entries = 2147483647

-- by their lengths: the grids are equally long and not too long, and the room has 3k numbers
unfoldable pub comparable : (left right k room : ℕ) → Bool
comparable left right k room = eqb left right && leb left most_entries && eqb room (3 * k)

-- the number of a reply, and how many entries differ
abbrev pub Comparison : Type 0
Comparison = record { number : ℕ; total : ℕ }

-- what a comparison returns: 0 and how many entries differ; where the lengths are wrong 21 and 0
unfoldable pub compared : (left right : List ℤ) (k : ℕ) (room : List ℤ) → Comparison
compared left right k room =
    if comparable (length left) (length right) k (length room) then record { number = 0; total = length (differences 0 left right) }
    else record { number = 21; total = 0 }

-- a room with the first k of some differences at its start; the remaining room stays
abbrev pub first_written : ℕ → List Difference → List ℤ → List ℤ
first_written k ds room =
    let written = triples (take k ds) in
    written ++ drop (length written) room

-- the room that a comparison leaves; where the lengths are wrong, the room as it was
unfoldable pub compared_room : (left right : List ℤ) (k : ℕ) (room : List ℤ) → List ℤ
compared_room left right k room =
    if comparable (length left) (length right) k (length room) then first_written k (differences 0 left right) room
    else room
