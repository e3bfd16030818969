-- Lengths of buffers that the code uses.
use Rattle.std.specs.Prelude.{ℕ, ◌*◌}
use Rattle.value.specs.Limits.{most_cells, most_places}

-- the words of a list of places, three a place
abbrev pub place_words : ℕ
place_words = 3 * most_places

-- cells of a band with its border rows, which may stand in it more than once
abbrev pub most_room : ℕ
most_room = 4 * most_cells
