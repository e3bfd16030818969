-- The numbers that bound a source and a grid.
use Rattle.std.specs.Prelude.{ℕ, ◌*◌}

-- bytes of a source
abbrev pub most_bytes : ℕ
most_bytes = 65535

-- tokens of a source, and the words of the word table, four a token
abbrev pub most_tokens : ℕ
most_tokens = 4096

abbrev pub table_words : ℕ
table_words = 4 * most_tokens

-- names in use together, and the words of the name list, four a name
abbrev pub most_names : ℕ
most_names = 256

abbrev pub name_words : ℕ
name_words = 4 * most_names

-- `if`, `forall`, `(` and `[` open together
abbrev pub most_open : ℕ
most_open = 16

-- dimensions, cells along one of them, and cells of a grid
abbrev pub most_dims : ℕ
most_dims = 3

abbrev pub most_along : ℕ
most_along = 4096

abbrev pub most_cells : ℕ
most_cells = 1048576

-- fields of a cell, values of an array constant, values of a loop's range
abbrev pub most_fields : ℕ
most_fields = 8

abbrev pub most_elements : ℕ
most_elements = 1024

abbrev pub most_turns : ℕ
most_turns = 4096

-- places of a reach that are listed
abbrev pub most_places : ℕ
most_places = 256
