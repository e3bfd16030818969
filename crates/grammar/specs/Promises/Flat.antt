-- What a check is lent and leaves, with the name list as flat words.
use Rattle.std.specs.Prelude.{Bool, ◌&&◌, List, ℕ}
use Rattle.token.specs.Lexeme.{is_built_in}
use Rattle.grammar.specs.Checking.{read_source, room_left, rooms_fit}

-- word table and name list are of the right length, and the list that is lent beside the source is the built-in list
unfoldable pub lent_fit : List ℕ → ℕ → ℕ → Bool
lent_fit list words names = is_built_in list && rooms_fit words names

-- the name list after a check or a run
unfoldable pub names_after : Bool → List ℕ → List ℕ → List ℕ
names_after fit source old = room_left 0 old (λ a. a.names) (read_source fit source)
