-- The spelling that is returned with a refusal: a part of the source, or of the built-in list that is lent beside it.
use Rattle.std.specs.Prelude.{Bool, true, false, not, ◌&&◌, ◌||◌, List, [], ◌∷◌, ℕ, length, drop, eqb, leb, ltb, if◌then◌else◌}
use Rattle.value.specs.Limits.{most_bytes}
use Rattle.token.specs.Bytes.{between}
use Rattle.token.specs.Kind.{kind}
use Rattle.token.specs.Lexeme.{read_token}

-- the replies that name a token
unfoldable pub names_token : ℕ → Bool
names_token number = between 3 15 number || between 40 45 number

-- where a spelling stands: in the built-in list or in the source, its first byte and its length
abbrev pub Part : Type 0
Part = record { listed : Bool; start : ℕ; len : ℕ }

abbrev pub part : Bool → ℕ → ℕ → Part
part listed start len = record { listed = listed; start = start; len = len }

-- the spelling of a token of a kind and a length at a place: that of a predefined name, whatever its letter case, stands in the built-in
-- list. `random` is the one refused token of six bytes
abbrev pub token_part : ℕ → ℕ → ℕ → Part
token_part k len place =
    if eqb k kind.cell then part true 0 4
    else if eqb k kind.time then part true 5 4
    else if eqb k kind.refused && eqb len 6 then part true 10 6
    else part false place len

-- where the spelling of a reply stands: for 3 it is the one byte at the place; it is empty at the end of the source, and for a reply
-- that names no token
unfoldable pub part_at : List ℕ → ℕ → ℕ → Part
part_at source number place =
    if not (names_token number) || leb (length source) place || ltb most_bytes (length source) then part false 0 0
    else if eqb number 3 then part false place 1
    else token_part (read_token (drop place source)).kind (read_token (drop place source)).len place

-- the spelling of a reply as three numbers: where it is, 0 nowhere, 1 in the source, 2 in the built-in list; its first byte; its length
abbrev pub part_entries : Part → List ℕ
part_entries p = if eqb p.len 0 then 0 ∷ 0 ∷ 0 ∷ [] else (if p.listed then 2 else 1) ∷ p.start ∷ p.len ∷ []
