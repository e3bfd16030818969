-- The writer: the text that leads from one grid to another at a time.
use Rattle.std.specs.Prelude.{Bool, true, false, List, [], ◌∷◌, ◌++◌, map, ℕ, zero, suc, length, drop, eqb, ltb, ℤ, pos, negsuc, nat_abs, if◌then◌else◌}
use Rattle.std.proofs.Math.Option.{Option, some, none}
use Rattle.value.specs.Number.{eq_z}
use Rattle.automaton.specs.Shape.{product, coordinates}
use Rattle.automaton.specs.Grid.{cell_of, differ}
use Rattle.program.specs.Syntax.{Program}
use Rattle.grammar.specs.Decimal.{digits_of}
use Rattle.grammar.specs.Checking.{SourceRead, by_outcome, read_source}
use Rattle.run_meaning.specs.Admission.{Request, admission}
use Rattle.program.specs.Refusal.{Refusal}
use Rattle.move_meaning.specs.Profile.{profile_flag}

-- ---- the text

-- a natural number in shortest form
abbrev pub print_number : ℕ → List ℕ
print_number n = digits_of 9 n

-- a value in shortest form
abbrev pub print_value : ℤ → List ℕ
print_value (pos n) = print_number n
print_value (negsuc n) = 45 ∷ print_number (suc n)

-- a field's value; a missing one is nothing
abbrev pub print_field : Option ℤ → List ℕ
print_field none = []
print_field (some z) = print_value z

-- texts with a comma and a space between them
unfoldable pub listed : List (List ℕ) → List ℕ
listed [] = []
listed (x ∷ []) = x
listed (x ∷ y ∷ ys) = x ++ 44 ∷ 32 ∷ listed (y ∷ ys)

-- the line of a cell without its end, as `[0, 3] = 5, , 1`
unfoldable pub cell_line : List ℕ → List (Option ℤ) → List ℕ
cell_line is vs = 91 ∷ listed (map print_number is) ++ 93 ∷ 32 ∷ 61 ∷ 32 ∷ listed (map print_field vs)

-- a cell's values as they are written: all of them, but for a flag that is 0, which is missing
abbrev pub shown : Option ℕ → List ℤ → List (Option ℤ)
shown none zs = map some zs
shown (some f) [] = []
shown (some zero) (z ∷ zs) = (if eq_z z (pos 0) then none else some z) ∷ map some zs
shown (some (suc f)) (z ∷ zs) = some z ∷ shown (some f) zs

-- the lines of the cells that differ, among n cells from the cell c on
unfoldable pub cells_text : List ℕ → ℕ → Option ℕ → List ℤ → List ℤ → ℕ → ℕ → List ℕ
cells_text sizes fields flag earlier later zero c = []
cells_text sizes fields flag earlier later (suc n) c =
    elim (differ (cell_of fields earlier c) (cell_of fields later c)) [
      | true ↦
          cell_line (coordinates sizes c) (shown flag (cell_of fields later c)) ++ 10 ∷ cells_text sizes fields flag earlier later n (suc c)
      | false ↦ cells_text sizes fields flag earlier later n (suc c)
    ]

-- the text: the time's line, and the lines of the cells that differ, in rising order
unfoldable pub written_text : List ℕ → ℕ → Option ℕ → List ℤ → List ℤ → ℕ → List ℕ
written_text sizes fields flag earlier later t =
    print_number t ++ 10 ∷ cells_text sizes fields flag earlier later (product sizes) 0

-- ---- the call

-- what the writer is asked: the sizes, the grids at the last block and now, and the time
abbrev pub Wanted : Type 0
Wanted = record { sizes : List ℕ; earlier : List ℤ; later : List ℤ; time : ℤ }

-- a run of 0 steps at the time on a grid, with rooms of the right length
abbrev pub as_run : Wanted → List ℤ → Request
as_run q g =
    record { sizes = q.sizes; grid = g; start = q.time; steps = pos 0; scratch = length g; marks = product q.sizes }

-- the refusal with the lower number, the first where they are the same; number 0 is none
abbrev pub lower : Refusal → Refusal → Refusal
lower a b =
    if eqb a.number 0 then b
    else if eqb b.number 0 then a
    else if ltb b.number a.number then b
    else a

-- both grids are checked as for a run of 0 steps, under each number the earlier one first
unfoldable pub writing_admission : Program → Wanted → Refusal
writing_admission p q = lower (admission p (as_run q q.earlier)) (admission p (as_run q q.later))

-- the reply's number and place, the text's length, and the room
abbrev pub Wrote : Type 0
Wrote = record { number : ℕ; place : ℕ; length : ℕ; room : List ℕ }

-- a refusal: the room stays
abbrev pub unwritten : ℕ → ℕ → List ℕ → Wrote
unwritten number place room = record { number = number; place = place; length = 0; room = room }

-- a text at the front of a room, which keeps its rest; 57 if the room is too short
unfoldable pub put_text : List ℕ → List ℕ → Wrote
put_text text room =
    if ltb (length room) (length text) then unwritten 57 0 room
    else record { number = 0; place = 0; length = length text; room = text ++ drop (length text) room }

-- what the writer gives, by the field that serves as flag, if any
unfoldable pub write : Program → Option ℕ → Wanted → List ℕ → Wrote
write p flag q room =
    let a = writing_admission p q in
    elim (eqb a.number 0) [
      | true ↦ put_text (written_text q.sizes (length p.fields) flag q.earlier q.later (nat_abs q.time)) room
      | false ↦ unwritten a.number a.place room
    ]

-- the source is read first; its flag is the field that the profile of one move gives it
abbrev pub write_read : List ℕ → Wanted → List ℕ → SourceRead → Wrote
write_read source q room = by_outcome (λ number place. unwritten number place room) (λ a. write a.program (profile_flag source a) q room)

-- what the writer gives for a source, with the room that it leaves
unfoldable pub write_source : Bool → List ℕ → Wanted → List ℕ → Wrote
write_source fit source q room = write_read source q room (read_source fit source)
