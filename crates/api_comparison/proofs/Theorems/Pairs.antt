-- Worked examples: pairs of grids, as one list with one claim.
use mathlib.Core.Path.{◌≡◌, refl}
use mathlib.Core.List.{List, [], ◌∷◌, map}
use Prim.Native.Nat.{ℕ}
use lib.IntN.{ℤ, pos}
use Rattle.value.specs.Number.{least, greatest}
use Rattle.api_comparison.specs.Differences.{Comparison, differences, comparable, compared, compared_room}

-- what a comparison returns and leaves
record Compared : Type 0 where
  answer : Comparison
  room : List ℤ

-- two grids with k and a room, and what is to come of them
record Pair : Type 0 where
  left : List ℤ
  right : List ℤ
  k : ℕ
  room : List ℤ
  expected : Compared

abbrev worked : Pair → Compared
worked p = record { answer = compared p.left p.right p.k p.room; room = compared_room p.left p.right p.k p.room }

abbrev pair : List ℤ → List ℤ → ℕ → List ℤ → ℕ → ℕ → List ℤ → Pair
pair left right k room number total after =
    record { left = left; right = right; k = k; room = room; expected = record { answer = record { number = number; total = total }; room = after } }

abbrev numbers : List ℕ → List ℤ
numbers ns = map pos ns

pairs : List Pair
pairs =
    -- no difference; k = 0 reports the total
    pair (numbers (1 ∷ 2 ∷ 3 ∷ [])) (numbers (1 ∷ 2 ∷ 3 ∷ [])) 0 [] 0 0 []
    ∷ pair (numbers (1 ∷ 2 ∷ 3 ∷ [])) (numbers (1 ∷ 5 ∷ 4 ∷ [])) 0 [] 0 2 []
    -- fewer places than differences, and more: the rest stays
    ∷ pair (numbers (1 ∷ 2 ∷ 3 ∷ [])) (numbers (1 ∷ 5 ∷ 4 ∷ [])) 1 (numbers (9 ∷ 9 ∷ 9 ∷ [])) 0 2 (numbers (1 ∷ 2 ∷ 5 ∷ []))
    ∷ pair (numbers (1 ∷ 2 ∷ 3 ∷ [])) (numbers (1 ∷ 5 ∷ 4 ∷ [])) 3 (numbers (9 ∷ 9 ∷ 9 ∷ 9 ∷ 9 ∷ 9 ∷ 9 ∷ 9 ∷ 9 ∷ [])) 0 2 (numbers (1 ∷ 2 ∷ 5 ∷ 2 ∷ 3 ∷ 4 ∷ 9 ∷ 9 ∷ 9 ∷ []))
    -- the grids swapped
    ∷ pair (numbers (1 ∷ 5 ∷ 4 ∷ [])) (numbers (1 ∷ 2 ∷ 3 ∷ [])) 3 (numbers (9 ∷ 9 ∷ 9 ∷ 9 ∷ 9 ∷ 9 ∷ 9 ∷ 9 ∷ 9 ∷ [])) 0 2 (numbers (1 ∷ 5 ∷ 2 ∷ 2 ∷ 4 ∷ 3 ∷ 9 ∷ 9 ∷ 9 ∷ []))
    -- empty grids
    ∷ pair [] [] 1 (numbers (7 ∷ 7 ∷ 7 ∷ [])) 0 0 (numbers (7 ∷ 7 ∷ 7 ∷ []))
    -- the least and the greatest value
    ∷ pair (least ∷ greatest ∷ []) (greatest ∷ least ∷ []) 2 (numbers (0 ∷ 0 ∷ 0 ∷ 0 ∷ 0 ∷ 0 ∷ [])) 0 2 (pos 0 ∷ least ∷ greatest ∷ pos 1 ∷ greatest ∷ least ∷ [])
    -- unlike lengths; a room too short, and one too long
    ∷ pair (numbers (1 ∷ [])) (numbers (2 ∷ 2 ∷ [])) 1 (numbers (9 ∷ 9 ∷ 9 ∷ [])) 21 0 (numbers (9 ∷ 9 ∷ 9 ∷ []))
    ∷ pair (numbers (1 ∷ [])) (numbers (2 ∷ [])) 1 (numbers (9 ∷ 9 ∷ [])) 21 0 (numbers (9 ∷ 9 ∷ []))
    ∷ pair (numbers (1 ∷ [])) (numbers (2 ∷ [])) 0 (numbers (9 ∷ 9 ∷ 9 ∷ [])) 21 0 (numbers (9 ∷ 9 ∷ 9 ∷ []))
    ∷ []

pairs_hold : map worked pairs ≡ map (λ (p : Pair). p.expected) pairs
unfolding pairs differences comparable compared compared_room
pairs_hold = refl
