-- Swapping the grids swaps the two values of each difference, and nothing else.
use mathlib.Core.Path.{◌≡◌, refl, sym, ap}
use mathlib.Core.Bool.{Bool, true, false, ◌&&◌}
use mathlib.Core.List.{List, [], ◌∷◌, ◌++◌, map}
use Prim.Native.Nat.{ℕ, zero, suc, ◌+◌, ◌*◌, min}
use native.Mathlib.Nat.{min-zero}
use lib.ListN.{length, take, length-take}
use lib.Dec.{eqb, leb}
use borrow.Author.Tests.{eqb-true, eqb-false, eq-eqb, ne_eqb}
use lib.IntN.{ℤ, pos, negsuc}
use Rattle.std.specs.Prelude.{if◌then◌else◌}
use Rattle.value.specs.Number.{eq_z}
use Rattle.api_comparison.specs.Differences.{Comparison, Difference, difference, differences, triples, most_entries, comparable, compared, first_written, compared_room}

-- ---- the theorem

-- a room with the second and the third number of each of its first n triples swapped; the rest is as it was
abbrev pub values_swapped : ℕ → List ℤ → List ℤ
values_swapped zero room = room
values_swapped (suc n) [] = []
values_swapped (suc n) (entry ∷ []) = entry ∷ []
values_swapped (suc n) (entry ∷ a ∷ []) = entry ∷ a ∷ []
values_swapped (suc n) (entry ∷ a ∷ b ∷ room) = entry ∷ b ∷ a ∷ values_swapped n room

-- a comparison of the swapped grids returns the same number and total, and leaves the same room but for the values of the differences
-- that are written, which are swapped: as many as there are, at most k
pub record Swap (left right : List ℤ) (k : ℕ) (room : List ℤ) : Type 0 where
  pub answer : compared right left k room ≡ compared left right k room
  pub room_is : compared_room right left k room ≡ values_swapped (min k (compared left right k room).total) (compared_room left right k room)

-- ---- its proof

abbrev swapped : Difference → Difference
swapped d = difference d.entry d.right d.left

eqb_swap : (m n : ℕ) → eqb m n ≡ eqb n m
eqb_swap m n = by (eqb n m) refl
  where
    by : (t : Bool) → eqb n m ≡ t → eqb m n ≡ t
    by true e = eq-eqb m n (sym (eqb-true n m e))
    by false e = ne_eqb m n (λ q. eqb-false n m e (sym q))

eq_z_swap : (a b : ℤ) → eq_z a b ≡ eq_z b a
eq_z_swap (pos a) (pos b) = eqb_swap a b
eq_z_swap (pos a) (negsuc b) = refl
eq_z_swap (negsuc a) (pos b) = refl
eq_z_swap (negsuc a) (negsuc b) = eqb_swap a b

comparable_swap : (left right k room : ℕ) → comparable right left k room ≡ comparable left right k room
unfolding comparable
comparable_swap left right k room = by (eqb left right) refl
  where
    by : (t : Bool) → eqb left right ≡ t → (eqb right left && leb right most_entries && eqb room (3 * k)) ≡ (t && leb left most_entries && eqb room (3 * k))
    by true e = rw (eqb_swap right left, e, eqb-true left right e)
    by false e = rw (eqb_swap right left, e)

-- the differences of the swapped grids are the differences, each swapped
differences_swap : (n : ℕ) (left right : List ℤ) → differences n right left ≡ map swapped (differences n left right)
unfolding differences
differences_swap n [] [] = refl
differences_swap n [] (b ∷ right) = refl
differences_swap n (a ∷ left) [] = refl
differences_swap n (a ∷ left) (b ∷ right) = rw (eq_z_swap b a, differences_swap (n + 1) left right) (by (eq_z a b))
  where
    rest : List Difference
    rest = differences (n + 1) left right

    by : (t : Bool) → (if t then map swapped rest else difference n b a ∷ map swapped rest) ≡ map swapped (if t then rest else difference n a b ∷ rest)
    by true = refl
    by false = refl

swap_length : (ds : List Difference) → length (map swapped ds) ≡ length ds
swap_length [] = refl
swap_length (d ∷ ds) = ap suc (swap_length ds)

swap_take : (n : ℕ) (ds : List Difference) → take n (map swapped ds) ≡ map swapped (take n ds)
swap_take zero ds = refl
swap_take (suc n) [] = refl
swap_take (suc n) (d ∷ ds) = ap (λ (es : List Difference). swapped d ∷ es) (swap_take n ds)

triples_length : (ds : List Difference) → length (triples (map swapped ds)) ≡ length (triples ds)
triples_length [] = refl
triples_length (d ∷ ds) = ap (λ (n : ℕ). suc (suc (suc n))) (triples_length ds)

triples_swap : (ds : List Difference) (rest : List ℤ) → triples (map swapped ds) ++ rest ≡ values_swapped (length ds) (triples ds ++ rest)
triples_swap [] rest = refl
triples_swap (d ∷ ds) rest = ap (λ (room : List ℤ). pos d.entry ∷ d.right ∷ d.left ∷ room) (triples_swap ds rest)

written_swap : (k : ℕ) (ds : List Difference) (room : List ℤ) → first_written k (map swapped ds) room ≡ values_swapped (min k (length ds)) (first_written k ds room)
written_swap k ds room =
    rw (swap_take k ds, triples_length (take k ds), sym (length-take k ds)) (triples_swap (take k ds) _)

module _ (left right : List ℤ) (k : ℕ) (room : List ℤ) where
  answer_swap : compared right left k room ≡ compared left right k room
  unfolding compared
  answer_swap = rw (comparable_swap (length left) (length right) k (length room), differences_swap 0 left right, swap_length (differences 0 left right))

  room_swap : compared_room right left k room ≡ values_swapped (min k (compared left right k room).total) (compared_room left right k room)
  unfolding compared compared_room
  room_swap = rw (comparable_swap (length left) (length right) k (length room), differences_swap 0 left right) (by (comparable (length left) (length right) k (length room)))
    where
      ds : List Difference
      ds = differences 0 left right

      by : (t : Bool) → (if t then first_written k (map swapped ds) room else room)
          ≡ values_swapped (min k (if◌then◌else◌ {A = Comparison} t (record { number = 0; total = length ds }) (record { number = 21; total = 0 })).total) (if t then first_written k ds room else room)
      by true = written_swap k ds room
      by false = rw (min-zero k)

  pub swap : Swap left right k room
  swap = record { answer = answer_swap; room_is = room_swap }
