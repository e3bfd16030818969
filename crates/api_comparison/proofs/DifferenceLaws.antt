-- Differences written into a room: three numbers stored, one law for each way through an entry's comparison, and what that is for all entries.
use mathlib.Core.Path.{◌≡◌, refl, ap, ◌∙◌}
use mathlib.Core.Bool.{Bool, true, false}
use mathlib.Core.List.{List, [], ◌∷◌, ◌++◌}
use Prim.Native.Nat.{ℕ, zero, suc, ◌+◌, ◌-◌, ◌*◌, ◌≤◌, ◌<◌, ◌^◌}
use native.Mathlib.Numerals.{add-one}
use native.Mathlib.Omega.{arith}
use borrow.Author.Tests.{lt-ltb, le-ltb, ltb-true, ltb-false}
use lib.Dec.{ltb}
use lib.ListN.{length, get_or, set, take, drop, drop_of_length-le}
use lib.Seq.{sets, sets-eq, drop-cons}
use lib.IntN.{ℤ, pos}
use lib.Signed.{mag}
use mir.Syntax.{w32}
use mir.Val.{to_z, of_z}
use mir.Facts.{to_z-of_z}
use Rattle.std.specs.Prelude.{Ok, Err, if◌then◌else◌}
use Rattle.value.specs.Number.{eq_z}
use Rattle.api_comparison.specs.Differences.{Difference, difference, differences, triples, comparable, compared, first_written, compared_room}
use Rattle.api_comparison.specs.Promises.Comparing.{next_total, next_room, ComparesEntry}
use Rattle.api_comparison.specs.declared.Incomparable.{Incomparable}
use Rattle.api_comparison.specs.Promises.Public.{Compares}

-- ---- three numbers stored one behind another

-- what the machine reads of a 32-bit number
pub read_back : (z : ℤ) → mag z < 2 ^ 31 → to_z w32 (of_z w32 z) ≡ z
read_back z h = to_z-of_z {w = w32} (record { sfits = h })

pub three_stored : (room : List ℤ) (at e : ℕ) (a b : ℤ) → e < 2147483647 → mag a < 2 ^ 31 → mag b < 2 ^ 31
    → set (set (set room at (to_z w32 e)) (at + 1) (to_z w32 (of_z w32 a))) (at + 2) (to_z w32 (of_z w32 b)) ≡ sets room at (pos e ∷ a ∷ b ∷ [])
three_stored room at e a b l₀ l₁ l₂ =
    let p : at + 1 ≡ suc at = omega arith in
    let q : at + 2 ≡ suc (suc at) = omega arith in
    simp (read_back (pos e) (omega arith), read_back a l₁, read_back b l₂, p, q)

-- ---- one entry

module _ {k n e : ℕ} {a b : ℤ} {room : List ℤ} where
  pub equal_values : eq_z a b ≡ true → ComparesEntry k n e a b room n room
  equal_values q = record { total = simp q; room_is = simp q }

  pub difference_written : eq_z a b ≡ false → n < k → {room' : List ℤ} {a' b' : ℤ} → a' ≡ a → b' ≡ b → room' ≡ sets room (3 * n) (pos e ∷ a' ∷ b' ∷ [])
      → ComparesEntry k n e a b room (n + 1) room'
  difference_written q l p₁ p₂ r = record { total = simp q; room_is = r ∙ simp (p₁, p₂, q, lt-ltb n k l) }

  pub no_place_left : eq_z a b ≡ false → k ≤ n → ComparesEntry k n e a b room (n + 1) room
  no_place_left q l = record { total = simp q; room_is = simp (q, le-ltb n k l) }

pub one_more_at_most : (n : ℕ) (a b : ℤ) → next_total n a b ≤ n + 1
one_more_at_most n a b = by (eq_z a b)
  where
    by : (t : Bool) → (if t then n else n + 1) ≤ n + 1
    by true = omega arith
    by false = omega arith

-- ---- all entries

-- the room that will be, where n differences are found and those in ds are to come
abbrev pub room_to_be : ℕ → ℕ → List Difference → List ℤ → List ℤ
room_to_be k n ds room = sets room (3 * n) (triples (take (k - n) ds))

-- one difference more
one_found : (k n : ℕ) (d : Difference) (ds : List Difference) (room : List ℤ)
    → room_to_be k (n + 1) ds (if ltb n k then sets room (3 * n) (pos d.entry ∷ d.left ∷ d.right ∷ []) else room) ≡ room_to_be k n (d ∷ ds) room
one_found k n d ds room = by (ltb n k) refl
  where
    by : (t : Bool) → ltb n k ≡ t → room_to_be k (n + 1) ds (if t then sets room (3 * n) (pos d.entry ∷ d.left ∷ d.right ∷ []) else room) ≡ room_to_be k n (d ∷ ds) room
    by true q =
        let l = ltb-true n k q in
        let e : k - n ≡ suc (k - (n + 1)) = omega arith in
        let f : 3 * (n + 1) ≡ suc (suc (suc (3 * n))) = omega arith in
        rw (e, f)
    by false q =
        let l = ltb-false n k q in
        let e : k - n ≡ 0 = omega arith in
        let f : k - (n + 1) ≡ 0 = omega arith in
        rw (e, f)

-- the differences from an entry on
abbrev pub differences_from : ℕ → List ℤ → List ℤ → List Difference
differences_from i left right = differences i (drop i left) (drop i right)

module _ (left right : List ℤ) (i : ℕ) (l : i < length left) (r : i < length right) where
  abbrev a : ℤ
  a = get_or left i (pos 0)

  abbrev b : ℤ
  b = get_or right i (pos 0)

  abbrev behind : List Difference
  behind = differences_from (i + 1) left right

  here : differences_from i left right ≡ (if eq_z a b then behind else difference i a b ∷ behind)
  unfolding differences
  here = rw (drop-cons left i (pos 0) l, drop-cons right i (pos 0) r, add-one i)

  -- an entry's comparison keeps the total and the room that will be
  pub same_total : (n : ℕ) → next_total n a b + length behind ≡ n + length (differences_from i left right)
  same_total n = rw here (by (eq_z a b))
    where
      by : (t : Bool) → (if t then n else n + 1) + length behind ≡ n + length (if t then behind else difference i a b ∷ behind)
      by true = refl
      by false = omega arith

  pub same_room : (k n : ℕ) (room : List ℤ) → room_to_be k (next_total n a b) behind (next_room k n i a b room) ≡ room_to_be k n (differences_from i left right) room
  same_room k n room = rw here (by (eq_z a b))
    where
      by : (t : Bool) → room_to_be k (if t then n else n + 1) behind (if t then room else if ltb n k then sets room (3 * n) (pos i ∷ a ∷ b ∷ []) else room)
          ≡ room_to_be k n (if t then behind else difference i a b ∷ behind) room
      by true = refl
      by false = one_found k n (difference i a b) behind room

-- behind the last entry there are no differences
pub none_from : (left right : List ℤ) (i : ℕ) → length left ≤ i → differences_from i left right ≡ []
unfolding differences
none_from left right i l = rw (drop_of_length-le left l)

pub none_to_come : (k n : ℕ) (room : List ℤ) → room_to_be k n [] room ≡ room
none_to_come k n room = by (k - n)
  where
    by : (m : ℕ) → sets room (3 * n) (triples (take m [])) ≡ room
    by zero = refl
    by (suc m) = refl

-- ---- the whole

at_most_three_each : (m : ℕ) (ds : List Difference) → length (triples (take m ds)) ≤ 3 * m
at_most_three_each zero ds = omega arith
at_most_three_each (suc m) [] = omega arith
at_most_three_each (suc m) (d ∷ ds) = omega (arith, at_most_three_each m ds)

pub all_to_come : (k : ℕ) (ds : List Difference) (room : List ℤ) → length room ≡ 3 * k → room_to_be k 0 ds room ≡ first_written k ds room
all_to_come k ds room e =
    let z : k - 0 ≡ k = omega arith in
    let f = at_most_three_each k ds in
    let y : 0 + length (triples (take k ds)) ≡ length (triples (take k ds)) = omega arith in
    rw z (sets-eq (triples (take k ds)) room 0 (omega arith) ∙ ap (λ (n : ℕ). triples (take k ds) ++ drop n room) y)

module _ (left right : List ℤ) (k : ℕ) (room : List ℤ) where
  pub not_compared : {e : Incomparable} → comparable (length left) (length right) k (length room) ≡ false → Compares left right k room (Err e) room
  unfolding compared compared_room
  not_compared q = record { answer = simp q; room_is = simp q }

  pub all_compared : comparable (length left) (length right) k (length room) ≡ true → {total : ℕ} {room' : List ℤ} → total ≡ length (differences 0 left right) → room' ≡ first_written k (differences 0 left right) room
      → Compares left right k room (Ok total) room'
  unfolding compared compared_room
  all_compared q t r = record { answer = ap (λ (n : ℕ). record { number = 0; total = n }) t ∙ simp q; room_is = r ∙ simp q }
