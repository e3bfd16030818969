-- What the functions promise that look at the room of a run under a plan.
use Rattle.std.specs.Prelude.{◌≡◌, Bool, true, false, List, ℕ, ◌*◌, ◌<◌, get_or, drop, eqb}
use Rattle.automaton.specs.Shape.{product}

-- `room_fits`: whether the room is of as many rows as can be held, where the grid has so many fields a cell
pub record FitsRoom (sizes : List ℕ) (entries held room : ℕ) (r : Bool) : Type 0 where
  pub is : (fields : ℕ) → 0 < get_or sizes 0 0 → entries ≡ product sizes * fields → r ≡ eqb room (held * product (drop 1 sizes) * fields)

-- `tried_length`: the length of scratch as it is tried with 21. Where the grid has so many fields a cell: the length itself, if the room is of as many
-- rows as can be held; else one that is not the grid's
pub record TriesRoom (sizes : List ℕ) (entries scratch held room r : ℕ) : Type 0 where
  pub right : (fields : ℕ) → 0 < get_or sizes 0 0 → entries ≡ product sizes * fields → eqb room (held * product (drop 1 sizes) * fields) ≡ true → r ≡ scratch
  pub wrong : (fields : ℕ) → 0 < get_or sizes 0 0 → entries ≡ product sizes * fields → eqb room (held * product (drop 1 sizes) * fields) ≡ false → (r ≡ entries → ⊥)
