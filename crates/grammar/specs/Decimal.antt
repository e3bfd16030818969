-- A number in decimal digits.
use Rattle.std.specs.Prelude.{true, false, List, [], ◌∷◌, ◌++◌, ℕ, zero, suc, ◌+◌, ◌/◌, ◌%◌, ltb}

-- the decimal digits of n, which has at most so many and one more
unfoldable pub digits_of : ℕ → ℕ → List ℕ
digits_of zero n = (48 + n) ∷ []
digits_of (suc most) n = elim (ltb n 10) [ true ↦ (48 + n) ∷ [] | false ↦ digits_of most (n / 10) ++ (48 + n % 10) ∷ [] ]
