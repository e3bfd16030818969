-- Numbers told in a slice that is lent.
use Rattle.std.specs.Prelude.{List, [], ◌∷◌}

-- the first entries of a list replaced, as far as it has room; the others stay
abbrev pub over : {A : Type 0} → List A → List A → List A
over [] entries = entries
over (n ∷ ns) [] = []
over (n ∷ ns) (old ∷ entries) = n ∷ over ns entries
