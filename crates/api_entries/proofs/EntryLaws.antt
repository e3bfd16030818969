-- Entries replaced at the front.
use Rattle.std.proofs.Common.{◌≡◌, ap, refl, List, [], ◌∷◌, ◌++◌, length, take, drop, min, suc, rules}
use Rattle.api_entries.specs.Over.{over}

-- as many as both have, and then the rest
pub over_front : {A : Type 0} (ns s : List A) → take (min (length s) (length ns)) ns ++ drop (min (length s) (length ns)) s ≡ over ns s
over_front [] [] = refl
over_front [] (x ∷ s) = let e : min (length (x ∷ s)) 0 ≡ 0 = search rules in rw e refl
over_front (n ∷ ns) [] = let e : min 0 (length (n ∷ ns)) ≡ 0 = search rules in rw e refl
over_front (n ∷ ns) (x ∷ s) =
    let e : min (length (x ∷ s)) (length (n ∷ ns)) ≡ suc (min (length s) (length ns)) = search rules in
    rw e (ap (λ l. n ∷ l) (over_front ns s))
