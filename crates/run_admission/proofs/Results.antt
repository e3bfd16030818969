-- What a result holds.
use mathlib.Core.Path.{◌≡◌, ap, ◌∙◌}
use Rattle.std.specs.Prelude.{Result, Ok, Err, IsErrAnd}
use Rattle.std.proofs.lemmas.Result.{err_from_is_err_and}

module _ {A E : Type 0} where
  pub err_same : {x y : E} → ◌≡◌ {A = Result A E} (Err x) (Err y) → x ≡ y
  err_same {x} q = ap (λ (r : Result A E). elim r [ Ok a ↦ x | Err f ↦ f ]) q

  pub ok_same : {x y : A} → ◌≡◌ {A = Result A E} (Ok x) (Ok y) → x ≡ y
  ok_same {x} q = ap (λ (r : Result A E). elim r [ Ok a ↦ a | Err f ↦ x ]) q

  -- what the exit of a `?` returns is the answer that it was used on
  pub passed : {A' : Type 0} {q : Result A' E} {r : Result A E} {e : E} → IsErrAnd q (λ f. f ≡ e) → r ≡ Err e → q ≡ Err e
  passed {q = q} h y = let p = err_from_is_err_and q h in p.1 ∙ ap Err p.2
