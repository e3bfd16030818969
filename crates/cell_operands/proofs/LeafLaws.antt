-- The laws of operands that are leaves, one for each way that their evaluators go.
use Prim.Native.Nat.{ℕ}
use native.Mathlib.Omega.{arith}
use mathlib.Core.Path.{◌≡◌, refl, sym, ap, ◌∙◌}
use mathlib.Core.Bool.{Bool, true, false}
use mathlib.Core.List.{List}
use lib.IntN.{ℤ}
use Rattle.std.specs.Prelude.{Result, Err, IsErrAnd}
use Rattle.std.proofs.lemmas.Result.{err_from_is_err_and}
use Rattle.value.specs.declared.Value.{Value}
use Rattle.cell_meaning.specs.Evaluation.{Env}
use Rattle.cell_meaning.specs.Promises.Stands.{is_sign_kind, is_unary}
use Rattle.cell_meaning.specs.Links.{Table}
use Rattle.cell_operands.specs.Promises.Working.{EvaluationResult, EvaluatedTo, Failed, EvalsOperand, EvalsPrimary, EvalsName, EvalsPlain, Leaf}
use Rattle.cell_operands.proofs.DecodingLaws.{was_bare, was_name, unary_none}

-- a fault is no value
pub lost : {A : Type 0} {a p next : ℕ} {v : Value} → Failed a p ≡ EvaluatedTo v next → A
lost h = let z : ◌≡◌ {A = ℕ} 0 1 = cc in absurd (omega arith)

-- what the exit of a `?` returns is the answer that it was used on
pub passed : {A B E : Type 0} {q : Result A E} {r : Result B E} {f : E} → IsErrAnd q (λ g. g ≡ f) → r ≡ Err f → q ≡ Err f
passed {q = q} h y = let p = err_from_is_err_and q h in p.1 ∙ ap Err p.2

module _ (t : Table) (env : Env) (vars vs : List ℤ) (n at : ℕ) where
  -- an operand without a unary operator is its primary
  module _ {k : ℕ} (ek : k ≡ t.kind at) {b : Bool} (eb : b ≡ is_unary k) where
    pub bare : {r : EvaluationResult} → b ≡ false → EvalsPrimary t env vars vs n at r → EvalsOperand t env vars vs n at r
    bare {r} h x = record {
      says = λ fuel e next q. let s = was_bare t at next e (ap is_unary (sym ek) ∙ sym eb ∙ h) fuel q in x.says s.0 e next s.1;
      onward = x.onward;
    }

  module _ {k : ℕ} (ek : k ≡ t.kind at) where
    primary_plain : {r : EvaluationResult} → (k ≡ 40 → ⊥) → (k ≡ 1 → ⊥) → EvalsPlain t env vars vs n at r → EvalsPrimary t env vars vs n at r
    primary_plain {r} kp kn b = record { says = λ fuel e next q. b.says (λ u. kn (ek ∙ u)) (λ u. kp (ek ∙ u)) fuel e next q; onward = b.onward }

    primary_name : {w : ℕ} {r : EvaluationResult} → k ≡ 1 → w ≡ t.word2 at → (w ≡ 2 → ⊥) → EvalsName t env vars vs n at r → EvalsPrimary t env vars vs n at r
    primary_name {r = r} kn ew other b = record { says = λ fuel e next q. let s = was_name t at next e (sym ek ∙ kn) fuel q in b.says (λ u. other (ew ∙ u)) s.0 e next s.1; onward = b.onward }

    pub leaf_array : {w a p : ℕ} → k ≡ 1 → w ≡ t.word2 at → w ≡ 2 → Leaf t env vars vs n at (Failed a p)
    leaf_array kn ew h = record { found = λ v next e. lost e; only = λ np na. absurd (na (sym ek ∙ kn) (sym ew ∙ h)) }

    pub leaf_paren : {a p : ℕ} → k ≡ 40 → Leaf t env vars vs n at (Failed a p)
    leaf_paren h = record { found = λ v next e. lost e; only = λ np na. absurd (np (sym ek ∙ h)) }

    pub leaf_unary : {b : Bool} {a p : ℕ} → b ≡ is_unary k → b ≡ true → Leaf t env vars vs n at (Failed a p)
    leaf_unary eb h = record {
      found = λ v next e. lost e;
      only = λ np na. record { says = λ fuel e next q. absurd (unary_none t at next e (ap is_unary (sym ek) ∙ sym eb ∙ h) fuel q); onward = tt };
    }

    pub leaf_name : {w : ℕ} {r : EvaluationResult} → k ≡ 1 → w ≡ t.word2 at → (w ≡ 2 → ⊥) → EvalsName t env vars vs n at r → Leaf t env vars vs n at r
    unfolding is_unary is_sign_kind
    leaf_name kn ew other x =
        record { found = λ v next h. bare ek {b = is_unary k} refl (rw kn refl) (primary_name kn ew other x); only = λ np na. primary_name kn ew other x }

    pub leaf_plain : {b : Bool} {r : EvaluationResult} → (k ≡ 1 → ⊥) → (k ≡ 40 → ⊥) → b ≡ is_unary k → b ≡ false → EvalsPlain t env vars vs n at r → Leaf t env vars vs n at r
    leaf_plain kn kp eb h x = record { found = λ v next g. bare ek eb h (primary_plain kp kn x); only = λ np na. primary_plain kp kn x }
