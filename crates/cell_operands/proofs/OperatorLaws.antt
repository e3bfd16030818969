-- The laws of operators.
use Prim.Native.Nat.{ℕ, zero, suc, ◌+◌, ◌≤◌, ◌<◌}
use native.Mathlib.Omega.{arith}
use mathlib.Core.Path.{◌≡◌, refl, sym, ap, ◌∙◌, subst}
use mathlib.Core.Bool.{Bool, true, false, ◌||◌}
use lib.Dec.{eqb}
use lib.IntN.{ℤ}
use borrow.Author.Tests.{ne_eqb}
use Rattle.token.specs.Kind.{level_of}
use Rattle.value.specs.Worked.{Worked, add_of, equal_of}
use Rattle.value.specs.declared.Value.{Value}
use Rattle.value.specs.declared.Fault.{Fault}
use Rattle.value.specs.declared.Fault.TheVariants.{OutOfRange, ZeroDivisor}
use Rattle.std.specs.Prelude.{Ok, Err}
use Rattle.program.specs.Reason.{reason_number}
use Rattle.program.specs.Promises.Faults.{fault_reason}
use Rattle.cell_meaning.specs.Operators.{placed, compare, apply_binary}
use Rattle.cell_meaning.specs.Promises.Stands.{is_sign_kind, is_unary}
use Rattle.cell_operands.specs.Promises.Working.{EvaluationResult, EvaluatedTo, Failed, told_of, primary_from}

-- ---- kinds

-- what has a level is some token
pub level_some : (k : ℕ) {own level : ℕ} → own ≡ level_of k → 1 ≤ level → level ≤ own → 1 ≤ k
unfolding level_of
level_some k {own} eo l u = go k eo
  where
    go : (k : ℕ) → own ≡ level_of k → 1 ≤ k
    go zero e = absurd (omega arith)
    go (suc j) e = omega arith

pub unary_not : {k : ℕ} → k ≡ 33 → true ≡ is_unary k
unfolding is_unary is_sign_kind
unary_not e = rw e refl

pub unary_sign : {k : ℕ} {b : Bool} → (k ≡ 33 → ⊥) → b ≡ is_sign_kind k → b ≡ is_unary k
unfolding is_unary
unary_sign {k} {b} other e = e ∙ go (is_sign_kind k) (ne_eqb _ _ other)
  where
    go : (t : Bool) → eqb k 33 ≡ false → t ≡ (t || eqb k 33)
    go true h = refl
    go false h = sym h

-- what can stand before a primary is some token
pub unary_some : (k : ℕ) {b : Bool} → b ≡ is_unary k → b ≡ true → 1 ≤ k
unfolding is_unary is_sign_kind
unary_some zero eb e = absurd (let z : ◌≡◌ {A = ℕ} 0 1 = cc in omega arith)
unary_some (suc j) eb e = omega arith

-- the position of an operand's primary

pub from_unary : (k at : ℕ) {b : Bool} → b ≡ is_unary k → b ≡ true → at + 1 ≡ primary_from k at
from_unary k at eb h = sym (simp (← eb, h))

pub from_bare : (k at : ℕ) {b : Bool} → b ≡ is_unary k → b ≡ false → at ≡ primary_from k at
from_bare k at eb h = sym (simp (← eb, h))

-- it is one of the n tokens, or the end
pub from_within : (k at n from : ℕ) → from ≡ primary_from k at → at ≤ n → (1 ≤ k → at < n) → (at ≤ from) × (from ≤ n)
from_within k at n from ef l m = go (is_unary k) refl
  where
    go : (b : Bool) → is_unary k ≡ b → (at ≤ from) × (from ≤ n)
    go true e = let f : from ≡ at + 1 = ef ∙ simp e in let h = m (unary_some k {b = true} (sym e) refl) in (omega arith, omega arith)
    go false e = let f : from ≡ at = ef ∙ simp e in (omega arith, omega arith)

-- ---- what an operation gives

pub told_number : {w : Worked} {v : Value} (place next : ℕ) → w ≡ Ok v → EvaluatedTo v next ≡ told_of (placed place w) next
told_number place next e = rw e refl

pub told_fault : {w : Worked} {p : ℕ} (place next : ℕ) (f : Fault) → w ≡ Err f → p ≡ place → Failed (reason_number (fault_reason f)) p ≡ told_of (placed place w) next
told_fault place next OutOfRange e q = rw (e, q) refl
told_fault place next ZeroDivisor e q = rw (e, q) refl

pub told_same : {w w' : Worked} {r : EvaluationResult} (place next : ℕ) → w ≡ w' → r ≡ told_of (placed place w) next → r ≡ told_of (placed place w') next
told_same place next e q = rw e at q

-- two operators by themselves

pub told_plus : (op : ℕ) (a b : ℤ) {w : Worked} {v : Value} (place next : ℕ) → op ≡ 43 → w ≡ add_of a b → w ≡ Ok v → EvaluatedTo v next ≡ told_of (placed place (apply_binary op a b)) next
unfolding apply_binary
told_plus op a b place next h e q = rw h (told_number place next (sym e ∙ q))

pub told_equal : (op : ℕ) (a b : ℤ) {v : Value} (place next : ℕ) → op ≡ 61 → v ≡ equal_of a b → EvaluatedTo v next ≡ told_of (placed place (apply_binary op a b)) next
unfolding apply_binary compare
told_equal op a b place next h e = rw h (told_number place next (ap Ok (sym e)))

-- relations and logic

module _ (op : ℕ) (l : level_of op ≤ 2) where
  no_operator : (k : ℕ) → 3 ≤ level_of k → op ≡ k → ⊥
  no_operator k h e = omega (arith, subst (λ (i : ℕ). level_of i ≤ 2) e l)

  pub told_compare : (a b : ℤ) {v : Value} (place next : ℕ) → v ≡ compare op a b → EvaluatedTo v next ≡ told_of (placed place (apply_binary op a b)) next
  unfolding apply_binary level_of
  told_compare a b {v} place next e =
      let n : apply_binary op a b ≡ Ok (compare op a b) =
      simp (ne_eqb op 43 (no_operator 43 (omega arith)), ne_eqb op 45 (no_operator 45 (omega arith)), ne_eqb op 42 (no_operator 42 (omega arith)), ne_eqb op 47 (no_operator 47 (omega arith)), ne_eqb op 37 (no_operator 37 (omega arith)))
      in
      told_number place next (n ∙ ap Ok (sym e))

pub ruleset OperatorWays = (unary_not, unary_sign, told_number, told_fault, told_same)
