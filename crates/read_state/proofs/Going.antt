-- The laws of where readers go. Assumes nothing.
use Rattle.std.specs.Prelude as prelude
use Rattle.std.proofs.lemmas.Result.{err_from_is_err_and}
use Prim.Native.Nat.{ℕ, ◌≤◌}
use native.Mathlib.Omega.{arith}
use mathlib.Core.Path.{◌≡◌, subst, ◌∙◌, ap, sym}
use Rattle.value.specs.Limits.{most_names}
use Rattle.token.specs.declared.Scan.{Scan}
use Rattle.program.specs.Refusal.{Refusal}
use Rattle.read_state.specs.Promises.Reading.{Goes, Onward, Ready}
use Rattle.read_state.specs.declared.Reading.{Reading}
use Rattle.read_state.specs.Promises.Reading.{Read}
use Rattle.std.specs.Prelude.{Ok, Err}

-- a refusal goes nowhere
pub nowhere : {top : ℕ} {sc : Scan} {least : ℕ} {r : Read} {e : Refusal} → r ≡ Err e → Onward top sc least r
nowhere e = record { goes = rw e tt }

-- reading went on to t
pub record Went (top : ℕ) (sc : Scan) (least : ℕ) (t : Reading) : Type 0 where
  pub past : least ≤ t.at
  pub within : t.at ≤ sc.count
  pub few : t.count ≤ top

pub went : {top : ℕ} {sc : Scan} {least : ℕ} {r : Read} {t : Reading} → Onward top sc least r → r ≡ Ok t → Went top sc least t
went {top} {sc} {least} {r} {t} o e = go (subst (Goes top sc least) e o.goes)
  where
    go : Goes top sc least (Ok t) → Went top sc least t
    go x = record { past = x.0; within = x.1; few = x.2 }

pub goes_on : {top : ℕ} {sc : Scan} {least : ℕ} {t : Reading} → least ≤ t.at → t.at ≤ sc.count → t.count ≤ top → Onward top sc least (Ok t)
goes_on a b c = record { goes = (a, b, c) }

-- what went on from a later place went on
pub further : {top top' : ℕ} {sc : Scan} {least least' : ℕ} {r : Read} → Onward top sc least r → least' ≤ least → top ≤ top' → Onward top' sc least' r
further {top} {top'} {sc} {least} {least'} {r} o h l = record { goes = by r o.goes }
  where
    by : (r : Read) → Goes top sc least r → Goes top' sc least' r
    by (Ok t) x = (omega arith, omega arith, omega arith)
    by (Err f) x = tt

-- what the next reader asks holds where the one before went on to
pub still : {sc : Scan} {listed tabled listed' tabled' : ℕ} {s t : Reading} {top least : ℕ} → Ready sc listed tabled s → listed' ≡ listed → tabled' ≡ tabled → Went top sc least t → top ≤ most_names → Ready sc listed' tabled' t
still x l k w h = record { tokens = x.tokens; table = k ∙ x.table; list = l ∙ x.list; here = w.within; few = omega arith }

-- what the exit of a `?` returns is the answer that it was used on
pub passed : {A E : Type 0} {q r : prelude.Result A E} {e : E} → prelude.IsErrAnd q (λ f. f ≡ e) → r ≡ prelude.Err e → q ≡ r
passed {q = q} h y = let p = err_from_is_err_and q h in p.1 ∙ ap prelude.Err p.2 ∙ sym y

-- where the answer of the code is more than a reading's end, which `end` tells of it
pub passed_by : {A : Type 0} (end : prelude.Result A Refusal → Read) → ((f : Refusal) → end (Err f) ≡ Err f) → (q : prelude.Result A Refusal) {r : Read} {e : Refusal} → prelude.IsErrAnd q (λ f. f ≡ e) → r ≡ Err e → end q ≡ r
passed_by end same q {e = e} h y = let p = err_from_is_err_and q h in ap end (p.1 ∙ ap prelude.Err p.2) ∙ same e ∙ sym y
