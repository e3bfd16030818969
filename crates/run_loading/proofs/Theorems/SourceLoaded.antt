-- A source that is loaded and accepted: its program stands in the memory that is left, with numbers that fit.
use Prim.Native.Nat.{ℕ}
use native.Mathlib.Omega.{arith}
use mathlib.Core.Path.{◌≡◌, sym, subst₂}
use mathlib.Core.Bool.{Bool, true}
use mathlib.Core.List.{List}
use lib.ListN.{length}
use Rattle.program.specs.declared.Rule.{Rule}
use Rattle.grammar.specs.Checking.{rooms_fit}
use Rattle.grammar.specs.Promises.Traces.{accepted_by, Trace}
use Rattle.cell_meaning.specs.Written.{relatives_in}
use Rattle.read_links.proofs.Theorems.Accepted.{written}
use Rattle.run_calls.proofs.Theorems.AcceptedSources.{accepted_flagged}
use Rattle.read_source.specs.Promises.Promises.{RuleIs, Loads, Checks}
use Rattle.move_profile.proofs.StandingLaws.{linked_by, parsed_by, words_by, rule_by, stood_by, sized}
use Rattle.run_admission.specs.Promises.Admitting.{Lists}
use Rattle.run_loading.specs.Promises.Loaded.{Accepts}

module _ {source ws ns : List ℕ} {known : Bool} {rule : Rule} {n place : ℕ} {ws' ns' : List ℕ}
    (checked : Checks (rooms_fit (length ws) (length ns)) source ws ns n place ws' ns') (loaded : Loads source ws ns known rule) (sure : known ≡ true) where
  accepts_by : (t : Trace source) → RuleIs source t rule → Accepts (rooms_fit (length ws) (length ns)) source ws' ns' rule
  accepts_by t y =
      let linked = linked_by checked loaded sure t in
      record {
        read = accepted_by t;
        is = loaded.reads sure t;
        stood = stood_by checked loaded sure t y;
        lists =
            subst₂ (λ (words : List ℕ) (r : Rule). Lists words r (relatives_in (accepted_by t).program)) (sym (words_by checked loaded sure t)) (sym (rule_by checked loaded sure t y))
            (written source (accepted_by t) (parsed_by checked loaded sure t));
        timed = sym y.timed;
        flagged = accepted_flagged (rooms_fit (length ws) (length ns)) source (accepted_by t) (loaded.reads sure t);
        sized = sized checked loaded sure;
        some_dims = omega (arith, y.dims, linked.some_dims);
        some_fields = omega (arith, y.fields, linked.some_fields);
      }

  -- Its program stands in the memory.
  pub accepts : Accepts (rooms_fit (length ws) (length ns)) source ws' ns' rule
  accepts = let g = loaded.given sure in accepts_by g.0 g.1
