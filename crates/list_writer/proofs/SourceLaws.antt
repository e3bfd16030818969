-- A source that is read: its program stands in the table that is left, with numbers that fit.
use Prim.Native.Nat.{ℕ, ◌<◌}
use native.Mathlib.Omega.{arith}
use mathlib.Core.Path.{◌≡◌, sym, subst}
use mathlib.Core.Bool.{Bool, true}
use mathlib.Core.List.{List}
use lib.ListN.{length}
use Rattle.program.specs.declared.Rule.{Rule}
use Rattle.grammar.specs.Source.{Accepted}
use Rattle.grammar.specs.Checking.{accepted, rooms_fit, read_source}
use Rattle.grammar.specs.Promises.Traces.{accepted_by, Trace}
use Rattle.cell_meaning.specs.Written.{relatives_in}
use Rattle.read_links.proofs.Theorems.Accepted.{written}
use Rattle.program.specs.Promises.Fitting.{Sized}
use Rattle.read_source.specs.Promises.Promises.{RuleIs, Loads, Checks}
use Rattle.move_profile.specs.Promises.Standing.{Stood}
use Rattle.move_profile.proofs.StandingLaws.{linked_by, parsed_by, rule_by, sized, stood}
use Rattle.run_admission.specs.Promises.Admitting.{Lists}

-- what is known of a source that is accepted, and of its rule
pub record Read (fit : Bool) (source words names : List ℕ) (rule : Rule) : Type 0 where
  pub read : Accepted
  pub is : read_source fit source ≡ accepted read
  pub stands : Stood source words names rule read
  pub lists : Lists words rule (relatives_in read.program)
  pub sized : Sized (length words) rule
  pub some_fields : 0 < rule.fields

module _ {source ws ns : List ℕ} {known : Bool} {rule : Rule} {n i : ℕ} {ws' ns' : List ℕ} (checked : Checks (rooms_fit (length ws) (length ns)) source ws ns n i ws' ns') (loaded : Loads source ws ns known rule) (sure : known ≡ true) where
  read_by : (t : Trace source) → RuleIs source t rule → Read (rooms_fit (length ws) (length ns)) source ws' ns' rule
  read_by t y =
      let a = accepted_by t in
      let is = loaded.reads sure t in
      let s = stood checked loaded sure a is in
      record {
        read = a;
        is = is;
        stands = s;
        lists =
            subst (λ (ws : List ℕ). Lists ws rule (relatives_in a.program)) (sym s.words_are)
            (subst (λ (r : Rule). Lists a.words r (relatives_in a.program)) (sym (rule_by checked loaded sure t y)) (written source a (parsed_by checked loaded sure t)));
        sized = sized checked loaded sure;
        some_fields = omega (arith, y.fields, (linked_by checked loaded sure t).some_fields);
      }

  pub source_read : Read (rooms_fit (length ws) (length ns)) source ws' ns' rule
  source_read = let g = loaded.given sure in read_by g.0 g.1
