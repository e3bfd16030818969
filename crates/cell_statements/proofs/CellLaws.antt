-- The laws of a cell.
use Prim.Native.Nat.{ℕ, ◌+◌, ◌-◌, ◌*◌, ◌≤◌, ◌<◌}
use native.Mathlib.Omega.{arith}
use mathlib.Core.Path.{◌≡◌, refl, sym, ap, ap₂, ◌∙◌, subst}
use mathlib.Core.Bool.{false}
use mathlib.Core.List.{List, []}
use lib.ListN.{length, get_or, take, drop, replicate, length-drop}
use lib.Seq.{length-take-le, ext_get_or, get_or-take, get_or-drop}
use Rattle.automaton.specs.Listed.{list_of}
use Rattle.automaton.specs.Promises.ListedLaws.{length_list_of, get_or_list_of}
use lib.IntN.{ℤ, pos}
use Rattle.std.specs.Prelude.{Ok, Err}
use Rattle.program.specs.Refusal.{Refusal}
use Rattle.cell_statements.specs.declared.Flow.{Flow}
use Rattle.cell_statements.specs.declared.Flow.TheVariants as flow
use Rattle.automaton.specs.Step as Step
use Rattle.automaton.specs.Shape.{neighbour}
use Rattle.automaton.specs.Grid.{cell_of}
use Rattle.program.specs.Syntax.{Range, Program}
use Rattle.program.specs.declared.Rule.{Rule}
use Rattle.cell_operands.specs.declared.Site.{Site}
use Rattle.cell_meaning.specs.Evaluation.{Env, bind, Frame, offsets, exec, frame, evaluate}
use Rattle.cell_meaning.specs.Promises.Stands.{ranges_in, Stands, Holds}
use Rattle.cell_meaning.specs.Links.{table_of}
use Rattle.cell_operands.specs.Promises.Working.{site_table, env_of, SiteReady}
use Rattle.cell_operands.proofs.PrimaryLaws.{own_is}
use Rattle.cell_statements.specs.Promises.Running.{Going, CellResult, left_by_exit, RunsBlock, Fit, outcome_is, Evaluates}

-- what is asked of a site
pub ready : {leaves words : List ℕ} {rule : Rule} {sizes point : List ℕ} {cell : ℕ} {grid : List ℤ} {fields time : ℕ} → Fit leaves words rule sizes point cell grid fields time
    → SiteReady leaves words sizes point grid (record { tokens = rule.tokens; base = rule.base; fields = rule.fields; slots = rule.slots; cell = cell; time = time }) 0
ready f = record {
  table = f.rule_fits.table;
  tokens = f.rule_fits.tokens;
  base = f.rule_fits.base;
  fields = f.rule_fits.fields;
  slots = f.rule_fits.slots;
  time = f.small;
  dims = omega (arith, f.shaped.dims, f.rule_fits.dims);
  shaped = let s = f.shaped in record { dims = refl; positive = s.positive; cells = s.cells; entries = s.entries };
  cell = f.inside;
  own = f.own;
  loops = omega arith;
  noted = f.noted;
}

module _ {leaves words : List ℕ} {rule : Rule} {sizes point : List ℕ} {cell : ℕ} {grid : List ℤ} {fields time : ℕ} (fit : Fit leaves words rule sizes point cell grid fields time) where
  abbrev site : Site
  site = record { tokens = rule.tokens; base = rule.base; fields = rule.fields; slots = rule.slots; cell = cell; time = time }

  abbrev look : List ℤ → List ℤ
  look ds = cell_of rule.fields grid (neighbour sizes cell ds)

  -- where a run of the statements begins
  module _ {vs next ix vs' next' ix' : List ℤ} {r : Going} (zero_vars : vs ≡ replicate rule.slots (pos 0)) (old : next ≡ cell_of fields grid cell)
      (run : RunsBlock (site_table words sizes site) (env_of words sizes grid site) 0 rule.body vs next ix vs' next' ix' r) where
    start_is : (p : Program) → Holds words rule p → frame false vs next ≡ frame false (replicate p.slots (pos 0)) (look (offsets p.dims [] []))
    start_is p h =
        ap₂ (λ (a b : List ℤ). frame false a b) (zero_vars ∙ ap (λ (n : ℕ). replicate n (pos 0)) (sym h.slots))
        (old ∙ ap₂ (λ (n c : ℕ). cell_of n grid c) (sym fit.lent) (sym (own_is (ready fit) [])) ∙ ap (λ (n : ℕ). look (offsets n [] [])) (fit.shaped.dims ∙ sym h.dims))

    env_is : (p : Program) → Holds words rule p → env_of words sizes grid site ≡ record { dims = p.dims; fields = p.fields; time = time; look = look }
    env_is p h =
        ap₂ (λ (d : ℕ) (rs : List Range). env d rs) (fit.shaped.dims ∙ sym h.dims)
        (ap (λ (d : ℕ). ranges_in (table_of words rule.tokens d) rule.base rule.fields) fit.shaped.dims ∙ sym h.fields)
      where
        env : ℕ → List Range → Env
        env d rs = record { dims = d; fields = rs; time = time; look = look }

    ended : (p : Program) → Holds words rule p
        → left_by_exit r vs' next'
        ≡ exec (record { dims = p.dims; fields = p.fields; time = time; look = look }) [] p.body (frame false (replicate p.slots (pos 0)) (look (offsets p.dims [] [])))
    ended p h =
        run.says p.body (subst (λ (d : ℕ). Stands (table_of words rule.tokens d) 0 p.body rule.body) (sym fit.shaped.dims) h.body)
        ∙ ap₂ (λ (e : Env) (f : Frame). exec e [] p.body f) (env_is p h) (start_is p h)

    -- the next fields, or the fault
    abbrev end_of : Step.Outcome Frame → Step.Outcome (List ℤ)
    end_of o = bind o (λ end. Step.result end.next)

    evaluated : (o : CellResult) → outcome_is o next' ≡ end_of (left_by_exit r vs' next') → Evaluates words rule sizes cell grid next' time o
    unfolding evaluate
    evaluated o e = record { says = λ p h. e ∙ ap end_of (ended p h) }

    pub cell_done : {f : Flow} → r ≡ Ok f → Evaluates words rule sizes cell grid next' time (Ok tt)
    cell_done {f} e = evaluated (Ok tt) (rw e (by f))
      where
        by : (f : Flow) → Step.result next' ≡ end_of (left_by_exit (Ok f) vs' next')
        by flow.On = refl
        by flow.Leaving = refl

    pub cell_fault : {f : Refusal} → r ≡ Err f → Evaluates words rule sizes cell grid next' time (Err f)
    cell_fault {f} e = evaluated (Err f) (rw e refl)
