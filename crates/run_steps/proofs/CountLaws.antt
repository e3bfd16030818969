-- The row counts of a run: they are those of the grid at each step, where they are kept.
use Prim.Native.Nat.{ℕ, ◌<◌}
use mathlib.Core.Path.{◌≡◌, refl, sym, ap, ◌∙◌, subst}
use mathlib.Core.Bool.{Bool, true, false, cond, ◌&&◌}
use mathlib.Core.List.{List}
use lib.ListN.{length}
use lib.IntN.{ℤ}
use Rattle.value.proofs.Theorems.Laws.{never, and_both}
use Rattle.automaton.specs.Step.{Fault, grid_after, quiet_outcome, quiet_step}
use Rattle.automaton.specs.Shape.{product}
use Rattle.automaton.specs.Grid.{cell_of}
use Rattle.automaton.specs.Rows.{row_counts}
use Rattle.program.specs.Syntax.{Program}
use Rattle.program.specs.declared.Rule.{Rule}
use Rattle.run_meaning.specs.declared.Bounds.{Bounds}
use Rattle.run_meaning.specs.declared.Reach.{Reach}
use Rattle.run_meaning.specs.Reach.{running}
use Rattle.run_step.specs.declared.Step.{Step}
use Rattle.std.specs.Prelude.{⊤, Ok, Err}
use Rattle.run_step.specs.declared.CellFault.{CellFault}
use Rattle.run_step.specs.Promises.Stepping.{fault_told}
use Rattle.run_step.specs.Promises.Stepping.{SteppedFor}
use Rattle.run_row_counts.specs.Promises.Counting.{Countable, Movable}
use Rattle.run_steps.specs.Promises.Blockwise.{Next, is_due, DueSet}
use Rattle.run_steps.specs.Promises.Stepwise.{Begins, Runs}
use Rattle.run_steps.specs.Promises.Countwise.{CountsFit, CountsFilled, Tallied}

-- ---- filling and moving where it is asked for

pub filled_yes : {asked : Bool} {sizes : List ℕ} {fields field : ℕ} {grid : List ℤ} {counts counts' : List ℕ} → asked ≡ true → counts' ≡ row_counts sizes fields field grid
    → CountsFilled asked sizes fields field grid counts counts'
filled_yes e h = record { fills = λ _. h; stays = λ f. never (sym f ∙ e) }

pub filled_no : {asked : Bool} {sizes : List ℕ} {fields field : ℕ} {grid : List ℤ} {counts : List ℕ} → asked ≡ false → CountsFilled asked sizes fields field grid counts counts
filled_no e = record { fills = λ t. never (sym e ∙ t); stays = λ _. refl }

pub filled_self : {asked : Bool} {sizes : List ℕ} {fields field : ℕ} {grid : List ℤ} {counts counts' : List ℕ} → CountsFilled asked sizes fields field grid counts counts' → CountsFilled asked sizes fields field grid counts' counts'
filled_self h = record { fills = h.fills; stays = λ _. refl }

-- as many counts fit too
pub refit : {counted : Bool} {fields : ℕ} {sizes : List ℕ} {field rows rows' : ℕ} → CountsFit counted fields sizes field rows → rows' ≡ rows → CountsFit counted fields sizes field rows'
refit {counted} {fields} {sizes} {field} f e = subst (CountsFit counted fields sizes field) (sym e) f

-- ---- over the steps

module _ {words : List ℕ} {rule : Rule} {sizes : List ℕ} {r : Reach} {grid₀ scratch₀ : List ℤ} {marks₀ text : List ℕ} {start steps : ℕ} (begins : Begins words rule sizes r grid₀ scratch₀ marks₀ text start steps)
    {counted : Bool} {field rows : ℕ} (fit : CountsFit counted rule.fields sizes field rows) where
  -- a grid of this size can be counted
  pub countable : counted ≡ true → {entries : ℕ} → entries ≡ length grid₀ → Countable sizes rule.fields field entries rows
  countable c e = record {
    some_dims = subst (λ (d : ℕ). 0 < d) (sym begins.shaped.dims) begins.some_dims;
    positive = begins.shaped.positive;
    few = begins.shaped.cells;
    entries_are = begins.shaped.entries ∙ sym e;
    a_field = fit.a_field c;
    rows_are = fit.rows_are c;
  }

  -- the counts for a step that did not fault
  pub movable : {Held : Program → Type 0} {grid scratch grid' scratch' : List ℤ} {marks counts : List ℕ} {time count : ℕ} {said : Step} {whole : ⊤} → length counts ≡ rows → length grid ≡ length grid₀ → length scratch ≡ length grid₀ → length marks ≡ product sizes
      → SteppedFor Held rule sizes grid scratch marks time count said grid' scratch' → said.outcome ≡ Ok whole → {counts₀ : List ℕ} → CountsFilled counted sizes rule.fields field grid counts₀ counts
      → counted ≡ true → Movable marks sizes rule.fields field scratch' grid' counts
  movable {Held} {grid} {scratch} {grid'} {scratch'} {marks} {counts} {time} {count} {said} {whole} n g s m step e tally c =
      record {
        countable = subst (Countable sizes rule.fields field (length grid')) (sym n) (countable c (step.grid_size ∙ g));
        old_fits = step.scratch_size ∙ s ∙ sym g ∙ sym step.grid_size;
        marks_fit = m;
        before = grid;
        had = λ x l t. step.old (ap fault_told e) x l ∙ ap (λ (b : Bool). cond b (cell_of rule.fields grid x) (cell_of rule.fields scratch x)) t;
        kept = step.kept;
        counted = tally.fills c;
      }

module _ {counted : Bool} {sizes : List ℕ} {fields field : ℕ} {counts₀ counts : List ℕ} where
  -- behind the block of a time
  pub counts_set : {grid grid' : List ℤ} → CountsFilled counted sizes fields field grid counts₀ counts → {text : List ℕ} {bounds : Bounds} {backs : List ℕ} {listed : ℕ} {all_open : Bool} {scratch scratch' : List ℤ} {marks marks' : List ℕ} {t : ℕ} {next next' : Next}
      → DueSet text sizes bounds backs listed all_open fields grid scratch marks t next next' grid' scratch' marks' → {anew : Bool} → anew ≡ (counted && is_due next t) → {counts' : List ℕ} → CountsFilled anew sizes fields field grid' counts counts'
      → CountsFilled counted sizes fields field grid' counts₀ counts'
  counts_set {grid} {grid'} tally {t = t} {next = next} set {anew} is {counts'} filled = record { fills = λ c. by c (is_due next t) refl; stays = λ f. filled.stays (is ∙ ap (λ (b : Bool). b && is_due next t) f) ∙ tally.stays f }
    where
      asked : counted ≡ true → anew ≡ is_due next t
      asked c = is ∙ ap (λ (b : Bool). b && is_due next t) c

      by : counted ≡ true → (b : Bool) → is_due next t ≡ b → counts' ≡ row_counts sizes fields field grid'
      by c true d = filled.fills (asked c ∙ d)
      by c false d = filled.stays (asked c ∙ d) ∙ tally.fills c ∙ ap (row_counts sizes fields field) (sym (set.stays d).1)

  -- and behind a step
  pub counts_moved : {grid grid' : List ℤ} → CountsFilled counted sizes fields field grid counts₀ counts → {counts' : List ℕ} → CountsFilled counted sizes fields field grid' counts counts' → CountsFilled counted sizes fields field grid' counts₀ counts'
  counts_moved tally moved = record { fills = moved.fills; stays = λ f. moved.stays f ∙ tally.stays f }

-- ---- at the end

module _ {words : List ℕ} {rule : Rule} {sizes : List ℕ} {r : Reach} {all_open counted : Bool} {field : ℕ} {counts₀ counts : List ℕ} where
  pub counts_end : {grid : List ℤ} → CountsFilled counted sizes rule.fields field grid counts₀ counts → Tallied words rule sizes r all_open counted field grid counts₀ counts
  counts_end tally = record { tells = λ p runs. tally }

  -- behind counts that were filled at the beginning
  pub counts_from : {grid grid' : List ℤ} {counts'' : List ℕ} → CountsFilled counted sizes rule.fields field grid counts₀ counts → Tallied words rule sizes r all_open counted field grid' counts counts''
      → Tallied words rule sizes r all_open counted field grid' counts₀ counts''
  counts_from first rest = record { tells = λ p runs. counts_moved first (rest.tells p runs) }

  -- a step that faults leaves the grid, and so the counts
  pub counts_stop : {Held : Program → Type 0} → ((p : Program) → Runs words rule r all_open p → Held p) → {grid scratch grid' scratch' : List ℤ} {marks : List ℕ} {time count : ℕ} {said : Step} {f : CellFault} → SteppedFor Held rule sizes grid scratch marks time count said grid' scratch' → said.outcome ≡ Err f
      → CountsFilled counted sizes rule.fields field grid counts₀ counts → Tallied words rule sizes r all_open counted field grid' counts₀ counts
  unfolding quiet_step
  counts_stop {Held} tells {grid} {scratch} {grid'} {scratch'} {marks} {time} {count} {said} {f} step e tally =
      record { tells = λ p runs. record { fills = λ c. tally.fills c ∙ ap (row_counts sizes rule.fields field) (sym (same p runs)); stays = tally.stays } }
    where
      same : (p : Program) → Runs words rule r all_open p → grid' ≡ grid
      same p runs = step.grid_is p (tells p runs) ∙ ap (λ (x : Fault). grid_after (running p sizes) x grid (quiet_outcome (running p sizes) marks grid time)) (sym (step.fault p (tells p runs)) ∙ ap fault_told e)

-- ---- the loop

-- the counts fit, and are those of the grid where they are kept
pub record Keeping (counted : Bool) (rule : Rule) (sizes : List ℕ) (field : ℕ) (grid : List ℤ) (counts₀ counts : List ℕ) : Type 0 where
  pub fit : CountsFit counted rule.fields sizes field (length counts)
  pub tally : CountsFilled counted sizes rule.fields field grid counts₀ counts
  pub size : length counts ≡ length counts₀

pub keep_start : {counted : Bool} {rule : Rule} {sizes : List ℕ} {field : ℕ} {grid : List ℤ} {counts : List ℕ} → CountsFit counted rule.fields sizes field (length counts)
    → CountsFilled counted sizes rule.fields field grid counts counts → Keeping counted rule sizes field grid counts counts
keep_start f t = record { fit = f; tally = t; size = refl }

module _ {counted : Bool} {rule : Rule} {sizes : List ℕ} {field : ℕ} {grid : List ℤ} {counts₀ counts : List ℕ} (now : Keeping counted rule sizes field grid counts₀ counts) where
  pub keep_block : {grid' : List ℤ} {text : List ℕ} {bounds : Bounds} {backs : List ℕ} {listed : ℕ} {all_open : Bool} {scratch scratch' : List ℤ} {marks marks' : List ℕ} {t : ℕ} {next next' : Next}
      → DueSet text sizes bounds backs listed all_open rule.fields grid scratch marks t next next' grid' scratch' marks' → {anew : Bool} → anew ≡ (counted && is_due next t)
      → {counts' : List ℕ} → CountsFilled anew sizes rule.fields field grid' counts counts' → length counts' ≡ length counts → Keeping counted rule sizes field grid' counts₀ counts'
  keep_block set is filled e = record { fit = refit now.fit e; tally = counts_set now.tally set is filled; size = e ∙ now.size }

  pub keep_step : {grid' : List ℤ} {counts' : List ℕ} → CountsFilled counted sizes rule.fields field grid' counts counts' → length counts' ≡ length counts → Keeping counted rule sizes field grid' counts₀ counts'
  keep_step moved e = record { fit = refit now.fit e; tally = counts_moved now.tally moved; size = e ∙ now.size }

  -- the counts can be filled behind a block
  pub block_countable : {words : List ℕ} {r : Reach} {grid₁ scratch₁ : List ℤ} {marks₁ text : List ℕ} {start steps : ℕ} → Begins words rule sizes r grid₁ scratch₁ marks₁ text start steps
      → {grid' : List ℤ} {bounds : Bounds} {backs : List ℕ} {listed : ℕ} {all_open : Bool} {scratch scratch' : List ℤ} {marks marks' : List ℕ} {t : ℕ} {next next' : Next}
      → DueSet text sizes bounds backs listed all_open rule.fields grid scratch marks t next next' grid' scratch' marks' → {anew : Bool} → anew ≡ (counted && is_due next t) → length grid' ≡ length grid₁ → anew ≡ true
      → Countable sizes rule.fields field (length grid') (length counts)
  block_countable begins {t = t} {next = next} set is e a = countable begins now.fit (and_both counted (is_due next t) (sym is ∙ a)).0 e
