-- The evaluation of the marked cells in rising order.
use Prim.Native.Nat.{ℕ, zero, suc, ◌+◌, ◌≤◌, ◌<◌}
use native.Mathlib.Omega.{arith}
use native.Mathlib.Numerals.{add-one}
use mathlib.Core.Path.{◌≡◌, refl, sym, ap, ap₂, ◌∙◌, subst}
use mathlib.Core.Logic.{◌⊎◌, inl, inr}
use mathlib.Core.Bool.{Bool, true, false, cond}
use mathlib.Core.List.{List}
use lib.ListN.{length}
use lib.IntN.{ℤ}
use Rattle.automaton.specs.Promises.ListedLaws.{last_or_below}
use Rattle.automaton.specs.Step.{Outcome, result, fault, Fault, no_fault, fault_at, fault_of, or_else, first_fault, how_many, marked, up_to, quiet_outcome, quiet_step}
use Rattle.automaton.proofs.Theorems.Quiet.{first_fault_here, how_many_le}
use Rattle.automaton.specs.Shape.{product}
use Rattle.automaton.specs.Grid.{cell_of, automaton}
use Rattle.automaton.proofs.Theorems.GridLaws.{cell_room}
use Rattle.program.specs.Syntax.{Program}
use Rattle.program.specs.declared.Rule.{Rule}
use Rattle.cell_meaning.specs.Promises.Stands.{Holds}
use Rattle.run_meaning.specs.Reach.{running}
use Rattle.run_meaning.specs.Promises.Fitting.{held_fields}
use Rattle.std.specs.Prelude.{⊤, Ok, Err}
use Rattle.program.specs.Refusal.{Refusal}
use Rattle.cell_statements.specs.Promises.Running as running_of
use Rattle.cell_statements.specs.Promises.Running.{outcome_is}
use Rattle.run_step.specs.declared.Step.{Step}
use Rattle.run_step.specs.declared.Evaluation.{Evaluation}
use Rattle.run_step.specs.Promises.Stepping.{fault_in, StepReady}
use Rattle.run_marked_cells.specs.Promises.Marked.{NextMarked, PointSet}
use Rattle.run_step.specs.Promises.Turns.{given, Turning, CellTurned, FilledFor}
use Rattle.run_marked_cells.proofs.ScanLaws.{below_or}
use Rattle.run_step.proofs.TurnLaws.{roomed}

-- ---- runs of cells

-- cells without a fault may be passed over
pub skip_fault : {State : Type 0} (f : ℕ → Outcome State) (i r : ℕ) → i ≤ r → first_fault f i ≡ no_fault → ((c : ℕ) → i ≤ c → c < r → fault_of c (f c) ≡ no_fault)
    → first_fault f r ≡ no_fault
unfolding first_fault
skip_fault f i zero l e h = let z : i ≡ 0 = omega arith in subst (λ (n : ℕ). first_fault f n ≡ no_fault) z e
skip_fault f i (suc r) l e h = go (λ q. skip_fault f i r q e (λ c a b. h c a (omega arith))) (last_or_below (omega arith))
  where
    go : (i ≤ r → first_fault f r ≡ no_fault) → (i ≡ suc r) ⊎ (i < suc r) → or_else (first_fault f r) (fault_of r (f r)) ≡ no_fault
    go below (inl q) = subst (λ (n : ℕ). first_fault f n ≡ no_fault) q e
    go below (inr q) = rw (below (omega arith), h r (omega arith) (omega arith)) refl

-- cells that are not open count nothing
skip_count : (p : ℕ → Bool) (i r : ℕ) → i ≤ r → ((c : ℕ) → i ≤ c → c < r → p c ≡ false) → how_many p r ≡ how_many p i
unfolding how_many
skip_count p i zero l h = let z : i ≡ 0 = omega arith in ap (how_many p) (sym z)
skip_count p i (suc r) l h = go (λ q. skip_count p i r q (λ c a b. h c a (omega arith))) (last_or_below (omega arith))
  where
    go : (i ≤ r → how_many p r ≡ how_many p i) → (i ≡ suc r) ⊎ (i < suc r) → how_many p r + cond (p r) 1 0 ≡ how_many p i
    go below (inl q) = ap (how_many p) (sym q)
    go below (inr q) = ap₂ (λ (n : ℕ) (b : Bool). n + cond b 1 0) (below (omega arith)) (h r (omega arith) (omega arith)) ∙ omega arith

-- ---- a step's cells

module _ (sizes : List ℕ) (grid : List ℤ) (marks : List ℕ) (time : ℕ) where
  abbrev pub outcome : Program → ℕ → Outcome (List ℤ)
  outcome p c = quiet_outcome (running p sizes) marks grid time c

  pub cells_are : (p : Program) → (running p sizes).cells ≡ product sizes
  unfolding running automaton
  cells_are p = refl

  -- the marked cells below i are evaluated, none with a fault, by the programs held
  pub record Filling (Held : Program → Type 0) (rule : Rule) (old : List ℤ) (count : ℕ) (i total : ℕ) (scratch : List ℤ) : Type 0 where
    pub clear : (p : Program) → Held p → first_fault (outcome p) i ≡ no_fault
    pub counted : total ≡ count + how_many (marked marks) i
    pub next : (p : Program) → Held p → (c : ℕ) → c < i → marked marks c ≡ true → given p rule.fields sizes grid time c ≡ result (cell_of rule.fields scratch c)
    pub kept : (c : ℕ) → marked marks c ≡ false → cell_of rule.fields scratch c ≡ cell_of rule.fields old c

  pub fill_start : (Held : Program → Type 0) (rule : Rule) (old : List ℤ) (count : ℕ) → Filling Held rule old count 0 count old
  unfolding first_fault how_many
  fill_start Held rule old count = record { clear = λ p h. refl; counted = omega arith; next = λ p h c l. absurd (omega arith); kept = λ c m. refl }

  -- what the next cell's turn asks
  pub turning : {leaves words point : List ℕ} {rule : Rule} {Held : Program → Type 0} {old : List ℤ} {count lent : ℕ} (i total : ℕ) (scratch : List ℤ) → StepReady leaves words rule sizes grid old marks time count
      → PointSet sizes i point → lent ≡ length old → Filling Held rule old count i total scratch → i < length marks → Turning leaves words rule sizes point i i grid lent time total
  turning {rule} i total scratch ready own size f l =
      let m = ready.marks_fit in
      let r = ready.room in
      let t = f.counted in
      let inside : i < product sizes = omega arith in
      let entries = ready.shaped.entries in
      let alike = ready.scratch_fits in
      record {
        rule_fits = ready.rule_fits;
        roomed = roomed ready.shaped;
        part_fits = omega (arith, cell_room i (product sizes) rule.fields _ inside refl);
        inside = inside;
        own = own inside;
        small = ready.small;
        countable = omega (arith, how_many_le (marked marks) i);
        noted = ready.noted;
      }

  module _ {words : List ℕ} {rule : Rule} {Held : Program → Type 0} (holds : (p : Program) → Held p → Holds words rule p) where
    pub of_marked : (p : Program) → Held p → (c : ℕ) → marked marks c ≡ true → outcome p c ≡ given p rule.fields sizes grid time c
    unfolding quiet_outcome running automaton
    of_marked p h c m = rw m (ap (λ (n : ℕ). given p n sizes grid time c) (held_fields p (holds p h)))

    pub of_unmarked : (p : Program) → Held p → (c : ℕ) → marked marks c ≡ false → outcome p c ≡ result (cell_of rule.fields grid c)
    unfolding quiet_outcome running automaton
    of_unmarked p h c m = rw m (ap (λ (n : ℕ). result (cell_of n grid c)) (held_fields p (holds p h)))

    module _ {old : List ℤ} {count : ℕ} where
      pub fill_skip : (i r total : ℕ) (scratch : List ℤ) → Filling Held rule old count i total scratch → NextMarked marks i r → Filling Held rule old count r total scratch
      fill_skip i r total scratch f n = record {
        clear = λ p h. skip_fault (outcome p) i r n.onward (f.clear p h) (λ c a b. rw (of_unmarked p h c (n.skipped c a b)) refl);
        counted = f.counted ∙ ap (λ (m : ℕ). count + m) (sym (skip_count (marked marks) i r n.onward n.skipped));
        next = λ p h c l m. by p h c l m (below_or c i);
        kept = f.kept;
      }
        where
          by : (p : Program) → Held p → (c : ℕ) → c < r → marked marks c ≡ true → (c < i) ⊎ (i ≤ c)
              → given p rule.fields sizes grid time c ≡ result (cell_of rule.fields scratch c)
          by p h c l m (inl q) = f.next p h c q m
          by p h c l m (inr q) = absurd (let e : true ≡ false = sym m ∙ n.skipped c q l in let z : ◌≡◌ {A = ℕ} 0 1 = cc in omega arith)

      module _ (i total : ℕ) (scratch scratch' : List ℤ) {r : Evaluation} (g : Filling Held rule old count i total scratch) (is_on : marked marks i ≡ true)
          (w : CellTurned words rule sizes i i grid scratch scratch' time total r) where
        other : (c : ℕ) → marked marks c ≡ false → c ≡ i → ⊥
        other c m q = let e : true ≡ false = sym is_on ∙ ap (marked marks) (sym q) ∙ m in let z : ◌≡◌ {A = ℕ} 0 1 = cc in omega arith

        still : (c : ℕ) → marked marks c ≡ false → cell_of rule.fields scratch' c ≡ cell_of rule.fields old c
        still c m = w.kept c (other c m) ∙ g.kept c m

        -- one more cell is counted
        one_more : how_many (marked marks) (suc i) ≡ how_many (marked marks) i + 1
        unfolding how_many
        one_more = rw is_on refl

        pub fill_turn : {n : ⊤} → r.outcome ≡ Ok n → Filling Held rule old count (i + 1) r.count scratch'
        unfolding first_fault
        fill_turn {n} e = rw (add-one i) (record {
          clear = λ p h. rw (g.clear p h, of_marked p h i is_on, sym (here p h)) refl;
          counted = let a = w.count_is in let b = g.counted in let s = one_more in omega arith;
          next = λ p h c l m. by p h c (last_or_below l) m;
          kept = still;
        })
          where
            here : (p : Program) → Held p → result (cell_of rule.fields scratch' i) ≡ given p rule.fields sizes grid time i
            here p h = ap (λ (x : running_of.CellResult). outcome_is x (cell_of rule.fields scratch' i)) (sym e) ∙ w.says p (holds p h)

            by : (p : Program) → Held p → (c : ℕ) → (c ≡ i) ⊎ (c < i) → marked marks c ≡ true
                → given p rule.fields sizes grid time c ≡ result (cell_of rule.fields scratch' c)
            by p h c (inl q) m = subst (λ (x : ℕ). given p rule.fields sizes grid time x ≡ result (cell_of rule.fields scratch' x)) (sym q) (sym (here p h))
            by p h c (inr q) m = g.next p h c q m ∙ ap (λ (a : List ℤ). result a) (sym (w.kept c (λ k. absurd (let u = k in omega arith))))

        pub fill_stop : {f : Refusal} → r.outcome ≡ Err f → i < product sizes → {s : Step} → s.count ≡ r.count → fault_in s ≡ fault_at i f.number f.place
            → FilledFor Held rule sizes grid old marks time count s scratch'
        unfolding quiet_step
        fill_stop {f} e l {s} same is = record {
          fault = λ p h. is ∙ sym (first p h);
          count_is = λ p h. same ∙ all ∙ ap (λ (a : Fault). count + how_many (marked marks) (up_to (running p sizes) a)) (sym (first p h));
          counted = let a = same ∙ all in let o = one_more in omega (arith, how_many_le (marked marks) i);
          next = λ none. absurd (let y = sym is ∙ none in let z : ◌≡◌ {A = ℕ} 0 1 = cc in omega arith);
          kept = λ c m. still c;
        }
          where
            here : (p : Program) → Held p → outcome p i ≡ fault f.number f.place
            here p h = of_marked p h i is_on ∙ sym (ap (λ (x : running_of.CellResult). outcome_is x (cell_of rule.fields scratch' i)) (sym e) ∙ w.says p (holds p h))

            first : (p : Program) → Held p → first_fault (outcome p) (running p sizes).cells ≡ fault_at i f.number f.place
            first p h = first_fault_here (outcome p) (running p sizes).cells i f.number f.place (g.clear p h) (here p h) (rw (cells_are p) l)

            all : r.count ≡ count + how_many (marked marks) (suc i)
            all = let a = w.count_is in let b = g.counted in let o = one_more in omega arith

      pub fill_done : (i total : ℕ) (scratch : List ℤ) → Filling Held rule old count i total scratch → product sizes ≤ i → i ≤ product sizes
          → FilledFor Held rule sizes grid old marks time count (record { count = total; outcome = Ok tt }) scratch
      unfolding quiet_step
      fill_done i total scratch f l m = record {
        fault = λ p h. sym (first p h);
        count_is = λ p h. f.counted ∙ ap (λ (n : ℕ). count + how_many (marked marks) n) (end ∙ sym (cells_are p))
            ∙ ap (λ (a : Fault). count + how_many (marked marks) (up_to (running p sizes) a)) (sym (first p h));
        counted = let a = f.counted in omega (arith, how_many_le (marked marks) i);
        next = λ none p h c k. f.next p h c (omega arith);
        kept = λ c k. f.kept c;
      }
        where
          end : i ≡ product sizes
          end = omega arith

          first : (p : Program) → Held p → first_fault (outcome p) (running p sizes).cells ≡ no_fault
          first p h = ap (first_fault (outcome p)) (cells_are p ∙ sym end) ∙ f.clear p h
