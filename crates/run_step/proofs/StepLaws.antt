-- What a step comes to: the evaluation of the marked cells, and the exchange.
use Prim.Native.Nat.{ℕ, ◌+◌, ◌*◌, ◌≤◌, ◌<◌}
use native.Mathlib.Omega.{arith}
use mathlib.Core.Path.{◌≡◌, refl, sym, ap, ◌∙◌}
use mathlib.Core.Bool.{Bool, true, false, cond}
use mathlib.Core.List.{List}
use lib.ListN.{length, take}
use lib.Seq.{length-take-le}
use lib.IntN.{ℤ}
use Rattle.value.specs.Limits.{most_cells}
use Rattle.automaton.specs.Step.{Fault, no_fault, fault_at, state_or, marked, grid_after, quiet_step}
use Rattle.automaton.specs.Shape.{product}
use Rattle.automaton.specs.Grid.{cell_of, grid_of, automaton}
use Rattle.automaton.specs.Promises.ShapeLaws.{Shaped}
use Rattle.program.specs.Syntax.{Program}
use Rattle.program.specs.declared.Rule.{Rule}
use Rattle.cell_meaning.specs.Promises.Stands.{Holds}
use Rattle.run_meaning.specs.Reach.{running}
use Rattle.program.specs.Promises.Fitting.{Sized}
use Rattle.run_meaning.specs.Promises.Fitting.{held_fields}
use Rattle.std.specs.Prelude.{⊤, Result, Ok, Err}
use Rattle.std.specs.Result.{is_ok}
use Rattle.run_step.specs.declared.CellFault.{CellFault}
use Rattle.run_step.specs.declared.Step.{Step}
use Rattle.run_step.specs.Promises.Stepping.{fault_told, fault_in, StepReady, SteppedFor}
use Rattle.run_marked_cells.specs.Promises.Marked.{NextMarked, PointSet, Moving, Exchanging, Exchanged}
use Rattle.run_step.specs.Promises.Turns.{FilledFor}
use Rattle.run_marked_cells.proofs.PartLaws.{flat_ext}
use Rattle.run_step.proofs.FillLaws.{outcome, of_marked, of_unmarked}

module _ {leaves words : List ℕ} {rule : Rule} {sizes : List ℕ} {grid scratch : List ℤ} {marks : List ℕ} {time count : ℕ} (ready : StepReady leaves words rule sizes grid scratch marks time count) where
  -- room for coordinates
  pub point_fits : (zs : List ℕ) → length zs ≡ 3 → length sizes ≤ length zs
  point_fits zs e = let d = ready.shaped.dims in let f = ready.rule_fits.dims in omega arith

  pub point_room : (zs : List ℕ) → length zs ≡ 3 → length (take (length sizes) zs) ≡ length sizes
  point_room zs e = length-take-le (length sizes) zs (point_fits zs e)

  -- the number of a cell, or of all cells, is small
  pub cell_small : {i : ℕ} → i ≤ length marks → i < 4294967296
  cell_small l = let m = ready.marks_fit in let n = ready.shaped.cells in omega arith

  -- what going on to the next marked cell's coordinates asks
  pub moving : {i r : ℕ} {point : List ℕ} → length point ≡ length sizes → PointSet sizes i point → i < length marks → NextMarked marks (i + 1) r → Moving sizes i r point
  moving {i} dims own l n =
      let inside : i < product sizes = let m = ready.marks_fit in omega arith in
      record {
        placing = record { dims = dims; positive = ready.shaped.positive };
        inside = inside;
        own = own inside;
        onward = let o = n.onward in omega arith;
        small = cell_small n.within;
      }

-- what the exchange asks
pub exchanging : {words : ℕ} {rule : Rule} {sizes : List ℕ} {grid scratch lent marks : ℕ} → Sized words rule → Shaped rule.dims rule.fields most_cells sizes grid → scratch ≡ grid → marks ≡ product sizes → lent ≡ scratch
    → Exchanging grid lent marks rule.fields
exchanging {words} {rule} sized shaped alike all e = record {
  alike = e ∙ alike;
  entries = ap (λ (n : ℕ). n * rule.fields) all ∙ shaped.entries;
  few = let n = shaped.cells in omega arith;
  most = sized.fields;
}

-- an outcome without a fault, and one with a fault
told_none : (o : Result ⊤ CellFault) → is_ok o ≡ true → fault_told o ≡ no_fault
told_none (Ok done) e = refl
told_none (Err f) e = absurd (let z : ◌≡◌ {A = ℕ} 0 1 = cc in omega arith)

faulty : (o : Result ⊤ CellFault) → is_ok o ≡ false → (f : CellFault) × (o ≡ Err f)
faulty (Ok done) e = absurd (let z : ◌≡◌ {A = ℕ} 0 1 = cc in omega arith)
faulty (Err f) e = (f, refl)

module _ {words : List ℕ} {rule : Rule} {sizes : List ℕ} {grid scratch : List ℤ} {marks : List ℕ} {time count : ℕ} (shaped : Shaped rule.dims rule.fields most_cells sizes (length grid)) (marks_fit : length marks ≡ product sizes)
    {Held : Program → Type 0} (holds : (p : Program) → Held p → Holds words rule p) {r : Step} {filled : List ℤ} (f : FilledFor Held rule sizes grid scratch marks time count r filled) where
  -- the grid after a step without a fault, by its cells
  after_none : (p : Program) → Held p → fault_in r ≡ no_fault
      → (quiet_step (running p sizes) marks grid time).grid
      ≡ grid_of rule.fields (product sizes) (λ c. state_or (cell_of rule.fields grid c) (outcome sizes grid marks time p c))
  unfolding quiet_step running automaton
  after_none p h e =
      ap (λ (a : Fault). grid_after (running p sizes) a grid (outcome sizes grid marks time p)) (sym (f.fault p h) ∙ e)
      ∙ ap (λ (n : ℕ). grid_of n (product sizes) (λ c. state_or (cell_of n grid c) (outcome sizes grid marks time p c))) (held_fields p (holds p h))

  after_fault : (p : Program) → Held p → {c k q : ℕ} → fault_in r ≡ fault_at c k q → (quiet_step (running p sizes) marks grid time).grid ≡ grid
  unfolding quiet_step
  after_fault p h e = ap (λ (a : Fault). grid_after (running p sizes) a grid (outcome sizes grid marks time p)) (sym (f.fault p h) ∙ e)

  pub stepped_done : {grid' scratch' : List ℤ} → is_ok r.outcome ≡ true → Exchanged rule.fields marks grid filled grid' → Exchanged rule.fields marks filled grid scratch'
      → length filled ≡ length scratch → SteppedFor Held rule sizes grid scratch marks time count r grid' scratch'
  stepped_done {grid'} {scratch'} e x y size = record {
    fault = f.fault;
    grid_is = λ p h. flat_ext rule.fields (product sizes) grid' _ (x.size ∙ sym shaped.entries) (λ c l. at p h c l (marked marks c) refl) ∙ sym (after_none p h none);
    count_is = f.count_is;
    counted = f.counted;
    grid_size = x.size;
    scratch_size = y.size ∙ size;
    kept = λ c l m. x.cells c (in_marks c l) ∙ ap (λ (b : Bool). cond b (cell_of rule.fields filled c) (cell_of rule.fields grid c)) m;
    old = λ no c l. before c l (marked marks c) refl;
  }
    where
      none : fault_in r ≡ no_fault
      none = told_none r.outcome e

      in_marks : (c : ℕ) → c < product sizes → c < length marks
      in_marks c l = let m = marks_fit in omega arith

      at : (p : Program) → Held p → (c : ℕ) → c < product sizes → (b : Bool) → marked marks c ≡ b
          → cell_of rule.fields grid' c ≡ state_or (cell_of rule.fields grid c) (outcome sizes grid marks time p c)
      at p h c l true m =
          x.cells c (in_marks c l) ∙ ap (λ (b : Bool). cond b (cell_of rule.fields filled c) (cell_of rule.fields grid c)) m
          ∙ ap (state_or (cell_of rule.fields grid c)) (sym (of_marked sizes grid marks time holds p h c m ∙ f.next none p h c l m))
      at p h c l false m =
          x.cells c (in_marks c l) ∙ ap (λ (b : Bool). cond b (cell_of rule.fields filled c) (cell_of rule.fields grid c)) m
          ∙ ap (state_or (cell_of rule.fields grid c)) (sym (of_unmarked sizes grid marks time holds p h c m))

      before : (c : ℕ) → c < product sizes → (b : Bool) → marked marks c ≡ b
          → cell_of rule.fields scratch' c ≡ cond (marked marks c) (cell_of rule.fields grid c) (cell_of rule.fields scratch c)
      before c l true m = y.cells c (in_marks c l) ∙ rw m refl
      before c l false m = y.cells c (in_marks c l) ∙ rw m (f.kept c l m)

  pub stepped_fault : is_ok r.outcome ≡ false → length filled ≡ length scratch → SteppedFor Held rule sizes grid scratch marks time count r grid filled
  stepped_fault e size = record {
    fault = f.fault;
    grid_is = λ p h. sym (after_fault p h is);
    count_is = f.count_is;
    counted = f.counted;
    grid_size = refl;
    scratch_size = size;
    kept = λ c l m. refl;
    old = λ no. absurd (let y = sym is ∙ no in let z : ◌≡◌ {A = ℕ} 0 1 = cc in omega arith);
  }
    where
      is : fault_in r ≡ fault_at (faulty r.outcome e).0.cell (faulty r.outcome e).0.fault.number (faulty r.outcome e).0.fault.place
      is = ap fault_told (faulty r.outcome e).1

-- the same of fewer programs
pub stepped_of : {Held Held' : Program → Type 0} {rule : Rule} {sizes : List ℕ} {grid scratch : List ℤ} {marks : List ℕ} {time count : ℕ} {r : Step} {grid' scratch' : List ℤ} → ((p : Program) → Held' p → Held p)
    → SteppedFor Held rule sizes grid scratch marks time count r grid' scratch' → SteppedFor Held' rule sizes grid scratch marks time count r grid' scratch'
stepped_of fewer s = record {
  fault = λ p h. s.fault p (fewer p h);
  grid_is = λ p h. s.grid_is p (fewer p h);
  count_is = λ p h. s.count_is p (fewer p h);
  counted = s.counted;
  grid_size = s.grid_size;
  scratch_size = s.scratch_size;
  kept = s.kept;
  old = s.old;
}
