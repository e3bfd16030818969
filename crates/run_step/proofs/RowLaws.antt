-- The evaluation of cells in rising order, and what it comes to for the rows of a band.
use Prim.Native.Nat.{ℕ, suc, ◌+◌, ◌*◌, ◌≤◌, ◌<◌}
use native.Mathlib.Omega.{arith}
use native.Mathlib.Numerals.{add-one}
use native.Mathlib.Nat.{mul-le-mul_right, add-mul}
use mathlib.Core.Path.{◌≡◌, refl, sym, ap, ◌∙◌, subst}
use mathlib.Core.Logic.{◌⊎◌, inl, inr}
use mathlib.Core.List.{List, [], ◌∷◌}
use lib.ListN.{length, get_or, drop, take}
use lib.Seq.{length-take-le}
use lib.IntN.{ℤ}
use Rattle.automaton.specs.Promises.ListedLaws.{last_or_below}
use Rattle.automaton.specs.Step.{Outcome, result, Fault, no_fault, fault_at, state_or, first_fault}
use Rattle.automaton.proofs.Theorems.Quiet.{first_fault_here}
use Rattle.automaton.specs.Shape.{product}
use Rattle.automaton.specs.Grid.{cell_of}
use Rattle.automaton.proofs.Theorems.GridLaws.{cell_room}
use Rattle.automaton.specs.Bands.{reached, next_rows, part_step, band_outcome, band_step}
use Rattle.program.specs.Syntax.{Program}
use Rattle.program.specs.declared.Rule.{Rule}
use Rattle.cell_meaning.specs.Promises.Stands.{Holds}
use Rattle.run_marked_cells.specs.Promises.Marked.{PointSet, Moving}
use Rattle.run_marked_cells.proofs.PartLaws.{flat_ext}
use Rattle.std.specs.Prelude.{⊤, Ok, Err}
use Rattle.program.specs.Refusal.{Refusal}
use Rattle.cell_statements.specs.Promises.Running as running_of
use Rattle.cell_statements.specs.Promises.Running.{outcome_is}
use Rattle.run_step.specs.declared.Evaluation.{Evaluation}
use Rattle.run_step.specs.declared.Step.{Step}
use Rattle.run_step.specs.Promises.Stepping.{fault_in}
use Rattle.run_step.specs.Promises.Turns.{given, Turning, CellTurned}
use Rattle.run_step.specs.Promises.Rows.{CellsReady, CellsStepped, RowsReady, RowsStepped}

-- ---- cells in rising order

pub placed_at : (sizes : List ℕ) (a b : ℕ) (point : List ℕ) → PointSet sizes a point → a ≡ b → PointSet sizes b point
placed_at sizes a b point h e = subst (λ (c : ℕ). PointSet sizes c point) e h

module _ (words : List ℕ) (rule : Rule) (sizes : List ℕ) (from : ℕ) (grid : List ℤ) (time count : ℕ) where
  -- what the cell i gives, counted from the first
  abbrev gives : Program → ℕ → Outcome (List ℤ)
  gives p i = given p rule.fields sizes grid time (from + i)

  -- the first i cells are evaluated, none with a fault
  pub record Rowing (i total : ℕ) (next : List ℤ) : Type 0 where
    pub clear : (p : Program) → Holds words rule p → first_fault (gives p) i ≡ no_fault
    pub counted : total ≡ count + i
    pub done : (p : Program) → Holds words rule p → (c : ℕ) → c < i → gives p c ≡ result (cell_of rule.fields next c)

  pub rowing_start : (next : List ℤ) → Rowing 0 count next
  unfolding first_fault
  rowing_start next = record { clear = λ p h. refl; counted = omega arith; done = λ p h c l. absurd (omega arith) }

  module _ {leaves : List ℕ} {cells lent : ℕ} (ready : CellsReady leaves words rule sizes from cells grid lent time count) where
    -- what the next cell's turn asks
    pub rowing_asks : {point : List ℕ} {lent' : ℕ} (i total : ℕ) (next : List ℤ) → PointSet sizes (from + i) point → lent' ≡ lent → Rowing i total next → i < cells
        → Turning leaves words rule sizes point (from + i) i grid lent' time total
    rowing_asks {point} {lent'} i total next own same w l =
        let a = ready.inside in
        let b = ready.countable in
        let c = w.counted in
        let d = ready.next_fits in
        let inside : from + i < product sizes = omega arith in
        record {
          rule_fits = ready.rule_fits;
          roomed = ready.roomed;
          part_fits = cell_room i cells rule.fields lent' l (d ∙ sym same);
          inside = inside;
          own = own inside;
          small = ready.small;
          countable = omega arith;
          noted = ready.noted;
        }

    -- what going on to the next cell's coordinates asks
    pub rowing_moves : {point' : List ℕ} (i : ℕ) → length point' ≡ length sizes → PointSet sizes (from + i) point' → i < cells → Moving sizes (from + i) (from + i + 1) point'
    rowing_moves i dims own l =
        let a = ready.inside in
        let b = ready.roomed.cells in
        let inside : from + i < product sizes = omega arith in
        record {
          placing = record { dims = dims; positive = ready.roomed.positive };
          inside = inside;
          own = own inside;
          onward = omega arith;
          small = omega arith;
        }

  module _ (i total : ℕ) (next next' : List ℤ) {r : Evaluation} (w : Rowing i total next) (t : CellTurned words rule sizes (from + i) i grid next next' time total r) where
    pub rowing_turn : {n : ⊤} → r.outcome ≡ Ok n → Rowing (i + 1) r.count next'
    unfolding first_fault
    rowing_turn {n} e = rw (add-one i) (record {
      clear = λ p h. rw (w.clear p h, sym (here p h)) refl;
      counted = let a = t.count_is in let b = w.counted in omega arith;
      done = λ p h c l. by p h c (last_or_below l);
    })
      where
        here : (p : Program) → Holds words rule p → result (cell_of rule.fields next' i) ≡ gives p i
        here p h = ap (λ (x : running_of.CellResult). outcome_is x (cell_of rule.fields next' i)) (sym e) ∙ t.says p h

        by : (p : Program) → Holds words rule p → (c : ℕ) → (c ≡ i) ⊎ (c < i) → gives p c ≡ result (cell_of rule.fields next' c)
        by p h c (inl q) = subst (λ (x : ℕ). gives p x ≡ result (cell_of rule.fields next' x)) (sym q) (sym (here p h))
        by p h c (inr q) = w.done p h c q ∙ ap (λ (a : List ℤ). result a) (sym (t.kept c (λ k. absurd (let u = k in omega arith))))

    pub rowing_stop : {cells : ℕ} {f : Refusal} → r.outcome ≡ Err f → i < cells → {s : Step} → s.count ≡ r.count → fault_in s ≡ fault_at i f.number f.place
        → CellsStepped words rule sizes from cells grid time count s next'
    rowing_stop {cells} {f} e l {s} same is = record {
      fault = λ p h. is ∙ sym (first_fault_here (gives p) cells i f.number f.place (w.clear p h) (sym (ap (λ (x : running_of.CellResult). outcome_is x (cell_of rule.fields next' i)) (sym e) ∙ t.says p h)) l);
      count_is = same ∙ all ∙ ap (λ (a : Fault). count + reached cells a) (sym is);
      counted = let a = same ∙ all in omega arith;
      next = λ none. absurd (let y = sym is ∙ none in let z : ◌≡◌ {A = ℕ} 0 1 = cc in omega arith);
    }
      where
        all : r.count ≡ count + suc i
        all = let a = t.count_is in let b = w.counted in omega arith

  pub rowing_done : (cells i total : ℕ) (next : List ℤ) → Rowing i total next → i ≤ cells → cells ≤ i → CellsStepped words rule sizes from cells grid time count (record { count = total; outcome = Ok tt }) next
  rowing_done cells i total next w l m =
      let end : i ≡ cells = omega arith in
      let t = w.counted in
      record {
        fault = λ p h. sym (ap (first_fault (gives p)) (sym end) ∙ w.clear p h);
        count_is = omega arith;
        counted = omega arith;
        next = λ none p h c k. w.done p h c (omega arith);
      }

-- ---- the rows of a band

-- the band's rows are cells of the room
rows_inside : (sizes : List ℕ) (row before own : ℕ) → 0 < length sizes → row ≡ product (drop 1 sizes) → before + own ≤ get_or sizes 0 0 → before * row + own * row ≤ product sizes
rows_inside [] row before own l e m = absurd (omega arith)
rows_inside (n ∷ ns) row before own l e m = rw e (omega (arith, mul-le-mul_right {m = before + own} {n = n} (product ns) m, add-mul before own (product ns)))

module _ {leaves words : List ℕ} {rule : Rule} {sizes : List ℕ} {row before own : ℕ} {room : List ℤ} {lent time count : ℕ} (ready : RowsReady leaves words rule sizes row before own room lent time count) where
  pub rows_inside_of : before * row + own * row ≤ product sizes
  rows_inside_of = rows_inside sizes row before own ready.some_dims ready.row_is ready.inside

  pub rows_small : (before * row ≤ 4194304) × (own * row ≤ 4194304)
  rows_small = let a = rows_inside_of in let b = ready.roomed.cells in (omega arith, omega arith)

  pub rows_ask : CellsReady leaves words rule sizes (before * row) (own * row) room lent time count
  rows_ask = record {
    rule_fits = ready.rule_fits;
    roomed = ready.roomed;
    inside = rows_inside_of;
    next_fits = ready.next_fits;
    small = ready.small;
    countable = ready.countable;
    noted = ready.noted;
  }

  -- room for coordinates
  pub rows_point : (zs : List ℕ) → length zs ≡ 3 → length (take (length sizes) zs) ≡ length sizes
  rows_point zs e = length-take-le (length sizes) zs (let d = ready.roomed.dims in let f = ready.rule_fits.dims in omega arith)

rows_stepped_at : (words : List ℕ) (rule : Rule) (n : ℕ) (ns : List ℕ) (before own : ℕ) (room : List ℤ) (time count : ℕ) (r : Step) (next' : List ℤ) → length next' ≡ own * product ns * rule.fields
    → CellsStepped words rule (n ∷ ns) (before * product ns) (own * product ns) room time count r next' → RowsStepped words rule (n ∷ ns) before own room time count r next'
unfolding part_step band_step band_outcome
rows_stepped_at words rule n ns before own room time count r next' size s = record {
  fault = s.fault;
  count_is = λ p h. s.count_is ∙ ap (λ (a : Fault). count + reached (own * product ns) a) (s.fault p h);
  next_is = λ none p h.
      flat_ext rule.fields (own * product ns) next' _ size (λ c l. sym (ap (state_or []) (s.next none p h c l)))
      ∙ ap (next_rows rule.fields (own * product ns) (λ i. given p rule.fields (n ∷ ns) room time (before * product ns + i))) (sym none ∙ s.fault p h);
  evaluated = s.count_is;
  counted = s.counted;
}

pub rows_stepped : {leaves words : List ℕ} {rule : Rule} {sizes : List ℕ} {row before own : ℕ} {room : List ℤ} {lent time count : ℕ} {r : Step} {next' : List ℤ}
    → RowsReady leaves words rule sizes row before own room lent time count → length next' ≡ lent
    → CellsStepped words rule sizes (before * row) (own * row) room time count r next' → RowsStepped words rule sizes before own room time count r next'
rows_stepped {leaves} {words} {rule} {sizes} {row} {before} {own} {room} {lent} {time} {count} {r} {next'} ready size s = by sizes ready.some_dims ready.row_is (size ∙ sym ready.next_fits) s
  where
    by : (ss : List ℕ) → 0 < length ss → row ≡ product (drop 1 ss) → length next' ≡ own * row * rule.fields → CellsStepped words rule ss (before * row) (own * row) room time count r next'
        → RowsStepped words rule ss before own room time count r next'
    by [] l e long t = absurd (omega arith)
    by (n ∷ ns) l e long t = rows_stepped_at words rule n ns before own room time count r next' (rw e at long) (rw e at t)
