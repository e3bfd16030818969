-- The bands of a plan in turn, and what they come to: the step of the whole grid.
use Prim.Native.Nat.{ℕ, zero, suc, ◌+◌, ◌-◌, ◌*◌, ◌≤◌, ◌<◌}
use native.Mathlib.Omega.{arith}
use native.Mathlib.Nat.{mul-le-mul_right, add-mul}
use mathlib.Core.Path.{◌≡◌, refl, sym, ap, ap₂, ◌∙◌, subst}
use mathlib.Core.Logic.{◌⊎◌, inl, inr}
use mathlib.Core.Bool.{Bool, true, false, ◌&&◌, cond}
use mathlib.Core.List.{List, [], ◌∷◌}
use mathlib.Core.Option.{Option, none, some}
use lib.ListN.{length, get_or, drop}
use lib.Dec.{eqb, leb}
use lib.IntN.{ℤ}
use borrow.Author.Tests.{eqb-true, leb-true}
use Rattle.std.specs.Prelude.{⊤, Ok, Err}
use Rattle.value.specs.Promises.Buffers.{most_room}
use Rattle.value.proofs.Theorems.Laws.{and_both}
use Rattle.automaton.specs.Step.{Outcome, result, fault, Fault, no_fault, fault_at, fault_of, first_fault, how_many, marked, up_to, quiet_step}
use Rattle.automaton.proofs.Theorems.Quiet.{first_fault_at, first_fault_here, first_fault_ext}
use Rattle.automaton.specs.Shape.{product, Bound}
use Rattle.automaton.specs.Promises.ShapeLaws.{Shaped}
use Rattle.automaton.specs.Grid.{cell_of}
use Rattle.automaton.specs.Bands.{Band, rows_with, runs_on, accepts, reached}
use Rattle.program.specs.Syntax.{Program}
use Rattle.program.specs.declared.Rule.{Rule}
use Rattle.cell_meaning.specs.Promises.Stands.{Holds}
use Rattle.run_meaning.specs.Reach.{running}
use Rattle.band_meaning.specs.Plans.{band, before_others, bands_in, accepts_some, plan_right}
use Rattle.run_marked_cells.proofs.ScanLaws.{below_or}
use Rattle.run_step.specs.declared.Step.{Step}
use Rattle.run_step.specs.declared.CellFault.{CellFault}
use Rattle.run_step.specs.Promises.Stepping.{fault_told, fault_in}
use Rattle.run_step.specs.Promises.Turns.{given, FilledFor}
use Rattle.run_step.proofs.FillLaws.{skip_fault, outcome, of_marked, cells_are}
use Rattle.band_step.specs.Promises.Bandwise.{Grounds, BandFits, BandEvaluated, AllEvaluated, PlanRuns, AllMarked}
use Rattle.band_step.proofs.OneBand.{grid_rows}

-- ---- the plan

-- the bands of what is left of a plan run on from a row
abbrev pub runs_left : ℕ → Bound → ℕ → ℕ → Option (List Band) → Bool
runs_left n border held from none = false
runs_left n border held from (some bs) = runs_on n border held from bs

pub runs_start : (n : ℕ) (border : Bound) (held : ℕ) (plan : List ℕ) → plan_right n border held plan ≡ true → runs_left n border held 0 (bands_in plan) ≡ true
unfolding plan_right accepts
runs_start n border held plan e = by (bands_in plan) e
  where
    by : (o : Option (List Band)) → accepts_some n border held o ≡ true → runs_left n border held 0 o ≡ true
    by none h = h
    by (some bs) h = h

-- the next band of a plan, at an entry: it begins at the row that is reached, and what is left runs on behind it
pub record NextBand (n : ℕ) (border : Bound) (held from : ℕ) (plan : List ℕ) (k : ℕ) : Type 0 where
  pub more : suc k < length plan
  pub begins : get_or plan k 0 ≡ from
  pub order : get_or plan k 0 ≤ get_or plan (suc k) 0
  pub held_rows : rows_with border (band (get_or plan k 0) (get_or plan (suc k) 0)) ≤ held
  pub inside : get_or plan (suc k) 0 < n
  pub left : runs_left n border held (suc (get_or plan (suc k) 0)) (bands_in (drop (suc (suc k)) plan)) ≡ true

module _ (n : ℕ) (border : Bound) (held : ℕ) where
  pub and4 : (a b c d : Bool) → (a && (b && (c && d))) ≡ true → (a ≡ true) × (b ≡ true) × (c ≡ true) × (d ≡ true)
  and4 a b c d e =
      let x = and_both a (b && (c && d)) e in
      let y = and_both b (c && d) x.1 in
      let z = and_both c d y.1 in
      (x.0, y.0, z.0, z.1)

  -- what runs on from a row ends at the last
  pub runs_within : (from : ℕ) (bs : List Band) → runs_on n border held from bs ≡ true → from ≤ n
  unfolding runs_on
  runs_within from [] e = let q = eqb-true from n e in omega arith
  runs_within from (b ∷ bs) e =
      let c = and4 (eqb b.first from) (leb b.first b.last) (leb (rows_with border b) held) (runs_on n border held (suc b.last) bs) e in
      let l = runs_within (suc b.last) bs c.3 in
      omega (arith, eqb-true b.first from c.0, leb-true b.first b.last c.1)

  next_band : (from a b : ℕ) (plan : List ℕ) (o : Option (List Band)) → bands_in plan ≡ o → runs_left n border held from (before_others (band a b) o) ≡ true
      → NextBand n border held from (a ∷ b ∷ plan) 0
  unfolding runs_on
  next_band from a b plan none e h = absurd (let z : ◌≡◌ {A = ℕ} 0 1 = cc in omega arith)
  next_band from a b plan (some bs) e h =
      let c = and4 (eqb a from) (leb a b) (leb (rows_with border (band a b)) held) (runs_on n border held (suc b) bs) h in
      record {
        more = omega arith;
        begins = eqb-true a from c.0;
        order = leb-true a b c.1;
        held_rows = leb-true (rows_with border (band a b)) held c.2;
        inside = runs_within (suc b) bs c.3;
        left = ap (runs_left n border held (suc b)) e ∙ c.3;
      }

  pub plan_next : (from : ℕ) (plan : List ℕ) (k : ℕ) → k < length plan → runs_left n border held from (bands_in (drop k plan)) ≡ true → NextBand n border held from plan k
  unfolding bands_in
  plan_next from [] k l h = absurd (omega arith)
  plan_next from (a ∷ []) zero l h = absurd (let z : ◌≡◌ {A = ℕ} 0 1 = cc in omega arith)
  plan_next from (a ∷ b ∷ plan) zero l h = next_band from a b plan (bands_in plan) refl h
  plan_next from (a ∷ plan) (suc k) l h =
      let m = plan_next from plan k (omega arith) h in
      record { more = omega (arith, m.more); begins = m.begins; order = m.order; held_rows = m.held_rows; inside = m.inside; left = m.left }

  -- at the end of the plan all rows are reached
  pub plan_end : (from : ℕ) (plan : List ℕ) (k : ℕ) → length plan ≤ k → runs_left n border held from (bands_in (drop k plan)) ≡ true → from ≡ n
  unfolding bands_in runs_on
  plan_end from [] zero l h = eqb-true from n h
  plan_end from [] (suc k) l h = eqb-true from n h
  plan_end from (a ∷ plan) zero l h = absurd (omega arith)
  plan_end from (a ∷ plan) (suc k) l h = plan_end from plan k (omega arith) h

-- ---- cells in parts

fault_any : {State : Type 0} (a b : ℕ) (o : Outcome State) → fault_of a o ≡ no_fault → fault_of b o ≡ no_fault
fault_any a b (result s) e = refl
fault_any a b (fault k p) e = absurd (let z : ◌≡◌ {A = ℕ} 0 1 = cc in omega arith)

module _ (Held : Program → Type 0) (rule : Rule) (sizes : List ℕ) (grid : List ℤ) (time count : ℕ) where
  abbrev gives : Program → ℕ → Outcome (List ℤ)
  gives p c = given p rule.fields sizes grid time c

  -- the first i cells are evaluated, none with a fault
  pub record Reached (i total : ℕ) (scratch : List ℤ) : Type 0 where
    pub clear : (p : Program) → Held p → first_fault (gives p) i ≡ no_fault
    pub total_is : total ≡ count + i
    pub next : (p : Program) → Held p → (c : ℕ) → c < i → gives p c ≡ result (cell_of rule.fields scratch c)

  pub reached_start : (i : ℕ) (scratch : List ℤ) → i ≡ 0 → Reached i count scratch
  unfolding first_fault
  reached_start i scratch e = rw e (record { clear = λ p h. refl; total_is = omega arith; next = λ p h c l. absurd (omega arith) })

  module _ (i cells total : ℕ) (scratch scratch' : List ℤ) {r : Step} (w : Reached i total scratch) (b : BandEvaluated Held rule sizes i cells grid scratch time total r scratch') where
    pub reached_more : {j : ℕ} → fault_in r ≡ no_fault → i + cells ≡ j → Reached j r.count scratch'
    reached_more {j} clean q = rw (sym q) (record {
      clear = λ p h. skip_fault (gives p) i (i + cells) (omega arith) (w.clear p h) (λ c l m. rw (at p h c (inr l) m) refl);
      total_is = let s = b.count_is ∙ ap (λ (a : Fault). total + reached cells a) clean in let t = w.total_is in omega arith;
      next = λ p h c l. at p h c (below_or c i) l;
    })
      where
        at : (p : Program) → Held p → (c : ℕ) → (c < i) ⊎ (i ≤ c) → c < i + cells → gives p c ≡ result (cell_of rule.fields scratch' c)
        at p h c (inl m) l = w.next p h c m ∙ ap (λ (x : List ℤ). result x) (sym (b.kept c m))
        at p h c (inr m) l =
            let same : i + (c - i) ≡ c = omega arith in
            subst (λ (x : ℕ). gives p x ≡ result (cell_of rule.fields scratch' x)) same (b.next clean p h (c - i) (omega arith))

    pub reached_stop : {c k q : ℕ} → fault_in r ≡ fault_at c k q → i + cells ≤ product sizes → {s : Step} → s.count ≡ r.count → fault_in s ≡ fault_at (i + c) k q → AllEvaluated Held rule sizes grid time count s scratch'
    reached_stop {c} {k} {q} e l {s} same is = record {
      fault = λ p h. is ∙ sym (first p h);
      count_is = all ∙ ap (λ (a : Fault). count + reached (product sizes) a) (sym is);
      counted = let y = same in let x = b.counted in let t = w.total_is in omega arith;
      next = λ none. absurd (let y = sym is ∙ none in let z : ◌≡◌ {A = ℕ} 0 1 = cc in omega arith);
    }
      where
        all : s.count ≡ count + suc (i + c)
        all = let x = same ∙ b.count_is ∙ ap (λ (a : Fault). total + reached cells a) e in let t = w.total_is in omega arith

        first : (p : Program) → Held p → first_fault (gives p) (product sizes) ≡ fault_at (i + c) k q
        first p h =
            let f = first_fault_at (λ j. gives p (i + j)) cells c k q (sym (b.fault p h) ∙ e) in
            first_fault_here (gives p) (product sizes) (i + c) k q
            (skip_fault (gives p) i (i + c) (omega arith) (w.clear p h) (λ x u v.
            let same : i + (x - i) ≡ x = omega arith in
            subst (λ (y : ℕ). fault_of y (gives p y) ≡ no_fault) same (fault_any (x - i) (i + (x - i)) (gives p (i + (x - i))) (f.2 (x - i) (omega arith)))))
            f.1 (omega (arith, f.0))

  pub reached_done : (i total : ℕ) (scratch : List ℤ) → Reached i total scratch → i ≡ product sizes → AllEvaluated Held rule sizes grid time count (record { count = total; outcome = Ok tt }) scratch
  reached_done i total scratch w e = record {
    fault = λ p h. sym (ap (first_fault (gives p)) (sym e) ∙ w.clear p h);
    count_is = w.total_is ∙ ap (λ (x : ℕ). count + x) e;
    counted = let t = w.total_is in omega arith;
    next = λ none p h c l. w.next p h c (omega arith);
  }

-- ---- the loop

-- the bands before the entry k are evaluated
pub record Underway (Held : Program → Type 0) (rule : Rule) (sizes shape : List ℕ) (row : ℕ) (border : Bound) (plan : List ℕ) (grid scratch₀ room₀ : List ℤ) (time count k total : ℕ) (scratch room : List ℤ) : Type 0 where
  pub from : ℕ
  pub left : runs_left (get_or sizes 0 0) border (get_or shape 0 0) from (bands_in (drop k plan)) ≡ true
  pub cells : Reached Held rule sizes grid time count (from * row) total scratch
  pub scratch_size : length scratch ≡ length scratch₀
  pub room_size : length room ≡ length room₀

module _ {leaves words : List ℕ} {rule : Rule} {sizes shape : List ℕ} {row : ℕ} {border : Bound} {plan : List ℕ} (grid scratch₀ room₀ : List ℤ) {time count : ℕ}
    (g : Grounds leaves words rule sizes shape row border (length grid) (length scratch₀) (length room₀) time) (planned : PlanRuns sizes shape border plan count) where
  pub under_start : (Held : Program → Type 0) → Underway Held rule sizes shape row border plan grid scratch₀ room₀ time count 0 count scratch₀ room₀
  under_start Held = record {
    from = 0;
    left = runs_start (get_or sizes 0 0) border (get_or shape 0 0) plan planned.right;
    cells = reached_start Held rule sizes grid time count (0 * row) scratch₀ (omega arith);
    scratch_size = refl;
    room_size = refl;
  }

  module _ {Held : Program → Type 0} {k total : ℕ} {scratch room : List ℤ} (u : Underway Held rule sizes shape row border plan grid scratch₀ room₀ time count k total scratch room) where
    module _ (l : k < length plan) where
      pub under_next : NextBand (get_or sizes 0 0) border (get_or shape 0 0) u.from plan k
      under_next = plan_next (get_or sizes 0 0) border (get_or shape 0 0) u.from plan k l u.left

      -- what the next band asks
      pub under_grounds : Grounds leaves words rule sizes shape row border (length grid) (length scratch) (length room) time
      under_grounds = record {
        rule_fits = g.rule_fits;
        shaped = g.shaped;
        some_dims = g.some_dims;
        row_is = g.row_is;
        near = g.near;
        scratch_fits = u.scratch_size ∙ g.scratch_fits;
        roomed = subst (λ (x : ℕ). Shaped rule.dims rule.fields most_room shape x) (sym u.room_size) g.roomed;
        room_dims = g.room_dims;
        alike = g.alike;
        small = g.small;
        noted = g.noted;
      }

      -- the cells behind the band
      behind : {first last : ℕ} → first ≡ u.from → first ≤ last → u.from * row + (suc last - first) * row ≡ suc last * row
      behind {first} {last} e o = sym (add-mul u.from (suc last - first) row) ∙ ap (λ (x : ℕ). x * row) (omega arith)

      fits_in : {last : ℕ} → last < get_or sizes 0 0 → suc last * row ≤ product sizes
      fits_in {last} o = subst (λ (x : ℕ). suc last * row ≤ x) (sym (grid_rows g)) (mul-le-mul_right row o)

      pub under_fits : {second : ℕ} → second ≡ suc k → BandFits sizes shape row border (get_or plan k 0) (get_or plan second 0) total
      under_fits {second} e =
          let n = under_next in
          rw e (record {
            order = n.order;
            inside = n.inside;
            held = n.held_rows;
            countable = omega (arith, behind n.begins n.order, fits_in n.inside, planned.countable, u.cells.total_is);
          })

      module _ {second : ℕ} (e : second ≡ suc k) {r : Step} {scratch' : List ℤ} (b : BandEvaluated Held rule sizes (get_or plan k 0 * row) ((suc (get_or plan second 0) - get_or plan k 0) * row) grid scratch time total r scratch') where
        from_here : BandEvaluated Held rule sizes (u.from * row) ((suc (get_or plan (suc k) 0) - get_or plan k 0) * row) grid scratch time total r scratch'
        from_here =
            subst (λ (x : ℕ). BandEvaluated Held rule sizes (x * row) ((suc (get_or plan (suc k) 0) - get_or plan k 0) * row) grid scratch time total r scratch') under_next.begins (rw e at b)

        pub under_more : {room' : List ℤ} {k' : ℕ} {done : ⊤} → length scratch' ≡ length scratch → length room' ≡ length room → r.outcome ≡ Ok done → k' ≡ suc (suc k) → Underway Held rule sizes shape row border plan grid scratch₀ room₀ time count k' r.count scratch' room'
        under_more {room'} {k'} {done} size room_size q s =
            let m = under_next in
            rw s (record {
              from = suc (get_or plan (suc k) 0);
              left = m.left;
              cells = reached_more Held rule sizes grid time count (u.from * row) _ total scratch scratch' u.cells from_here (ap fault_told q) (behind m.begins m.order);
              scratch_size = size ∙ u.scratch_size;
              room_size = room_size ∙ u.room_size;
            })

        -- the faulting cell's number is small
        pub under_cell : {f : CellFault} → r.outcome ≡ Err f → get_or plan k 0 * row + f.cell ≤ 1048576
        under_cell {f} s =
            let m = under_next in
            let x : r.count ≡ total + suc f.cell = from_here.count_is ∙ ap (λ (a : Fault). total + reached ((suc (get_or plan (suc k) 0) - get_or plan k 0) * row) a) (ap fault_told s) in
            let y = from_here.counted in
            let z = ap (λ (a : ℕ). a * row) m.begins in
            omega (arith, behind m.begins m.order, fits_in m.inside, g.shaped.cells)

        pub under_stop : {f : CellFault} → r.outcome ≡ Err f
            → AllEvaluated Held rule sizes grid time count (record { count = r.count; outcome = Err (record { cell = get_or plan k 0 * row + f.cell; fault = f.fault }) }) scratch'
        under_stop {f} s =
            let m = under_next in
            reached_stop Held rule sizes grid time count (u.from * row) _ total scratch scratch' u.cells from_here (ap fault_told s)
            (subst (λ (x : ℕ). x ≤ product sizes) (sym (behind m.begins m.order)) (fits_in m.inside)) refl (ap (λ (x : ℕ). fault_at (x * row + f.cell) f.fault.number f.fault.place) m.begins)

    pub under_done : length plan ≤ k → AllEvaluated Held rule sizes grid time count (record { count = total; outcome = Ok tt }) scratch
    under_done l =
        reached_done Held rule sizes grid time count (u.from * row) total scratch u.cells
        (ap (λ (x : ℕ). x * row) (plan_end (get_or sizes 0 0) border (get_or shape 0 0) u.from plan k l u.left) ∙ sym (grid_rows g))

-- ---- the whole step

-- marked cells, counted
how_many_all : (p : ℕ → Bool) (n : ℕ) → ((c : ℕ) → c < n → p c ≡ true) → how_many p n ≡ n
unfolding how_many
how_many_all p zero h = refl
how_many_all p (suc n) h = ap₂ (λ (x : ℕ) (b : Bool). x + cond b 1 0) (how_many_all p n (λ c l. h c (omega arith))) (h n (omega arith)) ∙ omega arith

module _ {words : List ℕ} {rule : Rule} {Held : Program → Type 0} (holds : (p : Program) → Held p → Holds words rule p) {sizes : List ℕ} {grid : List ℤ} {marks : List ℕ} {time count : ℕ}
    (m : AllMarked sizes marks) {r : Step} {scratch' : List ℤ} (a : AllEvaluated Held rule sizes grid time count r scratch') where
  first_is : (p : Program) → Held p → first_fault (outcome sizes grid marks time p) (running p sizes).cells ≡ first_fault (given p rule.fields sizes grid time) (product sizes)
  first_is p h = ap (first_fault (outcome sizes grid marks time p)) (cells_are sizes grid marks time p) ∙ first_fault_ext _ _ (product sizes) (λ c l. of_marked sizes grid marks time holds p h c (m.all c l))

  counts : (p : Program) (f : Fault) → first_fault (given p rule.fields sizes grid time) (product sizes) ≡ f → reached (product sizes) f ≡ how_many (marked marks) (up_to (running p sizes) f)
  counts p no_fault e = sym (ap (how_many (marked marks)) (cells_are sizes grid marks time p) ∙ how_many_all (marked marks) (product sizes) m.all)
  counts p (fault_at c k q) e =
      let f = first_fault_at (given p rule.fields sizes grid time) (product sizes) c k q e in
      sym (how_many_all (marked marks) (suc c) (λ x l. m.all x (omega (arith, f.0))))

  -- evaluating all bands is evaluating all marked cells
  pub all_filled : {scratch : List ℤ} → FilledFor Held rule sizes grid scratch marks time count r scratch'
  unfolding quiet_step
  all_filled = record {
    fault = λ p h. a.fault p h ∙ sym (first_is p h);
    count_is = λ p h.
        a.count_is
        ∙ ap (λ (f : Fault). count + f_count p f) (a.fault p h ∙ sym (first_is p h))
        ∙ ap (λ (x : ℕ). count + x) (counts p (first_fault (outcome sizes grid marks time p) (running p sizes).cells) (sym (first_is p h)));
    counted = a.counted;
    next = λ none p h c l on. a.next none p h c l;
    kept = λ c l off. absurd (let z : true ≡ false = sym (m.all c l) ∙ off in let y : ◌≡◌ {A = ℕ} 0 1 = cc in omega arith);
  }
    where
      f_count : Program → Fault → ℕ
      f_count p f = reached (product sizes) f
