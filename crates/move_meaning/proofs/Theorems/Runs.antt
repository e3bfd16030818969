-- Runs of programs that move a pixel once: a cell whose flag is 1 stays as it is in every later step, and after one completed step every
-- later step changes nothing. Between the steps a block may be set, which sets no flag to 0.
use Prim.Native.Nat.{ℕ, zero, suc, ◌+◌, ◌*◌, ◌/◌, ◌%◌, ◌<◌, ◌≤◌}
use native.Mathlib.Nat.{le_refl, div-add-mod', mod-lt, div-lt_iff_lt-mul}
use native.Mathlib.Omega.{arith}
use mathlib.Core.Path.{◌≡◌, refl, sym, ap, ◌∙◌, subst}
use mathlib.Core.Logic.{◌⊎◌, inl, inr}
use mathlib.Core.List.{List}
use mathlib.Core.Option.{Option, none, some}
use lib.ListN.{length, get_or, length-set}
use lib.Seq.{ext_get_or}
use lib.IntN.{ℤ, pos}
use Rattle.automaton.specs.Promises.ListedLaws.{length_list_of, get_or_list_of, list_of_ext}
use Rattle.automaton.specs.Step.{Outcome, result, fault, Fault, no_fault, fault_at, fault_of, state_or, first_fault, Automaton, Run, one_more, grid_after, step_of, run_of}
use Rattle.automaton.proofs.Theorems.Blocks.{no_blocks}
use Rattle.automaton.proofs.Theorems.Quiet.{first_fault_none, run_go, run_stop}
use Rattle.automaton.specs.Shape.{product, neighbour}
use Rattle.automaton.specs.Promises.ShapeLaws.{Positive}
use Rattle.automaton.proofs.ShapeLaws.{neighbour_zeros}
use Rattle.automaton.specs.Grid.{cell_of, grid_of, automaton}
use Rattle.automaton.proofs.Theorems.GridLaws.{cell_of_grid_of, some_field, cell_length}
use Rattle.program.specs.Syntax.{Program}
use Rattle.cell_meaning.specs.Evaluation.{entry, evaluate}
use Rattle.cell_meaning.specs.Places.{own_place}
use Rattle.run_meaning.specs.Reach.{running}
use Rattle.cell_meaning.proofs.Theorems.Kept.{evaluate_keeps}
use Rattle.run_meaning.proofs.Theorems.Locality.{own_zeros}
use Rattle.move_meaning.proofs.Theorems.Moving.{OneMove, still, moved}

-- a grid is that of its cells' fields
grid_same : (fields cells : ℕ) (g : List ℤ) → length g ≡ cells * fields → grid_of fields cells (cell_of fields g) ≡ g
unfolding grid_of cell_of
grid_same fields cells g e = ext_get_or (pos 0) _ g (length_list_of _ (cells * fields) ∙ sym e) (λ i l. at i (subst (λ (n : ℕ). i < n) (length_list_of _ (cells * fields)) l))
  where
    at : (i : ℕ) → i < cells * fields → get_or (grid_of fields cells (cell_of fields g)) i (pos 0) ≡ get_or g i (pos 0)
    at i l =
        get_or_list_of _ (cells * fields) i (pos 0) l
        ∙ get_or_list_of _ fields (i % fields) (pos 0) (mod-lt i (some_field cells fields i l))
        ∙ ap (λ (x : ℕ). get_or g x (pos 0)) (div-add-mod' i fields)

no_fault_state : {S : Type 0} (c : ℕ) (o : Outcome S) → fault_of c o ≡ no_fault → (a : S) × (o ≡ result a)
no_fault_state c (result a) e = (a, refl)
no_fault_state c (fault k q) e = absurd (let z : ◌≡◌ {A = ℕ} 0 1 = cc in omega arith)

-- no fault where every cell has a state
all_states : {S : Type 0} (f : ℕ → Outcome S) (s : ℕ → S) (n : ℕ) → ((c : ℕ) → c < n → f c ≡ result (s c)) → first_fault f n ≡ no_fault
unfolding first_fault
all_states f s zero h = refl
all_states f s (suc n) h = rw (all_states f s n (λ c l. h c (omega arith)), h n (le_refl (suc n))) refl

module _ (f : ℕ) (p : Program) (h : OneMove f p) (sizes : List ℕ) (dims : length sizes ≡ p.dims) (positive : Positive sizes) where
  abbrev M : Automaton (List ℤ) (List ℤ)
  M = running p sizes

  -- the flag of the cell c
  abbrev pub flag : List ℤ → ℕ → ℤ
  flag g c = entry (cell_of (length p.fields) g c) f

  own_cell : (g : List ℤ) (c : ℕ) → c < product sizes → cell_of (length p.fields) g (neighbour sizes c (own_place p.dims)) ≡ cell_of (length p.fields) g c
  own_cell g c l =
      ap (cell_of (length p.fields) g)
      (ap (λ (n : ℕ). neighbour sizes c (own_place n)) (sym dims) ∙ ap (neighbour sizes c) (own_zeros sizes) ∙ neighbour_zeros sizes c positive l)

  -- what evaluating the cell c gives
  abbrev gives : List ℤ → ℕ → ℕ → Outcome (List ℤ)
  gives g t c = evaluate p (λ ds. cell_of (length p.fields) g (neighbour sizes c ds)) t

  -- a cell whose flag is not 0 keeps its fields, and does not fault
  pub keeps : (g : List ℤ) (t c : ℕ) → c < product sizes → (flag g c ≡ pos 0 → ⊥) → gives g t c ≡ result (cell_of (length p.fields) g c)
  keeps g t c l set =
      still f p h (λ ds. cell_of (length p.fields) g (neighbour sizes c ds)) t (λ e. set (ap (λ (a : List ℤ). entry a f) (sym (own_cell g c l)) ∙ e))
      ∙ ap (λ (a : List ℤ). result a) (own_cell g c l)

  -- every flag is 0 or 1
  abbrev pub Flags : List ℤ → Type 0
  Flags g = (c : ℕ) → c < product sizes → (flag g c ≡ pos 0) ⊎ (flag g c ≡ pos 1)

  abbrev pub AllMoved : List ℤ → Type 0
  AllMoved g = (c : ℕ) → c < product sizes → flag g c ≡ pos 1

  one_not_zero : (z : ℤ) → z ≡ pos 1 → z ≡ pos 0 → ⊥
  one_not_zero z e q = absurd (let y : ◌≡◌ {A = ℤ} (pos 1) (pos 0) = sym e ∙ q in clash y)
    where
      clash : pos 1 ≡ pos 0 → ⊥
      clash y = absurd (let n : ◌≡◌ {A = ℕ} 1 0 = cc in omega arith)

  -- ---- one step

  -- what a completed step gives a cell
  stepped : (g : List ℤ) (t : ℕ) → (step_of M g t).fault ≡ no_fault → (c : ℕ) → c < product sizes
      → gives g t c ≡ result (cell_of (length p.fields) (step_of M g t).grid c)
  unfolding step_of running automaton
  stepped g t e c l =
      let fields : ℕ = length p.fields in
      let r = no_fault_state c (gives g t c) (first_fault_none (M.next g t) (product sizes) e c l) in
      let s : ℕ → List ℤ = λ x. state_or (cell_of fields g x) (gives g t x) in
      let is : s c ≡ r.0 = ap (state_or (cell_of fields g c)) r.1 in
      let sized : length (s c) ≡ fields =
      ap length is
      ∙ evaluate_keeps (λ x. length x ≡ fields) p (λ next k z q w. length-set next k z ∙ w) (λ ds. cell_of fields g (neighbour sizes c ds)) t r.0
      (cell_length fields g _) r.1
      in
      r.1
      ∙ ap (λ (a : List ℤ). result a)
      (sym (ap (λ (x : Fault). cell_of fields (grid_after M x g (M.next g t)) c) e ∙ cell_of_grid_of fields (product sizes) s c sized l ∙ is))

  -- its flag is 1 after it, if it was 0 or 1 before
  pub flag_after : (g : List ℤ) (t : ℕ) → (step_of M g t).fault ≡ no_fault → Flags g → AllMoved (step_of M g t).grid
  flag_after g t e flags c l = go (flags c l)
    where
      go : (flag g c ≡ pos 0) ⊎ (flag g c ≡ pos 1) → flag (step_of M g t).grid c ≡ pos 1
      go (inl clear) =
          moved f p h (λ ds. cell_of (length p.fields) g (neighbour sizes c ds)) t (cell_length (length p.fields) g _)
          (ap (λ (a : List ℤ). entry a f) (own_cell g c l) ∙ clear) _ (stepped g t e c l)
      go (inr set) =
          let same : result (cell_of (length p.fields) (step_of M g t).grid c) ≡ result (cell_of (length p.fields) g c) =
          sym (stepped g t e c l) ∙ keeps g t c l (one_not_zero (flag g c) set)
          in ap (λ (a : List ℤ). entry a f) (inside same) ∙ set
        where
          inside : {a b : List ℤ} → result a ≡ result b → a ≡ b
          inside q = cc

  -- where every flag is 1, a step completes and changes nothing
  pub nothing_moves : (g : List ℤ) (t : ℕ) → length g ≡ product sizes * length p.fields → AllMoved g
      → ((step_of M g t).fault ≡ no_fault) × ((step_of M g t).grid ≡ g)
  unfolding step_of running automaton grid_of
  nothing_moves g t sized all = (none_faults, ap (λ (x : Fault). grid_after M x g (M.next g t)) none_faults ∙ same ∙ grid_same fields (product sizes) g sized)
    where
      fields : ℕ
      fields = length p.fields

      each : (c : ℕ) → c < product sizes → gives g t c ≡ result (cell_of fields g c)
      each c l = keeps g t c l (one_not_zero (flag g c) (all c l))

      none_faults : first_fault (M.next g t) (product sizes) ≡ no_fault
      none_faults = all_states (M.next g t) (cell_of fields g) (product sizes) each

      same : grid_of fields (product sizes) (λ c. state_or (cell_of fields g c) (gives g t c)) ≡ grid_of fields (product sizes) (cell_of fields g)
      same =
          list_of_ext _ _ (product sizes * fields)
          (λ i l. ap (λ (a : List ℤ). get_or a (i % fields) (pos 0)) (ap (state_or (cell_of fields g (i / fields))) (each (i / fields) ((div-lt_iff_lt-mul (some_field (product sizes) fields i l)).1 l))))

  -- a completed step keeps the number of entries
  step_length : (g : List ℤ) (t : ℕ) → (step_of M g t).fault ≡ no_fault → length (step_of M g t).grid ≡ product sizes * length p.fields
  unfolding step_of running automaton grid_of
  step_length g t e = ap (λ (x : Fault). length (grid_after M x g (M.next g t))) e ∙ length_list_of _ (product sizes * length p.fields)

  -- where every flag is 1, any number of steps changes nothing
  pub still_run : (n t : ℕ) (g : List ℤ) → length g ≡ product sizes * length p.fields → AllMoved g
      → run_of M no_blocks n t g ≡ record { fault = no_fault; steps = n; grid = g }
  unfolding run_of
  still_run zero t g sized all = refl
  still_run (suc n) t g sized all =
      let s = nothing_moves g t sized all in
      run_go M no_blocks n t g s.0 ∙ ap (λ (h : List ℤ). one_more (run_of M no_blocks n (suc t) h)) s.1 ∙ ap one_more (still_run n (suc t) g sized all)

  -- a run without blocks: after a first step that completes, the other steps change nothing
  pub run_settles : (n t : ℕ) (g : List ℤ) → Flags g → (step_of M g t).fault ≡ no_fault
      → run_of M no_blocks (suc n) t g ≡ record { fault = no_fault; steps = suc n; grid = (step_of M g t).grid }
  run_settles n t g flags e =
      run_go M no_blocks n t g e ∙ ap one_more (still_run n (suc t) (step_of M g t).grid (step_length g t e) (flag_after g t e flags))

  -- a completed step leaves a cell whose flag is 1 as it is
  pub kept_by_step : (g : List ℤ) (t : ℕ) → (step_of M g t).fault ≡ no_fault → (c : ℕ) → c < product sizes → flag g c ≡ pos 1
      → cell_of (length p.fields) (step_of M g t).grid c ≡ cell_of (length p.fields) g c
  kept_by_step g t e c l set = inside (sym (stepped g t e c l) ∙ keeps g t c l (one_not_zero (flag g c) set))
    where
      inside : {a b : List ℤ} → result a ≡ result b → a ≡ b
      inside q = cc

  -- ---- a run, with blocks

  -- what is asked of the blocks: `edit t` sets the block of the time t. A list that passes sets no flag to 0, and every value in its field's range
  pub record KeepsFlags (edit : ℕ → List ℤ → List ℤ) : Type 0 where
    pub keeps_one : (t : ℕ) (g : List ℤ) (c : ℕ) → c < product sizes → flag g c ≡ pos 1 → flag (edit t g) c ≡ pos 1
    pub in_range : (t : ℕ) (g : List ℤ) → Flags g → Flags (edit t g)
    pub size : (t : ℕ) (g : List ℤ) → length (edit t g) ≡ length g

  module _ (edit : ℕ → List ℤ → List ℤ) where
    -- the grid at the step k of a run from the time t and the grid g on, its block set; none, if a step before it faulted
    abbrev go_on : Fault → Option (List ℤ) → Option (List ℤ)
    go_on no_fault b = b
    go_on (fault_at c n place) b = none

    unfoldable pub before : ℕ → ℕ → List ℤ → Option (List ℤ)
    before zero t g = some (edit t g)
    before (suc k) t g = go_on (step_of M (edit t g) t).fault (before k (suc t) (step_of M (edit t g) t).grid)

    no_grid : {X : Type 0} {b : List ℤ} → none ≡ some b → X
    no_grid e = absurd (let z : ◌≡◌ {A = ℕ} 0 1 = cc in omega arith)

    some_same : {a b : List ℤ} → some a ≡ some b → a ≡ b
    some_same e = cc

    -- the first step completed, where there is a grid at a later one
    pub record Went (k t : ℕ) (g b : List ℤ) : Type 0 where
      pub done : (step_of M (edit t g) t).fault ≡ no_fault
      pub rest : before k (suc t) (step_of M (edit t g) t).grid ≡ some b

    went : (k t : ℕ) (g b : List ℤ) → before (suc k) t g ≡ some b → Went k t g b
    unfolding before
    went k t g b e = go (step_of M (edit t g) t).fault refl e
      where
        go : (x : Fault) → (step_of M (edit t g) t).fault ≡ x → go_on x (before k (suc t) (step_of M (edit t g) t).grid) ≡ some b → Went k t g b
        go no_fault q e = record { done = q; rest = e }
        go (fault_at c n place) q e = no_grid e

    -- this is the grid of the run under these blocks, where it has no fault
    pub before_run : (k t : ℕ) (g b : List ℤ) → before k t g ≡ some b → run_of M edit k t g ≡ record { fault = no_fault; steps = k; grid = b }
    unfolding before run_of
    before_run zero t g b e = ap (λ (x : List ℤ). record { fault = no_fault; steps = 0; grid = x }) (some_same e)
    before_run (suc k) t g b e =
        let w = went k t g b e in
        run_go M edit k t g w.done ∙ ap one_more (before_run k (suc t) (step_of M (edit t g) t).grid b w.rest)

    pub run_before : (k t : ℕ) (g : List ℤ) → (run_of M edit k t g).fault ≡ no_fault → before k t g ≡ some (run_of M edit k t g).grid
    unfolding before run_of
    run_before zero t g e = refl
    run_before (suc k) t g e = go (step_of M (edit t g) t).fault refl (run_before k (suc t) (step_of M (edit t g) t).grid)
      where
        next : Run (List ℤ)
        next = run_of M edit k (suc t) (step_of M (edit t g) t).grid

        go : (x : Fault) → (step_of M (edit t g) t).fault ≡ x → (next.fault ≡ no_fault → before k (suc t) (step_of M (edit t g) t).grid ≡ some next.grid)
            → go_on (step_of M (edit t g) t).fault (before k (suc t) (step_of M (edit t g) t).grid) ≡ some (run_of M edit (suc k) t g).grid
        go no_fault q rest =
            let all = run_go M edit k t g q in
            ap (λ (x : Fault). go_on x (before k (suc t) (step_of M (edit t g) t).grid)) q
            ∙ rest (sym (ap (λ (r : Run (List ℤ)). r.fault) all) ∙ e)
            ∙ ap (λ (r : Run (List ℤ)). some r.grid) (sym all)
        go (fault_at c n place) q rest =
            absurd (faulted (sym (ap (λ (r : Run (List ℤ)). r.fault) (run_stop M edit k t g c n place q)) ∙ e))
          where
            faulted : fault_at c n place ≡ no_fault → ⊥
            faulted y = let z : ◌≡◌ {A = ℕ} 0 1 = cc in omega arith

    module _ (blocks : KeepsFlags edit) where
      -- a flag that is 1 at the first step is 1 at every later one
      flag_stays : (j t : ℕ) (g b : List ℤ) → before j t g ≡ some b → (c : ℕ) → c < product sizes → flag (edit t g) c ≡ pos 1 → flag b c ≡ pos 1
      unfolding before
      flag_stays zero t g b e c l set = ap (λ (x : List ℤ). flag x c) (sym (some_same e)) ∙ set
      flag_stays (suc j) t g b e c l set =
          let w = went j t g b e in
          flag_stays j (suc t) (step_of M (edit t g) t).grid b w.rest c l
          (blocks.keeps_one (suc t) _ c l (ap (λ (a : List ℤ). entry a f) (kept_by_step (edit t g) t w.done c l set) ∙ set))

      -- a flag that is 1 at a step is 1 at every later one
      pub flag_later : (k m t : ℕ) (g b b' : List ℤ) → k ≤ m → before k t g ≡ some b → before m t g ≡ some b' → (c : ℕ) → c < product sizes
          → flag b c ≡ pos 1 → flag b' c ≡ pos 1
      unfolding before
      flag_later zero m t g b b' q e e' c l set = flag_stays m t g b' e' c l (ap (λ (x : List ℤ). flag x c) (some_same e) ∙ set)
      flag_later (suc k) zero t g b b' q e e' c l set = absurd (omega arith)
      flag_later (suc k) (suc m) t g b b' q e e' c l set =
          flag_later k m (suc t) (step_of M (edit t g) t).grid b b' (omega arith) (went k t g b e).rest (went m t g b' e').rest c l set

      -- so that the cell does not change in any later step, and does not fault
      pub never_changes : (k m t : ℕ) (g b b' : List ℤ) → k ≤ m → before k t g ≡ some b → before m t g ≡ some b' → (c : ℕ) → c < product sizes
          → flag b c ≡ pos 1 → gives b' (t + m) c ≡ result (cell_of (length p.fields) b' c)
      never_changes k m t g b b' q e e' c l set =
          keeps b' (t + m) c l (one_not_zero (flag b' c) (flag_later k m t g b b' q e e' c l set))

      size_later : (k t : ℕ) (g b : List ℤ) → before k t g ≡ some b → length g ≡ product sizes * length p.fields → length b ≡ product sizes * length p.fields
      unfolding before
      size_later zero t g b e s = ap length (sym (some_same e)) ∙ blocks.size t g ∙ s
      size_later (suc k) t g b e s = let w = went k t g b e in size_later k (suc t) _ b w.rest (step_length (edit t g) t w.done)

      -- after one completed step every flag is 1, and every later step completes and changes nothing
      pub record Settled (t : ℕ) (b : List ℤ) : Type 0 where
        pub all : AllMoved b
        pub no_faults : (step_of M b t).fault ≡ no_fault
        pub same : (step_of M b t).grid ≡ b

      pub settled : (k t : ℕ) (g b : List ℤ) → length g ≡ product sizes * length p.fields → Flags g → before (suc k) t g ≡ some b → Settled (t + suc k) b
      settled k t g b s flags e =
          let w = went k t g b e in
          let first : AllMoved (step_of M (edit t g) t).grid = flag_after (edit t g) t w.done (blocks.in_range t g flags) in
          let all : AllMoved b = λ c l. flag_stays k (suc t) _ b w.rest c l (blocks.keeps_one (suc t) _ c l (first c l)) in
          let both = nothing_moves b (t + suc k) (size_later (suc k) t g b e s) all in
          record { all = all; no_faults = both.0; same = both.1 }
