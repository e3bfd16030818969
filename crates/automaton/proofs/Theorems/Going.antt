-- A run as a loop over its steps: what is done after k of n steps, and what is left. Each step is done under the marks of the open cells.
-- Nothing is asked of the automaton here: the loop does what the quiet run does. That a fresh quiet run agrees with the definition is in `Quiet.antt`.
use Prim.Native.Nat.{ℕ, zero, suc, ◌+◌, ◌-◌, ◌<◌}
use native.Mathlib.Nat.{add-zero, zero-add, add-suc, add_assoc}
use native.Mathlib.Omega.{arith}
use mathlib.Core.Path.{◌≡◌, refl, sym, ap, ap₂, ◌∙◌, fun_ext}
use mathlib.Core.Bool.{Bool, true, ◌||◌}
use mathlib.Core.List.{List}
use Rattle.automaton.specs.Step.{Fault, no_fault, fault_at, Automaton, marks_of, how_many, Step, Quiet, every_cell, no_cell, Blocks, one_more, step_of, quiet_step, touched, open_in, run_of, open_count, full_count, quiet_run}
use Rattle.automaton.proofs.Theorems.Quiet.{Lawful, quiet_step_agrees, quiet_then, quiet_from, quiet_run_from, run_go, run_stop, open_go, open_stop, full_go, full_stop}

-- A quiet run before which k steps were done and c cells were counted.
abbrev pub after : {Grid : Type 0} → ℕ → ℕ → Quiet Grid → Quiet Grid
after k c q = record { run = record { fault = q.run.fault; steps = k + q.run.steps; grid = q.run.grid }; count = c + q.count; marks = q.marks }

module _ {Grid State : Type 0} (M : Automaton Grid State) (block : Blocks Grid) (o₀ : ℕ → Bool) (n t : ℕ) (g₀ : Grid) where
  -- k of n steps are done, without a fault: they led to the grid g, counted c cells, and left these cells pending. The block of the time t + k is not set yet.
  pub record Going (pending : ℕ → Bool) (k c : ℕ) (g : Grid) : Type 0 where
    pub is : quiet_run M block o₀ n t g₀ ≡ after k c (quiet_run M block pending (n - k) (t + k) g)

  pub going_start : Going o₀ 0 0 g₀
  going_start = record {
    is = (λ i. let q = quiet_run M block o₀ n t g₀ in record { run = record { fault = q.run.fault; steps = sym (zero-add q.run.steps) i; grid = q.run.grid }; count = sym (zero-add q.count) i; marks = q.marks })
        ∙ ap₂ (λ (m s : ℕ). after 0 0 (quiet_run M block o₀ m s g₀)) whole (sym (add-zero t));
  }
    where
      whole : n ≡ n - 0
      whole = omega arith

  module _ {pending : ℕ → Bool} {k c : ℕ} {g : Grid} (now : Going pending k c g) where
    -- the block of this time is set in `set`, and the open cells are marked
    module _ (set : Grid) (set_is : set ≡ block (t + k) g) (marks : List ℕ) (marked : marks ≡ marks_of (open_in M pending g set) M.cells) where
      from : (m : ℕ) → quiet_run M block pending m (t + k) g ≡ quiet_from M block m (t + k) set marks
      from m = quiet_run_from M block pending m (t + k) g
          ∙ ap (λ (h : Grid). quiet_from M block m (t + k) h (marks_of (open_in M pending g h) M.cells)) (sym set_is)
          ∙ ap (λ (ms : List ℕ). quiet_from M block m (t + k) set ms) (sym marked)

      module _ (more : k < n) where
        left : n - k ≡ suc (n - suc k)
        left = omega arith

        here : quiet_run M block o₀ n t g₀ ≡ after k c (quiet_from M block (suc (n - suc k)) (t + k) set marks)
        here = now.is ∙ ap (λ (m : ℕ). after k c (quiet_run M block pending m (t + k) g)) left ∙ ap (after k c) (from (suc (n - suc k)))

        -- a step without a fault
        pub going_on : (c' : ℕ) (g' : Grid) → (quiet_step M marks set (t + k)).fault ≡ no_fault → g' ≡ (quiet_step M marks set (t + k)).grid
            → c' ≡ c + (quiet_step M marks set (t + k)).count → Going (touched M set g') (suc k) c' g'
        going_on c' g' e p q =
            rw (p, q)
            (record {
              is = here
                  ∙ ap (λ (a : Fault). after k c (quiet_then M block (n - suc k) (t + k) set a s.grid s.count)) e
                  ∙ (λ i. record { run = record { fault = rest.run.fault; steps = shifted i; grid = rest.run.grid }; count = sym (add_assoc c s.count rest.count) i; marks = rest.marks })
                  ∙ ap (λ (x : ℕ). after (suc k) (c + s.count) (quiet_run M block (touched M set s.grid) (n - suc k) x s.grid)) (sym (add-suc t k));
            })
          where
            s : Step Grid
            s = quiet_step M marks set (t + k)

            rest : Quiet Grid
            rest = quiet_run M block (touched M set s.grid) (n - suc k) (suc (t + k)) s.grid

            shifted : k + suc rest.run.steps ≡ suc k + rest.run.steps
            shifted = omega arith

        -- a step with a fault
        pub going_stop : (x y z : ℕ) → (quiet_step M marks set (t + k)).fault ≡ fault_at x y z
            → quiet_run M block o₀ n t g₀
            ≡ record {
              run = record { fault = fault_at x y z; steps = k; grid = (quiet_step M marks set (t + k)).grid };
              count = c + (quiet_step M marks set (t + k)).count;
              marks = marks_of no_cell M.cells;
            }
        going_stop x y z e =
            here
            ∙ ap (λ (a : Fault). after k c (quiet_then M block (n - suc k) (t + k) set a s.grid s.count)) e
            ∙ (λ i. record { run = record { fault = fault_at x y z; steps = add-zero k i; grid = s.grid }; count = c + s.count; marks = marks_of no_cell M.cells })
          where
            s : Step Grid
            s = quiet_step M marks set (t + k)

      -- behind the last step, its block set
      pub going_done : k ≡ n → quiet_run M block o₀ n t g₀ ≡ record { run = record { fault = no_fault; steps = n; grid = set }; count = c; marks = marks }
      going_done e =
          now.is ∙ ap (λ (m : ℕ). after k c (quiet_run M block pending m (t + k) g)) none ∙ ap (after k c) (from 0)
          ∙ (λ i. record { run = record { fault = no_fault; steps = (add-zero k ∙ e) i; grid = set }; count = add-zero c i; marks = marks })
        where
          none : n - k ≡ 0
          none = omega arith

-- ---- the full run: every cell is open in each step, as if `time` stood in the source

how_many_all : (n : ℕ) → how_many every_cell n ≡ n
unfolding how_many
how_many_all zero = refl
how_many_all (suc n) = omega (arith, how_many_all n)

module _ {Grid State : Type 0} (M : Automaton Grid State) (timed : M.timed ≡ true) where
  every_open : (o : ℕ → Bool) (g g' : Grid) → open_in M o g g' ≡ every_cell
  unfolding open_in
  every_open o g g' = fun_ext (λ c. ap (λ (b : Bool). b || (o c || touched M g g' c)) timed)

  -- where `time` stands in the source, both counts are the same
  pub open_is_full : (block : Blocks Grid) (n : ℕ) (o : ℕ → Bool) (t : ℕ) (g : Grid) → open_count M block o n t g ≡ full_count M block n t g
  unfolding open_count full_count
  open_is_full block zero o t g = refl
  open_is_full block (suc n) o t g = go s.fault refl (open_is_full block n (touched M (block t g) s.grid) (suc t) s.grid)
    where
      s : Step Grid
      s = step_of M (block t g) t

      all : how_many (open_in M o g (block t g)) s.count ≡ s.count
      all = ap (λ (p : ℕ → Bool). how_many p s.count) (every_open o g (block t g)) ∙ how_many_all s.count

      go : (a : Fault) → s.fault ≡ a → open_count M block (touched M (block t g) s.grid) n (suc t) s.grid ≡ full_count M block n (suc t) s.grid
          → open_count M block o (suc n) t g ≡ full_count M block (suc n) t g
      go no_fault e rest = open_go M block o n t g e ∙ ap₂ ◌+◌ all rest ∙ sym (full_go M block n t g e)
      go (fault_at x y z) e rest = open_stop M block o n t g x y z e ∙ all ∙ sym (full_stop M block n t g x y z e)

-- An automaton as if `time` stood in its source: all cells are open in every step.
abbrev pub always_open : {Grid State : Type 0} → Automaton Grid State → Automaton Grid State
always_open M = record { cells = M.cells; at = M.at; build = M.build; differ = M.differ; next = M.next; timed = true; reach = M.reach }

module _ {Grid State : Type 0} (M : Automaton Grid State) (laws : Lawful M) where
  pub always_lawful : Lawful (always_open M)
  always_lawful = record {
    Fits = laws.Fits;
    at_fits = laws.at_fits;
    next_fits = laws.next_fits;
    at_build = laws.at_build;
    build_ext = laws.build_ext;
    differ_sound = laws.differ_sound;
    differ_same = laws.differ_same;
    own = laws.own;
    local = λ g g' t t' c l same agree. laws.local g g' t t' c l (λ _. same refl) agree;
  }

  all_open : (o : ℕ → Bool) (g g' : Grid) → open_in (always_open M) o g g' ≡ every_cell
  unfolding open_in
  all_open o g g' = refl

  same_step : (g : Grid) (t : ℕ) → step_of (always_open M) g t ≡ step_of M g t
  unfolding step_of
  same_step g t = refl

  -- a step under the marks of all cells
  full_step : (o : ℕ → Bool) (g g' : Grid) (t : ℕ) → quiet_step (always_open M) (marks_of (open_in (always_open M) o g g') M.cells) g' t ≡ step_of M g' t
  full_step o g g' t =
      ap (λ (p : ℕ → Bool). quiet_step (always_open M) (marks_of p M.cells) g' t) (all_open o g g')
      ∙ quiet_step_agrees (always_open M) always_lawful every_cell g' t (λ c l shut. let z : ◌≡◌ {A = ℕ} 0 1 = cc in absurd (omega arith))
      ∙ (λ i. let s = same_step g' t i in record { fault = s.fault; grid = s.grid; count = how_many_all s.count i })

  -- Whatever is pending, the quiet run of it is the run of the definition, and counts every cell.
  pub full_run : (block : Blocks Grid) (n : ℕ) (o : ℕ → Bool) (t : ℕ) (g : Grid)
      → ((quiet_run (always_open M) block o n t g).run ≡ run_of M block n t g) × ((quiet_run (always_open M) block o n t g).count ≡ full_count M block n t g)
  unfolding quiet_run run_of full_count
  full_run block zero o t g = (refl, refl)
  full_run block (suc n) o t g = go s.fault refl (full_run block n (touched (always_open M) (block t g) s.grid) (suc t) s.grid)
    where
      M' : Automaton Grid State
      M' = always_open M

      s : Step Grid
      s = step_of M (block t g) t

      first : quiet_run M' block o (suc n) t g ≡ quiet_then M' block n t (block t g) s.fault s.grid s.count
      first = quiet_run_from M' block o (suc n) t g
          ∙ ap (λ (x : Step Grid). quiet_then M' block n t (block t g) x.fault x.grid x.count) (full_step o g (block t g) t)

      rest : Quiet Grid
      rest = quiet_run M' block (touched M' (block t g) s.grid) n (suc t) s.grid

      go : (a : Fault) → s.fault ≡ a → (rest.run ≡ run_of M block n (suc t) s.grid) × (rest.count ≡ full_count M block n (suc t) s.grid)
          → ((quiet_run M' block o (suc n) t g).run ≡ run_of M block (suc n) t g) × ((quiet_run M' block o (suc n) t g).count ≡ full_count M block (suc n) t g)
      go no_fault e each =
          let all = first ∙ ap (λ (a : Fault). quiet_then M' block n t (block t g) a s.grid s.count) e in (
            ap (λ (q : Quiet Grid). q.run) all ∙ ap one_more each.0 ∙ sym (run_go M block n t g e),
            ap (λ (q : Quiet Grid). q.count) all ∙ ap (λ (m : ℕ). s.count + m) each.1 ∙ sym (full_go M block n t g e),
          )
      go (fault_at x y z) e each =
          let all = first ∙ ap (λ (a : Fault). quiet_then M' block n t (block t g) a s.grid s.count) e in (
            ap (λ (q : Quiet Grid). q.run) all ∙ sym (run_stop M block n t g x y z e),
            ap (λ (q : Quiet Grid). q.count) all ∙ sym (full_stop M block n t g x y z e),
          )
