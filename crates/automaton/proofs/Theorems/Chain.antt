-- Calls of a quiet run one after the other, each from where the one before stopped: together they are one call, and if the first was fresh they agree with
-- the definition.
use Prim.Native.Nat.{ℕ, ◌+◌, ◌≤◌}
use native.Mathlib.Omega.{arith}
use mathlib.Core.Path.{◌≡◌, refl, sym, ap, ◌∙◌}
use mathlib.Core.Bool.{Bool, true≢false}
use mathlib.Core.List.{List, [], ◌∷◌, ◌++◌}
use Rattle.automaton.specs.Step.{Fault, no_fault, fault_at, Automaton, marked, Quiet, every_cell, Blocks, quiet_run, run_of, open_count, full_count}
use Rattle.automaton.proofs.Theorems.Quiet.{Lawful, Settled, quiet_run_agrees, open_le_full}
use Rattle.automaton.proofs.Theorems.Blocks.{Block, blocks_of, Between, Rises, Joined, lists_join, rises_right}
use Rattle.automaton.proofs.Theorems.Pause.{joined, pause, pause_fault, resumed}

-- One call of a chain: its steps, and its blocks.
pub record Slice (Grid : Type 0) : Type 0 where
  pub steps : ℕ
  pub block : Blocks Grid

module _ {Grid : Type 0} where
  -- The steps of all calls of a chain, of which there is at least one.
  abbrev pub all_steps : Slice Grid → List (Slice Grid) → ℕ
  all_steps s [] = s.steps
  all_steps s (s' ∷ ss) = s.steps + all_steps s' ss

  -- The blocks of a chain that begins at the time t, joined: each call's are joined, at the time where it ends, to those of the calls behind it.
  abbrev pub Chained : Slice Grid → List (Slice Grid) → ℕ → Blocks Grid → Type 0
  Chained s [] t both = both ≡ s.block
  Chained s (s' ∷ ss) t both = (rest : Blocks Grid) × Chained s' ss (t + s.steps) rest × Joined s.block rest both (t + s.steps)

-- A call and what the calls behind it give: after a fault none follows.
abbrev pub followed : {Grid : Type 0} → Fault → Quiet Grid → Quiet Grid → Quiet Grid
followed no_fault a b = joined a b
followed (fault_at c number place) a b = a

module _ {Grid State : Type 0} (M : Automaton Grid State) where
  -- One call.
  abbrev pub call : (ℕ → Bool) → Slice Grid → ℕ → Grid → Quiet Grid
  call o s t g = quiet_run M s.block o s.steps t g

  -- Calls one after the other. The first begins with the cells `o` pending; each later one from the marks and the grid that the one before left, at the time
  -- then reached.
  unfoldable pub calls : (ℕ → Bool) → Slice Grid → List (Slice Grid) → ℕ → Grid → Quiet Grid
  calls o s [] t g = call o s t g
  calls o s (s' ∷ ss) t g =
      let a = call o s t g in
      followed a.run.fault a (calls (marked a.marks) s' ss (t + s.steps) a.run.grid)

  calls_as : (o : ℕ → Bool) (s s' : Slice Grid) (ss : List (Slice Grid)) (t : ℕ) (g : Grid) (f : Fault) → (call o s t g).run.fault ≡ f
      → calls o s (s' ∷ ss) t g ≡ followed f (call o s t g) (calls (marked (call o s t g).marks) s' ss (t + s.steps) (call o s t g).run.grid)
  unfolding calls
  calls_as o s s' ss t g f e = ap (λ (x : Fault). followed x (call o s t g) (calls (marked (call o s t g).marks) s' ss (t + s.steps) (call o s t g).run.grid)) e

  module _ (laws : Lawful M) where
    -- Whatever is pending at first, the calls of a chain give what one call with all their steps and the joined blocks gives: answer, grid, summed steps,
    -- summed count, and the marks that stand.
    pub calls_join : (o : ℕ → Bool) (s : Slice Grid) (ss : List (Slice Grid)) (t : ℕ) (g : Grid) (both : Blocks Grid) → Chained s ss t both
        → calls o s ss t g ≡ quiet_run M both o (all_steps s ss) t g
    unfolding calls
    calls_join o s [] t g both chained = ap (λ (b : Blocks Grid). quiet_run M b o s.steps t g) (sym chained)
    calls_join o s (s' ∷ ss) t g both chained =
        go (call o s t g).run.fault refl (calls_join (marked (call o s t g).marks) s' ss (t + s.steps) (call o s t g).run.grid chained.0 chained.1)
      where
        a : Quiet Grid
        a = call o s t g

        go : (f : Fault) → a.run.fault ≡ f
            → calls (marked a.marks) s' ss (t + s.steps) a.run.grid ≡ quiet_run M chained.0 (marked a.marks) (all_steps s' ss) (t + s.steps) a.run.grid
            → calls o s (s' ∷ ss) t g ≡ quiet_run M both o (s.steps + all_steps s' ss) t g
        go no_fault e rest =
            calls_as o s s' ss t g no_fault e ∙ ap (joined a) rest
            ∙ sym (pause M laws s.block chained.0 both s.steps (all_steps s' ss) o t g chained.2 e)
        go (fault_at c k p) e rest =
            calls_as o s s' ss t g (fault_at c k p) e
            ∙ sym (pause_fault M laws s.block chained.0 both s.steps (all_steps s' ss) o t g c k p chained.2 e)

    fresh : (g : Grid) (t : ℕ) → Settled M every_cell g t
    fresh g t c l untimed shut = absurd (true≢false shut)

    module _ (s : Slice Grid) (ss : List (Slice Grid)) (t : ℕ) (g : Grid) (both : Blocks Grid) where
      -- what the calls of a chain whose first call is fresh give in all
      pub record ChainAgrees : Type 0 where
        pub run : (calls every_cell s ss t g).run ≡ run_of M both (all_steps s ss) t g
        pub count : (calls every_cell s ss t g).count ≡ open_count M both every_cell (all_steps s ss) t g
        pub bound : (calls every_cell s ss t g).count ≤ full_count M both (all_steps s ss) t g

      -- what one more call, of m steps, gives from where they stopped
      pub record ResumedAgrees (block : Blocks Grid) (m : ℕ) : Type 0 where
        pub run : (resumed M block (calls every_cell s ss t g) m (t + all_steps s ss)).run ≡ run_of M block m (t + all_steps s ss) (calls every_cell s ss t g).run.grid
        pub bound : (resumed M block (calls every_cell s ss t g) m (t + all_steps s ss)).count ≤ full_count M block m (t + all_steps s ss) (calls every_cell s ss t g).run.grid

      pub chain_agrees : Chained s ss t both → ChainAgrees
      chain_agrees chained =
          let one = calls_join every_cell s ss t g both chained in
          let each = quiet_run_agrees M laws both (all_steps s ss) every_cell t g (fresh g t) in
          record {
            run = ap (λ (q : Quiet Grid). q.run) one ∙ each.run;
            count = ap (λ (q : Quiet Grid). q.count) one ∙ each.count;
            bound = rw (ap (λ (q : Quiet Grid). q.count) one ∙ each.count) (open_le_full M both (all_steps s ss) every_cell t g);
          }

      pub resumed_agrees : Chained s ss t both → (calls every_cell s ss t g).run.fault ≡ no_fault → (block : Blocks Grid) (m : ℕ) → ResumedAgrees block m
      resumed_agrees chained none block m =
          let one = calls_join every_cell s ss t g both chained in
          let before = quiet_run_agrees M laws both (all_steps s ss) every_cell t g (fresh g t) in
          let stood : Settled M (marked (calls every_cell s ss t g).marks) (calls every_cell s ss t g).run.grid (t + all_steps s ss) =
          rw one (before.standing (sym (ap (λ (q : Quiet Grid). q.run.fault) one) ∙ none))
          in
          let each = quiet_run_agrees M laws block m (marked (calls every_cell s ss t g).marks) (t + all_steps s ss) (calls every_cell s ss t g).run.grid stood in
          record { run = each.run; bound = rw each.count (open_le_full M block m _ (t + all_steps s ss) _) }

-- ---- lists of blocks

-- The steps and the list of a call.
pub record ListSlice (Grid : Type 0) : Type 0 where
  pub steps : ℕ
  pub list : List (Block Grid)

module _ {Grid : Type 0} where
  abbrev pub slice_of : ListSlice Grid → Slice Grid
  slice_of s = record { steps = s.steps; block = blocks_of s.list }

  abbrev pub slices_of : List (ListSlice Grid) → List (Slice Grid)
  slices_of [] = []
  slices_of (s ∷ ss) = slice_of s ∷ slices_of ss

  -- The joined list.
  abbrev pub all_blocks : ListSlice Grid → List (ListSlice Grid) → List (Block Grid)
  all_blocks s [] = s.list
  all_blocks s (s' ∷ ss) = s.list ++ all_blocks s' ss

  -- Each call is admitted: no time of its list is before its start or past its start plus its steps. Each starts where the one before stopped.
  abbrev pub Admitted : ListSlice Grid → List (ListSlice Grid) → ℕ → Type 0
  Admitted s [] t = Between t (t + s.steps) s.list
  Admitted s (s' ∷ ss) t = Between t (t + s.steps) s.list × Admitted s' ss (t + s.steps)

  between_wider : (low low' high high' : ℕ) (bs : List (Block Grid)) → low ≤ low' → high' ≤ high → Between low' high' bs → Between low high bs
  unfolding Between
  between_wider low low' high high' [] l h k = tt
  between_wider low low' high high' (b ∷ bs) l h k = (let x = k.0 in omega arith, let x = k.1 in omega arith, between_wider low low' high high' bs l h k.2)

  between_append : (low high : ℕ) (bs cs : List (Block Grid)) → Between low high bs → Between low high cs → Between low high (bs ++ cs)
  unfolding Between
  between_append low high [] cs h k = k
  between_append low high (b ∷ bs) cs h k = (h.0, h.1, between_append low high bs cs h.2 k)

  steps_in : ListSlice Grid → List (ListSlice Grid) → ℕ
  steps_in s [] = s.steps
  steps_in s (s' ∷ ss) = s.steps + steps_in s' ss

  admitted_between : (s : ListSlice Grid) (ss : List (ListSlice Grid)) (t : ℕ) → Admitted s ss t → Between t (t + steps_in s ss) (all_blocks s ss)
  unfolding steps_in
  admitted_between s [] t h = h
  admitted_between s (s' ∷ ss) t h =
      between_append t (t + (s.steps + steps_in s' ss)) s.list (all_blocks s' ss)
      (between_wider t t (t + (s.steps + steps_in s' ss)) (t + s.steps) s.list (omega arith) (omega arith) h.0)
      (between_wider t (t + s.steps) (t + (s.steps + steps_in s' ss)) (t + s.steps + steps_in s' ss) (all_blocks s' ss) (omega arith) (omega arith)
      (admitted_between s' ss (t + s.steps) h.1))

  -- Where the times of the lists, joined, rise strictly, the joined list has the joined blocks.
  pub lists_chain : (s : ListSlice Grid) (ss : List (ListSlice Grid)) (t : ℕ) → Admitted s ss t → Rises (all_blocks s ss)
      → Chained (slice_of s) (slices_of ss) t (blocks_of (all_blocks s ss))
  lists_chain s [] t fit rises = refl
  lists_chain s (s' ∷ ss) t fit rises = (
    blocks_of (all_blocks s' ss),
    lists_chain s' ss (t + s.steps) fit.1 (rises_right s.list (all_blocks s' ss) rises),
    lists_join t (t + s.steps) (t + s.steps + steps_in s' ss) s.list (all_blocks s' ss) fit.0 (admitted_between s' ss (t + s.steps) fit.1) rises,
  )
