-- A quiet run of n steps and then, from its standing marks, of m steps is the quiet run of n + m steps with the joined blocks.
use Prim.Native.Nat.{ℕ, zero, suc, ◌+◌, ◌<◌}
use native.Mathlib.Nat.{zero-add, suc-add, add-suc, add-zero, add_assoc}
use native.Mathlib.Omega.{arith}
use mathlib.Core.Path.{◌≡◌, refl, sym, ap, ◌∙◌, subst}
use mathlib.Core.Logic.{◌⊎◌, inl, inr}
use mathlib.Core.Bool.{Bool, true, false, ◌||◌, cond}
use mathlib.Core.List.{List}
use Rattle.automaton.specs.Promises.ListedLaws.{list_of_ext}
use Rattle.automaton.specs.Step.{Fault, no_fault, fault_at, Automaton, changed, touched, open_in, marks_of, marked, Step, Quiet, one_more_quiet, Blocks, quiet_step, quiet_run}
use Rattle.automaton.proofs.Theorems.Quiet.{Lawful, quiet_then, quiet_from, quiet_run_from, any_none, marked_marks_of}
use Rattle.automaton.proofs.Theorems.Blocks.{Joined}

-- The results of two calls taken together: the later's answer, grid and marks, and the sums of the steps and of the counts.
abbrev pub joined : {Grid : Type 0} → Quiet Grid → Quiet Grid → Quiet Grid
joined a b = record {
  run = record { fault = b.run.fault; steps = a.run.steps + b.run.steps; grid = b.run.grid };
  count = a.count + b.count;
  marks = b.marks;
}

pub marks_ext : (o o' : ℕ → Bool) (n : ℕ) → ((c : ℕ) → c < n → o c ≡ o' c) → marks_of o n ≡ marks_of o' n
unfolding marks_of
marks_ext o o' n h = list_of_ext _ _ n (λ c l. ap (λ (b : Bool). cond b 1 0) (h c l))

module _ {Grid State : Type 0} (M : Automaton Grid State) where
  -- ---- blocks that agree from a time on

  from_blocks : (n : ℕ) (block block' : Blocks Grid) (t : ℕ) (g : Grid) (marks : List ℕ) → ((s : ℕ) → t < s → (h : Grid) → block s h ≡ block' s h)
      → quiet_from M block n t g marks ≡ quiet_from M block' n t g marks
  from_blocks zero block block' t g marks same = refl
  from_blocks (suc n) block block' t g marks same =
      go s.fault
      (from_blocks n block block' (suc t) (block' (suc t) s.grid) (marks_of (open_in M (touched M g s.grid) s.grid (block' (suc t) s.grid)) M.cells) (λ r l h. same r (omega arith) h))
    where
      s : Step Grid
      s = quiet_step M marks g t

      o : ℕ → Bool
      o = touched M g s.grid

      go : (a : Fault)
          → quiet_from M block n (suc t) (block' (suc t) s.grid) (marks_of (open_in M o s.grid (block' (suc t) s.grid)) M.cells)
          ≡ quiet_from M block' n (suc t) (block' (suc t) s.grid) (marks_of (open_in M o s.grid (block' (suc t) s.grid)) M.cells)
          → quiet_then M block n t g a s.grid s.count ≡ quiet_then M block' n t g a s.grid s.count
      go no_fault rest =
          ap (one_more_quiet s.count)
          (quiet_run_from M block o n (suc t) s.grid
          ∙ ap (λ (h : Grid). quiet_from M block n (suc t) h (marks_of (open_in M o s.grid h) M.cells)) (same (suc t) (omega arith) s.grid)
          ∙ rest ∙ sym (quiet_run_from M block' o n (suc t) s.grid))
      go (fault_at c k p) rest = refl

  -- ---- a pause before the first step: by whose block is set at that time

  -- where a step would open a cell, by the marks that stand
  or_same : (a b x : Bool) → x ≡ false → (a || (b || x)) ≡ (a || b)
  or_same a true x e = refl
  or_same true false x e = refl
  or_same false false x e = e

  or_twice : (a b x : Bool) → (a || ((a || b) || x)) ≡ (a || (b || x))
  or_twice true b x = refl
  or_twice false b x = refl

  -- The call of m steps from the marks and the grid that a call left.
  abbrev pub resumed : Blocks Grid → Quiet Grid → ℕ → ℕ → Quiet Grid
  resumed block a m t = quiet_run M block (marked a.marks) m t a.run.grid

  module _ (laws : Lawful M) where
    untouched : (g : Grid) (c : ℕ) → touched M g g c ≡ false
    unfolding touched changed
    untouched g c = any_none (changed M g g) (M.reach c) (λ x. laws.differ_same (M.at g x))

    -- the cells whose mark stands after a block led from g to h are those that were open then
    abbrev stood : (ℕ → Bool) → Grid → Grid → ℕ → Bool
    stood o g h = marked (marks_of (open_in M o g h) M.cells)

    -- the earlier call set the block
    open_earlier : (o : ℕ → Bool) (g h : Grid) (c : ℕ) → c < M.cells → open_in M o g h c ≡ open_in M (stood o g h) h h c
    unfolding open_in
    open_earlier o g h c l =
        sym (ap (λ (b : Bool). M.timed || (b || touched M h h c)) (marked_marks_of (open_in M o g h) M.cells c l)
        ∙ or_twice M.timed (o c || touched M g h c) (touched M h h c) ∙ or_same M.timed (o c || touched M g h c) (touched M h h c) (untouched h c))

    -- the later call sets the block
    open_later : (o : ℕ → Bool) (g h : Grid) (c : ℕ) → c < M.cells → open_in M o g h c ≡ open_in M (stood o g g) g h c
    unfolding open_in
    open_later o g h c l =
        sym (ap (λ (b : Bool). M.timed || (b || touched M g h c)) (marked_marks_of (open_in M o g g) M.cells c l)
        ∙ or_twice M.timed (o c || touched M g g c) (touched M g h c)
        ∙ ap (λ (b : Bool). M.timed || (b || touched M g h c)) (or_same false (o c) (touched M g g c) (untouched g c)))

    module _ (first second both : Blocks Grid) where
      pause_zero : (m : ℕ) (o : ℕ → Bool) (t : ℕ) (g : Grid) → Joined first second both t
          → quiet_run M both o m t g ≡ quiet_run M second (stood o g (first t g)) m t (first t g)
      pause_zero m o t g j = go j.there
        where
          rest : (h : Grid) (marks : List ℕ) → quiet_from M both m t h marks ≡ quiet_from M second m t h marks
          rest h marks = from_blocks m both second t h marks (λ s l k. j.behind s l k)

          go : (((h : Grid) → both t h ≡ first t h) × ((h : Grid) → second t h ≡ h)) ⊎ (((h : Grid) → first t h ≡ h) × ((h : Grid) → both t h ≡ second t h))
              → quiet_run M both o m t g ≡ quiet_run M second (stood o g (first t g)) m t (first t g)
          go (inl e) =
              quiet_run_from M both o m t g
              ∙ ap (λ (h : Grid). quiet_from M both m t h (marks_of (open_in M o g h) M.cells)) (e.0 g)
              ∙ rest (first t g) _
              ∙ ap (λ (ms : List ℕ). quiet_from M second m t (first t g) ms) (marks_ext _ _ M.cells (open_earlier o g (first t g)))
              ∙ ap (λ (h : Grid). quiet_from M second m t h (marks_of (open_in M (stood o g (first t g)) (first t g) h) M.cells)) (sym (e.1 (first t g)))
              ∙ sym (quiet_run_from M second (stood o g (first t g)) m t (first t g))
          go (inr e) =
              quiet_run_from M both o m t g
              ∙ ap (λ (h : Grid). quiet_from M both m t h (marks_of (open_in M o g h) M.cells)) (e.1 g)
              ∙ rest (second t g) _
              ∙ ap (λ (ms : List ℕ). quiet_from M second m t (second t g) ms) (marks_ext _ _ M.cells (open_later o g (second t g)))
              ∙ sym (quiet_run_from M second (stood o g g) m t g)
              ∙ ap (λ (h : Grid). quiet_run M second (stood o g h) m t h) (sym (e.0 g))

      -- ---- a pause after n steps

      joined_zero : (g : Grid) (ms : List ℕ) (b : Quiet Grid) → joined (record { run = record { fault = no_fault; steps = 0; grid = g }; count = 0; marks = ms }) b ≡ b
      joined_zero g ms b = λ i. record {
        run = record { fault = b.run.fault; steps = zero-add b.run.steps i; grid = b.run.grid };
        count = zero-add b.count i;
        marks = b.marks;
      }

      joined_more : (k : ℕ) (a b : Quiet Grid) → one_more_quiet k (joined a b) ≡ joined (one_more_quiet k a) b
      joined_more k a b = λ i. record {
        run = record { fault = b.run.fault; steps = sym (suc-add a.run.steps b.run.steps) i; grid = b.run.grid };
        count = sym (add_assoc k a.count b.count) i;
        marks = b.marks;
      }

      next_join : (t n : ℕ) → Joined first second both (t + suc n) → Joined first second both (suc t + n)
      next_join t n j = subst (Joined first second both) (add-suc t n ∙ sym (suc-add t n)) j

      module _ (o : ℕ → Bool) (t : ℕ) (g : Grid) where
        -- the first step, of either run
        begun : Step Grid
        begun = quiet_step M (marks_of (open_in M o g (first t g)) M.cells) (first t g) t

        step_first : (n : ℕ) (a : Fault) → begun.fault ≡ a → quiet_run M first o (suc n) t g ≡ quiet_then M first n t (first t g) a begun.grid begun.count
        unfolding begun
        step_first n a q = quiet_run_from M first o (suc n) t g ∙ ap (λ (b : Fault). quiet_then M first n t (first t g) b begun.grid begun.count) q

        step_both : (n : ℕ) (a : Fault) → both t g ≡ first t g → begun.fault ≡ a → quiet_run M both o (suc n) t g ≡ quiet_then M both n t (first t g) a begun.grid begun.count
        unfolding begun
        step_both n a r q =
            quiet_run_from M both o (suc n) t g ∙ ap (λ (h : Grid). quiet_from M both (suc n) t h (marks_of (open_in M o g h) M.cells)) r
            ∙ ap (λ (b : Fault). quiet_then M both n t (first t g) b begun.grid begun.count) q

      none_zero : (o : ℕ → Bool) (t : ℕ) (g : Grid) → quiet_run M first o 0 t g ≡ record { run = record { fault = no_fault; steps = 0; grid = first t g }; count = 0; marks = marks_of (open_in M o g (first t g)) M.cells }
      unfolding quiet_run
      none_zero o t g = refl

      -- n steps and then m, where the first call has no fault
      pub pause : (n m : ℕ) (o : ℕ → Bool) (t : ℕ) (g : Grid) → Joined first second both (t + n) → (quiet_run M first o n t g).run.fault ≡ no_fault
          → quiet_run M both o (n + m) t g ≡ joined (quiet_run M first o n t g) (resumed second (quiet_run M first o n t g) m (t + n))
      pause zero m o t g j e =
          ap (λ (x : ℕ). quiet_run M both o x t g) (zero-add m)
          ∙ pause_zero m o t g (rw (add-zero t) at j)
          ∙ ap (λ (x : ℕ). quiet_run M second (stood o g (first t g)) m x (first t g)) (sym (add-zero t))
          ∙ sym (joined_zero (first t g) (marks_of (open_in M o g (first t g)) M.cells) _)
          ∙ ap (λ (a : Quiet Grid). joined a (resumed second a m (t + 0))) (sym (none_zero o t g))
      pause (suc n) m o t g j e = go (begun o t g).fault refl (pause n m (touched M (first t g) (begun o t g).grid) (suc t) (begun o t g).grid (next_join t n j))
        where
          s : Step Grid
          s = begun o t g

          o' : ℕ → Bool
          o' = touched M (first t g) s.grid

          go : (a : Fault) → s.fault ≡ a
              → ((quiet_run M first o' n (suc t) s.grid).run.fault ≡ no_fault
              → quiet_run M both o' (n + m) (suc t) s.grid
              ≡ joined (quiet_run M first o' n (suc t) s.grid) (resumed second (quiet_run M first o' n (suc t) s.grid) m (suc t + n)))
              → quiet_run M both o (suc n + m) t g ≡ joined (quiet_run M first o (suc n) t g) (resumed second (quiet_run M first o (suc n) t g) m (t + suc n))
          go no_fault q ih =
              let before = step_first o t g n no_fault q in
              let inner : (quiet_run M first o' n (suc t) s.grid).run.fault ≡ no_fault = sym (ap (λ (x : Quiet Grid). x.run.fault) before) ∙ e in
              ap (λ (x : ℕ). quiet_run M both o x t g) (suc-add n m)
              ∙ step_both o t g (n + m) no_fault (j.before t (omega arith) g) q
              ∙ ap (one_more_quiet s.count) (ih inner)
              ∙ joined_more s.count (quiet_run M first o' n (suc t) s.grid) _
              ∙ ap (λ (x : ℕ). let a = one_more_quiet s.count (quiet_run M first o' n (suc t) s.grid) in joined a (resumed second a m x)) (suc-add t n ∙ sym (add-suc t n))
              ∙ ap (λ (a : Quiet Grid). joined a (resumed second a m (t + suc n))) (sym before)
          go (fault_at c k p) q ih =
              let stop : fault_at c k p ≡ no_fault = sym (ap (λ (x : Quiet Grid). x.run.fault) (step_first o t g n (fault_at c k p) q)) ∙ e in
              absurd (let z : ◌≡◌ {A = ℕ} 0 1 = cc in omega arith)

      -- n steps of which one faults: the call of n + m steps ends so too
      pub pause_fault : (n m : ℕ) (o : ℕ → Bool) (t : ℕ) (g : Grid) (c k p : ℕ) → Joined first second both (t + n) → (quiet_run M first o n t g).run.fault ≡ fault_at c k p
          → quiet_run M both o (n + m) t g ≡ quiet_run M first o n t g
      pause_fault zero m o t g c k p j e =
          let stop : no_fault ≡ fault_at c k p = sym (ap (λ (x : Quiet Grid). x.run.fault) (none_zero o t g)) ∙ e in
          absurd (let z : ◌≡◌ {A = ℕ} 0 1 = cc in omega arith)
      pause_fault (suc n) m o t g c k p j e =
          go (begun o t g).fault refl (pause_fault n m (touched M (first t g) (begun o t g).grid) (suc t) (begun o t g).grid c k p (next_join t n j))
        where
          s : Step Grid
          s = begun o t g

          o' : ℕ → Bool
          o' = touched M (first t g) s.grid

          go : (a : Fault) → s.fault ≡ a
              → ((quiet_run M first o' n (suc t) s.grid).run.fault ≡ fault_at c k p → quiet_run M both o' (n + m) (suc t) s.grid ≡ quiet_run M first o' n (suc t) s.grid)
              → quiet_run M both o (suc n + m) t g ≡ quiet_run M first o (suc n) t g
          go no_fault q ih =
              let before = step_first o t g n no_fault q in
              ap (λ (x : ℕ). quiet_run M both o x t g) (suc-add n m)
              ∙ step_both o t g (n + m) no_fault (j.before t (omega arith) g) q
              ∙ ap (one_more_quiet s.count) (ih (sym (ap (λ (x : Quiet Grid). x.run.fault) before) ∙ e))
              ∙ sym before
          go (fault_at x y z) q ih =
              ap (λ (x : ℕ). quiet_run M both o x t g) (suc-add n m)
              ∙ step_both o t g (n + m) (fault_at x y z) (j.before t (omega arith) g) q
              ∙ sym (step_first o t g n (fault_at x y z) q)
