-- Property 2, the ranges: each field of the grid that a run leaves lies in its declared range. That is so over any number of steps, with any blocks that
-- keep the ranges, for a quiet run under any marks, and at a fault too.
use Prim.Native.Nat.{ℕ, zero, suc, ◌+◌, ◌*◌, ◌/◌, ◌%◌, ◌<◌}
use native.Mathlib.Nat.{add-zero, zero-add, add-suc, suc-add, mul-add-mod_self_right, mod-eq_of_lt, mul-le-mul_right, div-lt_iff_lt-mul}
use native.Mathlib.Omega.{arith}
use mathlib.Core.Path.{◌≡◌, refl, sym, ap, ap₂, ◌∙◌, subst}
use mathlib.Core.Bool.{Bool, true, false, not, ◌&&◌, cond}
use mathlib.Core.List.{List, [], ◌∷◌}
use lib.ListN.{length, get_or}
use lib.Dec.{eqb, leb}
use lib.IntN.{ℤ, pos}
use borrow.Author.Tests.{eqb-true, eq-eqb}
use Rattle.std.specs.Prelude.{if◌then◌else◌}
use Rattle.value.proofs.Theorems.Laws.{never, and_both}
use Rattle.automaton.specs.Promises.ListedLaws.{length_list_of, get_or_list_of}
use Rattle.automaton.specs.Step.{Outcome, result, fault, Fault, no_fault, fault_at, Blocks, Step, Quiet, marks_of, touched, open_in, state_or, marked, grid_after, step_of, quiet_outcome, quiet_step, run_of, quiet_run}
use Rattle.automaton.proofs.Theorems.Quiet.{run_go, run_stop, quiet_then, quiet_run_from}
use Rattle.automaton.specs.Shape.{product, neighbour}
use Rattle.automaton.proofs.ShapeLaws.{alike_length, neighbour_lt}
use Rattle.automaton.specs.Grid.{cell_of, grid_of, automaton}
use Rattle.automaton.proofs.Theorems.GridLaws.{some_field, positive_of}
use Rattle.program.specs.Syntax.{Range, no_range, Program}
use Rattle.cell_meaning.specs.Evaluation.{entry, offsets, in_field}
use Rattle.cell_meaning.specs.Written.{written_in}
use Rattle.run_meaning.specs.Reach.{running}
use Rattle.program.specs.Refusal.{Refusal, refusal}
use Rattle.run_meaning.specs.Admission.{Request, all_between, good_sizes, good_rooms, good_times, too_far, out_of_field, admission, on_grid}
use Rattle.run_meaning.proofs.Theorems.Locality.{InRanges, in_at, evaluate_in_ranges}

-- A grid of a program: cells times fields entries, of which the test of reply 24 finds none out of its field's range.
pub record FieldsInRange (p : Program) (sizes : List ℕ) (g : List ℤ) : Type 0 where
  pub entries : length g ≡ product sizes * length p.fields
  pub within : (out_of_field p.fields 0 g).number ≡ 0

-- ---- the test of 24, entry by entry

module _ (fields : List Range) where
  -- entry k of a list is in the range of its field, if the first entry is number e of the grid
  abbrev Fine : ℕ → List ℤ → ℕ → Type 0
  Fine e zs k = in_field (get_or fields ((e + k) % length fields) no_range) (entry zs k) ≡ true

  fine_of : (e : ℕ) (zs : List ℤ) → (out_of_field fields e zs).number ≡ 0 → (k : ℕ) → k < length zs → Fine e zs k
  unfolding out_of_field
  fine_of e [] h k l = absurd (omega arith)
  fine_of e (z ∷ zs) h k l = by (in_field (get_or fields (e % length fields) no_range) z) refl h k l (fine_of (suc e) zs)
    where
      by : (b : Bool) → in_field (get_or fields (e % length fields) no_range) z ≡ b → (if b then out_of_field fields (suc e) zs else refusal 24 e).number ≡ 0
          → (k : ℕ) → k < length (z ∷ zs) → ((out_of_field fields (suc e) zs).number ≡ 0 → (j : ℕ) → j < length zs → Fine (suc e) zs j) → Fine e (z ∷ zs) k
      by true q n zero m rest = rw (add-zero e) q
      by true q n (suc k) m rest = subst (λ (i : ℕ). in_field (get_or fields (i % length fields) no_range) (entry zs k) ≡ true) (suc-add e k ∙ sym (add-suc e k)) (rest n k (omega arith))
      by false q n k m rest = absurd (omega arith)

  all_fine : (e : ℕ) (zs : List ℤ) → ((k : ℕ) → k < length zs → Fine e zs k) → out_of_field fields e zs ≡ refusal 0 0
  unfolding out_of_field
  all_fine e [] h = refl
  all_fine e (z ∷ zs) h =
      let first : in_field (get_or fields (e % length fields) no_range) z ≡ true = rw (add-zero e) at (h 0 (omega arith)) in
      rw first (all_fine (suc e) zs (λ k l. subst (λ (i : ℕ). in_field (get_or fields (i % length fields) no_range) (entry zs k) ≡ true) (add-suc e k ∙ sym (suc-add e k)) (h (suc k) (omega arith))))

-- each entry of such a grid is in the range of its field
pub entry_in_range : {p : Program} {sizes : List ℕ} {g : List ℤ} → FieldsInRange p sizes g → (e : ℕ) → e < length g
    → in_field (get_or p.fields (e % length p.fields) no_range) (entry g e) ≡ true
entry_in_range {p} {sizes} {g} h e l = rw (zero-add e) at (fine_of p.fields 0 g h.within e l)

-- and a list of that size of which each entry is in its range is such a grid
pub all_in_range : {p : Program} {sizes : List ℕ} {g : List ℤ} → length g ≡ product sizes * length p.fields
    → ((e : ℕ) → e < length g → in_field (get_or p.fields (e % length p.fields) no_range) (entry g e) ≡ true) → FieldsInRange p sizes g
all_in_range {p} {sizes} {g} size h = record { entries = size; within = ap (λ (r : Refusal). r.number) (all_fine p.fields 0 g (λ k l. rw (zero-add k) (h k l))) }

-- ---- cells

-- values that are as many as the ranges, each in its range
in_ranges : (rs : List Range) (zs : List ℤ) → length zs ≡ length rs → ((k : ℕ) → k < length rs → in_field (get_or rs k no_range) (entry zs k) ≡ true) → InRanges rs zs
in_ranges [] [] e h = tt
in_ranges [] (z ∷ zs) e h = absurd (omega arith)
in_ranges (r ∷ rs) [] e h = absurd (omega arith)
in_ranges (r ∷ rs) (z ∷ zs) e h = (h 0 (omega arith), in_ranges rs zs (omega arith) (λ k l. h (suc k) (omega arith)))

offsets_length : (d : ℕ) (vs : List ℤ) → length (offsets d vs []) ≡ d
unfolding offsets
offsets_length zero vs = refl
offsets_length (suc d) vs = ap suc (offsets_length d vs)

module _ (p : Program) (sizes : List ℕ) where
  cell_in_ranges : (g : List ℤ) → FieldsInRange p sizes g → (c : ℕ) → c < product sizes → InRanges p.fields (cell_of (length p.fields) g c)
  unfolding cell_of
  cell_in_ranges g h c l = in_ranges p.fields _ (length_list_of _ (length p.fields)) at
    where
      at : (k : ℕ) → k < length p.fields → in_field (get_or p.fields k no_range) (entry (cell_of (length p.fields) g c) k) ≡ true
      at k m =
          let n = length p.fields in
          let size = h.entries in
          let room : c * n + k < length g = omega (arith, mul-le-mul_right n l) in
          subst₂_in (mul-add-mod_self_right c n k ∙ mod-eq_of_lt m) (sym (get_or_list_of (λ (i : ℕ). get_or g (c * n + i) (pos 0)) n k (pos 0) m)) (entry_in_range h (c * n + k) room)
        where
          subst₂_in : {i j : ℕ} {x y : ℤ} → i ≡ j → x ≡ y → in_field (get_or p.fields i no_range) x ≡ true → in_field (get_or p.fields j no_range) y ≡ true
          subst₂_in {i} {j} {x} {y} a b t = ap₂ (λ (m : ℕ) (z : ℤ). in_field (get_or p.fields m no_range) z) (sym a) (sym b) ∙ t

  grid_in_range : (s : ℕ → List ℤ) → ((c : ℕ) → c < product sizes → InRanges p.fields (s c)) → FieldsInRange p sizes (grid_of (length p.fields) (product sizes) s)
  unfolding grid_of
  grid_in_range s h = all_in_range (length_list_of _ (product sizes * length p.fields)) at
    where
      at : (k : ℕ) → k < length (grid_of (length p.fields) (product sizes) s)
          → in_field (get_or p.fields (k % length p.fields) no_range) (entry (grid_of (length p.fields) (product sizes) s) k) ≡ true
      at k l =
          let n = length p.fields in
          let m : k < product sizes * n = subst (λ (x : ℕ). k < x) (length_list_of _ (product sizes * n)) l in
          ap (in_field (get_or p.fields (k % n) no_range)) (get_or_list_of (λ (e : ℕ). get_or (s (e / n)) (e % n) (pos 0)) (product sizes * n) k (pos 0) m)
          ∙ in_at p.fields (s (k / n)) (h (k / n) ((div-lt_iff_lt-mul (some_field (product sizes) n k m)).1 m)) (k % n)

  -- ---- a step, under any marks or none

  after_keeps : (stop : Fault) (g : List ℤ) (f : ℕ → Outcome (List ℤ)) → FieldsInRange p sizes g → ((c : ℕ) (a : List ℤ) → c < product sizes → f c ≡ result a → InRanges p.fields a)
      → FieldsInRange p sizes (grid_after (running p sizes) stop g f)
  unfolding running automaton
  after_keeps no_fault g f h next = grid_in_range (λ c. state_or (cell_of (length p.fields) g c) (f c)) (λ c l. by c l (f c) refl)
    where
      by : (c : ℕ) → c < product sizes → (o : Outcome (List ℤ)) → f c ≡ o → InRanges p.fields (state_or (cell_of (length p.fields) g c) o)
      by c l (result a) e = next c a l e
      by c l (fault k q) e = cell_in_ranges g h c l
  after_keeps (fault_at c k q) g f h next = h

  module _ (dims : length sizes ≡ p.dims) where
    next_in_ranges : (g : List ℤ) (t c : ℕ) (a : List ℤ) → FieldsInRange p sizes g → c < product sizes → (running p sizes).next g t c ≡ result a → InRanges p.fields a
    unfolding running automaton
    next_in_ranges g t c a h l e =
        evaluate_in_ranges p (λ ds. cell_of (length p.fields) g (neighbour sizes c ds)) t a
        (cell_in_ranges g h (neighbour sizes c (offsets p.dims [] []))
        (neighbour_lt sizes (positive_of sizes (omega arith)) c _ l (alike_length sizes (offsets p.dims [] []) (offsets_length p.dims [] ∙ sym dims)))) e

    pub step_keeps : (g : List ℤ) (t : ℕ) → FieldsInRange p sizes g → FieldsInRange p sizes (step_of (running p sizes) g t).grid
    unfolding step_of
    step_keeps g t h = after_keeps (step_of (running p sizes) g t).fault g _ h (λ c a l e. next_in_ranges g t c a h l e)

    pub quiet_step_keeps : (marks : List ℕ) (g : List ℤ) (t : ℕ) → FieldsInRange p sizes g → FieldsInRange p sizes (quiet_step (running p sizes) marks g t).grid
    unfolding quiet_step quiet_outcome running automaton
    quiet_step_keeps marks g t h = after_keeps (quiet_step (running p sizes) marks g t).fault g _ h (λ c a l e. by c a l (marked marks c) e)
      where
        by : (c : ℕ) (a : List ℤ) → c < product sizes → (b : Bool) → cond b ((running p sizes).next g t c) (result (cell_of (length p.fields) g c)) ≡ result a → InRanges p.fields a
        by c a l true e = next_in_ranges g t c a h l e
        by c a l false e = let z : cell_of (length p.fields) g c ≡ a = cc in subst (InRanges p.fields) z (cell_in_ranges g h c l)

    -- ---- runs, with any blocks that keep the ranges

    module _ (block : Blocks (List ℤ)) (kept : (t : ℕ) (g : List ℤ) → FieldsInRange p sizes g → FieldsInRange p sizes (block t g)) where
      pub run_keeps : (n t : ℕ) (g : List ℤ) → FieldsInRange p sizes g → FieldsInRange p sizes (run_of (running p sizes) block n t g).grid
      unfolding run_of
      run_keeps zero t g h = kept t g h
      run_keeps (suc n) t g h = by (step_of (running p sizes) (block t g) t).fault refl (run_keeps n (suc t) _ after)
        where
          new : List ℤ
          new = (step_of (running p sizes) (block t g) t).grid

          after : FieldsInRange p sizes new
          after = step_keeps (block t g) t (kept t g h)

          by : (f : Fault) → (step_of (running p sizes) (block t g) t).fault ≡ f → FieldsInRange p sizes (run_of (running p sizes) block n (suc t) new).grid
              → FieldsInRange p sizes (run_of (running p sizes) block (suc n) t g).grid
          by no_fault e rest = rw (run_go (running p sizes) block n t g e) rest
          by (fault_at c k q) e rest = rw (run_stop (running p sizes) block n t g c k q e) after

      -- whichever cells are pending
      pub quiet_run_keeps : (pending : ℕ → Bool) (n t : ℕ) (g : List ℤ) → FieldsInRange p sizes g → FieldsInRange p sizes (quiet_run (running p sizes) block pending n t g).run.grid
      unfolding quiet_run
      quiet_run_keeps o zero t g h = kept t g h
      quiet_run_keeps o (suc n) t g h =
          subst (λ (r : Quiet (List ℤ)). FieldsInRange p sizes r.run.grid) (sym (quiet_run_from (running p sizes) block o (suc n) t g)) (by s.fault (quiet_run_keeps (touched (running p sizes) (block t g) s.grid) n (suc t) s.grid after))
        where
          s : Step (List ℤ)
          s = quiet_step (running p sizes) (marks_of (open_in (running p sizes) o g (block t g)) (running p sizes).cells) (block t g) t

          after : FieldsInRange p sizes s.grid
          after = quiet_step_keeps _ (block t g) t (kept t g h)

          by : (f : Fault) → FieldsInRange p sizes (quiet_run (running p sizes) block (touched (running p sizes) (block t g) s.grid) n (suc t) s.grid).run.grid
              → FieldsInRange p sizes (quiet_then (running p sizes) block n t (block t g) f s.grid s.count).run.grid
          by no_fault rest = rest
          by (fault_at c k q) rest = after

-- ---- what an admitted run leaves

-- the first of the refusals 20 to 24 whose test fails
abbrev first_refusal : Bool → Bool → Bool → Refusal → Refusal → Refusal
first_refusal sizes rooms times far out =
    if not sizes then refusal 20 0
    else if not rooms then refusal 21 0
    else if not times then refusal 22 0
    else if not (eqb far.number 0) then far
    else out

-- no test fails
record Passed (sizes rooms times : Bool) (far out : Refusal) : Type 0 where
  sizes_pass : sizes ≡ true
  rooms_pass : rooms ≡ true
  times_pass : times ≡ true
  far_none : far.number ≡ 0
  out_none : out.number ≡ 0

passed_of : (sizes rooms times : Bool) (far out : Refusal) → (first_refusal sizes rooms times far out).number ≡ 0 → Passed sizes rooms times far out
passed_of false rooms times far out h = absurd (omega arith)
passed_of true false times far out h = absurd (omega arith)
passed_of true true false far out h = absurd (omega arith)
passed_of true true true far out h = by (eqb far.number 0) refl h
  where
    by : (b : Bool) → eqb far.number 0 ≡ b → (if not b then far else out).number ≡ 0 → Passed true true true far out
    by true e k = record { sizes_pass = refl; rooms_pass = refl; times_pass = refl; far_none = eqb-true far.number 0 e; out_none = k }
    by false e k = never (sym e ∙ eq-eqb far.number 0 k)

none_of : {sizes rooms times : Bool} {far out : Refusal} → Passed sizes rooms times far out → (first_refusal sizes rooms times far out).number ≡ 0
none_of h = rw (h.sizes_pass, h.rooms_pass, h.times_pass, eq-eqb _ 0 h.far_none) h.out_none

module _ (p : Program) (q : Request) where
  passed : (admission p q).number ≡ 0
      → Passed (good_sizes p q.sizes) (good_rooms p q) (good_times q.start q.steps) (too_far q.sizes (written_in p)) (out_of_field p.fields 0 q.grid)
  unfolding admission
  passed e = passed_of _ _ _ _ _ e

  -- an admitted run has as many dimensions as its program, and its grid is one of the program
  pub admitted_dims : (admission p q).number ≡ 0 → length q.sizes ≡ p.dims
  unfolding good_sizes
  admitted_dims e = eqb-true _ _ (and_both (eqb (length q.sizes) p.dims) (all_between 1 4096 q.sizes) (and_both _ (leb (product q.sizes) 1048576) (passed e).sizes_pass).0).0

  pub admitted_in_range : (admission p q).number ≡ 0 → FieldsInRange p q.sizes q.grid
  unfolding good_rooms
  admitted_in_range e = record { entries = eqb-true _ _ (and_both (eqb (length q.grid) (product q.sizes * length p.fields)) (eqb q.scratch (length q.grid)) (and_both _ (eqb q.marks (product q.sizes)) (passed e).rooms_pass).0).0; within = (passed e).out_none }

  -- and it would be admitted on any other grid of the program
  pub admitted_on : (admission p q).number ≡ 0 → (g : List ℤ) → FieldsInRange p q.sizes g → (admission p (on_grid q g)).number ≡ 0
  unfolding admission good_rooms
  admitted_on e g h =
      let a = passed e in
      let size : length g ≡ length q.grid = h.entries ∙ sym (admitted_in_range e).entries in
      none_of (record {
        sizes_pass = a.sizes_pass;
        rooms_pass = subst (λ (n : ℕ). (eqb n (product q.sizes * length p.fields) && eqb q.scratch n && eqb q.marks (product q.sizes)) ≡ true) (sym size) a.rooms_pass;
        times_pass = a.times_pass;
        far_none = a.far_none;
        out_none = h.within;
      })
