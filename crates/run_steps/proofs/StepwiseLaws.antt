-- The loop over the steps of a run: how it begins, goes on and ends.
use Prim.Native.Nat.{ℕ, zero, suc, ◌+◌, ◌*◌, ◌<◌, ◌≤◌}
use native.Mathlib.Nat.{add_assoc, add-zero, mul-le-mul_right}
use native.Mathlib.Numerals.{add-one}
use native.Mathlib.Omega.{arith}
use mathlib.Core.Path.{◌≡◌, refl, sym, ap, ap₂, ◌∙◌, subst, subst₂, fun_ext}
use mathlib.Core.Logic.{◌↔◌}
use mathlib.Core.Bool.{Bool, true, false, not, cond, ◌||◌}
use mathlib.Core.List.Memᴰ
use mathlib.Core.List.{List, [], ◌∷◌, map, Memᴰ}
use lib.ListN.{length, get_or, replicate, length-replicate}
use lib.Seq.{ext_get_or}
use lib.IntN.{ℤ}
use borrow.Author.Tests.{not-true, not-false}
use Rattle.run_marked_cells.proofs.ScanLaws.{is_unmarked}
use Rattle.automaton.proofs.Theorems.Pause.{marks_ext}
use Rattle.value.proofs.Theorems.Truth.{or_true, or_no}
use Rattle.value.specs.Limits.{most_cells}
use Rattle.value.proofs.Theorems.Laws.{never}
use Rattle.automaton.specs.Listed.{list_of}
use Rattle.automaton.specs.Promises.ListedLaws.{length_list_of, get_or_list_of}
use Rattle.automaton.specs.Step.{no_fault, fault_at, any_of, marks_of, non_zero, marked, Quiet, every_cell, no_cell, changed, touched, open_in, quiet_step}
use Rattle.automaton.proofs.Theorems.Quiet.{marked_marks_of, any_of_false, any_none, bit_le}
use Rattle.automaton.specs.Shape.{product, Bound, width, neighbour, reach_of, box_indices}
use Rattle.automaton.specs.Promises.ShapeLaws.{Positive, Alike, Shaped}
use Rattle.automaton.proofs.ShapeLaws.{neighbour_lt, neighbour_zeros}
use Rattle.automaton.specs.Grid.{cell_of, differ, automaton}
use Rattle.automaton.proofs.Theorems.GridLaws.{differ_false, differ_self}
use Rattle.automaton.proofs.Theorems.Going.{going_start, going_on, going_stop, going_done}
use Rattle.program.specs.Syntax.{Program}
use Rattle.program.specs.declared.Rule.{Rule}
use Rattle.cell_meaning.specs.Promises.Leaves.{Leaves}
use Rattle.cell_meaning.specs.Places.{own_place}
use Rattle.run_meaning.specs.declared.Bounds.{Bounds}
use Rattle.run_meaning.specs.declared.Reach.{Reach}
use Rattle.run_meaning.specs.Reach.{reach_from, reach, running}
use Rattle.run_meaning.proofs.Theorems.Locality.{own_zeros}
use Rattle.run_meaning.proofs.Theorems.Covering.{reach_covers}
use Rattle.run_meaning.proofs.Theorems.PlacesLaws.{places_box}
use Rattle.run_meaning.specs.Promises.Fitting.{held_fields}
use Rattle.run_step.specs.declared.Step.{Step}
use Rattle.std.specs.Prelude.{⊤, Ok, Err}
use Rattle.run_step.specs.declared.CellFault.{CellFault}
use Rattle.run_step.specs.Promises.Stepping.{fault_told}
use Rattle.run_step.specs.Promises.Stepping as stepping
use Rattle.run_step.specs.Promises.Stepping.{SteppedFor}
use Rattle.run_step.proofs.StepLaws.{stepped_of}
use Rattle.run_marking.specs.Promises.Opened as marking
use Rattle.run_marking.specs.Promises.Opened.{opened, pending_is, indices_of, Ways, Marks, Sound, WayOf}
use Rattle.run_marking.specs.Promises.Noting.{Prepared}
use Rattle.list_meaning.specs.Setting.{set_block}
use Rattle.run_steps.specs.declared.Report.{Report}
use Rattle.run_steps.specs.declared.Bands.{Bands}
use Rattle.list_reader.specs.Promises.Settings.{NextTime}
use Rattle.run_steps.specs.Promises.Blockwise.{Next, is_due, Settable, DueSet}
use Rattle.run_steps.specs.Promises.Stepwise.{Copying, from_lent, pending_in, Started, Begins, blocks_in, Runs, Renewed, Standing, Halfway, Begun, Underway, BlockPlaced, without_fault, steps_give, report_in, RanMarked}
use Rattle.run_steps.specs.Told.{told}
use Rattle.run_steps.specs.Promises.OneStep.{border_in, ToldBy, Steppable, Making}
use Rattle.run_steps.proofs.BlockLaws.{Follows, follows_start, follows_within, follows_stay, follows_set}

-- ---- marks

alike_at : (v n k : ℕ) → k < n → get_or (replicate n v) k 0 ≡ v
alike_at v zero k l = absurd (omega arith)
alike_at v (suc n) zero l = refl
alike_at v (suc n) (suc k) l = alike_at v n k (omega arith)

-- marks that are all the same
all_alike : (b : Bool) (n : ℕ) → replicate n (cond b 1 0) ≡ marks_of (λ c. b) n
unfolding marks_of
all_alike b n =
    ext_get_or 0 (replicate n (cond b 1 0)) (list_of (λ (c : ℕ). cond b 1 0) n) (length-replicate n (cond b 1 0) ∙ sym (length_list_of (λ (c : ℕ). cond b 1 0) n))
    (λ k l. let m : k < n = omega (arith, length-replicate {A = ℕ} n (cond b 1 0)) in alike_at (cond b 1 0) n k m ∙ sym (get_or_list_of (λ (c : ℕ). cond b 1 0) n k 0 m))

-- where every mark is 1, every cell is open
all_ones : (n : ℕ) → replicate n 1 ≡ marks_of every_cell n
all_ones n = all_alike true n

marks_plain : (o : ℕ → Bool) (n : ℕ) (marks : List ℕ) → marks ≡ marks_of o n → (c : ℕ) → c < n → get_or marks c 0 ≤ 1
unfolding marks_of
marks_plain o n marks e c l = rw (ap (λ (ms : List ℕ). get_or ms c 0) e ∙ get_or_list_of (λ (x : ℕ). cond (o x) 1 0) n c 0 l) (bit_le (o c))

marks_length : (o : ℕ → Bool) (n : ℕ) → length (marks_of o n) ≡ n
unfolding marks_of
marks_length o n = length_list_of _ n

shut : (o : ℕ → Bool) (n : ℕ) (marks : List ℕ) → marks ≡ marks_of o n → (c : ℕ) → c < n → get_or marks c 0 ≡ 0 → o c ≡ false
shut o n marks e c l z = sym (marked_marks_of o n c l) ∙ ap (λ (ms : List ℕ). marked ms c) (sym e) ∙ is_unmarked marks c z

marked_is : (b : Bool) (marks : List ℕ) (c : ℕ) → marked marks c ≡ b → b ≡ false → get_or marks c 0 ≡ 0
unfolding marked
marked_is b marks c e f = zero_of (get_or marks c 0) (e ∙ f)
  where
    zero_of : (n : ℕ) → non_zero n ≡ false → n ≡ 0
    zero_of zero q = refl
    zero_of (suc n) q = never (sym q)

-- ---- what a step opened

any_same : (f g : ℕ → Bool) (h : List ℤ → ℕ) (dss : List (List ℤ)) → ((ds : List ℤ) → Memᴰ ds dss → f (h ds) ≡ g (h ds)) → any_of f (map h dss) ≡ any_of g (map h dss)
unfolding any_of
any_same f g h [] k = refl
any_same f g h (ds ∷ dss) k = ap₂ ◌||◌ (k ds (Memᴰ.head refl)) (any_same f g h dss (λ es m. k es (Memᴰ.tail m)))

module _ (sizes : List ℕ) (dss : List (List ℤ)) (alike : (ds : List ℤ) → Memᴰ ds dss → Alike sizes ds) (positive : Positive sizes) (fields : ℕ) where
  -- it is the same of grids with the same fields in every cell
  opened_same : (old old' new : List ℤ) → ((x : ℕ) → x < product sizes → cell_of fields old x ≡ cell_of fields old' x) → (c : ℕ) → c < product sizes
      → opened sizes dss fields old new c ≡ opened sizes dss fields old' new c
  unfolding reach_of
  opened_same old old' new same c l =
      any_same _ _ (neighbour sizes c) dss
      (λ ds m. ap (λ (s : List ℤ). differ s (cell_of fields new (neighbour sizes c ds))) (same (neighbour sizes c ds) (neighbour_lt sizes positive c ds l (alike ds m))))

  -- a cell that is not opened did not change: it is in its own reach
  not_opened : Memᴰ (own_place (length sizes)) dss → (old new : List ℤ) (c : ℕ) → c < product sizes → opened sizes dss fields old new c ≡ false
      → cell_of fields old c ≡ cell_of fields new c
  unfolding reach_of
  not_opened own old new c l e =
      let here = ap (neighbour sizes c) (own_zeros sizes) ∙ neighbour_zeros sizes c positive l in
      differ_false _ _ (any_of_false _ _ e c (Memᴰ.cast (sym here) (Memᴰ.map (neighbour sizes c) own)))

-- ---- the marks for the next step

module _ {sizes : List ℕ} {bounds : Bounds} {backs : List ℕ} {listed : ℕ} {all_open : Bool} {fields : ℕ} {old grid : List ℤ} {marks : List ℕ} where
  pub renewed_some : {marks' : List ℕ} → not all_open ≡ true → Marks sizes bounds backs listed fields old grid marks'
      → Renewed sizes bounds backs listed all_open fields old grid marks marks'
  renewed_some e q = record { is = λ dss w. q.says dss w ∙ ap (λ (b : Bool). cond b marks (marks_of (opened sizes dss fields old grid) (product sizes))) (sym (not-true all_open e)) }

  pub renewed_all : not all_open ≡ false → Renewed sizes bounds backs listed all_open fields old grid marks marks
  renewed_all e = record { is = λ dss w. ap (λ (b : Bool). cond b marks (marks_of (opened sizes dss fields old grid) (product sizes))) (sym (not-false all_open e)) }

-- ---- the open cells of the definition

open_all : (p : Program) (sizes : List ℕ) (o : ℕ → Bool) (old new : List ℤ) → p.timed ≡ true → open_in (running p sizes) o old new ≡ every_cell
unfolding running automaton open_in
open_all p sizes o old new e = fun_ext (λ c. ap (λ (b : Bool). b || (o c || touched (running p sizes) old new c)) e)

-- where no block is set and `time` does not stand in the source, the open cells are those that are pending
touched_self : (p : Program) (sizes : List ℕ) (grid : List ℤ) (c : ℕ) → touched (running p sizes) grid grid c ≡ false
unfolding running automaton touched changed
touched_self p sizes grid c = any_none (λ x. differ (cell_of (length p.fields) grid x) (cell_of (length p.fields) grid x)) (reach_of sizes (reach p) c) (λ x. differ_self (cell_of (length p.fields) grid x))

open_pending : (p : Program) (sizes : List ℕ) (o : ℕ → Bool) (grid : List ℤ) (c : ℕ) → p.timed ≡ false → open_in (running p sizes) o grid grid c ≡ o c
unfolding running automaton open_in
open_pending p sizes o grid c e = ap₂ (λ (a b : Bool). a || (o c || b)) e (touched_self p sizes grid c) ∙ or_no (o c)

timed_is : (p : Program) (sizes : List ℕ) → (running p sizes).timed ≡ p.timed
unfolding running automaton
timed_is p sizes = refl

-- ---- the marks at the beginning

module _ {lent : Bool} {grid : List ℤ} {marks : List ℕ} {t : Bool} (is : t ≡ lent) where
  pub started_lent : t ≡ true → {scratch' : List ℤ} {marks' : List ℕ} → scratch' ≡ grid → marks' ≡ marks_of (marked marks) (length marks) → Started lent grid marks scratch' marks'
  started_lent e s m = record { fresh = λ f. never (sym (is ∙ f) ∙ e); resumed = λ _. (s, m) }

  pub started_all : t ≡ false → {scratch' : List ℤ} {marks' : List ℕ} → marks' ≡ replicate (length marks) 1 → Started lent grid marks scratch' marks'
  started_all e m = record { fresh = λ _. m; resumed = λ f. never (sym e ∙ is ∙ f) }

module _ {words : List ℕ} {rule : Rule} {sizes : List ℕ} {r : Reach} {grid scratch : List ℤ} {marks text : List ℕ} {start steps : ℕ} (begins : Begins words rule sizes r grid scratch marks text start steps)
    (resumed all_open : Bool) {scratch' : List ℤ} {marks' : List ℕ} (started : Started (from_lent resumed all_open) grid marks scratch' marks') where
  -- all cells are marked
  all_marked : from_lent resumed all_open ≡ false → marks' ≡ marks_of every_cell (product sizes)
  all_marked e = started.fresh e ∙ ap (λ (k : ℕ). replicate k 1) begins.marks_fit ∙ all_ones (product sizes)

  -- those with a lent mark are
  some_marked : from_lent resumed all_open ≡ true → marks' ≡ marks_of (marked marks) (product sizes)
  some_marked e = (started.resumed e).1 ∙ ap (marks_of (marked marks)) begins.marks_fit

  not_all : (resumed all_open : Bool) → from_lent resumed all_open ≡ true → all_open ≡ false
  not_all true true e = never e
  not_all true false e = refl
  not_all false all_open e = never e

  pub started_standing : Standing rule sizes all_open grid scratch' marks'
  started_standing = by (from_lent resumed all_open) refl
    where
      by : (b : Bool) → from_lent resumed all_open ≡ b → Standing rule sizes all_open grid scratch' marks'
      by true e = record {
        plain = marks_plain (marked marks) (product sizes) marks' (some_marked e);
        still = λ c l z. ap (λ (g : List ℤ). cell_of rule.fields g c) (started.resumed e).0;
        all_marked = λ a. never (sym (not_all resumed all_open e) ∙ a);
      }
      by false e = record {
        plain = marks_plain every_cell (product sizes) marks' (all_marked e);
        still = λ c l z. absurd (let q = shut every_cell (product sizes) marks' (all_marked e) c l z in let w : ◌≡◌ {A = ℕ} 0 1 = cc in omega arith);
        all_marked = λ _. all_marked e;
      }

  pub started_begun : Begun sizes all_open marks' (pending_in resumed marks)
  started_begun = by resumed all_open refl refl
    where
      same : {o : ℕ → Bool} → marks' ≡ marks_of o (product sizes) → ((c : ℕ) → o c ≡ (all_open || pending_in resumed marks c)) → Begun sizes all_open marks' (pending_in resumed marks)
      same m h = m ∙ marks_ext _ _ (product sizes) (λ c l. h c)

      by : (a b : Bool) → resumed ≡ a → all_open ≡ b → Begun sizes all_open marks' (pending_in resumed marks)
      by true false e f = same (some_marked (rw (e, f))) (λ c. rw (e, f))
      by true true e f = same (all_marked (rw (e, f))) (λ c. rw f)
      by false b e f = same (all_marked (rw e)) (λ c. sym (or_true all_open) ∙ ap (λ (x : Bool). all_open || pending_in x marks c) (sym e))

  -- the run can begin with them
  pub started_begins : length scratch' ≡ length scratch → length marks' ≡ length marks → Begins words rule sizes r grid scratch' marks' text start steps
  started_begins s m = record {
    rule_fits = begins.rule_fits;
    some_dims = begins.some_dims;
    shaped = begins.shaped;
    scratch_fits = s ∙ begins.scratch_fits;
    marks_fit = m ∙ begins.marks_fit;
    near = begins.near;
    sound = begins.sound;
    times = begins.times;
    dimensions = begins.dimensions;
    listed = begins.listed;
  }

-- the entries of a grid are few
entries_few : {cells fields entries : ℕ} → cells * fields ≡ entries → cells ≤ 1048576 → fields ≤ 8 → entries ≤ 8388608
entries_few {cells} {fields} {entries} e a b = omega (arith, mul-le-mul_right fields a)

-- the reach record of a program has the own cell, and is its box if it has as many places
pub runs_sound : {words : List ℕ} {rule : Rule} {r : Reach} {all_open : Bool} {p : Program} → Runs words rule r all_open p → Sound r rule.dims
unfolding reach
runs_sound {words} {rule} {r} {all_open} {p} h = record {
  own = subst₂ (λ (d : ℕ) (dss : List (List ℤ)). Memᴰ (own_place d) dss) h.holds.dims (ap₂ reach_from h.reaches h.lists) (reach_covers p).own;
  full = λ ps e n ds.
      subst (λ (bs : List Bound). Memᴰ ds ps ↔ Memᴰ ds (box_indices bs)) h.reaches
      (places_box p ps (h.lists ∙ e) (n ∙ ap (λ (bs : List Bound). product (map width bs)) (sym h.reaches)) ds);
}

-- the grid can be copied
pub copying : {words : List ℕ} {rule : Rule} {sizes : List ℕ} {r : Reach} {grid scratch : List ℤ} {marks text : List ℕ} {start steps : ℕ} → Begins words rule sizes r grid scratch marks text start steps → Copying grid scratch
copying b = record { alike = b.scratch_fits; few = entries_few b.shaped.entries b.shaped.cells b.rule_fits.fields }

-- the leaf table can be filled, for the sizes of the grid or of the room
pub fill_ready : {words : List ℕ} {rule : Rule} {sizes : List ℕ} {r : Reach} {grid scratch : List ℤ} {marks text : List ℕ} {start steps : ℕ} → Begins words rule sizes r grid scratch marks text start steps
    → {shape : List ℕ} {bands : Bands} {plan : List ℕ} {all_open : Bool} {lent : ℕ} → Making words rule sizes shape bands plan r all_open lent
    → (4 * rule.tokens ≤ length words) × (rule.tokens ≤ 4096) × (length shape ≤ 3) × Positive shape
fill_ready {words} {rule} {sizes} b {shape} {bands} by = (b.rule_fits.table, b.rule_fits.tokens, omega (arith, (each bands.banded refl).0, b.rule_fits.dims), (each bands.banded refl).1)
  where
    each : (t : Bool) → bands.banded ≡ t → (length shape ≡ rule.dims) × Positive shape
    each true e = ((by.by_bands e).roomed.dims, (by.by_bands e).roomed.positive)
    each false e = (ap length (by.whole e) ∙ b.shaped.dims, subst Positive (sym (by.whole e)) b.shaped.positive)

-- the way that the open cells are marked can be set
pub prepared : {words : List ℕ} {rule : Rule} {sizes : List ℕ} {r : Reach} {grid scratch : List ℤ} {marks text : List ℕ} {start steps : ℕ} → Begins words rule sizes r grid scratch marks text start steps
    → Prepared sizes r.bounds
prepared b = record {
  dims = omega (arith, b.shaped.dims, b.rule_fits.dims);
  some_dims = omega (arith, b.shaped.dims, b.some_dims);
  positive = b.shaped.positive;
  cells = b.shaped.cells;
  near = b.near;
}

module _ {words : List ℕ} {rule : Rule} {sizes : List ℕ} {r : Reach} {grid₀ scratch₀ : List ℤ} {marks₀ text : List ℕ} {start steps : ℕ}
    (begins : Begins words rule sizes r grid₀ scratch₀ marks₀ text start steps) where
  -- ---- the index vectors of the reach

  module _ {backs : List ℕ} {listed : ℕ} (way : WayOf sizes r backs listed) where
    sound : Sound r (length sizes)
    sound = subst (Sound r) (sym begins.shaped.dims) begins.sound

    ways : Ways sizes r.bounds backs listed (indices_of r (length sizes))
    ways = way.ways sound

    -- they are the program's reach
    reach_is : {all_open : Bool} (p : Program) → Runs words rule r all_open p → indices_of r (length sizes) ≡ reach p
    unfolding reach
    reach_is p runs = ap (indices_of r) begins.shaped.dims ∙ sym (ap₂ reach_from runs.reaches runs.lists)

    -- the cells with a change in their reach, by the code and by the definition
    opened_is : {all_open : Bool} (p : Program) → Runs words rule r all_open p → (old new : List ℤ) (c : ℕ) → opened sizes (indices_of r (length sizes)) rule.fields old new c ≡ touched (running p sizes) old new c
    opened_is p runs old new c = ap₂ (λ (ds : List (List ℤ)) (f : ℕ). opened sizes ds f old new c) (reach_is p runs) (sym (held_fields p runs.holds)) ∙ sym (pending_is p sizes old new c)

    not_changed : (old new : List ℤ) (c : ℕ) → c < product sizes → opened sizes (indices_of r (length sizes)) rule.fields old new c ≡ false → cell_of rule.fields old c ≡ cell_of rule.fields new c
    not_changed = not_opened sizes (indices_of r (length sizes)) ways.alike begins.shaped.positive rule.fields sound.own

module _ {words : List ℕ} {rule : Rule} {sizes : List ℕ} {r : Reach} {all_open : Bool} {grid₀ scratch₀ : List ℤ} {marks₀ text : List ℕ} {start steps : ℕ}
    (begins : Begins words rule sizes r grid₀ scratch₀ marks₀ text start steps) where
  -- ---- at the start

  pub start_underway : Standing rule sizes all_open grid₀ scratch₀ marks₀ → Underway words rule sizes r all_open text grid₀ marks₀ start steps 0 0 grid₀ scratch₀ marks₀
  unfolding open_in
  start_underway s =
      record {
        so_far = record { few_steps = omega arith; few_cells = omega arith; grid_size = refl; scratch_size = begins.scratch_fits; marks_size = begins.marks_fit; standing = s };
        goes = record {
          is = λ p runs o e. (
            o,
            e ∙ marks_ext _ _ (product sizes) (λ c l. ap₂ (λ (a b : Bool). a || b) (sym runs.timed ∙ sym (timed_is p sizes)) (sym (or_no (o c)) ∙ ap (λ (b : Bool). o c || b) (sym (touched_self p sizes grid₀ c)))),
            going_start (running p sizes) (blocks_in sizes rule text) o steps start grid₀,
          );
        };
      }

  -- ---- the block is set

  module _ {done count : ℕ} {grid scratch : List ℤ} {marks : List ℕ} (now : Underway words rule sizes r all_open text grid₀ marks₀ start steps done count grid scratch marks) where
    pub settable : {backs : List ℕ} {listed : ℕ} {next : Next} → WayOf sizes r backs listed → Follows sizes rule.fields text (start + done) next
        → Settable text sizes r.bounds backs listed rule.fields grid scratch marks next
    settable way f =
        record {
          within = follows_within f;
          dimensions = begins.dimensions;
          scratch_fits = now.so_far.scratch_size ∙ sym now.so_far.grid_size;
          markable = λ old new a b. record {
            prepared = prepared begins;
            led = way.led;
            few = begins.rule_fits.fields;
            old_fits = a ∙ now.so_far.grid_size ∙ sym begins.shaped.entries;
            grid_fits = b ∙ now.so_far.grid_size ∙ sym begins.shaped.entries;
            marks_fit = now.so_far.marks_size;
          };
          few_fields = begins.rule_fits.fields;
          few_entries = rw now.so_far.grid_size (entries_few begins.shaped.entries begins.shaped.cells begins.rule_fits.fields);
        }

    module _ {backs : List ℕ} {listed : ℕ} (way : WayOf sizes r backs listed) {next next' : Next} (f : Follows sizes rule.fields text (start + done) next) {grid' scratch' : List ℤ} {marks' : List ℕ}
        (set : DueSet text sizes r.bounds backs listed all_open rule.fields grid scratch marks (start + done) next next' grid' scratch' marks') (grid_kept : length grid' ≡ length grid) where
      pub record BlockSet : Type 0 where
        pub placed : BlockPlaced words rule sizes r all_open text grid₀ marks₀ start steps done count grid' scratch' marks'
        pub follows : Follows sizes rule.fields text (start + done + 1) next'

      had : Halfway rule sizes all_open (length grid₀) steps done count grid scratch marks
      had = now.so_far

      -- no block is due
      stays : is_due next (start + done) ≡ false → BlockSet
      stays e =
          let same = set.stays e in
          let on = follows_stay f e in
          record {
            placed = subst (λ (m : List ℕ). BlockPlaced words rule sizes r all_open text grid₀ marks₀ start steps done count grid' scratch' m) (sym same.3)
                (subst₂ (λ (g s : List ℤ). BlockPlaced words rule sizes r all_open text grid₀ marks₀ start steps done count g s marks) (sym same.1) (sym same.2)
                (record { so_far = had; before = grid; set_is = sym (on.0 grid); goes = now.goes }));
            follows = subst (Follows sizes rule.fields text (start + done + 1)) (sym same.0) on.1;
          }

      module _ (e : is_due next (start + done) ≡ true) where
        moved : (set_block sizes rule.fields text (start + done) grid ≡ grid') × Follows sizes rule.fields text (start + done + 1) next'
        moved = let s = set.sets e in follows_set f e s.1 s.2

        -- it is set, and all cells are open
        all_set : all_open ≡ true → BlockSet
        all_set a =
            let same = set.stands e a in
            let is : marks' ≡ marks_of every_cell (product sizes) = same.1 ∙ had.standing.all_marked a in
            record {
              placed = record {
                so_far = record {
                  few_steps = had.few_steps;
                  few_cells = had.few_cells;
                  grid_size = grid_kept ∙ had.grid_size;
                  scratch_size = ap length same.0 ∙ had.scratch_size;
                  marks_size = ap length same.1 ∙ had.marks_size;
                  standing = record {
                    plain = marks_plain every_cell (product sizes) marks' is;
                    still = λ c l z. absurd (let v = shut every_cell (product sizes) marks' is c l z in let w : ◌≡◌ {A = ℕ} 0 1 = cc in omega arith);
                    all_marked = λ _. is;
                  };
                };
                before = grid;
                set_is = sym moved.0;
                goes = record {
                  is = λ p runs o b.
                      let g = now.goes.is p runs o b in (
                        g.0,
                        is ∙ ap (λ (o : ℕ → Bool). marks_of o (product sizes)) (sym (open_all p sizes g.0 grid grid' (runs.timed ∙ a))),
                        g.2,
                      );
                };
              };
              follows = moved.1;
            }

        -- it is set, and the cells that it opens are marked
        some_set : all_open ≡ false → BlockSet
        unfolding open_in
        some_set a =
            let both = set.opens e a in
            let is : marks' ≡ marks_of (λ c. marked marks c || opened sizes (indices_of r (length sizes)) rule.fields grid grid' c) (product sizes) = both.1.says (indices_of r (length sizes)) (ways begins way) in
            record {
              placed = record {
                so_far = record {
                  few_steps = had.few_steps;
                  few_cells = had.few_cells;
                  grid_size = grid_kept ∙ had.grid_size;
                  scratch_size = ap length both.0 ∙ had.grid_size;
                  marks_size = ap length is ∙ marks_length _ (product sizes);
                  standing = record {
                    plain = marks_plain _ (product sizes) marks' is;
                    still = λ c l z. ap (λ (g : List ℤ). cell_of rule.fields g c) both.0 ∙ not_changed begins way grid grid' c l (or_right (marked marks c) (shut _ (product sizes) marks' is c l z));
                    all_marked = λ t. never (sym a ∙ t);
                  };
                };
                before = grid;
                set_is = sym moved.0;
                goes = record { is = λ p runs o b. let g = now.goes.is p runs o b in (g.0, is ∙ same_marks p runs g.0 g.1, g.2) };
              };
              follows = moved.1;
            }
          where
            or_right : (x : Bool) {y : Bool} → (x || y) ≡ false → y ≡ false
            or_right true q = never (sym q)
            or_right false q = q

            same_marks : (p : Program) → Runs words rule r all_open p → (o : ℕ → Bool) → marks ≡ marks_of (open_in (running p sizes) o grid grid) (product sizes)
                → marks_of (λ c. marked marks c || opened sizes (indices_of r (length sizes)) rule.fields grid grid' c) (product sizes) ≡ marks_of (open_in (running p sizes) o grid grid') (product sizes)
            same_marks p runs o m = marks_ext _ _ (product sizes)
                (λ c l. ap₂ (λ (x y : Bool). x || y)
                (ap (λ (ms : List ℕ). marked ms c) m ∙ marked_marks_of (open_in (running p sizes) o grid grid) (product sizes) c l ∙ open_pending p sizes o grid c (runs.timed ∙ a))
                (opened_is begins way p runs grid grid' c)
                ∙ ap (λ (b : Bool). b || (o c || touched (running p sizes) grid grid' c)) (sym (timed_is p sizes ∙ runs.timed ∙ a)))

      pub block_set : BlockSet
      block_set = by (is_due next (start + done)) refl
        where
          by : (b : Bool) → is_due next (start + done) ≡ b → BlockSet
          by false e = stays e
          by true e = open_or all_open refl
            where
              open_or : (a : Bool) → all_open ≡ a → BlockSet
              open_or true a = all_set e a
              open_or false a = some_set e a

  module _ {done count : ℕ} {grid scratch : List ℤ} {marks : List ℕ} (now : BlockPlaced words rule sizes r all_open text grid₀ marks₀ start steps done count grid scratch marks) where
    so : Halfway rule sizes all_open (length grid₀) steps done count grid scratch marks
    so = now.so_far

    -- ---- a step can be done

    pub step_ready : {leaves : List ℕ} → Leaves leaves words sizes rule.tokens rule.fields rule.slots → done < steps → stepping.StepReady leaves words rule sizes grid scratch marks (start + done) count
    step_ready noted more =
        record {
          rule_fits = begins.rule_fits;
          shaped = subst (Shaped rule.dims rule.fields most_cells sizes) (sym so.grid_size) begins.shaped;
          scratch_fits = so.scratch_size ∙ sym so.grid_size;
          marks_fit = so.marks_size;
          small = omega (arith, begins.times);
          room = omega (arith, so.few_cells, so.few_steps, begins.times, begins.shaped.cells);
          noted = noted;
        }

    -- of the whole grid, or by bands
    pub steppable : {leaves shape plan : List ℕ} {bands : Bands} {lent : ℕ} → Leaves leaves words shape rule.tokens rule.fields rule.slots → Making words rule sizes shape bands plan r all_open lent → done < steps
        → Steppable leaves words rule sizes shape bands plan grid scratch lent marks (start + done) count
    steppable {leaves} noted by more =
        record {
          whole = λ e. step_ready (subst (λ (s : List ℕ). Leaves leaves words s rule.tokens rule.fields rule.slots) (by.whole e) noted) more;
          by_bands = λ e.
              let b = by.by_bands e in (
                record {
                  rule_fits = begins.rule_fits;
                  shaped = subst (Shaped rule.dims rule.fields most_cells sizes) (sym so.grid_size) begins.shaped;
                  some_dims = omega (arith, begins.shaped.dims, begins.some_dims);
                  row_is = b.row_is;
                  near = b.near;
                  scratch_fits = so.scratch_size ∙ sym so.grid_size;
                  roomed = b.roomed;
                  room_dims = omega (arith, b.roomed.dims, begins.some_dims);
                  alike = b.alike;
                  small = omega (arith, begins.times);
                  noted = noted;
                },
                record { right = b.right; countable = omega (arith, so.few_cells, so.few_steps, begins.times, begins.shaped.cells) },
                record {
                  marks_fit = so.marks_size;
                  all = λ c l. ap (λ (ms : List ℕ). marked ms c) (so.standing.all_marked b.all) ∙ marked_marks_of every_cell (product sizes) c l;
                },
              );
        }

    -- ---- the last step

    pub ends : done ≡ steps → RanMarked words rule sizes r all_open text start steps grid₀ marks₀ (without_fault steps count) grid marks
    ends e = record { from = λ o b. record { says = λ p runs. ap report_in (sym (is o b p runs)); stand = λ p runs. ap (λ (q : Quiet (List ℤ)). q.marks) (sym (is o b p runs)) } }
      where
        is : (o : ℕ → Bool) → Begun sizes all_open marks₀ o → (p : Program) → Runs words rule r all_open p
            → steps_give p sizes (blocks_in sizes rule text) o steps start grid₀ ≡ record { run = record { fault = no_fault; steps = steps; grid = grid }; count = count; marks = marks }
        is o b p runs =
            let g = now.goes.is p runs o b in
            going_done (running p sizes) (blocks_in sizes rule text) o steps start grid₀ g.2 grid now.set_is marks (unfold running automaton in g.1) e

    module _ (more : done < steps) where
      -- ---- a step that faults

      pub stops : {said : Step} {f : CellFault} {grid' scratch' : List ℤ} {marks' : List ℕ} → SteppedFor (Runs words rule r all_open) rule sizes grid scratch marks (start + done) count said grid' scratch' → said.outcome ≡ Err f
          → marks' ≡ replicate (length marks) 0
          → RanMarked words rule sizes r all_open text start steps grid₀ marks₀ (record { number = f.fault.number; place = f.fault.place; line = 0; cell = f.cell; steps = done; count = said.count }) grid' marks'
      stops {said} {f} {grid'} {scratch'} {marks'} s e cleared =
          record { from = λ o b. record { says = λ p runs. report_is o b p runs; stand = λ p runs. none p ∙ ap (λ (q : Quiet (List ℤ)). q.marks) (sym (is o b p runs)) } }
        where
          none : (p : Program) → marks' ≡ marks_of no_cell (running p sizes).cells
          none p = unfold running automaton in cleared ∙ ap (λ (n : ℕ). replicate n 0) so.marks_size ∙ all_alike false (product sizes)

          is : (o : ℕ → Bool) → Begun sizes all_open marks₀ o → (p : Program) (runs : Runs words rule r all_open p)
              → steps_give p sizes (blocks_in sizes rule text) o steps start grid₀ ≡ record { run = record { fault = fault_at f.cell f.fault.number f.fault.place; steps = done; grid = (quiet_step (running p sizes) marks grid (start + done)).grid }; count = count + (quiet_step (running p sizes) marks grid (start + done)).count; marks = marks_of no_cell (running p sizes).cells }
          is o b p runs =
              let g = now.goes.is p runs o b in
              going_stop (running p sizes) (blocks_in sizes rule text) o steps start grid₀ g.2 grid now.set_is marks (unfold running automaton in g.1) more f.cell f.fault.number f.fault.place (sym (s.fault p runs) ∙ ap fault_told e)

          report_is : (o : ℕ → Bool) → Begun sizes all_open marks₀ o → (p : Program) (runs : Runs words rule r all_open p)
              → told (record { number = f.fault.number; place = f.fault.place; line = 0; cell = f.cell; steps = done; count = said.count }) grid' ≡ report_in (steps_give p sizes (blocks_in sizes rule text) o steps start grid₀)
          report_is o b p runs =
              (λ i. record { number = f.fault.number; place = f.fault.place; line = 0; cell = f.cell; steps = done; count = s.count_is p runs i; grid = s.grid_is p runs i })
              ∙ ap report_in (sym (is o b p runs))

      -- ---- a step that does not

      module _ {said : Step} {whole : ⊤} {grid' scratch' : List ℤ} (s : SteppedFor (Runs words rule r all_open) rule sizes grid scratch marks (start + done) count said grid' scratch') (is_done : said.outcome ≡ Ok whole) where
        chosen : ℕ → Bool → List ℤ
        chosen c b = cond b (cell_of rule.fields grid c) (cell_of rule.fields scratch c)

        -- scratch has the old fields of every cell
        old_cell : (c : ℕ) → c < product sizes → cell_of rule.fields scratch' c ≡ cell_of rule.fields grid c
        unfolding chosen
        old_cell c l = by (marked marks c) refl
          where
            by : (b : Bool) → marked marks c ≡ b → cell_of rule.fields scratch' c ≡ cell_of rule.fields grid c
            by true e = s.old (ap fault_told is_done) c l ∙ ap (chosen c) e
            by false e = s.old (ap fault_told is_done) c l ∙ ap (chosen c) e ∙ so.standing.still c l (marked_is false marks c e refl)

        pub mark_ready : {backs : List ℕ} {listed : ℕ} → WayOf sizes r backs listed → marking.MarksReady sizes r.bounds backs listed rule.fields scratch' grid' marks
        mark_ready way =
            record {
              markable = record {
                prepared = prepared begins;
                led = way.led;
                few = begins.rule_fits.fields;
                old_fits = s.scratch_size ∙ so.scratch_size ∙ sym begins.shaped.entries;
                grid_fits = s.grid_size ∙ so.grid_size ∙ sym begins.shaped.entries;
                marks_fit = so.marks_size;
              };
              plain = so.standing.plain;
              still = λ c l z. old_cell c l ∙ sym (s.kept c l (is_unmarked marks c z));
            }

        module _ {backs : List ℕ} {listed : ℕ} (way : WayOf sizes r backs listed) {marks' : List ℕ} (renewed : Renewed sizes r.bounds backs listed all_open rule.fields scratch' grid' marks marks') where
          -- by whether all cells are open: the marks, and what a cell with mark 0 has in scratch
          record Renewal : Type 0 where
            pub size : length marks' ≡ product sizes
            pub plain : (c : ℕ) → c < product sizes → get_or marks' c 0 ≤ 1
            pub still : (c : ℕ) → c < product sizes → get_or marks' c 0 ≡ 0 → cell_of rule.fields scratch' c ≡ cell_of rule.fields grid' c
            pub all : all_open ≡ true → marks' ≡ marks_of every_cell (product sizes)
            pub opens : (p : Program) → Runs words rule r all_open p → marks' ≡ marks_of (open_in (running p sizes) (touched (running p sizes) grid grid') grid' grid') (product sizes)

          next : Renewal
          next = by all_open refl (renewed.is (indices_of r (length sizes)) (ways begins way))
            where
              by : (b : Bool) → all_open ≡ b → marks' ≡ cond b marks (marks_of (opened sizes (indices_of r (length sizes)) rule.fields scratch' grid') (product sizes)) → Renewal
              by true e q =
                  let is : marks' ≡ marks_of every_cell (product sizes) = q ∙ so.standing.all_marked e in
                  record {
                    size = ap length is ∙ marks_length every_cell (product sizes);
                    plain = marks_plain every_cell (product sizes) marks' is;
                    still = λ c l z. absurd (let v = shut every_cell (product sizes) marks' is c l z in let w : ◌≡◌ {A = ℕ} 0 1 = cc in omega arith);
                    all = λ _. is;
                    opens = λ p runs. is ∙ ap (λ (o : ℕ → Bool). marks_of o (product sizes)) (sym (open_all p sizes (touched (running p sizes) grid grid') grid' grid' (runs.timed ∙ e)));
                  }
              by false e q =
                  record {
                    size = ap length q ∙ marks_length _ (product sizes);
                    plain = marks_plain _ (product sizes) marks' q;
                    still = λ c l z. not_changed begins way scratch' grid' c l (shut _ (product sizes) marks' q c l z);
                    all = λ t. never (sym e ∙ t);
                    opens = λ p runs. q ∙ same_marks p runs;
                  }
                where
                  same_marks : (p : Program) → Runs words rule r all_open p → marks_of (opened sizes (indices_of r (length sizes)) rule.fields scratch' grid') (product sizes) ≡ marks_of (open_in (running p sizes) (touched (running p sizes) grid grid') grid' grid') (product sizes)
                  same_marks p runs = marks_ext _ _ (product sizes)
                      (λ c l. opened_same sizes (indices_of r (length sizes)) (ways begins way).alike begins.shaped.positive rule.fields scratch' grid grid' old_cell c l
                      ∙ opened_is begins way p runs grid grid' c
                      ∙ sym (open_pending p sizes (touched (running p sizes) grid grid') grid' c (runs.timed ∙ e)))

          one_more : Underway words rule sizes r all_open text grid₀ marks₀ start steps (suc done) said.count grid' scratch' marks'
          one_more =
              record {
                so_far = record {
                  few_steps = more;
                  few_cells = omega (arith, s.counted, so.few_cells, begins.shaped.cells);
                  grid_size = s.grid_size ∙ so.grid_size;
                  scratch_size = s.scratch_size ∙ so.scratch_size;
                  marks_size = next.size;
                  standing = record { plain = next.plain; still = next.still; all_marked = next.all };
                };
                goes = record {
                  is = λ p runs o b.
                      let M = running p sizes in
                      let g = now.goes.is p runs o b in (
                        touched M grid grid',
                        next.opens p runs,
                        going_on M (blocks_in sizes rule text) o steps start grid₀ g.2 grid now.set_is marks (unfold running automaton in g.1) more said.count grid' (sym (s.fault p runs) ∙ ap fault_told is_done) (s.grid_is p runs) (s.count_is p runs),
                      );
                };
              }

          pub again : Underway words rule sizes r all_open text grid₀ marks₀ start steps (done + 1) said.count grid' scratch' marks'
          again = rw (add-one done) one_more

-- ---- one turn of the loop: the block is set, and then the step is done

-- ---- one step, of the whole grid or by bands

-- what a step tells, by whether it is made of bands
pub step_by : (b : Bool) (bands : Bands) (words : List ℕ) {rule : Rule} {sizes : List ℕ} {grid scratch : List ℤ} {marks : List ℕ} {time count : ℕ} {said : Step} {grid' scratch' : List ℤ} → bands.banded ≡ b
    → SteppedFor (ToldBy b words rule (border_in bands)) rule sizes grid scratch marks time count said grid' scratch'
    → SteppedFor (ToldBy bands.banded words rule (border_in bands)) rule sizes grid scratch marks time count said grid' scratch'
step_by b bands words {rule} {sizes} {grid} {scratch} {marks} {time} {count} {said} {grid'} {scratch'} e told =
    subst (λ (t : Bool). SteppedFor (ToldBy t words rule (border_in bands)) rule sizes grid scratch marks time count said grid' scratch') (sym e) told

-- a run whose steps are of the whole grid asks no more
pub making_whole : {words : List ℕ} {rule : Rule} {sizes : List ℕ} {bands : Bands} {plan : List ℕ} {r : Reach} {all_open : Bool} {lent : ℕ} → bands.banded ≡ false → Making words rule sizes sizes bands plan r all_open lent
making_whole e = record { whole = λ _. refl; by_bands = λ t. never (sym e ∙ t) }

-- a run tells of its program what its steps tell
pub told_by : {words : List ℕ} {rule : Rule} {sizes shape : List ℕ} {bands : Bands} {plan : List ℕ} {r : Reach} {all_open : Bool} {lent : ℕ} → Making words rule sizes shape bands plan r all_open lent
    → (p : Program) → Runs words rule r all_open p → ToldBy bands.banded words rule (border_in bands) p
told_by {words} {rule} {sizes} {shape} {bands} by p runs = each bands.banded refl
  where
    each : (b : Bool) → bands.banded ≡ b → ToldBy b words rule (border_in bands) p
    each true e = record { holds = runs.holds; flagged = runs.flagged; border_is = (by.by_bands e).borders p runs }
    each false e = runs.holds

-- what holds at the head of the loop
pub record Looping (words : List ℕ) (rule : Rule) (sizes : List ℕ) (r : Reach) (all_open : Bool) (text : List ℕ) (grid₀ scratch₀ : List ℤ) (marks₀ : List ℕ) (start steps : ℕ) (leaves backs : List ℕ)
    (listed : ℕ) (shape : List ℕ) (bands : Bands) (plan : List ℕ) (lent : ℕ) (next : Next) (done count : ℕ) (grid scratch : List ℤ) (marks : List ℕ) : Type 0 where
  pub begins : Begins words rule sizes r grid₀ scratch₀ marks₀ text start steps
  pub underway : Underway words rule sizes r all_open text grid₀ marks₀ start steps done count grid scratch marks
  pub follows : Follows sizes rule.fields text (start + done) next
  pub noted : Leaves leaves words shape rule.tokens rule.fields rule.slots
  pub by : Making words rule sizes shape bands plan r all_open lent
  pub way : WayOf sizes r backs listed

module _ {words : List ℕ} {rule : Rule} {sizes : List ℕ} {r : Reach} {all_open : Bool} {grid₀ scratch₀ : List ℤ} {marks₀ text : List ℕ} {start steps : ℕ} {leaves backs : List ℕ} {listed : ℕ} {shape : List ℕ} {bands : Bands} {plan : List ℕ} {lent : ℕ} where
  pub loop_start : Begins words rule sizes r grid₀ scratch₀ marks₀ text start steps → Standing rule sizes all_open grid₀ scratch₀ marks₀ → Leaves leaves words shape rule.tokens rule.fields rule.slots
      → WayOf sizes r backs listed → Making words rule sizes shape bands plan r all_open lent → {next : Next} → NextTime text 0 next
      → Looping words rule sizes r all_open text grid₀ scratch₀ marks₀ start steps leaves backs listed shape bands plan lent next 0 0 grid₀ scratch₀ marks₀
  loop_start b s l w m {next} n = record {
    begins = b;
    underway = start_underway b s;
    follows = subst (λ (t : ℕ). Follows sizes rule.fields text t next) (sym (add-zero start)) (follows_start rule.fields b.listed n);
    noted = l;
    by = m;
    way = w;
  }

  module _ {next : Next} {done count : ℕ} {grid scratch : List ℤ} {marks : List ℕ}
      (now : Looping words rule sizes r all_open text grid₀ scratch₀ marks₀ start steps leaves backs listed shape bands plan lent next done count grid scratch marks) where
    pub loop_settable : Settable text sizes r.bounds backs listed rule.fields grid scratch marks next
    loop_settable = settable now.begins now.underway now.way now.follows

    module _ {next' : Next} {grid' scratch' : List ℤ} {marks' : List ℕ}
        (set : DueSet text sizes r.bounds backs listed all_open rule.fields grid scratch marks (start + done) next next' grid' scratch' marks') (kept : length grid' ≡ length grid) where
      after : BlockSet now.begins now.underway now.way now.follows set kept
      after = block_set now.begins now.underway now.way now.follows set kept

      pub placed_grid : length grid' ≡ length grid₀
      placed_grid = after.placed.so_far.grid_size

      pub placed_scratch : length scratch' ≡ length scratch₀
      placed_scratch = after.placed.so_far.scratch_size ∙ sym now.begins.scratch_fits

      pub placed_marks : length marks' ≡ length marks₀
      placed_marks = after.placed.so_far.marks_size ∙ sym now.begins.marks_fit

      pub loop_ends : done ≡ steps → {said : Report} → said ≡ without_fault steps count → RanMarked words rule sizes r all_open text start steps grid₀ marks₀ said grid' marks'
      loop_ends e {said} q = subst (λ (x : Report). RanMarked words rule sizes r all_open text start steps grid₀ marks₀ x grid' marks') (sym q) (ends now.begins after.placed e)

      module _ (other : done ≡ steps → ⊥) where
        more : done < steps
        more = below done steps now.underway.so_far.few_steps other
          where
            below : (d n : ℕ) → d ≤ n → (d ≡ n → ⊥) → d < n
            below d n l o = omega (arith, l, o)

        pub loop_step : {lent' : ℕ} → lent' ≡ lent → Steppable leaves words rule sizes shape bands plan grid' scratch' lent' marks' (start + done) count
        loop_step e = subst (λ (n : ℕ). Steppable leaves words rule sizes shape bands plan grid' scratch' n marks' (start + done) count) (sym e) (steppable now.begins after.placed now.noted now.by more)

        module _ {said : Step} {grid'' scratch'' : List ℤ} (told : SteppedFor (ToldBy bands.banded words rule (border_in bands)) rule sizes grid' scratch' marks' (start + done) count said grid'' scratch'') where
          stepped : SteppedFor (Runs words rule r all_open) rule sizes grid' scratch' marks' (start + done) count said grid'' scratch''
          stepped = stepped_of (told_by now.by) told

          pub loop_stops : {f : CellFault} → said.outcome ≡ Err f → {marks'' : List ℕ} → marks'' ≡ replicate (length marks') 0
              → RanMarked words rule sizes r all_open text start steps grid₀ marks₀ (record { number = f.fault.number; place = f.fault.place; line = 0; cell = f.cell; steps = done; count = said.count }) grid'' marks''
          loop_stops e m = stops now.begins after.placed more stepped e m

          module _ {whole : ⊤} (e : said.outcome ≡ Ok whole) where
            pub loop_mark : marking.MarksReady sizes r.bounds backs listed rule.fields scratch'' grid'' marks'
            loop_mark = mark_ready now.begins after.placed more stepped e now.way

            pub loop_again : {marks'' : List ℕ} → Renewed sizes r.bounds backs listed all_open rule.fields scratch'' grid'' marks' marks''
                → Looping words rule sizes r all_open text grid₀ scratch₀ marks₀ start steps leaves backs listed shape bands plan lent next' (done + 1) said.count grid'' scratch'' marks''
            loop_again renewed = record {
              begins = now.begins;
              underway = again now.begins after.placed more stepped e now.way renewed;
              follows = subst (λ (t : ℕ). Follows sizes rule.fields text t next') (add_assoc start done 1) after.follows;
              noted = now.noted;
              by = now.by;
              way = now.way;
            }
