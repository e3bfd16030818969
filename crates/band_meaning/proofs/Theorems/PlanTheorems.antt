-- What the planner writes is accepted by the plan check, and its bands are, in turn, as long as can be; it replies 59 exactly if no plan is accepted.
use Prim.Native.Nat.{ℕ, ◌+◌, ◌*◌, ◌≤◌, ◌<◌}
use native.Mathlib.Omega.{arith}
use mathlib.Core.Path.{◌≡◌, refl, sym, ap, ap₂, ◌∙◌, subst}
use mathlib.Core.Logic.{◌⊎◌, inl, inr}
use mathlib.Core.Bool.{Bool, true, false, not, ◌&&◌}
use mathlib.Core.List.{List, [], ◌∷◌}
use mathlib.Core.Option.{Option, none, some}
use lib.ListN.{length, take, drop}
use lib.Seq.{take_at, drop_at}
use lib.Dec.{eqb, leb}
use borrow.Author.Tests.{eqb-true, eqb-false, eq-eqb, leb-true, lt-ltb}
use Rattle.value.proofs.Theorems.Laws.{never, and_both}
use Rattle.std.specs.Prelude.{if◌then◌else◌}
use Rattle.automaton.specs.Shape.{Bound, product}
use Rattle.automaton.specs.Bands.{Band, accepts, plannable, longest, plan_of}
use Rattle.automaton.proofs.Theorems.BandLaws.{plan_accepted, plan_needs, AsLong, plan_longest, plan_short}
use Rattle.program.specs.Syntax.{Program}
use Rattle.grammar.specs.Source.{Accepted}
use Rattle.grammar.specs.Checking.{SourceRead, turned_away, refused, accepted, read_source, reply_of, check}
use Rattle.read_refusals.proofs.Theorems.Replies.{zero_accepts}
use Rattle.cell_meaning.specs.Written.{written_in}
use Rattle.program.specs.Refusal.{Refusal, refusal}
use Rattle.run_meaning.specs.Admission.{all_between, good_sizes, too_far}
use Rattle.run_calls.proofs.Theorems.AcceptedSources.{accepted_declared}
use Rattle.band_meaning.specs.Edge.{edge}
use Rattle.band_meaning.specs.OnSizes.{OnGrid, no_grid, on_grid, on_sizes, by_grid}
use Rattle.band_meaning.specs.Plans.{rows, before_others, bands_in, entries_of, accepts_some, plan_right, plan_fits, check_plan, Planned, unplanned, put_plan, planned}
use Rattle.band_meaning.specs.PlanCalls.{check_plan_source, planned_source}

-- ---- entries

pub length_entries : (bs : List Band) → length (entries_of bs) ≡ 2 * length bs
unfolding entries_of
length_entries [] = refl
length_entries (b ∷ bs) = omega (arith, length_entries bs)

-- the entries of bands are read as these bands
pub bands_entries : (bs : List Band) → bands_in (entries_of bs) ≡ some bs
unfolding bands_in entries_of
bands_entries [] = refl
bands_entries (b ∷ bs) = ap (before_others b) (bands_entries bs)

-- the plan that the planner leaves at the front of its room
abbrev pub plan_in : Planned → List ℕ
plan_in r = take (2 * r.bands) r.room

module _ (bs : List Band) (room : List ℕ) where
  pub put_front : plan_in (put_plan bs room) ≡ entries_of bs
  unfolding put_plan
  put_front = take_at (entries_of bs) (drop (length (entries_of bs)) room) (2 * length bs) (length_entries bs)

  pub put_rest : drop (2 * (put_plan bs room).bands) (put_plan bs room).room ≡ drop (2 * (put_plan bs room).bands) room
  unfolding put_plan
  put_rest = drop_at (entries_of bs) (drop (length (entries_of bs)) room) (2 * length bs) (length_entries bs) ∙ ap (λ (n : ℕ). drop n room) (length_entries bs)

-- ---- a program

-- what the planner has found where it replies 0: the accepted plan whose bands are, in turn, as long as can be, and the room's rest as it was
pub record Found (p : Program) (sizes : List ℕ) (held : ℕ) (room : List ℕ) (r : Planned) : Type 0 where
  pub bands_are : List Band
  pub many : length bands_are ≡ r.bands
  pub few : r.bands ≤ rows sizes
  pub are : bands_in (plan_in r) ≡ some bands_are
  pub fits : plan_fits p sizes held (plan_in r) ≡ true
  pub longest : (plan : List ℕ) (others : List Band) → bands_in plan ≡ some others → plan_fits p sizes held plan ≡ true → AsLong bands_are others
  pub rest : drop (2 * r.bands) r.room ≡ drop (2 * r.bands) room

module _ (p : Program) (sizes : List ℕ) (held : ℕ) where
  -- a plan that is accepted has bands
  fits_bands : (plan : List ℕ) → plan_fits p sizes held plan ≡ true → (bs : List Band) × (bands_in plan ≡ some bs) × (accepts (rows sizes) (edge p) held bs ≡ true)
  unfolding plan_fits plan_right
  fits_bands plan e = by (bands_in plan) refl e
    where
      by : (o : Option (List Band)) → bands_in plan ≡ o → accepts_some (rows sizes) (edge p) held o ≡ true → (bs : List Band) × (bands_in plan ≡ some bs) × (accepts (rows sizes) (edge p) held bs ≡ true)
      by none q e = never e
      by (some bs) q e = (bs, q, e)

  pub bands_fit : (plan : List ℕ) (bs : List Band) → bands_in plan ≡ some bs → plan_fits p sizes held plan ≡ accepts (rows sizes) (edge p) held bs
  unfolding plan_fits plan_right
  bands_fit plan bs e = ap (accepts_some (rows sizes) (edge p) held) e

  found_by : (room : List ℕ) → plannable (edge p) held ≡ true → Found p sizes held room (put_plan (plan_of (rows sizes) (edge p) held) room)
  unfolding put_plan plan_of
  found_by room e =
      let bs = plan_of (rows sizes) (edge p) held in
      let front : plan_in (put_plan bs room) ≡ entries_of bs = put_front bs room in
      let are : bands_in (plan_in (put_plan bs room)) ≡ some bs = ap bands_in front ∙ bands_entries bs in
      record {
        bands_are = bs;
        many = refl;
        few = plan_short _ _ _ _;
        are = are;
        fits = bands_fit _ bs are ∙ plan_accepted (rows sizes) (edge p) held e;
        longest = λ plan others q f. plan_longest (rows sizes) (edge p) held others (sym (bands_fit plan others q) ∙ f);
        rest = put_rest bs room;
      }

  -- the planner's replies, by the three tests
  abbrev planned_by : List ℕ → Bool → Bool → Bool → Planned
  planned_by room a b c =
      let far = too_far sizes (written_in p) in
      if not a then unplanned 21 0 room
      else if not b then unplanned far.number far.place room
      else if not c then unplanned 59 0 room
      else put_plan (plan_of (rows sizes) (edge p) held) room

  abbrev checked_by : Bool → Bool → Refusal
  checked_by b c =
      let far = too_far sizes (written_in p) in
      if not b then far
      else if c then refusal 0 0
      else refusal 60 0

  pub check_is : (plan : List ℕ) {b c : Bool} → eqb (too_far sizes (written_in p)).number 0 ≡ b → plan_fits p sizes held plan ≡ c → check_plan p sizes held plan ≡ checked_by b c
  unfolding check_plan
  check_is plan e f = ap₂ checked_by e f

  pub planned_is : (room : List ℕ) {a b c : Bool} → eqb (length room) (2 * rows sizes) ≡ a → eqb (too_far sizes (written_in p)).number 0 ≡ b → plannable (edge p) held ≡ c
      → planned p sizes held room ≡ planned_by room a b c
  unfolding planned
  planned_is room d e f = λ i. planned_by room (d i) (e i) (f i)

  -- the check replies 0 where no index is too far and the plan is accepted
  pub check_zero : (plan : List ℕ) → (check_plan p sizes held plan).number ≡ 0 → ((too_far sizes (written_in p)).number ≡ 0) × (plan_fits p sizes held plan ≡ true)
  check_zero plan z = by (eqb (too_far sizes (written_in p)).number 0) refl (plan_fits p sizes held plan) refl
    where
      by : (b : Bool) → eqb (too_far sizes (written_in p)).number 0 ≡ b → (c : Bool) → plan_fits p sizes held plan ≡ c
          → ((too_far sizes (written_in p)).number ≡ 0) × (plan_fits p sizes held plan ≡ true)
      by true e true f = (eqb-true _ 0 e, f)
      by true e false f = absurd (omega (arith, z, ap (λ (r : Refusal). r.number) (check_is plan e f)))
      by false e c f = absurd (eqb-false _ 0 e (ap (λ (r : Refusal). r.number) (sym (check_is plan e f)) ∙ z))

  module _ (room : List ℕ) where
    -- the planner's number, by the three tests
    number_is : {a b c : Bool} → eqb (length room) (2 * rows sizes) ≡ a → eqb (too_far sizes (written_in p)).number 0 ≡ b → plannable (edge p) held ≡ c
        → (planned_by room a b c).number ≡ (planned p sizes held room).number
    number_is d e f = ap (λ (r : Planned). r.number) (sym (planned_is room d e f))

    -- Where the planner replies 0, its plan is accepted and the longest in turn, and no index is too far.
    pub plan_found : (planned p sizes held room).number ≡ 0 → Found p sizes held room (planned p sizes held room) × ((too_far sizes (written_in p)).number ≡ 0)
    plan_found z = by (eqb (length room) (2 * rows sizes)) refl (eqb (too_far sizes (written_in p)).number 0) refl (plannable (edge p) held) refl
      where
        by : (a : Bool) → eqb (length room) (2 * rows sizes) ≡ a → (b : Bool) → eqb (too_far sizes (written_in p)).number 0 ≡ b → (c : Bool) → plannable (edge p) held ≡ c
            → Found p sizes held room (planned p sizes held room) × ((too_far sizes (written_in p)).number ≡ 0)
        by false d b e c f = absurd (omega (arith, z, number_is d e f))
        by true d false e c f = absurd (eqb-false _ 0 e (number_is d e f ∙ z))
        by true d true e false f = absurd (omega (arith, z, number_is d e f))
        by true d true e true f = (subst (Found p sizes held room) (sym (planned_is room d e f)) (found_by room f), eqb-true _ 0 e)

    -- A plan is found where one is accepted, if the room has two entries a row and no index is too far.
    pub finds_plan : 0 < rows sizes → length room ≡ 2 * rows sizes → (too_far sizes (written_in p)).number ≡ 0 → (plan : List ℕ) → plan_fits p sizes held plan ≡ true
        → (planned p sizes held room).number ≡ 0
    unfolding put_plan
    finds_plan l d e plan h =
        let x = fits_bands plan h in
        sym (number_is (eq-eqb _ _ d) (eq-eqb _ 0 e) (plan_needs (rows sizes) (edge p) held x.0 l x.2))

    -- Where no plan is accepted, the reply is 59.
    pub none_fits : length room ≡ 2 * rows sizes → (too_far sizes (written_in p)).number ≡ 0 → ((plan : List ℕ) → plan_fits p sizes held plan ≡ true → ⊥)
        → (planned p sizes held room).number ≡ 59
    none_fits d e none_is = by (plannable (edge p) held) refl
      where
        by : (c : Bool) → plannable (edge p) held ≡ c → (planned p sizes held room).number ≡ 59
        by true f = absurd (none_is _ (found_by room f).fits)
        by false f = sym (number_is (eq-eqb _ _ d) (eq-eqb _ 0 e) f)

-- A row with its border rows is enough: where so many rows can be held, the plan with a band for each row is accepted.
pub row_by_row : (n : ℕ) (border : Bound) → accepts n border (border.back + 1 + border.ahead) (longest n n 1 0) ≡ true
unfolding plannable plan_of
row_by_row n border =
    let held = border.back + 1 + border.ahead in
    ap (λ (most : ℕ). accepts n border held (longest n n most 0)) (omega arith) ∙ plan_accepted n border held (lt-ltb _ held (omega arith))

-- ---- a source

-- a source that is accepted, on right sizes
pub record OnRows (fit : Bool) (source sizes : List ℕ) : Type 0 where
  pub read : Accepted
  pub is : read_source fit source ≡ accepted read
  pub sized : good_sizes read.program sizes ≡ true
  pub some_rows : 0 < rows sizes

-- right sizes of some dimensions have rows
sizes_rows : (p : Program) (sizes : List ℕ) → 0 < p.dims → good_sizes p sizes ≡ true → 0 < rows sizes
unfolding good_sizes all_between
sizes_rows p [] l e = absurd (
    let x = and_both (eqb 0 p.dims && all_between 1 4096 []) (leb (product []) 1048576) e in
    omega (arith, eqb-true 0 p.dims (and_both (eqb 0 p.dims) (all_between 1 4096 []) x.0).0))
sizes_rows p (n ∷ ns) l e =
    let x = and_both (eqb (length (n ∷ ns)) p.dims && all_between 1 4096 (n ∷ ns)) (leb (product (n ∷ ns)) 1048576) e in
    let y = and_both (eqb (length (n ∷ ns)) p.dims) (all_between 1 4096 (n ∷ ns)) x.0 in
    let z = and_both (leb 1 n && leb n 4096) (all_between 1 4096 ns) y.1 in
    leb-true 1 n (and_both (leb 1 n) (leb n 4096) z.0).0

module _ (fit : Bool) (source sizes : List ℕ) where
  -- a call on rows is refused, with a number that is not 0; or it has an accepted source and right sizes
  pub begins : ((n : ℕ) × (place : ℕ) × (on_sizes sizes (read_source fit source) ≡ no_grid n place) × (n ≡ 0 → ⊥))
      ⊎ ((r : OnRows fit source sizes) × (on_sizes sizes (read_source fit source) ≡ on_grid r.read.program))
  unfolding on_sizes check
  begins = by (read_source fit source) refl
    where
      -- a reply that refuses the source is not 0
      refuses : (o : SourceRead) → read_source fit source ≡ o → (reply_of o).number ≡ 0 → (a : Accepted) × (o ≡ accepted a)
      refuses o q z = let x = zero_accepts fit source (ap (λ (y : SourceRead). (reply_of y).number) q ∙ z) in (x.0, sym q ∙ x.1)

      at : (a : Accepted) → read_source fit source ≡ accepted a → (t : Bool) → good_sizes a.program sizes ≡ t
          → ((n : ℕ) × (place : ℕ) × ((if t then on_grid a.program else no_grid 20 0) ≡ no_grid n place) × (n ≡ 0 → ⊥))
          ⊎ ((r : OnRows fit source sizes) × ((if t then on_grid a.program else no_grid 20 0) ≡ on_grid r.read.program))
      at a q true s = inr (record { read = a; is = q; sized = s; some_rows = sizes_rows a.program sizes (accepted_declared fit source a q).dims s }, refl)
      at a q false s = inl (20, 0, refl, λ z. omega arith)

      by : (o : SourceRead) → read_source fit source ≡ o
          → ((n : ℕ) × (place : ℕ) × (on_sizes sizes o ≡ no_grid n place) × (n ≡ 0 → ⊥)) ⊎ ((r : OnRows fit source sizes) × (on_sizes sizes o ≡ on_grid r.read.program))
      by (turned_away n place) q = inl (n, place, refl, λ z. let x = refuses _ q z in let y : ◌≡◌ {A = ℕ} 0 1 = cc in omega arith)
      by (refused n place) q = inl (n, place, refl, λ z. let x = refuses _ q z in let y : ◌≡◌ {A = ℕ} 0 1 = cc in omega arith)
      by (accepted a) q = at a q (good_sizes a.program sizes) refl

module _ (fit : Bool) (source sizes : List ℕ) (held : ℕ) where
  abbrev plans : List ℕ → Planned
  plans room = planned_source fit source sizes held room

  abbrev checks : List ℕ → Refusal
  checks plan = check_plan_source fit source sizes held plan

  -- the replies by the program
  planned_at : (r : OnRows fit source sizes) → on_sizes sizes (read_source fit source) ≡ on_grid r.read.program → (room : List ℕ) → plans room ≡ planned r.read.program sizes held room
  unfolding planned_source
  planned_at r e room = ap (by_grid (λ number place. unplanned number place room) (λ p. planned p sizes held room)) e

  pub checked_at : (r : OnRows fit source sizes) → on_sizes sizes (read_source fit source) ≡ on_grid r.read.program → (plan : List ℕ) → checks plan ≡ check_plan r.read.program sizes held plan
  unfolding check_plan_source
  checked_at r e plan = ap (by_grid refusal (λ p. check_plan p sizes held plan)) e

  -- a reply that refuses the source or the sizes is not 0
  planned_begins : (room : List ℕ) → (plans room).number ≡ 0 → (r : OnRows fit source sizes) × (on_sizes sizes (read_source fit source) ≡ on_grid r.read.program)
  unfolding planned_source
  planned_begins room z = by (begins fit source sizes)
    where
      by : ((n : ℕ) × (place : ℕ) × (on_sizes sizes (read_source fit source) ≡ no_grid n place) × (n ≡ 0 → ⊥))
          ⊎ ((r : OnRows fit source sizes) × (on_sizes sizes (read_source fit source) ≡ on_grid r.read.program))
          → (r : OnRows fit source sizes) × (on_sizes sizes (read_source fit source) ≡ on_grid r.read.program)
      by (inl x) = absurd (x.3 (ap (λ (o : OnGrid). (by_grid (λ number place. unplanned number place room) (λ p. planned p sizes held room) o).number) (sym x.2) ∙ z))
      by (inr x) = x

  pub checked_begins : (plan : List ℕ) → (checks plan).number ≡ 0 → (r : OnRows fit source sizes) × (on_sizes sizes (read_source fit source) ≡ on_grid r.read.program)
  unfolding check_plan_source
  checked_begins plan z = by (begins fit source sizes)
    where
      by : ((n : ℕ) × (place : ℕ) × (on_sizes sizes (read_source fit source) ≡ no_grid n place) × (n ≡ 0 → ⊥))
          ⊎ ((r : OnRows fit source sizes) × (on_sizes sizes (read_source fit source) ≡ on_grid r.read.program))
          → (r : OnRows fit source sizes) × (on_sizes sizes (read_source fit source) ≡ on_grid r.read.program)
      by (inl x) = absurd (x.3 (ap (λ (o : OnGrid). (by_grid refusal (λ p. check_plan p sizes held plan) o).number) (sym x.2) ∙ z))
      by (inr x) = x

  -- The plan that the planner writes is accepted, and its bands are, in turn, as long as can be.
  pub planned_found : (room : List ℕ) → (plans room).number ≡ 0 → (r : OnRows fit source sizes) × Found r.read.program sizes held room (plans room)
  planned_found room z =
      let x = planned_begins room z in
      let e = planned_at x.0 x.1 room in
      (x.0, subst (Found x.0.read.program sizes held room) (sym e) (plan_found x.0.read.program sizes held room (ap (λ (r : Planned). r.number) (sym e) ∙ z)).0)

  -- The plan check takes it.
  pub planned_checks : (room : List ℕ) → (plans room).number ≡ 0 → checks (plan_in (plans room)) ≡ refusal 0 0
  planned_checks room z =
      let x = planned_begins room z in
      let p = x.0.read.program in
      let e = planned_at x.0 x.1 room in
      let f = plan_found p sizes held room (ap (λ (r : Planned). r.number) (sym e) ∙ z) in
      checked_at x.0 x.1 (plan_in (plans room)) ∙ ap (λ (r : Planned). check_plan p sizes held (plan_in r)) e ∙ check_is p sizes held _ (eq-eqb _ 0 f.1) f.0.fits

  -- Where the plan check takes a plan, the planner finds one, in a room of two entries a row.
  pub taken_planned : (plan : List ℕ) → (checks plan).number ≡ 0 → (room : List ℕ) → length room ≡ 2 * rows sizes → (plans room).number ≡ 0
  taken_planned plan z room d =
      let x = checked_begins plan z in
      let p = x.0.read.program in
      let c = check_zero p sizes held plan (ap (λ (r : Refusal). r.number) (sym (checked_at x.0 x.1 plan)) ∙ z) in
      ap (λ (r : Planned). r.number) (planned_at x.0 x.1 room) ∙ finds_plan p sizes held room x.0.some_rows d c.0 plan c.1

  -- The reply is 59 exactly if no plan is accepted: of an accepted source, on right sizes, with a room of two entries a row and no index too far.
  pub none_planned : (r : OnRows fit source sizes) (room : List ℕ) → length room ≡ 2 * rows sizes → (too_far sizes (written_in r.read.program)).number ≡ 0
      → ((plan : List ℕ) → (checks plan).number ≡ 0 → ⊥) → (plans room).number ≡ 59
  unfolding on_sizes
  none_planned r room d e none_is =
      let at : on_sizes sizes (read_source fit source) ≡ on_grid r.read.program =
      ap (on_sizes sizes) r.is ∙ ap (λ (t : Bool). if t then on_grid r.read.program else no_grid 20 0) r.sized in
      ap (λ (x : Planned). x.number) (planned_at r at room)
      ∙ none_fits r.read.program sizes held room d e
      (λ plan f. none_is plan (ap (λ (x : Refusal). x.number) (checked_at r at plan ∙ check_is r.read.program sizes held plan (eq-eqb _ 0 e) f)))

  -- 59: the plan check takes no plan.
  pub none_taken : (room : List ℕ) → (plans room).number ≡ 59 → (plan : List ℕ) → (checks plan).number ≡ 0 → ⊥
  none_taken room z plan c = by (eqb (length room) (2 * rows sizes)) refl
    where
      by : (a : Bool) → eqb (length room) (2 * rows sizes) ≡ a → ⊥
      by true d = omega (arith, z, taken_planned plan c room (eqb-true _ _ d))
      by false d =
          let x = checked_begins plan c in
          omega (arith, z, ap (λ (r : Planned). r.number) (planned_at x.0 x.1 room), number_is x.0.read.program sizes held room d refl refl)
