-- Whether a run under a plan is admitted: by the tried length of scratch a run is refused as the definition says, but for 60.
use Prim.Native.Nat.{ℕ, ◌*◌, ◌<◌}
use native.Mathlib.Omega.{arith}
use mathlib.Core.Path.{◌≡◌, refl, sym, ap, ◌∙◌}
use mathlib.Core.Bool.{Bool, true, false, not, ◌&&◌}
use mathlib.Core.Option.{Option}
use lib.ListN.{length, get_or}
use lib.Dec.{eqb}
use borrow.Author.Tests.{eq-eqb, ne_eqb, eqb-true}
use Rattle.std.specs.Prelude.{if◌then◌else◌}
use Rattle.automaton.specs.Shape.{product}
use Rattle.program.specs.Syntax.{Program}
use Rattle.program.specs.Refusal.{Refusal, refusal}
use Rattle.run_meaning.specs.Admission.{good_sizes, good_rooms, admission}
use Rattle.run_admission.proofs.RequestLaws.{positive}
use Rattle.list_meaning.specs.ListChecking.{Turned}
use Rattle.run_calls.specs.Running.{Asked, ask, admitted}
use Rattle.run_calls.proofs.Theorems.RunningLaws.{turned, refused_first}
use Rattle.band_planner.proofs.OpeningLaws.{sizes_known}
use Rattle.band_meaning.specs.Plans.{plan_fits}
use Rattle.band_run.specs.BandedRun.{Under, room_right, admitted_under}
use Rattle.band_run.specs.Promises.Rooms.{TriesRoom}
use Rattle.band_run.proofs.PlanLaws.{first_some}

-- ---- 20 and 21 of a run

module _ (p : Program) (flag : Option ℕ) (q : Asked) where
  first_refused : (number : ℕ) → (number ≡ 0 → ⊥) → admission p q.request ≡ refusal number 0 → admitted p flag q ≡ turned number 0 0
  first_refused number d e =
      refused_first p flag q (λ k. d (ap (λ (r : Refusal). r.number) (sym e) ∙ k)) ∙ ap (λ (r : Refusal). turned r.number r.place 0) e

  sizes_wrong : good_sizes p q.request.sizes ≡ false → admitted p flag q ≡ turned 20 0 0
  unfolding admission
  sizes_wrong s = first_refused 20 (λ z. omega (arith, z)) (rw (s, admission))

  rooms_wrong : good_sizes p q.request.sizes ≡ true → good_rooms p q.request ≡ false → admitted p flag q ≡ turned 21 0 0
  unfolding admission
  rooms_wrong s r = first_refused 21 (λ z. omega (arith, z)) (rw (s, r, admission))

-- ---- under a plan

module _ (p : Program) (flag : Option ℕ) (q : Asked) (u : Under) where
  -- the room is not right
  under_room : good_sizes p q.request.sizes ≡ true → room_right p q.request.sizes u ≡ false → admitted_under p flag q u ≡ turned 21 0 0
  unfolding admitted_under
  under_room s r = rw (s, r, admitted_under)

  -- whether it is refused for that
  abbrev room_refused : Bool
  room_refused = good_sizes p q.request.sizes && not (room_right p q.request.sizes u)

  under_refused : room_refused ≡ false → ((admitted p flag q).number ≡ 0 → ⊥) → admitted_under p flag q u ≡ admitted p flag q
  unfolding admitted_under
  under_refused r d = rw (r, ne_eqb (admitted p flag q).number 0 d, admitted_under)

  module _ (right : room_right p q.request.sizes u ≡ true) where
    room_passes : room_refused ≡ false
    room_passes = by (good_sizes p q.request.sizes) (room_right p q.request.sizes u) right
      where
        by : (s t : Bool) → t ≡ true → (s && not t) ≡ false
        by true t e = ap not e
        by false t e = refl

    pub under_as : (plan_fits p q.request.sizes u.held u.plan ≡ true) → admitted_under p flag q u ≡ admitted p flag q
    unfolding admitted_under
    under_as f = rw (room_passes, f, admitted_under) (by (eqb (admitted p flag q).number 0))
      where
        by : (t : Bool) → (if t && false then turned 60 0 0 else admitted p flag q) ≡ admitted p flag q
        by true = refl
        by false = refl

    pub under_60 : (admitted p flag q).number ≡ 0 → plan_fits p q.request.sizes u.held u.plan ≡ false → admitted_under p flag q u ≡ turned 60 0 0
    unfolding admitted_under
    under_60 z f = rw (room_passes, eq-eqb (admitted p flag q).number 0 z, f, admitted_under)

-- ---- by the tried length of scratch

-- a run with another length of scratch
abbrev pub with_scratch : Asked → ℕ → Asked
with_scratch q n =
    let r = q.request in
    ask (record { sizes = r.sizes; grid = r.grid; start = r.start; steps = r.steps; scratch = n; marks = r.marks }) q.values q.counts

module _ (p : Program) (flag : Option ℕ) (some_dims : 0 < p.dims) (q : Asked) (u : Under) {tried : ℕ}
    (tries : TriesRoom q.request.sizes (length q.request.grid) q.request.scratch u.held u.room tried) where
  pub tried_refuses : ((admitted p flag (with_scratch q tried)).number ≡ 0 → ⊥) → admitted_under p flag q u ≡ admitted p flag (with_scratch q tried)
  unfolding room_right good_rooms
  tried_refuses d = by_sizes (good_sizes p q.request.sizes) refl
    where
      -- as a run that is refused with the same number
      both : (number : ℕ) → (number ≡ 0 → ⊥) → room_refused p flag q u ≡ false → admitted p flag q ≡ turned number 0 0 → admitted p flag (with_scratch q tried) ≡ turned number 0 0
          → admitted_under p flag q u ≡ admitted p flag (with_scratch q tried)
      both number n e a b = under_refused p flag q u e (λ z. n (ap (λ (x : Turned). x.number) (sym a) ∙ z)) ∙ a ∙ sym b

      first : good_sizes p q.request.sizes ≡ true → 0 < get_or q.request.sizes 0 0
      first s = let k = sizes_known p q.request.sizes s in first_some q.request.sizes (omega (arith, k.many, some_dims)) (positive q.request.sizes k.each)

      -- the grid is right
      by_room : good_sizes p q.request.sizes ≡ true → eqb (length q.request.grid) (product q.request.sizes * length p.fields) ≡ true
          → (t : Bool) → room_right p q.request.sizes u ≡ t → admitted_under p flag q u ≡ admitted p flag (with_scratch q tried)
      by_room s e true r =
          let same : tried ≡ q.request.scratch = tries.right (length p.fields) (first s) (eqb-true _ _ e) r in
          let alike : admitted p flag (with_scratch q tried) ≡ admitted p flag q = ap (λ (n : ℕ). admitted p flag (with_scratch q n)) same in
          under_refused p flag q u (room_passes p flag q u r) (λ z. d (ap (λ (x : Turned). x.number) alike ∙ z)) ∙ sym alike
      by_room s e false r =
          under_room p flag q u s r
          ∙ sym (rooms_wrong p flag (with_scratch q tried) s (rw (e, ne_eqb tried (length q.request.grid) (tries.wrong (length p.fields) (first s) (eqb-true _ _ e) r))))

      -- it is not
      by_entries : good_sizes p q.request.sizes ≡ true → eqb (length q.request.grid) (product q.request.sizes * length p.fields) ≡ false
          → (t : Bool) → room_right p q.request.sizes u ≡ t → admitted_under p flag q u ≡ admitted p flag (with_scratch q tried)
      by_entries s e true r = both 21 (λ z. omega (arith, z)) (room_passes p flag q u r) (rooms_wrong p flag q s (rw e)) (rooms_wrong p flag (with_scratch q tried) s (rw e))
      by_entries s e false r = under_room p flag q u s r ∙ sym (rooms_wrong p flag (with_scratch q tried) s (rw e))

      by_grid : good_sizes p q.request.sizes ≡ true → (t : Bool) → eqb (length q.request.grid) (product q.request.sizes * length p.fields) ≡ t
          → admitted_under p flag q u ≡ admitted p flag (with_scratch q tried)
      by_grid s true e = by_room s e (room_right p q.request.sizes u) refl
      by_grid s false e = by_entries s e (room_right p q.request.sizes u) refl

      by_sizes : (t : Bool) → good_sizes p q.request.sizes ≡ t → admitted_under p flag q u ≡ admitted p flag (with_scratch q tried)
      by_sizes true s = by_grid s (eqb (length q.request.grid) (product q.request.sizes * length p.fields)) refl
      by_sizes false s =
          both 20 (λ z. omega (arith, z)) (ap (λ (b : Bool). b && not (room_right p q.request.sizes u)) s) (sizes_wrong p flag q s) (sizes_wrong p flag (with_scratch q tried) s)
