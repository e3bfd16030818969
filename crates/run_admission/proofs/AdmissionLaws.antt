-- Admission as a whole: 20 to 22, then 23, then 24.
use Prim.Native.Nat.{ℕ, zero, suc, ◌≤◌}
use native.Mathlib.Nat.{mul-le-mul}
use native.Mathlib.Omega.{arith}
use mathlib.Core.Path.{◌≡◌, refl, sym, ap, ◌∙◌, subst, subst₂}
use mathlib.Core.Bool.{Bool, true, false, not, ◌||◌}
use mathlib.Core.List.{List, [], ◌∷◌}
use mathlib.Core.Option.{some}
use lib.ListN.{length, get_or, set, replicate}
use lib.Dec.{eqb, ltb}
use lib.IntN.{ℤ, pos, negsuc, nat_abs}
use mir.Syntax.{w64}
use mir.Val.{SFits, to_z, of_z}
use mir.Facts.{to_z-of_z}
use borrow.Author.Tests.{eq-eqb, ne_eqb, ltb-false}
use Rattle.value.specs.Limits.{most_cells}
use Rattle.std.specs.Prelude.{Option, Some, None, Result, Ok, Err, if◌then◌else◌}
use Rattle.automaton.specs.Promises.ListedLaws.{get_or_list_of}
use Rattle.automaton.proofs.Theorems.Quiet.{or_false}
use Rattle.automaton.specs.Shape.{Bound}
use Rattle.automaton.specs.Promises.ShapeLaws.{Shaped}
use Rattle.program.specs.Syntax.{Range, Program}
use Rattle.cell_meaning.specs.Promises.Stands.{Holds}
use Rattle.cell_meaning.specs.Written.{Relative, relatives_in, Written, written_of, written_in}
use Rattle.cell_meaning.specs.Places.{own_place, add_relatives, places}
use Rattle.run_meaning.specs.declared.Bounds.{Bounds}
use Rattle.run_meaning.specs.declared.Reach.{Reach}
use Rattle.run_meaning.specs.Reach.{below, above, own_only, widen, widened, box}
use Rattle.program.specs.Refusal.{Refusal, refusal}
use Rattle.program.specs.declared.Rule.{Rule}
use Rattle.run_meaning.specs.Admission.{Request, good_sizes, good_rooms, good_times, too_far, out_of_field, admission}
use Rattle.program.specs.Promises.Fitting.{Sized}
use Rattle.run_meaning.specs.Promises.Fitting.{held_fields, bound_at, bounds_of, Near}
use Rattle.run_indices.specs.declared.Survey.{Survey}
use Rattle.run_indices.specs.Promises.Surveying.{far_of, Surveyed}
use Rattle.run_admission.specs.Promises.Admitting.{refusal_told, AdmissionAsked, InFields, request_of, Lists, Admitted, Admits}
use Rattle.run_admission.proofs.RequestLaws.{first_refusal}
use Rattle.run_admission.proofs.Results.{err_same, ok_same}

-- ---- one refusal after the other

abbrev tried : Bool → Bool → Bool → Refusal → Refusal → Refusal
tried a b c far out =
    if not a then refusal 20 0
    else if not b then refusal 21 0
    else if not c then refusal 22 0
    else if not (eqb far.number 0) then far
    else out

admission_is : (p : Program) (q : Request) → admission p q ≡ tried (good_sizes p q.sizes) (good_rooms p q) (good_times q.start q.steps) (too_far q.sizes (written_in p)) (out_of_field p.fields 0 q.grid)
unfolding admission
admission_is p q = refl

tried_first : (a b c : Bool) (far out : Refusal) (n : ℕ) → n ≡ first_refusal a b c → (n ≡ 0 → ⊥) → refusal n 0 ≡ tried a b c far out
tried_first false b c far out n e z = λ i. refusal (e i) 0
tried_first true false c far out n e z = λ i. refusal (e i) 0
tried_first true true false far out n e z = λ i. refusal (e i) 0
tried_first true true true far out n e z = absurd (z e)

tried_rest : (a b c : Bool) (far out : Refusal) (n : ℕ) → n ≡ first_refusal a b c → n ≡ 0 → tried a b c far out ≡ (if not (eqb far.number 0) then far else out)
tried_rest false b c far out n e z = absurd (omega arith)
tried_rest true false c far out n e z = absurd (omega arith)
tried_rest true true false far out n e z = absurd (omega arith)
tried_rest true true true far out n e z = refl

rest_far : (far out : Refusal) (n : ℕ) → n ≡ far.number → (n ≡ 0 → ⊥) → far ≡ (if not (eqb far.number 0) then far else out)
rest_far far out n e z = rw (ne_eqb far.number 0 (λ q. z (e ∙ q)))

rest_out : (far out : Refusal) (n : ℕ) → n ≡ far.number → n ≡ 0 → out ≡ (if not (eqb far.number 0) then far else out)
rest_out far out n e z = rw (eq-eqb far.number 0 (sym e ∙ z))

-- ---- no index is too far: the reach is near

below_abs : (z : ℤ) → below z ≤ nat_abs z
below_abs (pos n) = omega arith
below_abs (negsuc n) = omega arith

above_abs : (z : ℤ) → above z ≤ nat_abs z
above_abs (pos n) = omega arith
above_abs (negsuc n) = omega arith

-- each bound of a list is within its size
abbrev Within : List ℕ → List Bound → Type 0
Within sizes bs = (k : ℕ) → ((get_or bs k own_only).back ≤ get_or sizes k 0) × ((get_or bs k own_only).ahead ≤ get_or sizes k 0)

-- a bound that is widened by a range that is not too far
set_within : (sizes : List ℕ) (bs : List Bound) (d : ℕ) (r : Range) → (nat_abs r.low ≤ get_or sizes d 0) → (nat_abs r.high ≤ get_or sizes d 0) → Within sizes bs
    → Within sizes (set bs d (widen (get_or bs d own_only) r))
set_within sizes [] d r l h w k = w k
set_within [] (b ∷ bs) zero r l h w zero = let a = w 0 in (omega (arith, below_abs r.low, a.0), omega (arith, above_abs r.high, a.1))
set_within (n ∷ sizes) (b ∷ bs) zero r l h w zero = let a = w 0 in (omega (arith, below_abs r.low, a.0), omega (arith, above_abs r.high, a.1))
set_within sizes (b ∷ bs) zero r l h w (suc k) = w (suc k)
set_within sizes (b ∷ bs) (suc d) r l h w zero = w 0
set_within [] (b ∷ bs) (suc d) r l h w (suc k) = set_within [] bs d r l h (λ j. w (suc j)) k
set_within (n ∷ sizes) (b ∷ bs) (suc d) r l h w (suc k) = set_within sizes bs d r l h (λ j. w (suc j)) k

widened_within : (sizes : List ℕ) (ws : List Written) (bs : List Bound) → (too_far sizes ws).number ≡ 0 → Within sizes bs → Within sizes (widened bs ws)
unfolding too_far widened
widened_within sizes [] bs e w = w
widened_within sizes (x ∷ ws) bs e w = by (ltb size (nat_abs x.values.low) || ltb size (nat_abs x.values.high)) refl e (widened_within sizes ws)
  where
    size : ℕ
    size = get_or sizes x.dim 0

    by : (t : Bool) → (ltb size (nat_abs x.values.low) || ltb size (nat_abs x.values.high)) ≡ t → (if t then refusal 23 x.place else too_far sizes ws).number ≡ 0
        → ((cs : List Bound) → (too_far sizes ws).number ≡ 0 → Within sizes cs → Within sizes (widened cs ws))
        → Within sizes (widened (set bs x.dim (widen (get_or bs x.dim own_only) x.values)) ws)
    by true q z rest = absurd (omega arith)
    by false q z rest =
        let both = or_false (ltb size (nat_abs x.values.low)) (ltb size (nat_abs x.values.high)) q in
        rest _ z (set_within sizes bs x.dim x.values (ltb-false _ _ both.0) (ltb-false _ _ both.1) w)

none_within : (sizes : List ℕ) (n : ℕ) → Within sizes (replicate n own_only)
none_within sizes zero k = omega arith
none_within sizes (suc n) zero = omega arith
none_within [] (suc n) (suc k) = none_within [] n k
none_within (m ∷ sizes) (suc n) (suc k) = none_within sizes n k

pub near_of : (sizes : List ℕ) (r : Bounds) (dims : ℕ) (ws : List Written) → length sizes ≡ dims → (too_far sizes ws).number ≡ 0 → bounds_of r dims ≡ widened (replicate dims own_only) ws → Near sizes r
near_of sizes r dims ws e z b k l =
    let w = widened_within sizes ws (replicate dims own_only) z (none_within sizes dims) k in
    let same : bound_at r k ≡ get_or (widened (replicate dims own_only) ws) k own_only = sym (get_or_list_of (bound_at r) dims k own_only (omega arith)) ∙ ap (λ (bs : List Bound). get_or bs k own_only) b in
    rw same w

-- ---- the ways through

-- the times as the machine reads them
pub read_times : {rule : Rule} {sizes : List ℕ} {entries scratch marks : ℕ} {start steps : ℤ} {n : ℕ} → SFits w64 start → SFits w64 steps
    → AdmissionAsked rule sizes entries scratch marks (to_z w64 (of_z w64 start)) (to_z w64 (of_z w64 steps)) n → AdmissionAsked rule sizes entries scratch marks start steps n
read_times {rule} {sizes} {entries} {scratch} {marks} {start} {steps} {n} h k = subst₂ (λ (a b : ℤ). AdmissionAsked rule sizes entries scratch marks a b n) (to_z-of_z h) (to_z-of_z k)

-- an admitted grid has at most 8 entries for each of 1,048,576 cells
pub few : {n : ℕ} {rule : Rule} {sizes : List ℕ} {entries : ℕ} → Sized n rule → Shaped rule.dims rule.fields most_cells sizes entries → entries ≤ 8388608
few x s = omega (arith, s.entries, mul-le-mul s.cells x.fields)

module _ {words : List ℕ} {rule : Rule} {sizes : List ℕ} (grid : List ℤ) {scratch marks : ℕ} {start steps : ℤ} {n : ℕ} (asked : AdmissionAsked rule sizes (length grid) scratch marks start steps n) where
  number_is : (p : Program) → Holds words rule p → n ≡ first_refusal (good_sizes p sizes) (good_rooms p (request_of sizes grid scratch marks start steps)) (good_times start steps)
  number_is p h = asked.says p h.dims (held_fields p h) (request_of sizes grid scratch marks start steps) refl refl refl refl refl refl

  pub asked_refused : {e : Refusal} → (n ≡ 0 → ⊥) → e ≡ refusal n 0 → Admits words rule sizes grid scratch marks start steps (Err e)
  asked_refused {e} z q = record {
    says = λ p h w. q ∙ tried_first (good_sizes p sizes) (good_rooms p (request_of sizes grid scratch marks start steps)) (good_times start steps) (too_far sizes (written_in p)) (out_of_field p.fields 0 grid) n (number_is p h) z ∙ sym (admission_is p (request_of sizes grid scratch marks start steps));
    refused = λ x r k. z (sym (ap (λ (f : Refusal). f.number) q) ∙ ap (λ (f : Refusal). f.number) (err_same r) ∙ k);
    admitted = λ x r. cc;
  }

  module _ (none : n ≡ 0) {s : Survey} (surveyed : Surveyed words rule sizes s) where
    far_number : (rs : List Relative) → Lists words rule rs → (far_of s.far).number ≡ (too_far sizes (written_of rs)).number
    far_number rs w = ap (λ (x : Refusal). x.number) (surveyed.far rs w)

    rest_is : (p : Program) → Holds words rule p → admission p (request_of sizes grid scratch marks start steps) ≡ (if not (eqb (too_far sizes (written_in p)).number 0) then too_far sizes (written_in p) else out_of_field p.fields 0 grid)
    rest_is p h = admission_is p (request_of sizes grid scratch marks start steps) ∙ tried_rest (good_sizes p sizes) (good_rooms p (request_of sizes grid scratch marks start steps)) (good_times start steps) (too_far sizes (written_in p)) (out_of_field p.fields 0 grid) n (number_is p h) none

    pub far_refused : {place : ℕ} → s.far ≡ Some place → {e : Refusal} → e ≡ refusal 23 place → Admits words rule sizes grid scratch marks start steps (Err e)
    unfolding written_in
    far_refused {place} f {e} q = record {
      says = λ p h w.
          q ∙ sym (ap far_of f) ∙ surveyed.far (relatives_in p) w ∙ rest_far _ _ (far_of s.far).number (far_number (relatives_in p) w) (λ k. absurd (omega (arith, k, ap (λ (o : Option ℕ). (far_of o).number) f)))
          ∙ sym (rest_is p h);
      refused = λ x r k. absurd (omega (arith, k, ap (λ (g : Refusal). g.number) q, ap (λ (g : Refusal). g.number) (err_same r)));
      admitted = λ x r. cc;
    }

    module _ (near : s.far ≡ None) {f : Result (Unit {0}) Refusal} (fields : InFields words rule grid f) where
      clear : (far_of s.far).number ≡ 0
      clear = ap (λ (o : Option ℕ). (far_of o).number) near

      out_is : (p : Program) → Holds words rule p → Lists words rule (relatives_in p) → refusal_told f ≡ admission p (request_of sizes grid scratch marks start steps)
      unfolding written_in
      out_is p h w = fields.says ∙ ap (λ (rs : List Range). out_of_field rs 0 grid) (sym h.fields) ∙ rest_out _ _ (far_of s.far).number (far_number (relatives_in p) w) clear ∙ sym (rest_is p h)

      pub field_refused : {e : Refusal} {r : Result Reach Refusal} → f ≡ Err e → r ≡ Err e → Admits words rule sizes grid scratch marks start steps r
      field_refused {e} q i = record {
        says = λ p h w. ap refusal_told i ∙ sym (ap refusal_told q) ∙ out_is p h w;
        refused = λ x j k. absurd (omega (arith, k, fields.refused e q, ap (λ (g : Refusal). g.number) (err_same (sym i ∙ j))));
        admitted = λ x j. cc;
      }

      pub admitted : (u : Unit {0}) → f ≡ Ok u → Admits words rule sizes grid scratch marks start steps (Ok s.reach)
      unfolding box written_in places
      admitted u q = record {
        says = λ p h w. sym (ap refusal_told q) ∙ out_is p h w;
        refused = λ x r. cc;
        admitted = λ x r. subst (Admitted words rule sizes (length grid) scratch marks start steps) (ok_same r) whole;
      }
        where
          whole : Admitted words rule sizes (length grid) scratch marks start steps s.reach
          whole = record {
            shaped = asked.shaped none;
            scratch_fits = asked.scratch_fits none;
            marks_fit = asked.marks_fit none;
            start_is = asked.start_is none;
            steps_is = asked.steps_is none;
            times = asked.times none;
            reaches = λ p h w. ap (λ (d : ℕ). widened (replicate d own_only) (written_in p)) h.dims ∙ sym (surveyed.bounds (relatives_in p) w);
            lists = λ p h w. ap (λ (d : ℕ). add_relatives d (some (own_place d ∷ [])) (relatives_in p)) h.dims ∙ sym (surveyed.places (relatives_in p) w);
            near = λ rs w. near_of sizes s.reach.bounds rule.dims (written_of rs) (asked.shaped none).dims (sym (far_number rs w) ∙ clear) (surveyed.bounds rs w);
          }
