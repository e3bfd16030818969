-- A plan that is accepted, and the rows of the room that its bands use.
use Prim.Native.Nat.{ℕ, suc, ◌+◌, ◌*◌, ◌<◌, ◌≤◌, min}
use native.Mathlib.Omega.{arith}
use native.Mathlib.Nat.{min-le_left, min-le_right, le-min, mul-le-mul_right, mul-le-mul, add-mul}
use mathlib.Core.Path.{◌≡◌, refl, sym, ap, ◌∙◌, subst}
use mathlib.Core.Bool.{true, ◌&&◌}
use mathlib.Core.List.{List, [], ◌∷◌}
use mathlib.Core.Option.{Option, none, some}
use lib.ListN.{length, get_or, drop}
use lib.Dec.{eqb, leb}
use lib.IntN.{ℤ}
use borrow.Author.Tests.{eqb-true, leb-true, le-leb, ltb-true}
use Rattle.value.proofs.Theorems.Laws.{never, and_both}
use Rattle.automaton.specs.Shape.{product, Bound}
use Rattle.automaton.specs.Promises.ShapeLaws.{Positive}
use Rattle.automaton.specs.Bands.{Band, rows_with, runs_on, accepts, plannable}
use Rattle.automaton.proofs.Theorems.BandLaws.{plan_needs}
use Rattle.program.specs.declared.Rule.{Rule}
use Rattle.run_meaning.specs.declared.Reach.{Reach}
use Rattle.run_meaning.specs.Admission.{all_between}
use Rattle.band_meaning.specs.Plans.{bands_in, accepts_some, plan_right}
use Rattle.band_step.proofs.OneBand.{by_rows, rest_positive}
use Rattle.band_call.specs.BandCall.{row_cells}
use Rattle.run_steps.specs.Promises.Stepwise.{Begins}
use Rattle.run_steps.specs.Promises.OneStep.{Making}
use Rattle.band_run.specs.Promises.Running.{UnderPlan}

-- ---- the rows that are used

-- as many as can be held, but no more than n rows with their border rows
abbrev pub used : ℕ → Bound → ℕ → ℕ
used n border held = min held (n + border.back + border.ahead)

module _ (n : ℕ) (border : Bound) (held : ℕ) where
  -- no band of n rows is lent more
  runs_used : (from : ℕ) (bs : List Band) → runs_on n border held from bs ≡ true → (from ≤ n) × (runs_on n border (used n border held) from bs ≡ true)
  unfolding runs_on
  runs_used from [] e = (omega (arith, eqb-true from n e), e)
  runs_used from (b ∷ bs) e =
      let x = and_both (eqb b.first from) _ e in
      let y = and_both (leb b.first b.last) _ x.1 in
      let z = and_both (leb (rows_with border b) held) _ y.1 in
      let rest = runs_used (suc b.last) bs z.1 in
      let few : rows_with border b ≤ used n border held = le-min (leb-true _ _ z.0) (omega (arith, rest.0)) in
      (omega (arith, rest.0, eqb-true b.first from x.0, leb-true b.first b.last y.0), rw (x.0, y.0, le-leb (rows_with border b) (used n border held) few) rest.1)

  pub right_used : (plan : List ℕ) → plan_right n border held plan ≡ true → plan_right n border (used n border held) plan ≡ true
  unfolding plan_right accepts
  right_used plan = by (bands_in plan)
    where
      by : (o : Option (List Band)) → accepts_some n border held o ≡ true → accepts_some n border (used n border held) o ≡ true
      by none e = never e
      by (some bs) e = (runs_used 0 bs e).1

  pub some_used : (plan : List ℕ) → 0 < n → plan_right n border held plan ≡ true → 0 < used n border held
  unfolding plan_right plannable
  some_used plan l = by (bands_in plan)
    where
      by : (o : Option (List Band)) → accepts_some n border held o ≡ true → 0 < used n border held
      by none e = never e
      by (some bs) e = le-min (omega (arith, ltb-true _ held (plan_needs n border held bs l e))) (omega arith)

-- ---- the steps of an admitted run

first_few : (ss : List ℕ) → all_between 1 4096 ss ≡ true → get_or ss 0 0 ≤ 4096
unfolding all_between
first_few [] e = omega arith
first_few (n ∷ ns) e = leb-true n 4096 (and_both (leb 1 n) _ (and_both (leb 1 n && leb n 4096) (all_between 1 4096 ns) e).0).1

pub first_some : (ss : List ℕ) → 0 < length ss → Positive ss → 0 < get_or ss 0 0
first_some [] l h = absurd (omega arith)
first_some (n ∷ ns) l h = h.0

-- there is a first size
sizes_some : {words : List ℕ} {rule : Rule} {sizes : List ℕ} {r : Reach} {grid scratch : List ℤ} {marks text : List ℕ} {start steps : ℕ}
    → Begins words rule sizes r grid scratch marks text start steps → 0 < length sizes
sizes_some b = omega (arith, b.shaped.dims, b.some_dims)

module _ {words : List ℕ} {rule : Rule} {sizes : List ℕ} {r : Reach} {grid scratch : List ℤ} {marks text : List ℕ} {start steps : ℕ} (b : Begins words rule sizes r grid scratch marks text start steps)
    {border : Bound} {held : ℕ} {plan : List ℕ} {room : ℕ} (u : UnderPlan words rule sizes r border held plan room) where
  pub few_rows : get_or sizes 0 0 + border.back + border.ahead ≤ 12288
  few_rows = omega (arith, first_few sizes b.dimensions.each, u.back, u.ahead)

  module _ {n row : ℕ} (n-is : n ≡ used (get_or sizes 0 0) border held) (row_is : row ≡ row_cells sizes) where
    -- the cells of the rows that are used
    pub used_cells : n * row ≤ 3145728
    used_cells =
        let s = get_or sizes 0 0 in
        let a : n * row ≤ (s + s + s) * row = mul-le-mul_right row (omega (arith, n-is, min-le_right held (s + border.back + border.ahead), u.back, u.ahead)) in
        omega (arith, a, by_rows sizes (sizes_some b), ap (λ (x : ℕ). s * x) row_is, b.shaped.cells, add-mul (s + s) s row, add-mul s s row)

    pub used_entries : n * row * rule.fields ≤ 25165824
    used_entries = mul-le-mul used_cells b.rule_fits.fields

    -- they are in the room
    pub used_fits : n * row * rule.fields ≤ room
    used_fits =
        omega (arith, u.room_is, ap (λ (x : ℕ). held * x * rule.fields) row_is, mul-le-mul_right rule.fields (mul-le-mul_right {m = n} {n = held} row (omega (arith, n-is, min-le_left held (get_or sizes 0 0 + border.back + border.ahead)))))

    module _ {shape : List ℕ} (sh : shape ≡ n ∷ drop 1 sizes) where
      pub shape_long : length shape ≡ length sizes
      shape_long = ap length sh ∙ rest_length sizes (sizes_some b)
        where
          rest_length : (ss : List ℕ) → 0 < length ss → length (n ∷ drop 1 ss) ≡ length ss
          rest_length [] l = absurd (omega arith)
          rest_length (m ∷ ns) l = refl

      cells_are : product shape ≡ n * row
      cells_are = ap product sh ∙ ap (λ (x : ℕ). n * x) (sym row_is)

      pub making : {lent : ℕ} → lent ≡ n * row * rule.fields → Making words rule sizes shape (record { banded = true; row = row; before = border.back; behind = border.ahead }) plan r true lent
      making e =
          record {
            whole = λ z. never (sym z);
            by_bands = λ _.
                record {
                  all = refl;
                  row_is = row_is;
                  near = u.back;
                  roomed = record {
                    dims = shape_long ∙ b.shaped.dims;
                    positive = subst Positive (sym sh) (positive_rows, rest_positive sizes b.shaped.positive);
                    cells = omega (arith, cells_are, used_cells);
                    entries = ap (λ (x : ℕ). x * rule.fields) cells_are ∙ sym e;
                  };
                  alike = ap (drop 1) sh;
                  right = subst (λ (h : ℕ). plan_right (get_or sizes 0 0) border h plan ≡ true) (sym (ap (λ (ss : List ℕ). get_or ss 0 0) sh ∙ n-is)) (right_used (get_or sizes 0 0) border held plan u.right);
                  borders = u.borders;
                };
          }
        where
          positive_rows : 0 < n
          positive_rows = subst (λ (x : ℕ). 0 < x) (sym n-is) (some_used (get_or sizes 0 0) border held plan (first_some sizes (sizes_some b) b.shaped.positive) u.right)
