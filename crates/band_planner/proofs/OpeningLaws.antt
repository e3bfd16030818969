-- The beginning of a call on rows: sizes by their number of cells; a source that is refused, wrong sizes, and what is known where the call goes on.
use Prim.Native.Nat.{ℕ, zero, suc, ◌<◌, ◌≤◌}
use native.Mathlib.Omega.{arith}
use mathlib.Core.Path.{◌≡◌, refl, sym, ap, ap₂, ◌∙◌, subst}
use mathlib.Core.Bool.{Bool, true, false, not, ◌&&◌}
use mathlib.Core.List.{List, [], ◌∷◌}
use mathlib.Core.Option.{Option, some}
use lib.ListN.{length, get_or, replicate}
use lib.Dec.{eqb, leb}
use lib.IntN.{ℤ}
use borrow.Author.Tests.{eq-eqb, ne_eqb, eqb-true, le-leb, leb-true, not-true, not-false}
use Rattle.std.specs.Prelude as std
use Rattle.std.specs.Prelude.{Result, Ok, Err, None, Some, if◌then◌else◌}
use Rattle.value.proofs.Theorems.Laws.{never, and_both}
use Rattle.automaton.specs.Shape.{Bound, product}
use Rattle.program.specs.Syntax.{Program}
use Rattle.program.specs.Refusal.{Refusal, refusal}
use Rattle.program.specs.declared.Rule.{Rule}
use Rattle.grammar.specs.Checking as checking
use Rattle.grammar.specs.Checking.{SourceRead, turned_away, refused, accepted, rooms_fit, read_source, check}
use Rattle.cell_meaning.specs.Written.{relatives_in, written_of, written_in}
use Rattle.cell_meaning.specs.Places.{own_place, add_relatives, places}
use Rattle.run_meaning.specs.Reach.{own_only, widened, box, reach_from, reach}
use Rattle.run_meaning.specs.Admission.{all_between, good_sizes}
use Rattle.run_meaning.specs.Promises.Fitting.{bound_at, bounds_of}
use Rattle.read_source.specs.Promises.Promises.{Loads, Checks, is_accepted, refusal_in, is_loaded, rule_in}
use Rattle.run_indices.specs.declared.Survey.{Survey}
use Rattle.run_indices.specs.Promises.Surveying.{far_of, Surveyed}
use Rattle.run_admission.specs.Promises.Admitting.{cells_of}
use Rattle.run_admission.proofs.AdmissionLaws.{near_of}
use Rattle.run_admission.proofs.Results.{err_same, ok_same}
use Rattle.run_admission.proofs.RequestLaws.{some_cells, no_cells, positive}
use Rattle.read_refusals.proofs.Theorems.Replies.{zero_accepts}
use Rattle.run_loading.specs.Promises.Loaded.{Accepts}
use Rattle.run_loading.proofs.Theorems.SourceLoaded.{accepts}
use Rattle.band_meaning.specs.Edge.{edge_of, edge}
use Rattle.band_meaning.specs.OnSizes.{no_grid, on_grid, on_sizes}
use Rattle.band_meaning.proofs.Theorems.EdgeTheorems.{edge_in_box}
use Rattle.band_planner.specs.declared.borders.Border.{Border}
use Rattle.band_planner.specs.declared.opening.RowsOpened.{RowsOpened}
use Rattle.band_planner.specs.Promises.Borders.{border_of, BordersOf}
use Rattle.band_planner.specs.Promises.Opening.{far_told, far_refused, RightSizes, RowsOpen, OpensRows}
use Rattle.band_planner.proofs.BorderLaws.{first_bound}

-- ---- sizes

pub other_dims : {dims : ℕ} {sizes : List ℕ} → (length sizes ≡ dims → ⊥) → RightSizes dims sizes false
unfolding good_sizes
other_dims {dims} {sizes} n = record { is = λ p e. sym (rw (ne_eqb (length sizes) p.dims (λ q. n (q ∙ e)))) }

pub by_cells : {dims : ℕ} {sizes : List ℕ} {n : ℕ} → length sizes ≡ dims → n ≡ cells_of sizes → RightSizes dims sizes (not (eqb n 0))
unfolding good_sizes
by_cells {dims} {sizes} {n} d e = record { is = λ p q. by p q (eqb n 0) refl }
  where
    by : (p : Program) → p.dims ≡ dims → (t : Bool) → eqb n 0 ≡ t → not t ≡ (eqb (length sizes) p.dims && all_between 1 4096 sizes && leb (product sizes) 1048576)
    by p q true z = sym (rw (eq-eqb (length sizes) p.dims (d ∙ sym q)) (no_cells sizes (sym e ∙ eqb-true n 0 z)))
    by p q false z =
        let right = some_cells sizes (λ k. absurd (let w : eqb n 0 ≡ true = eq-eqb n 0 (e ∙ k) in never (sym z ∙ w))) in
        sym (rw (eq-eqb (length sizes) p.dims (d ∙ sym q), right.0, le-leb (product sizes) 1048576 right.1))

-- what right sizes are
pub record SizesKnown (dims : ℕ) (sizes : List ℕ) : Type 0 where
  pub many : length sizes ≡ dims
  pub each : all_between 1 4096 sizes ≡ true
  pub few : product sizes ≤ 1048576

pub sizes_known : (p : Program) (sizes : List ℕ) → good_sizes p sizes ≡ true → SizesKnown p.dims sizes
unfolding good_sizes
sizes_known p sizes e =
    let x = and_both (eqb (length sizes) p.dims && all_between 1 4096 sizes) (leb (product sizes) 1048576) e in
    let y = and_both (eqb (length sizes) p.dims) (all_between 1 4096 sizes) x.0 in
    record { many = eqb-true (length sizes) p.dims y.0; each = y.1; few = leb-true (product sizes) 1048576 x.1 }

-- ---- the ways through

-- a refusal is no answer
pub refused_only : {e : Refusal} {o : RowsOpened} {A : Type 0} → ◌≡◌ {A = Result RowsOpened Refusal} (Err e) (Ok o) → A
refused_only z = never (ap (λ (r : Result RowsOpened Refusal). elim r [ Ok a ↦ true | Err f ↦ false ]) z)

-- an answer is no refusal
pub answered : {A : Type 0} {a : A} (e : Refusal) → ◌≡◌ {A = Result A Refusal} (Ok a) (Err e) → e.number ≡ 0 → ⊥
answered {A} e z k = never (ap (λ (r : Result A Refusal). elim r [ Ok a ↦ false | Err f ↦ true ]) z)

-- a refusal with a number, and one for a reason
pub numbered : {A : Type 0} {f : Refusal} {r : Result A Refusal} → r ≡ Err f → (f.number ≡ 0 → ⊥) → (e : Refusal) → r ≡ Err e → e.number ≡ 0 → ⊥
numbered q n e z k = n (ap (λ (g : Refusal). g.number) (err_same (sym q ∙ z)) ∙ k)

pub by_reason : {A : Type 0} {f : Refusal} {n place : ℕ} → f ≡ refusal (suc n) place → (e : Refusal) → ◌≡◌ {A = Result A Refusal} (Err f) (Err e) → e.number ≡ 0 → ⊥
by_reason q = numbered refl (λ k. absurd (omega (arith, ap (λ (g : Refusal). g.number) q, k)))

-- the refusal of an index that is too far
far_as : (f : std.Option ℕ) → far_told (far_refused f) ≡ far_of f
far_as None = refl
far_as (Some place) = refl

far_some : (f : std.Option ℕ) {e : Refusal} → far_refused f ≡ Some e → e.number ≡ 0 → ⊥
far_some None z k = never (ap (λ (o : std.Option Refusal). elim o [ None ↦ false | Some g ↦ true ]) z)
far_some (Some place) z k = absurd (omega (arith, ap (λ (o : std.Option Refusal). (far_told o).number) z, k))

module _ {source ws ns : List ℕ} {l : Result Rule Refusal} {ws' ns' : List ℕ}
    (checked : Checks (rooms_fit (length ws) (length ns)) source ws ns (refusal_in l).number (refusal_in l).place ws' ns') (loaded : Loads source ws ns (is_loaded l) (rule_in l)) where
  -- the source is refused
  pub unread : {e : Refusal} → l ≡ Err e → {sizes : List ℕ} {r : Result RowsOpened Refusal} → r ≡ Err e → OpensRows (rooms_fit (length ws) (length ns)) source ws ns sizes r ws' ns'
  unfolding on_sizes check
  unread {e} y {sizes} {r} q =
      subst (λ (x : Result RowsOpened Refusal). OpensRows (rooms_fit (length ws) (length ns)) source ws ns sizes x ws' ns') (sym q) (record {
        words = checked.words;
        names = checked.names;
        refuses = λ f z k.
            let x = zero_accepts (rooms_fit (length ws) (length ns)) source (ap (λ (g : Refusal). g.number) (sym reply_is ∙ err_same z) ∙ k) in
            never (sym not_accepted ∙ ap is_accepted x.1);
        closed = λ f z. by (read_source (rooms_fit (length ws) (length ns)) source) reply_is not_accepted ∙ ap (λ (g : Refusal). no_grid g.number g.place) (err_same z);
        opened = λ o z. refused_only z;
      })
    where
      reply_is : e ≡ check (rooms_fit (length ws) (length ns)) source
      reply_is = sym (ap refusal_in y) ∙ checked.reply

      not_accepted : is_accepted (read_source (rooms_fit (length ws) (length ns)) source) ≡ false
      not_accepted = sym loaded.is ∙ ap is_loaded y

      by : (s : SourceRead) → e ≡ checking.reply_of s → is_accepted s ≡ false → on_sizes sizes s ≡ no_grid e.number e.place
      by (turned_away k j) c d = ap (λ (x : Refusal). no_grid x.number x.place) (sym c)
      by (refused k j) c d = ap (λ (x : Refusal). no_grid x.number x.place) (sym c)
      by (accepted a) c d = never (sym d)

  module _ {rule : Rule} (sure : l ≡ Ok rule) where
    pub is : Accepts (rooms_fit (length ws) (length ns)) source ws' ns' rule
    is = subst (λ (r : Rule). Accepts (rooms_fit (length ws) (length ns)) source ws' ns' r) (ap rule_in sure) (accepts checked loaded (ap is_loaded sure))

    module _ {sizes : List ℕ} {t : Bool} (tried : RightSizes rule.dims sizes t) where
      sizes_are : t ≡ good_sizes is.read.program sizes
      sizes_are = tried.is is.read.program is.stood.holds.dims

      on : (u : Bool) → t ≡ u → on_sizes sizes (read_source (rooms_fit (length ws) (length ns)) source) ≡ (if u then on_grid is.read.program else no_grid 20 0)
      unfolding on_sizes
      on u e = ap (on_sizes sizes) is.is ∙ ap (λ (v : Bool). if v then on_grid is.read.program else no_grid 20 0) (sym sizes_are ∙ e)

      -- the sizes are wrong
      pub wrong_sizes : not t ≡ true → {e : Refusal} → e ≡ refusal 20 0 → OpensRows (rooms_fit (length ws) (length ns)) source ws ns sizes (Err e) ws' ns'
      wrong_sizes w {e} q =
          record {
            words = checked.words;
            names = checked.names;
            refuses = λ f z k. absurd (omega (arith, ap (λ (g : Refusal). g.number) (sym (err_same z) ∙ q), k));
            closed = λ f z. on false (not-true t w) ∙ ap (λ (g : Refusal). no_grid g.number g.place) (sym q ∙ err_same z);
            opened = λ o z. refused_only z;
          }

      module _ (right : not t ≡ false) where
        pub known_sizes : SizesKnown rule.dims sizes
        known_sizes =
            subst (λ (d : ℕ). SizesKnown d sizes) is.stood.holds.dims (sizes_known is.read.program sizes (sym sizes_are ∙ not-false t right))

        pub some_sizes : 0 < length sizes
        some_sizes = omega (arith, known_sizes.many, is.some_dims)

        -- the call goes on
        module _ {s : Survey} (surveyed : Surveyed ws' rule sizes s) {b : Border} (borders : BordersOf s.reach b) where
          borders_are : border_of b ≡ edge is.read.program
          unfolding edge reach box written_in places
          borders_are =
              borders.is rule.dims is.some_dims
              ∙ ap₂ (λ (bs : List Bound) (ps : Option (List (List ℤ))). edge_of (reach_from bs ps))
              (surveyed.bounds (relatives_in is.read.program) is.lists ∙ ap (λ (d : ℕ). widened (replicate d own_only) (written_in is.read.program)) (sym is.stood.holds.dims))
              (surveyed.places (relatives_in is.read.program) is.lists ∙ ap (λ (d : ℕ). add_relatives d (some (own_place d ∷ [])) (relatives_in is.read.program)) (sym is.stood.holds.dims))

          -- no index is too far: there are no more border rows on a side than rows
          borders_near : (far_of s.far).number ≡ 0 → (b.before ≤ get_or sizes 0 0) × (b.behind ≤ get_or sizes 0 0)
          unfolding box written_in
          borders_near z =
              let p = is.read.program in
              let boxed = surveyed.bounds (relatives_in p) is.lists in
              let first : (bs : List Bound) × (bounds_of s.reach.bounds rule.dims ≡ bound_at s.reach.bounds 0 ∷ bs) = first_of rule.dims is.some_dims in
              let within = edge_in_box p (bound_at s.reach.bounds 0) first.0 (ap (λ (d : ℕ). widened (replicate d own_only) (written_in p)) is.stood.holds.dims ∙ sym boxed ∙ first.1) in
              let near = near_of sizes s.reach.bounds rule.dims (written_of (relatives_in p)) known_sizes.many (ap (λ (r : Refusal). r.number) (sym (surveyed.far (relatives_in p) is.lists)) ∙ z) boxed 0 some_sizes in
              (omega (arith, within.0, near.0, ap (λ (x : Bound). x.back) borders_are), omega (arith, within.1, near.1, ap (λ (x : Bound). x.ahead) borders_are))
            where
              first_of : (dims : ℕ) → 0 < dims → (bs : List Bound) × (bounds_of s.reach.bounds dims ≡ bound_at s.reach.bounds 0 ∷ bs)
              first_of zero l = absurd (omega arith)
              first_of (suc dims) l = first_bound s.reach dims

          pub opens : {far : std.Option Refusal} → far ≡ far_refused s.far → {first : ℕ} → first ≡ get_or sizes 0 0
              → OpensRows (rooms_fit (length ws) (length ns)) source ws ns sizes (Ok (record { rule = rule; far = far; rows = first; border = b })) ws' ns'
          unfolding written_in
          opens {far} e {first} f =
              record {
                words = checked.words;
                names = checked.names;
                refuses = λ g z. refused_only (sym z);
                closed = λ g z. refused_only (sym z);
                opened = λ o z. subst (RowsOpen (rooms_fit (length ws) (length ns)) source ws' sizes) (ok_same z) (record {
                  read = is.read;
                  is = is.is;
                  on = on true (not-false _ right);
                  holds = is.stood.holds;
                  lists = is.lists;
                  timed = is.timed;
                  flagged = is.flagged;
                  rule_fits = is.sized;
                  some_dims = is.some_dims;
                  some_fields = is.some_fields;
                  dims = known_sizes.many;
                  positive = positive sizes known_sizes.each;
                  few_cells = known_sizes.few;
                  each_size = known_sizes.each;
                  sized = sym sizes_are ∙ not-false _ right;
                  far = ap far_told e ∙ far_as s.far ∙ surveyed.far (relatives_in is.read.program) is.lists;
                  refuses = λ g q. far_some s.far (sym e ∙ q);
                  rows_are = f;
                  borders = borders_are;
                  near = λ q. let n = borders_near (ap (λ (r : Refusal). r.number) (sym (far_as s.far) ∙ ap far_told (sym e ∙ q))) in (omega (arith, f, n.0), omega (arith, f, n.1));
                });
              }
