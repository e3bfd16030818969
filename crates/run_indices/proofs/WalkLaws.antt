-- The laws of the walk over the tokens.
use Prim.Native.Nat.{ℕ, zero, suc, ◌+◌, ◌-◌, ◌<◌, ◌≤◌}
use native.Mathlib.Nat.{le_refl}
use native.Mathlib.Omega.{arith}
use mathlib.Core.Path.{◌≡◌, refl, sym, ap, ap₂, ◌∙◌}
use mathlib.Core.Bool.{Bool, true, false, ◌&&◌, ◌||◌}
use mathlib.Core.List.{List, [], ◌∷◌, ◌++◌, append_assoc}
use mathlib.Core.Option.{Option, some}
use lib.Dec.{eqb, ltb}
use lib.IntN.{ℤ}
use lib.ListN.{length, get_or, set, replicate}
use borrow.Author.Tests.{lt-ltb, le-ltb, ltb-true, eq-eqb, ne_eqb, eqb-true}
use Rattle.value.specs.Limits.{most_open}
use Rattle.std.specs.Prelude.{None, if◌then◌else◌}
use Rattle.value.proofs.Theorems.Laws.{never, and_both}
use Rattle.automaton.specs.Shape.{Bound}
use Rattle.token.specs.Kind.{keyword}
use Rattle.program.specs.Syntax.{Range}
use Rattle.cell_meaning.specs.Written.{Relative, relative_of, Written, written_in_index, written_of}
use Rattle.cell_meaning.specs.Places.{add_relative, add_relatives, own_place}
use Rattle.cell_meaning.specs.Promises.Stands.{rule_table, range_in, indices_in}
use Rattle.cell_meaning.specs.Links.{word_in, Table, table_of}
use Rattle.cell_meaning.specs.Promises.Listing.{is_index, behind, written_at, written_from, Writes}
use Rattle.cell_operands.proofs.TableLaws.{link_bounds}
use Rattle.program.specs.Refusal.{refusal}
use Rattle.program.specs.declared.Rule.{Rule}
use Rattle.run_meaning.specs.Admission.{too_far}
use Rattle.run_meaning.specs.Reach.{own_only, widen, widened}
use Rattle.run_meaning.specs.declared.Reach.{Reach}
use Rattle.run_meaning.specs.Promises.Fitting.{OwnOnly}
use Rattle.run_places.specs.Promises.Vectors.{ends, relative_at}
use Rattle.run_indices.specs.declared.Survey.{Survey}
use Rattle.run_indices.specs.Promises.Surveying.{Tally, goes_past, tallied, tally, Found, found, survey_of, listed_places, CountsAt, Surveyed}

-- ---- what stands at a position

or_last : (a b : Bool) → (a || b || true) ≡ true
or_last true b = refl
or_last false true = refl
or_last false false = refl

module _ (t : Table) (at : ℕ) {k : ℕ} (ek : k ≡ t.kind at) where
  pub index_here : {w : ℕ} → k ≡ 91 → w ≡ t.word3 at → ltb 0 w ≡ is_index t at
  unfolding is_index
  index_here e ew = sym (rw (← ek, ← ew, e))

  pub index_not : (k ≡ 91 → ⊥) → false ≡ is_index t at
  unfolding is_index
  index_not d = sym (rw (ne_eqb (t.kind at) 91 (λ u. d (ek ∙ u))))

  module _ {l : ℕ} (el : l ≡ t.past at) where
    pub behind_loop : k ≡ 12 → l ≡ behind t at
    unfolding behind
    behind_loop e = el ∙ sym (rw (← ek, e))

    pub behind_constant : k ≡ 5 → l ≡ behind t at
    unfolding behind
    behind_constant e = el ∙ sym (rw (← ek, e))

    pub behind_index : {b : Bool} → b ≡ is_index t at → b ≡ true → l ≡ behind t at
    unfolding behind
    behind_index eb e = el ∙ sym (rw (← eb, e, or_last (eqb (t.kind at) 12) (eqb (t.kind at) 5)))

  pub behind_one : {b : Bool} → (k ≡ 12 → ⊥) → (k ≡ 5 → ⊥) → b ≡ is_index t at → b ≡ false → at + 1 ≡ behind t at
  unfolding behind
  behind_one d d' eb e = sym (rw (ne_eqb (t.kind at) 12 (λ u. d (ek ∙ u)), ne_eqb (t.kind at) 5 (λ u. d' (ek ∙ u)), ← eb, e))

module _ (depth : ℕ) {k j : ℕ} (ek : k ≡ j) where
  pub opens_loop : k ≡ 12 → ltb depth 16 ≡ (eqb j keyword.forall && ltb depth 16)
  opens_loop e = sym (rw (eq-eqb j 12 (sym ek ∙ e)))

  pub opens_not : (k ≡ 12 → ⊥) → false ≡ (eqb j keyword.forall && ltb depth 16)
  opens_not d = sym (rw (ne_eqb j 12 (λ u. d (ek ∙ u))))

-- the number of open loops, by their ranges
opens_as : (a b : Bool) (m depth : ℕ) → m ≡ depth → b ≡ (a && ltb depth 16) → (a && ltb m most_open) ≡ b
opens_as a b m depth e eb = ap (λ (d : ℕ). a && ltb d 16) e ∙ sym eb

pub opens_deep : (a : Bool) (depth : ℕ) {b : Bool} → b ≡ (a && ltb depth 16) → b ≡ true → depth < 16
opens_deep a depth eb q = ltb-true depth 16 (and_both a (ltb depth 16) (sym eb ∙ q)).1

written_of_append : (rs qs : List Relative) → written_of (rs ++ qs) ≡ written_of rs ++ written_of qs
unfolding written_of
written_of_append [] qs = refl
written_of_append (r ∷ rs) qs =
    ap (λ (ws : List Written). written_in_index r.loops 0 r.elements ++ ws) (written_of_append rs qs)
    ∙ sym (append_assoc (written_in_index r.loops 0 r.elements) (written_of rs) (written_of qs))

module _ (t : Table) (loops : List Range) (at : ℕ) (part : List Relative) where
  written_index : is_index t at ≡ true → written_at t loops at part ≡ relative_of loops (indices_in t t.dims (at + 1))
  unfolding written_at is_index
  written_index q = let h = and_both (eqb (t.kind at) 91) (ltb 0 (t.word3 at)) q in rw (eqb-true (t.kind at) 91 h.0, h.1)

  written_none : is_index t at ≡ false → (eqb (t.kind at) keyword.forall && ltb (length loops) most_open) ≡ false → written_at t loops at part ≡ []
  unfolding written_at
  written_none q o = rw q (by (eqb (t.kind at) 12) (ltb (length loops) 16) o)
    where
      by : (a b : Bool) → (a && b) ≡ false → (if a then (if b then part else []) else []) ≡ []
      by true true e = never (sym e)
      by true false e = refl
      by false b e = refl

  pub written_loop : (eqb (t.kind at) keyword.forall && ltb (length loops) most_open) ≡ true → written_at t loops at part ≡ part
  unfolding written_at
  written_loop o = let h = and_both (eqb (t.kind at) 12) (ltb (length loops) 16) o in rw (h.0, h.1)

-- the relative index at a position, if there is a dimension
relative_here : (t : Table) (loops : List Range) (n at : ℕ) → 0 < n → relative_of loops (indices_in t n at) ≡ record { loops = loops; elements = indices_in t n at } ∷ []
unfolding indices_in
relative_here t loops zero at l = absurd (omega arith)
relative_here t loops (suc n) at l = refl

relative_none : (t : Table) (loops : List Range) (n at : ℕ) → n ≤ 0 → relative_of loops (indices_in t n at) ≡ []
unfolding indices_in
relative_none t loops zero at l = refl
relative_none t loops (suc n) at l = absurd (omega arith)

-- nothing more is found
found_none : (sizes : List ℕ) (dims : ℕ) (f : Found) (rs : List Relative) → rs ≡ [] → f ≡ found sizes dims f rs
unfolding tally written_of add_relatives
found_none sizes dims f rs e = sym (ap (found sizes dims f) e)

module _ (words : List ℕ) (rule : Rule) (sizes : List ℕ) (loops : List Range) (at : ℕ) {s : Survey} {b : Bool} (eb : b ≡ is_index (rule_table words rule) at) where
  pub counts_index : {r : Survey} → b ≡ true → 0 < rule.dims → survey_of r rule.dims ≡ found sizes rule.dims (survey_of s rule.dims) (relative_at words rule loops (at + 1) ∷ [])
      → CountsAt words rule sizes loops at s r
  counts_index q l e =
      record {
        says = λ part o.
            e ∙ ap (found sizes rule.dims (survey_of s rule.dims))
            (sym (written_index (rule_table words rule) loops at part (sym eb ∙ q) ∙ relative_here (rule_table words rule) loops rule.dims (at + 1) l));
      }

  pub counts_flat : b ≡ true → rule.dims ≤ 0 → CountsAt words rule sizes loops at s s
  counts_flat q l =
      record {
        says = λ part o.
            found_none sizes rule.dims (survey_of s rule.dims) _
            (written_index (rule_table words rule) loops at part (sym eb ∙ q) ∙ relative_none (rule_table words rule) loops rule.dims (at + 1) l);
      }

  pub counts_none : b ≡ false → CountsAt words rule sizes loops at s s
  counts_none q = record { says = λ part o. found_none sizes rule.dims (survey_of s rule.dims) _ (written_none (rule_table words rule) loops at part (sym eb ∙ q) o) }

-- ---- enough fuel

module _ (words : List ℕ) (n dims : ℕ) where
  abbrev table : Table
  table = table_of words n dims

  -- the walk goes forward
  pub behind_bounds : (at : ℕ) → at < n → (at < behind table at) × (behind table at ≤ n)
  unfolding behind
  behind_bounds at l = by (eqb (table.kind at) 12 || eqb (table.kind at) 5 || is_index table at)
    where
      by : (b : Bool) → (at < (if b then table.past at else at + 1)) × ((if b then table.past at else at + 1) ≤ n)
      by true = link_bounds n at (word_in words n 3 at) refl l
      by false = (omega arith, omega arith)

  ended : (fuel : ℕ) (loops : List Range) (at to : ℕ) → to ≤ at → written_from fuel table loops at to ≡ []
  unfolding written_from
  ended zero loops at to l = refl
  ended (suc fuel) loops at to l = rw (le-ltb at to l)

  enough : (f g : ℕ) (loops : List Range) (at to : ℕ) → to ≤ n → n < at + f → n < at + g → written_from f table loops at to ≡ written_from g table loops at to
  unfolding written_from
  enough zero g loops at to m a b = sym (ended g loops at to (omega arith))
  enough (suc f) zero loops at to m a b = ended (suc f) loops at to (omega arith)
  enough (suc f) (suc g) loops at to m a b = by (ltb at to) refl (enough f g)
    where
      part : ℕ → List Relative
      part h = written_at table loops at (written_from h table (loops ++ (range_in table (at + 1) ∷ [])) (table.inner at) (table.past at))

      by : (c : Bool) → ltb at to ≡ c
          → ((loops : List Range) (at to : ℕ) → to ≤ n → n < at + f → n < at + g → written_from f table loops at to ≡ written_from g table loops at to)
          → (if c then part f ++ written_from f table loops (behind table at) to else []) ≡ (if c then part g ++ written_from g table loops (behind table at) to else [])
      by false q more = refl
      by true q more =
          let l = ltb-true at to q in
          let i = link_bounds n at (word_in words n 2 at) refl (omega arith) in
          let p = link_bounds n at (word_in words n 3 at) refl (omega arith) in
          let h = behind_bounds at (omega arith) in
          ap₂ (λ (x y : List Relative). written_at table loops at x ++ y) (more _ (table.inner at) (table.past at) p.1 (omega (arith, i.0)) (omega (arith, i.0)))
          (more loops (behind table at) to m (omega (arith, h.0)) (omega (arith, h.0)))

-- ---- the tokens one after another

pub tally_append : (sizes : List ℕ) (s : Tally) (ws vs : List Written) → tally sizes s (ws ++ vs) ≡ tally sizes (tally sizes s ws) vs
unfolding tally
tally_append sizes s [] vs = refl
tally_append sizes s (w ∷ ws) vs = tally_append sizes (tallied sizes s w) ws vs

relatives_append : (dims : ℕ) (o : Option (List (List ℤ))) (rs qs : List Relative) → add_relatives dims o (rs ++ qs) ≡ add_relatives dims (add_relatives dims o rs) qs
unfolding add_relatives
relatives_append dims o [] qs = refl
relatives_append dims o (r ∷ rs) qs = relatives_append dims (add_relative dims o r) rs qs

found_append : (sizes : List ℕ) (dims : ℕ) (f : Found) (rs qs : List Relative) → found sizes dims f (rs ++ qs) ≡ found sizes dims (found sizes dims f rs) qs
found_append sizes dims f rs qs =
    ap₂ (λ (t : Tally) (o : Option (List (List ℤ))). record { tally = t; places = o })
    (ap (tally sizes f.tally) (written_of_append rs qs) ∙ tally_append sizes f.tally (written_of rs) (written_of qs)) (relatives_append dims f.places rs qs)

-- the open loops with the loop at a position
pub loops_opened : (words : List ℕ) (rule : Rule) (loops : List Range) (at : ℕ) {low high : ℕ} {more : List Range} → low ≡ word_in words rule.tokens 2 (at + 1)
    → high ≡ word_in words rule.tokens 3 (at + 1) → more ≡ loops ++ (ends low high ∷ []) → more ≡ loops ++ (range_in (rule_table words rule) (at + 1) ∷ [])
loops_opened words rule loops at el eh e = e ∙ ap₂ (λ (x y : ℕ). loops ++ (ends x y ∷ [])) el eh

module _ (words : List ℕ) (rule : Rule) where
  abbrev tb : Table
  tb = rule_table words rule

  -- what is written in the part of the loop at a position
  abbrev part_at : List Range → ℕ → List Relative
  part_at loops at = written_from (suc rule.tokens) tb (loops ++ (range_in tb (at + 1) ∷ [])) (tb.inner at) (tb.past at)

  -- a survey, with more relative indices
  abbrev count : List ℕ → Survey → List Relative → Found
  count sizes s rs = found sizes rule.dims (survey_of s rule.dims) rs

  -- what is written at a position, and behind it
  pub listed_step : (loops : List Range) (at to : ℕ) → to ≤ rule.tokens → at < to → listed_places words rule loops at to
      ≡ written_at tb loops at (part_at loops at) ++ listed_places words rule loops (behind tb at) to
  unfolding written_from
  listed_step loops at to m l =
      let n = rule.tokens in
      let i = link_bounds n at (word_in words n 2 at) refl (omega arith) in
      let p = link_bounds n at (word_in words n 3 at) refl (omega arith) in
      let h = behind_bounds words n rule.dims at (omega arith) in
      rw (lt-ltb at to l)
      (ap₂ (λ (x y : List Relative). written_at tb loops at x ++ y)
      (enough words n rule.dims n (suc n) _ (tb.inner at) (tb.past at) p.1 (omega (arith, i.0)) (omega (arith, i.0)))
      (enough words n rule.dims n (suc n) loops (behind tb at) to m (omega (arith, h.0)) (omega (arith, h.0))))

  pub less_left : (at to : ℕ) → to ≤ rule.tokens → at < to → {next : ℕ} → next ≡ behind tb at → to - next < to - at
  less_left at to m l e = let h = behind_bounds words rule.tokens rule.dims at (omega arith) in omega (arith, h.0, e)

  module _ (sizes : List ℕ) (loops : List Range) (from to : ℕ) (s : Survey) where
    -- what is written before a position is counted
    pub record Going (at : ℕ) (now : Survey) : Type 0 where
      pub onward : from ≤ at
      pub says : count sizes s (listed_places words rule loops from to) ≡ count sizes now (listed_places words rule loops at to)

    pub going_start : Going from s
    going_start = record { onward = le_refl from; says = refl }

    module _ {at : ℕ} {now : Survey} (g : Going at now) where
      -- one token more
      module _ (m : to ≤ rule.tokens) (l : at < to) {next : ℕ} (en : next ≡ behind tb at) {r r' : Survey} (er : r' ≡ r) where
        going_on : survey_of r rule.dims ≡ count sizes now (written_at tb loops at (part_at loops at)) → Going next r'
        going_on e =
            let h = behind_bounds words rule.tokens rule.dims at (omega arith) in
            record {
              onward = omega (arith, g.onward, h.0);
              says =
                  g.says ∙ ap (count sizes now) (listed_step loops at to m l) ∙ found_append sizes rule.dims (survey_of now rule.dims) _ _
                  ∙ ap₂ (found sizes rule.dims) (sym (ap (λ (x : Survey). survey_of x rule.dims) er ∙ e)) (ap (λ (i : ℕ). listed_places words rule loops i to) (sym en));
            }

        module _ {depth : ℕ} (deep : length loops ≡ depth) {b : Bool} (eb : b ≡ (eqb (tb.kind at) keyword.forall && ltb depth 16)) where
          pub going_plain : b ≡ false → CountsAt words rule sizes loops at now r → Going next r'
          going_plain q c = going_on (c.says _ (opens_as (eqb (tb.kind at) keyword.forall) b (length loops) depth deep eb ∙ q))

          pub going_loop : b ≡ true → {more : List Range} → more ≡ loops ++ (range_in tb (at + 1) ∷ []) → {inner past : ℕ} → inner ≡ tb.inner at → past ≡ tb.past at
              → survey_of r rule.dims ≡ count sizes now (listed_places words rule more inner past) → Going next r'
          going_loop q em ei ep e =
              let o = opens_as (eqb (tb.kind at) keyword.forall) b (length loops) depth deep eb ∙ q in
              let there = ap₂ (listed_places words rule _) ei ep ∙ ap (λ (x : List Range). listed_places words rule x (tb.inner at) (tb.past at)) em in
              going_on (e ∙ ap (count sizes now) (there ∙ sym (written_loop tb loops at _ o)))

      pub going_done : to ≤ at → survey_of now rule.dims ≡ count sizes s (listed_places words rule loops from to)
      going_done l =
          found_none sizes rule.dims (survey_of now rule.dims) _ (ended words rule.tokens rule.dims (suc rule.tokens) loops at to l) ∙ sym g.says

-- ---- the whole

-- once an index is too far, it stays the first
tally_far : (sizes : List ℕ) (place : ℕ) (bs : List Bound) (ws : List Written)
    → tally sizes (record { far = refusal 23 place; bounds = bs }) ws ≡ record { far = refusal 23 place; bounds = widened bs ws }
unfolding tally tallied widened
tally_far sizes place bs [] = refl
tally_far sizes place bs (w ∷ ws) = tally_far sizes place (tallied sizes (record { far = refusal 23 place; bounds = bs }) w).bounds ws

pub tally_all : (sizes : List ℕ) (bs : List Bound) (ws : List Written)
    → tally sizes (record { far = refusal 0 0; bounds = bs }) ws ≡ record { far = too_far sizes ws; bounds = widened bs ws }
unfolding tally tallied widened too_far goes_past
tally_all sizes bs [] = refl
tally_all sizes bs (w ∷ ws) = by (goes_past (get_or sizes w.dim 0) w.values) (tally_all sizes more ws)
  where
    more : List Bound
    more = set bs w.dim (widen (get_or bs w.dim own_only) w.values)

    by : (b : Bool) → tally sizes (record { far = refusal 0 0; bounds = more }) ws ≡ record { far = too_far sizes ws; bounds = widened more ws }
        → tally sizes (record { far = if b then refusal 23 w.place else refusal 0 0; bounds = more }) ws
        ≡ record { far = if b then refusal 23 w.place else too_far sizes ws; bounds = widened more ws }
    by true h = tally_far sizes w.place _ ws
    by false h = h

pub survey_done : (words : List ℕ) (rule : Rule) (sizes : List ℕ) {loops : List Range} → loops ≡ [] → {own : Reach} → OwnOnly own → {r : Survey}
    → survey_of r rule.dims ≡ found sizes rule.dims (survey_of (record { far = None; reach = own }) rule.dims) (listed_places words rule loops rule.body rule.tokens)
    → Surveyed words rule sizes r
survey_done words rule sizes {loops} none {own} o {r} e =
    record { far = λ rs w. ap (λ (x : Found). x.tally.far) (whole rs w); bounds = λ rs w. ap (λ (x : Found). x.tally.bounds) (whole rs w); places = λ rs w. ap (λ (x : Found). x.places) (whole rs w) }
  where
    whole : (rs : List Relative) → Writes (rule_table words rule) [] rule.body rule.tokens rs
        → survey_of r rule.dims ≡ record {
          tally = record { far = too_far sizes (written_of rs); bounds = widened (replicate rule.dims own_only) (written_of rs) };
          places = add_relatives rule.dims (some (own_place rule.dims ∷ [])) rs;
        }
    whole rs w =
        let n = rule.tokens in
        let f = suc n + w.enough in
        let q : listed_places words rule [] rule.body n ≡ rs =
        enough words n rule.dims (suc n) f [] rule.body n (le_refl n) (omega arith) (omega arith) ∙ w.says f (omega arith)
        in
        e ∙ ap (λ (ls : List Range). found sizes rule.dims (survey_of (record { far = None; reach = own }) rule.dims) (listed_places words rule ls rule.body n)) none ∙ ap (found sizes rule.dims _) q
        ∙ ap₂ (λ (t : Tally) (ps : Option (List (List ℤ))). record { tally = t; places = add_relatives rule.dims ps rs })
        (ap (λ (bs : List Bound). tally sizes (record { far = refusal 0 0; bounds = bs }) (written_of rs)) (o.bounds rule.dims) ∙ tally_all sizes (replicate rule.dims own_only) (written_of rs))
        (o.places rule.dims)
