-- The two kinds of reach cover a program: the box, and the list of its places. So property 3 holds of both.
use Prim.Native.Nat.{ℕ, zero, suc, ◌+◌, ◌-◌, ◌≤◌, ◌<◌}
use native.Mathlib.Nat.{le_refl, le_trans}
use native.Mathlib.Omega.{arith}
use mathlib.Core.Path.{◌≡◌, refl, sym, ap, ap₂, ◌∙◌, subst}
use mathlib.Core.Logic.{◌⊎◌, inl, inr}
use mathlib.Core.Bool.{Bool, true, false, not}
use mathlib.Core.List.Memᴰ
use mathlib.Core.List.{List, [], ◌∷◌, ◌++◌, map, Memᴰ}
use mathlib.Core.Option.{Option, none, some}
use lib.ListN.{length, get_or, set, length-set, length-replicate, get_or-eq_default}
use lib.Dec.{eqb, leb, ltb}
use borrow.Author.Tests.{leb-true, le-leb, eq-eqb, ltb-true, ltb-false, not-true}
use lib.IntN.{ℤ, pos, negsuc, nat_abs, ◌+ℤ◌, ◌-ℤ◌, +ℤ_comm, -ℤ-+ℤ_cancel}
use lib.Signed.{le_z}
use Rattle.value.proofs.Theorems.Truth.{or_either, or_second}
use Rattle.value.specs.Limits.{most_places}
use Rattle.std.specs.Prelude.{if◌then◌else◌}
use Rattle.value.specs.Worked.{span_of}
use Rattle.value.proofs.Theorems.Laws.{never, and_both, gap, sub_le}
use Rattle.automaton.specs.Listed.{list_of}
use Rattle.automaton.specs.Promises.ListedLaws.{length_list_of, get_or_list_of, mem_list_of}
use Rattle.automaton.specs.Step.{Blocks}
use Rattle.automaton.proofs.Theorems.Quiet.{Lawful, QuietAgrees, quiet_agrees}
use Rattle.automaton.specs.Shape.{cell_number, Bound, box_indices}
use Rattle.automaton.specs.Promises.ShapeLaws.{Inside, Within, AllWithin}
use Rattle.automaton.proofs.ShapeLaws.{number_lt, coordinates_number, mem_box}
use Rattle.automaton.specs.Grid.{differ}
use Rattle.automaton.proofs.Theorems.GridLaws.{differ_false}
use Rattle.program.specs.Syntax.{Range, no_range, Index, fixed, moving, Program}
use Rattle.cell_meaning.specs.Evaluation.{entry, offset, offsets, in_field}
use Rattle.cell_meaning.specs.Written.{Relative, relatives_in, Written, values_of, written_in_index, written_of, written_in}
use Rattle.cell_meaning.specs.Places.{uses, used_range, used_ranges, span, values_at, choice_at, choice_count, vectors_of, has_place, add_place, add_places, add_relative, add_relatives, own_place, places}
use Rattle.run_meaning.specs.Reach.{below, above, widen, own_only, widened, box, reach_from, reach, running}
use Rattle.run_meaning.proofs.Theorems.Locality.{All, all_left, all_right, InRanges, in_at, in_push, ReadsIn, Covers, Flagged, reaching_lawful}

-- ---- bounds

-- a range lies within a bound
abbrev Spans : Bound → Range → Type 0
Spans b r = (below r.low ≤ b.back) × (above r.high ≤ b.ahead)

spans_within : (b : Bound) (r : Range) (z : ℤ) → in_field r z ≡ true → Spans b r → Within b z
spans_within b r z e s = let both = and_both (le_z r.low z) (le_z z r.high) e in go r.low r.high z both.0 both.1 s.0 s.1
  where
    go : (low high z : ℤ) → le_z low z ≡ true → le_z z high ≡ true → below low ≤ b.back → above high ≤ b.ahead → Within b z
    go low (pos h) (pos n) p q l u = omega (arith, leb-true n h q)
    go low (negsuc h) (pos n) p q l u = never q
    go (pos a) high (negsuc n) p q l u = never p
    go (negsuc a) high (negsuc n) p q l u = omega (arith, leb-true n a p)

-- the bound of its dimension spans a written index
pub record Covered (bs : List Bound) (w : Written) : Type 0 where
  pub spans : w.dim < length bs → Spans (get_or bs w.dim own_only) w.values

abbrev Grows : Bound → Bound → Type 0
Grows a b = (a.back ≤ b.back) × (a.ahead ≤ b.ahead)

abbrev once : List Bound → ℕ → Range → List Bound
once bs e r = set bs e (widen (get_or bs e own_only) r)

once_grows : (bs : List Bound) (e : ℕ) (r : Range) (d : ℕ) → Grows (get_or bs d own_only) (get_or (once bs e r) d own_only)
once_grows [] e r d = omega arith
once_grows (b ∷ bs) zero r zero = omega arith
once_grows (b ∷ bs) zero r (suc d) = omega arith
once_grows (b ∷ bs) (suc e) r zero = omega arith
once_grows (b ∷ bs) (suc e) r (suc d) = once_grows bs e r d

once_spans : (bs : List Bound) (e : ℕ) (r : Range) → e < length bs → Spans (get_or (once bs e r) e own_only) r
once_spans [] e r l = absurd (omega arith)
once_spans (b ∷ bs) zero r l = omega arith
once_spans (b ∷ bs) (suc e) r l = once_spans bs e r (omega arith)

widened_grows : (bs : List Bound) (ws : List Written) (d : ℕ) → Grows (get_or bs d own_only) (get_or (widened bs ws) d own_only)
unfolding widened
widened_grows bs [] d = omega arith
widened_grows bs (w ∷ ws) d =
    let a = once_grows bs w.dim w.values d in
    let b = widened_grows (once bs w.dim w.values) ws d in
    (le_trans a.0 b.0, le_trans a.1 b.1)

pub widened_length : (bs : List Bound) (ws : List Written) → length (widened bs ws) ≡ length bs
unfolding widened
widened_length bs [] = refl
widened_length bs (w ∷ ws) = widened_length (once bs w.dim w.values) ws ∙ length-set bs _ _

pub widened_covers : (bs : List Bound) (ws : List Written) → All (Covered (widened bs ws)) ws
unfolding widened
widened_covers bs [] = tt
widened_covers bs (w ∷ ws) = (record { spans = λ l. first (subst (λ (n : ℕ). w.dim < n) (widened_length bs' ws ∙ length-set bs _ _) l) }, widened_covers bs' ws)
  where
    bs' : List Bound
    bs' = once bs w.dim w.values

    first : w.dim < length bs → Spans (get_or (widened bs' ws) w.dim own_only) w.values
    first l =
        let a = once_spans bs w.dim w.values l in
        let b = widened_grows bs' ws w.dim in
        (le_trans a.0 b.0, le_trans a.1 b.1)

-- ---- one relative index lies in the box

le_refl_ℤ : (z : ℤ) → le_z z z ≡ true
le_refl_ℤ (pos n) = le-leb n n (le_refl n)
le_refl_ℤ (negsuc n) = le-leb n n (le_refl n)

offset_in : (loops : List Range) (vs : List ℤ) → InRanges loops vs → (i : Index) → in_field (values_of loops i) (offset vs i) ≡ true
offset_in loops vs h (fixed p z) = simp (le_refl_ℤ z)
offset_in loops vs h (moving p depth) = in_at loops vs h depth

-- each element of a relative index has a value of its range
abbrev pub Taken : List Range → List ℤ → List Index → Type 0
Taken loops vs is = All (λ i. in_field (values_of loops i) (offset vs i) ≡ true) is

taken_in : (loops : List Range) (vs : List ℤ) → InRanges loops vs → (is : List Index) → Taken loops vs is
taken_in loops vs h [] = tt
taken_in loops vs h (i ∷ is) = (offset_in loops vs h i, taken_in loops vs h is)

module _ (bs : List Bound) (loops : List Range) (vs : List ℤ) where
  element_within : (dims : ℕ) (is : List Index) (d k e : ℕ) → Taken loops vs is → k < dims → e ≡ d + k → d + dims ≤ length bs → All (Covered bs) (written_in_index loops d is)
      → Within (get_or bs e own_only) (entry (offsets dims vs is) k)
  unfolding offsets written_in_index
  element_within zero is d k e inside l q m h = absurd (omega arith)
  element_within (suc dims) [] d zero e inside l q m h = omega arith
  element_within (suc dims) [] d (suc k) e inside l q m h = element_within dims [] (suc d) k e tt (omega arith) (omega arith) (omega arith) h
  element_within (suc dims) (i ∷ is) d zero e inside l q m h =
      let same : e ≡ d = omega arith in
      rw same (spans_within (get_or bs d own_only) (values_of loops i) (offset vs i) inside.0 (h.0.spans (omega arith)))
  element_within (suc dims) (i ∷ is) d (suc k) e inside l q m h = element_within dims is (suc d) k e inside.1 (omega arith) (omega arith) (omega arith) h.1

all_within : (bs : List Bound) (ds : List ℤ) → length ds ≡ length bs → ((k : ℕ) → k < length bs → Within (get_or bs k own_only) (entry ds k)) → AllWithin bs ds
all_within [] [] e h = tt
all_within [] (d ∷ ds) e h = absurd (omega arith)
all_within (b ∷ bs) [] e h = absurd (omega arith)
all_within (b ∷ bs) (d ∷ ds) e h = (h 0 (omega arith), all_within bs ds (omega arith) (λ k l. h (suc k) (omega arith)))

pub offsets_length : (dims : ℕ) (vs : List ℤ) (is : List Index) → length (offsets dims vs is) ≡ dims
unfolding offsets
offsets_length zero vs is = refl
offsets_length (suc dims) vs [] = ap suc (offsets_length dims vs [])
offsets_length (suc dims) vs (i ∷ is) = ap suc (offsets_length dims vs is)

pub offsets_within : (bs : List Bound) (loops : List Range) (vs : List ℤ) (is : List Index) → Taken loops vs is
    → All (Covered bs) (written_in_index loops 0 is) → AllWithin bs (offsets (length bs) vs is)
offsets_within bs loops vs is inside h =
    all_within bs _ (offsets_length (length bs) vs is) (λ k l. element_within bs loops vs (length bs) is 0 k k inside l (omega arith) (omega arith) h)

-- ---- the box

pub box_length : (p : Program) → length (box p) ≡ p.dims
unfolding box
box_length p = widened_length _ (written_in p) ∙ length-replicate p.dims own_only

-- what a relative index can take lies in the box
box_reads : (bs : List Bound) (rs : List Relative) → All (Covered bs) (written_of rs) → All (ReadsIn (length bs) (box_indices bs)) rs
unfolding written_of
box_reads bs [] h = tt
box_reads bs (r ∷ rs) h =
    let w₁ = written_in_index r.loops 0 r.elements in (
      λ vs inside. (mem_box bs _).1 (offsets_within bs r.loops vs r.elements (taken_in r.loops vs inside r.elements) (all_left (Covered bs) w₁ (written_of rs) h)),
      box_reads bs rs (all_right (Covered bs) w₁ (written_of rs) h),
    )

-- the box covers every program
pub box_covers : (p : Program) → Covers p (box_indices (box p))
unfolding box written_in written_in_index
box_covers p = record {
  own = subst (λ (n : ℕ). Memᴰ (own_place n) (box_indices (box p))) (box_length p) ((mem_box (box p) _).1 (offsets_within (box p) [] [] [] tt tt));
  reads = subst (λ (n : ℕ). All (ReadsIn n (box_indices (box p))) (relatives_in p)) (box_length p) (box_reads (box p) (relatives_in p) (widened_covers _ (written_in p)));
}

-- ---- the values of a range, by number

-- the number of a value in its range
abbrev number_in : Range → ℤ → ℕ
number_in r z = nat_abs (z -ℤ r.low)

value_number : (r : Range) (z : ℤ) → in_field r z ≡ true → r.low +ℤ pos (number_in r z) ≡ z
value_number r z e =
    let both = and_both (le_z r.low z) (le_z z r.high) e in
    ap (λ (y : ℤ). r.low +ℤ y) (sym (gap r.low z both.0)) ∙ +ℤ_comm r.low (z -ℤ r.low) ∙ -ℤ-+ℤ_cancel z r.low

sub_nat : (a b : ℕ) → b ≤ a → nat_abs (pos a -ℤ pos b) ≡ a - b
sub_nat a zero h = omega arith
sub_nat a (suc b) h = ap nat_abs (sub_le a (suc b) h)

number_lt_span : (r : Range) (z : ℤ) → in_field r z ≡ true → number_in r z < span r
number_lt_span r z e = let both = and_both (le_z r.low z) (le_z z r.high) e in go r.low r.high z both.0 both.1
  where
    go : (low high z : ℤ) → le_z low z ≡ true → le_z z high ≡ true → nat_abs (z -ℤ low) < span_of low high
    go (pos a) (pos h) (pos n) p q =
        let l = leb-true a n p in
        let m = leb-true n h q in
        rw (le-leb a h (le_trans l m)) (omega (arith, sub_nat n a l, sub_nat h a (le_trans l m)))
    go (pos a) (negsuc h) (pos n) p q = never q
    go (pos a) high (negsuc n) p q = never p
    go (negsuc a) (pos h) (pos n) p q = omega (arith, leb-true n h q)
    go (negsuc a) (negsuc h) (pos n) p q = never q
    go (negsuc a) (pos h) (negsuc n) p q = omega (arith, ap nat_abs (sub_le (suc a) (suc n) (omega (arith, leb-true n a p))))
    go (negsuc a) (negsuc h) (negsuc n) p q =
        let l = leb-true n a p in
        let m = leb-true h n q in
        rw (le-leb h a (le_trans m l)) (omega (arith, ap nat_abs (sub_le (suc a) (suc n) (omega arith)), ap nat_abs (sub_le (suc a) (suc h) (omega arith))))

-- the numbers of values, each in its range
abbrev numbers_in : List Range → List ℤ → List ℕ
numbers_in [] vs = []
numbers_in (r ∷ rs) [] = []
numbers_in (r ∷ rs) (v ∷ vs) = number_in r v ∷ numbers_in rs vs

numbers_inside : (rs : List Range) (vs : List ℤ) → InRanges rs vs → Inside (map span rs) (numbers_in rs vs)
numbers_inside [] [] h = tt
numbers_inside (r ∷ rs) (v ∷ vs) h = (number_lt_span r v h.0, numbers_inside rs vs h.1)
numbers_inside [] (v ∷ vs) h = elim h [ ]
numbers_inside (r ∷ rs) [] h = elim h [ ]

values_numbers : (rs : List Range) (vs : List ℤ) → InRanges rs vs → values_at rs (numbers_in rs vs) ≡ vs
values_numbers [] [] h = refl
values_numbers (r ∷ rs) (v ∷ vs) h = ap₂ (λ (x : ℤ) (xs : List ℤ). x ∷ xs) (value_number r v h.0) (values_numbers rs vs h.1)
values_numbers [] (v ∷ vs) h = elim h [ ]
values_numbers (r ∷ rs) [] h = elim h [ ]

-- values in ranges are one of the choices
pub chosen : (rs : List Range) (vs : List ℤ) → InRanges rs vs → (e : ℕ) × (e < choice_count rs) × (choice_at rs e ≡ vs)
chosen rs vs h =
    let inside = numbers_inside rs vs h in (
      cell_number (map span rs) (numbers_in rs vs),
      number_lt (map span rs) (numbers_in rs vs) inside,
      ap (values_at rs) (coordinates_number (map span rs) (numbers_in rs vs) inside) ∙ values_numbers rs vs h,
    )

-- ---- the values of the variables that stand in a relative index

-- 0 for a variable that does not stand there
abbrev kept : List ℤ → List Index → ℕ → ℤ
kept vs is k = if uses k is then entry vs k else pos 0

in_list_of : (f : ℕ → Range) (g : ℕ → ℤ) (n : ℕ) → ((k : ℕ) → k < n → in_field (f k) (g k) ≡ true) → InRanges (list_of f n) (list_of g n)
unfolding list_of
in_list_of f g zero h = tt
in_list_of f g (suc n) h = in_push (list_of f n) (list_of g n) (f n) (g n) (in_list_of f g n (λ k l. h k (omega arith))) (h n (omega arith))

kept_in : (loops : List Range) (vs : List ℤ) → InRanges loops vs → (is : List Index) → InRanges (used_ranges loops is) (list_of (kept vs is) (length loops))
kept_in loops vs h is = in_list_of (used_range loops is) (kept vs is) (length loops) (λ k l. go k (uses k is))
  where
    go : (k : ℕ) (t : Bool) → in_field (if t then get_or loops k no_range else no_range) (if t then entry vs k else pos 0) ≡ true
    go k true = in_at loops vs h k
    go k false = refl

pub in_length : (rs : List Range) (vs : List ℤ) → InRanges rs vs → length vs ≡ length rs
in_length [] [] h = refl
in_length (r ∷ rs) (v ∷ vs) h = ap suc (in_length rs vs h.1)
in_length [] (v ∷ vs) h = elim h [ ]
in_length (r ∷ rs) [] h = elim h [ ]

-- a variable that stands there keeps its value
kept_entry : (loops : List Range) (vs : List ℤ) → InRanges loops vs → (is : List Index) (k : ℕ) → uses k is ≡ true
    → entry (list_of (kept vs is) (length loops)) k ≡ entry vs k
kept_entry loops vs h is k u = by (ltb k (length loops)) refl
  where
    by : (t : Bool) → ltb k (length loops) ≡ t → entry (list_of (kept vs is) (length loops)) k ≡ entry vs k
    by true e = get_or_list_of (kept vs is) (length loops) k (pos 0) (ltb-true k (length loops) e) ∙ rw u refl
    by false e =
        let l = ltb-false k (length loops) e in
        get_or-eq_default (list_of (kept vs is) (length loops)) (pos 0) {n = k} (omega (arith, length_list_of (kept vs is) (length loops)))
        ∙ sym (get_or-eq_default vs (pos 0) {n = k} (omega (arith, in_length loops vs h)))

-- the index vector depends on the variables that stand there alone
offsets_same : (dims : ℕ) (vs ws : List ℤ) (is : List Index) → ((k : ℕ) → uses k is ≡ true → entry vs k ≡ entry ws k) → offsets dims vs is ≡ offsets dims ws is
unfolding offsets
offsets_same zero vs ws is h = refl
offsets_same (suc dims) vs ws [] h = ap (λ (l : List ℤ). pos 0 ∷ l) (offsets_same dims vs ws [] (λ k u. never u))
offsets_same (suc dims) vs ws (fixed p z ∷ is) h = ap (λ (l : List ℤ). z ∷ l) (offsets_same dims vs ws is h)
offsets_same (suc dims) vs ws (moving p d ∷ is) h =
    ap₂ (λ (x : ℤ) (l : List ℤ). x ∷ l) (h d (rw (eq-eqb d d refl) refl)) (offsets_same dims vs ws is (λ k u. h k (or_second (eqb d k) u)))

-- every index vector that a relative index can take is listed
vectors_all : (dims : ℕ) (r : Relative) → ReadsIn dims (vectors_of dims r) r
unfolding vectors_of
vectors_all dims r vs inside =
    let rs = used_ranges r.loops r.elements in
    let ws = list_of (kept vs r.elements) (length r.loops) in
    let c = chosen rs ws (kept_in r.loops vs inside r.elements) in
    Memᴰ.cast (sym (ap (λ (l : List ℤ). offsets dims l r.elements) c.2 ∙ offsets_same dims ws vs r.elements (kept_entry r.loops vs inside r.elements)))
    (mem_list_of (λ e. offsets dims (choice_at rs e) r.elements) (choice_count rs) c.0 c.1)

-- ---- lists of places

not_differ : (a b : List ℤ) (t : Bool) → not (differ a b) ≡ true → b ≡ a
not_differ a b t e = sym (differ_false a b (not-true (differ a b) e))

has_place_mem : (ps : List (List ℤ)) (ds : List ℤ) → has_place ps ds ≡ true → Memᴰ ds ps
unfolding has_place
has_place_mem [] ds e = never e
has_place_mem (p ∷ ps) ds e = go (or_either (not (differ p ds)) (has_place ps ds) e) (has_place_mem ps ds)
  where
    go : (not (differ p ds) ≡ true) ⊎ (has_place ps ds ≡ true) → (has_place ps ds ≡ true → Memᴰ ds ps) → Memᴰ ds (p ∷ ps)
    go (inl q) rest = Memᴰ.head (not_differ p ds true q)
    go (inr q) rest = Memᴰ.tail (rest q)

-- in the list, if there is one
abbrev pub In : List ℤ → Option (List (List ℤ)) → Type 0
In ds none = Unit {0}
In ds (some ps) = Memᴰ ds ps

-- a list with a place more
abbrev pub added : List (List ℤ) → List ℤ → Bool → Bool → Option (List (List ℤ))
added ps ds t u = if t then some ps else if u then none else some (ps ++ (ds ∷ []))

place_kept : (o : Option (List (List ℤ))) (ds x : List ℤ) → In x o → In x (add_place o ds)
unfolding add_place
place_kept none ds x m = tt
place_kept (some ps) ds x m = go (has_place ps ds) (leb most_places (length ps))
  where
    go : (t u : Bool) → In x (added ps ds t u)
    go true u = m
    go false true = tt
    go false false = Memᴰ.append_left (ds ∷ []) m

place_added : (o : Option (List (List ℤ))) (ds : List ℤ) → In ds (add_place o ds)
unfolding add_place
place_added none ds = tt
place_added (some ps) ds = go (has_place ps ds) refl (leb most_places (length ps))
  where
    go : (t : Bool) → has_place ps ds ≡ t → (u : Bool) → In ds (added ps ds t u)
    go true e u = has_place_mem ps ds e
    go false e true = tt
    go false e false = Memᴰ.append_right ps (Memᴰ.head refl)

places_kept : (dss : List (List ℤ)) (o : Option (List (List ℤ))) (x : List ℤ) → In x o → In x (add_places o dss)
unfolding add_places
places_kept [] o x m = m
places_kept (ds ∷ dss) o x m = places_kept dss (add_place o ds) x (place_kept o ds x m)

places_added : (dss : List (List ℤ)) (o : Option (List (List ℤ))) (x : List ℤ) → Memᴰ x dss → In x (add_places o dss)
unfolding add_places
places_added [] o x m = absurd (Memᴰ.not-nil m)
places_added (ds ∷ dss) o x m = go (places_added dss (add_place o ds) x) (Memᴰ.cases_cons m)
  where
    go : (Memᴰ x dss → In x (add_places (add_place o ds) dss)) → (x ≡ ds) ⊎ Memᴰ x dss → In x (add_places (add_place o ds) dss)
    go rest (inl q) = places_kept dss (add_place o ds) x (subst (λ (y : List ℤ). In y (add_place o ds)) (sym q) (place_added o ds))
    go rest (inr q) = rest q

module _ (dims : ℕ) where
  abbrev pub if_few : Option (List (List ℤ)) → Relative → Bool → Option (List (List ℤ))
  if_few o r t = if t then none else add_places o (vectors_of dims r)

  relative_kept : (o : Option (List (List ℤ))) (r : Relative) (x : List ℤ) → In x o → In x (add_relative dims o r)
  unfolding add_relative
  relative_kept o r x m = go (ltb most_places (choice_count (used_ranges r.loops r.elements)))
    where
      go : (t : Bool) → In x (if_few o r t)
      go true = tt
      go false = places_kept (vectors_of dims r) o x m

  pub relative_added : (o : Option (List (List ℤ))) (r : Relative) (x : List ℤ) → Memᴰ x (vectors_of dims r) → In x (add_relative dims o r)
  unfolding add_relative
  relative_added o r x m = go (ltb most_places (choice_count (used_ranges r.loops r.elements)))
    where
      go : (t : Bool) → In x (if_few o r t)
      go true = tt
      go false = places_added (vectors_of dims r) o x m

  pub relatives_kept : (rs : List Relative) (o : Option (List (List ℤ))) (x : List ℤ) → In x o → In x (add_relatives dims o rs)
  unfolding add_relatives
  relatives_kept [] o x m = m
  relatives_kept (r ∷ rs) o x m = relatives_kept rs (add_relative dims o r) x (relative_kept o r x m)

  -- what each relative index can take is in the list, if there is one
  relatives_read : (rs : List Relative) (o : Option (List (List ℤ)))
      → All (λ r. (vs : List ℤ) → InRanges r.loops vs → In (offsets dims vs r.elements) (add_relatives dims o rs)) rs
  unfolding add_relatives
  relatives_read [] o = tt
  relatives_read (r ∷ rs) o = (
    λ vs inside. relatives_kept rs (add_relative dims o r) _ (relative_added o r _ (vectors_all dims r vs inside)),
    relatives_read rs (add_relative dims o r),
  )

-- a list of places covers its program
pub places_cover : (p : Program) (ps : List (List ℤ)) → places p ≡ some ps → Covers p ps
unfolding places
places_cover p ps e =
    record {
      own = subst (In (own_place p.dims)) e (relatives_kept p.dims (relatives_in p) _ (own_place p.dims) (Memᴰ.head refl));
      reads =
          subst (λ (o : Option (List (List ℤ))). All (λ r. (vs : List ℤ) → InRanges r.loops vs → In (offsets p.dims vs r.elements) o) (relatives_in p)) e
          (relatives_read p.dims (relatives_in p) _);
    }

-- ---- both kinds

pub reach_covers : (p : Program) → Covers p (reach p)
unfolding reach
reach_covers p = go (places p) refl
  where
    go : (o : Option (List (List ℤ))) → places p ≡ o → Covers p (reach_from (box p) o)
    go none e = box_covers p
    go (some ps) e = places_cover p ps e

-- on a grid of as many dimensions as the program has
pub running_lawful : (p : Program) (sizes : List ℕ) → length sizes ≡ p.dims → Flagged p → Lawful (running p sizes)
unfolding running
running_lawful p sizes dims flagged = reaching_lawful p (reach p) (reach_covers p) sizes dims flagged

-- property 3 of a program, with any blocks and over any number of steps
pub property_3 : (p : Program) (sizes : List ℕ) → length sizes ≡ p.dims → Flagged p → (block : Blocks (List ℤ)) (n t : ℕ) (g : List ℤ) → QuietAgrees (running p sizes) block n t g
property_3 p sizes dims flagged block n t g = quiet_agrees (running p sizes) (running_lawful p sizes dims flagged) block n t g
