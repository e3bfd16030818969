-- What the writer wrote, read back onto the earlier grid, gives the later one; and it passes the check of any run that has its time.
use Prim.Native.Nat.{ℕ, zero, suc, ◌+◌, ◌-◌, ◌*◌, ◌%◌, ◌≤◌, ◌<◌}
use native.Mathlib.Nat.{zero-add, add-zero, suc-mul, zero-mul, mod-lt, mul-add-mod_self_right, mod-eq_of_lt, le_refl, not-suc-le-zero}
use native.Mathlib.Omega.{arith}
use mathlib.Core.Path.{◌≡◌, refl, sym, ap, ap₂, ◌∙◌, subst}
use mathlib.Core.Logic.{◌⊎◌, inl, inr}
use mathlib.Core.Bool.{Bool, true, false, not, ◌&&◌}
use mathlib.Core.List.{List, [], ◌∷◌, ◌++◌, map}
use mathlib.Core.Option.{Option, some, none}
use lib.ListN.{length, get_or, set, length-set}
use lib.Seq.{get_or-set_same, get_or-set_other, ext_get_or}
use lib.Dec.{eqb, leb, ltb}
use lib.IntN.{ℤ, pos, negsuc, nat_abs, ◌+ℤ◌}
use lib.Signed.{le_z}
use borrow.Author.Tests.{ltb-true, ltb-false, eq-eqb, ne_eqb, eqb-true, eqb-false, lt-ltb, le-ltb, leb-true}
use Rattle.std.specs.Prelude.{if◌then◌else◌}
use Rattle.value.specs.Number.{within}
use Rattle.value.proofs.Theorems.Laws.{and_both, never}
use Rattle.automaton.specs.Listed.{list_of}
use Rattle.automaton.specs.Promises.ListedLaws.{length_list_of, get_or_list_of}
use Rattle.automaton.specs.Shape.{product, coordinates}
use Rattle.automaton.specs.Promises.ShapeLaws.{Inside, Positive}
use Rattle.automaton.proofs.ShapeLaws.{inside_length, coordinates_inside, number_coordinates}
use Rattle.automaton.specs.Grid.{cell_of, differ}
use Rattle.automaton.proofs.Theorems.GridLaws.{differ_false, cell_room}
use Rattle.program.specs.Syntax.{Range, range, no_range, Program}
use Rattle.cell_meaning.specs.Evaluation.{in_field}
use Rattle.program.specs.Refusal.{Refusal, refusal}
use Rattle.run_meaning.specs.Admission.{Request, all_between, good_sizes, good_rooms, good_times, too_far, out_of_field, admission}
use Rattle.cell_meaning.specs.Written.{written_in}
use Rattle.list_meaning.specs.Lines.{Said, time, cell, said}
use Rattle.list_meaning.specs.ListChecking.{Limits, limits_of, inside, all_fit, cell_line_number, time_number, line_number, time_behind, verdict, check_lines, check_list}
use Rattle.list_meaning.specs.Setting.{store_values, set_lines, set_block}
use Rattle.list_meaning.specs.Writing.{cell_line, shown, cells_text, written_text, Wanted, as_run, lower, writing_admission}
use Rattle.list_meaning.specs.Promises.Rereading.{All, Small, Writable, WritableField}
use Rattle.list_meaning.proofs.Rereading.{all_append, said_time, said_cell, said_nothing}
use Rattle.list_meaning.specs.Promises.Showing.{length_shown, writable_shown, fit_shown, kept_shown, ZeroToo, store_shown}

-- ---- storing the values of a cell

pub store_length : (vs : List (Option ℤ)) (g : List ℤ) (e : ℕ) → length (store_values g e vs) ≡ length g
unfolding store_values
store_length [] g e = refl
store_length (none ∷ vs) g e = store_length vs g (suc e)
store_length (some v ∷ vs) g e = store_length vs (set g e v) (suc e) ∙ length-set g e v

store_out : (vs g : List ℤ) (e k : ℕ) → (k < e) ⊎ (e + length vs ≤ k) → get_or (store_values g e (map some vs)) k (pos 0) ≡ get_or g k (pos 0)
unfolding store_values
store_out [] g e k h = refl
store_out (v ∷ vs) g e k (inl h) =
    store_out vs (set g e v) (suc e) k (inl (omega arith)) ∙ get_or-set_other g e k v (pos 0) (λ q. let w = q in omega arith)
store_out (v ∷ vs) g e k (inr h) =
    store_out vs (set g e v) (suc e) k (inr (omega arith)) ∙ get_or-set_other g e k v (pos 0) (λ q. let w = q in omega arith)

store_in : (vs g : List ℤ) (e j : ℕ) → j < length vs → e + length vs ≤ length g → get_or (store_values g e (map some vs)) (e + j) (pos 0) ≡ get_or vs j (pos 0)
unfolding store_values
store_in [] g e j l r = absurd (not-suc-le-zero l)
store_in (v ∷ vs) g e zero l r =
    ap (λ (k : ℕ). get_or (store_values (set g e v) (suc e) (map some vs)) k (pos 0)) (add-zero e)
    ∙ store_out vs (set g e v) (suc e) e (inl (le_refl (suc e))) ∙ get_or-set_same g e v (pos 0) (omega arith)
store_in (v ∷ vs) g e (suc j) l r =
    ap (λ (k : ℕ). get_or (store_values (set g e v) (suc e) (map some vs)) k (pos 0)) (let q : e + suc j ≡ suc e + j = omega arith in q)
    ∙ store_in vs (set g e v) (suc e) j (omega arith) (omega (arith, length-set g e v))

-- ---- lists of a cell's fields and coordinates

all_list_of : {A : Type 0} (P : A → Type 0) (f : ℕ → A) (n : ℕ) → ((k : ℕ) → k < n → P (f k)) → All P (list_of f n)
unfolding list_of
all_list_of P f zero h = tt
all_list_of P f (suc n) h = all_append P (list_of f n) (f n ∷ []) (all_list_of P f n (λ k l. h k (omega arith))) (h n (le_refl (suc n)), tt)

inside_small : (ns is : List ℕ) → Inside ns is → All (λ n. n ≤ 4096) ns → All Small is
inside_small [] [] h b = tt
inside_small (n ∷ ns) (i ∷ is) h b = (let x = h.0 in let y = b.0 in omega arith, inside_small ns is h.1 b.1)
inside_small [] (i ∷ is) h b = elim h [ ]
inside_small (n ∷ ns) [] h b = elim h [ ]

inside_true : (ns is : List ℕ) → Inside ns is → inside ns is ≡ true
unfolding inside
inside_true [] [] h = refl
inside_true (n ∷ ns) (i ∷ is) h = rw (lt-ltb i n h.0) (inside_true ns is h.1)
inside_true [] (i ∷ is) h = elim h [ ]
inside_true (n ∷ ns) [] h = elim h [ ]

fit_true : (rs : List Range) (vs : List ℤ) → ((k : ℕ) → k < length rs → k < length vs → in_field (get_or rs k no_range) (get_or vs k (pos 0)) ≡ true) → all_fit rs (map some vs) ≡ true
unfolding all_fit
fit_true rs [] h = refl
fit_true [] (v ∷ vs) h = refl
fit_true (r ∷ rs) (v ∷ vs) h = rw (h 0 (omega arith) (omega arith)) (fit_true rs vs (λ k a b. h (suc k) (omega arith) (omega arith)))

sizes_positive : (ns : List ℕ) → All (λ n. 1 ≤ n) ns → Positive ns
sizes_positive [] h = tt
sizes_positive (n ∷ ns) h = (h.0, sizes_positive ns h.1)

-- ---- the lines of the cells

-- what is asked of the sizes, the ranges and the two grids: at least one dimension of 1 to 4096 each, at least one field, grids of the right
-- length, and every entry of the later grid in the range of its field and writable
pub record Fit (sizes : List ℕ) (fields : List Range) (earlier later : List ℤ) : Type 0 where
  pub dims : 0 < length sizes
  pub positive : Positive sizes
  pub bounded : All (λ n. n ≤ 4096) sizes
  pub some_fields : 0 < length fields
  pub earlier_length : length earlier ≡ product sizes * length fields
  pub later_length : length later ≡ product sizes * length fields
  pub in_fields : (e : ℕ) → e < length later → in_field (get_or fields (e % length fields) no_range) (get_or later e (pos 0)) ≡ true
  pub writable : (e : ℕ) → e < length later → Writable (get_or later e (pos 0))

module _ (sizes : List ℕ) (fields : List Range) (flag : Option ℕ) (earlier later : List ℤ) (fit : Fit sizes fields earlier later) where
  module _ (c : ℕ) (l : c < product sizes) where
    there : Inside sizes (coordinates sizes c)
    there = coordinates_inside sizes c fit.positive l

    room : c * length fields + length fields ≤ length later
    room = cell_room c (product sizes) (length fields) (length later) l (sym fit.later_length)

    fields_length : (g : List ℤ) → length (cell_of (length fields) g c) ≡ length fields
    unfolding cell_of
    fields_length g = length_list_of _ (length fields)

    field_at : (g : List ℤ) (k : ℕ) → k < length fields → get_or (cell_of (length fields) g c) k (pos 0) ≡ get_or g (c * length fields + k) (pos 0)
    unfolding cell_of
    field_at g k h = get_or_list_of _ (length fields) k (pos 0) h

    all_writable : All WritableField (shown flag (cell_of (length fields) later c))
    unfolding cell_of
    all_writable = writable_shown flag (cell_of (length fields) later c) (all_list_of Writable _ (length fields) (λ k h. fit.writable (c * length fields + k) (omega (arith, room))))

    -- the line says the cell's index and its fields
    line_says : (rest : List ℕ) → said (cell_line (coordinates sizes c) (shown flag (cell_of (length fields) later c)) ++ 10 ∷ rest)
        ≡ cell (coordinates sizes c) (shown flag (cell_of (length fields) later c)) ∷ said rest
    line_says rest =
        said_cell (coordinates sizes c) (shown flag (cell_of (length fields) later c)) rest (omega (arith, inside_length sizes (coordinates sizes c) there, fit.dims))
        (omega (arith, length_shown flag (cell_of (length fields) later c), fields_length later, fit.some_fields)) (inside_small sizes (coordinates sizes c) there fit.bounded) all_writable

    -- and it is right
    line_right : (q : Limits) → q.sizes ≡ sizes → q.fields ≡ fields → q.flag ≡ flag → cell_line_number q (coordinates sizes c) (shown flag (cell_of (length fields) later c)) ≡ 0
    unfolding cell_line_number
    line_right q es ef eg =
        rw (
          es,
          ef,
          eg,
          eq-eqb (length (coordinates sizes c)) (length sizes) (inside_length sizes (coordinates sizes c) there),
          inside_true sizes (coordinates sizes c) there,
          le-ltb (length fields) (length (shown flag (cell_of (length fields) later c))) (omega (arith, length_shown flag (cell_of (length fields) later c), fields_length later)),
          fit_shown flag fields (cell_of (length fields) later c) (fit_true fields (cell_of (length fields) later c) (λ k a b. fits k a)),
          kept_shown flag (cell_of (length fields) later c),
        )
      where
        fits : (k : ℕ) → k < length fields → in_field (get_or fields k no_range) (get_or (cell_of (length fields) later c) k (pos 0)) ≡ true
        fits k h =
            ap₂ (λ (i : ℕ) (z : ℤ). in_field (get_or fields i no_range) z) (sym (mul-add-mod_self_right c (length fields) k ∙ mod-eq_of_lt h)) (field_at later k h)
            ∙ fit.in_fields (c * length fields + k) (omega (arith, room))

  -- ---- the text of the cells

  changed : ℕ → Bool
  changed c = differ (cell_of (length fields) earlier c) (cell_of (length fields) later c)

  text_from : ℕ → ℕ → List ℕ
  text_from n c = cells_text sizes (length fields) flag earlier later n c

  line_at : ℕ → List ℕ
  line_at c = cell_line (coordinates sizes c) (shown flag (cell_of (length fields) later c))

  said_at : ℕ → Said
  said_at c = cell (coordinates sizes c) (shown flag (cell_of (length fields) later c))

  -- what it says begins with the cell's line where the cell differs
  said_changed : (n c : ℕ) → c < product sizes → changed c ≡ true → said (text_from (suc n) c) ≡ said_at c ∷ said (text_from n (suc c))
  unfolding text_from line_at said_at changed cells_text
  said_changed n c l e =
      ap (λ (t : Bool). said (elim t [ true ↦ line_at c ++ 10 ∷ text_from n (suc c) | false ↦ text_from n (suc c) ])) e ∙ line_says c l (text_from n (suc c))

  said_same : (n c : ℕ) → changed c ≡ false → said (text_from (suc n) c) ≡ said (text_from n (suc c))
  unfolding text_from line_at changed cells_text
  said_same n c e = ap (λ (t : Bool). said (elim t [ true ↦ line_at c ++ 10 ∷ text_from n (suc c) | false ↦ text_from n (suc c) ])) e

  said_none : (c : ℕ) → said (text_from 0 c) ≡ []
  unfolding text_from cells_text
  said_none c = said_nothing

  -- ---- the check

  module _ (q : Limits) (same-sizes : q.sizes ≡ sizes) (same-fields : q.fields ≡ fields) (same_flag : q.flag ≡ flag) where
    check_on : (before : Option ℕ) (k : ℕ) (s : Said) (ss : List Said) → line_number q before s ≡ 0 → check_lines q before k (s ∷ ss) ≡ check_lines q (time_behind before s) (suc k) ss
    unfolding check_lines
    check_on before k s ss e = rw e

    check_cells : (n c : ℕ) → c + n ≡ product sizes → (t k : ℕ) → check_lines q (some t) k (said (text_from n c)) ≡ verdict 0 0
    unfolding said_at check_lines
    check_cells zero c e t k = ap (check_lines q (some t) k) (said_none c)
    check_cells (suc n) c e t k = by (changed c) refl (check_cells n (suc c) (omega arith))
      where
        by : (b : Bool) → changed c ≡ b → ((u j : ℕ) → check_lines q (some u) j (said (text_from n (suc c))) ≡ verdict 0 0)
            → check_lines q (some t) k (said (text_from (suc n) c)) ≡ verdict 0 0
        by true d h =
            let l : c < product sizes = omega arith in
            ap (check_lines q (some t) k) (said_changed n c l d) ∙ check_on (some t) k (said_at c) (said (text_from n (suc c))) (line_right c l q same-sizes same-fields same_flag) ∙ h t (suc k)
        by false d h = ap (check_lines q (some t) k) (said_same n c d) ∙ h t k

    check_written : (t : ℕ) → Small t → q.first ≤ t → t ≤ q.last → check_list q (written_text sizes (length fields) flag earlier later t) ≡ verdict 0 0
    unfolding check_list written_text text_from time_number
    check_written t small a b =
        ap (check_lines q none 1) (said_time t (text_from (product sizes) 0) small)
        ∙ check_on none 1 (time t) (said (text_from (product sizes) 0)) (rw (le-ltb t q.first a, le-ltb q.last t b))
        ∙ check_cells (product sizes) 0 (omega arith) t 2

  -- ---- setting

  -- the grid g is the later one in the cells below c, and the earlier one from there on
  record Between (g : List ℤ) (c : ℕ) : Type 0 where
    pub len : length g ≡ length later
    pub below : (e : ℕ) → e < c * length fields → get_or g e (pos 0) ≡ get_or later e (pos 0)
    pub above : (e : ℕ) → c * length fields ≤ e → get_or g e (pos 0) ≡ get_or earlier e (pos 0)

  between_start : Between earlier 0
  between_start = record {
    len = fit.earlier_length ∙ sym fit.later_length;
    below = λ e l. absurd (omega (arith, zero-mul (length fields)));
    above = λ e l. refl;
  }

  module _ (g : List ℤ) (c : ℕ) (l : c < product sizes) (h : Between g c) where
    stored : List ℤ
    stored = store_values g (c * length fields) (map some (cell_of (length fields) later c))

    -- an entry below the next cell is in a cell before c, or in c
    either : (e : ℕ) → e < suc c * length fields → (e < c * length fields) ⊎ ((k : ℕ) × (k < length fields) × (e ≡ c * length fields + k))
    either e le = by (ltb e (c * length fields)) refl
      where
        by : (t : Bool) → ltb e (c * length fields) ≡ t → (e < c * length fields) ⊎ ((k : ℕ) × (k < length fields) × (e ≡ c * length fields + k))
        by true q = inl (ltb-true e (c * length fields) q)
        by false q = inr (e - c * length fields, omega (arith, suc-mul c (length fields), ltb-false e (c * length fields) q), omega (arith, ltb-false e (c * length fields) q))

    between_stored : Between stored (suc c)
    unfolding stored
    between_stored = record { len = store_length (map some (cell_of (length fields) later c)) g (c * length fields) ∙ h.len; below = λ e le. low e (either e le); above = high }
      where
        low : (e : ℕ) → (e < c * length fields) ⊎ ((k : ℕ) × (k < length fields) × (e ≡ c * length fields + k)) → get_or stored e (pos 0) ≡ get_or later e (pos 0)
        low e (inl q) = store_out (cell_of (length fields) later c) g (c * length fields) e (inl q) ∙ h.below e q
        low e (inr (k, lk, q)) =
            ap (λ (x : ℕ). get_or stored x (pos 0)) q
            ∙ store_in (cell_of (length fields) later c) g (c * length fields) k (omega (arith, fields_length c l later)) (omega (arith, fields_length c l later, room c l, h.len))
            ∙ field_at c l later k lk ∙ ap (λ (x : ℕ). get_or later x (pos 0)) (sym q)

        high : (e : ℕ) → suc c * length fields ≤ e → get_or stored e (pos 0) ≡ get_or earlier e (pos 0)
        high e le =
            store_out (cell_of (length fields) later c) g (c * length fields) e (inr (omega (arith, fields_length c l later, suc-mul c (length fields))))
            ∙ h.above e (omega (arith, suc-mul c (length fields)))

    between_same : changed c ≡ false → Between g (suc c)
    unfolding changed
    between_same d = record { len = h.len; below = λ e le. low e (either e le); above = λ e le. h.above e (omega (arith, suc-mul c (length fields))) }
      where
        low : (e : ℕ) → (e < c * length fields) ⊎ ((k : ℕ) × (k < length fields) × (e ≡ c * length fields + k)) → get_or g e (pos 0) ≡ get_or later e (pos 0)
        low e (inl q) = h.below e q
        low e (inr (k, lk, q)) =
            h.above e (omega arith) ∙ ap (λ (x : ℕ). get_or earlier x (pos 0)) q ∙ sym (field_at c l earlier k lk)
            ∙ ap (λ (a : List ℤ). get_or a k (pos 0)) (differ_false (cell_of (length fields) earlier c) (cell_of (length fields) later c) d)
            ∙ field_at c l later k lk ∙ ap (λ (x : ℕ). get_or later x (pos 0)) (sym q)

  between_end : (g : List ℤ) (c : ℕ) → c ≡ product sizes → Between g c → g ≡ later
  between_end g c e h =
      ext_get_or (pos 0) g later h.len
      (λ i l. h.below i (let p = ap (λ (x : ℕ). x * length fields) e in omega (arith, h.len, fit.later_length)))

  -- a flag that is 0 in the later grid is 0 in the earlier one
  abbrev Stays : Type 0
  Stays = (f c : ℕ) → flag ≡ some f → f < length fields → c < product sizes → get_or later (c * length fields + f) (pos 0) ≡ pos 0 → get_or earlier (c * length fields + f) (pos 0) ≡ pos 0

  -- then what a line sets is all fields of its cell
  line_sets : Stays → (g : List ℤ) (c : ℕ) → c < product sizes → Between g c
      → store_values g (c * length fields) (shown flag (cell_of (length fields) later c)) ≡ store_values g (c * length fields) (map some (cell_of (length fields) later c))
  line_sets stays g c l h = store_shown flag (cell_of (length fields) later c) g (c * length fields) (by flag refl)
    where
      by : (o : Option ℕ) → flag ≡ o → ZeroToo o (cell_of (length fields) later c) g (c * length fields)
      by none e = tt
      by (some f) e =
          λ m z.
          let k : f < length fields = omega (arith, m, fields_length c l later) in
          h.above (c * length fields + f) (omega arith) ∙ stays f c e k l (sym (field_at c l later f k) ∙ z)

  set_cells : Stays → (t n c : ℕ) → c + n ≡ product sizes → (g : List ℤ) → Between g c → set_lines sizes (length fields) t true g (said (text_from n c)) ≡ later
  unfolding set_lines said_at stored
  set_cells stays t zero c e g h = ap (set_lines sizes (length fields) t true g) (said_none c) ∙ between_end g c (omega arith) h
  set_cells stays t (suc n) c e g h = by (changed c) refl (set_cells stays t n (suc c) (omega arith))
    where
      by : (b : Bool) → changed c ≡ b → ((g' : List ℤ) → Between g' (suc c) → set_lines sizes (length fields) t true g' (said (text_from n (suc c))) ≡ later)
          → set_lines sizes (length fields) t true g (said (text_from (suc n) c)) ≡ later
      by true d k =
          let l : c < product sizes = omega arith in
          ap (set_lines sizes (length fields) t true g) (said_changed n c l d)
          ∙ ap (λ (x : ℕ). set_lines sizes (length fields) t true (store_values g (x * length fields) (shown flag (cell_of (length fields) later c))) (said (text_from n (suc c)))) (number_coordinates sizes c fit.positive l)
          ∙ ap (λ (x : List ℤ). set_lines sizes (length fields) t true x (said (text_from n (suc c)))) (line_sets stays g c l h)
          ∙ k _ (between_stored g c l h)
      by false d k = ap (set_lines sizes (length fields) t true g) (said_same n c d) ∙ k g (between_same g c (omega arith) h d)

  -- the lines of another block do nothing
  skip_cells : (t n c : ℕ) → c + n ≡ product sizes → (g : List ℤ) → set_lines sizes (length fields) t false g (said (text_from n c)) ≡ g
  unfolding set_lines said_at
  skip_cells t zero c e g = ap (set_lines sizes (length fields) t false g) (said_none c)
  skip_cells t (suc n) c e g = by (changed c) refl (skip_cells t n (suc c) (omega arith) g)
    where
      by : (b : Bool) → changed c ≡ b → set_lines sizes (length fields) t false g (said (text_from n (suc c))) ≡ g
          → set_lines sizes (length fields) t false g (said (text_from (suc n) c)) ≡ g
      by true d k = ap (set_lines sizes (length fields) t false g) (said_changed n c (omega arith) d) ∙ k
      by false d k = ap (set_lines sizes (length fields) t false g) (said_same n c d) ∙ k

  set_written : (t u : ℕ) → Small t → (g : List ℤ) → set_block sizes (length fields) (written_text sizes (length fields) flag earlier later t) u g
      ≡ set_lines sizes (length fields) u (eqb t u) g (said (text_from (product sizes) 0))
  unfolding set_block written_text set_lines text_from
  set_written t u small g = ap (set_lines sizes (length fields) u false g) (said_time t (text_from (product sizes) 0) small)

  leads_there : Stays → (t : ℕ) → Small t → set_block sizes (length fields) (written_text sizes (length fields) flag earlier later t) t earlier ≡ later
  leads_there stays t small =
      set_written t t small earlier
      ∙ ap (λ (b : Bool). set_lines sizes (length fields) t b earlier (said (text_from (product sizes) 0))) (eq-eqb t t refl)
      ∙ set_cells stays t (product sizes) 0 (omega arith) earlier between_start

  at_no_other_time : (t u : ℕ) → Small t → (t ≡ u → ⊥) → (g : List ℤ) → set_block sizes (length fields) (written_text sizes (length fields) flag earlier later t) u g ≡ g
  at_no_other_time t u small d g =
      set_written t u small g
      ∙ ap (λ (b : Bool). set_lines sizes (length fields) u b g (said (text_from (product sizes) 0))) (ne_eqb t u d)
      ∙ skip_cells u (product sizes) 0 (omega arith) g

-- ---- the writer's checks

-- what holds of the program of every accepted source: a dimension, a field, and ranges whose ends are written with a sign and a literal
pub record Declared (p : Program) : Type 0 where
  pub dims : 0 < p.dims
  pub some_fields : 0 < length p.fields
  pub ends : (k : ℕ) → k < length p.fields → Writable (get_or p.fields k no_range).low × Writable (get_or p.fields k no_range).high

-- a value between two writable ones
below_writable : (n : ℕ) (hi : ℤ) → Writable hi → le_z (pos n) hi ≡ true → Writable (pos n)
below_writable n (pos m) b h = omega (arith, leb-true n m h)
below_writable n (negsuc m) b h = never h

above_writable : (lo : ℤ) (n : ℕ) → Writable lo → le_z lo (negsuc n) ≡ true → Writable (negsuc n)
above_writable (pos m) n a h = never h
above_writable (negsuc m) n a h = omega (arith, leb-true n m h)

between_writable : (lo hi z : ℤ) → Writable lo → Writable hi → within lo hi z ≡ true → Writable z
between_writable lo hi (pos n) a b h = below_writable n hi b (and_both (le_z lo (pos n)) (le_z (pos n) hi) h).1
between_writable lo hi (negsuc n) a b h = above_writable lo n a (and_both (le_z lo (negsuc n)) (le_z (negsuc n) hi) h).0

-- what is told by sizes that are right
pub sizes_told : (ns : List ℕ) → all_between 1 4096 ns ≡ true → Positive ns × All (λ n. n ≤ 4096) ns
unfolding all_between
sizes_told [] h = (tt, tt)
sizes_told (n ∷ ns) h =
    let x = and_both (leb 1 n && leb n 4096) (all_between 1 4096 ns) h in
    let y = and_both (leb 1 n) (leb n 4096) x.0 in
    let r = sizes_told ns x.1 in
    ((leb-true 1 n y.0, r.0), (leb-true n 4096 y.1, r.1))

-- what is told by entries that are in their fields
entries_told : (fields : List Range) (e : ℕ) (zs : List ℤ) → (out_of_field fields e zs).number ≡ 0
    → (k : ℕ) → k < length zs → in_field (get_or fields ((e + k) % length fields) no_range) (get_or zs k (pos 0)) ≡ true
unfolding out_of_field
entries_told fields e [] h k l = absurd (not-suc-le-zero l)
entries_told fields e (z ∷ zs) h k l = by (in_field (get_or fields (e % length fields) no_range) z) refl h k l (entries_told fields (suc e) zs)
  where
    by : (b : Bool) → in_field (get_or fields (e % length fields) no_range) z ≡ b → (if b then out_of_field fields (suc e) zs else refusal 24 e).number ≡ 0
        → (k : ℕ) → k < suc (length zs)
        → ((out_of_field fields (suc e) zs).number ≡ 0 → (j : ℕ) → j < length zs → in_field (get_or fields ((suc e + j) % length fields) no_range) (get_or zs j (pos 0)) ≡ true)
        → in_field (get_or fields ((e + k) % length fields) no_range) (get_or (z ∷ zs) k (pos 0)) ≡ true
    by true q h zero l r = ap (λ (i : ℕ). in_field (get_or fields (i % length fields) no_range) z) (add-zero e) ∙ q
    by true q h (suc j) l r =
        ap (λ (i : ℕ). in_field (get_or fields (i % length fields) no_range) (get_or zs j (pos 0))) (let w : e + suc j ≡ suc e + j = omega arith in w) ∙ r h j (omega arith)
    by false q h k l r = absurd (omega arith)

-- what is told by a run that is admitted
pub record Told (p : Program) (q : Request) : Type 0 where
  pub sizes : good_sizes p q.sizes ≡ true
  pub rooms : good_rooms p q ≡ true
  pub times : good_times q.start q.steps ≡ true
  pub entries : (out_of_field p.fields 0 q.grid).number ≡ 0

pub admission_told : (p : Program) (q : Request) → (admission p q).number ≡ 0 → Told p q
unfolding admission
admission_told p q h =
    by (good_sizes p q.sizes) (good_rooms p q) (good_times q.start q.steps) (eqb (too_far q.sizes (written_in p)).number 0) refl refl refl refl h
  where
    by : (a b c d : Bool) → good_sizes p q.sizes ≡ a → good_rooms p q ≡ b → good_times q.start q.steps ≡ c → eqb (too_far q.sizes (written_in p)).number 0 ≡ d
        → (if not a then refusal 20 0 else if not b then refusal 21 0 else if not c then refusal 22 0 else if not d then too_far q.sizes (written_in p) else out_of_field p.fields 0 q.grid).number ≡ 0
        → Told p q
    by false b c d ea eb ec ed h = absurd (omega arith)
    by true false c d ea eb ec ed h = absurd (omega arith)
    by true true false d ea eb ec ed h = absurd (omega arith)
    by true true true false ea eb ec ed h = absurd (eqb-false (too_far q.sizes (written_in p)).number 0 ed h)
    by true true true true ea eb ec ed h = record { sizes = ea; rooms = eb; times = ec; entries = h }

pub lower_told : (a b : Refusal) → (lower a b).number ≡ 0 → (a.number ≡ 0) × (b.number ≡ 0)
lower_told a b h = by (eqb a.number 0) (eqb b.number 0) (ltb b.number a.number) refl refl h
  where
    by : (s t u : Bool) → eqb a.number 0 ≡ s → eqb b.number 0 ≡ t → (if s then b else if t then a else if u then b else a).number ≡ 0 → (a.number ≡ 0) × (b.number ≡ 0)
    by true t u es et h = (eqb-true a.number 0 es, h)
    by false true u es et h = absurd (eqb-false a.number 0 es h)
    by false false true es et h = absurd (eqb-false b.number 0 et h)
    by false false false es et h = absurd (eqb-false a.number 0 es h)

-- a time that is no negative number, and small
time_told : (t : ℤ) → good_times t (pos 0) ≡ true → Small (nat_abs t)
unfolding good_times
time_told (pos n) h =
    let x = and_both (le_z (pos 0) (pos n) && le_z (pos 0) (pos 0)) (le_z (pos n +ℤ pos 0) (pos 2147483647)) h in
    let y : n + 0 ≤ 2147483647 = leb-true (n + 0) 2147483647 x.1 in
    omega arith
time_told (negsuc n) h = never h

entries_length : (p : Program) (q : Wanted) (g : List ℤ) → good_rooms p (as_run q g) ≡ true → length g ≡ product q.sizes * length p.fields
unfolding good_rooms
entries_length p q g h =
    let x = and_both (eqb (length g) (product q.sizes * length p.fields) && eqb (length g) (length g)) (eqb (product q.sizes) (product q.sizes)) h in
    eqb-true (length g) (product q.sizes * length p.fields) (and_both (eqb (length g) (product q.sizes * length p.fields)) (eqb (length g) (length g)) x.0).0

fit_told : (p : Program) (q : Wanted) → Declared p → Told p (as_run q q.earlier) → Told p (as_run q q.later) → Fit q.sizes p.fields q.earlier q.later
unfolding good_sizes good_rooms
fit_told p q d a b =
    let x = and_both (eqb (length q.sizes) p.dims && all_between 1 4096 q.sizes) (leb (product q.sizes) 1048576) a.sizes in
    let y = and_both (eqb (length q.sizes) p.dims) (all_between 1 4096 q.sizes) x.0 in
    let s = sizes_told q.sizes y.1 in
    let later : length q.later ≡ product q.sizes * length p.fields = entries_length p q q.later b.rooms in
    let inside_field : (e : ℕ) → e < length q.later → in_field (get_or p.fields (e % length p.fields) no_range) (get_or q.later e (pos 0)) ≡ true =
    λ e l. ap (λ (i : ℕ). in_field (get_or p.fields (i % length p.fields) no_range) (get_or q.later e (pos 0))) (sym (zero-add e)) ∙ entries_told p.fields 0 q.later b.entries e l in
    record {
      dims = omega (arith, eqb-true (length q.sizes) p.dims y.0, d.dims);
      positive = s.0;
      bounded = s.1;
      some_fields = d.some_fields;
      earlier_length = entries_length p q q.earlier a.rooms;
      later_length = later;
      in_fields = inside_field;
      writable = λ e l.
          let k = d.ends (e % length p.fields) (mod-lt e {m = length p.fields} d.some_fields) in
          between_writable (get_or p.fields (e % length p.fields) no_range).low (get_or p.fields (e % length p.fields) no_range).high (get_or q.later e (pos 0)) k.0 k.1 (inside_field e l);
    }

-- ---- the flag

-- the field that serves as flag, if any, has the range 0..1
abbrev pub Flagged : List Range → Option ℕ → Type 0
Flagged fields none = Unit {0}
Flagged fields (some f) = get_or fields f no_range ≡ range (pos 0) (pos 1)

-- no cell of two grids, of so many cells with so many fields, has a flag that is 1 in the earlier and 0 in the later one
abbrev pub NoFlagFalls : Option ℕ → ℕ → ℕ → List ℤ → List ℤ → Type 0
NoFlagFalls none cells fields earlier later = Unit {0}
NoFlagFalls (some f) cells fields earlier later =
    (c : ℕ) → c < cells → get_or earlier (c * fields + f) (pos 0) ≡ pos 1 → get_or later (c * fields + f) (pos 0) ≡ pos 0 → ⊥

-- a value in 0..1 is 0 or 1
pub zero_or_one : (z : ℤ) → in_field (range (pos 0) (pos 1)) z ≡ true → (z ≡ pos 0) ⊎ (z ≡ pos 1)
zero_or_one (pos zero) e = inl refl
zero_or_one (pos (suc zero)) e = inr refl
zero_or_one (pos (suc (suc n))) e = absurd (let l = leb-true (suc (suc n)) 1 (and_both (leb 0 (suc (suc n))) (leb (suc (suc n)) 1) e).1 in omega arith)
zero_or_one (negsuc n) e = never e

-- in a grid whose entries are in their fields, every flag is 0 or 1
pub flag_in_range : (fields : List Range) (f : ℕ) → f < length fields → Flagged fields (some f) → (g : List ℤ) → (out_of_field fields 0 g).number ≡ 0
    → (c : ℕ) → c * length fields + f < length g → (get_or g (c * length fields + f) (pos 0) ≡ pos 0) ⊎ (get_or g (c * length fields + f) (pos 0) ≡ pos 1)
flag_in_range fields f has flagged g h c l =
    zero_or_one (get_or g (c * length fields + f) (pos 0))
    (ap (λ (r : Range). in_field r (get_or g (c * length fields + f) (pos 0))) (sym flagged)
    ∙ ap (λ (i : ℕ). in_field (get_or fields i no_range) (get_or g (c * length fields + f) (pos 0))) (sym (mod-eq_of_lt has) ∙ sym (mul-add-mod_self_right c (length fields) f) ∙ ap (λ (i : ℕ). i % length fields) (sym (zero-add (c * length fields + f))))
    ∙ entries_told fields 0 g h (c * length fields + f) l)

-- ---- the theorem

-- the text that the writer gives for a program and what is wanted
abbrev pub text_of : Program → Option ℕ → Wanted → List ℕ
text_of p flag q = written_text q.sizes (length p.fields) flag q.earlier q.later (nat_abs q.time)

pub record RoundTrip (p : Program) (flag : Option ℕ) (q : Wanted) : Type 0 where
  -- the text passes the check of every run on these sizes that has its time
  pub passes : (r : Request) → r.sizes ≡ q.sizes → nat_abs r.start ≤ nat_abs q.time → nat_abs q.time ≤ nat_abs r.start + nat_abs r.steps
      → check_list (limits_of p flag r) (text_of p flag q) ≡ verdict 0 0
  -- its block, set on the earlier grid, gives the later one, where no flag falls
  pub leads : NoFlagFalls flag (product q.sizes) (length p.fields) q.earlier q.later
      → set_block q.sizes (length p.fields) (text_of p flag q) (nat_abs q.time) q.earlier ≡ q.later
  -- it has no block of another time
  pub alone : (u : ℕ) → (nat_abs q.time ≡ u → ⊥) → (g : List ℤ) → set_block q.sizes (length p.fields) (text_of p flag q) u g ≡ g

pub round_trip : (p : Program) (flag : Option ℕ) (q : Wanted) → Declared p → Flagged p.fields flag → (writing_admission p q).number ≡ 0 → RoundTrip p flag q
unfolding writing_admission
round_trip p flag q d flagged h =
    let both = lower_told (admission p (as_run q q.earlier)) (admission p (as_run q q.later)) h in
    let a = admission_told p (as_run q q.earlier) both.0 in
    let b = admission_told p (as_run q q.later) both.1 in
    let fit = fit_told p q d a b in
    let small = time_told q.time a.times in
    record {
      passes = λ r e low high. check_written q.sizes p.fields flag q.earlier q.later fit (limits_of p flag r) e refl refl (nat_abs q.time) small low high;
      leads = λ falls. leads_there q.sizes p.fields flag q.earlier q.later fit (stays a.entries fit.earlier_length falls) (nat_abs q.time) small;
      alone = λ u n g. at_no_other_time q.sizes p.fields flag q.earlier q.later fit (nat_abs q.time) u small n g;
    }
  where
    stays : (out_of_field p.fields 0 q.earlier).number ≡ 0 → length q.earlier ≡ product q.sizes * length p.fields
        → NoFlagFalls flag (product q.sizes) (length p.fields) q.earlier q.later
        → (f c : ℕ) → flag ≡ some f → f < length p.fields → c < product q.sizes
        → get_or q.later (c * length p.fields + f) (pos 0) ≡ pos 0 → get_or q.earlier (c * length p.fields + f) (pos 0) ≡ pos 0
    stays entries len falls f c e has l late =
        let known : Flagged p.fields (some f) = subst (Flagged p.fields) e flagged in
        let none_falls : NoFlagFalls (some f) (product q.sizes) (length p.fields) q.earlier q.later =
        subst (λ (o : Option ℕ). NoFlagFalls o (product q.sizes) (length p.fields) q.earlier q.later) e falls in
        let room : c * length p.fields + length p.fields ≤ length q.earlier = cell_room c (product q.sizes) (length p.fields) (length q.earlier) l (sym len) in
        by (flag_in_range p.fields f has known q.earlier entries c (omega arith)) (none_falls c l)
      where
        by : {z : ℤ} → (z ≡ pos 0) ⊎ (z ≡ pos 1) → (z ≡ pos 1 → get_or q.later (c * length p.fields + f) (pos 0) ≡ pos 0 → ⊥) → z ≡ pos 0
        by (inl x) no-fall = x
        by (inr x) no-fall = absurd (no-fall x late)
