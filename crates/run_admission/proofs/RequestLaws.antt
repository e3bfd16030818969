-- Sizes, rooms and times: what each test of the code says of the definition of replies 20 to 22.
use mathlib.Core.Path.{◌≡◌, refl, sym, ap, ◌∙◌, subst}
use mathlib.Core.Bool.{Bool, true, false, not, ◌&&◌}
use mathlib.Core.List.{List, [], ◌∷◌}
use Prim.Native.Nat.{ℕ, zero, suc, ◌+◌, ◌-◌, ◌*◌, ◌≤◌, ◌<◌}
use native.Mathlib.Nat.{mul-zero, suc-mul, mul-le-mul}
use native.Mathlib.Omega.{arith}
use lib.ListN.{length, get_or, drop}
use lib.Seq.{drop-cons, drop-length}
use lib.Dec.{T, eqb, leb}
use lib.IntN.{ℤ, pos, negsuc, nat_abs, ◌+ℤ◌}
use lib.Signed.{le_z, non_neg}
use mir.Syntax.{w32, w64}
use mir.Val.{Fits, SFits}
use borrow.Author.Tests.{leb-true, leb-false, le-leb, lt-leb, eq-eqb, ne_eqb, eqb-true}
use Rattle.value.proofs.Theorems.Truth.{and_false}
use Rattle.std.specs.Prelude.{if◌then◌else◌}
use Rattle.value.proofs.Theorems.Laws.{never, and_both}
use Rattle.automaton.specs.Shape.{product}
use Rattle.automaton.specs.Promises.ShapeLaws.{Positive}
use Rattle.program.specs.Syntax.{Program}
use Rattle.program.specs.declared.Rule.{Rule}
use Rattle.run_meaning.specs.Admission.{Request, all_between, good_sizes, good_rooms, good_times}
use Rattle.run_admission.specs.Promises.Admitting.{times_of, cells_of, rooms_of, AdmissionAsked}

all_three : (t u v : Bool) → (t && u && v) ≡ true → (t ≡ true) × (u ≡ true) × (v ≡ true)
all_three t u v e = let both = and_both (t && u) v e in let front = and_both t u both.0 in (front.0, front.1, both.1)

-- ---- the number of cells

module _ (n total : ℕ) where
  pub times_low : n < 1 → 0 ≡ times_of n total
  unfolding times_of
  times_low h = simp (lt-leb 1 n h)

  pub times_high : 4096 < n → 0 ≡ times_of n total
  unfolding times_of
  times_high h = simp (le-leb 1 n (omega arith), lt-leb n 4096 h)

  pub times_over : 1 ≤ n → n ≤ 4096 → 1048576 < n * total → 0 ≡ times_of n total
  unfolding times_of
  times_over l h o = simp (le-leb 1 n l, le-leb n 4096 h, lt-leb (n * total) 1048576 o)

  pub times_in : 1 ≤ n → n ≤ 4096 → n * total ≤ 1048576 → n * total ≡ times_of n total
  unfolding times_of
  times_in l h o = simp (le-leb 1 n l, le-leb n 4096 h, le-leb (n * total) 1048576 o)

  -- the product of two such numbers fits 64 bits
  pub product_small : n ≤ 4096 → total ≤ 1048576 → n * total ≤ 4294967296
  product_small h l = mul-le-mul h l

choose_zero : (t : Bool) → ◌≡◌ {A = ℕ} (if t then 0 else 0) 0
choose_zero true = refl
choose_zero false = refl

times_zero : (n : ℕ) → times_of n 0 ≡ 0
unfolding times_of
times_zero n = rw (mul-zero n) (choose_zero (leb 1 n && leb n 4096 && leb 0 1048576))

-- a size of at least 1 only makes the product larger
larger : (n p : ℕ) → 1 ≤ n → p ≤ n * p
larger zero p h = absurd (omega arith)
larger (suc m) p h = omega (arith, suc-mul m p)

-- the number of cells, by the two tests
pub cells_in : (ns : List ℕ) → all_between 1 4096 ns ≡ true → product ns ≤ 1048576 → cells_of ns ≡ product ns
unfolding cells_of
cells_in ns a l = simp (a, le-leb (product ns) 1048576 l)

cells_out : (ns : List ℕ) → all_between 1 4096 ns ≡ false → cells_of ns ≡ 0
unfolding cells_of
cells_out ns a = simp a

cells_over : (ns : List ℕ) → 1048576 < product ns → cells_of ns ≡ 0
unfolding cells_of
cells_over ns l = simp (lt-leb (product ns) 1048576 l, and_false)

cells_first : (n : ℕ) (ns : List ℕ) → n < 1 → cells_of (n ∷ ns) ≡ 0
unfolding all_between
cells_first n ns h = cells_out (n ∷ ns) (simp (lt-leb 1 n h))

between_rest : (n : ℕ) (ns : List ℕ) → all_between 1 4096 ns ≡ false → all_between 1 4096 (n ∷ ns) ≡ false
unfolding all_between
between_rest n ns e = simp (e, and_false)

regroup : (t u v : Bool) (k : ℕ) → ◌≡◌ {A = ℕ} (if t && u && v then k else 0) (if (t && u && true) && v then k else 0)
regroup true true v k = refl
regroup true false v k = refl
regroup false u v k = refl

times_cells : (n : ℕ) (ns : List ℕ) → all_between 1 4096 ns ≡ true → times_of n (product ns) ≡ cells_of (n ∷ ns)
unfolding times_of cells_of all_between
times_cells n ns a = rw a (regroup (leb 1 n) (leb n 4096) (leb (n * product ns) 1048576) (n * product ns))

-- the number of cells with one size more before the others
pub cells_cons : (n : ℕ) (ns : List ℕ) → times_of n (cells_of ns) ≡ cells_of (n ∷ ns)
cells_cons n ns = by (all_between 1 4096 ns) refl (leb (product ns) 1048576) refl
  where
    none : cells_of ns ≡ 0 → cells_of (n ∷ ns) ≡ 0 → times_of n (cells_of ns) ≡ cells_of (n ∷ ns)
    none e f = ap (times_of n) e ∙ times_zero n ∙ sym f

    over : 1048576 < product ns → (l : Bool) → leb 1 n ≡ l → cells_of (n ∷ ns) ≡ 0
    over o true e = cells_over (n ∷ ns) (omega (arith, larger n (product ns) (leb-true 1 n e)))
    over o false e = cells_first n ns (leb-false 1 n e)

    by : (a : Bool) → all_between 1 4096 ns ≡ a → (b : Bool) → leb (product ns) 1048576 ≡ b → times_of n (cells_of ns) ≡ cells_of (n ∷ ns)
    by false ea b eb = none (cells_out ns ea) (cells_out (n ∷ ns) (between_rest n ns ea))
    by true ea false eb = let o = leb-false (product ns) 1048576 eb in none (cells_over ns o) (over o (leb 1 n) refl)
    by true ea true eb = ap (times_of n) (cells_in ns ea (leb-true (product ns) 1048576 eb)) ∙ times_cells n ns ea

choose_small : (t u : Bool) (k most : ℕ) → (u ≡ true → k ≤ most) → (if t && u then k else 0) ≤ most
choose_small true true k most h = h refl
choose_small true false k most h = omega arith
choose_small false u k most h = omega arith

pub cells_small : (ns : List ℕ) → cells_of ns ≤ 1048576
unfolding cells_of
cells_small ns = choose_small (all_between 1 4096 ns) (leb (product ns) 1048576) (product ns) 1048576 (λ e. leb-true (product ns) 1048576 e)

-- no size is 0, so there is a cell
pub positive : (ns : List ℕ) → all_between 1 4096 ns ≡ true → Positive ns
unfolding all_between
positive [] e = tt
positive (n ∷ ns) e =
    let three = all_three (leb 1 n) (leb n 4096) (all_between 1 4096 ns) e in
    (leb-true 1 n three.0, positive ns three.2)

some_cell : (ns : List ℕ) → Positive ns → 1 ≤ product ns
some_cell [] h = omega arith
some_cell (n ∷ ns) h = omega (arith, larger n (product ns) h.0, some_cell ns h.1)

-- the loop, from the last size to the first
all_none : all_between 1 4096 [] ≡ true
unfolding all_between
all_none = refl

pub cells_start : (ns : List ℕ) → 1 ≡ cells_of (drop (length ns) ns)
cells_start ns = rw (drop-length ns) (sym (cells_in [] all_none (omega arith)))

pub cells_turn : (ns : List ℕ) (k : ℕ) {total more : ℕ} → 0 < k → k ≤ length ns → total ≡ cells_of (drop k ns) → more ≡ times_of (get_or ns (k - 1) 0) total
    → more ≡ cells_of (drop (k - 1) ns)
cells_turn ns k l h et em =
    let s : suc (k - 1) ≡ k = omega arith in
    em ∙ ap (times_of (get_or ns (k - 1) 0)) et ∙ cells_cons (get_or ns (k - 1) 0) (drop k ns)
    ∙ ap cells_of (sym (drop-cons ns (k - 1) 0 (omega arith) ∙ ap (λ (i : ℕ). get_or ns (k - 1) 0 ∷ drop i ns) s))

pub cells_stop : (k : ℕ) (ns : List ℕ) → cells_of (drop k ns) ≡ 0 → cells_of ns ≡ 0
cells_stop zero ns z = z
cells_stop (suc k) [] z = z
cells_stop (suc k) (n ∷ ns) z = sym (cells_cons n ns) ∙ ap (times_of n) (cells_stop k ns z) ∙ times_zero n

-- ---- rooms

-- so many entries fit 64 bits
pub rooms_small : (cells fields : ℕ) → cells ≤ 1048576 → fields ≤ 8 → cells * fields ≤ 8388608
rooms_small cells fields h l = mul-le-mul h l

module _ (cells fields entries scratch marks : ℕ) where
  pub rooms_entries : (entries ≡ cells * fields → ⊥) → false ≡ rooms_of cells fields entries scratch marks
  unfolding rooms_of
  rooms_entries n = simp (ne_eqb entries (cells * fields) n)

  pub rooms_scratch : entries ≡ cells * fields → (scratch ≡ entries → ⊥) → false ≡ rooms_of cells fields entries scratch marks
  unfolding rooms_of
  rooms_scratch e n = simp (eq-eqb entries (cells * fields) e, ne_eqb scratch entries n)

  pub rooms_marks : entries ≡ cells * fields → scratch ≡ entries → eqb marks cells ≡ rooms_of cells fields entries scratch marks
  unfolding rooms_of
  rooms_marks e f = simp (eq-eqb entries (cells * fields) e, eq-eqb scratch entries f)

-- ---- times

pub good_sum : (a b : ℤ) → le_z (pos 0) a ≡ true → le_z (pos 0) b ≡ true → leb (nat_abs a + nat_abs b) 2147483647 ≡ good_times a b
unfolding good_times
good_sum (pos a) (pos b) p q = simp (p, q)
good_sum (pos a) (negsuc b) p q = never q
good_sum (negsuc a) b p q = never p

pub bad_start : (a b : ℤ) → le_z (pos 0) a ≡ false → false ≡ good_times a b
unfolding good_times
bad_start a b p = simp p

pub bad_steps : (a b : ℤ) → le_z (pos 0) a ≡ true → le_z (pos 0) b ≡ false → false ≡ good_times a b
unfolding good_times
bad_steps a b p q = simp (p, q)

-- a number that is not negative, as 64 bits without a sign
pub not_negative : (z : ℤ) → SFits w64 z → le_z (pos 0) z ≡ true → T (non_neg z) × Fits w64 (nat_abs z)
not_negative (pos n) h p = (tt, record { fits = omega (arith, h.sfits) })
not_negative (negsuc n) h p = never p

pub sum_fits : (a b : ℤ) → SFits w64 a → SFits w64 b → le_z (pos 0) a ≡ true → le_z (pos 0) b ≡ true → Fits w64 (nat_abs a + nat_abs b)
sum_fits (pos a) (pos b) h k p q = record { fits = omega (arith, h.sfits, k.sfits) }
sum_fits (pos a) (negsuc b) h k p q = never q
sum_fits (negsuc a) b h k p q = never p

-- what good times are
pub good_start : (a b : ℤ) → good_times a b ≡ true → a ≡ pos (nat_abs a)
unfolding good_times
good_start (pos a) b e = refl
good_start (negsuc a) b e = never e

pub good_steps : (a b : ℤ) → good_times a b ≡ true → b ≡ pos (nat_abs b)
unfolding good_times
good_steps a (pos b) e = refl
good_steps a (negsuc b) e = never (all_three (le_z (pos 0) a) false (le_z (a +ℤ negsuc b) (pos 2147483647)) e).1

pub good_total : (a b : ℤ) → good_times a b ≡ true → nat_abs a + nat_abs b ≤ 2147483647
unfolding good_times
good_total (pos a) (pos b) e = leb-true (a + b) 2147483647 (all_three (leb 0 a) (leb 0 b) (leb (a + b) 2147483647) e).2
good_total (pos a) (negsuc b) e = never (all_three (leb 0 a) false (le_z (pos a +ℤ negsuc b) (pos 2147483647)) e).1
good_total (negsuc a) b e = never e

-- a time can be cast
pub cast_in : (z : ℤ) → z ≡ pos (nat_abs z) → nat_abs z ≤ 2147483647 → T (non_neg z) × Fits w32 (nat_abs z)
cast_in z p l = (subst (λ (x : ℤ). T (non_neg x)) (sym p) tt, record { fits = omega arith })

-- ---- the request

-- the first of 20 to 22, by the three tests
abbrev pub first_refusal : Bool → Bool → Bool → ℕ
first_refusal sizes rooms times = if not sizes then 20 else if not rooms then 21 else if not times then 22 else 0

-- the sizes are right, for so many dimensions
unfoldable pub sizes_of : ℕ → List ℕ → Bool
sizes_of dims sizes = eqb (length sizes) dims && all_between 1 4096 sizes && leb (product sizes) 1048576

all_good : (s r t : Bool) → first_refusal s r t ≡ 0 → (s ≡ true) × (r ≡ true) × (t ≡ true)
all_good true true true e = (refl, refl, refl)
all_good true true false e = absurd (omega arith)
all_good true false t e = absurd (omega arith)
all_good false r t e = absurd (omega arith)

-- where there are cells, every size is right
pub some_cells : (ns : List ℕ) → (cells_of ns ≡ 0 → ⊥) → (all_between 1 4096 ns ≡ true) × (product ns ≤ 1048576)
some_cells ns n = by (all_between 1 4096 ns) refl (leb (product ns) 1048576) refl
  where
    by : (a : Bool) → all_between 1 4096 ns ≡ a → (b : Bool) → leb (product ns) 1048576 ≡ b → (all_between 1 4096 ns ≡ true) × (product ns ≤ 1048576)
    by false ea b eb = absurd (n (cells_out ns ea))
    by true ea false eb = absurd (n (cells_over ns (leb-false (product ns) 1048576 eb)))
    by true ea true eb = (ea, leb-true (product ns) 1048576 eb)

-- where there are none, some size is not, or there are too many cells
pub no_cells : (ns : List ℕ) → cells_of ns ≡ 0 → (all_between 1 4096 ns && leb (product ns) 1048576) ≡ false
no_cells ns z = by (all_between 1 4096 ns) refl (leb (product ns) 1048576) refl
  where
    by : (a : Bool) → all_between 1 4096 ns ≡ a → (b : Bool) → leb (product ns) 1048576 ≡ b → (a && b) ≡ false
    by false ea b eb = refl
    by true ea false eb = refl
    by true ea true eb = absurd (omega (arith, z, cells_in ns ea (leb-true (product ns) 1048576 eb), some_cell ns (positive ns ea)))

module _ (rule : Rule) (sizes : List ℕ) (entries scratch marks : ℕ) (start steps : ℤ) where
  sizes_known : sizes_of rule.dims sizes ≡ true → (length sizes ≡ rule.dims) × (all_between 1 4096 sizes ≡ true) × (product sizes ≤ 1048576)
  unfolding sizes_of
  sizes_known e =
      let three = all_three (eqb (length sizes) rule.dims) (all_between 1 4096 sizes) (leb (product sizes) 1048576) e in
      (eqb-true (length sizes) rule.dims three.0, three.1, leb-true (product sizes) 1048576 three.2)

  rooms_known : rooms_of (product sizes) rule.fields entries scratch marks ≡ true → (entries ≡ product sizes * rule.fields) × (scratch ≡ entries) × (marks ≡ product sizes)
  unfolding rooms_of
  rooms_known e =
      let three = all_three (eqb entries (product sizes * rule.fields)) (eqb scratch entries) (eqb marks (product sizes)) e in
      (eqb-true entries (product sizes * rule.fields) three.0, eqb-true scratch entries three.1, eqb-true marks (product sizes) three.2)

  module _ {number : ℕ} (e : number ≡ first_refusal (sizes_of rule.dims sizes) (rooms_of (product sizes) rule.fields entries scratch marks) (good_times start steps)) where
    tests : number ≡ 0
        → (sizes_of rule.dims sizes ≡ true) × (rooms_of (product sizes) rule.fields entries scratch marks ≡ true) × (good_times start steps ≡ true)
    tests z = all_good (sizes_of rule.dims sizes) (rooms_of (product sizes) rule.fields entries scratch marks) (good_times start steps) (sym e ∙ z)

    said : (p : Program) → p.dims ≡ rule.dims → length p.fields ≡ rule.fields
        → (q : Request) → q.sizes ≡ sizes → length q.grid ≡ entries → q.scratch ≡ scratch → q.marks ≡ marks → q.start ≡ start → q.steps ≡ steps
        → number ≡ first_refusal (good_sizes p q.sizes) (good_rooms p q) (good_times q.start q.steps)
    unfolding good_sizes good_rooms sizes_of rooms_of
    said p ed ef q es eg ec em et en = rw (es, ed, ef, eg, ec, em, et, en) e

    pub asked : AdmissionAsked rule sizes entries scratch marks start steps number
    asked =
        record {
          says = said;
          shaped = λ z. let k = sizes_known (tests z).0 in record { dims = k.0; positive = positive sizes k.1; cells = k.2; entries = sym (rooms_known (tests z).1).0 };
          scratch_fits = λ z. (rooms_known (tests z).1).1;
          marks_fit = λ z. (rooms_known (tests z).1).2;
          each_size = λ z. (sizes_known (tests z).0).1;
          start_is = λ z. good_start start steps (tests z).2;
          steps_is = λ z. good_steps start steps (tests z).2;
          times = λ z. good_total start steps (tests z).2;
        }

  -- ---- each way through the code

  refuse_sizes : sizes_of rule.dims sizes ≡ false → AdmissionAsked rule sizes entries scratch marks start steps 20
  refuse_sizes e = asked (rw e refl)

  pub refuse_dims : (length sizes ≡ rule.dims → ⊥) → AdmissionAsked rule sizes entries scratch marks start steps 20
  unfolding sizes_of
  refuse_dims n = refuse_sizes (simp (ne_eqb (length sizes) rule.dims n))

  module _ (ed : length sizes ≡ rule.dims) {n : ℕ} (en : n ≡ cells_of sizes) where
    pub refuse_cells : n ≡ 0 → AdmissionAsked rule sizes entries scratch marks start steps 20
    unfolding sizes_of
    refuse_cells z = refuse_sizes (rw (eq-eqb (length sizes) rule.dims ed) (no_cells sizes (sym en ∙ z)))

    module _ (some_there : n ≡ 0 → ⊥) {b : Bool} (eb : b ≡ rooms_of n rule.fields entries scratch marks) where
      right : (all_between 1 4096 sizes ≡ true) × (product sizes ≤ 1048576)
      right = some_cells sizes (λ z. some_there (en ∙ z))

      right_sizes : sizes_of rule.dims sizes ≡ true
      unfolding sizes_of
      right_sizes = simp (eq-eqb (length sizes) rule.dims ed, right.0, le-leb (product sizes) 1048576 right.1)

      rooms : rooms_of (product sizes) rule.fields entries scratch marks ≡ b
      rooms = sym (eb ∙ ap (λ (k : ℕ). rooms_of k rule.fields entries scratch marks) (en ∙ cells_in sizes right.0 right.1))

      pub refuse_rooms : b ≡ false → AdmissionAsked rule sizes entries scratch marks start steps 21
      refuse_rooms h = asked (rw (right_sizes, rooms ∙ h) refl)

      module _ (hb : b ≡ true) {t : Bool} (et : t ≡ good_times start steps) where
        pub refuse_times : t ≡ false → AdmissionAsked rule sizes entries scratch marks start steps 22
        refuse_times h = asked (rw (right_sizes, rooms ∙ hb, sym et ∙ h) refl)

        pub admit : t ≡ true → AdmissionAsked rule sizes entries scratch marks start steps 0
        admit h = asked (rw (right_sizes, rooms ∙ hb, sym et ∙ h) refl)
