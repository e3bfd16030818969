-- The writer's checks: the number of cells, one grid, and both.
use Prim.Native.Nat.{ℕ, ◌≤◌, ◌<◌}
use native.Mathlib.Omega.{arith}
use mathlib.Core.Path.{◌≡◌, refl, sym, ap, ap₂, ◌∙◌, subst}
use mathlib.Core.Bool.{Bool, true, false, ◌&&◌}
use mathlib.Core.List.{List}
use lib.ListN.{length}
use lib.Dec.{eqb, leb}
use lib.IntN.{ℤ, pos}
use mir.Syntax.{w64}
use mir.Val.{SFits, to_z, of_z}
use mir.Facts.{to_z-of_z}
use borrow.Author.Tests.{ne_eqb, eqb-true, lt-ltb, le-ltb, leb-true}
use Rattle.value.proofs.Theorems.Laws.{and_both}
use Rattle.automaton.specs.Shape.{product}
use Rattle.program.specs.Syntax.{Program}
use Rattle.cell_meaning.specs.Promises.Stands.{Holds}
use Rattle.std.specs.Prelude.{Result, Ok, Err}
use Rattle.program.specs.Refusal.{Refusal, refusal}
use Rattle.program.specs.declared.Rule.{Rule}
use Rattle.run_meaning.specs.Admission.{all_between, good_sizes, admission}
use Rattle.program.specs.Promises.Fitting.{Sized}
use Rattle.run_meaning.specs.declared.Reach.{Reach}
use Rattle.run_admission.specs.Promises.Admitting.{refusal_told, cells_of, request_of, Admits}
use Rattle.run_admission.proofs.RequestLaws.{cells_in}
use Rattle.run_admission.proofs.Results.{err_same}
use Rattle.list_meaning.specs.Writing.{lower, writing_admission}
use Rattle.list_writer.specs.WriterCalls.{wanted}
use Rattle.list_writer.specs.Promises.Admitting.{CountsCells, Numbered, AdmitsGrid, LowerOf, AdmitsBoth}

-- ---- the number of cells

pub counts_cells : (sizes : List ℕ) {n : ℕ} → n ≡ cells_of sizes → CountsCells sizes n
counts_cells sizes e = record { is = λ few each small. e ∙ cells_in sizes each small }

-- ---- the lower refusal

numbered_ne : {r : Result (Unit {0}) Refusal} {a : Refusal} → Numbered r → r ≡ Err a → eqb a.number 0 ≡ false
numbered_ne {a = a} n e = ne_eqb a.number 0 (n a e)

pub lower_second : {a b : Result (Unit {0}) Refusal} {u : Unit {0}} → a ≡ Ok u → LowerOf a b b
lower_second {a} {b} e =
    record {
      is = λ m n. ap (λ (x : Result (Unit {0}) Refusal). lower (refusal_told x) (refusal_told b)) (sym e);
      numbered = λ m n. n;
      passed = λ u q. (e, q);
    }

pub lower_alone : {a b : Result (Unit {0}) Refusal} {x : Refusal} {u : Unit {0}} → a ≡ Err x → b ≡ Ok u → LowerOf a b a
lower_alone {a} {b} {x} e f =
    record {
      is = λ m n. rw (e, f, numbered_ne m e);
      numbered = λ m n. m;
      passed = λ u q. let no : Ok u ≡ Err x = sym q ∙ e in cc;
    }

pub lower_more : {a b : Result (Unit {0}) Refusal} {x y : Refusal} → a ≡ Err x → b ≡ Err y → x.number ≤ y.number → LowerOf a b a
lower_more {a} {b} {x} {y} e f l =
    record {
      is = λ m n. rw (e, f, numbered_ne m e, numbered_ne n f, le-ltb y.number x.number l);
      numbered = λ m n. m;
      passed = λ u q. let no : Ok u ≡ Err x = sym q ∙ e in cc;
    }

pub lower_less : {a b : Result (Unit {0}) Refusal} {x y : Refusal} → a ≡ Err x → b ≡ Err y → y.number < x.number → LowerOf a b b
lower_less {a} {b} {x} {y} e f l =
    record {
      is = λ m n. rw (e, f, numbered_ne m e, numbered_ne n f, lt-ltb y.number x.number l);
      numbered = λ m n. n;
      passed = λ u q. let no : Ok u ≡ Err y = sym q ∙ f in cc;
    }

pub ruleset Lower = (lower_second, lower_alone, lower_more, lower_less)

-- ---- one grid

module _ {words : List ℕ} {rule : Rule} {sizes : List ℕ} {grid : List ℤ} {count : ℕ} {time : ℤ} {a : Result Reach Refusal} (f : SFits w64 time)
    (x : Admits words rule sizes grid (length grid) count (to_z w64 (of_z w64 time)) (pos 0) a) where
  read : Admits words rule sizes grid (length grid) count time (pos 0) a
  read = subst (λ (z : ℤ). Admits words rule sizes grid (length grid) count z (pos 0) a) (to_z-of_z f) x

  pub grid_admitted : {reach : Reach} → a ≡ Ok reach → AdmitsGrid words rule sizes grid count time (Ok tt)
  grid_admitted {reach} e =
      let y = read.admitted reach e in
      record {
        says = λ p h l. sym (ap refusal_told e) ∙ read.says p h l;
        numbered = λ r q. cc;
        ready = λ u q. record { shaped = y.shaped; counted = y.marks_fit; timely = record { is = y.start_is; small = omega (arith, y.times) } };
      }

  pub grid_refused : {r : Refusal} {b : Result (Unit {0}) Refusal} → a ≡ Err r → b ≡ Err r → AdmitsGrid words rule sizes grid count time b
  grid_refused {r} {b} e q =
      record {
        says = λ p h l. ap refusal_told q ∙ sym (ap refusal_told e) ∙ read.says p h l;
        numbered = λ k i. read.refused k (e ∙ ap Err (err_same (sym q ∙ i)));
        ready = λ u i. let no : Err r ≡ Ok u = sym q ∙ i in cc;
      }

-- ---- both grids

module _ {sizes : List ℕ} {count : ℕ} (counts : CountsCells sizes count) {words : List ℕ} {rule : Rule} {n : ℕ} (sized : Sized n rule) (p : Program) (h : Holds words rule p) (g : List ℤ) (time : ℤ) where
  -- with wrong sizes the number of cells does not matter
  count_true : good_sizes p sizes ≡ true → count ≡ product sizes
  unfolding good_sizes
  count_true e =
      let x = and_both (eqb (length sizes) p.dims && all_between 1 4096 sizes) (leb (product sizes) 1048576) e in
      let y = and_both (eqb (length sizes) p.dims) (all_between 1 4096 sizes) x.0 in
      counts.is (omega (arith, eqb-true (length sizes) p.dims y.0, h.dims, sized.dims)) y.1 (leb-true (product sizes) 1048576 x.1)

  wrong_sizes : (m : ℕ) → good_sizes p sizes ≡ false → admission p (request_of sizes g (length g) m time (pos 0)) ≡ refusal 20 0
  unfolding admission
  wrong_sizes m e = rw (e, admission)

  counted : admission p (request_of sizes g (length g) count time (pos 0)) ≡ admission p (request_of sizes g (length g) (product sizes) time (pos 0))
  counted = by (good_sizes p sizes) refl
    where
      by : (t : Bool) → good_sizes p sizes ≡ t → admission p (request_of sizes g (length g) count time (pos 0)) ≡ admission p (request_of sizes g (length g) (product sizes) time (pos 0))
      by true e = ap (λ (m : ℕ). admission p (request_of sizes g (length g) m time (pos 0))) (count_true e)
      by false e = wrong_sizes count e ∙ sym (wrong_sizes (product sizes) e)

both_admitted : {words : List ℕ} {rule : Rule} {n : ℕ} {sizes : List ℕ} {earlier later : List ℤ} {count : ℕ} {time : ℤ} {a b r : Result (Unit {0}) Refusal} → Sized n rule → CountsCells sizes count
    → AdmitsGrid words rule sizes earlier count time a → AdmitsGrid words rule sizes later count time b → LowerOf a b r → AdmitsBoth words rule (wanted sizes earlier later time) count r
unfolding writing_admission
both_admitted {sizes = sizes} {earlier = earlier} {later = later} {time = time} sized counts x y low =
    record {
      says = λ p h l. low.is x.numbered y.numbered ∙ ap₂ lower (x.says p h l ∙ counted counts sized p h earlier time) (y.says p h l ∙ counted counts sized p h later time);
      numbered = low.numbered x.numbered y.numbered;
      ready = λ u q.
          let both = low.passed u q in
          let s = x.ready tt both.0 in
          let t = y.ready tt both.1 in
          record {
            grids = record { dims = omega (arith, s.shaped.dims, sized.dims); positive = s.shaped.positive; cells = s.shaped.cells; fields_few = sized.fields; earlier_entries = s.shaped.entries; later_entries = t.shaped.entries };
            counted = s.counted;
            timely = s.timely;
          };
    }

-- the time as the machine reads it
pub admits_both : {words : List ℕ} {rule : Rule} {n : ℕ} {sizes : List ℕ} {earlier later : List ℤ} {count : ℕ} {time : ℤ} {a b r : Result (Unit {0}) Refusal} → SFits w64 time → Sized n rule → CountsCells sizes count
    → AdmitsGrid words rule sizes earlier count (to_z w64 (of_z w64 time)) a → AdmitsGrid words rule sizes later count (to_z w64 (of_z w64 time)) b → LowerOf a b r → AdmitsBoth words rule (wanted sizes earlier later time) count r
admits_both {words} {rule} {sizes = sizes} {earlier = earlier} {later = later} {count = count} {r = r} f sized counts x y low =
    subst (λ (t : ℤ). AdmitsBoth words rule (wanted sizes earlier later t) count r) (to_z-of_z f) (both_admitted sized counts x y low)
