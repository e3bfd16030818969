-- Plans, band by band: the check, and the planner's plan as it is written.
use Prim.Native.Nat.{ℕ, zero, suc, ◌+◌, ◌-◌, ◌*◌, ◌<◌, ◌≤◌, min}
use native.Mathlib.Numerals.{add-one}
use native.Mathlib.Omega.{arith}
use mathlib.Core.Path.{◌≡◌, refl, sym, ap, ap₂, ◌∙◌}
use mathlib.Core.Bool.{Bool, true, false, ◌&&◌}
use mathlib.Core.List.{List, [], ◌∷◌, ◌++◌, append-nil, append_assoc}
use mathlib.Core.Option.{Option, none, some}
use lib.ListN.{length, get_or, set, drop, length-append, length-drop, drop_of_length-le}
use lib.Seq.{drop-cons, set_at}
use lib.Dec.{eqb, leb}
use borrow.Author.Tests.{eq-eqb, ne_eqb, le-leb, lt-leb, lt-ltb, le-ltb}
use Rattle.automaton.specs.Shape.{Bound}
use Rattle.automaton.specs.Bands.{Band, rows_with, runs_on, accepts, longest}
use Rattle.band_meaning.specs.Plans.{band, before_others, bands_in, entries_of, accepts_some, plan_right, put_plan}
use Rattle.band_meaning.proofs.Theorems.PlanTheorems.{length_entries}
use Rattle.band_planner.specs.Promises.Plans.{band_runs, PutsBand, WritesPlan}

-- ---- one band

module _ (b : Band) (from : ℕ) (border : Bound) (held : ℕ) where
  pub not_there : (b.first ≡ from → ⊥) → false ≡ band_runs b from border held
  not_there n = sym (rw (ne_eqb b.first from n))

  pub reversed : b.first ≡ from → b.last < b.first → false ≡ band_runs b from border held
  reversed e l = sym (rw (eq-eqb b.first from e, lt-leb b.first b.last l))

  pub holds_rows : b.first ≡ from → b.first ≤ b.last → {w : ℕ} → w ≡ rows_with border b → leb w held ≡ band_runs b from border held
  holds_rows e l w = ap (λ (n : ℕ). leb n held) w ∙ sym (rw (eq-eqb b.first from e, le-leb b.first b.last l))

-- ---- the check

abbrev runs_some : ℕ → Bound → ℕ → ℕ → Option (List Band) → Bool
runs_some n border held from none = false
runs_some n border held from (some bs) = runs_on n border held from bs

-- what is left of a plan runs on from a row
unfoldable pub left_runs : ℕ → Bound → ℕ → ℕ → List ℕ → Bool
left_runs n border held from entries = runs_some n border held from (bands_in entries)

and_none : (t : Bool) → false ≡ (t && false)
and_none true = refl
and_none false = refl

regroup : (a b c d : Bool) → (a && (b && (c && d))) ≡ ((a && (b && c)) && d)
regroup true true c d = refl
regroup true false c d = refl
regroup false b c d = refl

module _ (n : ℕ) (border : Bound) (held : ℕ) where
  pub all_left : (plan : List ℕ) → plan_right n border held plan ≡ left_runs n border held 0 plan
  unfolding plan_right left_runs accepts
  all_left plan = by (bands_in plan)
    where
      by : (o : Option (List Band)) → accepts_some n border held o ≡ runs_some n border held 0 o
      by none = refl
      by (some bs) = refl

  none_left : (from : ℕ) → left_runs n border held from [] ≡ eqb from n
  unfolding left_runs bands_in runs_on
  none_left from = refl

  one_left : (from first : ℕ) → left_runs n border held from (first ∷ []) ≡ false
  unfolding left_runs bands_in
  one_left from first = refl

  two_left : (from first last : ℕ) (entries : List ℕ)
      → left_runs n border held from (first ∷ last ∷ entries) ≡ (band_runs (band first last) from border held && left_runs n border held (suc last) entries)
  unfolding left_runs bands_in runs_on
  two_left from first last entries = by (bands_in entries)
    where
      by : (o : Option (List Band)) → runs_some n border held from (before_others (band first last) o) ≡ (band_runs (band first last) from border held && runs_some n border held (suc last) o)
      by none = and_none (band_runs (band first last) from border held)
      by (some bs) = regroup (eqb first from) (leb first last) (leb (rows_with border (band first last)) held) (runs_on n border held (suc last) bs)

  module _ (plan : List ℕ) (k from : ℕ) (inv : plan_right n border held plan ≡ left_runs n border held from (drop k plan)) where
    pub odd : k < length plan → length plan - k < 2 → false ≡ plan_right n border held plan
    odd l m =
        sym (inv ∙ ap (left_runs n border held from) (drop-cons plan k 0 l ∙ ap (λ (es : List ℕ). get_or plan k 0 ∷ es) (drop_of_length-le plan {i = suc k} (omega arith))) ∙ one_left from (get_or plan k 0))

    pub done : length plan ≤ k → eqb from n ≡ plan_right n border held plan
    done l = sym (inv ∙ ap (left_runs n border held from) (drop_of_length-le plan {i = k} l) ∙ none_left from)

    module _ (two : k + 2 ≤ length plan) where
      split : plan_right n border held plan ≡ (band_runs (band (get_or plan k 0) (get_or plan (k + 1) 0)) from border held && left_runs n border held (get_or plan (k + 1) 0 + 1) (drop (k + 2) plan))
      split =
          let next : suc (suc k) ≡ k + 2 = omega arith in
          inv
          ∙ ap (left_runs n border held from)
          (drop-cons plan k 0 (omega arith)
          ∙ ap (λ (es : List ℕ). get_or plan k 0 ∷ es) (drop-cons plan (suc k) 0 (omega arith) ∙ ap₂ (λ (x y : ℕ). get_or plan x 0 ∷ drop y plan) (sym (add-one k)) next))
          ∙ two_left from (get_or plan k 0) (get_or plan (k + 1) 0) (drop (k + 2) plan)
          ∙ ap (λ (x : ℕ). band_runs (band (get_or plan k 0) (get_or plan (k + 1) 0)) from border held && left_runs n border held x (drop (k + 2) plan)) (sym (add-one (get_or plan (k + 1) 0)))

      module _ {t : Bool} (is : t ≡ band_runs (band (get_or plan k 0) (get_or plan (k + 1) 0)) from border held) where
        pub stops : t ≡ false → false ≡ plan_right n border held plan
        stops e = sym (split ∙ ap (λ (u : Bool). u && left_runs n border held (get_or plan (k + 1) 0 + 1) (drop (k + 2) plan)) (sym is ∙ e))

        pub goes_on : t ≡ true → {next : ℕ} → k + 2 ≡ next → plan_right n border held plan ≡ left_runs n border held (get_or plan (k + 1) 0 + 1) (drop next plan)
        goes_on e two_on = split ∙ ap (λ (u : Bool). u && left_runs n border held (get_or plan (k + 1) 0 + 1) (drop (k + 2) plan)) (sym is ∙ e) ∙ ap (λ (x : ℕ). left_runs n border held (get_or plan (k + 1) 0 + 1) (drop x plan)) two_on

-- ---- the planner's plan

entries_more : (bs : List Band) (b : Band) → entries_of (bs ++ (b ∷ [])) ≡ entries_of bs ++ (b.first ∷ b.last ∷ [])
unfolding entries_of
entries_more [] b = refl
entries_more (a ∷ bs) b = ap (λ (es : List ℕ). a.first ∷ a.last ∷ es) (entries_more bs b)

module _ (n most : ℕ) where
  longest_past : (k from : ℕ) → n ≤ from → longest k n most from ≡ []
  unfolding longest
  longest_past zero from l = refl
  longest_past (suc k) from l = rw (le-ltb from n l)

  longest_next : (k from : ℕ) → from < n → longest (suc k) n most from ≡ band from (min (from + most) n - 1) ∷ longest k n most (min (from + most) n)
  unfolding longest
  longest_next k from l = rw (lt-ltb from n l)

  -- the bands that stand in the room, and those that are to come
  pub record Writing (room room' : List ℕ) (count from : ℕ) : Type 0 where
    pub bands : List Band
    pub many : length bands ≡ count
    pub written : room' ≡ entries_of bands ++ drop (2 * count) room
    pub coming : longest n n most 0 ≡ bands ++ longest (n - count) n most from
    pub onward : count ≤ from
    pub inside : from ≤ n

  pub writing_start : (room : List ℕ) → Writing room room 0 0
  unfolding entries_of
  writing_start room = record { bands = []; many = refl; written = refl; coming = ap (λ (x : ℕ). longest x n most 0) (let e : n ≡ n - 0 = omega arith in e); onward = omega arith; inside = omega arith }

  module _ {room room' : List ℕ} {count from : ℕ} (w : Writing room room' count from) where
    room_length : length (entries_of w.bands) ≡ 2 * count
    room_length = length_entries w.bands ∙ ap (λ (x : ℕ). 2 * x) w.many

    pub writing_length : 2 * n ≤ length room → length room' ≡ length room
    writing_length l =
        ap length w.written ∙ length-append (entries_of w.bands) (drop (2 * count) room) ∙ omega (arith, room_length, length-drop (2 * count) room, w.onward, w.inside)

    pub writing_more : 0 < most → 2 * n ≤ length room → from < n → {end : ℕ} → end ≡ min (from + most) n → {room'' : List ℕ} → PutsBand room' count (band from (end - 1)) room'' → Writing room room'' (count + 1) end
    writing_more some_rows l more {end} e {room''} put =
        record {
          bands = w.bands ++ (band from (end - 1) ∷ []);
          many = length-append w.bands (band from (end - 1) ∷ []) ∙ ap (λ (x : ℕ). x + 1) w.many;
          written = put.is ∙ stored;
          coming = w.coming ∙ ap (λ (bs : List Band). w.bands ++ bs) next ∙ sym (append_assoc w.bands (band from (end - 1) ∷ []) _);
          onward = omega (arith, e, w.onward);
          inside = omega (arith, e);
        }
      where
        next : longest (n - count) n most from ≡ band from (end - 1) ∷ longest (n - (count + 1)) n most end
        next =
            let one : n - count ≡ suc (n - (count + 1)) = omega (arith, w.onward) in
            ap (λ (x : ℕ). longest x n most from) one ∙ longest_next (n - (count + 1)) from more ∙ ap (λ (x : ℕ). band from (x - 1) ∷ longest (n - (count + 1)) n most x) (sym e)

        rest : drop (2 * count) room ≡ get_or room (2 * count) 0 ∷ get_or room (suc (2 * count)) 0 ∷ drop (2 * (count + 1)) room
        rest =
            let two : suc (suc (2 * count)) ≡ 2 * (count + 1) = omega arith in
            drop-cons room (2 * count) 0 (omega (arith, w.onward))
            ∙ ap (λ (l : List ℕ). get_or room (2 * count) 0 ∷ l) (drop-cons room (suc (2 * count)) 0 (omega (arith, w.onward)) ∙ ap (λ (x : ℕ). get_or room (suc (2 * count)) 0 ∷ drop x room) two)

        stored : set (set room' (2 * count) from) (2 * count + 1) (end - 1) ≡ entries_of (w.bands ++ (band from (end - 1) ∷ [])) ++ drop (2 * (count + 1)) room
        stored =
            ap (λ (l : List ℕ). set (set l (2 * count) from) (2 * count + 1) (end - 1)) (w.written ∙ ap (λ (l : List ℕ). entries_of w.bands ++ l) rest)
            ∙ ap (λ (l : List ℕ). set l (2 * count + 1) (end - 1))
            (set_at (entries_of w.bands) (get_or room (2 * count) 0) (get_or room (suc (2 * count)) 0 ∷ drop (2 * (count + 1)) room) from (2 * count) room_length
            ∙ sym (append_assoc (entries_of w.bands) (from ∷ []) (get_or room (suc (2 * count)) 0 ∷ drop (2 * (count + 1)) room)))
            ∙ set_at (entries_of w.bands ++ (from ∷ [])) (get_or room (suc (2 * count)) 0) (drop (2 * (count + 1)) room) (end - 1) (2 * count + 1)
            (length-append (entries_of w.bands) (from ∷ []) ∙ ap (λ (x : ℕ). x + 1) room_length)
            ∙ append_assoc (entries_of w.bands) (from ∷ []) ((end - 1) ∷ drop (2 * (count + 1)) room)
            ∙ sym (append_assoc (entries_of w.bands) (from ∷ (end - 1) ∷ []) (drop (2 * (count + 1)) room))
            ∙ ap (λ (l : List ℕ). l ++ drop (2 * (count + 1)) room) (sym (entries_more w.bands (band from (end - 1))))

    pub writing_done : n ≤ from → WritesPlan n most room count room'
    unfolding put_plan
    writing_done l =
        let all : longest n n most 0 ≡ w.bands = w.coming ∙ ap (λ (bs : List Band). w.bands ++ bs) (longest_past (n - count) from l) ∙ append-nil w.bands in
        record {
          many = sym (ap length all ∙ w.many);
          room = w.written ∙ sym (ap (λ (bs : List Band). entries_of bs ++ drop (length (entries_of bs)) room) all ∙ ap (λ (x : ℕ). entries_of w.bands ++ drop x room) room_length);
        }
