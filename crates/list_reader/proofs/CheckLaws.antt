-- Checking a list: one law for each way through the code.
use mathlib.Core.Path.{◌≡◌, refl, sym, ap, ap₂, ◌∙◌, subst}
use mathlib.Core.Bool.{Bool, true, false, not, ◌||◌}
use mathlib.Core.List.{List, [], ◌∷◌}
use mathlib.Core.Option.{Option, some, none}
use Prim.Native.Nat.{ℕ, suc, ◌+◌, ◌-◌, ◌*◌, ◌≤◌, ◌<◌}
use native.Mathlib.Omega.{arith}
use native.Mathlib.Numerals.{add-one}
use lib.ListN.{length, take, drop, get_or, drop_of_length-le, length-drop}
use lib.Seq.{drop-cons, drop-drop}
use lib.IntN.{ℤ}
use lib.Dec.{eqb, ltb}
use borrow.Author.Tests.{eq-eqb, ne_eqb, lt-ltb, le-ltb, not-true, not-false}
use Rattle.std.specs.Prelude.{if◌then◌else◌}
use Rattle.program.specs.Syntax.{Range}
use Rattle.automaton.specs.Shape as shape
use Rattle.automaton.specs.Shape.{product}
use Rattle.list_meaning.specs.Text.{Piece, literal, sign, with_piece, pieces}
use Rattle.list_meaning.specs.Lines.{Said, bad, time, cell, Indexed, indices, values, assigned, cell_with, cell_of_index, said_by, said_in, said}
use Rattle.list_meaning.specs.Text as text
use Rattle.list_meaning.specs.ListChecking.{Limits, inside, all_fit, cell_line_number, rises, time_number, line_number, time_behind, verdict, check_lines, check_list}
use Rattle.list_meaning.specs.Promises.Walking.{to_end, Placed, wrong, placed, place_from, placed_by, all_keep, values_number}
use Rattle.list_meaning.proofs.Walking.{said_cut, said_last, place_is, place_none, values_last}
use Rattle.std.proofs.Common.{Bor, Option as Optional, Some, None, Result, Ok, Err, is_some as has_some, is_ok, ok_or, IsErrAnd, lit<}
use Rattle.std.proofs.lemmas.Result.{err_from_is_err_and}
use Rattle.value.proofs.Theorems.Laws.{never}
use Rattle.program.specs.declared.reply.Reason.TheVariants as reason
use Rattle.program.specs.Reason.{reason_number}
use Rattle.program.specs.declared.reply.Reason.{Reason}
use Rattle.program.specs.declared.reply.Reason.TheVariants.{UnreadLine, OutsideGrid, TimeNotRising, TimeBeforeStart, TimePastEnd}
use Rattle.list_reader.specs.declared.Lexed.{Lexed}
use Rattle.list_reader.specs.declared.Lexed.TheVariants.{Literal, Sign, End}
use Rattle.list_reader.specs.Promises.Promises.{LineEnds, Lexes, NoSign, ReadsSign}
use Rattle.list_reader.specs.declared.points.Point.{Point}
use Rattle.list_reader.specs.Promises.Points.{point_in, point_with, point_of, ReadsPoint}
use Rattle.list_reader.specs.declared.values.Values.{Values}
use Rattle.list_reader.specs.Promises.Values.{line_values, reason_told, count_number, values_told, ReadsValues}
use Rattle.list_reader.specs.Promises.Checks.{limits, time_before, ChecksTime, cell_said, ChecksCell, Judged, JudgesTime, JudgesLine, ChecksLines}

-- ---- the exit of `.ok_or(e)?`: there was no value, and the reason is e
pub exits : {A B : Type 0} {o : Optional A} {r : Result A Reason} {q : Result B Reason} {e f : Reason} → IsErrAnd q (λ g. g ≡ f) → r ≡ Err f → r ≡ ok_or o e → (o ≡ None) × (q ≡ Err e)
exits {B = B} {o = o} {q = q} {e = e} {f = f} h x y =
    let p = err_from_is_err_and q h in
    let n = by o (sym x ∙ y) in
    (n.0, p.1 ∙ ap Err (p.2 ∙ n.1))
  where
    by : {A : Type 0} (o : Optional A) → Err f ≡ ok_or o e → (o ≡ None) × (f ≡ e)
    by None z = (refl, cc)
    by (Some a) z = never (ap is_ok z)

-- ---- a time

module _ (first last : ℕ) (before : Optional ℕ) (t : ℕ) {r : Bool} (s : r ≡ rises (time_before before) t) where
  pub time_falls : not r ≡ true → ChecksTime first last before t (Err TimeNotRising)
  unfolding time_number
  time_falls l = record { is = λ q e f. rw (sym s ∙ not-true r l) }

  module _ (l : not r ≡ false) where
    pub time_early : t < first → ChecksTime first last before t (Err TimeBeforeStart)
    unfolding time_number
    time_early m = record { is = λ q e f. rw (sym s ∙ not-false r l, e, lt-ltb t first m) }

    pub time_late : first ≤ t → last < t → ChecksTime first last before t (Err TimePastEnd)
    unfolding time_number
    time_late m n = record { is = λ q e f. rw (sym s ∙ not-false r l, e, le-ltb t first m, f, lt-ltb last t n) }

    pub time_right : first ≤ t → t ≤ last → ChecksTime first last before t (Ok tt)
    unfolding time_number
    time_right m n = record { is = λ q e f. rw (sym s ∙ not-false r l, e, le-ltb t first m, f, le-ltb last t n) }

pub ruleset TimeNumbers = (time_falls, time_early, time_late, time_right)

-- ---- a cell's line

-- its number, by its values
abbrev valued_number : List Range → ℕ → Bool → Option (List (Option ℤ)) → ℕ
valued_number fs fl outside none = 50
valued_number fs fl outside (some vs) = if outside then 51 else values_number fs fl 0 false true true (some vs)

-- its number, by what a walk over its index gives
abbrev place_number : List Range → ℕ → Placed → ℕ
place_number fs fl wrong = 50
place_number fs fl (placed outside c ps) = valued_number fs fl outside (assigned ps)

cell_outside : (q : Limits) (is : List ℕ) (vs : List (Option ℤ)) → eqb (length is) (length q.sizes) ≡ true → inside q.sizes is ≡ false → cell_line_number q is vs ≡ 51
unfolding cell_line_number
cell_outside q is vs e i = rw (e, i)

cell_miscounted : (q : Limits) (is : List ℕ) (vs : List (Option ℤ)) → eqb (length is) (length q.sizes) ≡ false → cell_line_number q is vs ≡ 50
unfolding cell_line_number
cell_miscounted q is vs e = rw e

module _ (q : Limits) (fl : ℕ) (flag_is : q.flag ≡ some fl) (t : ℕ) where
  with_values : (i : Indexed) (o : Option (List (Option ℤ))) → assigned i.rest ≡ o
      → place_number q.fields fl (placed_by q.sizes false 0 (some i)) ≡ line_number q (some t) (cell_with i.index o)
  with_values i none e = by (eqb (length i.index) (length q.sizes))
    where
      by : (a : Bool) → place_number q.fields fl (if a then placed (false || not (inside q.sizes i.index)) (0 * product q.sizes + shape.cell_number q.sizes i.index) i.rest else wrong) ≡ 50
      by true = ap (valued_number q.fields fl (not (inside q.sizes i.index))) e
      by false = refl
  with_values i (some vs) e = by (eqb (length i.index) (length q.sizes)) refl (inside q.sizes i.index) refl
    where
      by : (a : Bool) → eqb (length i.index) (length q.sizes) ≡ a → (b : Bool) → inside q.sizes i.index ≡ b
          → place_number q.fields fl (if a then placed (false || not b) (0 * product q.sizes + shape.cell_number q.sizes i.index) i.rest else wrong) ≡ cell_line_number q i.index vs
      by true ea true eb = ap (valued_number q.fields fl false) e ∙ sym (values_last q fl i.index vs flag_is ea eb)
      by true ea false eb = ap (valued_number q.fields fl true) e ∙ sym (cell_outside q i.index vs ea eb)
      by false ea b eb = sym (cell_miscounted q i.index vs ea)

  by_index : (o : Option Indexed) → place_number q.fields fl (placed_by q.sizes false 0 o) ≡ line_number q (some t) (cell_of_index o)
  by_index none = refl
  by_index (some i) = with_values i (assigned i.rest) refl

  by_sizes : (ns : List ℕ) → q.sizes ≡ ns → (ps : List Piece) → place_number q.fields fl (place_from ns false 0 ps) ≡ line_number q (some t) (cell_of_index (indices ps))
  by_sizes [] e ps =
      ap (place_number q.fields fl) (place_none false 0 ps) ∙ ap (λ (ns : List ℕ). place_number q.fields fl (placed_by ns false 0 (indices ps))) (sym e) ∙ by_index (indices ps)
  by_sizes (n ∷ ns) e ps =
      ap (place_number q.fields fl) (place_is n ns false 0 ps) ∙ ap (λ (ms : List ℕ). place_number q.fields fl (placed_by ms false 0 (indices ps))) (sym e) ∙ by_index (indices ps)

  -- the number of a cell's line is that of its walk
  by_walk : (ns : List ℕ) (fs : List Range) → q.sizes ≡ ns → q.fields ≡ fs → (o : Option (List Piece)) → place_number fs fl (point_in ns false 0 o) ≡ line_number q (some t) (cell_said o)
  by_walk ns fs e f none = refl
  by_walk ns fs e f (some ps) = ap (λ (rs : List Range). place_number rs fl (place_from ns false 0 ps)) (sym f) ∙ by_sizes ns e ps

-- ---- behind the index

count_fifty : (n c : ℕ) (fit kept : Bool) → eqb (count_number n c fit kept) 50 ≡ false
count_fifty n c fit kept = by (ltb n c) fit kept
  where
    by : (a b d : Bool) → eqb (if a then 52 else if not b then 53 else if not d then 58 else 0) 50 ≡ false
    by true b d = refl
    by false true true = refl
    by false true false = refl
    by false false d = refl

-- one number for what the values are, and what the index is
abbrev joined_number : Bool → ℕ → Optional Values → ℕ
joined_number outside n None = 50
joined_number outside n (Some v) = if outside then 51 else count_number n v.count v.fit v.kept

values_fifty : (fs : List Range) (fl : ℕ) (vs : List (Option ℤ)) → eqb (values_number fs fl 0 false true true (some vs)) 50 ≡ false
values_fifty fs fl vs = by (ltb (length fs) (length vs)) (all_fit fs vs) (all_keep fl 0 vs)
  where
    by : (a b c : Bool) → eqb (if a then 52 else if not b then 53 else if not c then 58 else 0) 50 ≡ false
    by true b c = refl
    by false true true = refl
    by false true false = refl
    by false false c = refl

by_values : (fs : List Range) (n fl : ℕ) (outside : Bool) (o : Option (List (Option ℤ))) (r : Optional Values) → values_told n r ≡ values_number fs fl 0 false true true o
    → valued_number fs fl outside o ≡ joined_number outside n r
by_values fs n fl outside none None e = refl
by_values fs n fl outside none (Some v) e = never (sym (count_fifty n v.count v.fit v.kept) ∙ eq-eqb (count_number n v.count v.fit v.kept) 50 e)
by_values fs n fl outside (some vs) None e = never (sym (values_fifty fs fl vs) ∙ eq-eqb (values_number fs fl 0 false true true (some vs)) 50 (sym e))
by_values fs n fl outside (some vs) (Some v) e = ap (λ (m : ℕ). if outside then 51 else m) (sym e)

assigned_equal : (fs : List Range) (n fl : ℕ) (outside : Bool) (c : ℕ) (o : Option (List Piece)) (r : Optional Values) → values_told n r ≡ values_number fs fl 0 false true true (line_values o)
    → place_number fs fl (point_with outside c (with_piece (sign 61) o)) ≡ joined_number outside n r
unfolding assigned
assigned_equal fs n fl outside c none r e = by_values fs n fl outside none r e
assigned_equal fs n fl outside c (some ps) r e = by_values fs n fl outside (values ps) r e

assigned_other : (fs : List Range) (fl : ℕ) (outside : Bool) (c b : ℕ) (o : Option (List Piece)) → (b ≡ 61 → ⊥) → place_number fs fl (point_with outside c (with_piece (sign b) o)) ≡ 50
unfolding assigned
assigned_other fs fl outside c b none d = refl
assigned_other fs fl outside c b (some ps) d = rw (ne_eqb b 61 d)

assigned_none : (fs : List Range) (fl : ℕ) (outside : Bool) (c : ℕ) (o : Option (List Piece)) → NoSign o → place_number fs fl (point_with outside c o) ≡ 50
unfolding assigned
assigned_none fs fl outside c none h = refl
assigned_none fs fl outside c (some []) h = refl
assigned_none fs fl outside c (some (literal n ∷ ps)) h = refl
assigned_none fs fl outside c (some (sign b ∷ ps)) h = absurd h

module _ (sizes : List ℕ) (fs : List Range) (fl : ℕ) (line : List ℕ) where
  numbered : {x : Optional Point} → ReadsPoint sizes line x → {r : Result (Unit {0}) Reason} → reason_told r ≡ place_number fs fl (point_of x) → ChecksCell sizes fs fl line r
  numbered w h = record { is = λ q t a b d. h ∙ ap (place_number fs fl) (sym w.is) ∙ by_walk q fl d t sizes fs a b (pieces 0 line) }

  pub cell_wrong : ReadsPoint sizes line None → ChecksCell sizes fs fl line (Err UnreadLine)
  cell_wrong w = numbered w refl

  module _ {x : Point} (w : ReadsPoint sizes line (Some x)) where
    pub cell_unassigned : ReadsSign x.rest.now None → ChecksCell sizes fs fl line (Err UnreadLine)
    cell_unassigned v = numbered w (sym (assigned_none fs fl x.outside x.cell (pieces 0 x.rest.now) v.is))

    module _ {b : ℕ} {past : Bor (List ℕ)} (v : ReadsSign x.rest.now (Some (b, past))) where
      pub cell_other : (b ≡ 61 → ⊥) → ChecksCell sizes fs fl line (Err UnreadLine)
      cell_other d = numbered w (sym (ap (λ (o : Option (List Piece)). place_number fs fl (point_with x.outside x.cell o)) v.is ∙ assigned_other fs fl x.outside x.cell b (pieces 0 past.now) d))

      module _ (d : b ≡ 61) {n : ℕ} where
        by_number : {y : Optional Values} → ReadsValues fs n fl past.now y → {r : Result (Unit {0}) Reason} → reason_told r ≡ joined_number x.outside n y → ChecksCell sizes fs fl line r
        by_number {y} k h =
            numbered w
            (h ∙ sym (ap (λ (o : Option (List Piece)). place_number fs fl (point_with x.outside x.cell o)) v.is
            ∙ ap (λ (i : ℕ). place_number fs fl (point_with x.outside x.cell (with_piece (sign i) (pieces 0 past.now)))) d
            ∙ assigned_equal fs n fl x.outside x.cell (pieces 0 past.now) y k.is))

        pub cell_bad : ReadsValues fs n fl past.now None → ChecksCell sizes fs fl line (Err UnreadLine)
        cell_bad k = by_number k refl

        module _ {y : Values} (k : ReadsValues fs n fl past.now (Some y)) where
          pub cell_outward : x.outside ≡ true → ChecksCell sizes fs fl line (Err OutsideGrid)
          cell_outward h = by_number k (rw h)

          pub cell_inward : x.outside ≡ false → {r : Result (Unit {0}) Reason} → reason_told r ≡ count_number n y.count y.fit y.kept → ChecksCell sizes fs fl line r
          cell_inward h e = by_number k (e ∙ rw h)

pub ruleset CellNumbers = (cell_wrong, cell_unassigned, cell_other, cell_bad, cell_outward, cell_inward)

-- ---- a line

judged_bad : (q : Limits) (before : Optional ℕ) {s : Said} → s ≡ bad → Judged q before s (Err UnreadLine)
judged_bad q before e = ap (line_number q (time_before before)) e

two_bad : (t : ℕ) (p : Piece) (o : Option (List Piece)) → said_in (with_piece (literal t) (with_piece p o)) ≡ bad
unfolding said_by
two_bad t p none = refl
two_bad t p (some ps) = refl

alone_time : (t : ℕ) → said_by (literal t ∷ []) ≡ time t
unfolding said_by
alone_time t = refl

module _ (first last : ℕ) (before : Optional ℕ) (t : ℕ) (line : List ℕ) where
  pub time_unread : Lexes line None → JudgesTime first last before t line (Err UnreadLine)
  time_unread w = record { is = λ q a b. judged_bad q before (ap (λ (o : Option (List Piece)). said_in (with_piece (literal t) o)) w.is) }

  followed : (x : Lexed) → Lexes line (Some x) → (x ≡ End → ⊥) → JudgesTime first last before t line (Err UnreadLine)
  followed (Literal n rest) w d =
      record { is = λ q a b. judged_bad q before (ap (λ (o : Option (List Piece)). said_in (with_piece (literal t) o)) w.is ∙ two_bad t (literal n) (pieces 0 rest.now)) }
  followed (Sign k rest) w d =
      record { is = λ q a b. judged_bad q before (ap (λ (o : Option (List Piece)). said_in (with_piece (literal t) o)) w.is ∙ two_bad t (sign k) (pieces 0 rest.now)) }
  followed End w d = absurd (d refl)

  pub time_followed : {x : Lexed} → Lexes line (Some x) → (x ≡ End → ⊥) → JudgesTime first last before t line (Err UnreadLine)
  time_followed {x} = followed x

  module _ {x : Lexed} (w : Lexes line (Some x)) (e : x ≡ End) where
    says_time : said_in (with_piece (literal t) (pieces 0 line)) ≡ time t
    says_time = let v : Lexes line (Some End) = subst (λ (y : Lexed). Lexes line (Some y)) e w in ap (λ (o : Option (List Piece)). said_in (with_piece (literal t) o)) v.is ∙ alone_time t

    pub time_taken : {u : Unit {0}} → ChecksTime first last before t (Ok u) → JudgesTime first last before t line (Ok (Some t))
    time_taken k =
        record { is = λ q a b. (ap (line_number q (time_before before)) says_time ∙ sym (k.is q a b), ap (time_behind (time_before before)) says_time) }

    pub time_refused : {f : Reason} → ChecksTime first last before t (Err f) → JudgesTime first last before t line (Err f)
    time_refused k = record { is = λ q a b. ap (line_number q (time_before before)) says_time ∙ sym (k.is q a b) }

pub ruleset TimeWays = (time_unread, time_followed, time_taken, time_refused)

sign_bad : (b : ℕ) (o : Option (List Piece)) → (b ≡ 91 → ⊥) → said_in (with_piece (sign b) o) ≡ bad
unfolding said_by
sign_bad b none d = refl
sign_bad b (some ps) d = rw (ne_eqb b 91 d)

bracket_cell : (o : Option (List Piece)) → said_in (with_piece (sign 91) o) ≡ cell_said o
unfolding said_by
bracket_cell none = refl
bracket_cell (some ps) = refl

blank_bad : said_by [] ≡ bad
unfolding said_by
blank_bad = refl

-- a line behind `[` says no time
abbrev Timeless : Said → Type 0
Timeless bad = Unit {0}
Timeless (time t) = ⊥
Timeless (cell is vs) = Unit {0}

with_timeless : (is : List ℕ) (o : Option (List (Option ℤ))) → Timeless (cell_with is o)
with_timeless is none = tt
with_timeless is (some vs) = tt

index_timeless : (o : Option Indexed) → Timeless (cell_of_index o)
index_timeless none = tt
index_timeless (some i) = with_timeless i.index (assigned i.rest)

cell_timeless : (o : Option (List Piece)) → Timeless (cell_said o)
cell_timeless none = tt
cell_timeless (some ps) = index_timeless (indices ps)

before_any : (q : Limits) (s : Said) → Timeless s → line_number q none s ≡ 50
before_any q bad h = refl
before_any q (time t) h = absurd h
before_any q (cell is vs) h = refl

time_stays : (before : Option ℕ) (s : Said) → Timeless s → time_behind before s ≡ before
time_stays before bad h = refl
time_stays before (time t) h = absurd h
time_stays before (cell is vs) h = refl

module _ (sizes : List ℕ) (fs : List Range) (fl first last : ℕ) (before : Optional ℕ) (line : List ℕ) where
  pub line_unread : Lexes line None → JudgesLine (limits sizes fs fl first last) before line (Err UnreadLine)
  line_unread w = record { is = judged_bad (limits sizes fs fl first last) before (ap said_in w.is) }

  module _ {x : Lexed} (w : Lexes line (Some x)) where
    it : {y : Lexed} → x ≡ y → Lexes line (Some y)
    it e = subst (λ (z : Lexed). Lexes line (Some z)) e w

    pub line_blank : x ≡ End → JudgesLine (limits sizes fs fl first last) before line (Err UnreadLine)
    line_blank e = record { is = judged_bad (limits sizes fs fl first last) before (ap said_in (it e).is ∙ blank_bad) }

    pub line_time : {t : ℕ} {rest : Bor (List ℕ)} {r : Result (Optional ℕ) Reason} → x ≡ Literal t rest → JudgesTime first last before t rest.now r → JudgesLine (limits sizes fs fl first last) before line r
    line_time {t} {rest} {r} e h =
        record { is = subst (λ (s : Said). Judged (limits sizes fs fl first last) before s r) (sym (ap said_in (it e).is)) (h.is (limits sizes fs fl first last) refl refl) }

    module _ {b : ℕ} {rest : Bor (List ℕ)} (e : x ≡ Sign b rest) where
      pub line_sign : (b ≡ 91 → ⊥) → JudgesLine (limits sizes fs fl first last) before line (Err UnreadLine)
      line_sign d = record { is = judged_bad (limits sizes fs fl first last) before (ap said_in (it e).is ∙ sign_bad b (pieces 0 rest.now) d) }

      module _ (d : b ≡ 91) where
        says_cell : said_in (pieces 0 line) ≡ cell_said (pieces 0 rest.now)
        says_cell = ap said_in (it e).is ∙ ap (λ (k : ℕ). said_in (with_piece (sign k) (pieces 0 rest.now))) d ∙ bracket_cell (pieces 0 rest.now)

        pub line_early : {t : Bool} → t ≡ has_some before → t ≡ false → JudgesLine (limits sizes fs fl first last) before line (Err UnreadLine)
        line_early {t} f l = record { is = by before (sym f ∙ l) }
          where
            by : (o : Optional ℕ) → has_some o ≡ false → Judged (limits sizes fs fl first last) o (said_in (pieces 0 line)) (Err UnreadLine)
            by None g = ap (line_number (limits sizes fs fl first last) none) says_cell ∙ before_any (limits sizes fs fl first last) (cell_said (pieces 0 rest.now)) (cell_timeless (pieces 0 rest.now))
            by (Some u) g = never (sym g)

        module _ {t : Bool} (f : t ≡ has_some before) (l : t ≡ true) where
          numbers : {r : Result (Unit {0}) Reason} → ChecksCell sizes fs fl rest.now r → line_number (limits sizes fs fl first last) (time_before before) (said_in (pieces 0 line)) ≡ reason_told r
          numbers {r} k = by before (sym f ∙ l)
            where
              by : (o : Optional ℕ) → has_some o ≡ true → line_number (limits sizes fs fl first last) (time_before o) (said_in (pieces 0 line)) ≡ reason_told r
              by None g = never g
              by (Some u) g = ap (line_number (limits sizes fs fl first last) (some u)) says_cell ∙ sym (k.is (limits sizes fs fl first last) u refl refl refl)

          pub line_right : {u : Unit {0}} → ChecksCell sizes fs fl rest.now (Ok u) → JudgesLine (limits sizes fs fl first last) before line (Ok before)
          line_right k =
              record {
                is = (numbers k, ap (time_behind (time_before before)) says_cell ∙ time_stays (time_before before) (cell_said (pieces 0 rest.now)) (cell_timeless (pieces 0 rest.now)));
              }

          pub line_refused : {g : Reason} → ChecksCell sizes fs fl rest.now (Err g) → JudgesLine (limits sizes fs fl first last) before line (Err g)
          line_refused k = record { is = numbers k }

pub ruleset LineWays = (line_unread, line_blank, line_time, line_sign, line_early, line_right, line_refused)

-- ---- the first line of a text from a position on

module _ (text : List ℕ) (at : ℕ) (l : at < length text) {end : ℕ} (e : LineEnds text at end) where
  pub last_line : length text ≤ end → said (drop at text) ≡ bad ∷ []
  last_line m =
      let a = e.is in
      let b = e.within in
      let s : drop at text ≡ get_or text at 0 ∷ drop (at + 1) text = rw (add-one, drop-cons text at 0) in
      let c : length (drop at text) ≡ length text - at = length-drop at text in
      let d : to_end (drop at text) ≡ length (drop at text) = omega arith in
      let f : to_end (get_or text at 0 ∷ drop (at + 1) text) ≡ length (get_or text at 0 ∷ drop (at + 1) text) = subst (λ (z : List ℕ). to_end z ≡ length z) s d in
      ap said s ∙ said_last (get_or text at 0) (drop (at + 1) text) f

  pub first_line : end < length text → said (drop at text) ≡ said_in (pieces 0 (take (end - at) (drop at text))) ∷ said (drop (end + 1) text)
  first_line m =
      let a = e.is in
      let c : length (drop at text) ≡ length text - at = length-drop at text in
      let d : to_end (drop at text) ≡ end - at = omega arith in
      let f : drop (suc (to_end (drop at text))) (drop at text) ≡ drop (end + 1) text =
      drop-drop (suc (to_end (drop at text))) at text ∙ ap (λ (i : ℕ). drop i text) (let g : at + suc (to_end (drop at text)) ≡ end + 1 = omega arith in g) in
      said_cut (drop at text) (omega arith) ∙ ap₂ (λ (i : ℕ) (s : List ℕ). said_in (pieces 0 (take i (drop at text))) ∷ said s) d f

-- ---- a list

-- the check goes on at a line from `at` on, with number n
pub record Checking (q : Limits) (text : List ℕ) (before : Optional ℕ) (n at : ℕ) : Type 0 where
  pub is : check_list q text ≡ check_lines q (time_before before) n (said (drop at text))
  pub within : at ≤ length text
  pub few : n ≤ at + 1

lines_right : (q : Limits) (before : Option ℕ) (n : ℕ) (s : Said) (ss : List Said) → line_number q before s ≡ 0 → check_lines q before n (s ∷ ss) ≡ check_lines q (time_behind before s) (suc n) ss
unfolding check_lines
lines_right q before n s ss e = rw e

lines_refused : (q : Limits) (before : Option ℕ) (n : ℕ) (s : Said) (ss : List Said) (m : ℕ) → line_number q before s ≡ m → 0 < m → check_lines q before n (s ∷ ss) ≡ verdict m n
unfolding check_lines
lines_refused q before n s ss m e l = rw (e, ne_eqb m 0 (λ z. let w = z in omega arith))

pub said_nothing : said [] ≡ []
unfolding said text.lines
said_nothing = refl

lines_none : (q : Limits) (before : Option ℕ) (n : ℕ) → check_lines q before n [] ≡ verdict 0 0
unfolding check_lines
lines_none q before n = refl

-- a reason's number is none that says that a line is right
some_number : (e : Reason) → 0 < reason_number e
some_number reason.Buffers = lit< tt
some_number reason.LongSource = lit< tt
some_number reason.NoToken = lit< tt
some_number reason.LargeLiteral = lit< tt
some_number reason.ManyTokens = lit< tt
some_number reason.OtherForm = lit< tt
some_number reason.NotAllowed = lit< tt
some_number reason.UnknownName = lit< tt
some_number reason.UsedName = lit< tt
some_number reason.WrongUse = lit< tt
some_number reason.BareRelation = lit< tt
some_number reason.DeepNesting = lit< tt
some_number reason.ManyNames = lit< tt
some_number reason.Shape = lit< tt
some_number reason.GridLength = lit< tt
some_number reason.Times = lit< tt
some_number reason.LargeIndex = lit< tt
some_number reason.FieldRange = lit< tt
some_number reason.OutOfRange = lit< tt
some_number reason.ZeroDivisor = lit< tt
some_number reason.ArrayIndex = lit< tt
some_number reason.AssignedValue = lit< tt
some_number reason.Dimensions = lit< tt
some_number reason.EmptyRange = lit< tt
some_number reason.LongLoop = lit< tt
some_number reason.ManyFields = lit< tt
some_number reason.ArraySize = lit< tt
some_number reason.ArrayValues = lit< tt
some_number reason.UnreadLine = lit< tt
some_number reason.OutsideGrid = lit< tt
some_number reason.ManyValues = lit< tt
some_number reason.ListedValue = lit< tt
some_number reason.TimeNotRising = lit< tt
some_number reason.TimeBeforeStart = lit< tt
some_number reason.TimePastEnd = lit< tt
some_number reason.ShortRoom = lit< tt
some_number reason.UnsetFlag = lit< tt
some_number reason.NoPlan = lit< tt
some_number reason.WrongPlan = lit< tt
some_number reason.RowCounts = lit< tt
some_number reason.NoZeroRow = lit< tt

module _ (q : Limits) (text : List ℕ) where
  pub check_start : Checking q text None 1 0
  unfolding check_list
  check_start = record { is = refl; within = omega arith; few = omega arith }

  module _ {before : Optional ℕ} {n at : ℕ} (w : Checking q text before n at) where
    pub check_done : length text ≤ at → ChecksLines q text (Ok tt)
    check_done l =
        record { is = sym (w.is ∙ ap (λ (s : List ℕ). check_lines q (time_before before) n (said s)) (drop_of_length-le text l) ∙ ap (check_lines q (time_before before) n) said_nothing ∙ lines_none q (time_before before) n) }

    module _ (l : at < length text) {end : ℕ} (e : LineEnds text at end) where
      pub check_unended : length text ≤ end → ChecksLines q text (Err (record { reason = UnreadLine; line = n }))
      check_unended m =
          record { is = sym (w.is ∙ ap (check_lines q (time_before before) n) (last_line text at l e m) ∙ lines_refused q (time_before before) n bad [] 50 refl (omega arith)) }

      module _ (m : end < length text) where
        pub check_refused : {f : Reason} → JudgesLine q before (take (end - at) (drop at text)) (Err f) → ChecksLines q text (Err (record { reason = f; line = n }))
        check_refused {f} j =
            record {
              is = sym
                  (w.is ∙ ap (check_lines q (time_before before) n) (first_line text at l e m)
                  ∙ lines_refused q (time_before before) n (said_in (pieces 0 (take (end - at) (drop at text)))) (said (drop (end + 1) text)) (reason_number f) j.is (some_number f));
            }

        pub check_again : {after : Optional ℕ} → JudgesLine q before (take (end - at) (drop at text)) (Ok after) → Checking q text after (n + 1) (end + 1)
        check_again {after} j =
            record {
              is = w.is ∙ ap (check_lines q (time_before before) n) (first_line text at l e m)
                  ∙ lines_right q (time_before before) n (said_in (pieces 0 (take (end - at) (drop at text)))) (said (drop (end + 1) text)) j.is.0
                  ∙ ap₂ (λ (b : Option ℕ) (i : ℕ). check_lines q b i (said (drop (end + 1) text))) j.is.1 (sym (add-one n));
              within = omega arith;
              few = let a = w.few in let b = e.onward in omega arith;
            }

pub ruleset CheckWays = (check_start, check_done, check_unended, check_refused, check_again)
