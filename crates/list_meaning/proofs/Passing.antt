-- Lists that pass the check: the block of a time is found by walking forward once, and two lists can be joined.
use Rattle.std.specs.Prelude.{ℕ, suc, ◌+◌, ◌*◌, ◌≤◌, ◌<◌, Bool, length, ℤ, if◌then◌else◌}
use Rattle.std.proofs.Common.{add-zero, arith, sym, ◌∙◌, subst}
use Rattle.std.proofs.Math.Path.{◌≡◌, refl, ap}
use Rattle.std.proofs.Math.Bool.{true, false, not}
use mathlib.Core.List.{List, [], ◌∷◌, ◌++◌, map, map-append}
use Rattle.std.proofs.Math.Option.{Option, some, none}
use Rattle.std.proofs.Math.Dec.{eqb, ltb}
use borrow.Author.Tests.{ltb-true, ltb-false, ne_eqb, eqb-true, eqb-false}
use Rattle.value.proofs.Theorems.Laws.{never}
use Rattle.automaton.specs.Shape as shape
use Rattle.token.specs.Bytes.{byte_kind, kind_of}
use Rattle.list_meaning.specs.Text.{Line, line, in_front, lines, pieces}
use Rattle.list_meaning.specs.Lines.{Said, bad, time, cell, say, said, said_in}
use Rattle.list_meaning.specs.ListChecking.{Limits, rises, time_number, line_number, time_behind, Verdict, verdict, check_lines, check_list}
use Rattle.list_meaning.specs.Setting.{store_values, set_lines}
use Rattle.list_meaning.specs.Promises.Passing.{LinePasses, last_time, left_within, Ended}

module _ (q : Limits) where
  -- the first line is right, and the rest passes
  pub passes_first : (before : Option ℕ) (n : ℕ) (s : Said) (ss : List Said) → LinePasses q before n (s ∷ ss)
      → (line_number q before s ≡ 0) × LinePasses q (time_behind before s) (suc n) ss
  unfolding check_lines
  passes_first before n s ss p = by (eqb (line_number q before s) 0) refl p.is
    where
      by : (t : Bool) → eqb (line_number q before s) 0 ≡ t
          → (if t then check_lines q (time_behind before s) (suc n) ss else verdict (line_number q before s) n).number ≡ 0
          → (line_number q before s ≡ 0) × LinePasses q (time_behind before s) (suc n) ss
      by true e h = (eqb-true (line_number q before s) 0 e, record { is = h })
      by false e h = absurd (eqb-false (line_number q before s) 0 e h)

  -- a right time is above the one before it
  pub rises_told : (b t : ℕ) → time_number q (some b) t ≡ 0 → b < t
  unfolding time_number
  rises_told b t h = by (ltb b t) refl h
    where
      by : (s : Bool) → ltb b t ≡ s → ◌≡◌ {A = ℕ} (if not s then 54 else if ltb t q.first then 55 else if ltb q.last t then 56 else 0) 0 → b < t
      by true e h = ltb-true b t e
      by false e h = absurd (omega arith)

  -- and not before the start
  pub starts_told : (before : Option ℕ) (t : ℕ) → time_number q before t ≡ 0 → q.first ≤ t
  unfolding time_number
  starts_told before t h = by (rises before t) (ltb t q.first) refl h
    where
      by : (r s : Bool) → ltb t q.first ≡ s → ◌≡◌ {A = ℕ} (if not r then 54 else if s then 55 else if ltb q.last t then 56 else 0) 0 → q.first ≤ t
      by false s e h = absurd (omega arith)
      by true true e h = absurd (omega arith)
      by true false e h = ltb-false t q.first e

  module _ (sizes : List ℕ) (fields : ℕ) where
    -- behind a time no block of that time or an earlier one follows
    pub none_behind : (ss : List Said) (b n t : ℕ) → LinePasses q (some b) n ss → t ≤ b → (g : List ℤ) → set_lines sizes fields t false g ss ≡ g
    unfolding set_lines
    none_behind [] b n t p l g = refl
    none_behind (bad ∷ ss) b n t p l g = absurd (let w = (passes_first (some b) n bad ss p).0 in omega arith)
    none_behind (time u ∷ ss) b n t p l g =
        let h = passes_first (some b) n (time u) ss p in
        let up = rises_told b u h.0 in
        ap (λ (x : Bool). set_lines sizes fields t x g ss) (ne_eqb u t (λ e. let w = e in omega arith)) ∙ none_behind ss u (suc n) t h.1 (omega arith) g
    none_behind (cell is vs ∷ ss) b n t p l g = none_behind ss b (suc n) t (passes_first (some b) n (cell is vs) ss p).1 l g

    -- the block of a time ends at the next time
    pub block_ends : (ss : List Said) (t n u : ℕ) → LinePasses q (some t) n (time u ∷ ss) → (g : List ℤ) → set_lines sizes fields t true g (time u ∷ ss) ≡ g
    unfolding set_lines
    block_ends ss t n u p g =
        let h = passes_first (some t) n (time u) ss p in
        let up = rises_told t u h.0 in
        ap (λ (x : Bool). set_lines sizes fields t x g ss) (ne_eqb u t (λ e. let w = e in omega arith)) ∙ none_behind ss u (suc n) t h.1 (omega arith) g

    -- where the next time is later, there is no block of the time
    pub not_yet : (ss : List Said) (before : Option ℕ) (n t u : ℕ) → LinePasses q before n (time u ∷ ss) → t < u → (g : List ℤ) → set_lines sizes fields t false g (time u ∷ ss) ≡ g
    unfolding set_lines
    not_yet ss before n t u p l g =
        let h = passes_first before n (time u) ss p in
        ap (λ (x : Bool). set_lines sizes fields t x g ss) (ne_eqb u t (λ e. let w = e in omega arith)) ∙ none_behind ss u (suc n) t h.1 (omega arith) g

-- joined lines pass exactly if the first pass, and the others pass behind them
pub passes_joined : (q : Limits) (xs ys : List Said) (before : Option ℕ) (n : ℕ) → LinePasses q before n xs → LinePasses q (last_time before xs) (n + length xs) ys → LinePasses q before n (xs ++ ys)
unfolding check_lines
passes_joined q [] ys before n p r = record { is = ap (λ (k : ℕ). (check_lines q before k ys).number) (sym (add-zero n)) ∙ r.is }
passes_joined q (x ∷ xs) ys before n p r =
    let h = passes_first q before n x xs p in
    let k : n + suc (length xs) ≡ suc n + length xs = omega arith in
    let rest = passes_joined q xs ys (time_behind before x) (suc n) h.1 (subst (λ (m : ℕ). LinePasses q (last_time (time_behind before x) xs) m ys) k r) in
    record { is = rw h.0 rest.is }

-- the lines of a joined list are set one after the other
pub set_joined : (sizes : List ℕ) (fields t : ℕ) (w : Bool) (g : List ℤ) (xs ys : List Said)
    → set_lines sizes fields t w g (xs ++ ys) ≡ set_lines sizes fields t (left_within t w xs) (set_lines sizes fields t w g xs) ys
unfolding set_lines
set_joined sizes fields t w g [] ys = refl
set_joined sizes fields t w g (bad ∷ xs) ys = set_joined sizes fields t w g xs ys
set_joined sizes fields t w g (time u ∷ xs) ys = set_joined sizes fields t (eqb u t) g xs ys
set_joined sizes fields t true g (cell is vs ∷ xs) ys = set_joined sizes fields t true (store_values g (shape.cell_number sizes is * fields) vs) xs ys
set_joined sizes fields t false g (cell is vs ∷ xs) ys = set_joined sizes fields t false g xs ys

abbrev split : Bool → ℕ → List Line → List Line
split true b ls = line [] true ∷ ls
split false b ls = in_front b ls

lines_split : (b : ℕ) (bs : List ℕ) (t : Bool) → eqb (kind_of b) byte_kind.line_end ≡ t → lines (b ∷ bs) ≡ split t b (lines bs)
unfolding lines
lines_split b bs true e = rw (e, lines)
lines_split b bs false e = rw (e, lines)

lines_joined : (xs ys : List ℕ) → Ended (lines xs) → lines (xs ++ ys) ≡ lines xs ++ lines ys
unfolding lines
lines_joined [] ys h = refl
lines_joined (x ∷ xs) ys h = by (eqb (kind_of x) byte_kind.line_end) refl (lines_joined xs ys)
  where
    front : (ls : List Line) → lines xs ≡ ls → Ended (in_front x ls) → (Ended (lines xs) → lines (xs ++ ys) ≡ lines xs ++ lines ys)
        → in_front x (lines (xs ++ ys)) ≡ in_front x ls ++ lines ys
    front [] e k r = never k.0
    front (l ∷ ls) e k r = ap (in_front x) (r (subst Ended (sym e) k) ∙ ap (λ (z : List Line). z ++ lines ys) e)

    by : (t : Bool) → eqb (kind_of x) byte_kind.line_end ≡ t → (Ended (lines xs) → lines (xs ++ ys) ≡ lines xs ++ lines ys) → lines (x ∷ xs ++ ys) ≡ lines (x ∷ xs) ++ lines ys
    by true e r =
        lines_split x (xs ++ ys) true e ∙ ap (λ (ls : List Line). line [] true ∷ ls) (r (subst Ended (lines_split x xs true e) h).1)
        ∙ ap (λ (ls : List Line). ls ++ lines ys) (sym (lines_split x xs true e))
    by false e r =
        lines_split x (xs ++ ys) false e ∙ front (lines xs) refl (subst Ended (lines_split x xs false e) h) r
        ∙ ap (λ (ls : List Line). ls ++ lines ys) (sym (lines_split x xs false e))

-- a list that passes has an end at every line
ended_told : (q : Limits) (before : Option ℕ) (n : ℕ) (ls : List Line) → LinePasses q before n (map say ls) → Ended ls
unfolding say
ended_told q before n [] p = tt
ended_told q before n (l ∷ ls) p =
    let h = passes_first q before n (say l) (map say ls) p in
    (by l.ended refl h.0, ended_told q (time_behind before (say l)) (suc n) ls h.1)
  where
    by : (t : Bool) → l.ended ≡ t → line_number q before (if l.ended then said_in (pieces 0 l.bytes) else bad) ≡ 0 → l.ended ≡ true
    by true e h = e
    by false e h = absurd (let w : line_number q before bad ≡ 0 = subst (λ (u : Bool). line_number q before (if u then said_in (pieces 0 l.bytes) else bad) ≡ 0) e h in omega arith)

-- what a joined list says, where the first one passes
pub said_joined : (q : Limits) (xs ys : List ℕ) → check_list q xs ≡ verdict 0 0 → said (xs ++ ys) ≡ said xs ++ said ys
unfolding said check_list
said_joined q xs ys e =
    let p : LinePasses q none 1 (map say (lines xs)) = record { is = ap (λ (v : Verdict). v.number) e } in
    ap (map say) (lines_joined xs ys (ended_told q none 1 (lines xs) p)) ∙ map-append say (lines xs) (lines ys)
