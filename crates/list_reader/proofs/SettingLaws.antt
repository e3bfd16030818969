-- Setting a block: one law for each way through the code.
use mathlib.Core.Path.{◌≡◌, refl, sym, ap, ap₂, ◌∙◌, subst}
use mathlib.Core.Bool.{Bool, true, false, not}
use mathlib.Core.List.{List, [], ◌∷◌}
use mathlib.Core.Option.{Option, some, none}
use Prim.Native.Nat.{ℕ, suc, ◌+◌, ◌-◌, ◌*◌, ◌≤◌, ◌<◌}
use native.Mathlib.Nat.{zero-mul, zero-add, mul-le-mul_left}
use native.Mathlib.Omega.{arith}
use native.Mathlib.Numerals.{add-one}
use lib.ListN.{length, take, drop, drop_of_length-le}
use lib.Seq.{set_out}
use lib.IntN.{ℤ}
use lib.Dec.{eqb, ltb}
use mir.Syntax.{w64}
use mir.Val.{Fits}
use borrow.Author.Tests.{eq-eqb, ltb-true, ltb-false}
use Rattle.std.specs.Prelude.{if◌then◌else◌}
use Rattle.value.proofs.Theorems.Laws.{never}
use Rattle.automaton.specs.Shape as shape
use Rattle.automaton.specs.Shape.{product}
use Rattle.list_meaning.specs.Text.{Piece, literal, sign, with_piece, pieces}
use Rattle.list_meaning.specs.Lines.{Said, bad, time, cell, Indexed, indices, before_values, values, assigned, cell_with, cell_of_index, said_by, said_in, said}
use Rattle.list_meaning.specs.ListChecking.{Limits, inside}
use Rattle.list_meaning.specs.Setting.{store_values, set_lines}
use Rattle.list_meaning.specs.Promises.Walking.{Placed, wrong, placed, place_from, placed_by, store_one}
use Rattle.list_meaning.proofs.Walking.{place_is, place_none, one_stored}
use Rattle.list_meaning.specs.Promises.Passing.{LinePasses}
use Rattle.list_meaning.proofs.Passing.{passes_first, block_ends}
use Rattle.list_meaning.proofs.Theorems.Kept.{right_cell}
use Rattle.std.proofs.Common.{Bor, Option as Optional, Some, None, is_some as has_some}
use Rattle.list_reader.specs.Promises.Promises.{LineEnds, NoLiteral, NoSign, ReadsLiteral, ReadsSign}
use Rattle.list_reader.specs.declared.points.Point.{Point}
use Rattle.list_reader.specs.Promises.Points.{point_in, point_with, ReadsPoint}
use Rattle.list_reader.specs.declared.values.Valued.{Valued}
use Rattle.list_reader.specs.Promises.Values.{line_values, given_of, further, ReadsValue}
use Rattle.list_reader.specs.Promises.Checks.{cell_said}
use Rattle.list_reader.specs.Promises.Settings.{StoresValues, StoresCell, StoresLine, TellsTime, AtBlock, SetBlock, SetsLines, NextTime}
use Rattle.list_reader.proofs.CheckLaws.{last_line, first_line, said_nothing}

-- ---- constructors told apart

abbrev is_some : Option (List (Option ℤ)) → Bool
is_some none = false
is_some (some vs) = true

abbrev is_read : Option (List Piece) → Bool
is_read none = false
is_read (some ps) = true

abbrev is_cell : Said → Bool
is_cell bad = false
is_cell (time t) = false
is_cell (cell is vs) = true

abbrev is_time : Said → Bool
is_time bad = false
is_time (time t) = true
is_time (cell is vs) = false

abbrev is_placed : Placed → Bool
is_placed wrong = false
is_placed (placed out c ps) = true

-- ---- the values of a line

-- behind the grid nothing is stored
store_past : (vs : List (Option ℤ)) (g : List ℤ) (e : ℕ) → length g ≤ e → store_values g e vs ≡ g
unfolding store_values
store_past [] g e l = refl
store_past (none ∷ vs) g e l = store_past vs g (suc e) (omega arith)
store_past (some z ∷ vs) g e l = ap (λ (h : List ℤ). store_values h (suc e) vs) (set_out g e z l) ∙ store_past vs g (suc e) (omega arith)

store_first : (g : List ℤ) (e : ℕ) (v : Option ℤ) (vs : List (Option ℤ)) → store_values g e (v ∷ vs) ≡ store_values (store_one g e v) (suc e) vs
store_first g e v vs = one_stored g e v vs

store_end : (g : List ℤ) (e : ℕ) → store_values g e [] ≡ g
unfolding store_values
store_end g e = refl

-- values are left to be stored from entry e on, which then make up a grid
pub record Left (here : List ℕ) (e : ℕ) (g whole : List ℤ) : Type 0 where
  pub rest : List (Option ℤ)
  pub reads : line_values (pieces 0 here) ≡ some rest
  pub stores : whole ≡ store_values g e rest

pub record Storing (line : List ℕ) (entry : ℕ) (g₀ : List ℤ) (here : List ℕ) (e : ℕ) (g : List ℤ) : Type 0 where
  pub going : (vs : List (Option ℤ)) → line_values (pieces 0 line) ≡ some vs → Left here e g (store_values g₀ entry vs)

-- values with one in front
pub record Fronted (v : Option ℤ) (o : Option (List (Option ℤ))) (vs : List (Option ℤ)) : Type 0 where
  pub rest : List (Option ℤ)
  pub is : o ≡ some rest
  pub whole : vs ≡ v ∷ rest

fronted : (v : Option ℤ) (o : Option (List (Option ℤ))) (vs : List (Option ℤ)) → before_values v o ≡ some vs → Fronted v o vs
fronted v none vs e = never (ap is_some e)
fronted v (some ws) vs e = record { rest = ws; is = refl; whole = cc }

module _ (line : List ℕ) (entry : ℕ) (g₀ : List ℤ) where
  pub store_start : Storing line entry g₀ line entry g₀
  store_start = record { going = λ vs e. record { rest = vs; reads = e; stores = refl } }

  module _ {here : List ℕ} {e : ℕ} {g : List ℤ} (w : Storing line entry g₀ here e g) where
    pub store_out : length g ≤ e → StoresValues line entry g₀ g
    store_out l = record { is = λ vs p. let k = w.going vs p in sym (k.stores ∙ store_past k.rest g e l) }

    pub store_bad : ReadsValue here None → StoresValues line entry g₀ g
    store_bad r = record { is = λ vs p. let k = w.going vs p in never (ap is_some (sym r.is ∙ k.reads)) }

    module _ {v : Valued} (r : ReadsValue here (Some v)) {h : List ℤ} (s : h ≡ store_one g e (given_of v.given)) where
      pub store_last : v.next ≡ None → StoresValues line entry g₀ h
      store_last f =
          record {
            is = λ vs p.
                let k = w.going vs p in
                let t = fronted (given_of v.given) (some []) k.rest (ap (λ (o : Optional (Bor (List ℕ))). before_values (given_of v.given) (further o)) (sym f) ∙ sym r.is ∙ k.reads) in
                let n : t.rest ≡ [] = nothing t.rest t.is in
                s ∙ sym (k.stores ∙ ap (store_values g e) (t.whole ∙ ap (λ (ws : List (Option ℤ)). given_of v.given ∷ ws) n) ∙ store_first g e (given_of v.given) [] ∙ store_end (store_one g e (given_of v.given)) (suc e));
          }
        where
          nothing : (ws : List (Option ℤ)) → some [] ≡ some ws → ws ≡ []
          nothing ws q = cc

      pub store_more : {rest : Bor (List ℕ)} → v.next ≡ Some rest → Storing line entry g₀ rest.now (e + 1) h
      store_more {rest} f =
          record {
            going = λ vs p.
                let k = w.going vs p in
                let t = fronted (given_of v.given) (line_values (pieces 0 rest.now)) k.rest (ap (λ (o : Optional (Bor (List ℕ))). before_values (given_of v.given) (further o)) (sym f) ∙ sym r.is ∙ k.reads) in
                record {
                  rest = t.rest;
                  reads = t.is;
                  stores = k.stores ∙ ap (store_values g e) t.whole ∙ store_first g e (given_of v.given) t.rest ∙ ap₂ (λ (y : List ℤ) (i : ℕ). store_values y i t.rest) (sym s) (sym (add-one e));
                };
          }

pub ruleset StoreWays = (store_start, store_out, store_bad, store_last, store_more)

-- ---- a cell's line

-- what a cell's line says, by the walk over its index
pub record CellTold (sizes : List ℕ) (o : Option (List Piece)) (is : List ℕ) (vs : List (Option ℤ)) : Type 0 where
  pub outside : Bool
  pub rest : List Piece
  pub walk : point_in sizes false 0 o ≡ placed outside (shape.cell_number sizes is) rest
  pub told : assigned rest ≡ some vs

place_all : (ns : List ℕ) (ps : List Piece) → place_from ns false 0 ps ≡ placed_by ns false 0 (indices ps)
place_all [] ps = place_none false 0 ps
place_all (n ∷ ns) ps = place_is n ns false 0 ps

cell_told : (sizes : List ℕ) (o : Option (List Piece)) (is : List ℕ) (vs : List (Option ℤ)) → cell_said o ≡ cell is vs → length is ≡ length sizes → CellTold sizes o is vs
cell_told sizes none is vs e l = never (ap is_cell e)
cell_told sizes (some ps) is vs e l = by_index (indices ps) refl e
  where
    by_values : (i : Indexed) → indices ps ≡ some i → (a : Option (List (Option ℤ))) → assigned i.rest ≡ a → cell_with i.index a ≡ cell is vs → CellTold sizes (some ps) is vs
    by_values i p none q f = never (ap is_cell f)
    by_values i p (some ws) q f =
        let same : i.index ≡ is = cc in
        let values_same : ws ≡ vs = cc in
        let count : eqb (length i.index) (length sizes) ≡ true = eq-eqb (length i.index) (length sizes) (ap length same ∙ l) in
        let number : 0 * product sizes + shape.cell_number sizes i.index ≡ shape.cell_number sizes is =
        ap (λ (y : ℕ). y + shape.cell_number sizes i.index) (zero-mul (product sizes)) ∙ zero-add (shape.cell_number sizes i.index) ∙ ap (shape.cell_number sizes) same in
        record {
          outside = not (inside sizes i.index);
          rest = i.rest;
          walk = place_all sizes ps ∙ ap (placed_by sizes false 0) p
              ∙ ap (λ (t : Bool). if t then placed (not (inside sizes i.index)) (0 * product sizes + shape.cell_number sizes i.index) i.rest else wrong) count
              ∙ ap (λ (n : ℕ). placed (not (inside sizes i.index)) n i.rest) number;
          told = q ∙ ap some values_same;
        }

    by_index : (x : Option Indexed) → indices ps ≡ x → cell_of_index x ≡ cell is vs → CellTold sizes (some ps) is vs
    by_index none p f = never (ap is_cell f)
    by_index (some i) p f = by_values i p (assigned i.rest) refl f

-- a place that was read is that of the walk
placed_told : (out : Bool) (c : ℕ) (o : Option (List Piece)) (outside : Bool) (n : ℕ) (rest : List Piece) → point_with out c o ≡ placed outside n rest → (c ≡ n) × (o ≡ some rest)
placed_told out c none outside n rest e = never (ap is_placed e)
placed_told out c (some ps) outside n rest e = (cc, ap some (let h : ps ≡ rest = cc in h))

assigned_other : (o : Option (List Piece)) → NoSign o → (rest : List Piece) (vs : List (Option ℤ)) → o ≡ some rest → assigned rest ≡ some vs → ⊥
unfolding assigned
assigned_other none h rest vs e f = never (ap is_read e)
assigned_other (some []) h rest vs e f = let g : [] ≡ rest = cc in never (ap is_some (ap assigned g ∙ f))
assigned_other (some (literal m ∷ ps)) h rest vs e f = let g : literal m ∷ ps ≡ rest = cc in never (ap is_some (ap assigned g ∙ f))
assigned_other (some (sign b ∷ ps)) h rest vs e f = absurd h

assigned_sign : (b : ℕ) (o : Option (List Piece)) (rest : List Piece) (vs : List (Option ℤ)) → with_piece (sign b) o ≡ some rest → assigned rest ≡ some vs → line_values o ≡ some vs
unfolding assigned
assigned_sign b none rest vs e f = never (ap is_read e)
assigned_sign b (some ps) rest vs e f = let h : sign b ∷ ps ≡ rest = cc in by (eqb b 61) (ap assigned h ∙ f)
  where
    by : (t : Bool) → (if t then values ps else none) ≡ some vs → values ps ≡ some vs
    by true q = q
    by false q = never (ap is_some q)

module _ (sizes : List ℕ) (fields : ℕ) (line : List ℕ) (g : List ℤ) where
  pub cell_nowhere : ReadsPoint sizes line None → StoresCell sizes fields line g g
  cell_nowhere w = record { is = λ is vs p l. let k = cell_told sizes (pieces 0 line) is vs p l in never (ap is_placed (sym w.is ∙ k.walk)) }

  module _ {x : Point} (w : ReadsPoint sizes line (Some x)) where
    found : {is : List ℕ} {vs : List (Option ℤ)} → (k : CellTold sizes (pieces 0 line) is vs) → (x.cell ≡ shape.cell_number sizes is) × (pieces 0 x.rest.now ≡ some k.rest)
    found {is} k = placed_told x.outside x.cell (pieces 0 x.rest.now) k.outside (shape.cell_number sizes is) k.rest (sym w.is ∙ k.walk)

    pub cell_unassigned : ReadsSign x.rest.now None → StoresCell sizes fields line g g
    cell_unassigned v =
        record { is = λ is vs p l. let k = cell_told sizes (pieces 0 line) is vs p l in absurd (assigned_other (pieces 0 x.rest.now) v.is k.rest vs (found k).1 k.told) }

    pub cell_stored : {b : ℕ} {past : Bor (List ℕ)} {h : List ℤ} → ReadsSign x.rest.now (Some (b, past)) → StoresValues past.now (x.cell * fields) g h → StoresCell sizes fields line g h
    cell_stored {b} {past} v s =
        record {
          is = λ is vs p l.
              let k = cell_told sizes (pieces 0 line) is vs p l in
              let m = found k in
              s.is vs (assigned_sign b (pieces 0 past.now) k.rest vs (sym v.is ∙ m.1) k.told) ∙ ap (λ (n : ℕ). store_values g (n * fields) vs) m.0;
        }

pub cell_bound : (sizes line : List ℕ) {x : Point} → ReadsPoint sizes line (Some x) → x.cell ≤ 72057594037927936
cell_bound sizes line w = w.onward.1

pub entry_fits : (c f : ℕ) → c ≤ 72057594037927936 → f ≤ 64 → Fits w64 (c * f)
entry_fits c f a b = omega (arith, mul-le-mul_left c b)

pub ruleset CellWays = (cell_nowhere, cell_unassigned, cell_stored, cell_bound, entry_fits)

-- ---- a line

no_sign_cell : (o : Option (List Piece)) → NoSign o → (is : List ℕ) (vs : List (Option ℤ)) → said_in o ≡ cell is vs → ⊥
unfolding said_by
no_sign_cell none h is vs e = never (ap is_cell e)
no_sign_cell (some []) h is vs e = never (ap is_cell e)
no_sign_cell (some (literal t ∷ [])) h is vs e = never (ap is_cell e)
no_sign_cell (some (literal t ∷ p ∷ ps)) h is vs e = never (ap is_cell e)
no_sign_cell (some (sign b ∷ ps)) h is vs e = absurd h

literal_cell : (t : ℕ) (o : Option (List Piece)) (is : List ℕ) (vs : List (Option ℤ)) → said_in (with_piece (literal t) o) ≡ cell is vs → ⊥
unfolding said_by
literal_cell t none is vs e = never (ap is_cell e)
literal_cell t (some []) is vs e = never (ap is_cell e)
literal_cell t (some (p ∷ ps)) is vs e = never (ap is_cell e)

literal_time : (t : ℕ) (o : Option (List Piece)) (u : ℕ) → said_in (with_piece (literal t) o) ≡ time u → t ≡ u
unfolding said_by
literal_time t none u e = never (ap is_time e)
literal_time t (some []) u e = cc
literal_time t (some (p ∷ ps)) u e = never (ap is_time e)

sign_cell : (b : ℕ) (o : Option (List Piece)) (is : List ℕ) (vs : List (Option ℤ)) → said_in (with_piece (sign b) o) ≡ cell is vs → cell_said o ≡ cell is vs
unfolding said_by
sign_cell b none is vs e = e
sign_cell b (some ps) is vs e = by (eqb b 91) e
  where
    by : (t : Bool) → (if t then cell_of_index (indices ps) else bad) ≡ cell is vs → cell_of_index (indices ps) ≡ cell is vs
    by true q = q
    by false q = never (ap is_cell q)

with_untimed : (is : List ℕ) (a : Option (List (Option ℤ))) → is_time (cell_with is a) ≡ false
with_untimed is none = refl
with_untimed is (some vs) = refl

index_untimed : (o : Option Indexed) → is_time (cell_of_index o) ≡ false
index_untimed none = refl
index_untimed (some i) = with_untimed i.index (assigned i.rest)

no_literal_time : (o : Option (List Piece)) → NoLiteral o → (u : ℕ) → said_in o ≡ time u → ⊥
unfolding said_by
no_literal_time none h u e = never (ap is_time e)
no_literal_time (some []) h u e = never (ap is_time e)
no_literal_time (some (literal t ∷ ps)) h u e = absurd h
no_literal_time (some (sign b ∷ ps)) h u e = by (eqb b 91) e
  where
    by : (t : Bool) → (if t then cell_of_index (indices ps) else bad) ≡ time u → ⊥
    by true q = never (sym (index_untimed (indices ps)) ∙ ap is_time q)
    by false q = never (ap is_time q)

module _ (sizes : List ℕ) (fields : ℕ) (line : List ℕ) (g : List ℤ) where
  pub line_other : ReadsSign line None → StoresLine sizes fields line g g
  line_other w = record { is = λ is vs p l. absurd (no_sign_cell (pieces 0 line) w.is is vs p) }

  pub line_stored : {b : ℕ} {rest : Bor (List ℕ)} {h : List ℤ} → ReadsSign line (Some (b, rest)) → StoresCell sizes fields rest.now g h → StoresLine sizes fields line g h
  line_stored {b} {rest} w s = record { is = λ is vs p l. s.is is vs (sign_cell b (pieces 0 rest.now) is vs (ap said_in (sym w.is) ∙ p)) l }

pub ruleset LineStores = (line_other, line_stored)

tells : (line : List ℕ) (r : Optional (ℕ × Bor (List ℕ))) → ReadsLiteral line r → TellsTime line (has_some r)
tells line None w = record { time_line = λ u p. absurd (no_literal_time (pieces 0 line) w.is u p); cell_line = λ is vs p. refl }
tells line (Some r) w = record { time_line = λ u p. refl; cell_line = λ is vs p. absurd (literal_cell r.0 (pieces 0 r.1.now) is vs (ap said_in (sym w.is.0) ∙ p)) }

pub tells_time : (line : List ℕ) {r : Optional (ℕ × Bor (List ℕ))} {t : Bool} → ReadsLiteral line r → t ≡ has_some r → TellsTime line t
tells_time line {r} w e = subst (TellsTime line) (sym e) (tells line r w)

pub ruleset TimeTells = (tells_time)

-- ---- the lines of a block

pub set_nothing : (sizes : List ℕ) (fields t : ℕ) (b : Bool) (g : List ℤ) → set_lines sizes fields t b g [] ≡ g
unfolding set_lines
set_nothing sizes fields t b g = refl

set_cell : (sizes : List ℕ) (fields t : ℕ) (g : List ℤ) (is : List ℕ) (vs : List (Option ℤ)) (ss : List Said)
    → set_lines sizes fields t true g (cell is vs ∷ ss) ≡ set_lines sizes fields t true (store_values g (shape.cell_number sizes is * fields) vs) ss
unfolding set_lines
set_cell sizes fields t g is vs ss = refl

skip_cell : (sizes : List ℕ) (fields u : ℕ) (g : List ℤ) (is : List ℕ) (vs : List (Option ℤ)) (ss : List Said) → set_lines sizes fields u false g (cell is vs ∷ ss) ≡ set_lines sizes fields u false g ss
unfolding set_lines
skip_cell sizes fields u g is vs ss = refl

-- of a list that passes behind the time t from `from` on: its lines up to `at` are set
pub record SetSoFar (q : Limits) (sizes : List ℕ) (fields t : ℕ) (text : List ℕ) (from at : ℕ) (g₀ g : List ℤ) : Type 0 where
  pub sets : set_lines sizes fields t true g₀ (said (drop from text)) ≡ set_lines sizes fields t true g (said (drop at text))
  pub skips : (u : ℕ) (k : List ℤ) → set_lines sizes fields u false k (said (drop from text)) ≡ set_lines sizes fields u false k (said (drop at text))
  pub number : ℕ
  pub passes : LinePasses q (some t) number (said (drop at text))

pub record Setting (sizes : List ℕ) (fields : ℕ) (text : List ℕ) (from : ℕ) (g₀ : List ℤ) (at : ℕ) (g : List ℤ) : Type 0 where
  pub going : (q : Limits) (t n : ℕ) → q.sizes ≡ sizes → LinePasses q (some t) n (said (drop from text)) → SetSoFar q sizes fields t text from at g₀ g
  pub within : at ≤ length text

-- the lines behind a cell's line
cell_set : (q : Limits) (sizes : List ℕ) (fields t : ℕ) (text : List ℕ) (from at next : ℕ) (g₀ g h : List ℤ) → q.sizes ≡ sizes → (k : SetSoFar q sizes fields t text from at g₀ g)
    → (s : Said) → said (drop at text) ≡ s ∷ said (drop next text) → ((u : ℕ) → s ≡ time u → ⊥)
    → ((is : List ℕ) (vs : List (Option ℤ)) → s ≡ cell is vs → length is ≡ length sizes → h ≡ store_values g (shape.cell_number sizes is * fields) vs)
    → SetSoFar q sizes fields t text from next g₀ h
cell_set q sizes fields t text from at next g₀ g h z k bad e p f =
    let w = (passes_first q (some t) k.number bad (said (drop next text)) (subst (LinePasses q (some t) k.number) e k.passes)).0 in absurd (omega arith)
cell_set q sizes fields t text from at next g₀ g h z k (time u) e p f = absurd (p u refl)
cell_set q sizes fields t text from at next g₀ g h z k (cell is vs) e p f =
    let w = passes_first q (some t) k.number (cell is vs) (said (drop next text)) (subst (LinePasses q (some t) k.number) e k.passes) in
    let s = f is vs refl ((right_cell q is vs w.0).counted ∙ ap length z) in
    record {
      sets = k.sets ∙ ap (set_lines sizes fields t true g) e ∙ set_cell sizes fields t g is vs (said (drop next text)) ∙ ap (λ (y : List ℤ). set_lines sizes fields t true y (said (drop next text))) (sym s);
      skips = λ u y. k.skips u y ∙ ap (set_lines sizes fields u false y) e ∙ skip_cell sizes fields u y is vs (said (drop next text));
      number = suc k.number;
      passes = w.1;
    }

-- the block ends at a time's line
time_ends : (q : Limits) (sizes : List ℕ) (fields t : ℕ) (text : List ℕ) (from at next : ℕ) (g₀ g : List ℤ) → (k : SetSoFar q sizes fields t text from at g₀ g)
    → (s : Said) → said (drop at text) ≡ s ∷ said (drop next text) → ((is : List ℕ) (vs : List (Option ℤ)) → s ≡ cell is vs → ⊥)
    → SetBlock q sizes fields t text from at g₀ g
time_ends q sizes fields t text from at next g₀ g k bad e p =
    let w = (passes_first q (some t) k.number bad (said (drop next text)) (subst (LinePasses q (some t) k.number) e k.passes)).0 in absurd (omega arith)
time_ends q sizes fields t text from at next g₀ g k (time u) e p =
    record {
      sets = k.sets ∙ ap (set_lines sizes fields t true g) e ∙ block_ends q sizes fields (said (drop next text)) t k.number u (subst (LinePasses q (some t) k.number) e k.passes) g;
      skips = k.skips;
      number = k.number;
      passes = k.passes;
      opens = subst AtBlock (sym e) tt;
    }
time_ends q sizes fields t text from at next g₀ g k (cell is vs) e p = absurd (p is vs refl)

module _ (sizes : List ℕ) (fields : ℕ) (text : List ℕ) (from : ℕ) (g₀ : List ℤ) where
  pub set_start : from ≤ length text → Setting sizes fields text from g₀ from g₀
  set_start l = record { going = λ q t n z p. record { sets = refl; skips = λ u k. refl; number = n; passes = p }; within = l }

  module _ {at : ℕ} {g : List ℤ} (w : Setting sizes fields text from g₀ at g) where
    pub set_end : length text ≤ at → SetsLines sizes fields text from at g₀ g
    set_end l =
        record {
          is = λ q t n z p.
              let k = w.going q t n z p in
              let e : said (drop at text) ≡ [] = ap said (drop_of_length-le text l) ∙ said_nothing in
              record { sets = k.sets ∙ ap (set_lines sizes fields t true g) e ∙ set_nothing sizes fields t true g; skips = k.skips; number = k.number; passes = k.passes; opens = subst AtBlock (sym e) tt };
          within = w.within;
        }

    module _ (l : at < length text) {end : ℕ} (e : LineEnds text at end) where
      pub set_unended : length text ≤ end → SetsLines sizes fields text from at g₀ g
      set_unended m =
          record {
            is = λ q t n z p.
                let k = w.going q t n z p in
                let v = (passes_first q (some t) k.number bad [] (subst (LinePasses q (some t) k.number) (last_line text at l e m) k.passes)).0 in
                absurd (omega arith);
            within = w.within;
          }

      module _ (m : end < length text) {r : Bool} (i : TellsTime (take (end - at) (drop at text)) r) where
        pub set_time : r ≡ true → SetsLines sizes fields text from at g₀ g
        set_time f =
            record {
              is = λ q t n z p.
                  time_ends q sizes fields t text from at (end + 1) g₀ g (w.going q t n z p) (said_in (pieces 0 (take (end - at) (drop at text)))) (first_line text at l e m)
                  (λ is vs c. never (sym (i.cell_line is vs c) ∙ f));
              within = w.within;
            }

        pub set_again : {h : List ℤ} → r ≡ false → StoresLine sizes fields (take (end - at) (drop at text)) g h → Setting sizes fields text from g₀ (end + 1) h
        set_again {h} f s =
            record {
              going = λ q t n z p.
                  cell_set q sizes fields t text from at (end + 1) g₀ g h z (w.going q t n z p) (said_in (pieces 0 (take (end - at) (drop at text)))) (first_line text at l e m)
                  (λ u c. never (sym f ∙ i.time_line u c)) s.is;
              within = omega arith;
            }

pub ruleset SetWays = (set_start, set_end, set_unended, set_time, set_again)

-- ---- the next block

abbrev first_said : List Said → Said
first_said [] = bad
first_said (s ∷ ss) = s

abbrev rest_said : List Said → List Said
rest_said [] = []
rest_said (s ∷ ss) = ss

abbrev has_line : List Said → Bool
has_line [] = false
has_line (s ∷ ss) = true

module _ (text : List ℕ) (at : ℕ) where
  due_end : length text ≤ at → NextTime text at None
  due_end l =
      let e : said (drop at text) ≡ [] = ap said (drop_of_length-le text l) ∙ said_nothing in
      record { ends = λ p. refl; begins = λ t ss p. never (ap has_line (sym e ∙ p)) }

  module _ {end : ℕ} (e : LineEnds text at end) where
    pub due_unended : length text ≤ end → NextTime text at None
    due_unended m = by (ltb at (length text)) refl
      where
        by : (t : Bool) → ltb at (length text) ≡ t → NextTime text at None
        by true q = record { ends = λ p. refl; begins = λ t ss p. never (ap (λ (x : List Said). is_time (first_said x)) (sym (last_line text at (ltb-true at (length text) q) e m) ∙ p)) }
        by false q = due_end (ltb-false at (length text) q)

    module _ (m : end < length text) where
      first : said (drop at text) ≡ said_in (pieces 0 (take (end - at) (drop at text))) ∷ said (drop (end + 1) text)
      first = first_line text at (let a = e.onward in omega arith) e m

      pub due_other : ReadsLiteral (take (end - at) (drop at text)) None → NextTime text at None
      due_other w =
          record { ends = λ p. refl; begins = λ t ss p. absurd (no_literal_time (pieces 0 (take (end - at) (drop at text))) w.is t (ap first_said (sym first ∙ p))) }

      pub due_time : {t : ℕ} {rest : Bor (List ℕ)} → ReadsLiteral (take (end - at) (drop at text)) (Some (t, rest)) → NextTime text at (Some (record { time = t; behind = end + 1 }))
      due_time {t} {rest} w =
          record {
            ends = λ p. never (sym (ap has_line (sym first ∙ p)));
            begins = λ u ss p.
                let q = sym first ∙ p in
                let s = literal_time t (pieces 0 rest.now) u (ap said_in (sym w.is.0) ∙ ap first_said q) in
                record { behind = end + 1; is = ap (λ (y : ℕ). Some (record { time = y; behind = end + 1 })) s; rest = ap rest_said q; within = omega arith };
          }

pub ruleset DueWays = (due_unended, due_other, due_time)
