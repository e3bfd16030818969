-- A cell reads nothing but the cells in its reach, and its next fields fit. So property 3 holds of every program whose flag `timed` is set
-- where `time` stands in its statements. It is argued once, over any list of index vectors that has the own cell and every place read.
use Prim.Native.Nat.{ℕ, zero, suc, ◌+◌, ◌<◌}
use native.Mathlib.Omega.{arith}
use mathlib.Core.Path.{◌≡◌, refl, sym, ap, ap₂, ◌∙◌, subst, fun_ext}
use mathlib.Core.Bool.{Bool, true, false, ◌||◌, cond}
use mathlib.Core.List.{List, [], ◌∷◌, ◌++◌, Memᴰ}
use mathlib.Core.Option.{Option, none, some}
use lib.ListN.{length, get_or, set, replicate, length-set}
use lib.IntN.{ℤ, pos, nat_abs, ◌+ℤ◌, ◌-ℤ◌, +ℤ_assoc, +ℤ_idr}
use lib.Signed.{le_z}
use Rattle.std.specs.Prelude.{if◌then◌else◌}
use Rattle.value.specs.Worked.{truth, span_of}
use Rattle.value.proofs.Theorems.Laws.{never, offset_within}
use Rattle.automaton.specs.Step.{Outcome, result, Blocks, Automaton}
use Rattle.automaton.specs.Grid.{automaton}
use Rattle.automaton.proofs.Theorems.Quiet.{Lawful, QuietAgrees, quiet_agrees}
use Rattle.automaton.specs.Promises.ShapeLaws.{zeros}
use Rattle.automaton.proofs.Theorems.GridLaws.{Bounded, lawful}
use Rattle.program.specs.Syntax.{Range, no_range, Index, Expr, number, time, variable, index, field, element, unary, binary, Target, Clause, Block, empty, assign, select, loop, exit, constant, Program}
use Rattle.cell_meaning.specs.Operators.{placed, apply_unary, apply_binary}
use Rattle.cell_meaning.specs.Evaluation.{Env, bind, entry, offsets, element_at, eval, Frame, frame, onward, in_field, store, met, assign_first, each, exec, evaluate}
use Rattle.cell_meaning.proofs.Theorems.Kept.{evaluate_keeps}
use Rattle.cell_meaning.specs.Written.{Relative, relative_of, relatives_in_expr, relatives_in_condition, relatives_in_clauses, relatives_in_block, relatives_in}
use Rattle.cell_meaning.specs.Places.{own_place}

-- ---- whether `time` stands in a tree

unfoldable pub timed_expr : Expr → Bool
timed_expr (number z) = false
timed_expr time = true
timed_expr (variable slot) = false
timed_expr (index depth) = false
timed_expr (field is f) = false
timed_expr (element p zs e) = timed_expr e
timed_expr (unary op p e) = timed_expr e
timed_expr (binary op p d e) = timed_expr d || timed_expr e

unfoldable pub timed_condition : Option Expr → Bool
timed_condition none = false
timed_condition (some e) = timed_expr e

unfoldable pub timed_clauses : List Clause → Bool
timed_clauses [] = false
timed_clauses (c ∷ cs) = timed_expr c.expr || (timed_condition c.condition || timed_clauses cs)

unfoldable pub timed : Block → Bool
timed empty = false
timed (assign to cs rest) = timed_clauses cs || timed rest
timed (select c d e rest) = timed_expr c || (timed d || (timed e || timed rest))
timed (loop r d rest) = timed d || timed rest
timed (exit rest) = timed rest
timed (constant rest) = timed rest

-- ---- tests

or_left : (a b : Bool) {X : Type 0} → ((a || b) ≡ true → X) → a ≡ true → X
or_left true b k e = k refl
or_left false b k e = never e

or_right : (a b : Bool) {X : Type 0} → ((a || b) ≡ true → X) → b ≡ true → X
or_right true b k e = k refl
or_right false b k e = k e

-- ---- all of a list

abbrev pub All : {A : Type 0} → (A → Type 0) → List A → Type 0
All P [] = Unit {0}
All P (x ∷ xs) = P x × All P xs

module _ {A : Type 0} (P : A → Type 0) where
  pub all_left : (xs ys : List A) → All P (xs ++ ys) → All P xs
  all_left [] ys h = tt
  all_left (x ∷ xs) ys h = (h.0, all_left xs ys h.1)

  pub all_right : (xs ys : List A) → All P (xs ++ ys) → All P ys
  all_right [] ys h = h
  all_right (x ∷ xs) ys h = all_right xs ys h.1

-- ---- values in ranges

-- as many values as ranges, each in its range
abbrev pub InRanges : List Range → List ℤ → Type 0
InRanges [] [] = Unit {0}
InRanges [] (z ∷ zs) = ⊥
InRanges (r ∷ rs) [] = ⊥
InRanges (r ∷ rs) (z ∷ zs) = (in_field r z ≡ true) × InRanges rs zs

pub in_at : (rs : List Range) (zs : List ℤ) → InRanges rs zs → (k : ℕ) → in_field (get_or rs k no_range) (entry zs k) ≡ true
in_at [] [] h k = refl
in_at (r ∷ rs) (z ∷ zs) h zero = h.0
in_at (r ∷ rs) (z ∷ zs) h (suc k) = in_at rs zs h.1 k
in_at [] (z ∷ zs) h k = elim h [ ]
in_at (r ∷ rs) [] h k = elim h [ ]

pub in_push : (rs : List Range) (zs : List ℤ) (r : Range) (z : ℤ) → InRanges rs zs → in_field r z ≡ true → InRanges (rs ++ (r ∷ [])) (zs ++ (z ∷ []))
in_push [] [] r z h e = (e, tt)
in_push (q ∷ rs) (y ∷ zs) r z h e = (h.0, in_push rs zs r z h.1 e)
in_push [] (y ∷ zs) r z h e = elim h [ ]
in_push (q ∷ rs) [] r z h e = elim h [ ]

in_set : (rs : List Range) (zs : List ℤ) (k : ℕ) (z : ℤ) → in_field (get_or rs k no_range) z ≡ true → InRanges rs zs → InRanges rs (set zs k z)
in_set [] [] k z e h = tt
in_set (r ∷ rs) (y ∷ zs) zero z e h = (e, h.1)
in_set (r ∷ rs) (y ∷ zs) (suc k) z e h = (h.0, in_set rs zs k z e h.1)
in_set [] (y ∷ zs) k z e h = elim h [ ]
in_set (r ∷ rs) [] k z e h = elim h [ ]

-- the values that a loop goes through lie in its range

pub span_within : (r : Range) (k : ℕ) → k < span_of r.low r.high → in_field r (r.low +ℤ pos k) ≡ true
span_within r k h = by (le_z r.low r.high) refl h
  where
    by : (t : Bool) → le_z r.low r.high ≡ t → k < cond t (nat_abs (r.high -ℤ r.low) + 1) 0 → in_field r (r.low +ℤ pos k) ≡ true
    by true e l = offset_within r.low r.high k e (omega arith)
    by false e l = absurd (omega arith)

-- ---- any reach

-- the index vectors that a relative index can take are among some
abbrev pub ReadsIn : ℕ → List (List ℤ) → Relative → Type 0
ReadsIn dims dss r = (vs : List ℤ) → InRanges r.loops vs → Memᴰ (offsets dims vs r.elements) dss

-- a list of index vectors has the own cell and every place that a program can read
pub record Covers (p : Program) (dss : List (List ℤ)) : Type 0 where
  pub own : Memᴰ (own_place p.dims) dss
  pub reads : All (ReadsIn p.dims dss) (relatives_in p)

-- without elements, a relative index is the own cell's
pub own_offsets : (dims : ℕ) (vs : List ℤ) → offsets dims vs [] ≡ own_place dims
unfolding offsets
own_offsets zero vs = refl
own_offsets (suc dims) vs = ap (λ (l : List ℤ). pos 0 ∷ l) (own_offsets dims vs)

-- ---- locality

bind_same : {A B : Type 0} {a b : Outcome A} {k l : A → Outcome B} → a ≡ b → ((x : A) → k x ≡ l x) → bind a k ≡ bind b l
bind_same {A} {B} e h = ap₂ (λ (o : Outcome A) (f : A → Outcome B). bind o f) e (fun_ext h)

onward_same : {a b : Outcome Frame} {k l : Frame → Outcome Frame} → a ≡ b → ((g : Frame) → k g ≡ l g) → onward a k ≡ onward b l
onward_same e h = ap₂ onward e (fun_ext h)

if_same : (t : Bool) {a a' b b' : Outcome Frame} → a ≡ a' → b ≡ b' → (if t then a else b) ≡ (if t then a' else b')
if_same t e h = ap₂ (λ (x y : Outcome Frame). if t then x else y) e h

-- two bodies that do the same for each value that is gone through
each_same : (body body' : ℤ → Frame → Outcome Frame) (n : ℕ) (v : ℤ) → ((k : ℕ) → k < n → (g : Frame) → body (v +ℤ pos k) g ≡ body' (v +ℤ pos k) g)
    → (fr : Frame) → each body n v fr ≡ each body' n v fr
unfolding each
each_same body body' zero v h fr = refl
each_same body body' (suc n) v h fr =
    bind_same (subst (λ (z : ℤ). body z fr ≡ body' z fr) (+ℤ_idr v) (h 0 (omega arith) fr))
    (λ g. ap (λ (o : Outcome Frame). if g.leaving then result (frame false g.vars g.next) else o)
    (each_same body body' n (v +ℤ pos 1) (λ k l g. subst (λ (z : ℤ). body z g ≡ body' z g) (shifted k) (h (suc k) (omega arith) g)) g))
  where
    shifted : (k : ℕ) → v +ℤ pos (suc k) ≡ (v +ℤ pos 1) +ℤ pos k
    shifted k = let e : suc k ≡ 1 + k = omega arith in ap (λ (m : ℕ). v +ℤ pos m) e ∙ sym (+ℤ_assoc v (pos 1) (pos k))

module _ (fields : List Range) (dims : ℕ) (dss : List (List ℤ)) (own : Memᴰ (own_place dims) dss) (t t' : ℕ) (look look' : List ℤ → List ℤ)
    (agree : (ds : List ℤ) → Memᴰ ds dss → look ds ≡ look' ds) where
  abbrev here : Env
  here = record { dims = dims; fields = fields; time = t; look = look }

  abbrev there : Env
  there = record { dims = dims; fields = fields; time = t'; look = look' }

  -- the fields at a relative index are the same
  look_same : (loops : List Range) (vs : List ℤ) → InRanges loops vs → (is : List Index) → All (ReadsIn dims dss) (relative_of loops is)
      → look (offsets dims vs is) ≡ look' (offsets dims vs is)
  look_same loops vs inside [] h = agree _ (subst (λ (ds : List ℤ). Memᴰ ds dss) (sym (own_offsets dims vs)) own)
  look_same loops vs inside (i ∷ is) h = agree _ (h.0 vs inside)

  eval_same : (loops : List Range) (vars vs : List ℤ) → InRanges loops vs → (e : Expr) → All (ReadsIn dims dss) (relatives_in_expr loops e) → (timed_expr e ≡ true → t ≡ t')
      → eval here vars vs e ≡ eval there vars vs e
  unfolding eval relatives_in_expr timed_expr
  eval_same loops vars vs inside (number z) h q = refl
  eval_same loops vars vs inside time h q = ap (λ (x : ℕ). result (pos x)) (q refl)
  eval_same loops vars vs inside (variable slot) h q = refl
  eval_same loops vars vs inside (index depth) h q = refl
  eval_same loops vars vs inside (field is f) h q = ap (λ (l : List ℤ). result (entry l f)) (look_same loops vs inside is h)
  eval_same loops vars vs inside (element p zs e) h q = ap (λ (w : Outcome ℤ). bind w (element_at p zs)) (eval_same loops vars vs inside e h q)
  eval_same loops vars vs inside (unary op p e) h q =
      ap (λ (w : Outcome ℤ). bind w (λ a. placed p (apply_unary op a))) (eval_same loops vars vs inside e h q)
  eval_same loops vars vs inside (binary op p d e) h q =
      ap₂ (λ (w w' : Outcome ℤ). bind w (λ a. bind w' (λ b. placed p (apply_binary op a b))))
      (eval_same loops vars vs inside d (all_left (ReadsIn dims dss) (relatives_in_expr loops d) (relatives_in_expr loops e) h) (or_left (timed_expr d) (timed_expr e) q))
      (eval_same loops vars vs inside e (all_right (ReadsIn dims dss) (relatives_in_expr loops d) (relatives_in_expr loops e) h) (or_right (timed_expr d) (timed_expr e) q))

  met_same : (loops : List Range) (vars vs : List ℤ) → InRanges loops vs → (o : Option Expr) → All (ReadsIn dims dss) (relatives_in_condition loops o)
      → (timed_condition o ≡ true → t ≡ t') → met here vars vs o ≡ met there vars vs o
  unfolding relatives_in_condition timed_condition
  met_same loops vars vs inside none h q = refl
  met_same loops vars vs inside (some e) h q = ap (λ (w : Outcome ℤ). bind w (λ z. result (truth z))) (eval_same loops vars vs inside e h q)

  assign_same : (loops : List Range) (vs : List ℤ) → InRanges loops vs → (to : Target) (cs : List Clause) → All (ReadsIn dims dss) (relatives_in_clauses loops cs)
      → (timed_clauses cs ≡ true → t ≡ t') → (fr : Frame) → assign_first here vs to cs fr ≡ assign_first there vs to cs fr
  unfolding assign_first relatives_in_clauses timed_clauses
  assign_same loops vs inside to [] h q fr = refl
  assign_same loops vs inside to (c ∷ cs) h q fr =
      let w₁ = relatives_in_expr loops c.expr in
      let w₂ = relatives_in_condition loops c.condition in
      let w₃ = relatives_in_clauses loops cs in
      let h' = all_right (ReadsIn dims dss) w₁ (w₂ ++ w₃) h in
      let q' = or_right (timed_expr c.expr) (timed_condition c.condition || timed_clauses cs) q in
      bind_same (met_same loops fr.vars vs inside c.condition (all_left (ReadsIn dims dss) w₂ w₃ h') (or_left (timed_condition c.condition) (timed_clauses cs) q'))
      (λ t. if_same t
      (ap (λ (w : Outcome ℤ). bind w (store fields to c.place fr))
      (eval_same loops fr.vars vs inside c.expr (all_left (ReadsIn dims dss) w₁ (w₂ ++ w₃) h) (or_left (timed_expr c.expr) (timed_condition c.condition || timed_clauses cs) q)))
      (assign_same loops vs inside to cs (all_right (ReadsIn dims dss) w₂ w₃ h') (or_right (timed_condition c.condition) (timed_clauses cs) q') fr))

  pub exec_same : (loops : List Range) (vs : List ℤ) → InRanges loops vs → (b : Block) → All (ReadsIn dims dss) (relatives_in_block loops b)
      → (timed b ≡ true → t ≡ t') → (fr : Frame) → exec here vs b fr ≡ exec there vs b fr
  unfolding exec relatives_in_block timed
  exec_same loops vs inside empty h q fr = refl
  exec_same loops vs inside (assign to cs rest) h q fr =
      let w₁ = relatives_in_clauses loops cs in
      let w₂ = relatives_in_block loops rest in
      onward_same (assign_same loops vs inside to cs (all_left (ReadsIn dims dss) w₁ w₂ h) (or_left (timed_clauses cs) (timed rest) q) fr)
      (exec_same loops vs inside rest (all_right (ReadsIn dims dss) w₁ w₂ h) (or_right (timed_clauses cs) (timed rest) q))
  exec_same loops vs inside (select c d e rest) h q fr =
      let w₁ = relatives_in_expr loops c in
      let w₂ = relatives_in_block loops d in
      let w₃ = relatives_in_block loops e in
      let w₄ = relatives_in_block loops rest in
      let h₂ = all_right (ReadsIn dims dss) w₁ (w₂ ++ (w₃ ++ w₄)) h in
      let h₃ = all_right (ReadsIn dims dss) w₂ (w₃ ++ w₄) h₂ in
      let q₂ = or_right (timed_expr c) (timed d || (timed e || timed rest)) q in
      let q₃ = or_right (timed d) (timed e || timed rest) q₂ in
      onward_same
      (bind_same
      (ap (λ (w : Outcome ℤ). bind w (λ z. result (truth z)))
      (eval_same loops fr.vars vs inside c (all_left (ReadsIn dims dss) w₁ (w₂ ++ (w₃ ++ w₄)) h) (or_left (timed_expr c) (timed d || (timed e || timed rest)) q)))
      (λ t. if_same t (exec_same loops vs inside d (all_left (ReadsIn dims dss) w₂ (w₃ ++ w₄) h₂) (or_left (timed d) (timed e || timed rest) q₂) fr)
      (exec_same loops vs inside e (all_left (ReadsIn dims dss) w₃ w₄ h₃) (or_left (timed e) (timed rest) q₃) fr)))
      (exec_same loops vs inside rest (all_right (ReadsIn dims dss) w₃ w₄ h₃) (or_right (timed e) (timed rest) q₃))
  exec_same loops vs inside (loop r d rest) h q fr =
      let w₁ = relatives_in_block (loops ++ (r ∷ [])) d in
      let w₂ = relatives_in_block loops rest in
      onward_same
      (each_same _ _ (span_of r.low r.high) r.low
      (λ k l g. exec_same (loops ++ (r ∷ [])) (vs ++ ((r.low +ℤ pos k) ∷ [])) (in_push loops vs r _ inside (span_within r k l)) d (all_left (ReadsIn dims dss) w₁ w₂ h) (or_left (timed d) (timed rest) q) g) fr)
      (exec_same loops vs inside rest (all_right (ReadsIn dims dss) w₁ w₂ h) (or_right (timed d) (timed rest) q))
  exec_same loops vs inside (exit rest) h q fr = refl
  exec_same loops vs inside (constant rest) h q fr = exec_same loops vs inside rest h q fr

-- ---- a cell

-- The next fields lie in the fields' ranges, if the old ones do.
pub evaluate_in_ranges : (p : Program) (look : List ℤ → List ℤ) (t : ℕ) (a : List ℤ) → InRanges p.fields (look (offsets p.dims [] []))
    → evaluate p look t ≡ result a → InRanges p.fields a
evaluate_in_ranges p = evaluate_keeps (InRanges p.fields) p (λ next f z e h. in_set p.fields next f z e h)

-- What a cell's evaluation gives depends on the fields at the index vectors of a reach alone, and on the time only where `time` stands in the program.
pub evaluate_local : (p : Program) (dss : List (List ℤ)) → Covers p dss → (look look' : List ℤ → List ℤ) (t t' : ℕ) → (timed p.body ≡ true → t ≡ t')
    → ((ds : List ℤ) → Memᴰ ds dss → look ds ≡ look' ds) → evaluate p look t ≡ evaluate p look' t'
unfolding evaluate relatives_in
evaluate_local p dss covers look look' t t' q agree =
    ap (λ (o : Outcome Frame). bind o (λ end. result end.next))
    (exec_same p.fields p.dims dss covers.own t t' look look' agree [] [] tt p.body covers.reads q _
    ∙ ap (λ (l : List ℤ). exec (record { dims = p.dims; fields = p.fields; time = t'; look = look' }) [] p.body (frame false (replicate p.slots (pos 0)) l))
    (agree _ covers.own))

-- ---- property 3

-- the flag `timed` is set where `time` stands in the statements
abbrev pub Flagged : Program → Type 0
Flagged p = timed p.body ≡ true → p.timed ≡ true

pub evaluate_bounded : (p : Program) (dss : List (List ℤ)) → Covers p dss → Flagged p → Bounded (length p.fields) p.timed dss (evaluate p)
evaluate_bounded p dss covers flagged = record {
  local = λ look look' t t' q agree. evaluate_local p dss covers look look' t t' (λ e. q (flagged e)) agree;
  sized = λ look t a e s. evaluate_keeps (λ l. length l ≡ length p.fields) p (λ next f z r h. length-set next f z ∙ h) look t a (e _) s;
}

-- a program with a reach, on a grid of given sizes
abbrev pub reaching : Program → List (List ℤ) → List ℕ → Automaton (List ℤ) (List ℤ)
reaching p dss sizes = automaton sizes (length p.fields) p.timed dss (evaluate p)

-- the index vector of the own cell, on a grid of as many dimensions as the program has
pub own_zeros : (sizes : List ℕ) → own_place (length sizes) ≡ zeros sizes
unfolding offsets
own_zeros [] = refl
own_zeros (n ∷ sizes) = ap (λ (l : List ℤ). pos 0 ∷ l) (own_zeros sizes)

pub reaching_lawful : (p : Program) (dss : List (List ℤ)) → Covers p dss → (sizes : List ℕ) → length sizes ≡ p.dims → Flagged p → Lawful (reaching p dss sizes)
reaching_lawful p dss covers sizes dims flagged =
    lawful sizes (length p.fields) p.timed dss (evaluate p)
    (subst (λ (ds : List ℤ). Memᴰ ds dss) (ap own_place (sym dims) ∙ own_zeros sizes) covers.own)
    (evaluate_bounded p dss covers flagged)

-- property 3 of a program with any reach that covers it, with any blocks and over any number of steps
pub quiet_agrees_over : (p : Program) (dss : List (List ℤ)) → Covers p dss → (sizes : List ℕ) → length sizes ≡ p.dims → Flagged p → (block : Blocks (List ℤ)) (n t : ℕ) (g : List ℤ)
    → QuietAgrees (reaching p dss sizes) block n t g
quiet_agrees_over p dss covers sizes dims flagged block n t g =
    quiet_agrees (reaching p dss sizes) (reaching_lawful p dss covers sizes dims flagged) block n t g
