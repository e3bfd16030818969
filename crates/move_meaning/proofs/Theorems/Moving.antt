-- Programs that move a pixel once: what they are as trees, and what evaluating a cell of one gives.
use Prim.Native.Nat.{ℕ, zero, suc, ◌<◌}
use native.Mathlib.Omega.{arith}
use mathlib.Core.Path.{◌≡◌, refl, sym, ap, ◌∙◌, subst}
use mathlib.Core.Logic.{◌⊎◌, inl, inr}
use mathlib.Core.Bool.{Bool, true, false, cond}
use mathlib.Core.List.{List, [], ◌∷◌, ◌++◌}
use mathlib.Core.Option.{none, some}
use lib.ListN.{length, get_or, set, replicate, length-set}
use lib.Seq.{get_or-set_same}
use lib.IntN.{ℤ, pos, ◌+ℤ◌}
use Rattle.std.specs.Prelude.{if◌then◌else◌}
use Rattle.value.specs.Number.{eq_z}
use Rattle.value.proofs.Theorems.Laws.{eq_z_true}
use Rattle.value.specs.Worked.{span_of}
use Rattle.automaton.specs.Step.{Outcome, result, fault}
use Rattle.token.specs.Kind.{relation}
use Rattle.program.specs.Syntax.{range, no_range, Expr, number, field, binary, Target, to_field, to_variable, Clause, Block, empty, assign, select, loop, exit, constant, Program}
use Rattle.cell_meaning.specs.Operators.{apply_binary, compare}
use Rattle.cell_meaning.specs.Evaluation.{Env, bind, entry, eval, Frame, frame, onward, in_field, store, met, assign_first, each, exec, evaluate}
use Rattle.cell_meaning.specs.Places.{own_place}
use Rattle.cell_meaning.proofs.Theorems.Kept.{OfNext, exec_keeps, ended_keeps}

-- ---- as a tree

-- constants alone
abbrev pub Blank : Block → Type 0
Blank empty = Unit {0}
Blank (assign to cs rest) = ⊥
Blank (select c d e rest) = ⊥
Blank (loop r d rest) = ⊥
Blank (exit rest) = ⊥
Blank (constant rest) = Blank rest

-- the assignment of 1 to field f
pub record Sets (f : ℕ) (to : Target) (cs : List Clause) : Type 0 where
  pub place : ℕ
  -- behind a clause without a condition there are none that count
  pub more : List Clause
  pub target : to ≡ to_field f
  pub clause : cs ≡ record { place = place; expr = number (pos 1); condition = none } ∷ more

-- the last statement, constants aside, assigns 1 to field f
abbrev pub LastSets : ℕ → Block → Type 0
LastSets f empty = ⊥
LastSets f (assign to cs rest) = (Sets f to cs × Blank rest) ⊎ LastSets f rest
LastSets f (select c d e rest) = LastSets f rest
LastSets f (loop r d rest) = LastSets f rest
LastSets f (exit rest) = LastSets f rest
LastSets f (constant rest) = LastSets f rest

-- `exit` stands in a loop, where so many are open
abbrev pub Enclosed : ℕ → Block → Type 0
Enclosed n empty = Unit {0}
Enclosed n (assign to cs rest) = Enclosed n rest
Enclosed n (select c d e rest) = Enclosed n d × Enclosed n e × Enclosed n rest
Enclosed n (loop r d rest) = Enclosed (suc n) d × Enclosed n rest
Enclosed n (exit rest) = (0 < n) × Enclosed n rest
Enclosed n (constant rest) = Enclosed n rest

-- the one statement, constants aside: where field f of the own cell is 0, statements of which the last assigns 1 to it
pub record Once (f : ℕ) (c : Expr) (d e : Block) : Type 0 where
  pub place : ℕ
  pub condition : c ≡ binary relation.equal place (field [] f) (number (pos 0))
  pub last : LastSets f d
  pub no_else : e ≡ empty

abbrev pub Moves : ℕ → Block → Type 0
Moves f empty = ⊥
Moves f (assign to cs rest) = ⊥
Moves f (select c d e rest) = Once f c d e × Blank rest
Moves f (loop r d rest) = ⊥
Moves f (exit rest) = ⊥
Moves f (constant rest) = Moves f rest

-- a program in the profile, with the flag in field f
pub record OneMove (f : ℕ) (p : Program) : Type 0 where
  pub has : f < length p.fields
  pub flag : get_or p.fields f no_range ≡ range (pos 0) (pos 1)
  pub body : Moves f p.body
  pub enclosed : Enclosed 0 p.body

-- ---- statements outside loops are never left

abbrev Stays : Outcome Frame → Type 0
Stays (result fr) = fr.leaving ≡ false
Stays (fault n place) = Unit {0}

module _ (env : Env) where
  onward_stays : (o : Outcome Frame) (k : Frame → Outcome Frame) → Stays o → ((g : Frame) → g.leaving ≡ false → Stays (k g)) → Stays (onward o k)
  onward_stays (result g) k h s = subst (λ (t : Bool). Stays (if t then result g else k g)) (sym h) (s g h)
  onward_stays (fault n place) k h s = tt

  given_stays : {A : Type 0} (o : Outcome A) (k : A → Outcome Frame) → ((a : A) → Stays (k a)) → Stays (bind o k)
  given_stays (result a) k s = s a
  given_stays (fault n place) k s = tt

  if_stays : (t : Bool) (a b : Outcome Frame) → Stays a → (t ≡ false → Stays b) → Stays (if t then a else b)
  if_stays true a b h k = h
  if_stays false a b h k = k refl

  store_stays : (to : Target) (p : ℕ) (fr : Frame) (z : ℤ) → fr.leaving ≡ false → Stays (store env.fields to p fr z)
  unfolding store
  store_stays (to_variable slot) p fr z h = h
  store_stays (to_field f) p fr z h =
      if_stays (in_field (get_or env.fields f no_range) z) (result (frame fr.leaving fr.vars (set fr.next f z))) (fault 33 p) h (λ e. tt)

  assign_stays : (vs : List ℤ) (to : Target) (cs : List Clause) (fr : Frame) → fr.leaving ≡ false → Stays (assign_first env vs to cs fr)
  unfolding assign_first
  assign_stays vs to [] fr h = h
  assign_stays vs to (c ∷ cs) fr h =
      let now = bind (eval env fr.vars vs c.expr) (store env.fields to c.place fr) in
      let later = assign_first env vs to cs fr in
      given_stays (met env fr.vars vs c.condition) (λ t. if t then now else later)
      (λ t. if_stays t now later (given_stays (eval env fr.vars vs c.expr) (store env.fields to c.place fr) (λ z. store_stays to c.place fr z h)) (λ e. assign_stays vs to cs fr h))

  each_stays : (body : ℤ → Frame → Outcome Frame) (n : ℕ) (v : ℤ) (fr : Frame) → fr.leaving ≡ false → Stays (each body n v fr)
  unfolding each
  each_stays body zero v fr e = e
  each_stays body (suc n) v fr e =
      given_stays (body v fr) (λ g. if g.leaving then result (frame false g.vars g.next) else each body n (v +ℤ pos 1) g)
      (λ g. if_stays g.leaving (result (frame false g.vars g.next)) (each body n (v +ℤ pos 1) g) refl (each_stays body n (v +ℤ pos 1) g))

  -- a choice
  abbrev choice_outcome : List ℤ → Expr → Block → Block → Frame → Outcome Frame
  choice_outcome vs c d e fr = bind (met env fr.vars vs (some c)) (λ t. if t then exec env vs d fr else exec env vs e fr)

  choice_stays : (vs : List ℤ) (c : Expr) (d e : Block) (fr : Frame) → Stays (exec env vs d fr) → Stays (exec env vs e fr) → Stays (choice_outcome vs c d e fr)
  choice_stays vs c d e fr h k =
      given_stays (met env fr.vars vs (some c)) (λ t. if t then exec env vs d fr else exec env vs e fr) (λ t. if_stays t (exec env vs d fr) (exec env vs e fr) h (λ q. k))

  exec_stays : (vs : List ℤ) (b : Block) → Enclosed 0 b → (fr : Frame) → fr.leaving ≡ false → Stays (exec env vs b fr)
  unfolding exec
  exec_stays vs empty h fr e = e
  exec_stays vs (assign to cs rest) h fr e = onward_stays (assign_first env vs to cs fr) (exec env vs rest) (assign_stays vs to cs fr e) (exec_stays vs rest h)
  exec_stays vs (select c d e rest) h fr q =
      onward_stays (choice_outcome vs c d e fr) (exec env vs rest) (choice_stays vs c d e fr (exec_stays vs d h.0 fr q) (exec_stays vs e h.1 fr q)) (exec_stays vs rest h.2)
  exec_stays vs (loop r d rest) h fr e =
      onward_stays (each (λ v. exec env (vs ++ (v ∷ [])) d) (span_of r.low r.high) r.low fr) (exec env vs rest)
      (each_stays (λ v. exec env (vs ++ (v ∷ [])) d) (span_of r.low r.high) r.low fr e) (exec_stays vs rest h.1)
  exec_stays vs (exit rest) h fr e = absurd (let l = h.0 in omega arith)
  exec_stays vs (constant rest) h fr e = exec_stays vs rest h fr e

  -- constants do nothing
  exec_blank : (vs : List ℤ) (b : Block) → Blank b → (fr : Frame) → exec env vs b fr ≡ result fr
  unfolding exec
  exec_blank vs empty h fr = refl
  exec_blank vs (constant rest) h fr = exec_blank vs rest h fr
  exec_blank vs (assign _ _ _) h fr = elim h [ ]
  exec_blank vs (select _ _ _ _) h fr = elim h [ ]
  exec_blank vs (loop _ _ _) h fr = elim h [ ]
  exec_blank vs (exit _) h fr = elim h [ ]

  -- a statement by itself keeps the number of fields
  abbrev Long : ℕ → List ℤ → Type 0
  Long n x = length x ≡ n

  roomy : {f : ℕ} (vs : List ℤ) (b : Block) (fr : Frame) (o : Outcome Frame) {g : Frame} → exec env vs b fr ≡ onward o (exec env vs empty) → o ≡ result g
      → f < length fr.next → f < length g.next
  unfolding exec
  roomy {f} vs b fr o {g} e same l =
      subst (λ (n : ℕ). f < n)
      (sym (alone g.leaving (subst (OfNext (Long (length fr.next))) (e ∙ ap (λ (x : Outcome Frame). onward x (exec env vs empty)) same) kept))) l
    where
      kept : OfNext (Long (length fr.next)) (exec env vs b fr)
      kept = exec_keeps (Long (length fr.next)) env (λ next k z r t. length-set next k z ∙ t) vs b fr refl

      alone : (t : Bool) → OfNext (Long (length fr.next)) (if t then result g else result g) → length g.next ≡ length fr.next
      alone true h = h
      alone false h = h

  -- ---- the last statement runs, unless there is a fault

  module _ (f : ℕ) (flag : in_field (get_or env.fields f no_range) (pos 1) ≡ true) where
    -- field f is 1, unless there is a fault
    abbrev IsOne : Outcome Frame → Type 0
    IsOne = OfNext (λ l. entry l f ≡ pos 1)

    onward_sets : (o : Outcome Frame) (k : Frame → Outcome Frame) → Stays o → ((g : Frame) → g.leaving ≡ false → o ≡ result g → IsOne (k g)) → IsOne (onward o k)
    onward_sets (result g) k h s = subst (λ (t : Bool). IsOne (if t then result g else k g)) (sym h) (s g h refl)
    onward_sets (fault n place) k h s = tt

    -- the assignment itself
    sets_one : (vs : List ℤ) (to : Target) (cs : List Clause) → Sets f to cs → (fr : Frame) → assign_first env vs to cs fr ≡ result (frame fr.leaving fr.vars (set fr.next f (pos 1)))
    unfolding assign_first store eval
    sets_one vs to cs s fr = rw (s.target, s.clause, flag) refl

    exec_sets : (vs : List ℤ) (b : Block) → LastSets f b → Enclosed 0 b → (fr : Frame) → f < length fr.next → fr.leaving ≡ false → IsOne (exec env vs b fr)
    unfolding exec
    exec_sets vs (assign to cs rest) (inl s) h fr l e =
        subst (λ (o : Outcome Frame). IsOne (onward o (exec env vs rest))) (sym (sets_one vs to cs s.0 fr))
        (rw e (subst IsOne (sym (exec_blank vs rest s.1 (frame false fr.vars (set fr.next f (pos 1))))) (get_or-set_same fr.next f (pos 1) (pos 0) l)))
    exec_sets vs (assign to cs rest) (inr s) h fr l e =
        onward_sets (assign_first env vs to cs fr) (exec env vs rest) (assign_stays vs to cs fr e)
        (λ g e' same. exec_sets vs rest s h g (roomy vs (assign to cs empty) fr (assign_first env vs to cs fr) refl same l) e')
    exec_sets vs (select c d e rest) s h fr l q =
        onward_sets (choice_outcome vs c d e fr) (exec env vs rest) (choice_stays vs c d e fr (exec_stays vs d h.0 fr q) (exec_stays vs e h.1 fr q))
        (λ g e' same. exec_sets vs rest s h.2 g (roomy vs (select c d e empty) fr (choice_outcome vs c d e fr) refl same l) e')
    exec_sets vs (loop r d rest) s h fr l q =
        let turns = each (λ v. exec env (vs ++ (v ∷ [])) d) (span_of r.low r.high) r.low fr in
        onward_sets turns (exec env vs rest) (each_stays (λ v. exec env (vs ++ (v ∷ [])) d) (span_of r.low r.high) r.low fr q)
        (λ g e' same. exec_sets vs rest s h.1 g (roomy vs (loop r d empty) fr turns refl same l) e')
    exec_sets vs (exit rest) s h fr l e = absurd (let z = h.0 in omega arith)
    exec_sets vs (constant rest) s h fr l e = exec_sets vs rest s h fr l e
    exec_sets vs empty s h fr l e = elim s [ ]

-- ---- a cell

-- the condition, by the flag
flag_result : (env : Env) (vars : List ℤ) (f place : ℕ)
    → eval env vars [] (binary relation.equal place (field [] f) (number (pos 0))) ≡ result (cond (eq_z (entry (env.look (own_place env.dims)) f) (pos 0)) (pos 1) (pos 0))
unfolding eval apply_binary compare
flag_result env vars f place = refl

not_zero : (z : ℤ) → (z ≡ pos 0 → ⊥) → eq_z z (pos 0) ≡ false
not_zero z h = go (eq_z z (pos 0)) refl
  where
    go : (t : Bool) → eq_z z (pos 0) ≡ t → eq_z z (pos 0) ≡ false
    go true e = absurd (h (eq_z_true z (pos 0) e))
    go false e = e

module _ (f : ℕ) (env : Env) where
  -- the own cell's flag
  abbrev own_flag : ℤ
  own_flag = entry (env.look (own_place env.dims)) f

  -- the statement where the flag is not 0: nothing
  exec_still : (b : Block) → Moves f b → (own_flag ≡ pos 0 → ⊥) → (fr : Frame) → fr.leaving ≡ false → exec env [] b fr ≡ result fr
  unfolding exec
  exec_still (select c d e rest) h set fr q =
      ap (λ (o : Outcome Frame). onward o (exec env [] rest)) nothing ∙ ap (λ (t : Bool). if t then result fr else exec env [] rest fr) q ∙ exec_blank env [] rest h.1 fr
    where
      nothing : choice_outcome env [] c d e fr ≡ result fr
      nothing =
          rw (h.0.condition, h.0.no_else, flag_result env fr.vars f h.0.place, not_zero own_flag set) refl
  exec_still (constant rest) h set fr q = exec_still rest h set fr q
  exec_still empty h set fr q = elim h [ ]
  exec_still (assign _ _ _) h set fr q = elim h [ ]
  exec_still (loop _ _ _) h set fr q = elim h [ ]
  exec_still (exit _) h set fr q = elim h [ ]

  -- where it is 0: the statements, and then the flag is 1
  exec_moved : (room : in_field (get_or env.fields f no_range) (pos 1) ≡ true) (b : Block) → Moves f b → Enclosed 0 b → own_flag ≡ pos 0 → (fr : Frame) → f < length fr.next
      → fr.leaving ≡ false → IsOne env f room (exec env [] b fr)
  unfolding exec
  exec_moved room (select c d e rest) h inside clear fr l q =
      subst (λ (o : Outcome Frame). IsOne env f room (onward o (exec env [] rest))) (sym chosen)
      (onward_sets env f room (exec env [] d fr) (exec env [] rest) (exec_stays env [] d inside.0 fr q)
      (λ g e' same.
      subst (IsOne env f room) (same ∙ sym (exec_blank env [] rest h.1 g)) (exec_sets env f room [] d h.0.last inside.0 fr l q)))
    where
      chosen : choice_outcome env [] c d e fr ≡ exec env [] d fr
      chosen = rw (h.0.condition, flag_result env fr.vars f h.0.place, clear) refl
  exec_moved room (constant rest) h inside clear fr l q = exec_moved room rest h inside clear fr l q
  exec_moved room empty h inside clear fr l q = elim h [ ]
  exec_moved room (assign _ _ _) h inside clear fr l q = elim h [ ]
  exec_moved room (loop _ _ _) h inside clear fr l q = elim h [ ]
  exec_moved room (exit _) h inside clear fr l q = elim h [ ]

module _ (f : ℕ) (p : Program) (h : OneMove f p) (look : List ℤ → List ℤ) (t : ℕ) where
  -- the own cell's fields
  abbrev own : List ℤ
  own = look (own_place p.dims)

  -- a cell whose flag is not 0 keeps its fields, and does not fault
  pub still : (entry own f ≡ pos 0 → ⊥) → evaluate p look t ≡ result own
  unfolding evaluate
  still set =
      ap (λ (o : Outcome Frame). bind o (λ end. result end.next))
      (exec_still f (record { dims = p.dims; fields = p.fields; time = t; look = look }) p.body h.body set (frame false (replicate p.slots (pos 0)) own) refl)

  -- a cell whose flag is 0 has the flag 1 after it, unless it faults
  pub moved : length own ≡ length p.fields → entry own f ≡ pos 0 → (a : List ℤ) → evaluate p look t ≡ result a → entry a f ≡ pos 1
  unfolding evaluate
  moved sized clear a e =
      let env : Env = record { dims = p.dims; fields = p.fields; time = t; look = look } in
      let start : Frame = frame false (replicate p.slots (pos 0)) own in
      ended_keeps (λ l. entry l f ≡ pos 1) (exec env [] p.body start) a
      (exec_moved f env (rw h.flag refl) p.body h.body h.enclosed clear start (subst (λ (n : ℕ). f < n) (sym sized) h.has) refl) e
