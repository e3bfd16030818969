-- What holds of a cell's next fields, if storing a value that is in its field's range keeps it.
use Prim.Native.Nat.{ℕ, zero, suc}
use native.Mathlib.Omega.{arith}
use mathlib.Core.Path.{◌≡◌, refl, subst}
use mathlib.Core.Bool.{Bool, true, false}
use mathlib.Core.List.{List, [], ◌∷◌, ◌++◌}
use mathlib.Core.Option.{some}
use lib.ListN.{get_or, set, replicate}
use lib.IntN.{ℤ, pos, ◌+ℤ◌}
use Rattle.std.specs.Prelude.{if◌then◌else◌}
use Rattle.value.specs.Worked.{span_of}
use Rattle.automaton.specs.Step.{Outcome, result, fault}
use Rattle.program.specs.Syntax.{no_range, Target, to_field, to_variable, Clause, Block, empty, assign, select, loop, exit, constant, Program}
use Rattle.cell_meaning.specs.Evaluation.{Env, bind, offsets, eval, Frame, frame, onward, in_field, store, met, assign_first, each, exec, evaluate}

-- it holds of the next fields of a frame; nothing is said of a fault
abbrev pub OfNext : (List ℤ → Type 0) → Outcome Frame → Type 0
OfNext P (result fr) = P fr.next
OfNext P (fault n place) = Unit {0}

module _ (P : List ℤ → Type 0) (env : Env) (stored : (next : List ℤ) (f : ℕ) (z : ℤ) → in_field (get_or env.fields f no_range) z ≡ true → P next → P (set next f z)) where
  given_keeps : {A : Type 0} (o : Outcome A) (k : A → Outcome Frame) → ((a : A) → OfNext P (k a)) → OfNext P (bind o k)
  given_keeps (result a) k s = s a
  given_keeps (fault n place) k s = tt

  bind_keeps : (o : Outcome Frame) (k : Frame → Outcome Frame) → OfNext P o → ((g : Frame) → P g.next → OfNext P (k g)) → OfNext P (bind o k)
  bind_keeps (result g) k h s = s g h
  bind_keeps (fault n place) k h s = tt

  if_keeps : (t : Bool) (a b : Outcome Frame) → (t ≡ true → OfNext P a) → OfNext P b → OfNext P (if t then a else b)
  if_keeps true a b h k = h refl
  if_keeps false a b h k = k

  onward_keeps : (o : Outcome Frame) (k : Frame → Outcome Frame) → OfNext P o → ((g : Frame) → P g.next → OfNext P (k g)) → OfNext P (onward o k)
  onward_keeps o k h s = bind_keeps o _ h (λ g q. if_keeps g.leaving (result g) (k g) (λ e. q) (s g q))

  store_keeps : (to : Target) (p : ℕ) (fr : Frame) (z : ℤ) → P fr.next → OfNext P (store env.fields to p fr z)
  unfolding store
  store_keeps (to_variable slot) p fr z h = h
  store_keeps (to_field f) p fr z h =
      if_keeps (in_field (get_or env.fields f no_range) z) (result (frame fr.leaving fr.vars (set fr.next f z))) (fault 33 p) (λ e. stored fr.next f z e h) tt

  assign_keeps : (vs : List ℤ) (to : Target) (cs : List Clause) (fr : Frame) → P fr.next → OfNext P (assign_first env vs to cs fr)
  unfolding assign_first
  assign_keeps vs to [] fr h = h
  assign_keeps vs to (c ∷ cs) fr h =
      let now = bind (eval env fr.vars vs c.expr) (store env.fields to c.place fr) in
      let later = assign_first env vs to cs fr in
      given_keeps (met env fr.vars vs c.condition) (λ t. if t then now else later)
      (λ t. if_keeps t now later (λ e. given_keeps (eval env fr.vars vs c.expr) (store env.fields to c.place fr) (λ z. store_keeps to c.place fr z h)) (assign_keeps vs to cs fr h))

  each_keeps : (body : ℤ → Frame → Outcome Frame) → ((v : ℤ) (g : Frame) → P g.next → OfNext P (body v g)) → (n : ℕ) (v : ℤ) (fr : Frame) → P fr.next → OfNext P (each body n v fr)
  unfolding each
  each_keeps body s zero v fr h = h
  each_keeps body s (suc n) v fr h =
      bind_keeps (body v fr) _ (s v fr h) (λ g q. if_keeps g.leaving (result (frame false g.vars g.next)) _ (λ e. q) (each_keeps body s n (v +ℤ pos 1) g q))

  pub exec_keeps : (vs : List ℤ) (b : Block) (fr : Frame) → P fr.next → OfNext P (exec env vs b fr)
  unfolding exec
  exec_keeps vs empty fr h = h
  exec_keeps vs (assign to cs rest) fr h = onward_keeps (assign_first env vs to cs fr) (exec env vs rest) (assign_keeps vs to cs fr h) (exec_keeps vs rest)
  exec_keeps vs (select c d e rest) fr h =
      let chosen = met env fr.vars vs (some c) in
      let arm : Bool → Outcome Frame = λ t. if t then exec env vs d fr else exec env vs e fr in
      onward_keeps (bind chosen arm) (exec env vs rest) (given_keeps chosen arm (λ t. if_keeps t (exec env vs d fr) (exec env vs e fr) (λ q. exec_keeps vs d fr h) (exec_keeps vs e fr h))) (exec_keeps vs rest)
  exec_keeps vs (loop r d rest) fr h =
      let body : ℤ → Frame → Outcome Frame = λ v. exec env (vs ++ (v ∷ [])) d in
      onward_keeps (each body (span_of r.low r.high) r.low fr) (exec env vs rest) (each_keeps body (λ v g k. exec_keeps (vs ++ (v ∷ [])) d g k) (span_of r.low r.high) r.low fr h) (exec_keeps vs rest)
  exec_keeps vs (exit rest) fr h = h
  exec_keeps vs (constant rest) fr h = exec_keeps vs rest fr h

-- ---- a cell

-- the next fields that evaluation ends with
pub ended_keeps : (P : List ℤ → Type 0) (o : Outcome Frame) (a : List ℤ) → OfNext P o → bind o (λ end. result end.next) ≡ result a → P a
ended_keeps P (result fr) a h e = subst P (same e) h
  where
    same : result fr.next ≡ result a → fr.next ≡ a
    same q = cc
ended_keeps P (fault n place) a h e = absurd (let z : ◌≡◌ {A = ℕ} 0 1 = cc in omega arith)

-- Whatever holds of the own cell's fields and is kept by storing a value that is in its field's range, holds of the next fields.
pub evaluate_keeps : (P : List ℤ → Type 0) (p : Program) → ((next : List ℤ) (f : ℕ) (z : ℤ) → in_field (get_or p.fields f no_range) z ≡ true → P next → P (set next f z))
    → (look : List ℤ → List ℤ) (t : ℕ) (a : List ℤ) → P (look (offsets p.dims [] [])) → evaluate p look t ≡ result a → P a
unfolding evaluate
evaluate_keeps P p stored look t a h e =
    let env : Env = record { dims = p.dims; fields = p.fields; time = t; look = look } in
    let start : Frame = frame false (replicate p.slots (pos 0)) (look (offsets p.dims [] [])) in
    ended_keeps P (exec env [] p.body start) a (exec_keeps P env stored [] p.body start h) e
