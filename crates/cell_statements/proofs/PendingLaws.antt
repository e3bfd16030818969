-- What waits while a choice is run: positions on a stack, of which the last is taken first.
use Prim.Native.Nat.{ℕ, zero, suc, ◌+◌, ◌-◌, ◌≤◌, ◌<◌}
use native.Mathlib.Omega.{arith}
use mathlib.Core.Path.{◌≡◌, refl, sym, ap, ◌∙◌, subst}
use mathlib.Core.Bool.{false}
use mathlib.Core.List.{List}
use mathlib.Core.Logic.{◌⊎◌, inl, inr}
use lib.ListN.{length, get_or, set, length-set}
use lib.Seq.{get_or-set_same, get_or-set_other}
use lib.IntN.{ℤ}
use Rattle.automaton.specs.Step.{Outcome, result}
use Rattle.automaton.specs.Promises.ListedLaws.{last_or_below}
use Rattle.program.specs.Syntax.{Block}
use Rattle.cell_meaning.specs.Evaluation.{Env, Frame, frame, onward, exec}
use Rattle.cell_meaning.specs.Promises.Stands.{Stands}
use Rattle.cell_meaning.specs.Links.{Table}

-- ---- where the positions lie

-- of the 16 positions of a stack the first `top` are in use, and lie from `at` to n
pub record Stack (at n : ℕ) (ends : List ℕ) (top : ℕ) : Type 0 where
  pub size : length ends ≡ 16
  pub few : top ≤ 16
  pub within : (i : ℕ) → i < top → (at ≤ get_or ends i 0) × (get_or ends i 0 ≤ n)

pub stack_start : {at n : ℕ} {ends : List ℕ} → length ends ≡ 16 → Stack at n ends 0
stack_start e = record { size = e; few = omega arith; within = λ i l. absurd (omega arith) }

pub stack_pops : {at n top : ℕ} {ends : List ℕ} → Stack at n ends top → Stack at n ends (top - 1)
stack_pops s = record { size = s.size; few = let f = s.few in omega arith; within = λ i l. s.within i (omega arith) }

counted : (i : ℕ) → (i ≡ 0 → ⊥) → i ≡ suc (i - 1)
counted zero h = absurd (h refl)
counted (suc i) h = omega arith

-- the position that is taken off
pub stack_top : {at n top : ℕ} {ends : List ℕ} → Stack at n ends top → (top ≡ 0 → ⊥) → (at ≤ get_or ends (top - 1) 0) × (get_or ends (top - 1) 0 ≤ n)
stack_top {top = top} s h = s.within (top - 1) (omega (arith, counted top h))

-- the positions below the one that is put on
below : (ends : List ℕ) (top v i : ℕ) → i < top → get_or (set ends top v) i 0 ≡ get_or ends i 0
below ends top v i l = get_or-set_other ends top i v 0 (λ e. absurd (let w = e in omega arith))

pub stack_room : {at n top : ℕ} {ends : List ℕ} → Stack at n ends top → top < 16 → top < length ends
stack_room s room = omega (arith, s.size)

pub stack_enters : {at n top v : ℕ} {ends : List ℕ} → Stack at n ends top → top < 16 → at ≤ v → v ≤ n → Stack at n (set ends top v) (top + 1)
stack_enters {at} {n} {top} {v} {ends} s room a b = record {
  size = length-set ends top v ∙ s.size;
  few = omega arith;
  within = λ i h. each i (last_or_below (let w : i < suc top = omega arith in w));
}
  where
    each : (i : ℕ) → (i ≡ top) ⊎ (i < top) → (at ≤ get_or (set ends top v) i 0) × (get_or (set ends top v) i 0 ≤ n)
    each i (inl q) = rw (q, get_or-set_same ends top v 0 (stack_room s room)) (a, b)
    each i (inr q) = rw (below ends top v i q) (s.within i q)

-- ---- the weight of positions

-- what is ahead of a position weighs more than what is ahead of any two positions past it
unfoldable pub heavy : ℕ → ℕ
heavy zero = 1
heavy (suc k) = suc (heavy k + heavy k)

heavy_some : (k : ℕ) → 1 ≤ heavy k
unfolding heavy
heavy_some zero = omega arith
heavy_some (suc k) = omega arith

heavy_le : (a b : ℕ) → a ≤ b → heavy a ≤ heavy b
unfolding heavy
heavy_le zero b l = heavy_some b
heavy_le (suc a) zero l = absurd (omega arith)
heavy_le (suc a) (suc b) l = let q = heavy_le a b (omega arith) in omega arith

lighter : (n here a b : ℕ) → here < n → here < a → here < b → heavy (n - a) + heavy (n - b) < heavy (n - here)
unfolding heavy
lighter n here a b l p q =
    let e : n - here ≡ suc (n - suc here) = omega arith in
    let x = heavy_le (n - a) (n - suc here) (omega arith) in
    let y = heavy_le (n - b) (n - suc here) (omega arith) in
    rw e (omega (arith, x, y))

-- the weight of the first i positions, where there are n tokens
unfoldable pub load : ℕ → List ℕ → ℕ → ℕ
load n ends zero = 0
load n ends (suc i) = heavy (n - get_or ends i 0) + load n ends i

-- the weight of all that is ahead
abbrev pub weight : ℕ → ℕ → List ℕ → ℕ → ℕ
weight n here ends top = heavy (n - here) + load n ends top

load_below : (n : ℕ) (ends : List ℕ) (top v i : ℕ) → i ≤ top → load n (set ends top v) i ≡ load n ends i
unfolding load
load_below n ends top v zero l = refl
load_below n ends top v (suc i) l = rw (below ends top v i (omega arith), load_below n ends top v i (omega arith)) refl

load_enters : (n : ℕ) (ends : List ℕ) (top v : ℕ) → top < length ends → load n (set ends top v) (top + 1) ≡ heavy (n - v) + load n ends top
unfolding load
load_enters n ends top v l =
    let e : top + 1 ≡ suc top = omega arith in
    rw (e, get_or-set_same ends top v 0 l, load_below n ends top v top (omega arith)) refl

module _ (n here : ℕ) (ends : List ℕ) (top : ℕ) where
  pub weight_enters : {m past : ℕ} → here < n → here < m → here < past → top < length ends → weight n m (set ends top past) (top + 1) < weight n here ends top
  weight_enters {m} {past} l a b room = omega (arith, load_enters n ends top past room, lighter n here m past l a b)

  pub weight_goes : {past : ℕ} → here < n → here < past → weight n past ends top < weight n here ends top
  weight_goes {past} l a = omega (arith, lighter n here past past l a a)

  pub weight_pops : (top ≡ 0 → ⊥) → weight n (get_or ends (top - 1) 0) ends (top - 1) < weight n here ends top
  unfolding load
  weight_pops h =
      let e : load n ends top ≡ load n ends (suc (top - 1)) = ap (load n ends) (counted top h) in
      omega (arith, heavy_some (n - here))

-- ---- what is run at them

module _ (t : Table) (env : Env) (depth : ℕ) (vs : List ℤ) where
  -- x is what y comes to by the statements at the first i positions, from the last to the first
  unfoldable pub Leads : List ℕ → ℕ → Outcome Frame → Outcome Frame → Type 0
  Leads ends zero x y = x ≡ y
  Leads ends (suc i) x y = (c : Block) × Stands t depth c (get_or ends i 0) × Leads ends i x (onward y (exec env vs c))

  pub leads_start : (ends : List ℕ) (x : Outcome Frame) → Leads ends 0 x x
  unfolding Leads
  leads_start ends x = refl

  pub leads_done : (ends : List ℕ) {top : ℕ} (x y : Outcome Frame) → top ≡ 0 → Leads ends top x y → x ≡ y
  unfolding Leads
  leads_done ends x y e p = subst (λ (i : ℕ). Leads ends i x y) e p

  -- where nothing more is run
  pub leads_stops : (ends : List ℕ) (i : ℕ) (x y : Outcome Frame) → ((f : Frame → Outcome Frame) → onward y f ≡ y) → Leads ends i x y → x ≡ y
  unfolding Leads
  leads_stops ends zero x y h p = p
  leads_stops ends (suc i) x y h p = leads_stops ends i x y h (subst (Leads ends i x) (h (exec env vs p.0)) p.2)

  -- the last position is taken off
  pub leads_pops : (ends : List ℕ) (top : ℕ) (x : Outcome Frame) (vars next : List ℤ) → (top ≡ 0 → ⊥) → Leads ends top x (result (frame false vars next))
      → (c : Block) × Stands t depth c (get_or ends (top - 1) 0) × Leads ends (top - 1) x (exec env vs c (frame false vars next))
  unfolding Leads
  leads_pops ends top x vars next h p = subst (λ (i : ℕ). Leads ends i x (result (frame false vars next))) (counted top h) p

  module _ (ends : List ℕ) (top v : ℕ) (x : Outcome Frame) where
    leads_below : (i : ℕ) → i ≤ top → (y : Outcome Frame) → Leads ends i x y → Leads (set ends top v) i x y
    unfolding Leads
    leads_below zero l y p = p
    leads_below (suc i) l y p = (
      p.0,
      subst (Stands t depth p.0) (sym (below ends top v i (omega arith))) p.1,
      leads_below i (omega arith) (onward y (exec env vs p.0)) p.2,
    )

    -- a position is put on
    pub leads_enters : top < length ends → (y : Outcome Frame) (c : Block) → Stands t depth c v → Leads ends top x (onward y (exec env vs c)) → Leads (set ends top v) (top + 1) x y
    unfolding Leads
    leads_enters l y c s p =
        let e : top + 1 ≡ suc top = omega arith in
        rw e (c, subst (Stands t depth c) (sym (get_or-set_same ends top v 0 l)) s, leads_below top (omega arith) (onward y (exec env vs c)) p)
