-- How the written indices of a part of a table come together, a law for each form.
use Prim.Native.Nat.{ℕ, zero, suc, ◌+◌, ◌≤◌, ◌<◌}
use native.Mathlib.Nat.{le_refl}
use native.Mathlib.Omega.{arith}
use mathlib.Core.Path.{◌≡◌, refl, sym, ap, ap₂, ◌∙◌, subst}
use mathlib.Core.Bool.{Bool, true, false, not, ◌||◌}
use mathlib.Core.List.{List, [], ◌∷◌, ◌++◌, append_assoc}
use lib.Dec.{eqb, ltb}
use lib.ListN.{length}
use borrow.Author.Tests.{lt-ltb, le-ltb, ne_eqb, not-true}
use Rattle.value.specs.Limits.{most_open}
use Rattle.value.proofs.Theorems.Laws.{never}
use Rattle.token.specs.Kind.{keyword, delimiter, level_of}
use Rattle.program.specs.Syntax.{Range}
use Rattle.cell_meaning.specs.Written.{Relative, relative_of}
use Rattle.cell_meaning.specs.Promises.Stands.{range_in, indices_in, is_sign_kind, is_unary}
use Rattle.cell_meaning.specs.Links.{Table}
use Rattle.cell_meaning.specs.Promises.Listing.{is_index, behind, written_at, written_from, Writes}

-- ---- plain tokens

-- a token of this kind begins no loop, no declaration and no relative index
unfoldable pub plain_kind : ℕ → Bool
plain_kind k = not (eqb k keyword.forall || eqb k keyword.const || eqb k delimiter.bracket)

-- a kind is plain that meets a test which the others do not
pub plain_by : (test : ℕ → Bool) (k : ℕ) → test k ≡ true → test keyword.forall ≡ false → test keyword.const ≡ false → test delimiter.bracket ≡ false
    → plain_kind k ≡ true
unfolding plain_kind
plain_by test k q a b c = rw (ne_eqb k 12 (no 12 a), ne_eqb k 5 (no 5 b), ne_eqb k 91 (no 91 c))
  where
    no : (i : ℕ) → test i ≡ false → k ≡ i → ⊥
    no i f e = never (sym f ∙ ap test (sym e) ∙ q)

pub plain_operator : (k : ℕ) → 1 ≤ level_of k → plain_kind k ≡ true
unfolding level_of
plain_operator k l = plain_by (λ j. ltb 0 (level_of j)) k (lt-ltb 0 (level_of k) l) refl refl refl

pub plain_unary : (k : ℕ) → is_unary k ≡ true → plain_kind k ≡ true
unfolding is_unary is_sign_kind
plain_unary k q = plain_by is_unary k q refl refl refl

pub plain_of : {k : ℕ} (c : ℕ) → k ≡ c → plain_kind c ≡ true → plain_kind k ≡ true
plain_of c e q = ap plain_kind e ∙ q

-- ---- parts of a table

pub append_none : (ws : List Relative) → ws ++ [] ≡ ws
append_none [] = refl
append_none (w ∷ ws) = ap (λ (vs : List Relative). w ∷ vs) (append_none ws)

module _ (t : Table) (loops : List Range) where
  -- what is written from a position up to the next comes before what is written behind it
  pub record Adds (at next : ℕ) (ws : List Relative) : Type 0 where
    pub forward : at ≤ next
    pub adds : (to : ℕ) (vs : List Relative) → next ≤ to → Writes t loops next to vs → Writes t loops at to (ws ++ vs)

  pub nothing_left : (at : ℕ) → Writes t loops at at []
  unfolding written_from
  nothing_left at = record { enough = 0; says = says }
    where
      says : (fuel : ℕ) → 0 ≤ fuel → written_from fuel t loops at at ≡ []
      says zero l = refl
      says (suc fuel) l = rw (le-ltb at at (le_refl at))

  -- up to where it ends
  pub all_of : {at to : ℕ} {ws : List Relative} → Adds at to ws → Writes t loops at to ws
  all_of {at} {to} {ws} a = subst (λ (vs : List Relative). Writes t loops at to vs) (append_none ws) (a.adds to [] (le_refl to) (nothing_left to))

  pub adds_none : (at : ℕ) → Adds at at []
  adds_none at = record { forward = le_refl at; adds = λ to vs l w. w }

  pub adds_both : {at mid next : ℕ} {ws vs : List Relative} → Adds at mid ws → Adds mid next vs → Adds at next (ws ++ vs)
  adds_both {at} {mid} {next} {ws} {vs} a b =
      record {
        forward = omega (arith, a.forward, b.forward);
        adds =
            λ to us l w. subst (λ (xs : List Relative). Writes t loops at to xs) (sym (append_assoc ws vs us))
            (a.adds to (vs ++ us) (omega (arith, b.forward)) (b.adds to us l w));
      }

  pub adds_as : {at next : ℕ} {ws vs : List Relative} → ws ≡ vs → Adds at next ws → Adds at next vs
  adds_as {at} {next} e a = subst (Adds at next) e a

  -- what follows writes nothing
  pub then_none : {at mid next : ℕ} {ws : List Relative} → Adds at mid ws → Adds mid next [] → Adds at next ws
  then_none {ws = ws} a b = adds_as (append_none ws) (adds_both a b)

  -- ---- one step

  -- what stands at a position writes these, with enough fuel
  record Here (at : ℕ) (ws : List Relative) : Type 0 where
    pub enough : ℕ
    pub says : (fuel : ℕ) → enough ≤ fuel → written_at t loops at (written_from fuel t (loops ++ (range_in t (at + 1) ∷ [])) (t.inner at) (t.past at)) ≡ ws

  step : {at next : ℕ} {ws : List Relative} → at < next → behind t at ≡ next → Here at ws → Adds at next ws
  unfolding written_from
  step {at} {next} {ws} l e h =
      record {
        forward = omega arith;
        adds = λ to vs m w. record { enough = suc (h.enough + w.enough); says = says to vs m w };
      }
    where
      says : (to : ℕ) (vs : List Relative) → next ≤ to → (w : Writes t loops next to vs) (fuel : ℕ) → suc (h.enough + w.enough) ≤ fuel
          → written_from fuel t loops at to ≡ ws ++ vs
      says to vs m w zero o = absurd (omega arith)
      says to vs m w (suc fuel) o =
          let b : ltb at to ≡ true = lt-ltb at to (omega arith) in
          rw b (ap₂ (λ (x y : List Relative). x ++ y) (h.says fuel (omega arith)) (ap (λ (i : ℕ). written_from fuel t loops i to) e ∙ w.says fuel (omega arith)))

  -- ---- each form

  module _ (at : ℕ) where
    pub adds_plain : plain_kind (t.kind at) ≡ true → Adds at (at + 1) []
    unfolding plain_kind behind is_index written_at
    adds_plain q = step (omega arith) (rw (f.0, f.1, f.2)) (record { enough = 0; says = λ fuel l. rw (f.0, f.2) })
      where
        each : (a b c : Bool) → (a || b || c) ≡ false → (a ≡ false) × (b ≡ false) × (c ≡ false)
        each true b c e = never (sym e)
        each false true c e = never (sym e)
        each false false c e = (refl, refl, e)

        f : (eqb (t.kind at) keyword.forall ≡ false) × (eqb (t.kind at) keyword.const ≡ false) × (eqb (t.kind at) delimiter.bracket ≡ false)
        f = each (eqb (t.kind at) keyword.forall) (eqb (t.kind at) keyword.const) (eqb (t.kind at) delimiter.bracket) (not-true _ q)

    -- the `[` of an array constant's element
    pub adds_bracket : t.kind at ≡ delimiter.bracket → t.word3 at ≡ 0 → Adds at (at + 1) []
    unfolding behind is_index written_at
    adds_bracket k w = step (omega arith) (rw (k, w)) (record { enough = 0; says = λ fuel l. rw (k, w) })

    pub adds_index : {next : ℕ} → t.kind at ≡ delimiter.bracket → 0 < t.word3 at → t.past at ≡ next → at < next
        → Adds at next (relative_of loops (indices_in t t.dims (at + 1)))
    unfolding behind is_index written_at
    adds_index k w e l = let b : ltb 0 (t.word3 at) ≡ true = lt-ltb 0 (t.word3 at) w in step l (rw (k, b) e) (record { enough = 0; says = λ fuel m. rw (k, b) })

    pub adds_constant : {next : ℕ} → t.kind at ≡ keyword.const → t.past at ≡ next → at < next → Adds at next []
    unfolding behind is_index written_at
    adds_constant k e l = step l (rw k e) (record { enough = 0; says = λ fuel m. rw k })

    pub adds_loop : {r : Range} {inner next : ℕ} {ws : List Relative} → t.kind at ≡ keyword.forall → length loops < most_open → r ≡ range_in t (at + 1)
        → t.inner at ≡ inner → t.past at ≡ next → at < next → Writes t (loops ++ (r ∷ [])) inner next ws → Adds at next ws
    unfolding behind is_index written_at
    adds_loop {r} {inner} {next} {ws} k few a i e l w =
        let b : ltb (length loops) most_open ≡ true = lt-ltb (length loops) most_open few in
        step l (rw k e)
        (record {
          enough = w.enough;
          says = λ fuel m.
              rw (k, b)
              (ap (λ (x : Range). written_from fuel t (loops ++ (x ∷ [])) (t.inner at) (t.past at)) (sym a) ∙ ap₂ (written_from fuel t (loops ++ (r ∷ []))) i e ∙ w.says fuel m);
        })
