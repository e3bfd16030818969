-- Runs of bytes: one law for each way through the tests, and what is left of a run while it is walked.
use mathlib.Core.Path.{◌≡◌, refl, sym, ◌∙◌}
use mathlib.Core.Bool.{Bool, true, false, ◌&&◌, ◌||◌}
use mathlib.Core.List.{List, [], ◌∷◌}
use Prim.Native.Nat.{ℕ, suc, ◌+◌, ◌≤◌, ◌<◌}
use native.Mathlib.Nat.{not-suc-le-zero}
use native.Mathlib.Omega.{arith}
use lib.ListN.{length, drop, drop_of_length-le}
use lib.Seq.{drop-drop}
use lib.Dec.{eqb}
use Rattle.token.specs.Bytes.{kind_of}
use Rattle.token.specs.Lexeme.{starts, in_name, in_literal, extent}
use Rattle.token.specs.declared.runs.Run.{Run}
use Rattle.token.specs.declared.runs.Run.TheVariants.{Name, Literal}
use Rattle.token.specs.declared.bytes.ByteKind.{ByteKind}
use Rattle.token.specs.declared.bytes.ByteKind.TheVariants.{Letter, Digit, Underscore}
use Rattle.token.specs.Promises.Promises.{WalksTokens, kind_number, head_kind, in_run, run_test, goes_on}
use Rattle.token.proofs.Numbers.{apart_eqb}
use Rattle.token.proofs.Heads.{walks, starts_as, drop_here}

-- ---- the test of one byte

pub fits_digit : (run : Run) {k : ByteKind} → k ≡ Digit → true ≡ in_run run (kind_number k)
fits_digit Name e = rw e
fits_digit Literal e = rw e

pub fits_letter : {run : Run} {k : ByteKind} → k ≡ Letter → run ≡ Name → true ≡ in_run run (kind_number k)
fits_letter e q = rw (e, q)

pub fits_no_letter : (run : Run) {k : ByteKind} → k ≡ Letter → (run ≡ Name → ⊥) → false ≡ in_run run (kind_number k)
fits_no_letter Name e d = absurd (d refl)
fits_no_letter Literal e d = rw e

pub fits_other : (run : Run) {k : ByteKind} → (k ≡ Letter → ⊥) → (k ≡ Digit → ⊥) → false ≡ in_run run (kind_number k)
fits_other Name {k} c d = rw (apart_eqb k Letter c, apart_eqb k Digit d)
fits_other Literal {k} c d = rw (apart_eqb k Digit d)

pub ruleset Tests = (fits_digit, fits_letter, fits_no_letter, fits_other)

-- the test of the byte at the head is one of its kind
tested : (run : Run) (s : List ℕ) {k : ℕ} → k ≡ head_kind s → run_test run s ≡ in_run run k
unfolding in_name in_literal
tested Name s e = rw (starts_as s e 3 (omega arith), starts_as s e 4 (omega arith))
tested Literal s e = rw (starts_as s e 4 (omega arith))

-- ---- whether a byte is in a run

no_underscore : (run : Run) → in_run run 5 ≡ false
no_underscore Name = refl
no_underscore Literal = refl

module _ (run : Run) (s : List ℕ) (i : ℕ) {k : ByteKind} (e : kind_number k ≡ head_kind (drop i s)) where
  underscore : k ≡ k → starts 5 (drop i s) ≡ eqb (kind_number k) 5
  underscore z = starts_as (drop i s) e 5 (omega arith)

  pub has_before : k ≡ Underscore → (j : ByteKind) → kind_number j ≡ head_kind (drop (i + 1) s) → {b : Bool} → b ≡ in_run run (kind_number j) → b ≡ goes_on (run_test run) (drop i s)
  unfolding goes_on
  has_before u j p q = q ∙ sym (rw (tested run (drop i s) e, underscore refl, u, no_underscore run, drop-drop 1 i s) (tested run (drop (i + 1) s) p))

  pub has_itself : (k ≡ Underscore → ⊥) → {b : Bool} → b ≡ in_run run (kind_number k) → b ≡ goes_on (run_test run) (drop i s)
  unfolding goes_on
  has_itself d q = q ∙ sym (rw (tested run (drop i s) e, underscore refl, apart_eqb k Underscore d) (or_false (in_run run (kind_number k))))
    where
      or_false : (b : Bool) → (b || false) ≡ b
      or_false true = refl
      or_false false = refl

pub ruleset Members = (has_before, has_itself)

-- ---- the walk

-- one byte more, or none
abbrev more : Bool → ℕ → ℕ
more t n = elim t [ true ↦ suc n | false ↦ 0 ]

step : (test : List ℕ → Bool) {s : List ℕ} {x : ℕ} {xs : List ℕ} → s ≡ x ∷ xs → {b : Bool} → b ≡ goes_on test s → extent test s ≡ more b (extent test xs)
unfolding extent goes_on starts
step test q e = rw (e, q)

pub extent_within : (test : List ℕ → Bool) (s : List ℕ) → extent test s ≤ length s
unfolding extent
extent_within test [] = omega arith
extent_within test (b ∷ bs) = go (test (b ∷ bs) || eqb (kind_of b) 5 && test bs) (extent_within test bs)
  where
    go : (t : Bool) {n m : ℕ} → n ≤ m → more t n ≤ suc m
    go true h = omega arith
    go false h = omega arith

pub extent_first : (test : List ℕ → Bool) (s : List ℕ) → 0 < length s → test s ≡ true → 1 ≤ extent test s
unfolding goes_on
extent_first test [] h e = absurd (not-suc-le-zero h)
extent_first test (b ∷ bs) h e = let q : true ≡ goes_on test (b ∷ bs) = rw e in rw (step test refl q) (omega arith)

-- from position i on the run is what is left of the run from `at` on
pub record Running (test : List ℕ → Bool) (s : List ℕ) (at i : ℕ) : Type 0 where
  pub left : at + extent test (drop at s) ≡ i + extent test (drop i s)

module _ (test : List ℕ → Bool) (s : List ℕ) (at : ℕ) where
  pub run_start : Running test s at at
  run_start = record { left = refl }

  module _ {i : ℕ} (w : Running test s at i) where
    ends : extent test (drop i s) ≡ 0 → WalksTokens (extent test (drop at s)) s at i
    ends e = walks s at (extent_within test (drop at s)) (omega (arith, w.left, e))

    pub run_all : length s ≤ i → WalksTokens (extent test (drop at s)) s at i
    unfolding extent
    run_all h = ends (rw (drop_of_length-le s h))

    module _ (h : i < length s) {b : Bool} (e : b ≡ goes_on test (drop i s)) where
      turn : extent test (drop i s) ≡ more b (extent test (drop (i + 1) s))
      turn = step test (drop_here s i h) e

      pub run_more : b ≡ true → Running test s at (i + 1)
      run_more p = let q : extent test (drop i s) ≡ suc (extent test (drop (i + 1) s)) = turn ∙ rw p in record { left = omega (arith, w.left) }

      pub run_stop : b ≡ false → WalksTokens (extent test (drop at s)) s at i
      run_stop p = ends (turn ∙ rw p)

pub ruleset Walk = (run_start, run_all, run_more, run_stop)
