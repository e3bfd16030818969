-- A source is accepted exactly if its reply's number is 0; every other reply says by which rule, at a place within the source.
use Prim.Native.Nat.{ℕ, ◌≤◌}
use native.Mathlib.Omega.{arith}
use mathlib.Core.Path.{◌≡◌, refl, sym, ap, ◌∙◌}
use mathlib.Core.Logic.{◌⊎◌, inl, inr}
use mathlib.Core.Bool.{Bool, true, false, not, ◌&&◌}
use mathlib.Core.List.{List}
use lib.Dec.{eqb, ltb}
use lib.ListN.{length}
use borrow.Author.Tests.{ltb-true, ltb-false, not-true}
use Rattle.value.specs.Limits.{most_bytes, most_open}
use Rattle.std.specs.Prelude.{if◌then◌else◌}
use Rattle.value.proofs.Theorems.Laws.{never}
use Rattle.token.specs.declared.Token.{Token}
use Rattle.token.specs.Kind.{kind}
use Rattle.token.specs.Scanning.{scan}
use Rattle.program.specs.Syntax.{Block}
use Rattle.program.specs.Refusal.{no_refusal}
use Rattle.grammar.specs.Reader.{State, Result, ok, fail, refuse_with, token_of, is_kind, refuse}
use Rattle.grammar.specs.Source.{Declared, Accepted, accepted_as, input_of, start_state, finish, read_program, what_is_read, parse}
use Rattle.grammar.specs.Checking.{SourceRead, turned_away, refused, accepted, source_read, read_source, reply_of, check}
use Rattle.read_refusals.proofs.Theorems.Numbers.{is_refusal}
use Rattle.read_refusals.proofs.Theorems.Steps as Steps
use Rattle.read_refusals.proofs.Theorems.Steps.{Kept, Ends, Fine, bind}
use Rattle.read_refusals.proofs.Theorems.Readers.{constants, cell, block}

-- ---- the whole source

module _ (source : List ℕ) (short : length source ≤ most_bytes) where
  finishes : (d : Declared) (b : Block) → Fine source (finish d b)
  unfolding finish
  finishes d b = record { is = λ s h. by s h (not (is_kind (end s) kind.stop && eqb (end s).value 7)) (not (eqb s.noted.number 0)) refl }
    where
      end : State → Token
      end s = token_of (input_of source) s s.at

      by : (s : State) → Kept source s → (x y : Bool) → not (eqb s.noted.number 0) ≡ y
          → Ends source (if x then refuse 7 (input_of source) s else if y then refuse_with s.noted else ok (accepted_as (input_of source) d b s, s))
      by s h true y q = (Steps.refused source short _ refl).is s h
      by s h false true q = h.noted (not-true _ q)
      by s h false false q = h

  reads : Fine source read_program
  unfolding read_program
  reads = bind (constants source short) (λ _. bind (cell source short) (λ d. bind (block source short d.cell most_open 0) (λ b. finishes d b)))

  starts : Kept source (start_state (scan source))
  starts = record { heads = λ i. refl; spans = λ i. refl; noted = λ e. never (sym e) }

-- a source of allowed length that is refused is refused by a number that refuses, at a place within the source
pub refusals : (source : List ℕ) (n p : ℕ) → length source ≤ most_bytes → parse source ≡ fail n p → (is_refusal n ≡ true) × (p ≤ length source)
unfolding parse
refusals source n p short e = by (read_program (input_of source) (start_state (scan source))) ((reads source short).is _ (starts source short)) e
  where
    by : (r : Result (Accepted × State)) → Ends source r → what_is_read r ≡ fail n p → (is_refusal n ≡ true) × (p ≤ length source)
    by (ok r) x e = absurd (let z : ◌≡◌ {A = ℕ} 0 1 = cc in omega arith)
    by (fail m q) x e = let a : m ≡ n = cc in let b : q ≡ p = cc in (ap is_refusal (sym a) ∙ x.number, omega (arith, x.place))

-- ---- replies

-- what holds of the number and place with which reading ends: turned away with 1 at 0 or with 2 at 65535; refused by a number that
-- refuses; in either case at a place within the source
abbrev pub Answers : List ℕ → SourceRead → Type 0
Answers source (turned_away n p) = (((n ≡ 1) × (p ≡ 0)) ⊎ ((n ≡ 2) × (p ≡ most_bytes))) × (p ≤ length source)
Answers source (refused n p) = (is_refusal n ≡ true) × (p ≤ length source)
Answers source (accepted a) = Unit {0}

pub answers : (fit : Bool) (source : List ℕ) → Answers source (read_source fit source)
unfolding read_source
answers fit source = by fit (ltb most_bytes (length source)) refl
  where
    read : length source ≤ most_bytes → (r : Result Accepted) → parse source ≡ r → Answers source (source_read r)
    read short (ok a) e = tt
    read short (fail n p) e = refusals source n p short e

    by : (f b : Bool) → ltb most_bytes (length source) ≡ b → Answers source (if not f then turned_away 1 0 else if b then turned_away 2 most_bytes else source_read (parse source))
    by false b q = (inl (refl, refl), omega arith)
    by true true q = (inr (refl, refl), omega (arith, ltb-true most_bytes (length source) q))
    by true false q = read (ltb-false most_bytes (length source) q) (parse source) refl

-- a source whose reply has number 0 is accepted
pub zero_accepts : (fit : Bool) (source : List ℕ) → (check fit source).number ≡ 0 → (a : Accepted) × (read_source fit source ≡ accepted a)
unfolding check
zero_accepts fit source e = by (read_source fit source) (answers fit source) e
  where
    by : (o : SourceRead) → Answers source o → (reply_of o).number ≡ 0 → (a : Accepted) × (o ≡ accepted a)
    by (turned_away n p) (inl x, l) e = absurd (omega (arith, x.0))
    by (turned_away n p) (inr x, l) e = absurd (omega (arith, x.0))
    by (refused n p) x e = never (sym (ap is_refusal e) ∙ x.0)
    by (accepted a) x e = (a, refl)

-- the reply to an accepted source has number 0
pub accepted_zero : (fit : Bool) (source : List ℕ) (a : Accepted) → read_source fit source ≡ accepted a → check fit source ≡ no_refusal
unfolding check
accepted_zero fit source a e = ap reply_of e

-- every reply's place is within the source
pub place_within : (fit : Bool) (source : List ℕ) → (check fit source).place ≤ length source
unfolding check
place_within fit source = by (read_source fit source) (answers fit source)
  where
    by : (o : SourceRead) → Answers source o → (reply_of o).place ≤ length source
    by (turned_away n p) x = x.1
    by (refused n p) x = x.1
    by (accepted a) x = omega arith
