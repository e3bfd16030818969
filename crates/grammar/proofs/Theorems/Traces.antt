-- A source that is read so is accepted, and every accepted source is read so.
use mathlib.Core.Path.{◌≡◌, refl, sym, ap, ◌∙◌}
use mathlib.Core.Bool.{Bool, true, false, not, ◌&&◌}
use mathlib.Core.List.{List}
use Prim.Native.Nat.{ℕ}
use lib.Dec.{eqb}
use borrow.Author.Tests.{eq-eqb, eqb-true, not-false}
use Rattle.value.specs.Limits.{most_open}
use Rattle.std.specs.Prelude.{if◌then◌else◌}
use Rattle.value.proofs.Theorems.Laws.{and_both}
use Rattle.token.specs.declared.Token.{Token}
use Rattle.token.specs.Kind.{kind}
use Rattle.token.specs.Scanning.{scan}
use Rattle.program.specs.Syntax.{Block}
use Rattle.grammar.specs.Reader.{Input, State, Result, ok, fail, Reader, refuse_with, unit, token_of, is_kind, refuse}
use Rattle.grammar.specs.Constants.{read_constants}
use Rattle.grammar.specs.Statements.{read_block}
use Rattle.grammar.specs.Source.{Declared, read_cell, input_of, start_state, Accepted, accepted_as, finish, read_program, what_is_read, parse}
use Rattle.grammar.specs.Promises.Traces.{Traced, accepted_by, Trace}
use Rattle.grammar.proofs.Theorems.Ends.{Gives, no_end, bind, bind_ok}

-- ---- what is read so is accepted

-- the end of the source stands at a state, and no refusal is noted
pub finish_ok : (input : Input) (d : Declared) (b : Block) (s : State) → (token_of input s s.at).kind ≡ kind.stop → (token_of input s s.at).value ≡ 7 → s.noted.number ≡ 0
    → finish d b input s ≡ ok (accepted_as input d b s, s)
unfolding finish
finish_ok input d b s stop last clear = simp (eq-eqb _ _ stop, eq-eqb _ _ last, eq-eqb _ _ clear)

-- reading a program so is reading it
traced_whole : {input : Input} {start : State} (t : Traced input start) → read_program input start ≡ ok (accepted_by t, t.s₃)
unfolding read_program
traced_whole {input} {start} t =
    bind_ok read_constants _ input start t.s₁ unit t.constants
    ∙ bind_ok read_cell _ input t.s₁ t.s₂ t.declaration t.cell
    ∙ bind_ok (read_block t.declaration.cell most_open 0) _ input t.s₂ t.s₃ t.body t.block
    ∙ finish_ok input t.declaration t.body t.s₃ t.stop t.last t.clear

pub parses : {source : List ℕ} (t : Trace source) → parse source ≡ ok (accepted_by t)
unfolding parse
parses t = ap what_is_read (traced_whole t)

-- ---- what is accepted is read so

-- a reader gives what it gives
exactly : {A : Type 0} {input : Input} (m : Reader A) (s : State) → Gives input m s (λ a t. m input s ≡ ok (a, t))
exactly m s = record { is = λ a t e. e }

-- what is known where the end is read
record Finished (input : Input) (d : Declared) (b : Block) (s : State) (a : Accepted) : Type 0 where
  pub stop : (token_of input s s.at).kind ≡ kind.stop
  pub last : (token_of input s s.at).value ≡ 7
  pub clear : s.noted.number ≡ 0
  pub is : a ≡ accepted_as input d b s

finish_gives : (input : Input) (d : Declared) (b : Block) (s : State) → Gives input (finish d b) s (λ a _. Finished input d b s a)
unfolding finish refuse
finish_gives input d b s = record { is = λ a t e. by (not (is_kind end kind.stop && eqb end.value 7)) refl (not (eqb s.noted.number 0)) refl e }
  where
    end : Token
    end = token_of input s s.at

    by : {a : Accepted} {t : State} (x : Bool) → not (is_kind end kind.stop && eqb end.value 7) ≡ x → (y : Bool) → not (eqb s.noted.number 0) ≡ y
        → (if x then refuse 7 input s else if y then refuse_with s.noted else ok (accepted_as input d b s, s)) ≡ ok (a, t) → Finished input d b s a
    by true p y q e = no_end e
    by false p true q e = no_end e
    by {a} {t} false p false q e =
        let pair : ◌≡◌ {A = Accepted × State} (accepted_as input d b s, s) (a, t) = cc in
        let both = and_both (is_kind end kind.stop) (eqb end.value 7) (not-false _ p) in
        record {
          stop = eqb-true _ _ both.0;
          last = eqb-true _ _ both.1;
          clear = eqb-true _ _ (not-false _ q);
          is = sym (ap (λ (z : Accepted × State). z.0) pair);
        }

program_gives : (input : Input) (start : State) → Gives input read_program start (λ a _. (t : Traced input start) × (a ≡ accepted_by t))
unfolding read_program
program_gives input start =
    bind (exactly read_constants _)
    (λ u s₁ p.
    bind (exactly read_cell _)
    (λ d s₂ q.
    bind (exactly (read_block d.cell most_open 0) _)
    (λ b s₃ r.
    record {
      is = λ a _ e.
          let f = (finish_gives input d b s₃).is a _ e in
          (record { s₁ = s₁; s₂ = s₂; s₃ = s₃; declaration = d; body = b; constants = p; cell = q; block = r; stop = f.stop; last = f.last; clear = f.clear }, f.is);
    })))

pub traced : (source : List ℕ) (a : Accepted) → parse source ≡ ok a → (t : Trace source) × (a ≡ accepted_by t)
unfolding parse
traced source a e = by (read_program (input_of source) (start_state (scan source))) refl e
  where
    by : (r : Result (Accepted × State)) → read_program (input_of source) (start_state (scan source)) ≡ r → what_is_read r ≡ ok a → (t : Trace source) × (a ≡ accepted_by t)
    by (ok r) q e = let z : a ≡ r.0 = cc in let g = (program_gives (input_of source) (start_state (scan source))).is r.0 r.1 q in (g.0, z ∙ g.1)
    by (fail n p) q e = no_end e
