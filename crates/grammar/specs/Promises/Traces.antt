-- What reading passes.
use Rattle.std.specs.Prelude.{◌≡◌, List, ℕ}
use Rattle.value.specs.Limits.{most_open}
use Rattle.token.specs.Kind.{kind}
use Rattle.token.specs.Scanning.{scan}
use Rattle.program.specs.Syntax.{Block}
use Rattle.grammar.specs.Reader.{Input, State, ok, unit, token_of}
use Rattle.grammar.specs.Constants.{read_constants}
use Rattle.grammar.specs.Statements.{read_block}
use Rattle.grammar.specs.Source.{Declared, read_cell, Accepted, accepted_as, input_of, start_state}

-- the states that reading passes from a start to the end of an accepted source: behind the constants, behind the cell declaration, and at
-- the end; and what was read between
pub record Traced (input : Input) (start : State) : Type 0 where
  pub s₁ : State
  pub s₂ : State
  pub s₃ : State
  pub declaration : Declared
  pub body : Block
  pub constants : read_constants input start ≡ ok (unit, s₁)
  pub cell : read_cell input s₁ ≡ ok (declaration, s₂)
  pub block : read_block declaration.cell most_open 0 input s₂ ≡ ok (body, s₃)
  pub stop : (token_of input s₃ s₃.at).kind ≡ kind.stop
  pub last : (token_of input s₃ s₃.at).value ≡ 7
  pub clear : s₃.noted.number ≡ 0

abbrev pub accepted_by : {input : Input} {start : State} → Traced input start → Accepted
accepted_by {input} t = accepted_as input t.declaration t.body t.s₃

-- the states that reading an accepted source passes
abbrev pub Trace : List ℕ → Type 0
Trace source = Traced (input_of source) (start_state (scan source))
