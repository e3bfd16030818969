-- The laws of lists of statements: what their parts are read by, the arms of an `if`. Assumes nothing.
use Prim.Native.Nat.{ℕ, zero, suc, ◌≤◌, ◌<◌}
use native.Mathlib.Omega.{arith}
use mathlib.Core.Path.{◌≡◌}
use mathlib.Core.Bool.{true}
use mathlib.Core.List.{List, []}
use lib.Dec.{ltb}
use borrow.Author.Tests.{lt-ltb}
use Rattle.token.specs.declared.Scan.{Scan}
use Rattle.program.specs.Syntax.{Block}
use Rattle.grammar.specs.Reader.{Reader, ◌>>=◌, ◌>>◌, ◌▷◌, return, Turn, again, done, repeat, turns, position, put}
use Rattle.grammar.specs.Constants.{read_declaration}
use Rattle.grammar.specs.Expressions.{Cell, read_expression}
use Rattle.grammar.specs.Statements.{read_assignment, Arm, arm_turn, read_if, statement_turn, read_block}
use Rattle.read_state.specs.Promises.Reading.{input, state, anything, Told, Goes, Gives, Onward, Reads, refusing}
use Rattle.read_state.specs.declared.Reading.{Reading}
use Rattle.read_state.specs.Promises.Reading.{Read}
use Rattle.std.specs.Prelude.{Ok, Err, Option, Some, None}
use Rattle.read_state.proofs.Steps.{went_on, made, refused}
use Rattle.read_state.proofs.Turns.{Turning, turn_first}
use Rattle.read_statements.specs.Promises.Promises.{once, ends, whatever, ArmsIn, expression_in, block_in, parts_of, parts_in, ListIn, if_with}
use Rattle.read_expressions.specs.declared.inside.Inside.{Inside}
use Rattle.read_expressions.specs.Promises.Opening.{Entered}
use Rattle.read_expressions.proofs.Opening.{none_free, same_cell, loops_now, one_less}

-- ---- statements of a list

-- what is read is known to have gone on
with_onward : {A : Type 0} {R : A → Reading → Type 0} {m : Reader A} {source : List ℕ} {sc : Scan} {top least : ℕ} {s : Reading} {ns ws ns₁ ws₁ : List ℕ} {r : Read} → Gives R m source sc s ns ws r ns₁ ws₁ → Onward top sc least r → Gives (λ a t. least ≤ t.at) m source sc s ns ws r ns₁ ws₁
with_onward {A} {R} {m} {source} {sc} {top} {least} {s} {ns} {ws} {ns₁} {ws₁} {r} x o = by r x.is o.goes
  where
    by : (z : Read) → Told R (m (input source sc) (state s ns ws)) z ns₁ ws₁ → Goes top sc least z → Gives (λ a t. least ≤ t.at) m source sc s ns ws z ns₁ ws₁
    by (Ok t) y g = record { is = (y.0, g.0, y.2) }
    by (Err e) y g = record { is = y }

-- one more statement, of which f makes what stands before the next
pub one_more : {A : Type 0} (f : A → Block → Block) {m : Reader A} {source : List ℕ} {sc : Scan} {top : ℕ} {s : Reading} {ns ws ns₁ ws₁ : List ℕ} {r : Read} → Reads anything m source sc top s ns ws r ns₁ ws₁ → Gives (ListIn s) (m ▷ λ a. again (f a)) source sc s ns ws r ns₁ ws₁
one_more f x = made (λ a. again (f a)) (with_onward x.gives x.onward) (λ a t p. once (omega arith))

-- ---- the parts of a statement, by how many more may be open

module _ (cell : Cell) {source : List ℕ} {sc : Scan} {top : ℕ} {s : Reading} {ns ws ns₁ ws₁ : List ℕ} {r : Read} where
  pub assigned_in : (free : ℕ) → Reads anything (read_assignment cell (read_expression cell free)) source sc top s ns ws r ns₁ ws₁ → Reads anything (read_assignment cell (parts_of cell free).expr) source sc top s ns ws r ns₁ ws₁
  assigned_in zero x = x
  assigned_in (suc free) x = x

  pub declared_in : (free : ℕ) → Reads anything (read_declaration (ltb 0 free)) source sc top s ns ws r ns₁ ws₁ → Reads anything (read_declaration (parts_of cell free).free) source sc top s ns ws r ns₁ ws₁
  declared_in zero x = x
  declared_in (suc free) x = rw (lt-ltb 0 (suc free) (omega arith)) at x

-- a list of statements before its first
pub block_first : (cell : Cell) (free loops : ℕ) {source : List ℕ} {sc : Scan} {s : Reading} {ns ws : List ℕ} → Turning (read_block cell free loops) (statement_turn cell (parts_of cell free) loops) source sc s ns ws whatever s ns ws
unfolding read_block
block_first cell zero loops = turn_first (λ after. after) tt
block_first cell (suc free) loops = turn_first (λ after. after) tt

-- the arms of an `if`, and the position past it, noted at its first token
abbrev if_body : Reader (Block → Block) → Reader (Block → Block)
if_body arms = position >>= λ i. arms >>= λ statement. position >>= λ past. put i 3 past >> return statement

module _ (inside : Inside) {o : Option Inside} (x : Entered inside.loops inside o) {source : List ℕ} {sc : Scan} {s : Reading} {ns ws : List ℕ} {r : Read} where
  pub if_open : {inner : Inside} {ns₁ ws₁ : List ℕ} → o ≡ Some inner → Gives anything (if_body (repeat turns (arm_turn (expression_in inner) (block_in inner)) [])) source sc s ns ws r ns₁ ws₁ → Gives anything (if_with (parts_in inside) inside.loops) source sc s ns ws r ns₁ ws₁
  unfolding read_if
  if_open e y = rw (← one_less inside.loops inside x e, ← same_cell inside.loops inside x e, ← loops_now inside.loops inside x e) y

  pub if_shut : o ≡ None → r ≡ refusing ws sc s s.at 14 → Gives anything (if_with (parts_in inside) inside.loops) source sc s ns ws r ns ws
  unfolding read_if
  if_shut e y = rw (none_free inside.loops inside x e) (refused 14 y)

-- a place behind which one more arm follows is a token's
pub arm_inside : {m : Reader (Turn (List Arm) (Block → Block))} {source : List ℕ} {sc : Scan} {s t : Reading} {ns ws ns₁ ws₁ : List ℕ} {r : Read} → Gives (ArmsIn sc) m source sc s ns ws r ns₁ ws₁ → r ≡ Ok t → (t.more ≡ true) → t.at < sc.count
arm_inside {sc = sc} {t = t} x e n = by (went_on x e).is.0 (went_on x e).is.1
  where
    by : (u : Turn (List Arm) (Block → Block)) → ArmsIn sc u t → t.at < sc.count
    by (again y) (once p) = p.1
    by (done z) (ends p) = cc
