use mathlib.Core.Path.{◌≡◌, refl}
use mathlib.Core.Bool.{Bool, true}
use mathlib.Core.List.{List}
use Prim.Native.Nat.{ℕ}
use lib.Dec.{eqb}
use lib.ListN.{get_or}
use Rattle.std.proofs.lemmas.Bool.{agree_below, agree_below_at, eqb-true}
use Rattle.token.specs.Bytes.{kind_of, member}
use Rattle.token.specs.declared.bytes.ByteKind.{ByteKind}
use Rattle.token.specs.declared.bytes.ByteKind.TheVariants.{Other}
use Rattle.token.specs.Promises.Promises.{Sorts, kind_number}
use Rattle.token.proofs.bytes.table.Goals as goal

-- one test over all entries
right : List ByteKind → ℕ → Bool
right table b = eqb (kind_number (get_or table b Other)) (kind_of b)

sorts : (table : List ByteKind) → agree_below (right table) (λ _. true) 256 ≡ true → Sorts table
unfolding right
sorts table t = record { each = λ b h. eqb-true (kind_number (get_or table b Other)) (kind_of b) (agree_below_at (right table) (λ _. true) 256 b t h) }

pub returns : goal.returns
unfolding right kind_of member
returns c = sorts _ refl
