use Rattle.std.proofs.Common.{◌≡◌, ◌<◌, ◌%◌, ◌^◌, ◌∙◌, ◌+ℤ◌, ℤ, ap, nat_abs, pos, arith, rules}
use native.Mathlib.Nat.{le_trans}
use lib.Signed.{mag}
use mir.Syntax.{w64}
use mir.Val.{SFits, to_z}
use mir.Facts.{to_z_pos}
use Rattle.value.proofs.Bounds.{fits, abs_add}
use Rattle.value.proofs.Read.{read64, wide, wide_is, op_read}
use Rattle.value.proofs.Words.{Raised, raise, under_add}
use Rattle.value.proofs.wrap.Goals as goal

pub returns : goal.returns
returns c =
    let own = c.args.own in
    let index = c.args.index.n in
    let size = c.args.size in
    let small : mag index < 2 ^ 31 = search rules in
    let own_is : to_z w64 own ≡ pos own = to_z_pos w64 (omega arith) in
    let size_is : to_z w64 size ≡ pos size = to_z_pos w64 (omega arith) in
    let plain = pos own +ℤ index in
    -- the two sums fit
    let first_fits : SFits w64 plain = fits w64 plain (omega (arith, abs_add (pos own) index)) in
    let sum_fits : SFits w64 (plain +ℤ pos size) = fits w64 (plain +ℤ pos size) (omega (arith, abs_add plain (pos size), abs_add (pos own) index)) in
    let first_read : read64 (to_z w64 own +ℤ wide index) ≡ plain = op_read ◌+ℤ◌ own_is (wide_is index small) first_fits in
    let raised : Raised plain size = raise plain size (le_trans (under_add own index) c.requires.2) in
    ap (λ (z : ℤ). nat_abs z % size) (op_read ◌+ℤ◌ first_read size_is sum_fits ∙ raised.is) ∙ raised.rest
