use Rattle.std.proofs.Common.{◌<◌, ◌^◌, ◌∙◌, ℤ, ap, rules}
use lib.Signed.{mag}
use Rattle.std.specs.Prelude.{Ok}
use Rattle.value.specs.Worked.{value}
use Rattle.value.proofs.Tests.{nonzero_no}
use Rattle.value.proofs.Division.{rest_is, divisor_no}
use Rattle.value.proofs.Value.remainder.Goals as goal

pub returns : goal.returns
returns c =
    let a = c.args.self.n in
    let b = c.args.b.n in
    let ha : mag a < 2 ^ 31 = search rules in
    let hb : mag b < 2 ^ 31 = search rules in
    ap (λ (z : ℤ). Ok (value z)) (rest_is a b ha hb) ∙ nonzero_no b _ (divisor_no a b ha hb c.if-y-eq0.false)
