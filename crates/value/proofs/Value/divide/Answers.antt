use Rattle.std.proofs.Common.{◌<◌, ◌^◌, ◌∙◌, ap, rules}
use lib.Signed.{mag}
use Rattle.value.specs.Worked.{checked}
use Rattle.value.proofs.Tests.{nonzero_no}
use Rattle.value.proofs.Division.{quot_read, divisor_no}
use Rattle.value.proofs.Value.divide.Goals as goal

pub returns : goal.returns
returns c =
    let a = c.args.self.n in
    let b = c.args.b.n in
    let ha : mag a < 2 ^ 31 = search rules in
    let hb : mag b < 2 ^ 31 = search rules in
    c.try_from.ensures ∙ ap checked (quot_read a b ha hb) ∙ nonzero_no b _ (divisor_no a b ha hb c.if-y-eq0.false)
