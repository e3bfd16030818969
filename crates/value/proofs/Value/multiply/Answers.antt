use Rattle.std.proofs.Common.{◌<◌, ◌^◌, ◌*ℤ◌, ◌∙◌, ap, rules}
use lib.Signed.{mag}
use Rattle.value.specs.Worked.{checked}
use Rattle.value.proofs.Bounds.{product_fits}
use Rattle.value.proofs.Read.{wide_is, op_read}
use Rattle.value.proofs.Value.multiply.Goals as goal

pub returns : goal.returns
returns c =
    let a = c.args.self.n in
    let b = c.args.b.n in
    let ha : mag a < 2 ^ 31 = search rules in
    let hb : mag b < 2 ^ 31 = search rules in
    c.try_from.ensures ∙ ap checked (op_read ◌*ℤ◌ (wide_is a ha) (wide_is b hb) (product_fits a b ha hb))
