use mathlib.Core.Path.{◌∙◌, ap, refl}
use native.Mathlib.Omega.{arith}
use Prim.Native.Nat.{ℕ}
use lib.ListN.{replicate}
use Rattle.read_source.specs.Promises.Promises.{end_in}
use Rattle.read_source.proofs.Finishing.{few_next}
use Rattle.read_source.proofs.Checks.{refused_with, accepted_with}
use Rattle.read_source.proofs.checking.load_into.Goals as goal

pub settle_values-requires : goal.settle_values-requires
settle_values-requires c =
    let pre = c.requires in
    let scan_source = c.scan_source-scan in
    (few_next c.read_program.ensures.reaches (ap end_in c.in-Ok.is), c.read_program.auto.words ∙ scan_source.auto.words ∙ pre.0, c.read_program.auto.names ∙ c.fill.ensures.len ∙ pre.1)

pub overflow_cast-result : goal.overflow_cast-result
overflow_cast-result c =
    let l = few_next c.read_program.ensures.reaches (ap end_in c.in-Ok.is) in
    omega arith

pub has_kind-requires : goal.has_kind-requires
has_kind-requires c =
    let pre = c.requires in
    let scan_source = c.scan_source-scan in
    (scan_source.ensures.few, c.read_program.auto.words ∙ scan_source.auto.words ∙ pre.0)

pub returns-in-Ok : goal.returns-in-Ok
returns-in-Ok c =
    let pre = c.requires in
    let scan_source = c.scan_source-scan in
    let both =
    accepted_with _ _ _ pre.0 pre.1 pre.2 scan_source.ensures (c.fill.ensures.after (λ _ e. e) ∙ ap (λ (n : ℕ). replicate n 0) pre.1) c.read_program.ensures c.in-Ok.is c.settle_values.ensures
    _ refl refl refl refl refl refl c.has_kind.ensures in
    record { checks = both.0; loads = both.1 }

pub returns-in-Err : goal.returns-in-Err
returns-in-Err c =
    let pre = c.requires in
    let scan_source = c.scan_source-scan in
    let both =
    refused_with _ _ _ pre.0 pre.1 pre.2 scan_source.ensures (c.fill.ensures.after (λ _ e. e) ∙ ap (λ (n : ℕ). replicate n 0) pre.1) c.read_program.ensures c.in-Err.is
    (c.read_program.auto.words ∙ scan_source.auto.words) (c.read_program.auto.names ∙ c.fill.ensures.len) (c.fill-in-Err.ensures.after (λ _ e. e)) (c.fill-in-Err-2.ensures.after (λ _ e. e)) in
    record { checks = both.0; loads = both.1 }
