use Rattle.std.proofs.Common.{◌≡◌, rules, tests}
use Rattle.std.proofs.lemmas.Iterator.{IsFirst-from_position, YieldsList-from_slice}
use Rattle.run_marked_cells.proofs.ScanLaws.{run_found, run_none}
use Rattle.run_marked_cells.proofs.scan.run_end.Goals as goal

pub returns-in-Some : goal.returns-in-Some
returns-in-Some c =
    run_found c.args.marks.now c.args.from _ c.requires c.in-Some.is
    (IsFirst-from_position _ _ _ (λ x. x ≡ 0) (λ x. x ≡ 0 → ⊥) c.position.ensures.ran (YieldsList-from_slice _ c.iter.ensures.rest) (λ x q k. search (rules, tests)) (λ x q k. search (rules, tests)))

pub returns-in-None : goal.returns-in-None
returns-in-None c =
    run_none c.args.marks.now c.args.from c.requires c.in-None.is
    (IsFirst-from_position _ _ _ (λ x. x ≡ 0) (λ x. x ≡ 0 → ⊥) c.position.ensures.ran (YieldsList-from_slice _ c.iter.ensures.rest) (λ x q k. search (rules, tests)) (λ x q k. search (rules, tests)))
