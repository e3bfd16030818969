use mathlib.Core.Path.{◌≡◌, refl, ap, ◌∙◌}
use mathlib.Core.List.{List}
use Prim.Native.Nat.{ℕ, ◌+◌, ◌-◌, ◌*◌}
use native.Mathlib.Omega.{arith}
use lib.ListN.{get_or, set, drop, length-set}
use lib.Seq.{paste-zero}
use Rattle.names.proofs.Removing.{moved, one_moved, all_moved}
use Rattle.names.proofs.remove_entry.Goals as goal

pub loop-k-init : goal.loop-k-init
loop-k-init c = (paste-zero c.args.names.now (4 * c.args.slot) (drop (4 * c.args.slot + 4) c.args.names.now), omega arith, refl, refl, omega arith)

pub loop-k-preserved : goal.loop-k-preserved
loop-k-preserved c =
    let l = c.loop-k in
    let from = 4 * c.args.slot in
    let e : set l.names (from + l.k) (get_or l.names (from + l.k + 4) 0) ≡ moved c.args.names.now from (l.k + 1) =
    ap (λ (x : List ℕ). set x (from + l.k) (get_or x (from + l.k + 4) 0)) l.invariant.0 ∙ one_moved c.args.names.now from (omega arith) (omega arith) l.k (omega arith) in
    (e, omega arith, refl, refl, length-set l.names (from + l.k) _ ∙ l.invariant.4)

pub returns : goal.returns
returns c =
    let l = c.loop-k in
    let k : l.k ≡ 1020 - 4 * c.args.slot = omega arith in
    all_moved c.args.names.now (4 * c.args.slot) (omega arith) (omega arith) (l.invariant.0 ∙ ap (moved c.args.names.now (4 * c.args.slot)) k) (c.fill.ensures.after (λ _ e. e))
