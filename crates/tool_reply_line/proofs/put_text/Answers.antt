use mathlib.Core.Path.{refl, sym, ap, ◌∙◌}
use mathlib.Core.List.{List, ◌++◌}
use native.Mathlib.Omega.{arith}
use lib.ListN.{length, take}
use Prim.Native.Nat.{ℕ, ◌+◌}
use Rattle.std.proofs.lemmas.Slice.{take-put_mid}
use Rattle.tool_reply_line.proofs.put_text.Goals as goal

pub returns : goal.returns
returns c =
    let e = c.copy_from_slice.ensures.after in
    record {
      is = take-put_mid _ _ _ _ (c.args.at + length c.args.text.now) (ap (λ (s : List ℕ). c.args.at + length s) (sym e)) (omega arith) ∙ ap (λ (s : List ℕ). take c.args.at c.args.line.now ++ s) e;
      end = refl;
    }
