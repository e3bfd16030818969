use native.Mathlib.Omega.{arith}
use mathlib.Core.Path.{◌∙◌}
use Rattle.read_declaration.proofs.Writing.{none_written, one_written, all_written}
use Rattle.read_declaration.proofs.write_ranges.Goals as goal

pub loop-k-init : goal.loop-k-init
loop-k-init c = (none_written _ _ _ _, omega arith)

pub put_word-requires-in-loop-k : goal.put_word-requires-in-loop-k
put_word-requires-in-loop-k c =
    let pre = c.requires in
    let loop = c.loop-k in
    let put_word = c.put_word in
    (omega arith, put_word.auto.words ∙ (loop.invariant.0.long ∙ pre.0))

pub loop-k-preserved : goal.loop-k-preserved
loop-k-preserved c =
    let pre = c.requires in
    let fits = c.ranges in
    let loop = c.loop-k in
    let put_word = c.put_word in
    let put-word2 = c.put_word-in-loop-k in (
      one_written _ _ _ _ _ _ loop.invariant.0 pre.0
          (omega arith) fits.low.fits fits.high.fits put_word.ensures put-word2.ensures,
      omega arith,
    )

pub returns : goal.returns
returns c =
    let loop = c.loop-k in
    let loop-test = c.loop-k-test in
    all_written _ _ _ _ _ _ loop.invariant.0 loop.invariant.1 loop-test.false
