use lib.ListN.{length}
use Rattle.cell_meaning.specs.Links.{table_of}
use Rattle.cell_operands.proofs.PrimaryLaws.{element_inside, element_past, element_negative}
use borrow.Author.Rules.{rules}
use Rattle.cell_operands.proofs.scene.Scene.element.Goals.{else-k-lt2147483648-via-then-k-lt2147483648+else-k-word_at, else-k-lt2147483648-via-else-k-lt2147483648}
use Rattle.cell_operands.proofs.scene.Scene.element.Goals as goal

pub returns-then-k-word_at : goal.returns-then-k-word_at
returns-then-k-word_at c =
    let s = c.self.inside in
    rw (← c.self.view_is, ← c.word_at-name.ensures)
    (element_inside (table_of s.words.now s.site.tokens (length s.sizes.now)) _ _ c.args.i.n _ _ c.encode-k.ensures (search rules) c.if-k-lt2147483648.true c.word_at.ensures c.if-k-word_at.true c.word_at-first.ensures c.word_at-then-k-word_at.ensures c.decode-value.ensures)

pub returns : goal.returns
returns c =
    let s = c.self.inside in
    rw (← c.self.view_is, ← c.word_at-name.ensures, c.new.ensures)
    (elim c.else-k-lt2147483648.branch [
      | else-k-lt2147483648-via-then-k-lt2147483648+else-k-word_at w ↦
          element_past (table_of s.words.now s.site.tokens (length s.sizes.now)) _ _ c.args.i.n _ _ c.encode-k.ensures (search rules) w.if-k-lt2147483648.true w.word_at.ensures w.if-k-word_at.false c.place_at.ensures
      | else-k-lt2147483648-via-else-k-lt2147483648 w ↦
          element_negative (table_of s.words.now s.site.tokens (length s.sizes.now)) _ _ c.args.i.n _ _ c.encode-k.ensures (search rules) w.if-k-lt2147483648.false c.place_at.ensures
    ])
