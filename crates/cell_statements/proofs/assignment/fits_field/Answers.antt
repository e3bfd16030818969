use lib.ListN.{length}
use Rattle.cell_meaning.specs.Links.{table_of}
use Rattle.cell_statements.proofs.AssignmentLaws.{fits_known, fits_none}
use Rattle.cell_statements.proofs.assignment.fits_field.Goals as goal

pub returns-then-which-scene : goal.returns-then-which-scene
returns-then-which-scene c =
    let s = c.scene.inside in
    rw (← c.scene.view_is) (fits_known (table_of s.words.now s.site.tokens (length s.sizes.now)) s.site.base s.site.fields c.args.which c.args.v.n
    c.if-which-scene.true (rw (← c.scene.view_is) at c.word.ensures) c.decode-low.ensures
    (rw (← c.scene.view_is) at c.word-then-which-scene.ensures) c.decode.ensures c.within.ensures)

pub returns : goal.returns
returns c =
    let s = c.scene.inside in
    rw (← c.scene.view_is) (fits_none (table_of s.words.now s.site.tokens (length s.sizes.now)) s.site.base s.site.fields c.args.which c.args.v.n
    c.if-which-scene.false c.within-2.ensures)
