use Rattle.std.proofs.Common.{replicate, ap, arith, ◌∙◌, refl, sym, add-one}
use Rattle.api_records.specs.Rows.{no_name, rows_of}
use Rattle.api_records.proofs.RowLaws.{filled, next_row, all_rows}
use Rattle.api_records.proofs.rows.rows_of.Goals as goal

pub loop-k-preserved : goal.loop-k-preserved
loop-k-preserved c =
    record {
      made =
          next_row _ c.loop-k.rows c.args.flat.now c.loop-k.k _ c.loop-k-test.true c.loop-k.invariant.made c.row_at.ensures
          ∙ ap (filled (replicate 256 no_name) (rows_of c.args.flat.now)) (sym (add-one c.loop-k.k));
    }

pub returns : goal.returns
returns c = all_rows (replicate 256 no_name) c.loop-k.rows c.args.flat.now c.loop-k.k (omega arith) refl c.loop-k.invariant.made
