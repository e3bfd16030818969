use Rattle.run_admission.proofs.Results.{passed}
use Rattle.list_writer.proofs.WritingLaws.{loaded_refused, loaded_written, read_loaded}
use Rattle.list_writer.proofs.write_loaded.Goals as goal

pub returns-in_err-admit_both : goal.returns-in_err-admit_both
returns-in_err-admit_both c =
    let e = c.in_err-admit_both.was in
    read_loaded c.ranges.time (loaded_refused c.admit_both.ensures _ _ e (passed c.from_residual.ensures.1 e))

pub returns : goal.returns
returns c =
    read_loaded c.ranges.time (loaded_written c.admit_both.ensures _ _ c.in_ok-admit_both.was c.write_text.ensures)
