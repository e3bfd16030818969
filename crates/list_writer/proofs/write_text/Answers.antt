use Rattle.list_writer.proofs.WritingLaws.{too_short, fits_room}
use Rattle.list_writer.proofs.write_text.Goals as goal

pub returns-then-room-length : goal.returns-then-room-length
returns-then-room-length c = too_short _ _ c.text_length-length.ensures c.if-room-length.true c.new.ensures

pub returns : goal.returns
returns c =
    fits_room c.text_length-length.ensures c.if-room-length.false c.put_list.ensures
