use Rattle.std.proofs.Common.{refl}
use Rattle.sp_core.proofs.owner.Core.note_down.Goals as goal

pub returns : goal.returns
returns g c = record {
  proto = c.down.ensures.down;
  tally = λ t why h. c.down-2.ensures t c.args.p why h;
  op_words = refl;
  operations = refl;
  pipes = refl;
  closed = refl;
  has_room = c.down.ensures.room;
  has_copies = c.down.ensures.copies;
  less_to_send = c.down.ensures.left;
  less_again = c.down.ensures.left_again;
  no_more = c.down.ensures.left_flood;
}
