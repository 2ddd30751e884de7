use Rattle.std.proofs.Common.{refl}
use Rattle.sp_core.proofs.owner.Core.note_full.Goals as goal

pub returns : goal.returns
returns g c = record {
  proto = λ t x. c.full.ensures.full t;
  tally = λ t x h. c.full-2.ensures t c.args.p h;
  op_words = refl;
  operations = refl;
  pipes = refl;
  closed = refl;
  has_room = c.full.ensures.room;
  has_copies = c.full.ensures.copies;
  less_to_send = c.full.ensures.left;
  less_again = c.full.ensures.left_again;
  no_more = c.full.ensures.left_flood;
}
