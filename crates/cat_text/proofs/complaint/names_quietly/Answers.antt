use Rattle.cat_text.proofs.Quiet.{feeds, quiet}
use Rattle.cat_text.proofs.complaint.names_quietly.Goals as goal

pub returns : goal.returns
returns c = record {
  line = λ word. feeds word;
  quiet = λ word h. quiet word h;
}
