use Rattle.std.proofs.Common.{◌≡◌, refl, sym, ap, ◌∙◌, Bool, true, false}
use Rattle.std.specs.Prelude.{not}
use Rattle.proto_pair.proofs.Asking.{wants_is}
use Rattle.proto_pair.proofs.PairProto.wants.Goals as goal

twice : (b : Bool) → not (not b) ≡ b
twice true = refl
twice false = refl

pub returns : goal.returns
returns c = λ t l h. sym (ap not c.is_none.ensures ∙ twice c.is_none.result) ∙ wants_is c.args.self.now t c.args.p h
