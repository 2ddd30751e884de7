use Rattle.std.proofs.Common.{refl}
use Rattle.proto_requests.proofs.KnownPipes.{full_knows, full_free}
use Rattle.proto_reqrep.proofs.WorkLeft.{less_free, count_most}
use Rattle.proto_requests.specs.Ports.{marked}
use Rattle.sp_history.specs.Past.{ups}
use Rattle.sp_history.specs.Moments.{past}
use Rattle.proto_reqrep.proofs.RequestsDue.{seen_mapped}
use Rattle.proto_reqrep.proofs.req.RequestProto.full.Goals as goal

pub returns-clause-full : goal.returns-clause-full
returns-clause-full c = λ t l h. (h.0, full_knows c.mark.new.self.items c.args.self.now.ports.items t c.args.p l h.1 c.mark.ensures, h.2, h.3, h.4, (seen_mapped c.args.self.now (ups (past t)) (marked c.args.p) c.mark.new.self.items (λ x. refl) c.mark.ensures h.5.0, h.5.1))

pub returns-clause-left : goal.returns-clause-left
returns-clause-left c =
    λ t op s b l h k. less_free _ _ _ _ _ _ (full_free c.mark.new.self.items c.args.self.now.ports.items t c.args.p h.1 c.mark.ensures k.not_full k.is_up) (count_most _ c.args.self.now.live.items)

pub returns-clause-left_again : goal.returns-clause-left_again
returns-clause-left_again c =
    λ t d r l h k. less_free _ _ _ _ _ _ (full_free c.mark.new.self.items c.args.self.now.ports.items t c.args.p h.1 c.mark.ensures k.not_full k.is_up) (count_most _ c.args.self.now.live.items)
