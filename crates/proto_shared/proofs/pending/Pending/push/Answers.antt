use Rattle.std.proofs.Common.{◌++◌, ◌∷◌, [], None, Some, refl, sym, subst, arith}
use Rattle.sp_proto.specs.Kinds.{entry_act}
use Rattle.sp_proto.specs.declared.Act.{Act}
use Rattle.proto_shared.specs.declared.pending.Pending.{Pending}
use Rattle.proto_shared.specs.declared.pending.Waiting.{Waiting}
use Rattle.proto_shared.specs.Waits.{Holds}
use Rattle.proto_shared.proofs.Waiters.{receive_begins, send_begins}
use Rattle.proto_shared.proofs.pending.Pending.push.Goals as goal

pub returns-in-Recv-clause-begun : goal.returns-in-Recv-clause-begun
returns-in-Recv-clause-begun c =
    λ ss free h.
    let was = c.args.self.now in
    let is : Pending = record { receives = c.push_back_reserved.new.self; sends = was.sends } in
    let w : Waiting = record { op = c.args.op; ctx = c.args.ctx; message = None } in
    let begun = receive_begins was is ss w h free refl c.push_back_reserved.ensures.items c.push_back_reserved.ensures.len c.push_back_reserved.ensures.capacity refl (omega (arith, c.requires)) (omega (arith, c.requires)) in
    subst (λ (a : Act). Holds is (ss ++ record { op = c.args.op; ctx = c.args.ctx; act = entry_act a } ∷ [])) (sym c.in-Recv.is) begun

pub returns-in-Send-clause-begun : goal.returns-in-Send-clause-begun
returns-in-Send-clause-begun c =
    λ ss free h.
    let was = c.args.self.now in
    let is : Pending = record { receives = was.receives; sends = c.push_back_reserved-in-Send.new.self } in
    let w : Waiting = record { op = c.args.op; ctx = c.args.ctx; message = Some c.in-Send.m } in
    let begun = send_begins was is ss w h free c.in-Send.m refl c.push_back_reserved-in-Send.ensures.items c.push_back_reserved-in-Send.ensures.len c.push_back_reserved-in-Send.ensures.capacity refl (omega (arith, c.requires)) (omega (arith, c.requires)) in
    subst (λ (a : Act). Holds is (ss ++ record { op = c.args.op; ctx = c.args.ctx; act = entry_act a } ∷ [])) (sym c.in-Send.is) begun
