use Rattle.std.proofs.Common.{◌≡◌, ◌∙◌, sym, ap, subst, None, find, false}
use Rattle.std.specs.List.{list_any}
use Rattle.sp_base.specs.declared.OpName.{OpName}
use Rattle.sp_history.specs.declared.entry.Cause.TheVariants as causes
use Rattle.sp_history.specs.Past.{ups}
use Rattle.sp_history.specs.Moments.{past}
use Rattle.sp_proto.specs.Machines.{CanFinish}
use Rattle.proto_reqrep.specs.declared.req.Asking.{Asking}
use Rattle.proto_reqrep.specs.declared.req.Request.{Request as Machine}
use Rattle.proto_reqrep.specs.Reqs.{gets, Ties, IsOut, IsNextPipe, chosen_port, roomy_of, begun_of}
use Rattle.proto_reqrep.proofs.Offering.{can_finish, gift_offered, ties_ready, ties_dues, is_next, out_right, idle_full}
use Rattle.proto_reqrep.proofs.req.RequestProto.offer.Goals as goal

pub returns-in-Some-clause-offered : goal.returns-in-Some-clause-offered
returns-in-Some-clause-offered c =
    λ t l q h.
    let m = c.args.self.now in
    let g = c.in-Some.ensures.over in
    (begun_of g.1, subst (λ (op : OpName). CanFinish t op (begun_of g.1) causes.Superseded) g.4 (can_finish m t g.0 g.1 h g.2 g.3))

pub returns-in-Some-next_give-clause-offered : goal.returns-in-Some-next_give-clause-offered
returns-in-Some-next_give-clause-offered c =
    λ t l q h.
    let a = c.next_left.new.self in
    let ha : Ties a t = subst (λ (x : Machine). Ties x t) (sym c.next_left.ensures.same) h in
    let none : list_any (λ (v : Asking). v.is_orphan) a.waiting.items ≡ false = subst (λ (x : Machine). list_any (λ (v : Asking). v.is_orphan) x.waiting.items ≡ false) (sym c.next_left.ensures.same) c.in_default.ensures.none in
    gift_offered a t c.in-Some-next_give.op ha none c.in-Some-next_give.ensures.given

pub returns-in-None-clause-offered : goal.returns-in-None-clause-offered
returns-in-None-clause-offered c =
    λ t l q h.
    let a = c.next_left.new.self in
    let ha : Ties a t = subst (λ (x : Machine). Ties x t) (sym c.next_left.ensures.same) h in
    let none : list_any (λ (v : Asking). v.is_orphan) a.waiting.items ≡ false = subst (λ (x : Machine). list_any (λ (v : Asking). v.is_orphan) x.waiting.items ≡ false) (sym c.next_left.ensures.same) c.in_default.ensures.none in
    idle_full a t ha none (c.in_default-next_give.ensures.none ha.5.1) (c.in-None.ensures.port ∙ ap (λ (x : Machine). chosen_port x) c.next_give.ensures.same)

pub returns-in-Some-next_port-clause-same : goal.returns-in-Some-next_port-clause-same
returns-in-Some-next_port-clause-same c =
    λ t h.
    let m = c.args.self.now in
    let a = c.next_left.new.self in
    let b = c.next_give.new.self in
    let d = c.next_port.new.self in
    let ha : Ties a t = subst (λ (x : Machine). Ties x t) (sym c.next_left.ensures.same) h in
    let hb : Ties b t = ties_ready a b t c.next_give.ensures.same c.next_give.ensures.ready ha in
    let hd : Ties d t = subst (λ (x : Machine). Ties x t) (sym c.next_port.ensures.same) hb in
    ties_dues d c.next_out.new.self t c.next_out.ensures.same (c.next_out.ensures.seen (ups (past t)) hd.3.places) hd

pub returns-in-Some-next_port-clause-offered : goal.returns-in-Some-next_port-clause-offered
returns-in-Some-next_port-clause-offered c =
    λ t l q h.
    let m = c.args.self.now in
    let a = c.next_left.new.self in
    let b = c.next_give.new.self in
    let d = c.next_port.new.self in
    let ha : Ties a t = subst (λ (x : Machine). Ties x t) (sym c.next_left.ensures.same) h in
    let hb : Ties b t = ties_ready a b t c.next_give.ensures.same c.next_give.ensures.ready ha in
    let hd : Ties d t = subst (λ (x : Machine). Ties x t) (sym c.next_port.ensures.same) hb in
    let port = c.in-Some-next_port.ensures.port ∙ sym (ap (λ (x : Machine). chosen_port x) c.next_port.ensures.same) in
    let it : IsOut d c.in-Some-next_port.pipe c.next_out.result = c.next_out.ensures.offer (ups (past t)) hd.3.places hd.5.0 in
    let none : list_any (λ (v : Asking). v.is_orphan) d.waiting.items ≡ false = subst (λ (x : Machine). list_any (λ (v : Asking). v.is_orphan) x.waiting.items ≡ false) (sym c.next_port.ensures.same) (subst (λ (x : Machine). list_any (λ (v : Asking). v.is_orphan) x.waiting.items ≡ false) (sym c.next_give.ensures.same) (subst (λ (x : Machine). list_any (λ (v : Asking). v.is_orphan) x.waiting.items ≡ false) (sym c.next_left.ensures.same) c.in_default.ensures.none)) in
    let idle : find (gets d) d.waiting.items ≡ None = subst (λ (x : Machine). find (gets x) x.waiting.items ≡ None) (sym c.next_port.ensures.same) (subst (λ (x : Machine). find (gets x) x.waiting.items ≡ None) (sym c.next_give.ensures.same) (c.in_default-next_give.ensures.none ha.5.1)) in
    out_right d t c.in-Some-next_port.pipe c.next_out.result hd none idle port it

pub returns-in-Some-next_port-clause-copies : goal.returns-in-Some-next_port-clause-copies
returns-in-Some-next_port-clause-copies c =
    λ op e t l q h.
    let m = c.args.self.now in
    let a = c.next_left.new.self in
    let b = c.next_give.new.self in
    let d = c.next_port.new.self in
    let ha : Ties a t = subst (λ (x : Machine). Ties x t) (sym c.next_left.ensures.same) h in
    let hb : Ties b t = ties_ready a b t c.next_give.ensures.same c.next_give.ensures.ready ha in
    let hd : Ties d t = subst (λ (x : Machine). Ties x t) (sym c.next_port.ensures.same) hb in
    let it : IsOut d c.in-Some-next_port.pipe c.next_out.result = c.next_out.ensures.offer (ups (past t)) hd.3.places hd.5.0 in
    absurd (subst (IsOut d c.in-Some-next_port.pipe) e it)

pub returns-in-Some-next_port-clause-next : goal.returns-in-Some-next_port-clause-next
returns-in-Some-next_port-clause-next c =
    λ op p e t h.
    let m = c.args.self.now in
    let a = c.next_left.new.self in
    let b = c.next_give.new.self in
    let d = c.next_port.new.self in
    let ha : Ties a t = subst (λ (x : Machine). Ties x t) (sym c.next_left.ensures.same) h in
    let hb : Ties b t = ties_ready a b t c.next_give.ensures.same c.next_give.ensures.ready ha in
    let hd : Ties d t = subst (λ (x : Machine). Ties x t) (sym c.next_port.ensures.same) hb in
    let port = c.in-Some-next_port.ensures.port ∙ sym (ap (λ (x : Machine). chosen_port x) c.next_port.ensures.same) in
    let it : IsOut d c.in-Some-next_port.pipe c.next_out.result = c.next_out.ensures.offer (ups (past t)) hd.3.places hd.5.0 in
    let k = subst (IsOut d c.in-Some-next_port.pipe) e it in
    subst (λ (x : Machine). IsNextPipe (roomy_of x) t p) c.next_left.ensures.same (subst (λ (x : Machine). IsNextPipe (roomy_of x) t p) c.next_give.ensures.same (subst (λ (x : Machine). IsNextPipe (roomy_of x) t p) c.next_port.ensures.same (subst (IsNextPipe (roomy_of d) t) k.3 (is_next d t c.in-Some-next_port.pipe hd port))))

pub returns-in-Some-next_port-clause-resend : goal.returns-in-Some-next_port-clause-resend
returns-in-Some-next_port-clause-resend c =
    λ x p e t h.
    let m = c.args.self.now in
    let a = c.next_left.new.self in
    let b = c.next_give.new.self in
    let d = c.next_port.new.self in
    let ha : Ties a t = subst (λ (x : Machine). Ties x t) (sym c.next_left.ensures.same) h in
    let hb : Ties b t = ties_ready a b t c.next_give.ensures.same c.next_give.ensures.ready ha in
    let hd : Ties d t = subst (λ (x : Machine). Ties x t) (sym c.next_port.ensures.same) hb in
    let port = c.in-Some-next_port.ensures.port ∙ sym (ap (λ (x : Machine). chosen_port x) c.next_port.ensures.same) in
    let it : IsOut d c.in-Some-next_port.pipe c.next_out.result = c.next_out.ensures.offer (ups (past t)) hd.3.places hd.5.0 in
    let k = subst (IsOut d c.in-Some-next_port.pipe) e it in
    subst (λ (x : Machine). IsNextPipe (roomy_of x) t p) c.next_left.ensures.same (subst (λ (x : Machine). IsNextPipe (roomy_of x) t p) c.next_give.ensures.same (subst (λ (x : Machine). IsNextPipe (roomy_of x) t p) c.next_port.ensures.same (subst (IsNextPipe (roomy_of d) t) k.1 (is_next d t c.in-Some-next_port.pipe hd port))))
