use Rattle.std.proofs.Common.{◌∙◌, ap}
use Rattle.std.specs.Prelude.{not}
use Rattle.std.specs.Option.{option_map}
use Rattle.proto_requests.proofs.KnownOperations.{both_true}
use Rattle.proto_reqrep.specs.declared.req.Asking.{Asking}
use Rattle.proto_reqrep.specs.Reqs.{gets, is_sending}
use Rattle.proto_reqrep.proofs.Hinted.{ready_idle}
use Rattle.proto_reqrep.proofs.Offering.{found_gift, no_gift, no_answers}
use Rattle.proto_reqrep.proofs.req.Request.search_give.Goals as goal

pub returns-in-None-clause-none : goal.returns-in-None-clause-none
returns-in-None-clause-none c = λ r.
    let m = c.args.self.now in
    no_gift m (c.in-None.ensures (gets m) c.give_place.ensures ∙ ap (option_map (λ (w : Asking). w.op)) (c.receives-list.ensures (gets m) (λ w h. (both_true (not (is_sending w)) _ h).0)))

pub returns-in-None-clause-ready : goal.returns-in-None-clause-ready
returns-in-None-clause-ready c = λ r h.
    let m = c.args.self.now in
    ready_idle c.clear.new.self m.live.items m.waiting.items (no_answers m r (no_gift m (c.in-None.ensures (gets m) c.give_place.ensures ∙ ap (option_map (λ (w : Asking). w.op)) (c.receives-list.ensures (gets m) (λ w h. (both_true (not (is_sending w)) _ h).0)))))

pub returns-in-Some-clause-given : goal.returns-in-Some-clause-given
returns-in-Some-clause-given c =
    let m = c.args.self.now in
    found_gift m c.in-Some.op (c.in-Some.ensures (gets m) c.give_place.ensures ∙ ap (option_map (λ (w : Asking). w.op)) (c.receives-list.ensures (gets m) (λ w h. (both_true (not (is_sending w)) _ h).0)))
