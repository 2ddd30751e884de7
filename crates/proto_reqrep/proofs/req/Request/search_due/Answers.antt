use Rattle.std.proofs.Common.{◌≡◌, ◌∙◌, ap, sym, subst, false, List}
use Rattle.std.specs.Prelude.{find}
use Rattle.std.specs.List.{list_any}
use Rattle.std.specs.Option.{option_map}
use Rattle.proto_requests.proofs.Spotted.{unmapped}
use Rattle.proto_live_requests.specs.declared.live.Live.{Live}
use Rattle.proto_live_requests.specs.Dues.{DuesView, AreSeen}
use Rattle.proto_live_requests.specs.LiveRequests.{live_ctx}
use Rattle.proto_reqrep.specs.Reqs.{due_in, late_in, dry_in}
use Rattle.proto_reqrep.proofs.Offering.{none_any}
use Rattle.proto_reqrep.proofs.RequestsDue.{none_searched}
use Rattle.proto_reqrep.proofs.req.Request.search_due.Goals as goal

pub returns-in-None-clause-none : goal.returns-in-None-clause-none
returns-in-None-clause-none c =
    let m = c.args.self.now in
    let found = c.in-None.ensures (due_in m) c.due_among.ensures ∙ ap (λ (l : List Live). option_map live_ctx (find (due_in m) l)) c.spots-list.ensures in
    none_any (due_in m) m.live.items (unmapped live_ctx (find (due_in m) m.live.items) found)

pub returns-in-None-clause-seen : goal.returns-in-None-clause-seen
returns-in-None-clause-seen c = λ last h.
    let m = c.args.self.now in
    let found = c.in-None.ensures (due_in m) c.due_among.ensures ∙ ap (λ (l : List Live). option_map live_ctx (find (due_in m) l)) c.spots-list.ensures in
    let none : list_any (due_in m) m.live.items ≡ false = none_any (due_in m) m.live.items (unmapped live_ctx (find (due_in m) m.live.items) found) in
    subst (λ (v : DuesView). AreSeen v (late_in m) (dry_in m) last m.live.items) (sym c.clear_due.ensures) (none_searched m last none h)
