use Rattle.std.proofs.Common.{◌≡◌, ◌∷◌, List, length, drop, subst, sym, ap, ◌∙◌, arith}
use Rattle.std.proofs.lemmas.List.{length-map}
use Rattle.sp_msg.specs.Views.{MessageView, wire_text}
use Rattle.sp_tcp.specs.Views.{OutletView, WriteStageView}
use Rattle.sp_tcp.specs.Outlets.{SentWithin, WrotePrefix}
use Rattle.sp_tcp.proofs.Gathers.{first_of, first_within, gathers_some, not_empty}
use Rattle.sp_tcp.proofs.Writes.{wrote_long, wrote_gathered}
use Rattle.sp_tcp.proofs.outlet.Outlet.write_prefix.Goals as goal

pub returns-then-not-is_empty-clause-wrote : goal.returns-then-not-is_empty-clause-wrote
returns-then-not-is_empty-clause-wrote g c =
    let items : List MessageView = c.self.inside.waiting.items in
    let m : MessageView = c.in-Some.front.now in
    let seen = g.L.Link.seen in
    let first : items ≡ m ∷ drop 1 items = first_of items m (omega (arith, c.requires.waiting, ap (λ (v : OutletView). length v.waiting) c.self.view_is, length-map items wire_text)) c.in-Some.ensures.lookup in
    subst (λ (o : OutletView). WrotePrefix c.args.mark.now c.write.result o (seen c.args.link.now) (seen c.write.new.self)) c.self.view_is
    (wrote_long c.args.mark.now items m c.self.inside.sent c.size-size.result c.long_rest-rest.result.now c.write.result (seen c.args.link.now) (seen c.write.new.self) first (subst (λ (o : OutletView). SentWithin c.args.mark.now o.sent o.waiting) (sym c.self.view_is) c.requires.within) c.size-size.ensures.size c.size-size.ensures.most c.requires.few c.long_rest-rest.ensures (not_empty (length c.long_rest-rest.result.now) c.is_empty.result c.is_empty.ensures c.if-not-is_empty.true) c.write.ensures)

pub write-requires-2-clause-some : goal.write-requires-2-clause-some
write-requires-2-clause-some g c =
    let items : List MessageView = c.self.inside.waiting.items in
    let m : MessageView = c.in-Some.front.now in
    let first : items ≡ m ∷ drop 1 items = first_of items m (omega (arith, c.requires.waiting, ap (λ (v : OutletView). length v.waiting) c.self.view_is, length-map items wire_text)) c.in-Some.ensures.lookup in
    let is = c.as_slice.ensures.value ∙ ap (λ (s : WriteStageView). s.bytes) c.gather.ensures in
    omega (arith, ap length is, gathers_some c.args.mark.now items m c.self.inside.sent c.self.inside.stage.most first (first_within c.args.mark.now items m c.self.inside.sent first (subst (λ (o : OutletView). SentWithin c.args.mark.now o.sent o.waiting) (sym c.self.view_is) c.requires.within)) c.self.invariant.1)

pub returns-clause-wrote : goal.returns-clause-wrote
returns-clause-wrote g c =
    let items : List MessageView = c.self.inside.waiting.items in
    let m : MessageView = c.in-Some.front.now in
    let seen = g.L.Link.seen in
    let first : items ≡ m ∷ drop 1 items = first_of items m (omega (arith, c.requires.waiting, ap (λ (v : OutletView). length v.waiting) c.self.view_is, length-map items wire_text)) c.in-Some.ensures.lookup in
    let is = c.as_slice.ensures.value ∙ ap (λ (s : WriteStageView). s.bytes) c.gather.ensures in
    subst (λ (o : OutletView). WrotePrefix c.args.mark.now c.write-2.result o (seen c.args.link.now) (seen c.write-2.new.self)) c.self.view_is
    (wrote_gathered c.args.mark.now items m c.self.inside.sent c.size-size.result c.self.inside.stage.most c.as_slice.result.now c.write-2.result (seen c.args.link.now) (seen c.write-2.new.self) first (subst (λ (o : OutletView). SentWithin c.args.mark.now o.sent o.waiting) (sym c.self.view_is) c.requires.within) c.size-size.ensures.size c.size-size.ensures.most c.requires.few c.self.invariant.2 is c.write-2.ensures)
