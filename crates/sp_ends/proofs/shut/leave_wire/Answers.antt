-- A wire is shut, and its link is what is left.
use Rattle.std.proofs.Common.{◌≡◌, ap, refl, sym, ◌∙◌, Option, Some, None}
use Rattle.sp_base.specs.Views.{LinkView}
use Rattle.sp_links.specs.declared.wire.EndWire.{EndWire}
use Rattle.sp_links.specs.declared.wire.EndWire.TheVariants as wires
use Rattle.sp_links.specs.EndWires.{link_of, Shuts, IsLinkUnder}
use Rattle.sp_ends.specs.ShutWires.{IsSeenAs, MayDrain, TellsEnd, shut_under}
use Rattle.sp_ends.proofs.shut.leave_wire.Goals as goal

shuts_link : {L : Type 0} (old new : EndWire L) → Shuts old new → link_of new ≡ shut_under (link_of old)
shuts_link (wires.Tcp v) (wires.Tcp w) x = ap Some x
shuts_link (wires.Tcp v) (wires.Ws w) x = absurd x
shuts_link (wires.Tcp v) (wires.Lane w) x = absurd x
shuts_link (wires.Ws v) (wires.Tcp w) x = absurd x
shuts_link (wires.Ws v) (wires.Ws w) x = ap Some x.0
shuts_link (wires.Ws v) (wires.Lane w) x = absurd x
shuts_link (wires.Lane v) (wires.Tcp w) x = absurd x
shuts_link (wires.Lane v) (wires.Ws w) x = absurd x
shuts_link (wires.Lane v) (wires.Lane w) x = refl

seen_as : {L : Type 0} (seen : L → LinkView) (w : EndWire L) (link : Option L) (o : Option LinkView) → link_of w ≡ o → IsLinkUnder seen w link → IsSeenAs seen link o
seen_as seen w (Some l) o e x = sym e ∙ x
seen_as seen w None o e x = sym e ∙ x

may_drain : {L : Type 0} (old new : EndWire L) → Shuts old new → MayDrain new
may_drain (wires.Tcp v) (wires.Tcp w) x = tt
may_drain (wires.Tcp v) (wires.Ws w) x = absurd x
may_drain (wires.Tcp v) (wires.Lane w) x = absurd x
may_drain (wires.Ws v) (wires.Tcp w) x = absurd x
may_drain (wires.Ws v) (wires.Ws w) x = tt
may_drain (wires.Ws v) (wires.Lane w) x = absurd x
may_drain (wires.Lane v) (wires.Tcp w) x = absurd x
may_drain (wires.Lane v) (wires.Ws w) x = absurd x
may_drain (wires.Lane v) (wires.Lane w) x = x.0

-- the link stays
told_link : {L : Type 0} (old new : EndWire L) → TellsEnd old new → link_of new ≡ link_of old
told_link (wires.Tcp v) new x = ap link_of x
told_link (wires.Ws v) new x = ap link_of x
told_link (wires.Lane v) (wires.Lane w) x = refl
told_link (wires.Lane v) (wires.Tcp w) x = absurd x
told_link (wires.Lane v) (wires.Ws w) x = absurd x

pub tell_end-requires : goal.tell_end-requires
tell_end-requires g c = may_drain c.args.wire c.shut.new.self c.shut.ensures.shuts

pub returns : goal.returns
returns g c =
    let same = shuts_link c.args.wire c.shut.new.self c.shut.ensures.shuts in
    record {
      link_is = seen_as g.L.Link.seen c.tell_end.result c.into_link.result _ (told_link c.shut.new.self c.tell_end.result c.tell_end.ensures ∙ same) c.into_link.ensures.link;
      shut = record { shut = c.shut.new.self; after = c.shut.ensures.after; over = same; stands = c.shut.ensures.stands; lanes = c.shut.ensures.lanes };
    }
