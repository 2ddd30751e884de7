-- What a wire of one of the transports shows, and what its calls do: as the wire inside.
use Rattle.std.specs.Prelude.{◌≡◌, ◌++◌, ◌∷◌, [], ℕ, List, drop, true, ⊤, Option, Some, None}
use Rattle.sp_base.specs.Views.{LinkView}
use Rattle.sp_base.specs.Steps.{AfterShut as LinkShut}
use Rattle.sp_msg.specs.Views.{MessageView, WireView, OverLanes, wire_text}
use Rattle.sp_msg.specs.declared.wire.WireIn.{WireIn}
use Rattle.sp_msg.specs.declared.wire.Room.{Room}
use Rattle.sp_msg.specs.declared.wire.WireFlush.{WireFlush}
use Rattle.sp_base.specs.declared.framing.Framing.{Framing}
use Rattle.sp_base.specs.declared.role.Role.{Role}
use Rattle.sp_tcp.specs.TcpWires.{Framed, IsNewWire as IsNewTcp, TcpPulled, TcpWrote, RoomCause as TcpRoom, FlushCause as TcpFlush}
use Rattle.sp_ws.specs.Wires.{IsNewWire as IsNewWs, WsPulled, WsWrote, RoomCause as WsRoom, FlushCause as WsFlush}
use Rattle.sp_ws.specs.declared.side.Side.{Side}
use Rattle.sp_lane.specs.LaneWires.{LanePulled, LaneRoomed, LaneFlushed, SameLanes}
use Rattle.sp_links.specs.declared.way.Way.{Way}
use Rattle.sp_links.specs.declared.opening.Opening.{Opening}
use Rattle.sp_links.specs.Opened.{IsOpenedOver, IsSameWay, side_of, framed_by}
use Rattle.sp_links.specs.declared.wire.EndWire.{EndWire}
use Rattle.sp_links.specs.declared.wire.EndWire.TheVariants as wires

-- what it shows
abbrev pub shown : {L : Type 0} → EndWire L → WireView
shown (wires.Tcp v) = v.wire
shown (wires.Ws v) = v.wire
shown (wires.Lane v) = v.wire

-- what its link shows; a wire within the process has none
abbrev pub link_of : {L : Type 0} → EndWire L → Option LinkView
link_of (wires.Tcp v) = Some v.link
link_of (wires.Ws v) = Some v.ws.link
link_of (wires.Lane v) = None

-- what ties it to its link, at every moment
abbrev pub Stands : {L : Type 0} → EndWire L → Type 0
Stands (wires.Tcp v) = Framed v
Stands (wires.Ws v) = IsOpenedOver v
Stands (wires.Lane v) = ⊤

-- a wire within the process has the name of its lanes
abbrev pub IsOverLanes : {L : Type 0} → EndWire L → Type 0
IsOverLanes (wires.Tcp v) = ⊤
IsOverLanes (wires.Ws v) = ⊤
IsOverLanes (wires.Lane v) = v.wire.name ≡ OverLanes v.out.name v.inp.name

-- the link that was under the wire, if it had one
abbrev pub IsLinkUnder : {L : Type 0} → (L → LinkView) → EndWire L → Option L → Type 0
IsLinkUnder seen w (Some link) = link_of w ≡ Some (seen link)
IsLinkUnder seen w None = link_of w ≡ None

-- ---- calls; a wire keeps its transport

abbrev pub Pulled : {L : Type 0} → WireIn → EndWire L → EndWire L → Type 0
Pulled returned (wires.Tcp old) (wires.Tcp new) = TcpPulled returned old new
Pulled returned (wires.Ws old) (wires.Ws new) = WsPulled returned old.ws new.ws × IsSameWay old new
Pulled returned (wires.Lane old) (wires.Lane new) = LanePulled returned old new
Pulled returned _ _ = ⊥

abbrev pub Roomed : {L : Type 0} → Room → EndWire L → EndWire L → Type 0
Roomed returned (wires.Tcp old) (wires.Tcp new) = TcpRoom returned old new × TcpWrote old new
Roomed returned (wires.Ws old) (wires.Ws new) = WsRoom returned old.ws new.ws × WsWrote old.ws new.ws × IsSameWay old new
Roomed returned (wires.Lane old) (wires.Lane new) = LaneRoomed returned old new
Roomed returned _ _ = ⊥

abbrev pub Flushed : {L : Type 0} → WireFlush → EndWire L → EndWire L → Type 0
Flushed returned (wires.Tcp old) (wires.Tcp new) = TcpFlush returned old new × TcpWrote old new
Flushed returned (wires.Ws old) (wires.Ws new) = WsFlush returned old.ws new.ws × WsWrote old.ws new.ws × IsSameWay old new
Flushed returned (wires.Lane old) (wires.Lane new) = LaneFlushed returned old new
Flushed returned _ _ = ⊥

-- the link and what it carries stay; the message is kept
abbrev pub Puts : {L : Type 0} → MessageView → EndWire L → EndWire L → Type 0
Puts m (wires.Tcp old) (wires.Tcp new) = new.link ≡ old.link
Puts m (wires.Ws old) (wires.Ws new) =
    (new.ws.link ≡ old.ws.link) × (new.ws.frames ≡ old.ws.frames) × (new.ws.outlet.held ≡ old.ws.outlet.held ++ wire_text m ∷ []) × IsSameWay old new
Puts m (wires.Lane old) (wires.Lane new) = (new.hand ≡ Some m) × SameLanes old new
Puts m _ _ = ⊥

-- its link is shut; a wire within the process still drains
abbrev pub Shuts : {L : Type 0} → EndWire L → EndWire L → Type 0
Shuts (wires.Tcp old) (wires.Tcp new) = LinkShut old.link new.link
Shuts (wires.Ws old) (wires.Ws new) = LinkShut old.ws.link new.ws.link × (new.ws.frames ≡ old.ws.frames) × IsSameWay old new
Shuts (wires.Lane old) (wires.Lane new) = (new.wire.drains ≡ true) × (new.hand ≡ old.hand) × SameLanes old new
Shuts _ _ = ⊥

-- ---- a new one

abbrev pub IsNewTcpOver : {L : Type 0} → Framing → ℕ → LinkView → EndWire L → Type 0
IsNewTcpOver framing max link (wires.Tcp v) = IsNewTcp framing max link v
IsNewTcpOver framing max link _ = ⊥

abbrev pub IsNewWsOver : {L : Type 0} → Side → ℕ → List ℕ → Role → Way → LinkView → EndWire L → Type 0
IsNewWsOver side max rest role way link (wires.Ws v) = IsNewWs side max rest link v.ws × (v.role ≡ role) × (v.way ≡ way) × IsOpenedOver v
IsNewWsOver side max rest role way link _ = ⊥

-- by its transport
abbrev pub IsNewBy : {L : Type 0} → Option Side → ℕ → List ℕ → Role → Way → LinkView → EndWire L → Type 0
IsNewBy None max rest role way link w = IsNewTcpOver (framed_by way) max link w
IsNewBy (Some side) max rest role way link w = IsNewWsOver side max rest role way link w

abbrev pub behind : Option ℕ → List ℕ → List ℕ
behind None came = []
behind (Some used) came = drop used came

abbrev pub IsNewOver : {L : Type 0} → (L → LinkView) → ℕ → Opening L → EndWire L → Type 0
IsNewOver seen max n w = IsNewBy (side_of n.way) max (behind n.used n.came) n.role n.way (seen n.link) w
