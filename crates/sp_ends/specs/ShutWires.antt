-- Wires that are shut, and the links of them that a net has back.
use Rattle.std.specs.Prelude.{◌≡◌, ◌<◌, ℕ, ⊤, true, false, List, [], ◌∷◌, Option, Some, None}
use Rattle.std.specs.List.{AllByRecursion}
use Rattle.std.specs.FinMap.{insert, FinMap}
use Rattle.sp_base.specs.Views.{LinkView, NetView}
use Rattle.sp_ends.specs.declared.newcomer.Newcomer.{Newcomer}
use Rattle.sp_msg.specs.Wires.{AfterShut}
use Rattle.sp_links.specs.declared.wire.EndWire.{EndWire}
use Rattle.sp_links.specs.declared.wire.EndWire.TheVariants as wires
use Rattle.sp_lane.specs.LaneWires.{LaneWireView, LaneFlushed}
use Rattle.sp_msg.specs.declared.wire.WireFlush.{WireFlush}
use Rattle.sp_links.specs.EndWires.{shown, link_of, Stands, IsOverLanes}
use Rattle.sp_ends.specs.RunLinks.{SameCounts}
use Rattle.std.specs.Ordering.{nat_cmp}
use Rattle.core_state.specs.declared.pipes.DownPipe.{DownPipe}

-- what the link shows when it is shut
abbrev pub shut_link : LinkView → LinkView
shut_link link = record link { is_open = false }

abbrev pub shut_under : Option LinkView → Option LinkView
shut_under None = None
shut_under (Some link) = Some (shut_link link)

-- the wire can be shut: what it shows stays, except that it is shut, and so is its link; and it is tied to that
pub record IsShutAs {L : Type 0} (wire : EndWire L) (link : Option LinkView) : Type 0 where
  pub shut : EndWire L
  pub after : AfterShut (shown wire) (shown shut)
  pub over : link_of shut ≡ link
  pub stands : Stands shut
  pub lanes : IsOverLanes shut

-- the link that was under a wire, shut; or it had none
abbrev pub IsSeenAs : {L : Type 0} → (L → LinkView) → Option L → Option LinkView → Type 0
IsSeenAs seen None link = link ≡ None
IsSeenAs seen (Some l) link = link ≡ Some (seen l)

-- a wire within the process may tell its end
abbrev pub MayDrain : {L : Type 0} → EndWire L → Type 0
MayDrain (wires.Tcp v) = ⊤
MayDrain (wires.Ws v) = ⊤
MayDrain (wires.Lane v) = v.wire.drains ≡ true

-- a lane put what was in hand and its end, if there was room
abbrev pub HangsUp : LaneWireView → LaneWireView → Type 0
HangsUp old new = (returned : WireFlush) × LaneFlushed returned old new

-- a wire within the process told its end; any other is the same
abbrev pub TellsEnd : {L : Type 0} → EndWire L → EndWire L → Type 0
TellsEnd (wires.Tcp v) new = new ≡ wires.Tcp v
TellsEnd (wires.Ws v) new = new ≡ wires.Ws v
TellsEnd (wires.Lane v) (wires.Lane w) = HangsUp v w
TellsEnd (wires.Lane v) _ = ⊥

pub record IsLeftOf {L : Type 0} (seen : L → LinkView) (wire : EndWire L) (link : Option L) : Type 0 where
  pub link_is : IsSeenAs seen link (shut_under (link_of wire))
  pub shut : IsShutAs wire (shut_under (link_of wire))

-- ---- What is back

-- the links with which a net has these newcomers back, each shut
abbrev pub with_links : {L : Type 0} → (L → LinkView) → FinMap nat_cmp LinkView → List (Newcomer L) → FinMap nat_cmp LinkView
with_links seen back [] = back
with_links seen back (n ∷ ns) = with_links seen (insert back (seen n.opening.link).place (shut_link (seen n.opening.link))) ns

-- with a link, if there is one, that is shut
abbrev pub with_link : FinMap nat_cmp LinkView → Option LinkView → FinMap nat_cmp LinkView
with_link back None = back
with_link back (Some link) = insert back link.place (shut_link link)

-- the links with which it has the links of these wires back, each shut
abbrev pub with_wires : {L : Type 0} → FinMap nat_cmp LinkView → List (DownPipe (EndWire L)) → FinMap nat_cmp LinkView
with_wires back [] = back
with_wires back (x ∷ xs) = with_link (with_wires back xs) (link_of x.wire)

-- the wire can be shut, and its link with it
abbrev pub CanShut : {L : Type 0} → EndWire L → Type 0
CanShut w = IsShutAs w (shut_under (link_of w))

-- the link, if there is one, is among the first `opened` that a net handed out
abbrev pub IsBelow : ℕ → Option LinkView → Type 0
IsBelow opened None = ⊤
IsBelow opened (Some link) = link.place < opened

-- the links of the wires are among the first `opened` that a net handed out
abbrev pub AreHandedOut : {L : Type 0} → ℕ → List (DownPipe (EndWire L)) → Type 0
AreHandedOut opened ws = AllByRecursion (λ x. CanShut x.wire → IsBelow opened (link_of x.wire)) ws

-- the links of the wires are back
pub record WiresBack {L : Type 0} (ws : List (DownPipe (EndWire L))) (old new : NetView) : Type 0 where
  pub back : new.back ≡ with_wires old.back ws
  pub counts : SameCounts old new
  pub shut : AllByRecursion (λ x. CanShut x.wire) ws
