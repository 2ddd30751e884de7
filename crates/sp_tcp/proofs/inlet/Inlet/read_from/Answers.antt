use Rattle.std.proofs.Common.{◌≡◌, ◌++◌, ℕ, List, length, take, drop, ap, ◌∙◌, arith}
use Rattle.std.proofs.lemmas.List.{length-take}
use Rattle.sp_tcp.specs.Views.{InletView}
use Rattle.sp_tcp.proofs.Buffers.{part_same, part_grown}
use Rattle.sp_tcp.proofs.inlet.Inlet.read_from.Goals as goal

pub returns-in-Got : goal.returns-in-Got
returns-in-Got g c =
    let r = c.in-Got.ensures.read in
    let s = c.self.inside.buffer.items in
    let s2 : List ℕ = c.read_at-returned.new.buffer.items in
    let f : ℕ = c.self.inside.filled in
    let unread = ap (λ (v : InletView). v.unread) c.self.view_is ∙ c.in_ok-make_room.ensures.same in
    let piece : List ℕ = take c.in-Got.n (drop f s2) in
    let long : length piece ≡ c.in-Got.n = omega (arith, length-take c.in-Got.n (drop f s2), r.shows.1) in (
      (piece, part_grown c.self.inside.taken f c.in-Got.n s s2 c.self.invariant.0 c.in-Got.ensures.prefix ∙ ap (λ t. t ++ piece) unread, omega (arith, r.shows.0), r.shows.2),
      record { faults = r.faults; idles = r.idles; stalls = r.stalls },
      r.shows.3,
    )

pub returns-in-NotYet : goal.returns-in-NotYet
returns-in-NotYet g c =
    let r = c.in-NotYet.ensures.read in
    let unread = ap (λ (v : InletView). v.unread) c.self.view_is ∙ c.in_ok-make_room.ensures.same in
    (part_same c.self.inside.taken c.self.inside.filled c.self.inside.buffer.items c.read_at-returned.new.buffer.items c.self.invariant.0 c.in-NotYet.ensures.prefix ∙ unread, r.shows.0, record { faults = r.faults; idles = r.idles; stalls = r.stalls }, r.shows.1, r.shows.2)

pub returns-in-Ended : goal.returns-in-Ended
returns-in-Ended g c =
    let r = c.in-Ended.ensures.read in
    let unread = ap (λ (v : InletView). v.unread) c.self.view_is ∙ c.in_ok-make_room.ensures.same in
    (part_same c.self.inside.taken c.self.inside.filled c.self.inside.buffer.items c.read_at-returned.new.buffer.items c.self.invariant.0 c.in-Ended.ensures.prefix ∙ unread, r.shows.0, record { faults = r.faults; idles = r.idles; stalls = r.stalls }, r.shows.1)

pub returns-in-Failed : goal.returns-in-Failed
returns-in-Failed g c =
    let r = c.in-Failed.ensures.read in
    let unread = ap (λ (v : InletView). v.unread) c.self.view_is ∙ c.in_ok-make_room.ensures.same in
    (part_same c.self.inside.taken c.self.inside.filled c.self.inside.buffer.items c.read_at-returned.new.buffer.items c.self.invariant.0 c.in-Failed.ensures.prefix ∙ unread, r.shows.0, record { faults = r.faults; idles = r.idles; stalls = r.stalls }, r.shows.1, r.shows.2)
