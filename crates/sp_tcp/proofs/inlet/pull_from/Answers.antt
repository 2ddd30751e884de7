use Rattle.std.proofs.Common.{◌++◌, List, ℕ, Ok, sym, ap, subst, ◌∙◌}
use Rattle.sp_base.specs.declared.outside.LinkRead.{LinkRead}
use Rattle.sp_base.specs.declared.outside.LinkRead.TheVariants as reads
use Rattle.sp_msg.specs.declared.wire.WireIn.TheVariants as ins
use Rattle.sp_tcp.specs.Inlets.{ReadInto}
use Rattle.sp_base.specs.SpIpc.{IsMarkedPart, IsMarkedBad}
use Rattle.sp_tcp.proofs.Pulls.{rose_later, began_open, going_more, pulled_here, pulled_read}
use Rattle.sp_tcp.proofs.inlet.pull_from.Goals as goal

pub returns-in-Oversize : goal.returns-in-Oversize
returns-in-Oversize g c =
    let seen = g.L.Link.seen in
    let a = c.in-Oversize.ensures in
    pulled_here c.args.mark.now c.args.max ins.Malformed c.args.inlet.now.unread c.pulls.inlet.unread c.take_message.new.self.unread (seen c.args.link.now) (seen c.pulls.link) c.pulls.invariant
    (a.1, subst (IsMarkedBad c.args.mark.now c.args.max) (sym a.1) a.0)

pub returns-in-Ok-NotYet : goal.returns-in-Ok-NotYet
returns-in-Ok-NotYet g c =
    let seen = g.L.Link.seen in
    let l = seen c.args.link.now in
    let m = seen c.pulls.link in
    let n = seen c.read_from.new.link in
    let now : List ℕ = c.pulls.inlet.unread in
    let p = c.in-Part.ensures in
    let r : ReadInto (Ok reads.NotYet) c.take_message.new.self.unread c.read_from.new.self.unread m n = subst (λ (x : LinkRead). ReadInto (Ok x) c.take_message.new.self.unread c.read_from.new.self.unread m n) c.in-Ok-NotYet.field-0-is c.in-Ok-NotYet.ensures in
    let same = c.give_back_room.ensures ∙ r.0 ∙ p.1 in
    pulled_read c.args.mark.now c.args.max ins.NotYet c.args.inlet.now.unread now c.give_back_room.new.self.unread l m n c.pulls.invariant p.0 r.1 r.2
    (same, subst (IsMarkedPart c.args.mark.now c.args.max) (sym same) p.0, rose_later l.idles m.idles n.idles c.pulls.invariant.counts.idles r.3, began_open c.args.mark.now c.args.max c.args.inlet.now.unread now l m c.pulls.invariant r.4)

pub returns-in-Ok-Ended : goal.returns-in-Ok-Ended
returns-in-Ok-Ended g c =
    let seen = g.L.Link.seen in
    let l = seen c.args.link.now in
    let m = seen c.pulls.link in
    let n = seen c.read_from.new.link in
    let p = c.in-Part.ensures in
    let r : ReadInto (Ok reads.Ended) c.take_message.new.self.unread c.read_from.new.self.unread m n = subst (λ (x : LinkRead). ReadInto (Ok x) c.take_message.new.self.unread c.read_from.new.self.unread m n) c.in-Ok-Ended.field-0-is c.in-Ok-Ended.ensures in
    let same = r.0 ∙ p.1 in
    pulled_read c.args.mark.now c.args.max ins.Ended c.args.inlet.now.unread c.pulls.inlet.unread c.read_from.new.self.unread l m n c.pulls.invariant p.0 r.1 r.2
    (same, subst (IsMarkedPart c.args.mark.now c.args.max) (sym same) p.0, r.3)

pub returns-in-Ok-Failed : goal.returns-in-Ok-Failed
returns-in-Ok-Failed g c =
    let seen = g.L.Link.seen in
    let l = seen c.args.link.now in
    let m = seen c.pulls.link in
    let n = seen c.read_from.new.link in
    let now : List ℕ = c.pulls.inlet.unread in
    let p = c.in-Part.ensures in
    let r : ReadInto (Ok reads.Failed) c.take_message.new.self.unread c.read_from.new.self.unread m n = subst (λ (x : LinkRead). ReadInto (Ok x) c.take_message.new.self.unread c.read_from.new.self.unread m n) c.in-Ok-Failed.field-0-is c.in-Ok-Failed.ensures in
    let same = r.0 ∙ p.1 in
    pulled_read c.args.mark.now c.args.max ins.Failed c.args.inlet.now.unread now c.read_from.new.self.unread l m n c.pulls.invariant p.0 r.1 r.2
    (same, subst (IsMarkedPart c.args.mark.now c.args.max) (sym same) p.0, rose_later l.faults m.faults n.faults c.pulls.invariant.counts.faults r.3, began_open c.args.mark.now c.args.max c.args.inlet.now.unread now l m c.pulls.invariant r.4)

pub pulls-preserved : goal.pulls-preserved
pulls-preserved g c =
    let seen = g.L.Link.seen in
    let l = seen c.args.link.now in
    let m = seen c.pulls.link in
    let n = seen c.read_from.new.link in
    let p = c.in-Part.ensures in
    let r : ReadInto (Ok (reads.Got c.in-Ok-Got.field-0-0)) c.take_message.new.self.unread c.read_from.new.self.unread m n = subst (λ (x : LinkRead). ReadInto (Ok x) c.take_message.new.self.unread c.read_from.new.self.unread m n) c.in-Ok-Got.field-0-is c.in-Ok-Got.ensures in
    going_more c.args.mark.now c.args.max c.args.inlet.now.unread c.pulls.inlet.unread c.read_from.new.self.unread r.0.0 l m n c.pulls.invariant p.0 (r.0.1 ∙ ap (λ t. t ++ r.0.0) p.1) r.0.3 r.1 r.2
