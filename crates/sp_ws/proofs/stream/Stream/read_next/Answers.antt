use Rattle.std.proofs.Common.{◌≡◌, ◌++◌, suc, [], ◌∷◌, length, ◌==◌, Bool, refl, sym, ap, subst, ◌∙◌, inl, inr, Option, append-nil}
use Rattle.std.proofs.lemmas.List.Elements.{All-nil, All-push}
use Rattle.sp_ws.specs.Frames.{IsPassed, Names}
use Rattle.sp_ws.specs.Streams.{unread_in, is_dry, IsNamed}
use Rattle.sp_ws.proofs.Noted.{one_more_read}
use Rattle.sp_ws.proofs.SocketShows.{none_of}
use Rattle.sp_ws.specs.declared.memory.Memory.{Memory}
use Rattle.sp_ws.specs.declared.frames.FrameIn.{FrameIn}
use Rattle.sp_ws.proofs.stream.Stream.read_next.Goals as goal

pub returns-in-Some-clause-read : goal.returns-in-Some-clause-read
returns-in-Some-clause-read c =
    let dry : (c.unread-is_empty.result == 0) ≡ is_dry c.read_once-returned.new.self.socket = ap (λ n. n == 0) (c.unread-is_empty.ensures ∙ ap (λ (m : Memory). length (unread_in m)) c.get_ref.ensures) in
    inl (c.reads.invariant.0.0, c.reads.self.socket, c.reads.invariant.0.1, (c.read_once-returned.result, c.read_once-returned.ensures.read, subst (λ (b : Bool). Names c.in-Some.named c.read_once-returned.result b) dry c.in-Some.ensures))

pub returns-in-Some-clause-noted : goal.returns-in-Some-clause-noted
returns-in-Some-clause-noted c =
    let dry : (c.unread-is_empty.result == 0) ≡ is_dry c.read_once-returned.new.self.socket = ap (λ n. n == 0) (c.unread-is_empty.ensures ∙ ap (λ (m : Memory). length (unread_in m)) c.get_ref.ensures) in
    let inv = c.reads.invariant.5 in
    record {
      passed = inv.0;
      are = inv.1;
      last = inl (c.read_once-returned.result, one_more_read _ _ _ inv.0 c.read_once-returned.result inv.2 c.read_once-returned.ensures.noted, subst (λ (b : Bool). Names c.in-Some.named c.read_once-returned.result b) dry c.in-Some.ensures);
    }

pub returns-clause-noted : goal.returns-clause-noted
returns-clause-noted c =
    let inv = c.reads.invariant.5 in
    record { passed = inv.0; are = inv.1; last = inr (refl, (inv.0, inv.2)) }

pub reads-init : goal.reads-init
reads-init c = ((0, refl), refl, refl, refl, refl, ([], All-nil IsPassed, sym (append-nil _)))

pub reads-preserved : goal.reads-preserved
reads-preserved c =
    let none = none_of c.name.result c.in_default.not-Some in
    let is : IsPassed c.read_once-returned.result = subst (λ (o : Option FrameIn). IsNamed o c.read_once-returned.result (c.unread-is_empty.result == 0)) none c.name.ensures in
    let inv = c.reads.invariant.5 in (
      (suc c.reads.invariant.0.0, (c.reads.self.socket, c.reads.invariant.0.1, (c.read_once-returned.result, is, c.read_once-returned.ensures.read))),
      c.read_once-returned.ensures.fed ∙ c.reads.invariant.1,
      c.read_once-returned.ensures.out ∙ c.reads.invariant.2,
      c.read_once-returned.ensures.role ∙ c.reads.invariant.3,
      c.read_once-returned.ensures.handed ∙ c.reads.invariant.4,
      (inv.0 ++ c.read_once-returned.result ∷ [], All-push IsPassed inv.0 c.read_once-returned.result inv.1 is, one_more_read _ _ _ inv.0 c.read_once-returned.result inv.2 c.read_once-returned.ensures.noted),
    )
