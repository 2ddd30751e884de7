use Rattle.std.proofs.Common.{◌∙◌, ap, sym, arith, refl, Some}
use Rattle.proto_rep.specs.declared.operations.ReplyOperation.{ReplyOperation}
use Rattle.proto_rep.specs.declared.operations.RepOperations.{RepOperations}
use Rattle.proto_rep.proofs.ByKind.{reply_found, receive_found, none_found, reply_ended, receive_ended}
use Rattle.proto_rep.proofs.operations.RepOperations.take.Goals as goal

pub returns-in-Some-clause-found : goal.returns-in-Some-clause-found
returns-in-Some-clause-found c = λ ws a h. ap (λ (w : ReplyOperation). Some w) c.of_reply.ensures ∙ sym (reply_found c.args.self.now c.args.self.now c.args.op ws a h c.in-Some.w c.in-Some.ensures.found)

pub returns-in-Some-clause-rest : goal.returns-in-Some-clause-rest
returns-in-Some-clause-rest c = λ ws a h.
    let was = c.args.self.now in
    let is : RepOperations = record { receives = was.receives; replies = c.take.new.self } in
    let len = c.in-Some.ensures.len in
    let room = c.in-Some.ensures.room in
    let fits = h.fits in
    reply_ended was is c.args.op ws a h c.in-Some.w c.in-Some.ensures.found c.take.ensures.items refl (omega (arith, len, room, fits))

pub returns-in-None-take-clause-found : goal.returns-in-None-take-clause-found
returns-in-None-take-clause-found c = λ ws a h. sym (none_found c.args.self.now c.args.self.now c.args.op ws a h c.in-None-take.ensures.found c.in-None.ensures.found)

pub returns-in-None-take-clause-rest : goal.returns-in-None-take-clause-rest
returns-in-None-take-clause-rest c = λ ws a h.
    let was = c.args.self.now in
    let is : RepOperations = record { receives = c.take-in-None.new.self; replies = c.take.new.self } in
    let len = c.in-None.ensures.len in
    let room = c.in-None.ensures.room in
    let long = c.in-None-take.ensures.len in
    let wide = c.in-None-take.ensures.room in
    let fits = h.fits in
    receive_ended was is c.args.op ws a h c.take.ensures.items c.take-in-None.ensures.rest (omega (arith, len, room, long, wide, fits))

pub returns-in-Some-take-clause-found : goal.returns-in-Some-take-clause-found
returns-in-Some-take-clause-found c = λ ws a h. ap (λ (w : ReplyOperation). Some w) c.of_recipient.ensures ∙ sym (receive_found c.args.self.now c.args.self.now c.args.op ws a h c.in-Some-take.w c.in-Some-take.ensures.found)

pub returns-in-Some-take-clause-rest : goal.returns-in-Some-take-clause-rest
returns-in-Some-take-clause-rest c = λ ws a h.
    let was = c.args.self.now in
    let is : RepOperations = record { receives = c.take-in-None.new.self; replies = c.take.new.self } in
    let len = c.in-None.ensures.len in
    let room = c.in-None.ensures.room in
    let long = c.in-Some-take.ensures.len in
    let wide = c.in-Some-take.ensures.room in
    let fits = h.fits in
    receive_ended was is c.args.op ws a h c.take.ensures.items c.take-in-None.ensures.rest (omega (arith, len, room, long, wide, fits))
