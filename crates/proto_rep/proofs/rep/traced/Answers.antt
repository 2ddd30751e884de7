use Rattle.std.proofs.Common.{rules, subst, ◌≡◌, ℕ}
use Rattle.sp_msg.specs.Messages.{HeaderAppended}
use Rattle.proto_rep.proofs.RepFrames.{traced_raw, traced_cooked}
use Rattle.proto_rep.proofs.rep.traced.Goals as goal

pub returns-then-raw-clause-kept : goal.returns-then-raw-clause-kept
returns-then-raw-clause-kept c =
    λ words rest e.
    let is : c.p.inside.0 ≡ c.args.p = search rules in
    let app = subst (λ (n : ℕ). HeaderAppended n c.take.new.m c.header_append_u32.new.self c.header_append_u32.result) is c.header_append_u32.ensures in
    rw c.if-raw.true (traced_raw c.args.p c.args.m c.take.new.m c.header_append_u32.new.self c.lead.new.m c.header_append_u32.result c.in-Ok.words c.none.result words rest c.requires.header (c.in-Ok.ensures words rest e) app c.lead.ensures c.none.ensures)

pub returns-else-raw-clause-kept : goal.returns-else-raw-clause-kept
returns-else-raw-clause-kept c = λ words rest e. rw c.if-raw.false (traced_cooked c.args.p c.args.m c.take.new.m c.in-Ok.words words rest c.requires.header (c.in-Ok.ensures words rest e))
