use Rattle.std.proofs.Common.{sym, ◌∙◌, arith}
use Rattle.proto_shared.proofs.Uncounted.{lacks, within, none_uncounted, first_uncounted}
use Rattle.proto_shared.proofs.pending.Pending.first_uncounted.Goals as goal

pub index-requires : goal.index-requires
index-requires c =
    let inside = within lacks c.args.self.now.sends.items c.in-Some.i (sym c.in-Some.ensures) in omega (arith, inside, c.args.self.now.sends.ok.0)

pub returns-in-None : goal.returns-in-None
returns-in-None c = λ ss h. none_uncounted c.args.self.now ss h (sym c.in-None.ensures)

pub returns-in-Some : goal.returns-in-Some
returns-in-Some c = λ ss h. first_uncounted c.args.self.now ss c.in-Some.i c.index.result.now h (sym c.in-Some.ensures) c.index.ensures
