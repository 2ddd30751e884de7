use Rattle.std.proofs.Common.{refl}
use Rattle.core_state.proofs.OpWordSteps.{name_is, looked, look_reads}
use Rattle.core_state.proofs.op_words.OpWords.look.Goals as goal

pub look-look-requires-clause-name : goal.look-look-requires-clause-name
look-look-requires-clause-name c = let r = c.requires in name_is c.args.self.now r.0 c.args.op r.1 r.3 r.2 r.4

pub returns-clause-looked : goal.returns-clause-looked
returns-clause-looked c = λ t s l h p.
    looked c.args.self.now (record { words = c.args.self.now.words; seat = c.look-look.new.core }) t c.args.op s c.look-look.result.phase c.look-look.result.by c.gone.result h l p refl c.look-look.ensures.own c.gone.ensures c.look-look.ensures.returned

pub returns-clause-reads : goal.returns-clause-reads
returns-clause-reads c =
    let r = c.requires in
    (refl, look_reads c.args.self.now (record { words = c.args.self.now.words; seat = c.look-look.new.core }) r.0 c.args.op r.1 c.look-look.result.phase c.look-look.result.by c.gone.result r.3 r.2 r.4 c.gone.ensures c.look-look.ensures.returned)
