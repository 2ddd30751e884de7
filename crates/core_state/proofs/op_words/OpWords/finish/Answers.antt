use Rattle.std.proofs.Common.{Some, refl, subst}
use Rattle.core_state.proofs.OpWordSteps.{name_is, open_is, looked, none_decided}
use Rattle.core_state.proofs.EndCauses.{finish_found, core_end}
use Rattle.core_state.specs.OpWordsStand.{GoneAs}
use Rattle.core_state.specs.declared.op_words.OpWords.{OpWords}
use Rattle.core_state.proofs.op_words.OpWords.finish.Goals as goal

pub decide-requires-clause-name : goal.decide-requires-clause-name
decide-requires-clause-name c = let r = c.requires.0 in name_is c.args.self.now r.0 c.args.op r.1 r.3 r.2 r.4

pub decide-requires-clause-end : goal.decide-requires-clause-end
decide-requires-clause-end c = core_end c.args.cause c.phase_of.result c.phase_of.ensures c.requires.1

pub unreachable-requires : goal.unreachable-requires
unreachable-requires c =
    let r = c.requires.0 in
    none_decided c.args.self.now.seat.view c.args.op c.in-Other.phase c.in-Other.by c.in-Other.ensures.returned.0 c.in-Other.ensures.returned.1.1 (open_is c.args.self.now r.0 c.args.op r.1 r.3 r.2 r.4) (subst (λ x. GoneAs x c.in-Other.phase c.in-Other.by) c.in-None.is c.gone.ensures)

pub returns-in-Some-clause-finished : goal.returns-in-Some-clause-finished
returns-in-Some-clause-finished c = λ t s l h p.
    let e : OpWords = record { words = c.args.self.now.words; seat = c.decide.new.core } in
    let k = looked c.args.self.now e t c.args.op s c.in-Other.phase c.in-Other.by (Some c.in-Some.decision) h l p refl c.in-Other.ensures.own (subst (λ x. GoneAs x c.in-Other.phase c.in-Other.by) c.in-Some.is c.gone.ensures) c.in-Other.ensures.returned.1 in
    finish_found c.args.cause c.in-Some.decision c.args.op t e k.0 k.1
