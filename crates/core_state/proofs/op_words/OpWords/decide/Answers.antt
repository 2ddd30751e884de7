use Rattle.std.proofs.Common.{Some, refl, subst}
use Rattle.core_state.proofs.OpWordSteps.{name_is, open_is, looked, none_decided}
use Rattle.core_state.specs.OpWordsStand.{GoneAs}
use Rattle.core_state.proofs.op_words.OpWords.decide.Goals as goal

pub decide-requires-clause-name : goal.decide-requires-clause-name
decide-requires-clause-name c = let r = c.requires in name_is c.args.self.now r.0 c.args.op r.1 r.3 r.2 r.4

pub unreachable-requires : goal.unreachable-requires
unreachable-requires c =
    let r = c.requires in
    none_decided c.args.self.now.seat.view c.args.op c.in-Other.phase c.in-Other.by c.in-Other.ensures.returned.0 c.in-Other.ensures.returned.1.1 (open_is c.args.self.now r.0 c.args.op r.1 r.3 r.2 r.4) (subst (λ x. GoneAs x c.in-Other.phase c.in-Other.by) c.in-None.is c.gone.ensures)

pub returns-in-Some-clause-decided : goal.returns-in-Some-clause-decided
returns-in-Some-clause-decided c = λ t s l h p.
    (looked c.args.self.now (record { words = c.args.self.now.words; seat = c.decide.new.core }) t c.args.op s c.in-Other.phase c.in-Other.by (Some c.in-Some.decision) h l p refl c.in-Other.ensures.own (subst (λ x. GoneAs x c.in-Other.phase c.in-Other.by) c.in-Some.is c.gone.ensures) c.in-Other.ensures.returned.1).1
