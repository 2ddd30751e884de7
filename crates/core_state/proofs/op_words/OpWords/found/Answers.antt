use Rattle.std.proofs.Common.{refl, subst}
use Rattle.std.specs.Prelude.{Option}
use Rattle.core_state.specs.declared.op_words.Decision.{Decision}
use Rattle.core_state.specs.OpWordsStand.{GoneAs}
use Rattle.core_state.proofs.Readings.{found_some, found_gone}
use Rattle.core_state.proofs.OpWordSteps.{name_is}
use Rattle.core_state.proofs.op_words.OpWords.found.Goals as goal

pub found-look-requires-clause-name : goal.found-look-requires-clause-name
found-look-requires-clause-name c = let r = c.requires.read.0 in name_is c.args.self.now r.0 c.args.op r.1 r.3 r.2 r.4

pub unreachable-requires : goal.unreachable-requires
unreachable-requires c =
    let r = c.requires.read.0 in
    let k = c.found-look.ensures in
    found_some c.args.self.now (record { words = c.args.self.now.words; seat = c.found-look.new.core }) c.args.seat.now.view r.0 c.args.op r.1 c.found-look.result.phase c.found-look.result.by r.3 r.2 r.4 c.requires.read.1 k.read k.returned
    (subst (λ (x : Option Decision). GoneAs x c.found-look.result.phase c.found-look.result.by) c.in-None.is c.gone.ensures)

pub returns-clause-gone : goal.returns-clause-gone
returns-clause-gone c =
    let r = c.requires.read.0 in
    let k = c.found-look.ensures in
    (found_gone c.args.self.now (record { words = c.args.self.now.words; seat = c.found-look.new.core }) c.args.seat.now.view r.0 c.args.op r.1 c.found-look.result.phase c.found-look.result.by c.in-Some.decision r.3 r.2 r.4 refl k.core k.returned
    (subst (λ (x : Option Decision). GoneAs x c.found-look.result.phase c.found-look.result.by) c.in-Some.is c.gone.ensures)).0

pub returns-clause-found : goal.returns-clause-found
returns-clause-found c =
    λ t s l h p.
    let k = c.found-look.ensures in
    (found_gone c.args.self.now (record { words = c.args.self.now.words; seat = c.found-look.new.core }) c.args.seat.now.view t c.args.op s c.found-look.result.phase c.found-look.result.by c.in-Some.decision h l p refl k.core k.returned
    (subst (λ (x : Option Decision). GoneAs x c.found-look.result.phase c.found-look.result.by) c.in-Some.is c.gone.ensures)).1
