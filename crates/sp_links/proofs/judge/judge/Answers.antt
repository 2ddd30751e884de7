use Rattle.std.proofs.Common.{List, ℕ, sym, subst}
use Rattle.sp_upgrade.specs.Opening.{ServerAnswers, ClientAnswers}
use Rattle.sp_links.specs.declared.way.Way.{Way}
use Rattle.sp_links.specs.Openings.{Judges}
use Rattle.sp_links.proofs.Owing.{any_framing, judges_request, judges_response}
use Rattle.sp_links.proofs.judge.judge.Goals as goal

pub returns-in-Greeting : goal.returns-in-Greeting
returns-in-Greeting c =
    subst (λ (w : Way). Judges c.args.role w c.judge_greeting.result c.args.came.now) (sym c.in-Greeting.is)
    (any_framing c.args.role c.in-Greeting.framing c.args.came.now c.judge_greeting.result c.judge_greeting.ensures)

pub returns-in-Serves : goal.returns-in-Serves
returns-in-Serves c =
    let answers = subst (λ (p : List ℕ). ServerAnswers c.server_head.result c.args.came.now c.args.role p) c.as_slice.ensures c.server_head.ensures in
    subst (λ (w : Way). Judges c.args.role w c.part_of.result c.args.came.now) (sym c.in-Serves.is) (judges_request c.args.role c.in-Serves.path c.args.came.now c.server_head.result c.part_of.result answers c.part_of.ensures)

pub returns-in-Asks : goal.returns-in-Asks
returns-in-Asks c =
    let answers = subst (λ (k : List ℕ). ClientAnswers c.client_answer.result c.args.came.now k c.args.role) c.key_of.ensures c.client_answer.ensures in
    subst (λ (w : Way). Judges c.args.role w c.part_of-in-Asks.result c.args.came.now) (sym c.in-Asks.is)
    (judges_response c.args.role c.in-Asks.addr c.in-Asks.start c.args.came.now c.client_answer.result c.part_of-in-Asks.result answers c.part_of-in-Asks.ensures)
