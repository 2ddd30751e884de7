use Rattle.std.proofs.Common.{rules, arith, ◌≡◌, [], ◌∷◌, ◌++◌, length, refl, ap, ◌∙◌, sym, vec_capacity}
use Rattle.ex_turn_lock.specs.declared.writes.Write.{Write}
use Rattle.ex_turn_lock.specs.Logs.{writes_of, value_after}
use Rattle.ex_turn_lock.proofs.WriteLemmas.{writes_of-idle, writes_of-wrote, value_after-push}
use Rattle.ex_turn_lock.proofs.register.RegisterMachine.act.Goals as goal

pub returns-then-len-capacity-clause-turn : goal.returns-then-len-capacity-clause-turn
returns-then-len-capacity-clause-turn c = λ past s. let idle = writes_of-idle past c.args.caller in let full : length c.args.self.now.log.items ≡ vec_capacity c.args.self.now.log = search (rules, arith) in (
  record { number = c.args.caller; entries = [] },
  refl,
  (s.0 ∙ sym idle, s.1 ∙ ap (value_after 0) (sym idle)),
  (sym (ap length s.0) ∙ full, refl),
)

pub returns-clause-turn : goal.returns-clause-turn
returns-clause-turn c = λ past s. let wrote = writes_of-wrote past c.args.caller c.args.value in let w : Write = record { by = c.args.caller; value = c.args.value } in (
  record { number = c.args.caller; entries = record { 0 = c.args.value } ∷ [] },
  refl,
  (c.push_reserved.ensures.items ∙ (ap (λ ws. ws ++ w ∷ []) s.0 ∙ sym wrote), c.replace.ensures.after ∙ sym (ap (value_after 0) wrote ∙ value_after-push 0 (writes_of past) w)),
  (search (rules, arith), c.replace.ensures.value ∙ s.1, refl),
)
