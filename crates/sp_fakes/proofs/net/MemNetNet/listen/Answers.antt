use Rattle.std.proofs.Common.{◌≡◌, ◌+◌, length, sym, ap, subst, ◌∙◌}
use Rattle.sp_base.specs.Views.{NetView}
use Rattle.sp_base.specs.Steps.{AfterListen}
use Rattle.sp_base.specs.Listeners.{listens_of}
use Rattle.sp_base.specs.declared.outside.Listened.TheVariants as listened
use Rattle.sp_fakes.specs.Nets.{NetScript, net_view, net_script, ListenBy}
use Rattle.sp_fakes.proofs.Listening.{next_number, as_many}
use Rattle.sp_fakes.proofs.net.MemNetNet.listen.Goals as goal

pub returns-then-fails-clause-after : goal.returns-then-fails-clause-after
returns-then-fails-clause-after c =
    let P : NetView → Type 0 = λ v. AfterListen c.no_listener.result c.args.addr.now v (net_view c.no_listener.new.self) in
    subst P c.fails.ensures.view (c.no_listener.ensures.none c.args.addr.now)

pub returns-in-Err-clause-after : goal.returns-in-Err-clause-after
returns-in-Err-clause-after c =
    let P : NetView → Type 0 = λ v. AfterListen c.no_listener-in-Err.result c.args.addr.now v (net_view c.no_listener-in-Err.new.self) in
    let same : record (net_view c.fails.new.self) { listens = listens_of c.add.new.self } ≡ net_view c.fails.new.self = ap (λ m. record (net_view c.fails.new.self) { listens = m }) c.in-Err.ensures in
    subst P (same ∙ c.fails.ensures.view) (c.no_listener-in-Err.ensures.none c.args.addr.now)

pub returns-in-Ok-clause-by : goal.returns-in-Ok-clause-by
returns-in-Ok-clause-by c =
    let script = c.fails.ensures.script in
    let next = next_number c.fails.new.self.listeners.schemes.items c.add.new.self.schemes.items c.scheme.result c.in-Ok.number c.in-Ok.ensures in
    let many : length c.fails.new.self.listeners.schemes.items ≡ length c.args.self.now.listeners.schemes.items = ap (λ (s : NetScript). s.listened) script in
    record {
      calls = ap (λ (s : NetScript). s.calls) script;
      numbered = (sym c.fails.ensures.listed ∙ c.if-fails.false, next.0 ∙ many, next.1 ∙ ap (λ n. n + 1) many);
      accepts = ap (λ (s : NetScript). s.accepts) script;
      dials = ap (λ (s : NetScript). s.dials) script;
    }

pub returns-in-Err-clause-by : goal.returns-in-Err-clause-by
returns-in-Err-clause-by c =
    let script = c.fails.ensures.script in
    let many : length c.add.new.self.schemes.items ≡ length c.args.self.now.listeners.schemes.items = as_many c.fails.new.self.listeners.schemes.items c.add.new.self.schemes.items c.in-Err.ensures ∙ ap (λ (s : NetScript). s.listened) script in
    let by : ListenBy listened.Failed (net_script c.args.self.now) (record (net_script c.fails.new.self) { listened = length c.add.new.self.schemes.items }) = record {
      calls = ap (λ (s : NetScript). s.calls) script;
      numbered = many;
      accepts = ap (λ (s : NetScript). s.accepts) script;
      dials = ap (λ (s : NetScript). s.dials) script;
    } in
    subst (λ r. ListenBy r (net_script c.args.self.now) (net_script c.no_listener-in-Err.new.self)) (sym c.no_listener-in-Err.ensures.returned)
    (subst (λ s. ListenBy listened.Failed (net_script c.args.self.now) s) (sym c.no_listener-in-Err.ensures.script) by)
