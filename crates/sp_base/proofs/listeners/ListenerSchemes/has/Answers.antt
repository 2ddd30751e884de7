use Rattle.std.proofs.Common.{◌<◌, ◌≡◌, length, arith, rules, IsTrue}
use Rattle.sp_base.proofs.Numbered.{below_from_some, some_below}
use Rattle.sp_base.proofs.listeners.ListenerSchemes.has.Goals as goal

pub returns : goal.returns
returns c = (
  (λ t. some_below c.args.self.now.schemes.items c.args.at (let lt : c.args.at < length c.args.self.now.schemes.items = search (rules, t) in lt)),
  (λ h. let lt = below_from_some c.args.self.now.schemes.items c.args.at h in search (rules, lt)),
)
