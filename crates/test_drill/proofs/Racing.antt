-- What the calls of one round need from those before.
use Rattle.std.proofs.Common.{◌≡◌, ap, sym, ◌∙◌, List, false}
use Rattle.sp_base.specs.declared.OpName.{OpName}
use Rattle.sp_base.specs.declared.role.Role.TheVariants.{Pull as RolePull}
use Rattle.sp_history.specs.declared.setting.Options.{Options}
use Rattle.sp_history.specs.Options.{usual}
use Rattle.sp_proto.specs.Kinds.{Kind, Starts, setting_of, start}
use Rattle.proto_pipeline.specs.declared.pull.Pull.{Pull}
use Rattle.proto_pipeline.specs.Pulls.{Ties, pull_kind}
use Rattle.proto_pipeline.specs.PullLaws as laws
use Rattle.sp_socket.specs.Passes.{SocketName, PassView}
use Rattle.sp_socket.proofs.Held.{all_keep}
use Rattle.cat_play.specs.Drilling.{drill_setting}
use Rattle.cat_drill.specs.Calling.{IsDrillPass, Calls, Worked}

-- a call that collects nothing leaves open what was open
pub still_calls : (s : SocketName) (p q : PassView) (ops : List OpName) → Worked p q → Calls s p ops → Calls s q ops
still_calls s p q ops w c = record {
  own = (w.same.1 ∙ c.own.0, w.same.2 ∙ c.own.1, c.own.2, c.own.3);
  open_ = all_keep p q ops w.open_ c.open_;
}

-- nor does it take the pass from its socket
pub still_own : (s : SocketName) (p q : PassView) → Worked p q → IsDrillPass s p → IsDrillPass s q
still_own s p q w own = (w.same.1 ∙ own.0, w.same.2 ∙ own.1, own.2, own.3)

-- a socket over a new machine has the setting of a drill
pub new_setting : (m : Pull) (o : Options) → o ≡ usual RolePull 0 → Starts Ties m (pull_kind false o) → setting_of (pull_kind m.raw m.options) 256 4 ≡ drill_setting
new_setting m o is starts =
    ap (λ (k : Kind). setting_of k 256 4) (sym (laws.kinds m (start (setting_of (pull_kind false o) 256 4) 0) (starts 256 4 0))) ∙ ap (λ (x : Options). setting_of (pull_kind false x) 256 4) is
