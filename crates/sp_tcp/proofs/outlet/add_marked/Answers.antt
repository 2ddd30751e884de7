use Rattle.sp_msg.specs.Views.{wire_text}
use Rattle.sp_tcp.proofs.Gathers.{added_marked}
use Rattle.sp_tcp.proofs.outlet.add_marked.Goals as goal

pub returns-clause-bytes : goal.returns-clause-bytes
returns-clause-bytes c = (added_marked c.args.mark.now c.args.stage.now c.add-behind_mark.new.self c.add_frame.new.stage c.args.skip c.add-behind_mark.result c.add_frame.result (wire_text c.args.m.now) c.add-behind_mark.ensures.bytes c.add-behind_mark.ensures.skip c.add_frame.ensures.bytes c.add_frame.ensures.skip).0

pub returns-clause-skip : goal.returns-clause-skip
returns-clause-skip c = (added_marked c.args.mark.now c.args.stage.now c.add-behind_mark.new.self c.add_frame.new.stage c.args.skip c.add-behind_mark.result c.add_frame.result (wire_text c.args.m.now) c.add-behind_mark.ensures.bytes c.add-behind_mark.ensures.skip c.add_frame.ensures.bytes c.add_frame.ensures.skip).1
