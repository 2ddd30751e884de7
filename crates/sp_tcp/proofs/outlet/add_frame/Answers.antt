use Rattle.std.proofs.Common.{◌≡◌, ◌-◌, ◌++◌, ℕ, List, length, ap, ◌∙◌}
use Rattle.sp_tcp.specs.Stages.{added}
use Rattle.sp_tcp.proofs.Gathers.{added_three, frame_is}
use Rattle.sp_tcp.proofs.outlet.add_frame.Goals as goal

pub returns-clause-bytes : goal.returns-clause-bytes
returns-clause-bytes c =
    let m = c.args.m.now in
    let three = added_three c.args.stage.now c.add-behind_head.new.self c.add-behind_header.new.self c.add.new.self c.args.skip c.add-behind_head.result c.add-behind_header.result c.add.result c.to_be_bytes-head.result c.header.result.now c.body.result.now c.add-behind_head.ensures.bytes c.add-behind_head.ensures.skip c.add-behind_header.ensures.bytes c.add-behind_header.ensures.skip c.add.ensures.bytes c.add.ensures.skip in
    let parts : c.header.result.now ++ c.body.result.now ≡ m.header ++ m.body = (λ i. c.header.ensures.value i ++ c.body.ensures i) in
    let whole = ap (λ (t : List ℕ). c.to_be_bytes-head.result ++ t) parts ∙ frame_is m c.to_be_bytes-head.result c.size.result c.to_be_bytes-head.ensures c.size.ensures.size in
    three.0 ∙ ap (added c.args.stage.now c.args.skip) whole

pub returns-clause-skip : goal.returns-clause-skip
returns-clause-skip c =
    let m = c.args.m.now in
    let three = added_three c.args.stage.now c.add-behind_head.new.self c.add-behind_header.new.self c.add.new.self c.args.skip c.add-behind_head.result c.add-behind_header.result c.add.result c.to_be_bytes-head.result c.header.result.now c.body.result.now c.add-behind_head.ensures.bytes c.add-behind_head.ensures.skip c.add-behind_header.ensures.bytes c.add-behind_header.ensures.skip c.add.ensures.bytes c.add.ensures.skip in
    let parts : c.header.result.now ++ c.body.result.now ≡ m.header ++ m.body = (λ i. c.header.ensures.value i ++ c.body.ensures i) in
    let whole = ap (λ (t : List ℕ). c.to_be_bytes-head.result ++ t) parts ∙ frame_is m c.to_be_bytes-head.result c.size.result c.to_be_bytes-head.ensures c.size.ensures.size in
    three.1 ∙ ap (λ (t : List ℕ). c.args.skip - length t) whole
