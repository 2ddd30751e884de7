use Rattle.std.proofs.Common.{arith}
use Rattle.proto_pair.proofs.Arriving.{with_word}
use Rattle.proto_pair.proofs.with_hops.Goals as goal

pub returns : goal.returns
returns c = with_word c.args.m c.bare-m.result c.header_append_u32.new.self c.args.hops c.header_append_u32.result (omega (arith, c.ranges.hops.fits)) c.bare-m.ensures c.header_append_u32.ensures
