use Rattle.std.proofs.Common.{rules, ◌≡◌, ◌∙◌, sym, ap, subst, length, List}
use Rattle.aio_word.specs.Views.{Each}
use Rattle.sp_socket.specs.Passes.{PassView, IsOf}
use Rattle.bench_socket.proofs.Lending.{still_out}
use Rattle.bench_socket.proofs.callers.do_all.Goals as goal

pub by_all-requires-after_bounds : goal.by_all-requires-after_bounds
by_all-requires-after_bounds g c κs within = subst (Each (IsOf c.args.socket.now)) (sym c.as_mut_slice.ensures.value) c.lend-passes.ensures.own
