-- The NNG errors for the refusals of names.
use Rattle.sp_base.specs.declared.error.SpError.{SpError}
use Rattle.sp_base.specs.declared.error.SpError.TheVariants as e
use Rattle.sp_lane.specs.declared.inproc.InprocError.{InprocError}
use Rattle.sp_lane.specs.declared.inproc.InprocError.TheVariants as names

abbrev pub inproc_number : InprocError → SpError
inproc_number names.InUse = e.InUse
inproc_number names.NoEntry = e.NoEntry
inproc_number names.Proto = e.Proto
inproc_number names.NoMemory = e.NoMemory
