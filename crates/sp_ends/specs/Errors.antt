-- The NNG errors for the refusals of ends.
use Rattle.sp_base.specs.declared.error.SpError.{SpError}
use Rattle.sp_base.specs.declared.error.SpError.TheVariants as e
use Rattle.sp_ends.specs.declared.error.EndError.{EndError}
use Rattle.sp_ends.specs.declared.error.EndError.TheVariants as ends

abbrev pub end_number : EndError → SpError
end_number ends.Fault = e.InUse
end_number ends.InUse = e.InUse
end_number ends.NoMemory = e.NoMemory
