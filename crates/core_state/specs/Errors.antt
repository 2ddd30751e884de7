-- The NNG errors for causes.
use Rattle.sp_base.specs.declared.error.SpError.{SpError}
use Rattle.sp_base.specs.declared.error.SpError.TheVariants as number
use Rattle.core_state.specs.declared.causes.BeginError.{BeginError}
use Rattle.core_state.specs.declared.causes.BeginError.TheVariants as error
use Rattle.core_state.specs.declared.causes.AttachError.{AttachError}
use Rattle.core_state.specs.declared.causes.AttachError.TheVariants as attach
use Rattle.core_state.specs.declared.causes.CtxError.{CtxError}
use Rattle.core_state.specs.declared.causes.CtxError.TheVariants as contexts
use Rattle.core_state.specs.declared.causes.NowError.{NowError}
use Rattle.core_state.specs.declared.causes.NowError.TheVariants as now
use Rattle.core_state.specs.declared.causes.TopicError.{TopicError}
use Rattle.core_state.specs.declared.causes.TopicError.TheVariants as topics

abbrev pub begin_number : BeginError → SpError
begin_number error.Closed = number.Closed
begin_number error.NotSupported = number.NotSupported
begin_number error.NoEntry = number.NoEntry
begin_number error.State = number.State
begin_number error.Busy = number.Busy
begin_number error.NoMemory = number.NoMemory

abbrev pub now_number : NowError → SpError
now_number (now.Begin e) = begin_number e
now_number now.Again = number.Again

abbrev pub attach_number : AttachError → SpError
attach_number attach.Closed = number.Closed
attach_number attach.Refused = number.Busy
attach_number attach.Many = number.Busy
attach_number attach.NoMemory = number.NoMemory

abbrev pub ctx_number : CtxError → SpError
ctx_number contexts.Closed = number.Closed
ctx_number contexts.NotSupported = number.NotSupported
ctx_number contexts.NoEntry = number.NoEntry
ctx_number contexts.Busy = number.Busy
ctx_number contexts.NoMemory = number.NoMemory

abbrev pub topic_number : TopicError → SpError
topic_number topics.Closed = number.Closed
topic_number topics.NotSupported = number.NotSupported
topic_number topics.NoEntry = number.NoEntry
topic_number topics.TooLong = number.MsgSize
topic_number topics.NoMemory = number.NoMemory
