-- What contracts see of a core.
use Rattle.std.specs.Prelude.{ℕ, Bool, List}
use Rattle.aio_word.specs.Sight.{Named}
use Rattle.aio_word.specs.declared.rule.WordsView.{WordsView}
use Rattle.core_state.specs.declared.pending.PendingOperation.{PendingOperation}
use Rattle.sp_proto.specs.Kinds.{Kind}
use Rattle.core_state.specs.declared.operations.Operations.{Operations}
use Rattle.core_state.specs.Pipes.{UpPipe, up_pipes}
use Rattle.core_state.specs.declared.pipes.Pipes.{Pipes}
use Rattle.sp_core.specs.declared.owner.Core.{Core}

-- the words of its operations
abbrev pub words_of : {P W : Type 0} → Core P W → Named
words_of c = c.op_words.words

-- the number of its slots
abbrev pub slots_of : {P W : Type 0} → Core P W → ℕ
slots_of c = c.op_words.words.slots

-- the number of its callers
abbrev pub callers_of : {P W : Type 0} → Core P W → ℕ
callers_of c = c.op_words.words.callers

-- what its seat has seen of the words
abbrev pub sight_of : {P W : Type 0} → Core P W → WordsView
sight_of c = c.op_words.seat.view

-- its operations
abbrev pub operations_of : {P W : Type 0} → Core P W → Operations
operations_of c = c.operations

-- those of them that are pending
abbrev pub pending_of : {P W : Type 0} → Core P W → List PendingOperation
pending_of c = c.operations.pending.items

-- its pipes
abbrev pub pipes_of : {P W : Type 0} → Core P W → Pipes W
pipes_of c = c.pipes

-- those of them that are up
abbrev pub up_of : {P W : Type 0} → Core P W → List (UpPipe W)
up_of c = up_pipes c.pipes

-- the number of contexts that were opened
abbrev pub opened_of : {P W : Type 0} → Core P W → ℕ
opened_of c = c.tally.opened

-- the number of contexts that are open
abbrev pub open_ctxs_of : {P W : Type 0} → Core P W → ℕ
open_ctxs_of c = c.tally.open_ctxs

-- it is closed
abbrev pub is_core_closed : {P W : Type 0} → Core P W → Bool
is_core_closed c = c.closed

-- its last turn has a frame, an Out, an end of an operation, or a Down
abbrev pub has_moved : {P W : Type 0} → Core P W → Bool
has_moved c = c.tally.moved

-- its machine
abbrev pub proto_of : {P W : Type 0} → Core P W → P
proto_of c = c.proto

-- the kind of its machine
abbrev pub kind_of_core : {P W : Type 0} → (P → Kind) → Core P W → Kind
kind_of_core kind c = kind c.proto
