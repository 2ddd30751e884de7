-- What reading and taking do to what came.
use Rattle.std.specs.Prelude.{◌≡◌, ◌≤◌, ◌<◌, ◌++◌, ℕ, true, false, List, [], length, Result, Ok, Err}
use Rattle.sp_base.specs.Outside.{Rose}
use Rattle.sp_base.specs.Views.{LinkView}
use Rattle.sp_base.specs.Steps.{Came, Quiet}
use Rattle.sp_base.specs.declared.error.NoMemory.{NoMemory}
use Rattle.sp_base.specs.declared.outside.LinkRead.{LinkRead}
use Rattle.sp_base.specs.declared.outside.LinkRead.TheVariants as reads
use Rattle.sp_msg.specs.declared.wire.WireIn.{WireIn}
use Rattle.sp_msg.specs.declared.wire.WireIn.TheVariants as ins
use Rattle.sp_msg.specs.Links.{ReadCounts}
use Rattle.sp_base.specs.SpIpc.{marked, IsMarkedPart, IsMarkedBad}
use Rattle.sp_tcp.specs.declared.inlet.TakenFrame.{TakenFrame}
use Rattle.sp_tcp.specs.declared.inlet.TakenFrame.TheVariants as t

abbrev pub TakenAs : List ℕ → ℕ → TakenFrame → List ℕ → List ℕ → Type 0
TakenAs mark max (t.Message m) old new = (m.header ≡ []) × (length m.body ≤ max) × (old ≡ marked mark m.body ++ new)
TakenAs mark max t.Part old new = IsMarkedPart mark max old × (new ≡ old)
TakenAs mark max t.Oversize old new = IsMarkedBad mark max old × (new ≡ old)
TakenAs mark max t.NoMemory old new = new ≡ old

-- the bytes that were read are after the others
abbrev pub ReadInto : Result LinkRead NoMemory → List ℕ → List ℕ → LinkView → LinkView → Type 0
ReadInto (Ok (reads.Got n)) old new link link' = ((piece : List ℕ) × (new ≡ old ++ piece) × (0 < length piece) × Came piece link link') × ReadCounts link link' × (link.ended ≡ false)
ReadInto (Ok reads.NotYet) old new link link' = (new ≡ old) × Quiet link link' × ReadCounts link link' × Rose link.idles link'.idles × (link.ended ≡ false)
ReadInto (Ok reads.Ended) old new link link' = (new ≡ old) × Quiet link link' × ReadCounts link link' × (link'.ended ≡ true)
ReadInto (Ok reads.Failed) old new link link' = (new ≡ old) × Quiet link link' × ReadCounts link link' × Rose link.faults link'.faults × (link.ended ≡ false)
ReadInto (Err _) old new link link' = (new ≡ old) × (link' ≡ link)

-- what a pull returns, by the bytes that are left
abbrev pub PullResult : List ℕ → ℕ → WireIn → List ℕ → List ℕ → LinkView → LinkView → Type 0
PullResult mark max (ins.Message m) all left link link' = (m.header ≡ []) × (length m.body ≤ max) × (all ≡ marked mark m.body ++ left)
PullResult mark max ins.NotYet all left link link' = (left ≡ all) × IsMarkedPart mark max left × Rose link.idles link'.idles × (link.ended ≡ false)
PullResult mark max ins.Ended all left link link' = (left ≡ all) × IsMarkedPart mark max left × (link'.ended ≡ true)
PullResult mark max ins.Malformed all left link link' = (left ≡ all) × IsMarkedBad mark max left
PullResult mark max ins.Failed all left link link' = (left ≡ all) × IsMarkedPart mark max left × Rose link.faults link'.faults × (link.ended ≡ false)
PullResult mark max ins.Refused all left link link' = ⊥
PullResult mark max ins.NoMemory all left link link' = left ≡ all

-- some bytes came, and a message was taken or not; nothing is asked of the link where a message or a size that is not
-- allowed stands at the front already
pub record PulledFrom (mark : List ℕ) (max : ℕ) (result : WireIn) (old new : List ℕ) (link link' : LinkView) : Type 0 where
  pub piece : List ℕ
  pub came : Came piece link link'
  pub counts : ReadCounts link link'
  pub returned : PullResult mark max result (old ++ piece) new link link'
  pub asked : ¬ IsMarkedPart mark max old → link' ≡ link
