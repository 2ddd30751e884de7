-- What tests know about a socket's callers.
use Rattle.std.specs.Prelude.{◌≡◌, List}
use Rattle.sp_base.specs.declared.OpName.{OpName}
use Rattle.aio_word.specs.Views.{Each}
use Rattle.sp_socket.specs.Passes.{SocketName, PassView, ListView, IsOf}
use Rattle.sp_socket.specs.Open.{AreOpenFor}

-- the passes are passes of the socket
pub record IsListOf (s : SocketName) (l : ListView) : Type 0 where
  pub lock : l.lock ≡ s.lock
  pub callers : l.callers ≡ s.words.callers
  pub own : Each (IsOf s) l.items

-- the pass is a pass of the socket, and these operations are open for it
pub record Calls (s : SocketName) (p : PassView) (ops : List OpName) : Type 0 where
  pub own : IsOf s p
  pub open_ : AreOpenFor p ops
