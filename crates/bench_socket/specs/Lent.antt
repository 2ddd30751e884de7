-- The passes of a socket, some of which are lent.
use Rattle.std.specs.Prelude.{◌≡◌, ◌+◌, List, length}
use Rattle.aio_word.specs.Views.{Each}
use Rattle.sp_socket.specs.Passes.{SocketName, PassView, ListView, IsOf}
use Rattle.test_socket.specs.Calls.{IsListOf}

-- the passes of the list and these lent ones are all passes of the socket
pub record AreLent (s : SocketName) (l : ListView) (out : List PassView) : Type 0 where
  pub list : IsListOf s l
  pub own : Each (IsOf s) out
  pub all : length l.items + length out ≡ s.words.callers
