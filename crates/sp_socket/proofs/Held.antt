-- Several operations that a pass has open.
use Rattle.std.proofs.Common.{◌≢◌, sym, subst, List, [], ◌∷◌, ◌++◌}
use Rattle.sp_base.specs.declared.OpName.{OpName}
use Rattle.aio_word.specs.Views.{Each}
use Rattle.sp_socket.specs.Passes.{PassView}
use Rattle.sp_socket.specs.Open.{IsOpenFor, OpensFor, AreOpenFor, KeepsOpen}

-- they stay so
pub all_keep : (before after : PassView) (ops : List OpName) → KeepsOpen before after → AreOpenFor before ops → AreOpenFor after ops
all_keep before after [] k o = tt
all_keep before after (op ∷ ops) k o = (k op o.0, o.1, all_keep before after ops k o.2)

apart_more : (op new : OpName) (ops : List OpName) → op ≢ new → Each (λ other. op ≢ other) ops → Each (λ other. op ≢ other) (ops ++ new ∷ [])
apart_more op new [] n a = (n, tt)
apart_more op new (x ∷ ops) n a = (a.0, apart_more op new ops n a.1)

all_with : (before after : PassView) (ops : List OpName) (new : OpName) → (IsOpenFor before new → ⊥) → IsOpenFor after new → AreOpenFor before ops → AreOpenFor after ops → AreOpenFor after (ops ++ new ∷ [])
all_with before after [] new was is b o = (is, tt, tt)
all_with before after (op ∷ ops) new was is b o =
    (o.0, apart_more op new ops (λ same. was (subst (IsOpenFor before) same b.0)) o.1, all_with before after ops new was is b.2 o.2)

-- one more that began
pub all_more : (before after : PassView) (ops : List OpName) (new : OpName) → KeepsOpen before after → OpensFor before after new → AreOpenFor before ops → AreOpenFor after (ops ++ new ∷ [])
all_more before after ops new k begun o = all_with before after ops new begun.1 begun.0 o (all_keep before after ops k o)

last_apart : (op last : OpName) (ops : List OpName) → Each (λ other. op ≢ other) (ops ++ last ∷ []) → Each (λ other. op ≢ other) ops × (op ≢ last)
last_apart op last [] a = (tt, a.0)
last_apart op last (x ∷ ops) a = let r = last_apart op last ops a.1 in ((a.0, r.0), r.1)

-- the last of them is open
pub last_open : (p : PassView) (ops : List OpName) (last : OpName) → AreOpenFor p (ops ++ last ∷ []) → IsOpenFor p last
last_open p [] last o = o.0
last_open p (x ∷ ops) last o = last_open p ops last o.2

-- the others stay so when it is collected
pub others_keep : (before after : PassView) (ops : List OpName) (last : OpName) → ((other : OpName) → last ≢ other → IsOpenFor before other → IsOpenFor after other) → AreOpenFor before (ops ++ last ∷ []) → AreOpenFor after ops
others_keep before after [] last k o = tt
others_keep before after (op ∷ ops) last k o =
    let a = last_apart op last ops o.1 in
    (k op (λ same. a.1 (sym same)) o.0, a.0, others_keep before after ops last k o.2)
