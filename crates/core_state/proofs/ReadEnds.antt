-- What a caller's seat has read of an operation, according to what its call returned.
use Rattle.std.proofs.Common.{◌≡◌, ap, sym, subst, Bool, true, false, ◌++◌}
use Rattle.sp_base.specs.declared.OpName.{OpName}
use Rattle.aio_word.specs.declared.phase.Phase.TheVariants as phase
use Rattle.aio_word.specs.declared.rule.WordsView.{WordsView}
use Rattle.core_state.specs.Reads.{ReadAs, ReadEnd, ReadSo, HasReadEnd}

pub read_pending : (r : Bool) (n op : OpName) (v w : WordsView) → r ≡ false → n ≡ op → ReadSo r n v w → ReadAs op phase.Pending 0 v w
read_pending true n op v w e s h = absurd cc
read_pending false n op v w e s h = subst (λ (o : OpName). ReadAs o phase.Pending 0 v w) s h

pub read_end : (r : Bool) (n op : OpName) (v w x : WordsView) → r ≡ true → n ≡ op → x ≡ w → ReadSo r n v w → ReadEnd op v x
read_end true n op v w x e s u h = subst (λ (y : WordsView). ReadEnd op v y) (sym u) (subst (λ (o : OpName). ReadEnd o v w) s h)
read_end false n op v w x e s u h = absurd cc

pub has_read : (r : Bool) (op : OpName) (v w : WordsView) → r ≡ true → ReadSo r op v w → HasReadEnd op w
has_read true op v w e h =
    (v.reads ++ h.3.others, h.0, h.1, h.2, ap (λ (y : WordsView). y.reads) h.3.read)
has_read false op v w e h = absurd cc
