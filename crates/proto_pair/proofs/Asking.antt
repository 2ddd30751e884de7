-- What a pair answers, and what it is never asked.
use Rattle.std.proofs.Common.{◌≡◌, refl, ap, sym, ◌∙◌, List, [], ◌∷◌, ℕ, Bool, true, false, Option, Some, None, map}
use Rattle.std.specs.Prelude.{not, ◌&&◌, ◌||◌, ◌==◌, is_some, option_to_list}
use Rattle.sp_base.specs.declared.OpName.{OpName}
use Rattle.sp_base.specs.declared.role.Role.{Role}
use Rattle.sp_msg.specs.Views.{MessageView}
use Rattle.sp_history.specs.declared.setting.Setting.{Setting}
use Rattle.sp_history.specs.declared.entry.Entry.{Entry}
use Rattle.sp_history.specs.declared.entry.RecordedAct.{RecordedAct}
use Rattle.sp_history.specs.declared.entry.RecordedAct.TheVariants.{Recv, Send}
use Rattle.sp_history.specs.declared.entry.RecordedMessage.{RecordedMessage}
use Rattle.sp_history.specs.declared.parts.Begun.{Begun}
use Rattle.sp_history.specs.declared.parts.Item.{Item}
use Rattle.sp_history.specs.declared.parts.LiveRequest.{LiveRequest}
use Rattle.sp_history.specs.Lists.{is_nil}
use Rattle.sp_history.specs.Setting.{floods, is_pair as is_a_pair, has_contexts, has_topics}
use Rattle.sp_history.specs.Kept.{kept, pool, wanted, wanted_for}
use Rattle.sp_history.specs.Legal.{does, is_recv, is_state}
use Rattle.sp_history.specs.Moments.{Moment, past}
use Rattle.sp_proto.specs.Kinds.{text_of}
use Rattle.sp_proto.specs.Machines.{CanAgain, CanFlood, message_of}
use Rattle.proto_pair.specs.declared.Pair.{Pair}
use Rattle.proto_pair.specs.declared.PairVersion.{PairVersion}
use Rattle.proto_pair.specs.declared.PairVersion.TheVariants as versions
use Rattle.proto_pair.specs.Pairs.{Ties, role_of, message_in}
use Rattle.proto_pair.proofs.Versions.{no_floods, no_topics, no_resends, wants}
use Rattle.proto_pair.proofs.Paired.{is_pair, kept_pair}

-- ---- What is kept

some_kept : (m : Pair) (t : Moment) → Ties m t → is_nil (pool t.z (past t) 0) ≡ not (is_some m.kept)
some_kept m t h = go m.kept (pool t.z (past t) 0) h.items
  where
    go : (o : Option MessageView) (is : List Item) → map text_of (option_to_list o) ≡ map message_in is → is_nil is ≡ not (is_some o)
    go None [] e = refl
    go None (i ∷ is) e = absurd cc
    go (Some v) [] e = absurd cc
    go (Some v) (i ∷ is) e = refl

pub keeps_is : (m : Pair) (t : Moment) (c : ℕ) → Ties m t → is_some m.kept ≡ not (is_nil (kept t.z (past t) c))
keeps_is m t c h = sym (ap not (ap is_nil (kept_pair m.version t.z (past t) c (is_pair m t h)) ∙ some_kept m t h) ∙ twice (is_some m.kept))
  where
    twice : (b : Bool) → not (not b) ≡ b
    twice true = refl
    twice false = refl

pub wants_is : (m : Pair) (t : Moment) (p : ℕ) → Ties m t → not (is_some m.kept) ≡ wanted t.z (past t) p
wants_is m t p h =
    sym (ap (λ (r : Role). wanted_for r t.z.raw p (kept t.z (past t) 0)) (is_pair m t h) ∙ wants m.version t.z.raw p (kept t.z (past t) 0) ∙ ap is_nil (kept_pair m.version t.z (past t) 0 (is_pair m t h)) ∙ some_kept m t h)

-- ---- What it does

does_both : (y : PairVersion) (a : RecordedAct) → does (role_of y) a ≡ true
does_both versions.Zero Recv = refl
does_both versions.Zero (Send m) = refl
does_both versions.One Recv = refl
does_both versions.One (Send m) = refl

no_contexts : (y : PairVersion) (z : Setting) → z.role ≡ role_of y → has_contexts z ≡ false
no_contexts versions.Zero z h = rw h refl
no_contexts versions.One z h = rw h refl

stateless : (y : PairVersion) (z : Setting) (before : List Entry) (c : ℕ) (a : RecordedAct) → z.role ≡ role_of y → is_state z before c a ≡ false
stateless versions.Zero z before c a h = rw h refl
stateless versions.One z before c a h = rw h refl

pub does_is : (m : Pair) (t : Moment) (c : ℕ) (a : RecordedAct) → Ties m t → (does t.z.role a && ((c == 0) || has_contexts t.z)) ≡ (c == 0)
does_is m t c a h =
    ap (λ (r : Role). does r a && ((c == 0) || has_contexts t.z)) (is_pair m t h) ∙ ap (λ (b : Bool). b && ((c == 0) || has_contexts t.z)) (does_both m.version a) ∙ ap (λ (b : Bool). (c == 0) || b) (no_contexts m.version t.z (is_pair m t h)) ∙ or_false (c == 0)
  where
    or_false : (b : Bool) → (b || false) ≡ b
    or_false true = refl
    or_false false = refl

pub no_state : (m : Pair) (t : Moment) (c : ℕ) (a : RecordedAct) → Ties m t → is_state t.z (past t) c a ≡ false
no_state m t c a h = stateless m.version t.z (past t) c a (is_pair m t h)

-- one pipe at a time
pub one_pipe : (m : Pair) (t : Moment) → Ties m t → is_a_pair t.z.role ≡ true
one_pipe m t h = ap is_a_pair (is_pair m t h) ∙ go m.version
  where
    go : (y : PairVersion) → is_a_pair (role_of y) ≡ true
    go versions.Zero = refl
    go versions.One = refl

-- ---- What an operation was

pub is_sent : {A : Type 0} (a : RecordedAct) → is_recv a ≡ false → None ≡ message_of a → A
is_sent Recv h e = absurd cc
is_sent (Send m) h e = absurd cc

pub is_received : {A : Type 0} (a : RecordedAct) (o : Option RecordedMessage) → is_recv a ≡ true → o ≡ message_of a → is_some o ≡ true → A
is_received Recv None h e k = absurd cc
is_received Recv (Some m) h e k = absurd cc
is_received (Send m) o h e k = absurd cc

-- ---- Never

pub never_floods : {A : Type 0} (m : Pair) (t : Moment) → Ties m t → floods t.z.role ≡ true → A
never_floods m t h f = let k : true ≡ false = sym f ∙ no_floods m.version t.z (is_pair m t h) in absurd cc

pub never_again : {A : Type 0} (m : Pair) (t : Moment) (c p : ℕ) (r : LiveRequest) → Ties m t → CanAgain t c p r → A
never_again m t c p r h k = let q : true ≡ false = sym k.sends_again ∙ no_resends m.version t.z (is_pair m t h) in absurd cc

pub never_flood : {A : Type 0} (m : Pair) (t : Moment) (op : OpName) (s : Begun) (b : List ℕ) → Ties m t → CanFlood t op s b → A
never_flood m t op s b h k = never_floods m t h k.floods_all

pub never_topics : {A : Type 0} (m : Pair) (t : Moment) → Ties m t → has_topics t.z ≡ true → A
never_topics m t h f = let k : true ≡ false = sym f ∙ no_topics m.version t.z (is_pair m t h) in absurd cc
