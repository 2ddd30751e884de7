-- What both versions have in common, and what a hop count does.
use Rattle.std.proofs.Common.{◌≡◌, refl, ap, sym, ◌∙◌, List, [], ◌∷◌, ◌++◌, ℕ, Bool, true, false, cond, arith, Option, Some, None, ◌<◌, ◌/◌, ◌%◌}
use Rattle.std.specs.Prelude.{filter, not, ◌&&◌, ◌||◌, find, is_some}
use Rattle.std.specs.Int.{w32, to_be_bytes}
use Rattle.sp_base.specs.declared.OpName.{OpName}
use Rattle.sp_base.specs.declared.role.Role.{Role}
use Rattle.sp_base.specs.declared.role.Role.TheVariants as role
use Rattle.sp_history.specs.declared.setting.Setting.{Setting}
use Rattle.sp_history.specs.declared.entry.RecordedAct.{RecordedAct}
use Rattle.sp_history.specs.declared.entry.RecordedAct.TheVariants.{Recv, Send}
use Rattle.sp_history.specs.declared.entry.RecordedMessage.{RecordedMessage}
use Rattle.sp_history.specs.declared.parts.Begun.{Begun}
use Rattle.sp_history.specs.declared.parts.Item.{Item}
use Rattle.sp_history.specs.declared.parts.LiveRequest.{LiveRequest}
use Rattle.sp_history.specs.declared.parts.Origin.{Origin}
use Rattle.sp_history.specs.Lists.{is_nil}
use Rattle.sp_history.specs.Setting.{is_reply, is_sub, floods, has_requests, has_topics, has_hops, resends}
use Rattle.sp_history.specs.Hops.{hop_word, next_hops}
use Rattle.sp_history.specs.Kept.{add_item, add_for, wanted_for}
use Rattle.sp_history.specs.Past.{is_of, without_begun}
use Rattle.sp_history.specs.Sends.{may_go, bytes_for, lacks_hops}
use Rattle.proto_pair.specs.declared.PairVersion.{PairVersion}
use Rattle.proto_pair.specs.declared.PairVersion.TheVariants as versions
use Rattle.proto_pair.specs.Pairs.{role_of, counts, is_stray}

-- ---- By the role

pub no_reply : (y : PairVersion) (z : Setting) → z.role ≡ role_of y → is_reply z.role ≡ false
no_reply versions.Zero z h = rw h refl
no_reply versions.One z h = rw h refl

pub no_requests : (y : PairVersion) (z : Setting) → z.role ≡ role_of y → has_requests z ≡ false
no_requests versions.Zero z h = rw h refl
no_requests versions.One z h = rw h refl

pub no_topics : (y : PairVersion) (z : Setting) → z.role ≡ role_of y → has_topics z ≡ false
no_topics versions.Zero z h = rw h refl
no_topics versions.One z h = rw h refl

pub no_resends : (y : PairVersion) (z : Setting) → z.role ≡ role_of y → resends z ≡ false
no_resends versions.Zero z h = rw h refl
no_resends versions.One z h = rw h refl

pub no_floods : (y : PairVersion) (z : Setting) → z.role ≡ role_of y → floods z.role ≡ false
no_floods versions.Zero z h = rw h refl
no_floods versions.One z h = rw h refl

pub hops_are : (y : PairVersion) (z : Setting) (raw : Bool) → z.role ≡ role_of y → z.raw ≡ raw → has_hops z ≡ counts y raw
hops_are versions.Zero z raw h k = rw h refl
hops_are versions.One z raw h k = rw (h, k) refl

pub adds : (y : PairVersion) (z : Setting) (i : Option Item) (is : List Item) → add_for (role_of y) z i is ≡ add_item i is
adds versions.Zero z i is = refl
adds versions.One z i is = refl

pub wants : (y : PairVersion) (raw : Bool) (p : ℕ) (is : List Item) → wanted_for (role_of y) raw p is ≡ is_nil is
wants versions.Zero raw p is = refl
wants versions.One raw p is = refl

-- ---- Hop counts

some_if : {A : Type 0} (o : Option A) → not (is_some o) ≡ false → is_some o ≡ true
some_if None h = cc
some_if (Some x) h = refl

none_if : {A : Type 0} (o : Option A) → not (is_some o) ≡ true → is_some o ≡ false
none_if None h = refl
none_if (Some x) h = cc

-- where a send needs no hop count or has one, it may go to every pipe
pub goes : (y : PairVersion) (raw : Bool) (o : Option Origin) (m : RecordedMessage) (p : ℕ) → (counts y raw && lacks_hops (Send m)) ≡ false → may_go (role_of y) raw o m.header p ≡ true
goes versions.Zero raw o m p h = refl
goes versions.One false o m p h = refl
goes versions.One true o m p h = some_if (next_hops m.header) h

-- otherwise to none
pub goes_not : (y : PairVersion) (raw : Bool) (o : Option Origin) (m : RecordedMessage) (p : ℕ) → (counts y raw && lacks_hops (Send m)) ≡ true → may_go (role_of y) raw o m.header p ≡ false
goes_not versions.Zero raw o m p h = cc
goes_not versions.One false o m p h = cc
goes_not versions.One true o m p h = none_if (next_hops m.header) h

-- and some bytes go out for it
pub bytes_there : (y : PairVersion) (raw : Bool) (o : Option Origin) (r : Option LiveRequest) (m : RecordedMessage) → (counts y raw && lacks_hops (Send m)) ≡ false → (b : List ℕ) × (bytes_for (role_of y) raw o r m ≡ Some b)
bytes_there versions.Zero raw o r m h = (m.body, refl)
bytes_there versions.One false o r m h = (hop_word 1 ++ m.body, refl)
bytes_there versions.One true o r m h = go (next_hops m.header) refl h
  where
    go : (n : Option ℕ) → next_hops m.header ≡ n → not (is_some n) ≡ false → (b : List ℕ) × (bytes_for role.Pair1 true o r m ≡ Some b)
    go None e k = cc
    go (Some n) e k = (hop_word n ++ m.body, rw e refl)

-- ---- Operations that are left

none_without : (f : Begun → Bool) (ss : List Begun) (op : OpName) → filter f ss ≡ [] → filter f (without_begun ss op) ≡ []
none_without f [] op h = refl
none_without f (s ∷ ss) op h = go (f s) refl h (is_of op s) (none_without f ss op)
  where
    go : (b : Bool) → f s ≡ b → cond b (s ∷ filter f ss) (filter f ss) ≡ [] → (c : Bool) → (filter f ss ≡ [] → filter f (without_begun ss op) ≡ []) → filter f (cond (not c) (s ∷ without_begun ss op) (without_begun ss op)) ≡ []
    go true e k c again = absurd cc
    go false e k true again = again k
    go false e k false again = rw e (again k)

pub stray_without : (y : PairVersion) (raw : Bool) (ss : List Begun) (op : OpName) → filter (is_stray y raw) ss ≡ [] → filter (is_stray y raw) (without_begun ss op) ≡ []
stray_without y raw ss op h = none_without (is_stray y raw) ss op h

pub none_more : (f : Begun → Bool) (ss : List Begun) (s : Begun) → filter f ss ≡ [] → f s ≡ false → filter f (ss ++ s ∷ []) ≡ []
none_more f [] s h e = rw e refl
none_more f (x ∷ ss) s h e = go (f x) h (none_more f ss s)
  where
    go : (b : Bool) → cond b (x ∷ filter f ss) (filter f ss) ≡ [] → (filter f ss ≡ [] → f s ≡ false → filter f (ss ++ s ∷ []) ≡ []) → cond b (x ∷ filter f (ss ++ s ∷ [])) (filter f (ss ++ s ∷ [])) ≡ []
    go true k again = absurd cc
    go false k again = again k e

-- one that is found isn't among those that aren't there
pub found_not : (f g : Begun → Bool) (ss : List Begun) (s : Begun) → filter f ss ≡ [] → find g ss ≡ Some s → f s ≡ false
found_not f g [] s h e = absurd cc
found_not f g (x ∷ ss) s h e = go (f x) refl h (g x) e (found_not f g ss s)
  where
    some_inj : Some x ≡ Some s → x ≡ s
    some_inj q = cc

    go : (b : Bool) → f x ≡ b → cond b (x ∷ filter f ss) (filter f ss) ≡ [] → (c : Bool) → cond c (Some x) (find g ss) ≡ Some s → (filter f ss ≡ [] → find g ss ≡ Some s → f s ≡ false) → f s ≡ false
    go true q k c e again = absurd cc
    go false q k true e again = sym (ap f (some_inj e)) ∙ q
    go false q k false e again = again k e

-- the strays are those without a hop count, where one is needed
pub strays_are : (y : PairVersion) (raw : Bool) (ss : List Begun) → counts y raw ≡ true → filter (is_stray y raw) ss ≡ filter (λ (s : Begun). lacks_hops s.act) ss
strays_are y raw [] h = refl
strays_are y raw (s ∷ ss) h =
    ap (λ (b : Bool). cond (b && lacks_hops s.act) (s ∷ filter (is_stray y raw) ss) (filter (is_stray y raw) ss)) h
    ∙ ap (λ (rest : List Begun). cond (lacks_hops s.act) (s ∷ rest) rest) (strays_are y raw ss h)

pub strays_none : (y : PairVersion) (raw : Bool) (ss : List Begun) → counts y raw ≡ false → filter (is_stray y raw) ss ≡ []
strays_none y raw [] h = refl
strays_none y raw (s ∷ ss) h =
    ap (λ (b : Bool). cond (b && lacks_hops s.act) (s ∷ filter (is_stray y raw) ss) (filter (is_stray y raw) ss)) h ∙ strays_none y raw ss h

-- ---- The word of a count

pub word_is : (n : ℕ) → n < 256 → to_be_bytes w32 n ≡ hop_word n
word_is n h = four (n / 16777216 % 256) (n / 65536 % 256) (n / 256 % 256) (n % 256) (omega (arith, h)) (omega (arith, h)) (omega (arith, h)) (omega (arith, h))
  where
    four : (a b c d : ℕ) → a ≡ 0 → b ≡ 0 → c ≡ 0 → d ≡ n → a ∷ b ∷ c ∷ d ∷ [] ≡ hop_word n
    four a b c d e f g k = rw (e, f, g, k) refl
