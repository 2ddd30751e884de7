-- The send that goes to many pipes, among the operations that are pending: how it goes out and ends.
use Rattle.std.proofs.Common.{◌≡◌, refl, ap, sym, ◌∙◌, subst, List, [], ◌∷◌, ℕ, Bool, true, false, cond, arith, Option, Some, None}
use Rattle.std.specs.Prelude.{find, filter, not, MatchOption, IfSome, ◌||◌, ◌==◌}
use Rattle.std.proofs.lemmas.Bool.{not-true, not_from_true, not_from_false}
use Rattle.std.proofs.lemmas.Bool.Decides.{nat_tests}
use Rattle.std.proofs.lemmas.Option.{cond_some, same_Some}
use Rattle.sp_base.specs.declared.OpName.{OpName}
use Rattle.sp_history.specs.declared.entry.RecordedAct.{RecordedAct}
use Rattle.sp_history.specs.declared.entry.RecordedAct.TheVariants.{Recv, Send}
use Rattle.sp_history.specs.declared.entry.Completion.TheVariants.{Sent}
use Rattle.sp_history.specs.declared.entry.Ending.{Ending}
use Rattle.sp_history.specs.declared.entry.Ending.TheVariants.{Won}
use Rattle.sp_history.specs.declared.entry.Entry.TheVariants.{End, Out}
use Rattle.sp_history.specs.declared.entry.RecordedMessage.{RecordedMessage}
use Rattle.sp_history.specs.declared.parts.Begun.{Begun}
use Rattle.sp_history.specs.Setting.{floods}
use Rattle.sp_history.specs.Lists.{has, head_of, same_op}
use Rattle.sp_history.specs.Past.{is_of, without_begun, pend, pending, up}
use Rattle.sp_history.specs.Kept.{route}
use Rattle.sp_history.specs.Sends.{may_go, targets, targets_of, bytes_of}
use Rattle.sp_history.specs.Legal.{is_recv, is_part_of_send, sending, MayEndAs}
use Rattle.sp_history.specs.Once.{AreApart}
use Rattle.sp_history.specs.Moments.{Moment, Lawful, past, also}
use Rattle.sp_history.proofs.OnceHolds.{same_op-eq}
use Rattle.sp_proto.specs.Machines.{CanFlood, message_of}
use Rattle.proto_shared.specs.Waits.{is_send, first_name}
use Rattle.proto_shared.proofs.Splits.{find_passing, without_passing, other_stay}
use Rattle.proto_shared.proofs.Firsts.{first_found, passes_first, first_is}
use Rattle.proto_shared.specs.Copies.{HasCopies, IsOnlyFlood, HasFlood}
use Rattle.proto_shared.proofs.Copying.{lawful_before, went_out}
use Rattle.proto_shared.proofs.FloodTurns.{no_flood, goes_on}

-- what is found passes the test
pub passes : {X : Type 0} (f : X → Bool) (xs : List X) (x : X) → find f xs ≡ Some x → f x ≡ true
passes f [] x h = absurd cc
passes f (y ∷ xs) x h = go (f y) refl h (passes f xs x)
  where
    go : (b : Bool) → f y ≡ b → cond b (Some y) (find f xs) ≡ Some x → (find f xs ≡ Some x → f x ≡ true) → f x ≡ true
    go true e q again = sym (ap f (same_Some y x q)) ∙ e
    go false e q again = again q

-- what holds of all that it can be holds of it
pub of_some : {X : Type 0} (r : Option X) (P : X → Type 0) → ((x : X) → r ≡ Some x → P x) → IfSome r P
of_some None P h = tt
of_some (Some x) P h = h x refl

-- ---- Sends and receives

pub a_send : (a : RecordedAct) → is_recv a ≡ false → (m : RecordedMessage) × (a ≡ Send m)
a_send Recv h = absurd cc
a_send (Send m) h = (m, refl)

pub is_a_send : (a : RecordedAct) (x : RecordedMessage) → Some x ≡ message_of a → is_recv a ≡ false
is_a_send Recv x h = absurd cc
is_a_send (Send m) x h = refl

pub is_a_receive : (a : RecordedAct) → None ≡ message_of a → is_recv a ≡ true
is_a_receive Recv h = refl
is_a_receive (Send m) h = absurd cc

-- what is won as sent is a send
pub won_send : (t : Moment) (op : OpName) (s : Begun) → Lawful (also t (End op (Won Sent))) → pending (past t) op ≡ Some s → is_recv s.act ≡ false
won_send t op s l p = not-true (is_recv s.act) (subst (λ (o : Option Begun). MatchOption o ⊥ (MayEndAs t.z (past t) (Won Sent))) p l.turn.0.itself).0

-- ---- Its identity

-- the send of this name is the only one that is pending, and its copies are there
pub the_flood : (n : ℕ) (AreOf : Begun → Type 0) (t : Moment) (op : OpName) (s : Begun) → Lawful t → HasFlood t n AreOf → pending (past t) op ≡ Some s → is_recv s.act ≡ false → (sending (pend (past t)) ≡ s ∷ []) × HasCopies t.z (past t) n × AreOf s
the_flood n AreOf t op s l h p is = go (sending (pend (past t))) (h l) (find_passing is_send (pend (past t)) op s p (not_from_false (is_recv s.act) is))
  where
    go : (xs : List Begun) → IsOnlyFlood t.z (past t) n AreOf xs → find (is_of op) xs ≡ Some s → (xs ≡ s ∷ []) × HasCopies t.z (past t) n × AreOf s
    go [] f q = absurd cc
    go (x ∷ xs) f q =
        let same : x ≡ s = (cond_some (is_of op x) x s (rw f.2 at q)).1 in
        (ap (λ (rest : List Begun). x ∷ rest) f.2 ∙ ap (λ (y : Begun). y ∷ []) same, f.0, subst AreOf same f.1)

-- the first send can go to many pipes, where its bytes are its message's body
pub can_flood : (t : Moment) (op : OpName) → floods t.z.role ≡ true → ((s : Begun) (m : RecordedMessage) → s.act ≡ Send m → bytes_of t.z (past t) s ≡ Some m.body) → AreApart (pend (past t)) → Some op ≡ first_name (sending (pend (past t))) → (s : Begun) × (b : List ℕ) × CanFlood t op s b
can_flood t op f bytes apart e =
    let s = first_is (sending (pend (past t))) op e in
    let is : is_recv s.0.act ≡ false = not-true (is_recv s.0.act) (passes_first is_send (pend (past t)) s.0 s.1) in
    let sent = a_send s.0.act is in
    let can : CanFlood t s.0.op s.0 sent.0.body = record { pending = first_found is_send (pend (past t)) s.0 apart s.1; is_send = is; bytes = bytes s.0 sent.0 sent.1; floods_all = f } in
    (s.0, sent.0.body, subst (λ (o : OpName). CanFlood t o s.0 sent.0.body) s.2 can)

pub none_sending : (ss : List Begun) → None ≡ first_name ss → ss ≡ []
none_sending [] e = refl
none_sending (s ∷ ss) e = absurd cc

-- ---- It goes out

has_filter : (f : ℕ → Bool) (us : List ℕ) (p : ℕ) → has us p ≡ true → has (filter f us) p ≡ f p
has_filter f [] p h = absurd cc
has_filter f (u ∷ us) p h = go (u == p) refl (f u) refl h (has_filter f us p)
  where
    equal : (m n : ℕ) → (m == n) ≡ true → m ≡ n
    equal m n e = grind (arith, nat_tests)

    none : (us : List ℕ) → f p ≡ false → has (filter f us) p ≡ false
    none [] e = refl
    none (v ∷ us) e = step (f v) refl (v == p) refl (none us e)
      where
        step : (a : Bool) → f v ≡ a → (b : Bool) → (v == p) ≡ b → has (filter f us) p ≡ false → has (cond a (v ∷ filter f us) (filter f us)) p ≡ false
        step true g true q k = let no : true ≡ false = sym g ∙ ap f (equal v p q) ∙ e in absurd cc
        step true g false q k = ap (λ b. b || has (filter f us) p) q ∙ k
        step false g b q k = k

    go : (b : Bool) → (u == p) ≡ b → (a : Bool) → f u ≡ a → (b || has us p) ≡ true → (has us p ≡ true → has (filter f us) p ≡ f p) → has (cond a (u ∷ filter f us) (filter f us)) p ≡ f p
    go true e true g k again = ap (λ b. b || has (filter f us) p) e ∙ sym g ∙ ap f (equal u p e)
    go true e false g k again =
        let no : f p ≡ false = sym (ap f (equal u p e)) ∙ g in
        none us no ∙ sym no
    go false e true g k again = ap (λ b. b || has (filter f us) p) e ∙ again k
    go false e false g k again = again k

-- a pipe that is up is a target where the role lets the message go there
pub goes_to : (t : Moment) (s : Begun) (m : RecordedMessage) (p : ℕ) → s.act ≡ Send m → has (up (past t)) p ≡ true → has (targets t.z (past t) s) p ≡ may_go t.z.role t.z.raw (route t.z (past t) s.op) m.header p
goes_to t s m p is h = ap (λ (a : RecordedAct). has (targets_of t.z (past t) s.op a) p) is ∙ has_filter (may_go t.z.role t.z.raw (route t.z (past t) s.op) m.header) (up (past t)) p h

-- it goes out on one more pipe
pub goes_out : (n m : ℕ) (AreOf BeOf : Begun → Type 0) (t : Moment) (op : OpName) (s : Begun) (b : List ℕ) (p : ℕ) → Lawful t → HasFlood t n AreOf → CanFlood t op s b → BeOf s → HasFlood (also t (Out p b)) m BeOf
goes_out n m AreOf BeOf t op s b p l h c is =
    λ again. subst (λ (ss : List Begun). IsOnlyFlood t.z (Out p b ∷ past t) m BeOf ss) (sym (the_flood n AreOf t op s l h c.pending c.is_send).0) (went_out t.z (past t) p b m c.floods_all, is, refl)

-- ---- Ends

-- where it ends, no send is left
pub send_ends : (n m : ℕ) (AreOf BeOf : Begun → Type 0) (t : Moment) (op : OpName) (s : Begun) (ending : Ending) → HasFlood t n AreOf → pending (past t) op ≡ Some s → is_recv s.act ≡ false → HasFlood (also t (End op ending)) m BeOf
send_ends n m AreOf BeOf t op s ending h p is = λ l. no_flood m BeOf (also t (End op ending)) (none_left (lawful_before t (End op ending) l)) l
  where
    gone : (b : Bool) → b ≡ true → cond (not b) (s ∷ []) [] ≡ []
    gone b e = rw e refl

    none_left : Lawful t → sending (without_begun (pend (past t)) op) ≡ []
    none_left l = without_passing is_send (pend (past t)) op ∙ ap (λ (xs : List Begun). without_begun xs op) (the_flood n AreOf t op s l h p is).0 ∙ gone (is_of op s) (passes (is_of op) (pend (past t)) s p)

-- the send that is pending has a different name from a receive
other_name : (ss : List Begun) (op : OpName) (s r : Begun) → AreApart ss → find (is_of op) ss ≡ Some s → is_recv s.act ≡ true → head_of (sending ss) ≡ Some r → same_op op r.op ≡ false
other_name ss op s r apart p is e = go (same_op op r.op) refl
  where
    go : (b : Bool) → same_op op r.op ≡ b → b ≡ false
    go false f = refl
    go true f =
        let here : find (is_of op) ss ≡ Some r = subst (λ (o : OpName). find (is_of o) ss ≡ Some r) (sym (same_op-eq op r.op f)) (first_found is_send ss r apart e) in
        let receive : is_recv r.act ≡ true = ap (λ (x : Begun). is_recv x.act) (same_Some r s (sym here ∙ p)) ∙ is in
        let bad : true ≡ false = sym receive ∙ not-true (is_recv r.act) (passes_first is_send ss r e) in absurd cc

-- a receive that ends doesn't concern a send
pub receive_ends : {AreOf BeOf : Begun → Type 0} (n : ℕ) (t : Moment) (op : OpName) (s : Begun) (ending : Ending) → AreApart (pend (past t)) → pending (past t) op ≡ Some s → is_recv s.act ≡ true → is_part_of_send t.z (End op ending) ≡ false → ((r : Begun) → same_op op r.op ≡ false → AreOf r → BeOf r) → HasFlood t n AreOf
    → HasFlood (also t (End op ending)) n BeOf
receive_ends n t op s ending apart p is part k h = goes_on n t (End op ending) part refl (other_stay is_send (pend (past t)) op s apart p (not_from_true (is_recv s.act) is)) (λ r e. k r (other_name (pend (past t)) op s r apart p is e)) h
