-- One caller: every turn is its own.
use Rattle.std.proofs.Common.{◌≡◌, refl, ap, sym, ◌∙◌, subst, List, [], ◌∷◌, ◌++◌, ℕ, ◌≤◌, Bool, true, false, cond, arith, rules, Option, Some, None, Result, Ok, Err}
use Rattle.std.specs.Prelude.{◌==◌, IfOk}
use Rattle.std.proofs.lemmas.Bool.Decides.{nat_tests}
use Rattle.std.proofs.lemmas.List.{append_assoc, append-nil}
use Rattle.turn_lock.specs.declared.turn.Turn.{Turn}
use Rattle.turn_lock.specs.History.{turns_of, OthersAfter}
use Rattle.sp_base.specs.declared.OpName.{OpName}
use Rattle.aio_word.specs.declared.rule.ShownOperation as word
use Rattle.sp_history.specs.declared.entry.Entry.{Entry}
use Rattle.sp_history.specs.declared.setting.Setting.{Setting}
use Rattle.sp_history.specs.Past.{onto, past_of, pending}
use Rattle.sp_history.specs.Legal.{Legal, LegalFrom}
use Rattle.sp_history.specs.Settled.{Settled}
use Rattle.sp_core.specs.declared.label.CoreLabel.{CoreLabel}
use Rattle.sp_core.specs.Collecting.{IsOpen, CollectedBy}
use Rattle.sp_socket.specs.Passes.{SocketName, PassView, ListView, IsOf, IsSamePass, KeepsSeat}
use Rattle.sp_socket.specs.Open.{KeepsPass, IsOpenFor, TakesNoTurn}
use Rattle.sp_socket.specs.Expiring.{WinsAndReads, wins_and_reads}
use Rattle.sp_socket.specs.Open as opens
use Rattle.sp_core.specs.declared.calls.collect.Collected.{Collected}
use Rattle.sp_core.specs.declared.calls.collect.Collected.TheVariants as collected
use Rattle.sp_socket.specs.Turns.{TookTurn, ReadsFor}
use Rattle.sp_socket.specs.Singles.{SingleView, single_of, setting_in, cancelled_in, known_of, IsSingle, IsStill, TookOne, KeepsOpen, KeepsAllBut, StaysOpen, StaysPending}

-- in a legal history of one caller all turns are its own
pub all_own : (z : Setting) (past : List Entry) (h : List (Turn Entry)) → z.callers ≡ 1 → LegalFrom z past h → turns_of 1 h ≡ h
all_own z past [] e l = refl
all_own z past (t ∷ h) e l = go (t.number == 1) refl (all_own z (onto t.entries past) h e l.1)
  where
    go : (b : Bool) → (t.number == 1) ≡ b → turns_of 1 h ≡ h → cond b (t ∷ turns_of 1 h) (turns_of 1 h) ≡ t ∷ h
    go true f rest = ap (λ (ts : List (Turn Entry)). t ∷ ts) rest
    go false f rest = absurd (grind (arith, nat_tests, e, l.0.is_caller.0, l.0.is_caller.1, f))

legal_prefix : (z : Setting) (past : List Entry) (h g : List (Turn Entry)) → LegalFrom z past (h ++ g) → LegalFrom z past h
legal_prefix z past [] g l = tt
legal_prefix z past (t ∷ h) g l = (l.0, legal_prefix z (onto t.entries past) h g l.1)

setting_of_label : (l : Option CoreLabel) (label : CoreLabel) → l ≡ Some label → setting_in l ≡ label.setting
setting_of_label l label e = ap setting_in e

-- there are no turns between, since they would be of another number
legal_behind : (z : Setting) (past : List Entry) (h g : List (Turn Entry)) → LegalFrom z past (h ++ g) → (early : List Entry) × LegalFrom z early g
legal_behind z past [] g l = (past, l)
legal_behind z past (t ∷ h) g l = legal_behind z (onto t.entries past) h g l.1

no_others : (z : Setting) (n : ℕ) (seen past : List (Turn Entry)) (t : Turn Entry) → n ≡ 1 → t.number ≡ n → z.callers ≡ 1 → Legal z (past ++ t ∷ []) → OthersAfter n seen past → past ≡ seen
no_others z n seen past t one e c l (between, is, none) =
    let early = legal_behind z [] seen (between ++ t ∷ []) (subst (λ (h : List (Turn Entry)). Legal z h) (ap (λ (h : List (Turn Entry)). h ++ t ∷ []) is ∙ append_assoc seen between (t ∷ [])) l) in
    let own = all_own z early.0 between c (legal_prefix z early.0 between (t ∷ []) early.1) in
    is ∙ ap (λ (g : List (Turn Entry)). seen ++ g) (sym own ∙ ap (λ (m : ℕ). turns_of m between) (sym one) ∙ none) ∙ append-nil seen

some_same : {A : Type 0} (a b : A) → Some a ≡ Some b → a ≡ b
some_same a b e = search (e, rules)

module _ (s : SocketName) (l : ListView) (p q : PassView) (says : Setting → List (Turn Entry) → Turn Entry → Type 0) where
  -- the setting of the turn is the pass's
  setting_is : TookTurn says p q → (t : TookTurn says p q) → setting_in p.label ≡ t.label.setting
  setting_is u t = ap setting_in t.label_is

  one_caller : IsSingle s l p → (t : TookTurn says p q) → t.label.setting.callers ≡ 1
  one_caller i t =
      ap (λ (z : Setting). z.callers) (sym (ap setting_in t.label_is) ∙ ap setting_in i.own.1.1) ∙ i.own.1.3 ∙ i.one

  own_all : IsSingle s l p → IsSamePass p q → (t : TookTurn says p q) → q.mine ≡ q.seen
  own_all i same t =
      t.exact ∙ ap (λ (n : ℕ). turns_of n q.seen) (same.0 ∙ i.number) ∙ all_own t.label.setting [] q.seen (one_caller i t) t.legal

  -- the pass is still the socket's only one
  pub keeps : IsSingle s l p → IsSamePass p q → TookTurn says p q → IsSingle s l q
  keeps i same t =
      record {
        own = (same.1 ∙ i.own.0, (i.own.1.0, same.2 ∙ i.own.1.1, i.own.1.2, i.own.1.3));
        one = i.one;
        out = i.out;
        callers = i.callers;
        lock = i.lock;
        number = same.0 ∙ i.number;
        mine = own_all i same t;
        legal = subst (λ (z : Setting). Legal z q.seen) (sym (ap setting_in (same.2 ∙ t.label_is))) t.legal;
        settled = subst (λ (z : Setting). Settled z q.seen) (sym (ap setting_in (same.2 ∙ t.label_is))) t.settled;
      }

  -- what it had seen is all that was before its turn
  all_seen : IsSingle s l p → IsSamePass p q → (t : TookTurn says p q) → t.past ≡ p.seen
  all_seen i same t = no_others t.label.setting p.number p.seen t.past t.turn i.number t.number (one_caller i t) (subst (λ (h : List (Turn Entry)). Legal t.label.setting h) t.seen t.legal) t.others

  -- one more turn
  took_one : (tells : Setting → List (Turn Entry) → Turn Entry → Type 0) → ((z : Setting) (h : List (Turn Entry)) (t : Turn Entry) → says z h t → tells z h t) → IsSingle s l p → IsSamePass p q → cancelled_in q.wins ≡ cancelled_in p.wins → (t : TookTurn says p q) → TookOne tells (single_of p) (single_of q)
  took_one tells tell i same none t =
      let e = all_seen i same t in
      let z = ap setting_in t.label_is in
      record {
        turn = t.turn;
        setting = ap setting_in same.2;
        seen = t.seen ∙ ap (λ (h : List (Turn Entry)). h ++ t.turn ∷ []) e;
        number = t.number ∙ i.number;
        legal = subst (λ (z : Setting). Legal z q.seen) (sym (ap setting_in (same.2 ∙ t.label_is))) t.legal;
        settled = subst (λ (z : Setting). Settled z q.seen) (sym (ap setting_in (same.2 ∙ t.label_is))) t.settled;
        said = subst (λ (z : Setting). tells z p.seen t.turn) (sym z) (subst (λ (h : List (Turn Entry)). tells t.label.setting h t.turn) e (tell t.label.setting t.past t.turn t.said));
        cancelled = none;
      }

  -- the same, for what contracts see of the socket before the turn
  pub took : (v : SingleView) (tells : Setting → List (Turn Entry) → Turn Entry → Type 0) → single_of p ≡ v → IsSingle s l p → IsSamePass p q → cancelled_in q.wins ≡ cancelled_in p.wins → TookTurn says p q → ((z : Setting) (h : List (Turn Entry)) (t : Turn Entry) → says z h t → tells z h t) → TookOne tells v (single_of q)
  took v tells e i same none t tell = subst (λ (u : SingleView). TookOne tells u (single_of q)) e (took_one tells tell i same none t)

-- the same, for a statement about the caller's number
pub took_by : (s : SocketName) (l : ListView) (p q : PassView) (says : ℕ → Setting → List (Turn Entry) → Turn Entry → Type 0) (v : SingleView) → single_of p ≡ v → IsSingle s l p → IsSamePass p q → cancelled_in q.wins ≡ cancelled_in p.wins → TookTurn (says p.number) p q → TookOne (says 1) v (single_of q)
took_by s l p q says v e i same none t =
    took s l p q (says p.number) v (says 1) e i same none t (λ z h u x. subst (λ (n : ℕ). says n z h u) i.number x)

-- what was open for the pass still is for the caller
pub stays_open : (s : SocketName) (l : ListView) (p q : PassView) (v : SingleView) → single_of p ≡ v → IsSingle s l p → IsSingle s l q → opens.KeepsOpen p q → KeepsOpen v (single_of q)
stays_open s l p q v e i j keep =
    subst (λ (u : SingleView). KeepsOpen u (single_of q)) e (λ op o. subst (λ (h : List (Turn Entry)). IsOpen 1 op h) j.mine (subst (λ (n : ℕ). IsOpen n op q.mine) j.number (keep op (subst (λ (n : ℕ). IsOpen n op p.mine) (sym i.number) (subst (λ (h : List (Turn Entry)). IsOpen 1 op h) (sym i.mine) o)))))

-- what is open for the pass is for the caller
pub is_open : (s : SocketName) (l : ListView) (q : PassView) (op : OpName) → IsSingle s l q → IsOpenFor q op → IsOpen 1 op q.seen
is_open s l q op j o = subst (λ (h : List (Turn Entry)). IsOpen 1 op h) j.mine (subst (λ (n : ℕ). IsOpen n op q.mine) j.number o)

-- an open operation of the history is open for the pass
pub open_for : (s : SocketName) (l : ListView) (p : PassView) (v : SingleView) (op : OpName) → single_of p ≡ v → IsSingle s l p → IsOpen 1 op v.seen → IsOpen p.number op p.mine
open_for s l p v op e i o =
    subst (λ (n : ℕ). IsOpen n op p.mine) (sym i.number) (subst (λ (h : List (Turn Entry)). IsOpen 1 op h) (sym (i.mine ∙ ap (λ (u : SingleView). u.seen) e)) o)

-- one that was open for the pass before, and is still, is for the caller
open_one : (s : SocketName) (l : ListView) (p q : PassView) (v : SingleView) (op : OpName) → single_of p ≡ v → IsSingle s l p → IsSingle s l q → (IsOpenFor p op → IsOpenFor q op) → IsOpen 1 op v.seen → IsOpen 1 op q.seen
open_one s l p q v op e i j keep o = is_open s l q op j (keep (open_for s l p v op e i o))

-- so are all except the one that was collected
pub others_open : (s : SocketName) (l : ListView) (p q : PassView) (r : Collected) (op : OpName) (v : SingleView) → single_of p ≡ v → IsSingle s l p → IsSingle s l q → opens.KeepsOthers r op p q → KeepsAllBut r op v (single_of q)
others_open s l p q (collected.NotYet o) op v e i j k = stays_open s l p q v e i j k
others_open s l p q (collected.Ended outcome) op v e i j k = λ other apart o. open_one s l p q v other e i j (k other apart) o

-- a call that leaves the seat cancels nothing
pub seat_kept : (p q : PassView) → KeepsSeat p q → cancelled_in q.wins ≡ cancelled_in p.wins
seat_kept p q k = ap cancelled_in k.0

-- so does one that reads
pub read_kept : (p q : PassView) (r : Collected) (op : OpName) → ReadsFor r op p q → cancelled_in q.wins ≡ cancelled_in p.wins
read_kept p q (collected.NotYet o) op f = ap cancelled_in f.wins
read_kept p q (collected.Ended outcome) op f = ap cancelled_in f.3.wins

-- ---- A call without a turn

pub keeps_still : (s : SocketName) (l : ListView) (p q : PassView) → IsSingle s l p → TakesNoTurn p q → IsSingle s l q
keeps_still s l p q i k =
    record {
      own = (k.same.1 ∙ i.own.0, (i.own.1.0, k.same.2 ∙ i.own.1.1, i.own.1.2, i.own.1.3));
      one = i.one;
      out = i.out;
      callers = i.callers;
      lock = i.lock;
      number = k.same.0 ∙ i.number;
      mine = k.mine ∙ (i.mine ∙ sym k.seen);
      legal = subst (λ (z : Setting). Legal z q.seen) (sym (ap setting_in k.same.2)) (subst (λ (h : List (Turn Entry)). Legal (setting_in p.label) h) (sym k.seen) i.legal);
      settled = subst (λ (z : Setting). Settled z q.seen) (sym (ap setting_in k.same.2)) (subst (λ (h : List (Turn Entry)). Settled (setting_in p.label) h) (sym k.seen) i.settled);
    }

pub stays_still : (p q : PassView) (v : SingleView) → single_of p ≡ v → TakesNoTurn p q → IsStill v (single_of q)
stays_still p q v e k =
    subst (λ (u : SingleView). IsStill u (single_of q)) e (record { setting = ap setting_in k.same.2; seen = k.seen })

-- what such a call says of its caller's number and of the socket's slots
pub by_one : (s : SocketName) (l : ListView) (p q : PassView) (v : SingleView) (says : ℕ → ℕ → WinsAndReads → WinsAndReads → Type 0) → single_of p ≡ v → IsSingle s l p → says p.number s.words.slots (wins_and_reads p) (wins_and_reads q) → says 1 v.setting.slots (known_of v) (known_of (single_of q))
by_one s l p q v says e i h =
    let slots : s.words.slots ≡ (setting_in p.label).slots = sym i.own.1.2 ∙ ap (λ (z : Setting). z.slots) (sym (ap setting_in i.own.1.1)) in
    subst (λ (u : SingleView). says 1 u.setting.slots (known_of u) (known_of (single_of q))) e (subst (λ (n : ℕ). says 1 n (wins_and_reads p) (wins_and_reads q)) slots (subst (λ (k : ℕ). says k s.words.slots (wins_and_reads p) (wins_and_reads q)) i.number h))

-- where it has not ended it stays open
pub collected_open : (s : SocketName) (l : ListView) (p q : PassView) (r : Collected) (op : OpName) (v : SingleView) → single_of p ≡ v → IsSingle s l p → IsSingle s l q → opens.KeepsOthers r op p q → IsOpen 1 op v.seen → StaysOpen r op (single_of q)
collected_open s l p q (collected.NotYet o) op v e i j k o2 = stays_open s l p q v e i j k op o2
collected_open s l p q (collected.Ended outcome) op v e i j k o2 = tt

-- what is open for the pass is for the caller, where something began
pub opened : (s : SocketName) (l : ListView) (p q : PassView) {E : Type 0} (r : Result OpName E) → IsSingle s l q → IfOk r (opens.OpensFor p q) → IfOk r (λ op. IsOpen 1 op q.seen)
opened s l p q (Ok op) j o = is_open s l q op j o.0
opened s l p q (Err e) j o = tt

-- what has not ended is pending
pub collected_pending : (p q : PassView) (r : Collected) (op : OpName) → TookTurn (λ z h t. CollectedBy r op p.number h t) p q → StaysPending r op (single_of q)
collected_pending p q (collected.NotYet o) op t = (t.said.2.0, subst (λ (h : List (Turn Entry)). pending (past_of h) op ≡ Some t.said.2.0) (sym t.seen) t.said.2.1)
collected_pending p q (collected.Ended outcome) op t = tt
