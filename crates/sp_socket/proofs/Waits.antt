-- Waiting turn by turn.
use Rattle.std.proofs.Common.{◌≡◌, refl, ap, sym, ◌∙◌, subst, List, [], ◌∷◌, ◌++◌, ℕ, ◌+◌, ◌≤◌, Bool, true, false, cond, arith, inl, inr, ◌<◌}
use Rattle.std.specs.Prelude.{◌==◌, ◌⊎◌, is_some}
use Rattle.std.proofs.lemmas.Bool.Decides.{nat_tests}
use Rattle.turn_lock.specs.declared.turn.Turn.{Turn}
use Rattle.turn_lock.specs.History.{turns_of}
use Rattle.sp_base.specs.declared.OpName.{OpName}
use Rattle.aio_word.specs.declared.rule.ShownOperation as word
use Rattle.aio_word.specs.declared.phase.Phase.TheVariants.{Pending}
use Rattle.aio_word.specs.Results.{of_op}
use Rattle.aio_word.specs.Views.{Each}
use Rattle.sp_history.specs.declared.entry.Entry.{Entry}
use Rattle.sp_history.specs.declared.entry.Entry.TheVariants.{End}
use Rattle.sp_history.specs.declared.setting.Setting.{Setting}
use Rattle.sp_history.specs.Lists.{same_op}
use Rattle.sp_history.specs.Past.{onto, past_of, pending}
use Rattle.sp_history.proofs.Appending.{past_of-append}
use Rattle.sp_history.proofs.Filters.{pending_means}
use Rattle.sp_history.specs.Once.{end_count}
use Rattle.sp_history.specs.Legal.{Legal}
use Rattle.core_state.specs.declared.outcome.Outcome.{Outcome}
use Rattle.sp_core.specs.declared.calls.collect.Collected.TheVariants as collected
use Rattle.sp_core.specs.Collecting.{CollectedBy}
use Rattle.sp_socket.specs.Passes.{PassView, SocketName, IsOf, IsSamePass}
use Rattle.sp_socket.specs.Open.{KeepsOpen, TakesNoTurn}
use Rattle.sp_socket.specs.Expiring.{WinsAndReads, IsOfAnother, PolledAs, wins_and_reads}
use Rattle.aio_word.specs.declared.results.Polled.{Polled}
use Rattle.aio_word.specs.declared.results.Polled.TheVariants as polled
use Rattle.sp_socket.specs.Turns.{TookTurn, ReadsFor}
use Rattle.sp_socket.specs.Waiting.{NotEnded, AreCollectings, Waits, WaitedFor, HasLookedOn}
use Rattle.sp_socket.proofs.Acting.{own_more}

-- the pass is still of the socket
pub still_of : (s : SocketName) (p q : PassView) → IsSamePass p q → IsOf s p → IsOf s q
still_of s p q same own = (same.1 ∙ own.0, (own.1.0, same.2 ∙ own.1.1, own.1.2, own.1.3))

pub same_twice : (p q r : PassView) → IsSamePass p q → IsSamePass q r → IsSamePass p r
same_twice p q r a b = (b.0 ∙ a.0, b.1 ∙ a.1, b.2 ∙ a.2)

-- ---- Lists

module _ {A : Type 0} where
  plus_none : (xs : List A) → xs ≡ xs ++ []
  plus_none [] = refl
  plus_none (x ∷ xs) = ap (λ (ys : List A). x ∷ ys) (plus_none xs)

  grouped : (xs ys zs : List A) → (xs ++ ys) ++ zs ≡ xs ++ (ys ++ zs)
  grouped [] ys zs = refl
  grouped (x ∷ xs) ys zs = ap (λ (ws : List A). x ∷ ws) (grouped xs ys zs)

  each_more : (P : A → Type 0) (xs : List A) (x : A) → Each P xs → P x → Each P (xs ++ x ∷ [])
  each_more P [] x h p = (p, tt)
  each_more P (y ∷ xs) x h p = (h.0, each_more P xs x h.1 p)

turns_both : (n : ℕ) (xs ys : List (Turn Entry)) → turns_of n (xs ++ ys) ≡ turns_of n xs ++ turns_of n ys
turns_both n [] ys = refl
turns_both n (t ∷ xs) ys = go (t.number == n) (turns_both n xs ys)
  where
    go : (b : Bool) → turns_of n (xs ++ ys) ≡ turns_of n xs ++ turns_of n ys → cond b (t ∷ turns_of n (xs ++ ys)) (turns_of n (xs ++ ys)) ≡ cond b (t ∷ turns_of n xs) (turns_of n xs) ++ turns_of n ys
    go true h = ap (λ (ts : List (Turn Entry)). t ∷ ts) h
    go false h = h

-- ---- A turn after which the operation is pending

end_grows : (op : OpName) (e : Entry) (p : List Entry) → end_count p op ≤ end_count (e ∷ p) op
end_grows op (End other ending) p = go (same_op other op)
  where
    go : (b : Bool) → end_count p op ≤ cond b (end_count p op + 1) (end_count p op)
    go true = omega arith
    go false = omega arith
end_grows op _ p = omega arith

more_ended : (op : OpName) (es p : List Entry) → end_count p op ≤ end_count (onto es p) op
more_ended op [] p = omega arith
more_ended op (e ∷ es) p = omega (arith, end_grows op e p, more_ended op es (e ∷ p))

none_ends : (op : OpName) (es p : List Entry) → end_count (onto es p) op ≡ 0 → NotEnded op es
none_ends op [] p h = tt
none_ends op (End other ending ∷ es) p h =
    (go (same_op other op) (more_ended op es (End other ending ∷ p)), none_ends op es (End other ending ∷ p) h)
  where
    go : (b : Bool) → cond b (end_count p op + 1) (end_count p op) ≤ end_count (onto es (End other ending ∷ p)) op → b ≡ false
    go true more = absurd (omega (arith, more, h))
    go false more = refl
none_ends op (e ∷ es) p h = none_ends op es (e ∷ p) h

pub unended : (z : Setting) (op o : OpName) (k : ℕ) (h : List (Turn Entry)) (t : Turn Entry) → Legal z (h ++ t ∷ []) → CollectedBy (collected.NotYet o) op k h t → NotEnded op t.entries
unended z op o k h t l c =
    let s = c.2.0 in
    let pends : is_some (pending (past_of (h ++ t ∷ [])) op) ≡ true = ap is_some c.2.1 in
    let none : end_count (past_of (h ++ t ∷ [])) op ≡ 0 = ((pending_means z (h ++ t ∷ []) op l).0 pends).1 in
    none_ends op t.entries (past_of h) (subst (λ (p : List Entry). end_count p op ≡ 0) (past_of-append h t) none)

-- ---- Turns that collect

-- others' turns are not restricted
of_others : (op : OpName) (k : ℕ) (h ts : List (Turn Entry)) → turns_of k ts ≡ [] → AreCollectings op k h ts
of_others op k h [] n = tt
of_others op k h (t ∷ ts) n = go (t.number == k) refl n (of_others op k (h ++ t ∷ []) ts)
  where
    go : (b : Bool) → (t.number == k) ≡ b → cond b (t ∷ turns_of k ts) (turns_of k ts) ≡ [] → (turns_of k ts ≡ [] → AreCollectings op k (h ++ t ∷ []) ts) → AreCollectings op k h (t ∷ ts)
    go true e m rest = absurd (cc)
    go false e m rest = ((λ same. absurd (grind (arith, nat_tests, e, same))), rest m)

collect_both : (op : OpName) (k : ℕ) (h xs ys : List (Turn Entry)) → AreCollectings op k h xs → AreCollectings op k (h ++ xs) ys → AreCollectings op k h (xs ++ ys)
collect_both op k h [] ys a b = subst (λ (past : List (Turn Entry)). AreCollectings op k past ys) (sym (plus_none h)) b
collect_both op k h (x ∷ xs) ys a b =
    (a.0, collect_both op k (h ++ x ∷ []) xs ys a.1 (subst (λ (past : List (Turn Entry)). AreCollectings op k past ys) (sym (grouped h (x ∷ []) xs)) b))

-- ---- Waiting

-- before the first turn
pub no_turn : (op : OpName) (p : PassView) → Waits op p p
no_turn op p = record { same = (refl, refl, refl); between = []; own = []; seen = plus_none p.seen; mine = plus_none p.mine; are_own = refl; collect = tt; unended = tt; wins = refl; more = []; reads = plus_none p.reads; open_ = λ o h. h }

-- one more turn
pub turn_more : (op o : OpName) (before mid after : PassView) → Waits op before mid → IsSamePass mid after → TookTurn (λ z h t. CollectedBy (collected.NotYet o) op mid.number h t) mid after → ReadsFor (collected.NotYet o) op mid after → KeepsOpen mid after → Waits op before after
turn_more op o before mid after w same t r keeps =
    let n = before.number in
    let others = t.others in
    let last = t.turn in
    let seen_last : word.ShownOperation = of_op op Pending 0 in
    let number : last.number ≡ n = t.number ∙ w.same.0 in
    let past : t.past ≡ (before.seen ++ w.between) ++ others.0 = others.1 ∙ ap (λ (h : List (Turn Entry)). h ++ others.0) w.seen in
    let asked : CollectedBy (collected.NotYet op) op n ((before.seen ++ w.between) ++ others.0) last = subst (λ (h : List (Turn Entry)). CollectedBy (collected.NotYet op) op n h last) past (refl, t.said.1, t.said.2) in
    let none : turns_of n others.0 ≡ [] = ap (λ (m : ℕ). turns_of m others.0) (sym w.same.0) ∙ others.2 in
    record {
      same = same_twice before mid after w.same same;
      between = w.between ++ (others.0 ++ last ∷ []);
      own = w.own ++ last ∷ [];
      seen = t.seen ∙ ap (λ (h : List (Turn Entry)). h ++ last ∷ []) (others.1 ∙ ap (λ (h : List (Turn Entry)). h ++ others.0) w.seen) ∙ grouped (before.seen ++ w.between) others.0 (last ∷ []) ∙ grouped before.seen w.between (others.0 ++ last ∷ []);
      mine = t.mine ∙ ap (λ (h : List (Turn Entry)). h ++ last ∷ []) w.mine ∙ grouped before.mine w.own (last ∷ []);
      are_own = turns_both n w.between (others.0 ++ last ∷ []) ∙ ap (λ (ts : List (Turn Entry)). ts ++ turns_of n (others.0 ++ last ∷ [])) w.are_own ∙ ap (λ (ts : List (Turn Entry)). w.own ++ ts) (own_more n others.0 last number ∙ ap (λ (ts : List (Turn Entry)). ts ++ last ∷ []) none);
      collect = collect_both op n before.seen w.between (others.0 ++ last ∷ []) w.collect (collect_both op n (before.seen ++ w.between) others.0 (last ∷ []) (of_others op n (before.seen ++ w.between) others.0 none) ((λ u. asked), tt));
      unended = each_more (λ (x : Turn Entry). NotEnded op x.entries) w.own last w.unended (unended t.label.setting op o mid.number t.past last (subst (Legal t.label.setting) t.seen t.legal) t.said);
      wins = r.wins ∙ w.wins;
      more = w.more ++ (r.others ++ seen_last ∷ []);
      reads = r.read ∙ ap (λ (es : List word.ShownOperation). (es ++ r.others) ++ seen_last ∷ []) w.reads ∙ grouped (before.reads ++ w.more) r.others (seen_last ∷ []) ∙ grouped before.reads w.more (r.others ++ seen_last ∷ []);
      open_ = λ x h. keeps x (w.open_ x h);
    }

-- more looks
pub looked_more : (op : OpName) (before mid after : PassView) → Waits op before mid → HasLookedOn mid after → Waits op before after
looked_more op before mid after w l =
    record {
      same = same_twice before mid after w.same l.still.same;
      between = w.between;
      own = w.own;
      seen = l.still.seen ∙ w.seen;
      mine = l.still.mine ∙ w.mine;
      are_own = w.are_own;
      collect = w.collect;
      unended = w.unended;
      wins = l.wins ∙ w.wins;
      more = w.more ++ l.more;
      reads = l.reads ∙ ap (λ (es : List word.ShownOperation). es ++ l.more) w.reads ∙ grouped before.reads w.more l.more;
      open_ = λ x h. l.still.open_ x (w.open_ x h);
    }

-- no look yet
pub no_look : (p : PassView) → HasLookedOn p p
no_look p = record { still = record { same = (refl, refl, refl); seen = refl; mine = refl; open_ = λ o h. h }; wins = refl; more = []; reads = plus_none p.reads }

look_grows : (r : Polled) (k slots : ℕ) (op : OpName) (a b : WinsAndReads) → PolledAs r k slots op a b → (b.0 ≡ a.0) × ((more : List word.ShownOperation) × (b.1 ≡ a.1 ++ more))
look_grows polled.Pending k slots op a b h = (h.0, (of_op op Pending 0 ∷ [], h.1))
look_grows (polled.Ended p by) k slots op a b h = (h.1, (of_op op p by ∷ [], h.2))
look_grows polled.Stale k slots op a b h = (h.0, found h.1)
  where
    found : (((slots ≤ op.slot) × (b.1 ≡ a.1)) ⊎ ((op.slot < slots) × ((e : word.ShownOperation) × IsOfAnother op e × (b.1 ≡ a.1 ++ e ∷ [])))) → (more : List word.ShownOperation) × (b.1 ≡ a.1 ++ more)
    found (inl x) = ([], x.1 ∙ plus_none a.1)
    found (inr x) = (x.1.0 ∷ [], x.1.2)

pub look_more : (r : Polled) (k slots : ℕ) (op : OpName) (before mid after : PassView) → HasLookedOn before mid → TakesNoTurn mid after → PolledAs r k slots op (wins_and_reads mid) (wins_and_reads after) → HasLookedOn before after
look_more r k slots op before mid after l t p =
    let g = look_grows r k slots op (wins_and_reads mid) (wins_and_reads after) p in
    record {
      still = record { same = same_twice before mid after l.still.same t.same; seen = t.seen ∙ l.still.seen; mine = t.mine ∙ l.still.mine; open_ = λ x h. t.open_ x (l.still.open_ x h) };
      wins = g.0 ∙ l.wins;
      more = l.more ++ g.1.0;
      reads = g.1.1 ∙ ap (λ (es : List word.ShownOperation). es ++ g.1.0) l.reads ∙ grouped before.reads l.more g.1.0;
    }

-- more looks after looks
pub looked_twice : (before mid after : PassView) → HasLookedOn before mid → HasLookedOn mid after → HasLookedOn before after
looked_twice before mid after l m =
    record {
      still = record { same = same_twice before mid after l.still.same m.still.same; seen = m.still.seen ∙ l.still.seen; mine = m.still.mine ∙ l.still.mine; open_ = λ x h. m.still.open_ x (l.still.open_ x h) };
      wins = m.wins ∙ l.wins;
      more = l.more ++ m.more;
      reads = m.reads ∙ ap (λ (es : List word.ShownOperation). es ++ m.more) l.reads ∙ grouped before.reads l.more m.more;
    }

-- one look
pub looked_once : (r : Polled) (k slots : ℕ) (op : OpName) (before after : PassView) → TakesNoTurn before after → PolledAs r k slots op (wins_and_reads before) (wins_and_reads after) → HasLookedOn before after
looked_once r k slots op before after t p = look_more r k slots op before before after (no_look before) t p

-- the last turn
pub turn_last : (op : OpName) (outcome : Outcome) (before mid after : PassView) → Waits op before mid → TookTurn (λ z h t. CollectedBy (collected.Ended outcome) op mid.number h t) mid after → ReadsFor (collected.Ended outcome) op mid after → WaitedFor outcome op before after
turn_last op outcome before mid after w t r =
    record { last = mid; waits = w; turn = subst (λ (n : ℕ). TookTurn (λ z h x. CollectedBy (collected.Ended outcome) op n h x) mid after) w.same.0 t; read = r }
