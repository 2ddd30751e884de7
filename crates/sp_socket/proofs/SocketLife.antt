-- The beginning and the end of a socket with one caller.
use Rattle.std.proofs.Common.{◌≡◌, refl, ap, sym, ◌∙◌, subst, List, [], ◌∷◌, ◌++◌, ℕ, ◌≤◌, true, false, Some, inl, inr, map, length, arith, rules}
use Rattle.std.specs.Prelude.{⊤, ◌↔◌}
use Rattle.std.specs.List.{range_with_len}
use Rattle.turn_lock.specs.declared.turn.Turn.{Turn}
use Rattle.turn_lock.specs.History.{turns_of}
use Rattle.aio_word.specs.Views.{Each}
use Rattle.sp_base.specs.Wires.{WireView}
use Rattle.sp_history.specs.declared.entry.Entry.{Entry}
use Rattle.sp_history.specs.declared.setting.Setting.{Setting}
use Rattle.sp_history.specs.Past.{past_of}
use Rattle.sp_core.specs.declared.label.CoreLabel.{CoreLabel}
use Rattle.core_state.specs.declared.pipes.DownPipe.{DownPipe}
use Rattle.sp_core.specs.Parts.{HasWires}
use Rattle.sp_socket.specs.Passes.{SocketName, PassView, ListView, IsOf, new_pass, new_list}
use Rattle.sp_socket.specs.Finishing.{IsRecord, FitsIn, HasItsWins, HasItsReads, AreEndsBy, AreEndsRead}
use Rattle.sp_socket.specs.Singles.{SingleView, single_of, setting_in, cancelled_in, cancelled_of, AreCancelled, IsNewSingle, IsSingle, FinishedAs}
use Rattle.sp_socket.proofs.Alone.{all_own}
use Rattle.sp_socket.proofs.CancelledWins.{are_cancelled}
use Rattle.sp_socket.specs.Due.{AllWereDue}

module _ {A : Type 0} where
  abbrev first_of : A → List A → A
  first_of d [] = d
  first_of d (x ∷ xs) = x

  abbrev IsCons : List A → Type 0
  IsCons [] = ⊥
  IsCons (x ∷ xs) = ⊤

  abbrev rest_of : List A → List A
  rest_of [] = []
  rest_of (x ∷ xs) = xs

  no_cons : (xs : List A) (p : A) → [] ≡ xs ++ p ∷ [] → ⊥
  no_cons [] p e = subst IsCons (sym e) tt
  no_cons (x ∷ xs) p e = subst IsCons (sym e) tt

  -- a list of one element has it last
  pub one_last : (x : A) (rest : List A) (p : A) → x ∷ [] ≡ rest ++ p ∷ [] → (rest ≡ []) × (p ≡ x)
  one_last x [] p e = (refl, sym (ap (first_of x) e))
  one_last x (r ∷ rs) p e = absurd (no_cons rs p (ap rest_of e))

-- the only pass of a new socket
pub new_single : (s : SocketName) (l l2 : ListView) (z : Setting) (p : PassView) → z.callers ≡ 1 → l ≡ new_list s z → z.slots ≡ s.words.slots → s.words.callers ≡ 1 → l.items ≡ l2.items ++ p ∷ [] → l2.callers ≡ l.callers → l2.lock ≡ l.lock → IsSingle s l2 p × IsNewSingle z (single_of p)
new_single s l l2 z p one is slots callers last same lock =
    let items : new_pass s z 1 ∷ [] ≡ l2.items ++ p ∷ [] = ap (λ (n : ℕ). map (new_pass s z) (range_with_len 1 n)) (sym one) ∙ ap (λ (x : ListView). x.items) (sym is) ∙ last in
    let o = one_last (new_pass s z 1) l2.items p items in
    let q = new_pass s z 1 in (
      subst (λ (x : PassView). IsSingle s l2 x) (sym o.1) (record {
        own = (refl, (z, refl, slots, one ∙ sym callers));
        one = callers;
        out = o.0;
        callers = same ∙ ap (λ (x : ListView). x.callers) is ∙ one;
        lock = lock ∙ ap (λ (x : ListView). x.lock) is;
        number = refl;
        mine = refl;
        legal = tt;
        settled = tt;
      }),
      (ap (λ (x : PassView). x.seen) o.1, ap (λ (x : PassView). setting_in x.label) o.1, ap (λ (x : PassView). x.wins) o.1, ap (λ (x : PassView). x.reads) o.1),
    )

-- ---- The end

pub finished : {W : Type 0} (shown : W → WireView) (s : SocketName) (l : ListView) (p : PassView) (v : SingleView) (h : List (Turn Entry)) (ws : List (DownPipe W)) (label : CoreLabel) (ps : List PassView) → single_of p ≡ v → IsSingle s l p → ps ≡ l.items ++ p ∷ [] → IsRecord label h ps → HasWires shown ws label.setting (past_of h) → FinishedAs shown v ws h
finished shown s l p v h ws label ps e i items r w =
    let ps_is : ps ≡ p ∷ [] = items ∙ ap (λ (x : List PassView). x ++ p ∷ []) i.out in
    let fits = (subst (Each (FitsIn h label)) ps_is r.passes).0 in
    let wins = (subst (Each (HasItsWins h)) ps_is r.wins).0 in
    let reads = (subst (Each (HasItsReads h)) ps_is r.reads).0 in
    let z : setting_in p.label ≡ label.setting = ap setting_in fits.2 in
    let one : label.setting.callers ≡ 1 = ap (λ (x : Setting). x.callers) (sym z ∙ ap setting_in i.own.1.1) ∙ i.own.1.3 ∙ i.one in
    let all : h ≡ p.seen = sym (all_own label.setting [] h one r.legal) ∙ ap (λ (n : ℕ). turns_of n h) (sym i.number) ∙ sym fits.1 ∙ i.mine in
    let seen : h ≡ v.seen = all ∙ ap (λ (x : SingleView). x.seen) e in
    record {
      whole = seen;
      wires_are = subst (λ (g : List (Turn Entry)). HasWires shown ws v.setting (past_of g)) seen (subst (λ (x : Setting). HasWires shown ws x (past_of h)) (sym z ∙ ap (λ (x : SingleView). x.setting) e) w);
      wins = subst (λ (x : SingleView). AreEndsBy 1 v.seen x.wins) e (subst (λ (g : List (Turn Entry)). AreEndsBy 1 g p.wins) seen (subst (λ (n : ℕ). AreEndsBy n h p.wins) i.number wins));
      reads = subst (λ (x : SingleView). AreEndsRead v.seen x.reads) e (subst (λ (g : List (Turn Entry)). AreEndsRead g p.reads) seen reads);
      cancelled = subst (λ (x : SingleView). AreCancelled (cancelled_of x) (past_of v.seen)) e (subst (λ (g : List (Turn Entry)). AreCancelled (cancelled_in p.wins) (past_of g)) seen (are_cancelled label.setting h p one r.legal i.number wins));
      due = subst (λ (g : List (Turn Entry)). AllWereDue (past_of g)) seen r.due;
    }
