-- The pipes after a pull.
use Rattle.std.proofs.Common.{◌≡◌, ◌≢◌, ap, sym, ◌∙◌, subst, List, ◌∷◌, ℕ, ◌≤◌, arith, inr, inl}
use Rattle.sp_msg.specs.Views.{WireView, MessageView}
use Rattle.sp_msg.specs.Marks.{one_more}
use Rattle.sp_msg.specs.Wires.{AfterPull, with_text}
use Rattle.sp_msg.specs.declared.wire.WireIn.TheVariants as ins
use Rattle.sp_history.specs.declared.entry.Entry.{Entry}
use Rattle.sp_history.specs.declared.entry.Entry.TheVariants.{Frame, Quiet}
use Rattle.sp_history.specs.declared.entry.Why.{Why}
use Rattle.sp_history.specs.declared.entry.Why.TheVariants as whys
use Rattle.sp_history.specs.declared.setting.Setting.{Setting}
use Rattle.sp_history.specs.Past.{frames, quiets}
use Rattle.sp_history.specs.Wires.{Agrees}
use Rattle.core_state.specs.Wires.{state_of, IsUpWire}
use Rattle.core_state.proofs.ChangedWires.{same_number, most_more, told, GoesDown}

-- ---- The wire

frame_agrees : (before : List Entry) (p : ℕ) (b : List ℕ) (w v : WireView) → Agrees before p w → v ≡ record w { came = with_text w.came b } → Agrees (Frame p b ∷ before) p v
frame_agrees before p b w v h e =
    subst (λ (x : WireView). Agrees (Frame p b ∷ before) p x) (sym e) (record {
      name_is = h.name_is;
      came_is = rw (same_number p) (told w.came (frames before p) b h.came_is);
      outs_is = h.outs_is;
      waits_is = h.waits_is;
      fulls_is = h.fulls_is;
      idles_is = h.idles_is;
      stalls_is = h.stalls_is;
    })

quiet_agrees : (before : List Entry) (p : ℕ) (w v : WireView) → Agrees before p w → v ≡ record w { idles = one_more w.idles } → Agrees (Quiet p ∷ before) p v
quiet_agrees before p w v h e =
    subst (λ (x : WireView). Agrees (Quiet p ∷ before) p x) (sym e) (record {
      name_is = h.name_is;
      came_is = h.came_is;
      outs_is = h.outs_is;
      waits_is = h.waits_is;
      fulls_is = h.fulls_is;
      idles_is = rw (same_number p, h.idles_is) (most_more (quiets before p) _);
      stalls_is = h.stalls_is;
    })

pub came : (before : List Entry) (p : ℕ) (m : MessageView) (w v : WireView) → IsUpWire before p w → AfterPull (ins.Message m) w v → IsUpWire (Frame p m.body ∷ before) p v
came before p m w v h a =
    record { agrees = frame_agrees before p m.body (state_of w) (state_of v) h.agrees (ap state_of a.1); is_open = ap (λ (x : WireView). x.is_open) a.1 ∙ h.is_open }

pub quieted : (before : List Entry) (p : ℕ) (w v : WireView) → IsUpWire before p w → AfterPull ins.NotYet w v → IsUpWire (Quiet p ∷ before) p v
quieted before p w v h a =
    record { agrees = quiet_agrees before p (state_of w) (state_of v) h.agrees (ap state_of a); is_open = ap (λ (x : WireView). x.is_open) a ∙ h.is_open }

-- the wire shows why its pipe goes down, and the core isn't closing
abbrev pub GoesDownSo : Setting → List Entry → ℕ → Why → WireView → WireView → Type 0
GoesDownSo z before p why w v = (Agrees before p (state_of w) → GoesDown z before p why v) × (why ≢ whys.Closed)

as_before : (before : List Entry) (p : ℕ) (w v : WireView) → state_of v ≡ state_of w → Agrees before p (state_of w) → Agrees before p (state_of v)
as_before before p w v e h = subst (λ (x : WireView). Agrees before p x) (sym e) h

one_at_least : (n : ℕ) → 1 ≤ one_more n
one_at_least n = omega arith

pub pull_goes_down : (z : Setting) (before : List Entry) (p : ℕ) (w v : WireView) (why is : Why) → is ≡ why → GoesDownSo z before p why w v → GoesDownSo z before p is w v
pull_goes_down z before p w v why is e h = subst (λ (x : Why). GoesDownSo z before p x w v) (sym e) h

pub ended : (z : Setting) (before : List Entry) (p : ℕ) (w v : WireView) → AfterPull ins.Ended w v → GoesDownSo z before p whys.Ended w v
ended z before p w v a = (λ h. (as_before before p w v (ap state_of a) h, ap (λ (x : WireView). x.ended) a), λ q. cc)

pub malformed : (z : Setting) (before : List Entry) (p : ℕ) (w v : WireView) → AfterPull ins.Malformed w v → GoesDownSo z before p whys.Malformed w v
malformed z before p w v a = (λ h. (as_before before p w v (ap state_of a) h, inr (ap (λ (x : WireView). x.malformed) a)), λ q. cc)

pub failed : (z : Setting) (before : List Entry) (p : ℕ) (w v : WireView) → AfterPull ins.Failed w v → GoesDownSo z before p whys.Failed w v
failed z before p w v a = (λ h. (as_before before p w v (ap state_of a) h, let k = ap (λ (x : WireView). x.faults) a in omega (arith, k, one_at_least w.faults)), λ q. cc)

pub refused : (z : Setting) (before : List Entry) (p : ℕ) (w v : WireView) → AfterPull ins.Refused w v → GoesDownSo z before p whys.Refusal w v
refused z before p w v a = (λ h. (as_before before p w v (ap state_of a) h, let k = ap (λ (x : WireView). x.refusals) a in omega (arith, k, one_at_least w.refusals)), λ q. cc)

pub without_memory : (z : Setting) (before : List Entry) (p : ℕ) (w v : WireView) → AfterPull ins.NoMemory w v → GoesDownSo z before p whys.NoMemory w v
without_memory z before p w v a = (λ h. (as_before before p w v (ap state_of a) h, inl (ap (λ (x : WireView). x.is_open) a)), λ q. cc)
