-- A new wire over a link.
use Rattle.std.proofs.Common.{◌≡◌, ◌<◌, ◌+◌, ◌^◌, ◌++◌, ℕ, true, false, List, [], Option, Some, None, refl, sym, ap, subst, ◌∙◌, append-nil, arith, lit<}
use Rattle.sp_base.specs.SpTcp.{hello}
use Rattle.sp_base.specs.SpStream.{framing_for, stream_text}
use Rattle.sp_base.specs.declared.framing.Framing.{Framing}
use Rattle.sp_base.proofs.StreamShows.{stream-nil}
use Rattle.sp_base.specs.Outside.{Told}
use Rattle.sp_base.specs.Views.{LinkView}
use Rattle.sp_base.specs.Roles.{role_number, role_peer}
use Rattle.sp_base.specs.declared.role.Role.{Role}
use Rattle.sp_base.specs.declared.role.Role.TheVariants as r
use Rattle.sp_msg.specs.Marks.{wire_view, fresh_marks}
use Rattle.sp_tcp.specs.Views.{OutletView}
use Rattle.sp_tcp.specs.TcpWires.{taken_in, put_in, none_of, ReadsAs, WritesAs, TcpState, wire_name, tcp_view, Holds, Met, IsNewWire}
use Rattle.sp_tcp.proofs.Framing.{reads_taken, writes_taken}
use Rattle.sp_tcp.proofs.Framed.{framed}

role_small : (x : Role) → role_number x < 2 ^ 16
role_small r.Pair0 = lit< tt
role_small r.Pair1 = lit< tt
role_small r.Pub = lit< tt
role_small r.Sub = lit< tt
role_small r.Req = lit< tt
role_small r.Rep = lit< tt
role_small r.Push = lit< tt
role_small r.Pull = lit< tt
role_small r.Surveyor = lit< tt
role_small r.Respondent = lit< tt
role_small r.Bus = lit< tt

text-nil : (f : Framing) (role : ℕ) → hello role ≡ stream_text f role []
text-nil f role = sym (append-nil (hello role)) ∙ ap (λ t. hello role ++ t) (stream-nil f)

abbrev first_read : (f : Framing) (max : ℕ) (x : Role) (rest s : List ℕ) → s ≡ hello (role_number x) ++ rest → ReadsAs f max rest s
first_read f max x rest s e = record { role = role_number x; bodies = []; small = role_small x; fit = tt; is = e ∙ ap (λ t. t ++ rest) (text-nil f (role_number x)) }

abbrev first_write : (f : Framing) (x : Role) (s : List ℕ) → s ≡ hello (role_number x) → WritesAs f [] 0 s
first_write f x s e = record { role = role_number x; bodies = []; small = role_small x; fit = tt; is = e ∙ text-nil f (role_number x) ∙ sym (append-nil (stream_text f (role_number x) [])) }

told_read : (f : Framing) (max : ℕ) (x : Role) (rest : List ℕ) (o : Option (List ℕ)) → Told o (λ s. s ≡ hello (role_number x) ++ rest) → Told o (ReadsAs f max rest)
told_read f max x rest None e = tt
told_read f max x rest (Some s) e = first_read f max x rest s e

told_write : (f : Framing) (x : Role) (o : Option (List ℕ)) → Told o (λ s. s ≡ hello (role_number x)) → Told o (WritesAs f [] 0)
told_write f x None e = tt
told_write f x (Some s) e = first_write f x s e

none_taken : (f : Framing) (max : ℕ) (x : Role) (rest : List ℕ) (o : Option (List ℕ)) → max < 2 ^ 64 → Told o (λ s. s ≡ hello (role_number x) ++ rest) → taken_in f max rest o ≡ none_of o
none_taken f max x rest None lt e = refl
none_taken f max x rest (Some s) lt e = ap (λ (b : List (List ℕ)). Some b) (reads_taken f max rest s lt (first_read f max x rest s e))

none_put : (f : Framing) (x : Role) (o : Option (List ℕ)) → Told o (λ s. s ≡ hello (role_number x)) → put_in f [] 0 o ≡ none_of o
none_put f x None e = refl
none_put f x (Some s) e = ap (λ (b : List (List ℕ)). Some b) (append-nil _ ∙ writes_taken f [] 0 s refl (first_write f x s e))

abbrev pub first_state : Framing → LinkView → List ℕ → OutletView → ℕ → TcpState
first_state f l u o max = record { framing = f; link = l; unread = u; waiting = o.waiting; sent = o.sent; max = max; spent = l.idles + l.stalls; marks = fresh_marks }

abbrev pub nothing : OutletView
nothing = record { waiting = []; sent = 0 }

first_holds : (f : Framing) (l : LinkView) (rest : List ℕ) (max : ℕ) → max < 2 ^ 64 → l.is_open ≡ true → Met rest l → f ≡ framing_for l.scheme → Holds (first_state f l rest nothing max)
first_holds f l rest max lt is_open met by = record {
  framed_by = by;
  reads = told_read f max (role_peer met.0) rest l.came met.2;
  writes = told_write f met.0 l.written met.1;
  within = refl;
  fit = tt;
  small = lt;
  most = omega arith;
  room = (λ e. absurd cc);
  waited = omega arith;
  marks = record {
    link_open = (λ e. is_open);
    going = (λ e. (refl, refl));
    at_end = (λ e. absurd cc);
    bad = (λ e. absurd cc);
    faults = omega arith;
    idles = omega arith;
    stalls = omega arith;
    refusals = refl;
  };
}

pub new_holds : (f : Framing) (l : LinkView) (rest u : List ℕ) (o : OutletView) (max : ℕ) → max < 2 ^ 64 → l.is_open ≡ true → Met rest l → f ≡ framing_for l.scheme → u ≡ rest → o ≡ nothing → Holds (first_state f l u o max)
new_holds f l rest u o max lt is_open met by e is =
    let P : OutletView → Type 0 = λ x. Holds (first_state f l u x max) in
    let Q : List ℕ → Type 0 = λ x. Holds (first_state f l x nothing max) in
    subst P (sym is) (subst Q (sym e) (first_holds f l rest max lt is_open met by))

first_wire : (f : Framing) (l : LinkView) (rest : List ℕ) (max : ℕ) → max < 2 ^ 64 → l.is_open ≡ true → Met rest l → f ≡ framing_for l.scheme → IsNewWire f max l (tcp_view (first_state f l rest nothing max))
first_wire f l rest max lt is_open met by =
    let came = none_taken f max (role_peer met.0) rest l.came lt met.2 in
    let outs = none_put f met.0 l.written met.1 in
    record {
      framing_is = refl;
      link_is = refl;
      max_is = refl;
      wire = (λ i. wire_view (wire_name l max (l.idles + l.stalls)) (came i) (outs i) 0 false fresh_marks);
      framed = framed (first_state f l rest nothing max) (first_holds f l rest max lt is_open met by);
    }

pub new_wire : (f : Framing) (l : LinkView) (rest u : List ℕ) (o : OutletView) (max : ℕ) → max < 2 ^ 64 → l.is_open ≡ true → Met rest l → f ≡ framing_for l.scheme → u ≡ rest → o ≡ nothing → IsNewWire f max l (tcp_view (first_state f l u o max))
new_wire f l rest u o max lt is_open met by e is =
    let P : OutletView → Type 0 = λ x. IsNewWire f max l (tcp_view (first_state f l u x max)) in
    let Q : List ℕ → Type 0 = λ x. IsNewWire f max l (tcp_view (first_state f l x nothing max)) in
    subst P (sym is) (subst Q (sym e) (first_wire f l rest max lt is_open met by))
