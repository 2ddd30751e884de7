-- What is owed, and when.
use Rattle.std.proofs.Common.{◌≡◌, ◌++◌, ℕ, List, sym, ap, subst, ◌∙◌}
use Rattle.std.proofs.lemmas.List.{append-nil}
use Rattle.sp_base.specs.declared.role.Role.{Role}
use Rattle.sp_base.specs.declared.addr.Addr.{Addr}
use Rattle.sp_upgrade.specs.Opening.{ServerAnswers, ClientAnswers}
use Rattle.sp_upgrade.specs.declared.head.Head.{Head}
use Rattle.sp_upgrade.specs.declared.head.Head.TheVariants as heads
use Rattle.sp_upgrade.proofs.OneResult.{one_server_answer, one_client_answer}
use Rattle.sp_links.specs.Ways.{peer_number}
use Rattle.sp_links.specs.declared.way.Way.{Way}
use Rattle.sp_links.specs.declared.way.Way.TheVariants as ways
use Rattle.sp_links.specs.Keys.{key_of}
use Rattle.sp_links.specs.Openings.{IsMore, OpensWith, IsGood, Begins, Owes, Judges, PartOf}
use Rattle.sp_links.specs.declared.judge.PeerPart.{PeerPart}
use Rattle.sp_links.specs.declared.judge.PeerPart.TheVariants as parts
use Rattle.sp_base.specs.declared.framing.Framing.{Framing}
use Rattle.sp_base.specs.declared.framing.Framing.TheVariants as framings
use Rattle.sp_links.proofs.Greetings.{part_or_whole}
use Rattle.sp_links.proofs.Requests.{one_request}

more_or_good : (u : ℕ) (a : List ℕ) → heads.More ≡ heads.Good u a → ⊥
more_or_good u a e = cc e

pub same_good : (u v : ℕ) (a b : List ℕ) → heads.Good u a ≡ heads.Good v b → a ≡ b
same_good u v a b e = cc e

-- a part isn't the whole
pub more_not_good : (role : Role) (way : Way) (came : List ℕ) → IsMore role way came → IsGood role way came → ⊥
more_not_good role (ways.Greeting framing) came x y = part_or_whole (peer_number role) came x.1 y
more_not_good role (ways.Serves path) came x (u, a, y) = more_or_good u a (one_server_answer role path came heads.More (heads.Good u a) x y (λ e. cc e) (λ e. cc e))
more_not_good role (ways.Asks addr start) came x (u, a, y) = more_or_good u a (one_client_answer role (key_of start) came heads.More (heads.Good u a) x y (λ e. cc e) (λ e. cc e))

pub opens_good : (role : Role) (way : Way) (u : ℕ) (a came : List ℕ) → OpensWith role way u a came → IsGood role way came
opens_good role (ways.Greeting framing) u a came x = x.2
opens_good role (ways.Serves path) u a came x = (u, a, x)
opens_good role (ways.Asks addr start) u a came x = (u, a, x)

-- before the peer's part is whole, no more is owed than what is written first
pub more_owes : (role : Role) (way : Way) (came own owed : List ℕ) → IsMore role way came → Begins role way own → Owes role way came owed → owed ≡ own
more_owes role (ways.Greeting framing) came own owed m b o = o ∙ sym b
more_owes role (ways.Serves path) came own owed m b (u, o) = absurd (more_not_good role (ways.Serves path) came m (u, owed, o))
more_owes role (ways.Asks addr start) came own owed m b o = one_request role addr start owed own o b

-- then that, and what is to be written for it
pub good_owes : (role : Role) (way : Way) (u : ℕ) (first a came : List ℕ) → Begins role way first → OpensWith role way u a came → Owes role way came (first ++ a)
good_owes role (ways.Greeting framing) u first a came b x = ap (λ (t : List ℕ). first ++ t) x.1 ∙ append-nil first ∙ b
good_owes role (ways.Serves path) u first a came b x = (u, subst (λ (t : List ℕ). ServerAnswers (heads.Good u t) came role path) (sym (ap (λ (t : List ℕ). t ++ a) b)) x)
good_owes role (ways.Asks addr start) u first a came (h, p, d, is) x = (h, p, d, ap (λ (t : List ℕ). first ++ t) x.3.answer_is ∙ append-nil first ∙ is)

-- and nothing else is owed
pub owes_one : (role : Role) (way : Way) (u : ℕ) (first a came owed : List ℕ) → Begins role way first → OpensWith role way u a came → Owes role way came owed → owed ≡ first ++ a
owes_one role (ways.Greeting framing) u first a came owed b x o = o ∙ sym (good_owes role (ways.Greeting framing) u first a came b x)
owes_one role (ways.Serves path) u first a came owed b x (v, o) = same_good v u owed a (one_server_answer role path came (heads.Good v owed) (heads.Good u a) o x (λ e. cc e) (λ e. cc e)) ∙ sym (ap (λ (t : List ℕ). t ++ a) b)
owes_one role (ways.Asks addr start) u first a came owed b x o = one_request role addr start owed (first ++ a) o (good_owes role (ways.Asks addr start) u first a came b x)

-- ---- Judging

-- a greeting is judged the same, whatever the framing is
pub any_framing : (role : Role) (framing : Framing) (came : List ℕ) (part : PeerPart) → Judges role (ways.Greeting framings.Tcp) part came → Judges role (ways.Greeting framing) part came
any_framing role framing came parts.More j = j
any_framing role framing came (parts.Good used answer) j = j
any_framing role framing came parts.Bad j = j
any_framing role framing came parts.NoMemory j = j

pub judges_request : (role : Role) (path came : List ℕ) (head : Head) (part : PeerPart) → ServerAnswers head came role path → PartOf head part → Judges role (ways.Serves path) part came
judges_request role path came heads.More part x p = subst (λ (q : PeerPart). Judges role (ways.Serves path) q came) (sym p) x
judges_request role path came (heads.Good u a) part x p = subst (λ (q : PeerPart). Judges role (ways.Serves path) q came) (sym p) x
judges_request role path came (heads.Bad f) part x p = subst (λ (q : PeerPart). Judges role (ways.Serves path) q came) (sym p) (f, x)
judges_request role path came heads.NoMemory part x p = subst (λ (q : PeerPart). Judges role (ways.Serves path) q came) (sym p) tt

pub judges_response : (role : Role) (addr : Addr) (start : ℕ) (came : List ℕ) (head : Head) (part : PeerPart) → ClientAnswers head came (key_of start) role → PartOf head part → Judges role (ways.Asks addr start) part came
judges_response role addr start came heads.More part x p = subst (λ (q : PeerPart). Judges role (ways.Asks addr start) q came) (sym p) x
judges_response role addr start came (heads.Good u a) part x p = subst (λ (q : PeerPart). Judges role (ways.Asks addr start) q came) (sym p) x
judges_response role addr start came (heads.Bad f) part x p = subst (λ (q : PeerPart). Judges role (ways.Asks addr start) q came) (sym p) (f, x)
judges_response role addr start came heads.NoMemory part x p = subst (λ (q : PeerPart). Judges role (ways.Asks addr start) q came) (sym p) tt
