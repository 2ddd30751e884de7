use Rattle.std.proofs.Common.{◌≡◌, List, ℕ, Result, Ok, Err, IfOk, sym, subst}
use Rattle.sp_base.specs.Roles.{role_peer}
use Rattle.sp_base.specs.declared.role.Role.{Role}
use Rattle.sp_base.specs.declared.addr.Addr.{Addr}
use Rattle.sp_base.specs.declared.error.NoMemory.{NoMemory}
use Rattle.sp_upgrade.specs.Texts.{Dials, request_text}
use Rattle.sp_links.specs.Keys.{key_of}
use Rattle.sp_links.specs.declared.way.Way.{Way}
use Rattle.sp_links.specs.declared.way.Way.TheVariants as ways
use Rattle.sp_links.specs.Openings.{CanBegin, Begins}
use Rattle.sp_links.proofs.Requests.{request_for}
use Rattle.sp_links.proofs.way.first_text.Goals as goal

asks : (role : Role) (way : Way) (addr : Addr) (start : ℕ) (key : List ℕ) (r : Result (List ℕ) NoMemory) → way ≡ ways.Asks addr start → key ≡ key_of start → CanBegin way → IfOk r (λ text. (host path : List ℕ) → Dials addr host path → text ≡ request_text (role_peer role) host path key) → IfOk r (λ text. Begins role way text)
asks role way addr start key (Ok text) is k can all =
    subst (λ (w : Way). Begins role w text) (sym is) (request_for role addr start text (subst (λ (w : Way). CanBegin w) is can) (subst (λ (b : List ℕ). (host path : List ℕ) → Dials addr host path → text ≡ request_text (role_peer role) host path b) k all))
asks role way addr start key (Err e) is k can all = tt

pub returns-in-Asks : goal.returns-in-Asks
returns-in-Asks c = asks c.args.role c.args.way.now c.in-Asks.addr c.in-Asks.start c.key_of.result c.client_head.result c.in-Asks.is c.key_of.ensures c.requires c.client_head.ensures
