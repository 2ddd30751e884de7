use Rattle.std.proofs.Common.{◌≡◌, List, ℕ, [], Some, ap, ◌∙◌}
use Rattle.sp_base.specs.declared.addr.Scheme.{Scheme}
use Rattle.sp_base.specs.declared.addr.Scheme.TheVariants as Schemes
use Rattle.sp_fakes.specs.Scripts.{given}
use Rattle.sp_fakes.specs.MemLinks.{unread_at}
use Rattle.sp_fakes.proofs.Given.{given-start}
use Rattle.sp_fakes.proofs.link.MemLink.new.Goals as goal

-- nothing came and nothing was written
unread : (came written : List ℕ) (number : ℕ) (scheme : Scheme) → came ≡ [] → written ≡ [] → record (unread_at number scheme) { came = Some came; written = Some written } ≡ unread_at number scheme
unread came written number scheme e f = ap (λ t. record (unread_at number scheme) { came = Some t; written = Some written }) e ∙ ap (λ t. record (unread_at number scheme) { came = Some []; written = Some t }) f

pub returns-clause-unread : goal.returns-clause-unread
returns-clause-unread c = unread (given c.args.script.items 0 0) c.new.result.items 0 Schemes.Tcp (given-start c.args.script.items) c.new.ensures.items
