-- A link that was just handed out.
use Rattle.std.proofs.Common.{◌≡◌, ℕ, zero, suc, List, [], None, refl, sym, subst, arith}
use Rattle.sp_base.specs.Outside.{Told}
use Rattle.sp_base.specs.SpTcp.{hello}
use Rattle.sp_base.specs.Views.{LinkView}
use Rattle.sp_base.specs.Steps.{IsNew}
use Rattle.sp_base.specs.declared.role.Role.{Role}
use Rattle.sp_upgrade.specs.Blanks.{IsShort, IsBlankAt}
use Rattle.sp_links.specs.Ways.{peer_number}
use Rattle.sp_links.specs.declared.way.Way.{Way}
use Rattle.sp_links.specs.declared.way.Way.TheVariants as ways
use Rattle.sp_links.specs.Openings.{Begins, IsMore}
use Rattle.sp_links.specs.Going.{IsUnderWay, IsFresh}

no_blank : (i : ℕ) → IsBlankAt [] i → ⊥
no_blank i e = nothing i e
  where
    nothing : (j : ℕ) → IsBlankAt [] j → ⊥
    nothing zero x = cc x
    nothing (suc j) x = cc x

short_none : IsShort []
short_none = (omega arith, no_blank)

-- nothing came yet
pub more_first : (role : Role) (way : Way) → IsMore role way []
more_first role (ways.Greeting framing) = ((hello (peer_number role), refl), omega arith)
more_first role (ways.Serves path) = short_none
more_first role (ways.Asks addr start) = short_none

pub fresh : {L : Type 0} (seen : L → LinkView) (link : L) (role : Role) (way : Way) (own came : List ℕ) → IsNew (seen link).place (seen link) → Begins role way own → came ≡ []
    → IsFresh seen link role way (record { link = link; role = role; way = way; own = own; said = 0; came = came; used = None }) × IsUnderWay seen (record { link = link; role = role; way = way; own = own; said = 0; came = came; used = None })
fresh seen link role way own came new begins none = (
  record { link_is = refl; role_is = refl; way_is = refl },
  record {
    stands = record {
      is_open = new.is_open;
      came = subst (λ (c : List ℕ). Told (seen link).came (λ s. s ≡ c)) (sym none) new.came;
      written = new.written;
      few = omega arith;
      own = (begins, subst (λ (c : List ℕ). IsMore role way c) (sym none) (more_first role way));
    };
    missing = tt;
  },
)
