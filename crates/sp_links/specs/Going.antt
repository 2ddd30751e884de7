-- A link in its opening, and how far it is.
use Rattle.std.specs.Prelude.{◌≡◌, ◌≤◌, ◌<◌, ◌++◌, ◌⊎◌, ℕ, ⊤, true, List, length, take, Option, Some, None}
use Rattle.sp_base.specs.Outside.{Told, Rose}
use Rattle.sp_base.specs.Views.{LinkView}
use Rattle.sp_base.specs.declared.role.Role.{Role}
use Rattle.sp_links.specs.Ways.{IsComplete, IsSpoilt, WroteOrStalled}
use Rattle.sp_links.specs.Openings.{openings, IsMore, OpensWith, IsBad, Begins}
use Rattle.sp_links.specs.declared.way.Way.{Way}
use Rattle.sp_links.specs.declared.opening.Opening.{Opening}
use Rattle.sp_links.specs.declared.opening.Progress.{Progress}
use Rattle.sp_links.specs.declared.opening.Progress.TheVariants as progress
use Rattle.sp_links.specs.declared.opening.Heard.{Heard}
use Rattle.sp_links.specs.declared.opening.Heard.TheVariants as heard

-- what is to be written so far is what is owed before the peer's part, and then what is owed for it
abbrev pub IsOwn : Role → Way → List ℕ → List ℕ → Option ℕ → Type 0
IsOwn role way own came None = Begins role way own × IsMore role way came
IsOwn role way own came (Some used) = (first : List ℕ) × (answer : List ℕ) × Begins role way first × OpensWith role way used answer came × (own ≡ first ++ answer)

-- the link brought all that is kept, and `said` bytes are written
pub record Stands {L : Type 0} (seen : L → LinkView) (n : Opening L) : Type 0 where
  pub is_open : (seen n.link).is_open ≡ true
  pub came : Told (seen n.link).came (λ s. s ≡ n.came)
  pub written : Told (seen n.link).written (λ w. w ≡ take n.said n.own)
  pub few : n.said ≤ length n.own
  pub own : IsOwn n.role n.way n.own n.came n.used

-- the peer's part is missing, or something is still to be written
abbrev pub IsMissing : {L : Type 0} → Opening L → Option ℕ → Type 0
IsMissing n None = ⊤
IsMissing n (Some used) = n.said < length n.own

-- between two tries
pub record IsUnderWay {L : Type 0} (seen : L → LinkView) (n : Opening L) : Type 0 where
  pub stands : Stands seen n
  pub missing : IsMissing n n.used

-- all that is owed so far is written, and the peer's part is missing
pub record IsHearing {L : Type 0} (seen : L → LinkView) (n : Opening L) : Type 0 where
  pub stands : Stands seen n
  pub said : n.said ≡ length n.own
  pub unheard : n.used ≡ None

-- the peer's part is right, and all that is owed is written
pub record IsOpened {L : Type 0} (seen : L → LinkView) (n : Opening L) : Type 0 where
  pub stands : Stands seen n
  pub said : n.said ≡ length n.own
  pub used : ℕ
  pub used_is : n.used ≡ Some used

-- the same link, whose counts did not fall
pub record IsLater (old new : LinkView) : Type 0 where
  pub place : new.place ≡ old.place
  pub scheme : new.scheme ≡ old.scheme
  pub faults : old.faults ≤ new.faults
  pub idles : old.idles ≤ new.idles
  pub stalls : old.stalls ≤ new.stalls

-- it brought nothing or took nothing
abbrev pub HasWaited : LinkView → LinkView → Type 0
HasWaited old new = Rose old.idles new.idles ⊎ Rose old.stalls new.stalls

-- something is still to be written and the link took nothing, or nothing is and it brought nothing
abbrev pub WaitsFor : {L : Type 0} → (L → LinkView) → LinkView → Opening L → Type 0
WaitsFor seen old n =
    ((n.said < length n.own) × Rose old.stalls (seen n.link).stalls) ⊎ ((n.said ≡ length n.own) × Rose old.idles (seen n.link).idles)

-- for a new one
pub record IsFresh {L : Type 0} (seen : L → LinkView) (link : L) (role : Role) (way : Way) (n : Opening L) : Type 0 where
  pub link_is : n.link ≡ link
  pub role_is : n.role ≡ role
  pub way_is : n.way ≡ way

-- ---- The result of a try

module _ {L : Type 0} (seen : L → LinkView) (n : Opening L) where
  -- the link isn't complete
  abbrev pub IsUndone : Type 0
  IsUndone = IsComplete (openings n.role (λ way. ⊤)) n.way (seen n.link) → ⊥

  -- a part of what is owed is missing only where the link once took nothing
  abbrev pub HasTried : Type 0
  HasTried = WroteOrStalled (openings n.role (λ way. ⊤)) n.way (seen n.link)

  -- only that is written which is owed before anything came
  abbrev pub IsUnanswered : Type 0
  IsUnanswered = Told (seen n.link).written (λ w. Begins n.role n.way w)

  -- what came is wrong
  abbrev pub IsWrong : Type 0
  IsWrong = IsSpoilt (openings n.role (λ way. ⊤)) n.way (seen n.link)

abbrev pub CameTo : {L : Type 0} → (L → LinkView) → Progress → LinkView → Opening L → Type 0
CameTo seen progress.Waits old new = IsUnderWay seen new × IsUndone seen new × HasTried seen new × WaitsFor seen old new
CameTo seen progress.Opened old new = IsOpened seen new
CameTo seen progress.Bad old new = IsWrong seen new × IsUnanswered seen new
CameTo seen progress.Ended old new = ((seen new.link).ended ≡ true) × IsUndone seen new × HasTried seen new
CameTo seen progress.Failed old new = (1 ≤ (seen new.link).faults) × IsUndone seen new
CameTo seen progress.NoMemory old new = ⊤

-- the role and the way are the same
pub record IsSame {L : Type 0} (old new : Opening L) : Type 0 where
  pub role : new.role ≡ old.role
  pub way : new.way ≡ old.way

pub record OpenedTo {L : Type 0} (seen : L → LinkView) (result : Progress) (old new : Opening L) : Type 0 where
  pub came_to : CameTo seen result (seen old.link) new
  pub same : IsSame old new

-- the same, except for what is written
abbrev pub IsSaying : {L : Type 0} → Opening L → Opening L → Type 0
IsSaying old new = new ≡ record old { link = new.link; said = new.said }

abbrev pub SaidSo : {L : Type 0} → (L → LinkView) → Progress → LinkView → Opening L → Type 0
SaidSo seen progress.Waits old new = IsUnderWay seen new × (1 ≤ (seen new.link).stalls) × (new.said < length new.own) × Rose old.stalls (seen new.link).stalls
SaidSo seen progress.Opened old new = Stands seen new × (new.said ≡ length new.own)
SaidSo seen progress.Bad old new = ⊥
SaidSo seen progress.Ended old new = ⊥
SaidSo seen progress.Failed old new = (1 ≤ (seen new.link).faults) × Stands seen new × (new.said < length new.own)
SaidSo seen progress.NoMemory old new = ⊥

-- the result of a try to write
pub record SaidTo {L : Type 0} (seen : L → LinkView) (result : Progress) (old new : Opening L) : Type 0 where
  pub so : SaidSo seen result (seen old.link) new
  pub same : IsSaying old new

abbrev pub HeardSo : {L : Type 0} → (L → LinkView) → Progress → LinkView → Opening L → Type 0
HeardSo seen progress.Waits old new = IsHearing seen new × Rose old.idles (seen new.link).idles
HeardSo seen progress.Opened old new = Stands seen new × ((used : ℕ) × (new.used ≡ Some used))
HeardSo seen progress.Bad old new = IsWrong seen new × IsUnanswered seen new
HeardSo seen progress.Ended old new = IsHearing seen new × ((seen new.link).ended ≡ true)
HeardSo seen progress.Failed old new = IsHearing seen new × (1 ≤ (seen new.link).faults)
HeardSo seen progress.NoMemory old new = ⊤

-- the result of a try to read
pub record HeardTo {L : Type 0} (seen : L → LinkView) (result : Progress) (old new : Opening L) : Type 0 where
  pub so : HeardSo seen result (seen old.link) new
  pub same : IsSame old new

-- what taking a piece changes
abbrev pub TakenIn : {L : Type 0} → Heard → List ℕ → Opening L → Opening L → Type 0
TakenIn heard.More piece old new = (new ≡ record old { came = old.came ++ piece }) × IsMore old.role old.way (old.came ++ piece)
TakenIn heard.Whole piece old new =
    (used : ℕ) × (answer : List ℕ) × OpensWith old.role old.way used answer (old.came ++ piece) × (new ≡ record old { own = old.own ++ answer; came = old.came ++ piece; used = Some used })
TakenIn heard.Bad piece old new = (new ≡ record old { came = old.came ++ piece }) × IsBad old.role old.way (old.came ++ piece)
TakenIn heard.NoMemory piece old new = (new.link ≡ old.link) × IsSame old new
