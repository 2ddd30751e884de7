-- Writing to the end, and reading to the end.
use Rattle.std.proofs.Common.{◌≡◌, ◌≤◌, ◌<◌, ◌+◌, ◌-◌, ◌++◌, ℕ, List, length, take, drop, Option, Some, None, refl, sym, ap, subst, ◌∙◌, arith}
use Rattle.std.proofs.lemmas.List.{take-append-drop, take-append-le, drop-take, take-take, length-append, length-drop, take_all}
use Rattle.sp_base.specs.Outside.{Told, grown, Rose}
use Rattle.sp_base.specs.Views.{LinkView}
use Rattle.sp_base.specs.Steps.{Quiet, Went, AfterRead, AfterWrite}
use Rattle.sp_base.specs.declared.outside.LinkRead.{LinkRead}
use Rattle.sp_base.specs.declared.outside.LinkRead.TheVariants as reads
use Rattle.sp_base.specs.declared.outside.LinkWrite.{LinkWrite}
use Rattle.sp_base.specs.declared.outside.LinkWrite.TheVariants as writes
use Rattle.sp_links.specs.declared.opening.Opening.{Opening}
use Rattle.sp_links.specs.declared.opening.Progress.TheVariants as progress
use Rattle.sp_links.specs.declared.opening.Heard.TheVariants as heard
use Rattle.sp_links.specs.Openings.{IsBad, Begins}
use Rattle.sp_links.specs.Going.{Stands, IsOwn, IsMissing, IsHearing, IsLater, IsSame, IsSaying, SaidTo, HeardTo, TakenIn}
use Rattle.sp_links.proofs.OpeningTries.{later_on, same_after}

-- while it is written
pub record Saying {L : Type 0} (seen : L → LinkView) (old new : Opening L) : Type 0 where
  pub stands : Stands seen new
  pub later : IsLater (seen old.link) (seen new.link)
  pub same : IsSaying old new

-- while it is read
pub record Hearing {L : Type 0} (seen : L → LinkView) (old new : Opening L) : Type 0 where
  pub hearing : IsHearing seen new
  pub later : IsLater (seen old.link) (seen new.link)
  pub same : IsSame old new

pub told_grown : (P Q : List ℕ → Type 0) (o : Option (List ℕ)) (piece : List ℕ) → ((s : List ℕ) → P s → Q (s ++ piece)) → Told o P → Told (grown o piece) Q
told_grown P Q None piece f t = tt
told_grown P Q (Some s) piece f t = f s t

take_further : (xs : List ℕ) (n k : ℕ) → n ≤ length xs → take n xs ++ take k (drop n xs) ≡ take (n + k) xs
take_further xs n k fits =
    ap (λ t. take n xs ++ t) (sym (drop-take n k xs))
    ∙ ap (λ t. t ++ drop n (take (n + k) xs)) (sym (take-take n (n + k) xs (omega arith)))
    ∙ take-append-drop n (take (n + k) xs)

pub same_link : (l : LinkView) → IsLater l l
same_link l = record { place = refl; scheme = refl; faults = omega arith; idles = omega arith; stalls = omega arith }

pub after_write : (a : LinkWrite) (buf : List ℕ) (old new : LinkView) → AfterWrite a buf old new → IsLater old new
after_write (writes.Took k) buf old new x = record { place = x.shows.2.place; scheme = x.shows.2.scheme; faults = x.faults; idles = omega (arith, x.idles); stalls = x.stalls }
after_write writes.NotYet buf old new x = record { place = x.shows.0.place; scheme = x.shows.0.scheme; faults = x.faults; idles = omega (arith, x.idles); stalls = x.stalls }
after_write writes.Failed buf old new x = record { place = x.shows.0.place; scheme = x.shows.0.scheme; faults = x.faults; idles = omega (arith, x.idles); stalls = x.stalls }

pub after_read : (a : LinkRead) (buf : List ℕ) (old new : LinkView) → AfterRead a buf old new → IsLater old new
after_read (reads.Got k) buf old new x = record { place = x.shows.2.place; scheme = x.shows.2.scheme; faults = x.faults; idles = x.idles; stalls = omega (arith, x.stalls) }
after_read reads.NotYet buf old new x = record { place = x.shows.0.place; scheme = x.shows.0.scheme; faults = x.faults; idles = x.idles; stalls = omega (arith, x.stalls) }
after_read reads.Ended buf old new x = record { place = x.shows.0.place; scheme = x.shows.0.scheme; faults = x.faults; idles = x.idles; stalls = omega (arith, x.stalls) }
after_read reads.Failed buf old new x = record { place = x.shows.0.place; scheme = x.shows.0.scheme; faults = x.faults; idles = x.idles; stalls = omega (arith, x.stalls) }

rose_once : (a b : ℕ) → Rose a b → 1 ≤ b
rose_once a b r = omega (arith, r)

module _ {L : Type 0} (seen : L → LinkView) (old n : Opening L) (link : L) where
  -- no byte came and none went
  quiet : Stands seen n → Quiet (seen n.link) (seen link) → Stands seen (record n { link = link })
  quiet s q = record {
    is_open = q.is_open ∙ s.is_open;
    came = subst (λ (o : Option (List ℕ)). Told o (λ t. t ≡ n.came)) (sym q.came) s.came;
    written = subst (λ (o : Option (List ℕ)). Told o (λ t. t ≡ take n.said n.own)) (sym q.written) s.written;
    few = s.few;
    own = s.own;
  }

  saying : IsSaying old n → IsSaying old (record n { link = link })
  saying s = ap (λ (m : Opening L). record m { link = link }) s

  -- k more bytes went
  pub says_on : (k : ℕ) (buf : List ℕ) → Saying seen old n → buf ≡ drop n.said n.own → AfterWrite (writes.Took k) buf (seen n.link) (seen link) → Saying seen old (record n { link = link; said = n.said + k })
  says_on k buf s is x =
      let st = s.stands in
      let went : Went (take k (drop n.said n.own)) (seen n.link) (seen link) = subst (λ (b : List ℕ). Went (take k b) (seen n.link) (seen link)) is x.shows.2 in
      record {
        stands = record {
          is_open = went.is_open ∙ st.is_open;
          came = subst (λ (o : Option (List ℕ)). Told o (λ t. t ≡ n.came)) (sym went.came) st.came;
          written = subst (λ (o : Option (List ℕ)). Told o (λ t. t ≡ take (n.said + k) n.own)) (sym went.written)
              (told_grown (λ t. t ≡ take n.said n.own) (λ t. t ≡ take (n.said + k) n.own) (seen n.link).written (take k (drop n.said n.own)) (λ t e. ap (λ (v : List ℕ). v ++ take k (drop n.said n.own)) e ∙ take_further n.own n.said k st.few) st.written);
          few = omega (arith, x.shows.1, ap length is, length-drop n.said n.own, st.few);
          own = st.own;
        };
        later = later_on (seen old.link) (seen n.link) (seen link) s.later (after_write (writes.Took k) buf (seen n.link) (seen link) x);
        same = ap (λ (m : Opening L). record m { link = link; said = n.said + k }) s.same;
      }

  -- the buffer is what is still to be written
  pub says_next : (k : ℕ) (h : List ℕ) → Saying seen old n → h ≡ n.own → AfterWrite (writes.Took k) (take (length h - n.said) (drop n.said h)) (seen n.link) (seen link) → Saying seen old (record n { link = link; said = n.said + k })
  says_next k h s is x = says_on k (take (length h - n.said) (drop n.said h)) s (take_all (length h - n.said) (drop n.said h) (omega (arith, length-drop n.said h)) ∙ ap (drop n.said) is) x

  missing : n.said < length n.own → (u : Option ℕ) → IsMissing (record n { link = link }) u
  missing few None = tt
  missing few (Some u) = few

  pub says_not : (buf : List ℕ) → Saying seen old n → n.said < length n.own → AfterWrite writes.NotYet buf (seen n.link) (seen link) → Rose (seen old.link).stalls (seen link).stalls → SaidTo seen progress.Waits old (record n { link = link })
  says_not buf s few x r = record { so = (record { stands = quiet s.stands x.shows.0; missing = missing few n.used }, rose_once (seen n.link).stalls (seen link).stalls x.shows.1, few, r); same = saying s.same }

  pub stalls_from : (buf : List ℕ) → Saying seen old n → AfterWrite writes.NotYet buf (seen n.link) (seen link) → Rose (seen old.link).stalls (seen link).stalls
  stalls_from buf s x = omega (arith, s.later.stalls, x.shows.1)

  pub says_badly : (buf : List ℕ) → Saying seen old n → n.said < length n.own → AfterWrite writes.Failed buf (seen n.link) (seen link) → SaidTo seen progress.Failed old (record n { link = link })
  says_badly buf s few x = record { so = (rose_once (seen n.link).faults (seen link).faults x.shows.1, quiet s.stands x.shows.0, few); same = saying s.same }

  pub later_write : (a : LinkWrite) (buf : List ℕ) → Saying seen old n → AfterWrite a buf (seen n.link) (seen link) → IsLater (seen old.link) (seen link)
  later_write a buf s x = later_on (seen old.link) (seen n.link) (seen link) s.later (after_write a buf (seen n.link) (seen link) x)

  pub later_read : (a : LinkRead) (buf : List ℕ) → Hearing seen old n → AfterRead a buf (seen n.link) (seen link) → IsLater (seen old.link) (seen link)
  later_read a buf s x = later_on (seen old.link) (seen n.link) (seen link) s.later (after_read a buf (seen n.link) (seen link) x)

  hearing_on : Hearing seen old n → Quiet (seen n.link) (seen link) → IsHearing seen (record n { link = link })
  hearing_on h q = record { stands = quiet h.hearing.stands q; said = h.hearing.said; unheard = h.hearing.unheard }

  pub hears_nothing : (buf : List ℕ) → Hearing seen old n → AfterRead reads.NotYet buf (seen n.link) (seen link) → HeardTo seen progress.Waits old (record n { link = link })
  hears_nothing buf h x = record { so = (hearing_on h x.shows.0, (let l = h.later.idles in let r = x.shows.1 in omega (arith, l, r))); same = record { role = h.same.role; way = h.same.way } }

  pub hears_the_end : (buf : List ℕ) → Hearing seen old n → AfterRead reads.Ended buf (seen n.link) (seen link) → HeardTo seen progress.Ended old (record n { link = link })
  hears_the_end buf h x = record { so = (hearing_on h x.shows.0, x.shows.1); same = record { role = h.same.role; way = h.same.way } }

  pub hears_a_fault : (buf : List ℕ) → Hearing seen old n → AfterRead reads.Failed buf (seen n.link) (seen link) → HeardTo seen progress.Failed old (record n { link = link })
  hears_a_fault buf h x = record { so = (hearing_on h x.shows.0, rose_once (seen n.link).faults (seen link).faults x.shows.1); same = record { role = h.same.role; way = h.same.way } }

  -- ---- a piece came

  module _ (k : ℕ) (buf piece : List ℕ) (h : Hearing seen old n) (x : AfterRead (reads.Got k) buf (seen n.link) (seen link)) (is : piece ≡ take k buf) where
    all_came : Told (seen link).came (λ s. s ≡ n.came ++ piece)
    all_came = subst (λ (o : Option (List ℕ)). Told o (λ s. s ≡ n.came ++ piece)) (sym x.shows.2.came) (told_grown (λ s. s ≡ n.came) (λ s. s ≡ n.came ++ piece) (seen n.link).came (take k buf) (λ s e. ap (λ (v : List ℕ). v ++ take k buf) e ∙ ap (λ (v : List ℕ). n.came ++ v) (sym is)) h.hearing.stands.came)

    begins_by : (u : Option ℕ) → u ≡ None → IsOwn n.role n.way n.own n.came u → Begins n.role n.way n.own
    begins_by None e o = o.0
    begins_by (Some u) e o = absurd (cc e)

    begins : Begins n.role n.way n.own
    begins = begins_by n.used h.hearing.unheard h.hearing.stands.own

    as_written : Told (seen link).written (λ w. w ≡ take n.said n.own)
    as_written = subst (λ (o : Option (List ℕ)). Told o (λ t. t ≡ take n.said n.own)) (sym x.shows.2.written) h.hearing.stands.written

    -- and more is to come
    pub hears_more : (m : Opening L) → TakenIn heard.More piece (record n { link = link }) m → Hearing seen old m
    hears_more m t = subst (λ (q : Opening L). Hearing seen old q) (sym t.0) (record {
      hearing = record {
        stands = record {
          is_open = x.shows.2.is_open ∙ h.hearing.stands.is_open;
          came = all_came;
          written = as_written;
          few = h.hearing.stands.few;
          own = own;
        };
        said = h.hearing.said;
        unheard = h.hearing.unheard;
      };
      later = later_on (seen old.link) (seen n.link) (seen link) h.later (after_read (reads.Got k) buf (seen n.link) (seen link) x);
      same = record { role = h.same.role; way = h.same.way };
    })
      where
        own_by : (u : Option ℕ) → u ≡ None → IsOwn n.role n.way n.own n.came u → IsOwn n.role n.way n.own (n.came ++ piece) u
        own_by None e o = (o.0, t.1)
        own_by (Some u) e o = absurd (cc e)

        own : IsOwn n.role n.way n.own (n.came ++ piece) n.used
        own = own_by n.used h.hearing.unheard h.hearing.stands.own

    -- and all is there
    pub hears_all : (m : Opening L) → TakenIn heard.Whole piece (record n { link = link }) m → HeardTo seen progress.Opened old m
    hears_all m (used, answer, opens, new) = subst (λ (q : Opening L). HeardTo seen progress.Opened old q) (sym new) (record {
      so = (
        record {
          is_open = x.shows.2.is_open ∙ h.hearing.stands.is_open;
          came = all_came;
          written = subst (λ (v : List ℕ). Told (seen link).written (λ t. t ≡ v)) shorter as_written;
          few = omega (arith, h.hearing.stands.few, length-append n.own answer);
          own = (n.own, answer, begins, opens, refl);
        },
        (used, refl),
      );
      same = record { role = h.same.role; way = h.same.way };
    })
      where
        shorter : take n.said n.own ≡ take n.said (n.own ++ answer)
        shorter = sym (take-append-le n.said n.own answer h.hearing.stands.few)

    -- and it is wrong
    pub hears_wrong : (m : Opening L) → TakenIn heard.Bad piece (record n { link = link }) m → HeardTo seen progress.Bad old m
    hears_wrong m t = subst (λ (q : Opening L). HeardTo seen progress.Bad old q) (sym t.0) (record {
      so = (wrong (seen link).came all_came, unanswered (seen link).written as_written);
      same = record { role = h.same.role; way = h.same.way };
    })
      where
        wrong : (o : Option (List ℕ)) → Told o (λ s. s ≡ n.came ++ piece) → Told o (IsBad n.role n.way)
        wrong None y = tt
        wrong (Some s) y = subst (λ (v : List ℕ). IsBad n.role n.way v) (sym y) t.1

        all : take n.said n.own ≡ n.own
        all = take_all n.said n.own (omega (arith, h.hearing.said))

        unanswered : (o : Option (List ℕ)) → Told o (λ w. w ≡ take n.said n.own) → Told o (λ w. Begins n.role n.way w)
        unanswered None y = tt
        unanswered (Some w) y = subst (λ (v : List ℕ). Begins n.role n.way v) (sym (y ∙ all)) begins

    pub hears_too_much : (m : Opening L) → TakenIn heard.NoMemory piece (record n { link = link }) m → HeardTo seen progress.NoMemory old m
    hears_too_much m t = record { so = tt; same = same_after old (record n { link = link }) m (record { role = h.same.role; way = h.same.way }) t.1 }
