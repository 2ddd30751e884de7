-- The pipes that a machine knows.
use Rattle.std.proofs.Common.{◌≡◌, refl, ap, ◌∙◌, List, [], ◌∷◌, ◌++◌, ℕ, ◌+◌, Bool, true, false, arith, map, ◌<◌, ◌≤◌}
use Rattle.std.specs.Prelude.{filter, not, ◌||◌, ◌==◌}
use Rattle.std.specs.List.{list_all}
use Rattle.std.proofs.lemmas.Bool.Decides.{nat_tests}
use Rattle.sp_history.specs.declared.entry.Entry.TheVariants.{Full}
use Rattle.sp_history.specs.declared.entry.Why.{Why}
use Rattle.sp_history.specs.Lists.{has, without}
use Rattle.sp_history.specs.Past.{up, ups}
use Rattle.sp_history.specs.Settled.{has_full}
use Rattle.sp_history.specs.Moments.{Moment, Lawful, past, also}
use Rattle.proto_requests.specs.Ports.{PortView, Knows, port_of, marked, cleared, is_below, free_count}
use Rattle.proto_requests.proofs.Piping.{ports_without, has_without, fewer_free, ports_marked, marks_fewer, ports_cleared, ports_more, known_more, below_all}

pub up_knows : (ps qs : List PortView) (us : List ℕ) (last p : ℕ) (full : ℕ → Bool) → Knows qs us last full → p ≡ last + 1 → ps ≡ qs ++ record { pipe = p; is_full = false } ∷ [] → Knows ps (us ++ p ∷ []) (last + 1) full
up_knows ps qs us last p full h n e =
    record {
      ports = e ∙ ap (λ (xs : List PortView). xs ++ record { pipe = p; is_full = false } ∷ []) h.ports ∙ ports_more full us p (h.unmet p (omega (arith, n)));
      known = known_more us last p h.known n;
      unmet = λ q g. h.unmet q (omega (arith, g));
    }

-- all that are known have numbers below that of the new one
pub known_below : (qs : List PortView) (us : List ℕ) (last p : ℕ) (full : ℕ → Bool) → Knows qs us last full → p ≡ last + 1 → list_all (is_below p) qs ≡ true
known_below qs us last p full h n = ap (list_all (is_below p)) h.ports ∙ below_all full us last p h.known n

pub fresh_knows : (ps qs : List PortView) (us : List ℕ) (last : ℕ) (full : ℕ → Bool) → Knows qs us last full → ps ≡ map cleared qs → Knows ps us last (λ q. false)
fresh_knows ps qs us last full h e = record { ports = e ∙ ap (map cleared) h.ports ∙ ports_cleared full us; known = h.known; unmet = λ q g. refl }

pub full_knows : (ps qs : List PortView) (t : Moment) (p : ℕ) → Lawful (also t (Full p)) → Knows qs (up (past t)) (ups (past t)) (λ q. has_full t.turn q) → ps ≡ map (marked p) qs → Knows ps (up (past t)) (ups (past t)) (λ q. (p == q) || has_full t.turn q)
full_knows ps qs t p l h e =
    record {
      ports = e ∙ ap (map (marked p)) h.ports ∙ ports_marked (λ q. has_full t.turn q) p (up (past t));
      known = h.known;
      unmet = λ q k. ap (λ b. (p == q) || b) (h.unmet q k) ∙ other q (h.known p l.turn.0.itself) k;
    }
  where
    other : (q : ℕ) → p ≤ ups (past t) → ups (past t) < q → ((p == q) || false) ≡ false
    other q k g = grind (arith, nat_tests)

pub full_free : (ps qs : List PortView) (t : Moment) (p : ℕ) → Knows qs (up (past t)) (ups (past t)) (λ q. has_full t.turn q) → ps ≡ map (marked p) qs → has_full t.turn p ≡ false → has (up (past t)) p ≡ true → free_count ps < free_count qs
full_free ps qs t p h e n u =
    let full : ℕ → Bool = λ q. has_full t.turn q in
    let now : ps ≡ map (port_of (λ q. (p == q) || full q)) (up (past t)) = e ∙ ap (map (marked p)) h.ports ∙ ports_marked full p (up (past t)) in
    rw (now, h.ports) (marks_fewer full p (up (past t)) n u)

pub down_knows : (ps qs : List PortView) (t : Moment) (p : ℕ) (why : Why) → Knows qs (up (past t)) (ups (past t)) (λ q. has_full t.turn q) → ps ≡ filter (λ (x : PortView). not (x.pipe == p)) qs → Knows ps (without (up (past t)) p) (ups (past t)) (λ q. has_full t.turn q)
down_knows ps qs t p why h e =
    record { ports = e ∙ ap (filter (λ (x : PortView). not (x.pipe == p))) h.ports ∙ ports_without (λ q. has_full t.turn q) (up (past t)) p; known = λ q k. h.known q (has_without (up (past t)) p q k); unmet = h.unmet }

pub down_free : (ps qs : List PortView) (t : Moment) (p : ℕ) → Knows qs (up (past t)) (ups (past t)) (λ q. has_full t.turn q) → ps ≡ filter (λ (x : PortView). not (x.pipe == p)) qs → has_full t.turn p ≡ false → has (up (past t)) p ≡ true → free_count ps < free_count qs
down_free ps qs t p h e n u =
    let full : ℕ → Bool = λ q. has_full t.turn q in
    let now : ps ≡ map (port_of full) (without (up (past t)) p) = e ∙ ap (filter (λ (x : PortView). not (x.pipe == p))) h.ports ∙ ports_without full (up (past t)) p in
    rw (now, h.ports) (fewer_free full p (up (past t)) n u)
