use Rattle.std.proofs.Common.{◌≡◌, ◌∙◌, ◌+◌, ◌≤◌, ◌<◌, ℕ, arith, inl, inr, subst}
use Rattle.std.specs.Prelude.{length, min}
use Rattle.sp_core.proofs.Attached.{alone, some_up, all_pipes}
use Rattle.sp_core.proofs.owner.Core.why_not.Goals as goal

-- by the sum, as far as it fits: exactly this many, or fewer
few_by : (r a b d : ℕ) → r ≡ min (a + b) 18446744073709551615 → r < 4096 → b ≡ d → a + d < 4096
few_by r a b d e f l = omega (arith, e, f, l)

many_by : (r a b d : ℕ) → r ≡ min (a + b) 18446744073709551615 → 4096 ≤ r → b ≡ d → 4096 ≤ a + d
many_by r a b d e f l = omega (arith, e, f, l)

pub returns-then-self-clause-told : goal.returns-then-self-clause-told
returns-then-self-clause-told g c = λ t h. h.closed ∙ c.if-self.true

pub returns-then-has_its_one-clause-told : goal.returns-then-has_its_one-clause-told
returns-then-has_its_one-clause-told g c =
    λ t h.
    let one = c.has_its_one.ensures.one c.if-has_its_one.true t h.proto in
    (h.closed ∙ c.if-self.false, one.0, some_up g.P.Proto.ties g.P.Proto.room g.W.Wire.shown c.args.self.now t h one.1)

pub returns-then-saturating_add-ge-MOST_PIPES-clause-told : goal.returns-then-saturating_add-ge-MOST_PIPES-clause-told
returns-then-saturating_add-ge-MOST_PIPES-clause-told g c =
    λ t h.
    let none = c.has_its_one.ensures.none c.if-has_its_one.false t h.proto in
    let all = all_pipes g.P.Proto.ties g.P.Proto.room g.W.Wire.shown c.args.self.now t h in
    (h.closed ∙ c.if-self.false, alone g.P.Proto.ties g.P.Proto.room g.W.Wire.shown c.args.self.now t h none, inl (subst (λ (n : ℕ). 4096 ≤ n) all (many_by c.saturating_add.result c.args.self.now.pipes.count c.len.result (length c.args.self.now.pipes.down.items) c.saturating_add.ensures c.if-saturating_add-ge-MOST_PIPES.true (omega (arith, c.len.ensures, c.args.self.now.pipes.down.ok.0)))))

pub returns-then-self-ge-LAST_NUMBER-clause-told : goal.returns-then-self-ge-LAST_NUMBER-clause-told
returns-then-self-ge-LAST_NUMBER-clause-told g c =
    λ t h.
    let none = c.has_its_one.ensures.none c.if-has_its_one.false t h.proto in
    (h.closed ∙ c.if-self.false, alone g.P.Proto.ties g.P.Proto.room g.W.Wire.shown c.args.self.now t h none, inr (omega (arith, h.tally.ups_are, c.if-self-ge-LAST_NUMBER.true)))

pub returns-clause-told : goal.returns-clause-told
returns-clause-told g c =
    λ t h.
    let all = all_pipes g.P.Proto.ties g.P.Proto.room g.W.Wire.shown c.args.self.now t h in record {
      is_open = h.closed ∙ c.if-self.false;
      alone = alone g.P.Proto.ties g.P.Proto.room g.W.Wire.shown c.args.self.now t h (c.has_its_one.ensures.none c.if-has_its_one.false t h.proto);
      few = subst (λ (n : ℕ). n < 4096) all (few_by c.saturating_add.result c.args.self.now.pipes.count c.len.result (length c.args.self.now.pipes.down.items) c.saturating_add.ensures c.if-saturating_add-ge-MOST_PIPES.false (omega (arith, c.len.ensures, c.args.self.now.pipes.down.ok.0)));
      numbers_left = omega (arith, h.tally.ups_are, c.if-self-ge-LAST_NUMBER.false);
    }

pub returns-clause-room : goal.returns-clause-room
returns-clause-room g c = λ q. (few_by c.saturating_add.result c.args.self.now.pipes.count c.len.result (length c.args.self.now.pipes.down.items) c.saturating_add.ensures c.if-saturating_add-ge-MOST_PIPES.false (omega (arith, c.len.ensures, c.args.self.now.pipes.down.ok.0)), omega (arith, c.if-self-ge-LAST_NUMBER.false))

pub returns-then-self-clause-room : goal.returns-then-self-clause-room
returns-then-self-clause-room g c = λ q. absurd cc

pub returns-then-has_its_one-clause-room : goal.returns-then-has_its_one-clause-room
returns-then-has_its_one-clause-room g c = λ q. absurd cc

pub returns-then-saturating_add-ge-MOST_PIPES-clause-room : goal.returns-then-saturating_add-ge-MOST_PIPES-clause-room
returns-then-saturating_add-ge-MOST_PIPES-clause-room g c = λ q. absurd cc

pub returns-then-self-ge-LAST_NUMBER-clause-room : goal.returns-then-self-ge-LAST_NUMBER-clause-room
returns-then-self-ge-LAST_NUMBER-clause-room g c = λ q. absurd cc
