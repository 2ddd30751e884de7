use Rattle.std.proofs.Common.{◌≡◌, ◌+◌, ◌≤◌, refl, sym, subst, take, length, List, ℕ, true}
use Rattle.std.specs.Prelude.{IsTrue}
use Rattle.std.proofs.lemmas.List.{take_all}
use Rattle.sp_history.specs.declared.setting.Setting.{Setting}
use Rattle.sp_history.specs.Legal.{has_topic}
use Rattle.sp_history.specs.Past.{past_of, topics}
use Rattle.sp_history.specs.Setting.{has_topics}
use Rattle.cat_rounds.specs.Lasting.{AreOn}
use Rattle.cat_rounds.specs.SubscribedTopics.{CanSubscribe}
use Rattle.cat_rounds.proofs.Subscribing.{prepares_nothing, prepares_then, are_still_on, on_next, is_planned, is_short, is_supported}
use Rattle.cat_rounds.proofs.topics.subscribe_all.Goals as goal

pub loop-topic-init : goal.loop-topic-init
loop-topic-init g c = record { prepares = prepares_nothing c.args.single.now c.args.player.now c.requires.before; on = refl }

pub subscribe-requires-clause-before : goal.subscribe-requires-clause-before
subscribe-requires-clause-before g c = c.loop-topic.invariant.prepares.before

pub subscribe-requires-clause-planned : goal.subscribe-requires-clause-planned
subscribe-requires-clause-planned g c =
    let found = is_planned c.as_slice-topic-items.result.now c.loop-topic.topic-index c.topic-item.result c.loop-topic-test.true c.topic-item.is in
    subst (λ (t : List ℕ). IsTrue (has_topic c.args.player.now.script.topics t)) (sym c.as_slice.ensures) (subst (λ (us : List (List ℕ)). IsTrue (has_topic us c.topic-item.result)) c.as_slice-topic-items.ensures found)

pub subscribe-requires-clause-can : goal.subscribe-requires-clause-can
subscribe-requires-clause-can g c =
    let ts = c.as_slice-topic-items.result.now in
    let can = subst (λ (us : List (List ℕ)). CanSubscribe c.args.single.now.setting us) (sym c.as_slice-topic-items.ensures) c.requires.can in (
      subst (λ (z : Setting). IsTrue (has_topics z)) (sym c.loop-topic.invariant.prepares.goes_on.setting) (is_supported c.args.single.now.setting ts c.loop-topic.topic-index c.loop-topic-test.true can),
      subst (λ (t : List ℕ). length t ≤ 1024) (sym c.as_slice.ensures) (is_short ts c.loop-topic.topic-index c.topic-item.result c.loop-topic-test.true c.topic-item.is can.short),
    )

pub loop-topic-preserved : goal.loop-topic-preserved
loop-topic-preserved g c =
    let i = c.loop-topic.invariant in
    let e = c.subscribe.ensures.prepares in
    let ts = c.as_slice-topic-items.result.now in
    let at = c.loop-topic.topic-index in
    let new = c.subscribe.new.single.seen in
    let were = subst (λ (us : List (List ℕ)). AreOn (take at us) (past_of c.loop-topic.single.seen)) (sym c.as_slice-topic-items.ensures) i.on in
    let now_on = subst (λ (t : List ℕ). has_topic (topics (past_of new) 0) t ≡ true) c.as_slice.ensures c.in_ok-subscribe.ensures.on in
    record {
      prepares = prepares_then c.args.single.now c.loop-topic.single c.subscribe.new.single c.args.player.now i.prepares e;
      on = subst (λ (us : List (List ℕ)). AreOn (take (at + 1) us) (past_of new)) c.as_slice-topic-items.ensures (on_next ts (topics (past_of new) 0) at c.topic-item.result c.loop-topic-test.true c.topic-item.is (are_still_on (take at ts) (topics (past_of c.loop-topic.single.seen) 0) (topics (past_of new) 0) e.stays_on were) now_on);
    }

pub returns-in_err-subscribe-clause-prepares : goal.returns-in_err-subscribe-clause-prepares
returns-in_err-subscribe-clause-prepares g c = prepares_then c.args.single.now c.loop-topic.single c.subscribe.new.single c.args.player.now c.loop-topic.invariant.prepares c.subscribe.ensures.prepares

pub returns-clause-on : goal.returns-clause-on
returns-clause-on g c =
    let at = c.loop-topic.topic-index in
    let ts = c.as_slice-topic-items.result.now in
    let same = c.as_slice-topic-items.ensures in
    let all : take at ts ≡ ts = take_all at ts c.loop-topic-test.false in
    subst (λ (us : List (List ℕ)). AreOn us (past_of c.loop-topic.single.seen)) same (subst (λ (us : List (List ℕ)). AreOn us (past_of c.loop-topic.single.seen)) all (subst (λ (us : List (List ℕ)). AreOn (take at us) (past_of c.loop-topic.single.seen)) (sym same) c.loop-topic.invariant.on))
