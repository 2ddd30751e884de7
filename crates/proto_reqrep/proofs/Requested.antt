-- The operations and requests of a req after each entry.
use Rattle.std.proofs.Common.{◌≡◌, refl, ap, sym, ◌∙◌, subst, List, [], ◌∷◌, ◌++◌, ℕ, ◌+◌, ◌^◌, ◌<◌, Bool, true, false, cond, arith, Option, Some, None, map}
use Rattle.std.specs.Prelude.{find, filter, drop, not, is_some, ◌&&◌, ◌||◌, ◌==◌}
use Rattle.std.specs.List.{list_any, list_all}
use Rattle.std.proofs.lemmas.List.{map-append}
use Rattle.sp_base.specs.declared.OpName.{OpName}
use Rattle.sp_base.specs.declared.role.Role.TheVariants as role
use Rattle.sp_msg.specs.Views.{MessageView}
use Rattle.sp_history.specs.declared.entry.Entry.{Entry}
use Rattle.sp_history.specs.declared.parts.Begun.{Begun}
use Rattle.sp_history.specs.declared.parts.How.{How}
use Rattle.sp_history.specs.declared.parts.Orphan.{Orphan}
use Rattle.sp_history.specs.declared.parts.LiveRequest.{LiveRequest}
use Rattle.sp_history.specs.declared.parts.Requests.{Requests}
use Rattle.sp_history.specs.declared.setting.Setting.{Setting}
use Rattle.sp_history.specs.Lists.{has, same_op, first_word}
use Rattle.sp_history.specs.Frames.{malformed, plain_item}
use Rattle.sp_history.specs.Past.{without_begun}
use Rattle.sp_history.specs.Once.{AreApart, AreDistinct, occurs}
use Rattle.sp_history.specs.Requests.{is_orphan, orphan_of, is_bereft, end_on, without_orphan, change_live, with_out, with_frame, wire_of, next_id, begin_on}
use Rattle.sp_history.specs.Legal.{was_superseded, is_at}
use Rattle.proto_live_requests.specs.declared.live.Live.{Live}
use Rattle.proto_live_requests.specs.declared.live.KeptReply.{KeptReply}
use Rattle.proto_reqrep.specs.declared.req.Asking.{Asking}
use Rattle.proto_live_requests.specs.LiveRequests.{without_live, live_ctx, live_id, is_live_on, request_of, sent_at, with_reply, item_of}
use Rattle.proto_reqrep.specs.Reqs.{Asked, begun_of, is_asked, is_left, is_sending, is_sending_on, is_receiving_on, orphaned, without_first, is_superseded, HasLive, IsOf}
use Rattle.proto_requests.specs.FirstFound.{with_found}
use Rattle.proto_requests.proofs.NamesApart.{apart_without, apart_more}
use Rattle.proto_reqrep.proofs.Orphaned.{any_either, all_both, all_kept, left_more, none_more, caused, without_map, left_less}
use Rattle.proto_live_requests.proofs.RequestLives.{live_less, distinct_less, distinct_more, sound_less, sound_more, find_last}
use Rattle.proto_live_requests.proofs.Outgoing.{out_is, out_alone, ids_out, ctxs_out, sound_out, ids_kept, ctxs_kept, sound_kept, frame_is}
use Rattle.proto_reqrep.proofs.OwnedRequests.{owned_more, owned_taken, owned_marked, owned_longer, owned_less, owned_out, owned_kept, single_more, single_taken, single_marked}

marked_begun : (c : ℕ) (ws : List Asking) → map begun_of (map (orphaned c) ws) ≡ map begun_of ws
marked_begun c [] = refl
marked_begun c (w ∷ ws) = ap (λ (rest : List Begun). begun_of w ∷ rest) (marked_begun c ws)

module _ (raw : Bool) (xs : List Live) (id : Option ℕ) (ws : List Asking) (ss : List Begun) (rs : Requests) where
  names : Asked raw xs id ws ss rs → AreApart (map begun_of ws)
  names h = subst (λ (l : List Begun). AreApart l) (sym h.pending) h.apart

  -- an operation is taken out, and is no longer an orphan
  pub taken : (op : OpName) → Asked raw xs id ws ss rs → Asked raw xs id (without_first op ws) (without_begun ss op) (without_orphan op rs)
  taken op h =
      record {
        live = h.live;
        last_id = h.last_id;
        ids = h.ids;
        places = h.places;
        sound = h.sound;
        pending = without_map op ws (names h op) ∙ ap (λ (l : List Begun). without_begun l op) h.pending;
        apart = apart_without ss op h.apart;
        orphans = left_less op ws rs h.orphans (names h);
        causes = all_kept is_superseded (λ o. not (same_op o.op op)) rs.orphans h.causes;
        single = λ q. single_taken op ws (h.single q);
        owned = λ q. owned_taken xs op ws (h.owned q);
      }

  -- one whose request is live is taken out
  pub taken_own : (op : OpName) → Asked raw xs id ws ss rs → is_orphan rs op ≡ false → Asked raw xs id (without_first op ws) (without_begun ss op) rs
  taken_own op h k =
      let less = taken op h in
      record {
        live = h.live;
        last_id = h.last_id;
        ids = h.ids;
        places = h.places;
        sound = h.sound;
        pending = less.pending;
        apart = less.apart;
        orphans = λ o. same o ∙ less.orphans o;
        causes = h.causes;
        single = less.single;
        owned = less.owned;
      }
    where
      stays : (os : List Orphan) → list_any (λ x. same_op x.op op) os ≡ false → filter (λ x. not (same_op x.op op)) os ≡ os
      stays [] q = refl
      stays (x ∷ os) q = go (same_op x.op op) q (stays os)
        where
          go : (b : Bool) → (b || list_any (λ x. same_op x.op op) os) ≡ false → (list_any (λ x. same_op x.op op) os ≡ false → filter (λ x. not (same_op x.op op)) os ≡ os) → cond (not b) (x ∷ filter (λ x. not (same_op x.op op)) os) (filter (λ x. not (same_op x.op op)) os) ≡ x ∷ os
          go true q again = absurd cc
          go false q again = ap (λ (rest : List Orphan). x ∷ rest) (again q)

      same : (o : OpName) → is_orphan rs o ≡ is_orphan (without_orphan op rs) o
      same o = ap (λ (os : List Orphan). list_any (λ x. same_op x.op o) os) (sym (stays rs.orphans k))

  -- no operation of this name is pending
  pub no_such : (op : OpName) → Asked raw xs id ws ss rs → occurs ss op ≡ 0 → Asked raw xs id ws ss (without_orphan op rs)
  no_such op h k =
      record {
        live = h.live;
        last_id = h.last_id;
        ids = h.ids;
        places = h.places;
        sound = h.sound;
        pending = h.pending;
        apart = h.apart;
        orphans = λ o. gone o;
        causes = all_kept is_superseded (λ o. not (same_op o.op op)) rs.orphans h.causes;
        single = h.single;
        owned = h.owned;
      }
    where
      absent : (vs : List Asking) → occurs (map begun_of vs) op ≡ 0 → vs ≡ without_first op vs
      absent [] q = refl
      absent (v ∷ vs) q = go (is_asked op v) q (absent vs)
        where
          go : (b : Bool) → cond b (occurs (map begun_of vs) op + 1) (occurs (map begun_of vs) op) ≡ 0 → (occurs (map begun_of vs) op ≡ 0 → vs ≡ without_first op vs) → v ∷ vs ≡ cond b vs (v ∷ without_first op vs)
          go true q again = absurd (omega (arith, q))
          go false q again = ap (λ (rest : List Asking). v ∷ rest) (again q)

      gone : (o : OpName) → is_orphan (without_orphan op rs) o ≡ list_any (is_left o) ws
      gone o = (taken op h).orphans o ∙ ap (λ (l : List Asking). list_any (is_left o) l) (sym (absent ws (ap (λ (l : List Begun). occurs l op) h.pending ∙ k)))

  -- the request of a context ends, replaced or given up
  pub ended : (c : ℕ) (w : How) → was_superseded (Some w) ≡ true → Asked raw xs id ws ss rs → Asked raw (without_live c xs) id (map (orphaned c) ws) ss (end_on (c ∷ []) w ss rs)
  ended c w k h =
      record {
        live = live_less c xs h.places ∙ ap (filter (λ r. not (has (c ∷ []) r.ctx))) h.live;
        last_id = h.last_id;
        ids = distinct_less live_id c xs h.ids;
        places = distinct_less live_ctx c xs h.places;
        sound = sound_less c xs h.sound;
        pending = marked_begun c ws ∙ h.pending;
        apart = h.apart;
        orphans = λ op. ap (λ (l : List Begun). is_orphan (end_on (c ∷ []) w l rs) op) (sym h.pending) ∙ left_more c op rs w ws (h.orphans op);
        causes = all_both is_superseded rs.orphans (map (orphan_of w) (filter (is_bereft (c ∷ []) rs) ss)) h.causes (caused w (filter (is_bereft (c ∷ []) rs) ss) k);
        single = λ q. single_marked c ws (h.single q);
        owned = λ q. owned_marked c xs ws (h.owned q);
      }

  -- the request of a context ends for which no operation waits
  pub ended_alone : (c : ℕ) (w : How) → list_any (λ (v : Asking). not v.is_orphan && (c == v.ctx)) ws ≡ false → Asked raw xs id ws ss rs → Asked raw (without_live c xs) id ws ss (end_on (c ∷ []) w ss rs)
  ended_alone c w k h =
      record {
        live = live_less c xs h.places ∙ ap (filter (λ r. not (has (c ∷ []) r.ctx))) h.live;
        last_id = h.last_id;
        ids = distinct_less live_id c xs h.ids;
        places = distinct_less live_ctx c xs h.places;
        sound = sound_less c xs h.sound;
        pending = h.pending;
        apart = h.apart;
        orphans = λ op. ap (λ (os : List Orphan). list_any (λ o. same_op o.op op) os) same ∙ h.orphans op;
        causes = ap (list_all is_superseded) same ∙ h.causes;
        single = h.single;
        owned = λ q. owned_less c xs ws (h.owned q) k;
      }
    where
      nil_right : (os : List Orphan) → os ++ [] ≡ os
      nil_right [] = refl
      nil_right (o ∷ os) = ap (λ (rest : List Orphan). o ∷ rest) (nil_right os)

      none : filter (is_bereft (c ∷ []) rs) ss ≡ []
      none = ap (filter (is_bereft (c ∷ []) rs)) (sym h.pending) ∙ none_more c (record { slot = 0; generation = 0 }) rs w ws (λ o q. h.orphans o ∙ q) k

      same : rs.orphans ++ map (orphan_of w) (filter (is_bereft (c ∷ []) rs) ss) ≡ rs.orphans
      same = ap (λ (l : List Begun). rs.orphans ++ map (orphan_of w) l) none ∙ nil_right rs.orphans

  -- the request of a context goes out
  pub gone_out : (c now p : ℕ) (y : Live) → find (is_live_on c) xs ≡ Some y → (raw ≡ false → list_any (λ (v : Asking). not v.is_orphan && is_sending_on c v) ws ≡ false) → Asked raw xs id ws ss rs
      → Asked raw (with_found (is_live_on c) (sent_at (record { pipe = p; when = now })) xs) id ws ss (change_live (with_out now p (wire_of (request_of y))) rs)
  gone_out c now p y f k h =
      subst
      (λ (l : List Live). Asked raw l id ws ss (change_live (with_out now p (wire_of (request_of y))) rs))
      (sym (out_alone c now p xs h.places))
      (record {
        live = out_is c now p xs y h.sound h.places h.ids f ∙ ap (map (with_out now p (wire_of (request_of y)))) h.live;
        last_id = h.last_id;
        ids = subst (λ (l : List ℕ). AreDistinct l) (sym (ids_out c now p xs)) h.ids;
        places = subst (λ (l : List ℕ). AreDistinct l) (sym (ctxs_out c now p xs)) h.places;
        sound = sound_out c now p xs h.sound;
        pending = h.pending;
        apart = h.apart;
        orphans = h.orphans;
        causes = h.causes;
        single = h.single;
        owned = λ q. owned_out c now p xs ws (h.owned q) (k q);
      })

  -- a reply comes
  pub reply_came : (z : Setting) (before : List Entry) (p n : ℕ) (b : List ℕ) (k : KeptReply) → z.role ≡ role.Req → malformed z before p b ≡ false → first_word b ≡ Some n → item_of k ≡ plain_item p (drop 4 b) → Asked raw xs id ws ss rs
      → Asked raw (with_reply n k xs) id ws ss (change_live (with_frame z before p b) rs)
  reply_came z before p n b k r m f i h =
      record {
        live = frame_is n k z before p b r m f i xs h.ids ∙ ap (map (with_frame z before p b)) h.live;
        last_id = h.last_id;
        ids = subst (λ (l : List ℕ). AreDistinct l) (sym (ids_kept n k xs)) h.ids;
        places = subst (λ (l : List ℕ). AreDistinct l) (sym (ctxs_kept n k xs)) h.places;
        sound = sound_kept n k xs h.sound;
        pending = h.pending;
        apart = h.apart;
        orphans = h.orphans;
        causes = h.causes;
        single = h.single;
        owned = λ q. owned_kept n k xs ws (h.owned q);
      }

  -- an operation begins; a receive of a live request, or one of a raw socket
  pub begun_one : (w : Asking) → w.is_orphan ≡ false → list_any (is_at w.op.slot) ss ≡ false → (raw ≡ false → is_sending w ≡ false) → (raw ≡ false → list_any (is_receiving_on w.ctx) ws ≡ false) → (raw ≡ false → HasLive xs w) → Asked raw xs id ws ss rs
      → Asked raw xs id (ws ++ w ∷ []) (ss ++ begun_of w ∷ []) rs
  begun_one w o free r s l h =
      record {
        live = h.live;
        last_id = h.last_id;
        ids = h.ids;
        places = h.places;
        sound = h.sound;
        pending = map-append begun_of ws (w ∷ []) ∙ ap (λ (l : List Begun). l ++ begun_of w ∷ []) h.pending;
        apart = apart_more ss (begun_of w) h.apart free;
        orphans = λ op. h.orphans op ∙ sym (any_either (is_left op) ws (w ∷ []) ∙ none op (list_any (is_left op) ws));
        causes = h.causes;
        single = λ q. single_more ws w (h.single q) (λ u. s q) (λ u. let bad : true ≡ false = sym u ∙ r q in absurd cc);
        owned = λ q. owned_more xs ws w (h.owned q) (λ u. l q);
      }
    where
      none : (op : OpName) (b : Bool) → (b || (w.is_orphan && same_op w.op op || false)) ≡ b
      none op true = refl
      none op false = rw o refl

  -- a send begins a request, when the one that was live on its context has ended
  pub begun_new : (c t : ℕ) (w : Asking) (x : Live) (z : Setting) (body : List ℕ) → w.is_orphan ≡ false → w.ctx ≡ c → (m : MessageView) → w.message ≡ Some m → m.body ≡ body → list_any (is_at w.op.slot) ss ≡ false
      → list_any (λ (v : Asking). not v.is_orphan && (v.ctx == c)) ws ≡ false → has (map live_ctx xs) c ≡ false → has (map live_id xs) x.id ≡ false → next_id z rs ≡ x.id
      → x.ctx ≡ c → x.copy.header ≡ [] → x.copy.body ≡ body → x.birth ≡ t → x.last_out ≡ None → x.reply ≡ None → x.id < 2 ^ 32 → Asked raw xs id ws ss rs
      → Asked raw (xs ++ x ∷ []) (Some x.id) (ws ++ w ∷ []) (ss ++ begun_of w ∷ []) (begin_on z t c body rs)
  begun_new c t w x z body o on m e eb free alone away new is_id xc xh xb xt xl xr xi h =
      record {
        live = map-append request_of xs (x ∷ []) ∙ ap (λ (r : LiveRequest). map request_of xs ++ r ∷ []) request_is ∙ ap (λ (l : List LiveRequest). l ++ record { ctx = c; id = next_id z rs; body = body; birth = t; last_out = None; replies = [] } ∷ []) h.live;
        last_id = ap (λ (n : ℕ). Some n) (sym is_id);
        ids = distinct_more live_id xs x h.ids new;
        places = distinct_more live_ctx xs x h.places (subst (λ n. has (map live_ctx xs) n ≡ false) (sym xc) away);
        sound = sound_more xs x h.sound xh xi xr;
        pending = map-append begun_of ws (w ∷ []) ∙ ap (λ (l : List Begun). l ++ begun_of w ∷ []) h.pending;
        apart = apart_more ss (begun_of w) h.apart free;
        orphans = λ op. h.orphans op ∙ sym (any_either (is_left op) ws (w ∷ []) ∙ none op (list_any (is_left op) ws));
        causes = h.causes;
        single = λ q. single_more ws w (h.single q) (λ u. let bad : true ≡ false = sym (ap is_some e) ∙ u in absurd cc) (λ u. subst (λ n. list_any (λ (v : Asking). not v.is_orphan && (v.ctx == n)) ws ≡ false) (sym on) alone);
        owned = λ q. owned_more (xs ++ x ∷ []) ws w (owned_longer xs (x ∷ []) ws (h.owned q)) (λ u. (x, found, of w.message refl));
      }
    where
      none : (op : OpName) (b : Bool) → (b || (w.is_orphan && same_op w.op op || false)) ≡ b
      none op true = refl
      none op false = rw o refl

      request_is : ◌≡◌ {A = LiveRequest} (request_of x) (record { ctx = c; id = next_id z rs; body = body; birth = t; last_out = None; replies = [] })
      request_is = rw (xc, is_id, xb, xt, xl, xr) refl

      found : find (is_live_on w.ctx) (xs ++ x ∷ []) ≡ Some x
      found = subst (λ n. find (is_live_on n) (xs ++ x ∷ []) ≡ Some x) (sym on) (find_last c xs x away xc)

      of : (o : Option MessageView) → w.message ≡ o → IsOf x w.message
      of o q = subst (λ (y : Option MessageView). IsOf x y) (sym e) (xb ∙ sym eb, xl)
