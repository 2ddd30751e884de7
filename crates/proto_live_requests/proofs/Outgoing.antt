-- The requests of a req after one goes out, or a reply comes.
use Rattle.std.proofs.Common.{◌≡◌, refl, ap, sym, ◌∙◌, subst, List, [], ◌∷◌, ◌++◌, ℕ, ◌^◌, ◌<◌, Bool, true, false, cond, Option, Some, None, map, drop, take, length}
use Rattle.std.specs.Prelude.{find, not, is_some, nat_lt, ◌&&◌, ◌||◌, ◌==◌}
use Rattle.std.specs.Option.{option_map}
use Rattle.std.specs.Int.{w32, from_be_bytes}
use Rattle.std.proofs.lemmas.Nat.{from_be_bytes-to_be_bytes_4}
use lib.Pointwise.{bytes_decides}
use Rattle.sp_base.specs.declared.role.Role.TheVariants as role
use Rattle.sp_history.specs.declared.entry.Entry.{Entry}
use Rattle.sp_history.specs.declared.parts.LiveRequest.{LiveRequest}
use Rattle.sp_history.specs.declared.parts.Item.{Item}
use Rattle.sp_history.specs.declared.parts.LastOut.{LastOut}
use Rattle.sp_history.specs.declared.setting.Setting.{Setting}
use Rattle.sp_history.specs.Lists.{has, word, first_word, is_number, same_bytes, is_nil}
use Rattle.sp_history.specs.Setting.{is_req}
use Rattle.sp_history.specs.Frames.{malformed, plain_item}
use Rattle.sp_history.specs.Once.{AreDistinct}
use Rattle.sp_history.specs.Requests.{wire_of, with_out, with_frame, is_for, has_room}
use Rattle.proto_live_requests.specs.declared.live.Live.{Live}
use Rattle.proto_live_requests.specs.declared.live.KeptReply.{KeptReply}
use Rattle.proto_live_requests.specs.LiveRequests.{request_of, live_ctx, live_id, is_live_on, with_out_on, sent_at, AreSound, items_of, item_of, waits_for, with_kept, with_reply}
use Rattle.proto_requests.specs.FirstFound.{with_found}
use Rattle.proto_requests.proofs.TestValues.{equal_of, same_number, turned}

word_back : (n : ℕ) → n < 2 ^ 32 → from_be_bytes w32 (word n) ≡ n
word_back n h = from_be_bytes-to_be_bytes_4 n h

same_start : (i j : ℕ) (xs ys : List ℕ) → i < 2 ^ 32 → j < 2 ^ 32 → word i ++ xs ≡ word j ++ ys → i ≡ j
same_start i j xs ys h k e =
    let first : word i ≡ word j = ap (take 4) e in
    sym (word_back i h) ∙ ap (from_be_bytes w32) first ∙ word_back j k

bytes_same : (b : List ℕ) → same_bytes b b ≡ true
bytes_same b = (bytes_decides b b).1 refl

-- the bytes of requests of other ids differ
bytes_differ : (i j : ℕ) (xs ys : List ℕ) → i < 2 ^ 32 → j < 2 ^ 32 → (j == i) ≡ false → same_bytes (word i ++ xs) (word j ++ ys) ≡ false
bytes_differ i j xs ys h k n = go (same_bytes (word i ++ xs) (word j ++ ys)) refl
  where
    go : (b : Bool) → same_bytes (word i ++ xs) (word j ++ ys) ≡ b → b ≡ false
    go false e = refl
    go true e =
        let is : i ≡ j = same_start i j xs ys h k ((bytes_decides (word i ++ xs) (word j ++ ys)).0 e) in
        let yes_ : (j == i) ≡ true = subst (λ m. (j == m) ≡ true) (sym is) (same_number j) in
        let bad : true ≡ false = sym yes_ ∙ n in absurd cc

module _ (c now p : ℕ) where
  abbrev gone : LastOut
  gone = record { pipe = p; when = now }

  -- requests of other contexts and ids stay
  none_out : (id : ℕ) (body : List ℕ) (xs : List Live) → id < 2 ^ 32 → AreSound xs → has (map live_ctx xs) c ≡ false → has (map live_id xs) id ≡ false
      → map request_of (map (with_out_on c gone) xs) ≡ map (with_out now p (word id ++ body)) (map request_of xs)
  none_out id body [] b s h k = refl
  none_out id body (x ∷ xs) b s h k = go (x.ctx == c) h (x.id == id) refl k (none_out id body xs b s.3)
    where
      go : (a : Bool) → (a || has (map live_ctx xs) c) ≡ false → (d : Bool) → (x.id == id) ≡ d → (d || has (map live_id xs) id) ≡ false
          → (has (map live_ctx xs) c ≡ false → has (map live_id xs) id ≡ false → map request_of (map (with_out_on c gone) xs) ≡ map (with_out now p (word id ++ body)) (map request_of xs))
          → request_of (record { ctx = x.ctx; id = x.id; copy = x.copy; birth = x.birth; last_out = cond a (Some gone) x.last_out; reply = x.reply }) ∷ map request_of (map (with_out_on c gone) xs)
          ≡ cond (same_bytes (word id ++ body) (word x.id ++ x.copy.body)) (record (request_of x) { last_out = Some gone }) (request_of x) ∷ map (with_out now p (word id ++ body)) (map request_of xs)
      go true h d e k again = absurd cc
      go false h true e k again = absurd cc
      go false h false e k again = rw (bytes_differ id x.id body x.copy.body b s.1 e) (ap (λ (rest : List LiveRequest). request_of x ∷ rest) (again h k))

  pub out_is : (xs : List Live) (y : Live) → AreSound xs → AreDistinct (map live_ctx xs) → AreDistinct (map live_id xs) → find (is_live_on c) xs ≡ Some y
      → map request_of (map (with_out_on c gone) xs) ≡ map (with_out now p (wire_of (request_of y))) (map request_of xs)
  out_is [] y s d i f = absurd cc
  out_is (x ∷ xs) y s d i f = go (x.ctx == c) refl f (out_is xs y s.3 d.1 i.1)
    where
      its : Some x ≡ Some y → x ≡ y
      its q = cc

      other_id : (vs : List Live) → find (is_live_on c) vs ≡ Some y → has (map live_id vs) x.id ≡ false → (x.id == y.id) ≡ false
      other_id [] g h = absurd cc
      other_id (v ∷ vs) g h = step (v.ctx == c) g (v.id == x.id) refl h (other_id vs)
        where
          it : Some v ≡ Some y → v ≡ y
          it q = cc

          step : (a : Bool) → cond a (Some v) (find (is_live_on c) vs) ≡ Some y → (b : Bool) → (v.id == x.id) ≡ b → (b || has (map live_id vs) x.id) ≡ false → (find (is_live_on c) vs ≡ Some y → has (map live_id vs) x.id ≡ false → (x.id == y.id) ≡ false) → (x.id == y.id) ≡ false
          step a g true e h again = absurd cc
          step true g false e h again = subst (λ (z : Live). (x.id == z.id) ≡ false) (it g) (turned v.id x.id false e)
          step false g false e h again = again g h

      small : (vs : List Live) → AreSound vs → find (is_live_on c) vs ≡ Some y → y.id < 2 ^ 32
      small [] t g = absurd cc
      small (v ∷ vs) t g = step (v.ctx == c) g (small vs t.3)
        where
          it : Some v ≡ Some y → v ≡ y
          it q = cc

          step : (a : Bool) → cond a (Some v) (find (is_live_on c) vs) ≡ Some y → (find (is_live_on c) vs ≡ Some y → y.id < 2 ^ 32) → y.id < 2 ^ 32
          step true g again = subst (λ (z : Live). z.id < 2 ^ 32) (it g) t.1
          step false g again = again g

      go : (a : Bool) → (x.ctx == c) ≡ a → cond a (Some x) (find (is_live_on c) xs) ≡ Some y → (find (is_live_on c) xs ≡ Some y → map request_of (map (with_out_on c gone) xs) ≡ map (with_out now p (wire_of (request_of y))) (map request_of xs))
          → request_of (record { ctx = x.ctx; id = x.id; copy = x.copy; birth = x.birth; last_out = cond a (Some gone) x.last_out; reply = x.reply }) ∷ map request_of (map (with_out_on c gone) xs)
          ≡ cond (same_bytes (word y.id ++ y.copy.body) (word x.id ++ x.copy.body)) (record (request_of x) { last_out = Some gone }) (request_of x) ∷ map (with_out now p (wire_of (request_of y))) (map request_of xs)
      go true e f again =
          let is : x ≡ y = its f in
          let away : has (map live_ctx xs) c ≡ false = subst (λ n. has (map live_ctx xs) n ≡ false) (equal_of x.ctx c e) d.0 in
          let rest : map request_of (map (with_out_on c gone) xs) ≡ map (with_out now p (word x.id ++ x.copy.body)) (map request_of xs) = none_out x.id x.copy.body xs s.1 s.3 away i.0 in
          let whole : request_of (record { ctx = x.ctx; id = x.id; copy = x.copy; birth = x.birth; last_out = Some gone; reply = x.reply }) ∷ map request_of (map (with_out_on c gone) xs)
          ≡ cond (same_bytes (word x.id ++ x.copy.body) (word x.id ++ x.copy.body)) (record (request_of x) { last_out = Some gone }) (request_of x) ∷ map (with_out now p (wire_of (request_of x))) (map request_of xs) =
          rw (bytes_same (word x.id ++ x.copy.body)) (ap (λ (more : List LiveRequest). record (request_of x) { last_out = Some gone } ∷ more) rest) in
          subst (λ (z : Live). request_of (record { ctx = x.ctx; id = x.id; copy = x.copy; birth = x.birth; last_out = Some gone; reply = x.reply }) ∷ map request_of (map (with_out_on c gone) xs)
          ≡ cond (same_bytes (word z.id ++ z.copy.body) (word x.id ++ x.copy.body)) (record (request_of x) { last_out = Some gone }) (request_of x) ∷ map (with_out now p (wire_of (request_of z))) (map request_of xs)) is whole
      go false e f again =
          rw (bytes_differ y.id x.id y.copy.body x.copy.body (small xs s.3 f) s.1 (other_id xs f i.0)) (ap (λ (rest : List LiveRequest). request_of x ∷ rest) (again f))

  -- where each context has one, only that one changes
  pub out_alone : (xs : List Live) → AreDistinct (map live_ctx xs) → with_found (is_live_on c) (sent_at gone) xs ≡ map (with_out_on c gone) xs
  out_alone [] d = refl
  out_alone (x ∷ xs) d = go (x.ctx == c) refl (out_alone xs d.1)
    where
      stay : (vs : List Live) → has (map live_ctx vs) c ≡ false → vs ≡ map (with_out_on c gone) vs
      stay [] h = refl
      stay (v ∷ vs) h = step (v.ctx == c) refl h (stay vs)
        where
          step : (b : Bool) → (v.ctx == c) ≡ b → (b || has (map live_ctx vs) c) ≡ false → (has (map live_ctx vs) c ≡ false → vs ≡ map (with_out_on c gone) vs) → v ∷ vs ≡ record { ctx = v.ctx; id = v.id; copy = v.copy; birth = v.birth; last_out = cond b (Some gone) v.last_out; reply = v.reply } ∷ map (with_out_on c gone) vs
          step true e h again = absurd cc
          step false e h again = ap (λ (rest : List Live). v ∷ rest) (again h)

      go : (b : Bool) → (x.ctx == c) ≡ b → with_found (is_live_on c) (sent_at gone) xs ≡ map (with_out_on c gone) xs
          → cond b (sent_at gone x ∷ xs) (x ∷ with_found (is_live_on c) (sent_at gone) xs) ≡ record { ctx = x.ctx; id = x.id; copy = x.copy; birth = x.birth; last_out = cond b (Some gone) x.last_out; reply = x.reply } ∷ map (with_out_on c gone) xs
      go true e again = ap (λ (rest : List Live). sent_at gone x ∷ rest) (stay xs (subst (λ n. has (map live_ctx xs) n ≡ false) (equal_of x.ctx c e) d.0))
      go false e again = ap (λ (rest : List Live). x ∷ rest) again

  pub ids_out : (xs : List Live) → map live_id (map (with_out_on c gone) xs) ≡ map live_id xs
  ids_out [] = refl
  ids_out (x ∷ xs) = ap (λ (rest : List ℕ). x.id ∷ rest) (ids_out xs)

  pub ctxs_out : (xs : List Live) → map live_ctx (map (with_out_on c gone) xs) ≡ map live_ctx xs
  ctxs_out [] = refl
  ctxs_out (x ∷ xs) = ap (λ (rest : List ℕ). x.ctx ∷ rest) (ctxs_out xs)

  pub sound_out : (xs : List Live) → AreSound xs → AreSound (map (with_out_on c gone) xs)
  sound_out [] s = s
  sound_out (x ∷ xs) s = (s.0, s.1, go (x.ctx == c), sound_out xs s.3)
    where
      go : (a : Bool) → cond a (Some gone) x.last_out ≡ None → x.reply ≡ None
      go true h = absurd cc
      go false h = s.2 h

  pub find_out : (d : ℕ) (xs : List Live) → find (is_live_on d) (map (with_out_on c gone) xs) ≡ option_map (with_out_on c gone) (find (is_live_on d) xs)
  find_out d [] = refl
  find_out d (x ∷ xs) = go (x.ctx == d) (find_out d xs)
    where
      go : (a : Bool) → find (is_live_on d) (map (with_out_on c gone) xs) ≡ option_map (with_out_on c gone) (find (is_live_on d) xs)
          → cond a (Some (with_out_on c gone x)) (find (is_live_on d) (map (with_out_on c gone) xs)) ≡ option_map (with_out_on c gone) (cond a (Some x) (find (is_live_on d) xs))
      go true h = refl
      go false h = h

-- ---- A reply comes

module _ (id : ℕ) (k : KeptReply) where
  pub ids_kept : (xs : List Live) → map live_id (with_reply id k xs) ≡ map live_id xs
  ids_kept [] = refl
  ids_kept (x ∷ xs) = go (waits_for id x) (ids_kept xs)
    where
      go : (a : Bool) → map live_id (with_reply id k xs) ≡ map live_id xs → map live_id (cond a (with_kept k x ∷ xs) (x ∷ with_reply id k xs)) ≡ x.id ∷ map live_id xs
      go true h = refl
      go false h = ap (λ (rest : List ℕ). x.id ∷ rest) h

  pub ctxs_kept : (xs : List Live) → map live_ctx (with_reply id k xs) ≡ map live_ctx xs
  ctxs_kept [] = refl
  ctxs_kept (x ∷ xs) = go (waits_for id x) (ctxs_kept xs)
    where
      go : (a : Bool) → map live_ctx (with_reply id k xs) ≡ map live_ctx xs → map live_ctx (cond a (with_kept k x ∷ xs) (x ∷ with_reply id k xs)) ≡ x.ctx ∷ map live_ctx xs
      go true h = refl
      go false h = ap (λ (rest : List ℕ). x.ctx ∷ rest) h

  pub sound_kept : (xs : List Live) → AreSound xs → AreSound (with_reply id k xs)
  sound_kept [] s = s
  sound_kept (x ∷ xs) s = go (x.id == id) x.last_out refl (is_some x.reply) (sound_kept xs s.3)
    where
      go : (a : Bool) (o : Option LastOut) → x.last_out ≡ o → (r : Bool) → AreSound (with_reply id k xs) → AreSound (cond (a && is_some o && not r) (with_kept k x ∷ xs) (x ∷ with_reply id k xs))
      go true (Some o) e false again = (s.0, s.1, λ q. let bad : Some o ≡ None = sym e ∙ q in absurd cc, s.3)
      go true (Some o) e true again = (s.0, s.1, s.2, again)
      go true None e r again = (s.0, s.1, s.2, again)
      go false o e r again = (s.0, s.1, s.2, again)

  module _ (z : Setting) (before : List Entry) (p : ℕ) (b : List ℕ) where
    -- what a frame does to one request, as the machine sees it
    frame_one : z.role ≡ role.Req → malformed z before p b ≡ false → first_word b ≡ Some id → item_of k ≡ plain_item p (drop 4 b) → (x : Live) → (w : Bool) → waits_for id x ≡ w → with_frame z before p b (request_of x) ≡ cond w (request_of (with_kept k x)) (request_of x)
    frame_one r m f i x w e =
        ap (λ q. cond (not q && is_for b (request_of x) && has_room z (request_of x)) (record (request_of x) { replies = items_of x.reply ++ plain_item p (drop 4 b) ∷ [] }) (request_of x)) m
        ∙ ap (λ (n : Option ℕ). cond (is_number n x.id && has_room z (request_of x)) (record (request_of x) { replies = items_of x.reply ++ plain_item p (drop 4 b) ∷ [] }) (request_of x)) f
        ∙ ap (λ q. cond (q && has_room z (request_of x)) (record (request_of x) { replies = items_of x.reply ++ plain_item p (drop 4 b) ∷ [] }) (request_of x)) (turned x.id id (x.id == id) refl)
        ∙ ap (λ (y : _). cond ((x.id == id) && cond (is_req y) (is_some x.last_out && is_nil (items_of x.reply)) (nat_lt (length (items_of x.reply)) z.options.queue)) (record (request_of x) { replies = items_of x.reply ++ plain_item p (drop 4 b) ∷ [] }) (request_of x)) r
        ∙ room x.reply refl
      where
        some_kept : (o : Option KeptReply) → x.reply ≡ o → is_nil (items_of o) ≡ not (is_some o)
        some_kept None q = refl
        some_kept (Some y) q = refl

        assoc : (a b : Bool) → (a && b && true) ≡ (a && (b && true))
        assoc true b = refl
        assoc false b = refl

        never : (a b : Bool) → (a && b && false) ≡ false
        never true true = refl
        never true false = refl
        never false b = refl

        room : (o : Option KeptReply) → x.reply ≡ o → cond ((x.id == id) && (is_some x.last_out && is_nil (items_of x.reply))) (record (request_of x) { replies = items_of x.reply ++ plain_item p (drop 4 b) ∷ [] }) (request_of x) ≡ cond w (request_of (with_kept k x)) (request_of x)
        room None q =
            let none : is_some x.reply ≡ false = ap is_some q in
            let same : ((x.id == id) && is_some x.last_out && not (is_some x.reply)) ≡ ((x.id == id) && (is_some x.last_out && true)) = ap (λ y. (x.id == id) && is_some x.last_out && not y) none ∙ assoc (x.id == id) (is_some x.last_out) in
            ap (λ (y : Option KeptReply). cond ((x.id == id) && (is_some x.last_out && is_nil (items_of y))) (record (request_of x) { replies = items_of y ++ plain_item p (drop 4 b) ∷ [] }) (request_of x)) q
            ∙ ap (λ y. cond y (record (request_of x) { replies = plain_item p (drop 4 b) ∷ [] }) (request_of x)) (sym same ∙ e)
            ∙ ap (λ (y : Item). cond w (record (request_of x) { replies = y ∷ [] }) (request_of x)) (sym i)
        room (Some y) q =
            let some : is_some x.reply ≡ true = ap is_some q in
            let no_ : w ≡ false = sym e ∙ ap (λ y. (x.id == id) && is_some x.last_out && not y) some ∙ never (x.id == id) (is_some x.last_out) in
            ap (λ (y : Option KeptReply). cond ((x.id == id) && (is_some x.last_out && is_nil (items_of y))) (record (request_of x) { replies = items_of x.reply ++ plain_item p (drop 4 b) ∷ [] }) (request_of x)) q
            ∙ ap (λ y. cond y (record (request_of x) { replies = items_of x.reply ++ plain_item p (drop 4 b) ∷ [] }) (request_of x)) (none (x.id == id) (is_some x.last_out))
            ∙ sym (ap (λ y. cond y (request_of (with_kept k x)) (request_of x)) no_)
          where
            none : (a c : Bool) → (a && (c && false)) ≡ false
            none true true = refl
            none true false = refl
            none false c = refl

    module _ (r : z.role ≡ role.Req) (m : malformed z before p b ≡ false) (f : first_word b ≡ Some id) (i : item_of k ≡ plain_item p (drop 4 b)) where
      rest_same : (xs : List Live) → has (map live_id xs) id ≡ false → map request_of xs ≡ map (with_frame z before p b) (map request_of xs)
      rest_same [] h = refl
      rest_same (x ∷ xs) h = go (x.id == id) refl h (rest_same xs)
        where
          go : (a : Bool) → (x.id == id) ≡ a → (a || has (map live_id xs) id) ≡ false → (has (map live_id xs) id ≡ false → map request_of xs ≡ map (with_frame z before p b) (map request_of xs)) → map request_of (x ∷ xs) ≡ map (with_frame z before p b) (map request_of (x ∷ xs))
          go true e h again = absurd cc
          go false e h again =
              let no_ : waits_for id x ≡ false = rw e refl in
              let one = frame_one r m f i x false no_ in
              ap (λ (y : LiveRequest). y ∷ map request_of xs) (sym one) ∙ ap (λ (more : List LiveRequest). with_frame z before p b (request_of x) ∷ more) (again h)

      pub frame_is : (xs : List Live) → AreDistinct (map live_id xs) → map request_of (with_reply id k xs) ≡ map (with_frame z before p b) (map request_of xs)
      frame_is [] d = refl
      frame_is (x ∷ xs) d = go (waits_for id x) refl (frame_is xs d.1)
        where
          is_id : (a b c : Bool) → (a && b && c) ≡ true → a ≡ true
          is_id true b c h = refl
          is_id false b c h = absurd cc

          go : (w : Bool) → waits_for id x ≡ w → map request_of (with_reply id k xs) ≡ map (with_frame z before p b) (map request_of xs) → map request_of (cond w (with_kept k x ∷ xs) (x ∷ with_reply id k xs)) ≡ with_frame z before p b (request_of x) ∷ map (with_frame z before p b) (map request_of xs)
          go true e again =
              let is : x.id ≡ id = equal_of x.id id (is_id _ _ _ e) in
              ap (λ (y : LiveRequest). y ∷ map request_of xs) (sym (frame_one r m f i x true e)) ∙ ap (λ (more : List LiveRequest). with_frame z before p b (request_of x) ∷ more) (rest_same xs (subst (λ n. has (map live_id xs) n ≡ false) is d.0))
          go false e again =
              ap (λ (y : LiveRequest). y ∷ map request_of (with_reply id k xs)) (sym (frame_one r m f i x false e)) ∙ ap (λ (more : List LiveRequest). with_frame z before p b (request_of x) ∷ more) again
