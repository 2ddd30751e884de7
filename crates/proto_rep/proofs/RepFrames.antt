-- A rep stands for its history after a frame.
use Rattle.std.proofs.Common.{◌≡◌, refl, ap, sym, ◌∙◌, List, [], ◌∷◌, ◌++◌, ℕ, Bool, true, false, cond, arith, Option, Some, None, length, map, ◌≤◌}
use Rattle.std.specs.Prelude.{not, ◌&&◌, ◌==◌, Result, Ok, Err}
use Rattle.std.specs.List.{list_any}
use Rattle.std.proofs.lemmas.List.{map-append}
use Rattle.sp_base.specs.declared.role.Role.{Role}
use Rattle.sp_msg.specs.Views.{MessageView}
use Rattle.sp_msg.specs.Messages.{HeaderAppended}
use Rattle.sp_msg.specs.declared.message.HeaderFull.{HeaderFull}
use Rattle.sp_history.specs.declared.setting.Setting.{Setting}
use Rattle.sp_history.specs.declared.setting.Options.{Options}
use Rattle.sp_history.specs.declared.entry.Entry.{Entry}
use Rattle.sp_history.specs.declared.entry.Entry.TheVariants.{Frame, Unkept}
use Rattle.sp_history.specs.declared.parts.Item.{Item}
use Rattle.sp_history.specs.declared.parts.Back.{Back}
use Rattle.sp_history.specs.declared.parts.Back.TheVariants.{Found, TooFar, Short}
use Rattle.sp_history.specs.Lists.{has, word}
use Rattle.sp_history.specs.Setting.{has_topics}
use Rattle.sp_history.specs.Backtrace.{back, is_short}
use Rattle.sp_history.proofs.Malformed.{by_rule, pool_same}
use Rattle.sp_history.specs.Frames.{breaks_rule, is_too_long, malformed, malformed_for, traced_item, item_for, item_of as item_in}
use Rattle.sp_history.specs.Past.{ctxs, topics}
use Rattle.sp_history.specs.Kept.{pool, takes, is_wanted_by, add_item, add_for}
use Rattle.sp_history.specs.Moments.{Moment, Lawful, past, also}
use Rattle.sp_proto.specs.Kinds.{Kind, text_of}
use Rattle.proto_rep.specs.declared.rep.Reply.{Reply}
use Rattle.proto_rep.specs.declared.rep.KeptRequest.{KeptRequest}
use Rattle.proto_requests.specs.declared.trail.Trail.TheVariants as trails
use Rattle.proto_requests.specs.Trails.{trail_of}
use Rattle.proto_rep.specs.Reps.{Ties, item_of, role_of}
use Rattle.proto_rep.proofs.Replied.{is_rep, is_raw, wants_means}
use Rattle.proto_rep.specs.declared.rep.ReplyRole.{ReplyRole}
use Rattle.proto_rep.specs.declared.rep.ReplyRole.TheVariants as sides
use Rattle.proto_rep.proofs.Roles.{no_topics}

is_options : (m : Reply) (t : Moment) → Ties m t → t.z.options ≡ m.options
is_options m t h = ap (λ (k : Kind). k.options) h.kind

whole_is : (b : Back) → trail_of b ≡ trails.Whole → (words : List ℕ) × (rest : List ℕ) × (b ≡ Found words rest)
whole_is (Found words rest) h = (words, rest, refl)
whole_is TooFar h = absurd cc
whole_is Short h = absurd cc

far_is : (b : Back) → trail_of b ≡ trails.TooFar → b ≡ TooFar
far_is (Found words rest) h = absurd cc
far_is TooFar h = refl
far_is Short h = absurd cc

short_is : (b : Back) → trail_of b ≡ trails.Short → b ≡ Short
short_is (Found words rest) h = absurd cc
short_is TooFar h = absurd cc
short_is Short h = refl

-- the item that a frame with a whole backtrace is kept as
item_is : (m : Reply) (t : Moment) (p : ℕ) (b : List ℕ) → Ties m t → item_in t.z p b ≡ traced_item m.raw p (back m.options.ttl b)
item_is m t p b h =
    ap (λ (r : Role). item_for r t.z.raw t.z.options.ttl p b) (is_rep m t h) ∙ traced_for m.role t.z.raw t.z.options.ttl ∙ ap (λ (r : Bool). traced_item r p (back t.z.options.ttl b)) (is_raw m t h)
    ∙ ap (λ (o : Options). traced_item m.raw p (back o.ttl b)) (is_options m t h)
  where
    traced_for : (y : ReplyRole) (raw : Bool) (ttl : ℕ) → item_for (role_of y) raw ttl p b ≡ traced_item raw p (back ttl b)
    traced_for sides.Rep raw ttl = refl
    traced_for sides.Respondent raw ttl = refl

-- a frame is malformed, or not
pub malformed_is : (m : Reply) (t : Moment) (b : List ℕ) → Ties m t → breaks_rule t.z b ≡ is_short (back m.options.ttl b)
malformed_is m t b h = ap (λ (r : Role). malformed_for r t.z.options.ttl b) (is_rep m t h) ∙ short_for m.role t.z.options.ttl ∙ ap (λ (o : Options). is_short (back o.ttl b)) (is_options m t h)
  where
    short_for : (y : ReplyRole) (ttl : ℕ) → malformed_for (role_of y) ttl b ≡ is_short (back ttl b)
    short_for sides.Rep ttl = refl
    short_for sides.Respondent ttl = refl

well_formed : (m : Reply) (t : Moment) (b words rest : List ℕ) → Ties m t → back m.options.ttl b ≡ Found words rest → breaks_rule t.z b ≡ false
well_formed m t b words rest h e = malformed_is m t b h ∙ ap is_short e

pool_frame : (y : ReplyRole) (z : Setting) (before : List Entry) (p : ℕ) (b : List ℕ) → z.role ≡ role_of y → malformed z before p b ≡ false → pool z (Frame p b ∷ before) 0 ≡ add_item (item_in z p b) (pool z before 0)
pool_frame y z before p b h k =
    let wanted : Bool = has (ctxs before) 0 && is_wanted_by (topics before 0) b in
    let taken : takes z before 0 p b ≡ true = ap (λ q. not q && cond (has_topics z) wanted (0 == 0)) k ∙ ap (λ q. cond q wanted (0 == 0)) (no_topics y z h) in
    ap (λ q. cond q (add_for z.role z (item_in z p b) (pool z before 0)) (pool z before 0)) taken ∙ ap (λ (r : Role). add_for r z (item_in z p b) (pool z before 0)) h ∙ added y
  where
    added : (y : ReplyRole) → add_for (role_of y) z (item_in z p b) (pool z before 0) ≡ add_item (item_in z p b) (pool z before 0)
    added sides.Rep = refl
    added sides.Respondent = refl

-- none of the pipe is kept when a frame of it comes
pub none_kept : (m : Reply) (t : Moment) (p : ℕ) (b : List ℕ) → Lawful (also t (Frame p b)) → Ties m t → list_any (λ (k : KeptRequest). k.pipe == p) m.kept.items ≡ false
none_kept m t p b l h = no _ (wants_means m.role t.z (past t) p m.kept.items (is_rep m t h) h.items ∙ l.turn.0.itself.1)
  where
    no : (b : Bool) → not b ≡ true → b ≡ false
    no true e = absurd cc
    no false e = refl

module _ (m : Reply) (t : Moment) (p : ℕ) (b x : List ℕ) where
  same_after : Ties m t → pool t.z (Frame p b ∷ past t) 0 ≡ pool t.z (past t) 0 → Ties m (also t (Frame p b))
  same_after h e =
      record {
        kind = h.kind;
        most = h.most;
        pipes = h.pipes;
        items = h.items ∙ sym e;
        waits = h.waits;
        holds = h.holds;
        pending = h.pending;
        apart = h.apart;
        contexts = h.contexts;
        of_contexts = h.of_contexts;
        stored = h.stored;
        routed = h.routed;
        stuck = h.stuck;
      }

  -- a frame whose backtrace has no end
  pub frame_short : is_too_long (past t) p b ≡ false → Ties m t → x ≡ b → trails.Short ≡ trail_of (back m.options.ttl x) → (breaks_rule t.z b ≡ true) × Ties m (also t (Frame p b))
  frame_short short h e w =
      let is = short_is (back m.options.ttl b) (sym (w ∙ ap (λ y. trail_of (back m.options.ttl y)) e)) in
      let bad : breaks_rule t.z b ≡ true = malformed_is m t b h ∙ ap is_short is in
      (bad, same_after h (pool_same t.z (past t) p b 0 (by_rule t.z (past t) p b short ∙ bad)))

  -- a frame that came too far
  pub frame_far : is_too_long (past t) p b ≡ false → Ties m t → x ≡ b → trails.TooFar ≡ trail_of (back m.options.ttl x) → (breaks_rule t.z b ≡ false) × Ties m (also t (Frame p b))
  frame_far short h e w =
      let is = far_is (back m.options.ttl b) (sym (w ∙ ap (λ y. trail_of (back m.options.ttl y)) e)) in
      let well : breaks_rule t.z b ≡ false = malformed_is m t b h ∙ ap is_short is in
      let item : item_in t.z p b ≡ None = item_is m t p b h ∙ ap (traced_item m.raw p) is in
      (well, same_after h (pool_frame m.role t.z (past t) p b (is_rep m t h) (by_rule t.z (past t) p b short ∙ well) ∙ ap (λ (o : Option Item). add_item o (pool t.z (past t) 0)) item))

module _ (m n : Reply) (t : Moment) (p : ℕ) (b x : List ℕ) (k : KeptRequest) where
  pub frame_kept : is_too_long (past t) p b ≡ false → Ties m t → x ≡ b → trails.Whole ≡ trail_of (back m.options.ttl x) → ((words rest : List ℕ) → back m.options.ttl b ≡ Found words rest → Some (item_of k) ≡ traced_item m.raw p (Found words rest))
      → n.kept.items ≡ m.kept.items ++ k ∷ [] → n.ports ≡ m.ports → n.waiting ≡ m.waiting → n.places ≡ m.places → (n.raw ≡ m.raw) × (n.options ≡ m.options) × (n.role ≡ m.role) → (breaks_rule t.z b ≡ false) × Ties n (also t (Frame p b))
  frame_kept short h e w i f g v l same =
      let whole = whole_is (back m.options.ttl b) (sym (w ∙ ap (λ y. trail_of (back m.options.ttl y)) e)) in
      let well = well_formed m t b whole.0 whole.1 h whole.2 in
      let item : item_in t.z p b ≡ Some (item_of k) = item_is m t p b h ∙ ap (traced_item m.raw p) whole.2 ∙ sym (i whole.0 whole.1 whole.2) in (
        well,
        record {
          kind = rw (same.0, same.1, same.2) h.kind;
          most = rw same.1 h.most;
          pipes = rw g h.pipes;
          items =
              ap (map item_of) f ∙ map-append item_of m.kept.items (k ∷ []) ∙ ap (λ (is : List Item). is ++ item_of k ∷ []) h.items
              ∙ sym (pool_frame m.role t.z (past t) p b (is_rep m t h) (by_rule t.z (past t) p b short ∙ well) ∙ ap (λ (o : Option Item). add_item o (pool t.z (past t) 0)) item);
          waits = h.waits;
          holds = rw v h.holds;
          pending = h.pending;
          apart = h.apart;
          contexts = rw l h.contexts;
          of_contexts = h.of_contexts;
          stored = rw l h.stored;
          routed = h.routed;
          stuck = rw (same.0, g, v) h.stuck;
        },
      )

  pub frame_unkept : Ties m t → x ≡ b → trails.Whole ≡ trail_of (back m.options.ttl x) → n.kept.items ≡ m.kept.items → n.ports ≡ m.ports → n.waiting ≡ m.waiting → n.places ≡ m.places → (n.raw ≡ m.raw) × (n.options ≡ m.options) × (n.role ≡ m.role)
      → (breaks_rule t.z b ≡ false) × Ties n (also (also t (Frame p b)) (Unkept p))
  frame_unkept h e w f g v l same =
      let whole = whole_is (back m.options.ttl b) (sym (w ∙ ap (λ y. trail_of (back m.options.ttl y)) e)) in (
        well_formed m t b whole.0 whole.1 h whole.2,
        record {
          kind = rw (same.0, same.1, same.2) h.kind;
          most = rw same.1 h.most;
          pipes = rw g h.pipes;
          items = ap (map item_of) f ∙ h.items;
          waits = h.waits;
          holds = rw v h.holds;
          pending = h.pending;
          apart = h.apart;
          contexts = rw l h.contexts;
          of_contexts = h.of_contexts;
          stored = rw l h.stored;
          routed = h.routed;
          stuck = rw (same.0, g, v) h.stuck;
        },
      )

-- ---- How it is kept

an_item : (p : ℕ) (ws hd bd vs x y : List ℕ) → ws ≡ vs → hd ≡ x → bd ≡ y → ◌≡◌ {A = Option Item} (Some (record { pipe = p; words = ws; message = record { header = hd; body = bd } })) (Some (record { pipe = p; words = vs; message = record { header = x; body = y } }))
an_item p ws hd bd vs x y h k l = rw (h, k, l) refl

appended : {U : Type 0} (p : ℕ) (old new : MessageView) (r : Result U HeaderFull) → old.header ≡ [] → HeaderAppended p old new r → (new.header ≡ word p) × (new.body ≡ old.body)
appended p old new (Ok u) h k = (ap (λ (v : MessageView). v.header) k.1 ∙ ap (λ (xs : List ℕ). xs ++ word p) h, ap (λ (v : MessageView). v.body) k.1)
appended p old new (Err e) h k = let z : length old.header ≡ 0 = ap length h in absurd (omega (arith, z, k.0))

pub traced_raw : {U : Type 0} (p : ℕ) (m t a l : MessageView) (r : Result U HeaderFull) (w none words rest : List ℕ) → m.header ≡ [] → (w ≡ words) × (t ≡ record m { body = rest }) → HeaderAppended p t a r → (length a.header ≤ 4 → l ≡ record a { header = a.header ++ w }) → none ≡ []
    → ◌≡◌ {A = Option Item} (Some (record { pipe = p; words = none; message = text_of l })) (traced_item true p (Found words rest))
traced_raw p m t a l r w none words rest h k g f n =
    let bare : t.header ≡ [] = ap (λ (v : MessageView). v.header) k.1 ∙ h in
    let app = appended p t a r bare g in
    let four : length a.header ≡ length (word p) = ap length app.0 in
    let led : l ≡ record a { header = a.header ++ w } = f (small a.header (word p) four refl) in
    an_item p none l.header l.body [] (word p ++ words) rest n
    (ap (λ (v : MessageView). v.header) led ∙ ap (λ (xs : List ℕ). xs ++ w) app.0 ∙ ap (λ (xs : List ℕ). word p ++ xs) k.0)
    (ap (λ (v : MessageView). v.body) led ∙ app.1 ∙ ap (λ (v : MessageView). v.body) k.1)
  where
    small : (xs ys : List ℕ) → length xs ≡ length ys → length ys ≡ 4 → length xs ≤ 4
    small xs ys h k = omega (arith, h, k)

pub traced_cooked : (p : ℕ) (m t : MessageView) (w words rest : List ℕ) → m.header ≡ [] → (w ≡ words) × (t ≡ record m { body = rest }) → ◌≡◌ {A = Option Item} (Some (record { pipe = p; words = w; message = text_of t })) (traced_item false p (Found words rest))
traced_cooked p m t w words rest h k =
    an_item p w t.header t.body words [] rest k.0 (ap (λ (v : MessageView). v.header) k.1 ∙ h) (ap (λ (v : MessageView). v.body) k.1)
