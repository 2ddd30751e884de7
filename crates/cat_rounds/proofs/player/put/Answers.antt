use Rattle.std.specs.Prelude.{Option, Some, None}
use Rattle.std.proofs.Common.{◌≡◌, ◌∙◌, ℕ, List, [], ◌∷◌, length, refl, sym, ap, arith, take, drop, take-append-drop}
use Rattle.std.proofs.lemmas.Bool.{eqb-true}
use Rattle.sp_base.specs.Outside.{grown}
use Rattle.cat_rounds.proofs.Silent.{append_nil}
use Rattle.cat_rounds.proofs.player.put.Goals as goal

-- a piece without a byte is empty
nothing : (text : Option (List ℕ)) (piece : List ℕ) → length piece ≡ 0 → text ≡ grown text piece
nothing None piece none = refl
nothing (Some s) [] none = ap (λ (t : List ℕ). Some t) (sym (append_nil s))
nothing (Some s) (byte ∷ piece) none = absurd (omega (arith, none))

pub returns-then-is_empty-clause-puts : goal.returns-then-is_empty-clause-puts
returns-then-is_empty-clause-puts g c =
    nothing (g.S.Sink.seen c.args.out.now).text c.args.piece.now (eqb-true (length c.args.piece.now) 0 (sym c.is_empty.ensures ∙ c.if-is_empty.true))

pub returns-in-Failed-clause-puts : goal.returns-in-Failed-clause-puts
returns-in-Failed-clause-puts g c =
    let n = c.in-Failed.ensures.0.0 in
    (take n c.args.piece.now, drop n c.args.piece.now, sym (take-append-drop n c.args.piece.now), c.in-Failed.ensures.0.1)
