-- Pieces after a prefix of a list.
use Rattle.std.proofs.Common.{◌≡◌, ◌≤◌, ◌+◌, ◌++◌, ℕ, List, length, take, drop, sym, ap, ◌∙◌, append_assoc, arith}
use Rattle.std.proofs.lemmas.List.{take-append-drop, take-append-le, drop-take, take-take, drop_at, drop-append-le, length-take}
use Rattle.sp_base.specs.Outside.{IsPrefix}

-- after a piece that is the next part of the wanted bytes
pub part_more : (peer piece : List ℕ) (seen n : ℕ) → seen ≤ length peer → n ≤ length piece → take n piece ≡ take n (drop seen peer) → take seen peer ++ take n piece ≡ take (seen + n) peer
part_more peer piece seen n fits long same =
    ap (λ t. take seen peer ++ t) (same ∙ sym (drop-take seen n peer))
    ∙ ap (λ t. t ++ drop seen (take (seen + n) peer)) (sym (take-take seen (seen + n) peer (omega arith)))
    ∙ take-append-drop seen (take (seen + n) peer)

-- a piece that differs from the next part of the wanted bytes leads nowhere
pub part_other : (peer piece : List ℕ) (seen n : ℕ) → seen ≤ length peer → n ≤ length piece → n ≤ length (drop seen peer) → ¬ (take n piece ≡ take n (drop seen peer)) → ¬ IsPrefix (take seen peer ++ piece) peer × ¬ IsPrefix peer (take seen peer ++ piece)
part_other peer piece seen n fits long short other =
    let prefix : length (take seen peer) ≡ seen = omega (arith, length-take seen peer) in (
      (λ (rest, e).
          let next : drop seen peer ≡ piece ++ rest = ap (drop seen) (e ∙ append_assoc (take seen peer) piece rest) ∙ drop_at (take seen peer) (piece ++ rest) seen prefix in
          other (sym (ap (take n) next ∙ take-append-le n piece rest long))),
      (λ (rest, e).
          let next : piece ≡ drop seen peer ++ rest = sym (drop_at (take seen peer) piece seen prefix) ∙ ap (drop seen) e ∙ drop-append-le seen peer rest fits in
          other (ap (take n) next ∙ take-append-le n (drop seen peer) rest short)),
    )
