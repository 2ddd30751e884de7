-- Where a prefix is split at the bytes that stand before a size.
use Rattle.std.proofs.Common.{◌≡◌, ◌≤◌, ◌<◌, ◌++◌, ℕ, List, length, take, drop, min, sym, ap, ◌∙◌, append_assoc, arith, inl, inr}
use Rattle.std.proofs.lemmas.List.{take-append-drop, take_all, length-drop}
use Rattle.sp_base.specs.SpTcp.{frame}
use Rattle.sp_tcp.specs.declared.reader.Prefix.{Prefix}
use Rattle.sp_tcp.specs.declared.reader.Prefix.TheVariants as f
use Rattle.sp_tcp.specs.Readings.{PrefixIs}
use Rattle.sp_base.specs.SpIpc.{IsMarkedPart, IsMarkedBad}
use Rattle.sp_tcp.specs.Marked.{MarkedPrefixIs}
use Rattle.sp_tcp.proofs.PrefixPieces.{part_other}
use Rattle.sp_tcp.proofs.MarkedFrames.{marked-is}

module _ (mark s : List ℕ) (n max : ℕ) (n_is : n ≡ min (length mark) (length s)) where
  -- it ends within the mark
  pub split_short : take n s ≡ take n mark → n < length mark → IsMarkedPart mark max s
  split_short same lt =
      let all : n ≡ length s = omega (arith, n_is, lt) in
      let prefix : s ≡ take n mark = sym (take_all n s (omega (arith, all))) ∙ same in
      inl (drop n mark, ap (λ t. t ++ drop n mark) prefix ∙ take-append-drop n mark, omega (arith, length-drop n mark, lt))

  -- it differs from the mark
  pub split_wrong : ¬ (take n s ≡ take n mark) → IsMarkedBad mark max s
  split_wrong other = inl (part_other mark s 0 n (omega arith) (omega (arith, n_is)) (omega (arith, n_is)) other)

  -- the mark is whole
  rest_is : take n s ≡ take n mark → length mark ≤ n → s ≡ mark ++ drop n s
  rest_is same long =
      sym (take-append-drop n s) ∙ ap (λ t. t ++ drop n s) (same ∙ take_all n mark long)

  prefix_behind : (rest : List ℕ) (r : Prefix) → s ≡ mark ++ rest → PrefixIs max rest r → MarkedPrefixIs mark max s r
  prefix_behind rest (f.Message body) e h = (h.0, (h.1.0, e ∙ ap (λ t. mark ++ t) h.1.1 ∙ sym (append_assoc mark (frame body.now) h.1.0) ∙ ap (λ t. t ++ h.1.0) (marked-is mark body.now)))
  prefix_behind rest f.Part e h = inr (rest, e, h)
  prefix_behind rest f.Oversize e h = inr (rest, e, h)

  pub split_behind : (r : Prefix) → take n s ≡ take n mark → length mark ≤ n → PrefixIs max (drop n s) r → MarkedPrefixIs mark max s r
  split_behind r same long h = prefix_behind (drop n s) r (rest_is same long) h
