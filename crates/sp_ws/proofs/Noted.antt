-- The reads that a call noted.
use Rattle.std.proofs.Common.{◌≡◌, ◌++◌, Bool, List, [], ◌∷◌, refl, sym, ap, subst, ◌∙◌, inl, inr, append-nil, append_assoc}
use Rattle.std.specs.Prelude.{Result}
use Rattle.std.proofs.lemmas.List.Elements.{All-nil}
use Rattle.tungstenite.specs.declared.error.Error.{Error}
use Rattle.tungstenite.specs.declared.message.Message.{Message}
use Rattle.sp_ws.specs.declared.frames.FrameIn.{FrameIn}
use Rattle.sp_ws.specs.declared.frames.FrameIn.TheVariants as ins
use Rattle.sp_ws.specs.Frames.{IsPassed, Names, ReadsTo}

abbrev pub Told : Type 0
Told = List (Result Message Error)

-- what waits for the link and what was fed may change without a read
pub reads_across : (returned : FrameIn) (old mid mid2 new : Told) (b c : Bool) → mid ≡ old → new ≡ mid2 → c ≡ b → ReadsTo returned mid mid2 b → ReadsTo returned old new c
reads_across returned old mid mid2 new b c before after same t = record {
  passed = t.passed;
  are = t.are;
  last = elim t.last [
    | inl x ↦ inl (x.0, after ∙ x.1 ∙ ap (λ (l : Told). l ++ (t.passed ++ x.0 ∷ [])) before, subst (λ (d : Bool). Names returned x.0 d) (sym same) x.2)
    | inr y ↦ inr (y.0, (y.1.0, after ∙ y.1.1 ∙ ap (λ (l : Told). l ++ y.1.0) before))
  ];
}

-- nothing was read
pub reads_none : (old new : Told) (c : Bool) → new ≡ old → ReadsTo ins.NoMemory old new c
reads_none old new c same = record { passed = []; are = All-nil IsPassed; last = inr (refl, ([], same ∙ sym (append-nil old))) }

-- a result that is lost
pub reads_lost : (returned : FrameIn) (old mid mid2 new : Told) (b c : Bool) → mid ≡ old → new ≡ mid2 → ReadsTo returned mid mid2 b → ReadsTo ins.NoMemory old new c
reads_lost returned old mid mid2 new b c before after t = record {
  passed = [];
  are = All-nil IsPassed;
  last = elim t.last [
    | inl x ↦ inr (refl, (t.passed ++ x.0 ∷ [], after ∙ x.1 ∙ ap (λ (l : Told). l ++ (t.passed ++ x.0 ∷ [])) before))
    | inr y ↦ inr (refl, (y.1.0, after ∙ y.1.1 ∙ ap (λ (l : Told). l ++ y.1.0) before))
  ];
}

-- one more read
pub one_more_read : (old mid new passed : Told) (r : Result Message Error) → mid ≡ old ++ passed → new ≡ mid ++ r ∷ [] → new ≡ old ++ (passed ++ r ∷ [])
one_more_read old mid new passed r before after = after ∙ ap (λ (l : Told). l ++ r ∷ []) before ∙ append_assoc old passed (r ∷ [])
