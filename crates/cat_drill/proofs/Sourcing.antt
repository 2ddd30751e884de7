-- One more value in the lane.
use Rattle.std.proofs.Common.{◌≡◌, refl, ap, sym, ◌∙◌, subst, List, [], ◌∷◌, ◌++◌, ℕ, ◌+◌, ◌%◌, ◌^◌, suc, false}
use Rattle.std.specs.List.{sum}
use Rattle.std.specs.Int.{w64, to_be_bytes}
use Rattle.sp_base.specs.Generator.{next_value}
use Rattle.sp_msg.specs.Views.{MessageView, wire_text}
use Rattle.sp_lane.specs.declared.item.LaneItem.{LaneItem}
use Rattle.sp_lane.specs.declared.item.LaneItem.TheVariants as items
use Rattle.sp_lane.specs.Items.{texts}
use Rattle.sp_lane.specs.Lanes.{InView, DidPut, has_end}
use Rattle.cat_play.specs.Drilling.{values, bodies}
use Rattle.cat_drill.specs.declared.source.DrillSource.{DrillSource}
use Rattle.cat_drill.specs.DrillWires.{IsSource, value_after}
use Rattle.cat_drill.proofs.DrillWireReads.{texts_more}
use Rattle.cat_drill.proofs.Values.{next_is, bodies_next, total_next}

no_end_more : (xs : List LaneItem) (m : MessageView) → has_end xs ≡ false → has_end (xs ++ items.Message m ∷ []) ≡ false
no_end_more [] m h = refl
no_end_more (items.Message x ∷ xs) m h = no_end_more xs m h
no_end_more (items.End ∷ xs) m h = h

text_is : (m : MessageView) (b : List ℕ) → m.header ≡ [] → m.body ≡ b → wire_text m ≡ b
text_is m b h e = ap (λ (x : List ℕ). x ++ m.body) h ∙ e

pub source_more : (old now : DrillSource) (m : MessageView) → IsSource old → DidPut (items.Message m) old.lane now.lane → m.header ≡ [] → m.body ≡ to_be_bytes w64 now.value → now.value ≡ next_value old.value → now.total ≡ (old.total + now.value) % 2 ^ 64 → now.count ≡ suc old.count → IsSource now
source_more old now m s d header body is total_is count_is =
    let put : now.lane.put ≡ old.lane.put ++ items.Message m ∷ [] = ap (λ (x : InView). x.put) d.is in
    let value_next : now.value ≡ next_value (value_after 0 old.count) = is ∙ ap next_value s.value_is in
    record {
      begun = ap has_end put ∙ no_end_more old.lane.put m s.begun;
      texts_are = ap texts put ∙ texts_more old.lane.put m ∙ ap (λ (x : List ℕ). texts old.lane.put ++ x ∷ []) (text_is m _ header body) ∙ ap (λ (xs : List (List ℕ)). xs ++ to_be_bytes w64 now.value ∷ []) s.texts_are ∙ ap (λ (n : ℕ). bodies old.count ++ to_be_bytes w64 n ∷ []) value_next ∙ sym (bodies_next old.count) ∙ ap bodies (sym count_is);
      value_is = value_next ∙ sym (next_is old.count) ∙ ap (value_after 0) (sym count_is);
      total_is = total_is ∙ ap (λ (n : ℕ). (old.total + n) % 2 ^ 64) value_next ∙ total_next old.total old.count s.total_is ∙ ap (λ (n : ℕ). sum (values n) % 2 ^ 64) (sym count_is);
    }

-- a put that found the lane full leaves it unchanged
pub source_same : (old : DrillSource) (lane : InView) → lane ≡ old.lane → IsSource old → IsSource (record old { lane = lane })
source_same old lane e s = subst (λ (x : InView). IsSource (record old { lane = x })) (sym e) s
