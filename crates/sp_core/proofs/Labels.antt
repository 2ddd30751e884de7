-- No call changes the label of a core.
use Rattle.std.proofs.Common.{◌≡◌, ap, ◌∙◌}
use Rattle.aio_word.specs.Sight.{Named}
use Rattle.sp_history.specs.declared.setting.Setting.{Setting}
use Rattle.sp_proto.specs.Kinds.{Kind}
use Rattle.sp_core.specs.declared.owner.Core.{Core}
use Rattle.sp_core.specs.declared.label.CoreLabel.{CoreLabel}
use Rattle.sp_core.specs.Cores.{words_of}
use Rattle.sp_core.specs.Standing.{core_setting}

-- the label of a core with this setting and these words
abbrev label_with : Setting → Named → CoreLabel
label_with z w = record { setting = z; words = w.id }

-- a core of the same setting and the same words has the same label
pub same_label : {P W : Type 0} (kind : P → Kind) (c d : Core P W) → core_setting kind d ≡ core_setting kind c → words_of d ≡ words_of c → label_with (core_setting kind d) (words_of d) ≡ label_with (core_setting kind c) (words_of c)
same_label kind c d s w = ap (λ (z : Setting). label_with z (words_of d)) s ∙ ap (λ (n : Named). label_with (core_setting kind c) n) w

-- a core of the same label has the same words
pub same_words : {P W : Type 0} (kind : P → Kind) (c d : Core P W) → label_with (core_setting kind d) (words_of d) ≡ label_with (core_setting kind c) (words_of c) → words_of d ≡ words_of c
same_words kind c d l = λ i. record { id = (l i).words; slots = (l i).setting.slots; callers = (l i).setting.callers }
