-- A past as the program keeps it.
use Rattle.std.specs.Prelude.{List, [], ◌∷◌}
use Rattle.sp_history.specs.declared.entry.Entry.{Entry}
use Rattle.history_judge_past.specs.declared.entries.Past.{Past}
use Rattle.history_judge_past.specs.declared.entries.Past.TheVariants.{Start, After'}

-- its entries, the newest first
abbrev pub entries_of : Past → List Entry
entries_of Start = []
entries_of (After' e p before) = e ∷ entries_of before
