-- A load whose files were taken at any moments of a history.
use Rattle.std.proofs.Common.{ℕ, List}
use Rattle.pl_conflict.specs.Format as format
use Rattle.pl_conflict.specs.Format.{Causes}
use Rattle.pl_conflict.proofs.FormatLaws.{format_kept}
use Rattle.law_sound.specs.History.{Happened}
use Rattle.law_sound.specs.Rule.{Files, Rule}
use Rattle.law_sound.proofs.Theorems.{histories}
use Rattle.law_loads.specs.Loads.{AreHeld, LoadsOverHistories}
use Rattle.law_loads.proofs.ImageLaws.{loads_are_ordinary}

-- files each of which was held at some moment keep the rule together
pub rule_held : {F : Type 0} (causes : Causes F) (now : Files) (past : List Files) (last : ℕ) (taken : Files) → Happened (format.format causes) now past last → AreHeld now past taken → Rule (format.format causes) taken
rule_held causes now past last taken happened held = (histories (format.format causes) (format_kept causes) now past last happened).1 taken held

pub loads_over_histories : {E F : Type 0} → LoadsOverHistories E F
loads_over_histories {E = E} {F = F} causes now past last taken choose busy fault file name happened held gives =
    loads_are_ordinary {E = E} {F = F} causes taken choose busy fault file name gives (rule_held causes now past last taken happened held name)
