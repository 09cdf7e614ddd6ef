-- The lines of the text of a weave.
use Rattle.std.specs.Prelude.{ℕ, List, [], ◌∷◌, codes, Result, Ok, Err}
use Rattle.std.specs.Fmt.{decimal}
use Rattle.pl_base.specs.Digits.{line_text}
use Rattle.pl_loader.specs.Started.{Start}
use Rattle.pl_texts.specs.LoadText.{load_text}
use Rattle.pl_texts.specs.Refusals.{cause_text, refusal}
use Rattle.pl_texts.specs.declared.cause.Cause.{Cause}

unfoldable pub loader_line : ℕ → List ℕ
loader_line number = line_text (codes "loader " ∷ decimal number ∷ [])

unfoldable pub wants_line : List ℕ → List ℕ
wants_line name = line_text (codes "wants " ∷ name ∷ [])

-- what a load starts from, or why it does not
abbrev pub start_text : Result Start Cause → List ℕ
start_text (Ok start) = load_text start
start_text (Err cause) = refusal cause

unfoldable pub waits_line : ℕ → List ℕ
waits_line number = line_text (codes "run " ∷ decimal number ∷ codes " waits" ∷ [])

unfoldable pub refused_line : ℕ → Cause → List ℕ
refused_line number cause = line_text (codes "run " ∷ decimal number ∷ codes " refused " ∷ cause_text cause ∷ [])

unfoldable pub done_line : ℕ → ℕ → List ℕ
done_line number rows = line_text (codes "run " ∷ decimal number ∷ codes " done " ∷ decimal rows ∷ [])

unfoldable pub renames_line : ℕ → ℕ → ℕ → List ℕ
renames_line number done rows = line_text (codes "run " ∷ decimal number ∷ codes " renames " ∷ decimal done ∷ codes " of " ∷ decimal rows ∷ [])

abbrev pub end_line : List ℕ
end_line = line_text (codes "weave end" ∷ [])
