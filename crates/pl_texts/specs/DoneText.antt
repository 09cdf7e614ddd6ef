-- The lines of the commands that write, the usage line, and the line of a file that differs.
use Rattle.std.specs.Prelude.{ℕ, List, [], ◌∷◌, codes}
use Rattle.std.specs.Fmt.{decimal}
use Rattle.pl_base.specs.Digits.{hex16, line_text}
use Rattle.pl_texts.specs.declared.content.Content.{Content}
use Rattle.pl_texts.specs.declared.content.Content.TheVariants.{File, Recipe}

-- how many files were prelinked
unfoldable pub undone_text : ℕ → List ℕ
undone_text count = line_text (codes "undone " ∷ decimal count ∷ [])

abbrev pub stored_word : Content → List ℕ
stored_word File = codes "installed "
stored_word Recipe = codes "made "

unfoldable pub stored_text : Content → List ℕ → List ℕ
stored_text kind name = line_text (stored_word kind ∷ name ∷ [])

unfoldable pub removed_text : List ℕ → List ℕ
removed_text name = line_text (codes "removed " ∷ name ∷ [])

unfoldable pub fixed_text : List ℕ → ℕ → List ℕ
fixed_text name address = line_text (codes "fixed " ∷ name ∷ codes " " ∷ hex16 address ∷ [])

unfoldable pub unfixed_text : List ℕ → List ℕ
unfixed_text name = line_text (codes "unfixed " ∷ name ∷ [])

abbrev pub usage : List ℕ
usage = line_text (codes "usage: prelink MODE [OPTIONS] [NAME..]" ∷ [])

abbrev pub differs_text : List ℕ
differs_text = line_text (codes "differs" ∷ [])
