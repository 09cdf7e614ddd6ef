-- The last parts of a form, behind a file of so many bytes.
use Rattle.std.specs.Prelude.{ℕ, ◌+◌, List, [], ◌∷◌, ◌++◌, length}
use Rattle.pl_elf.specs.declared.header.Header.{Header}
use Rattle.pl_elf.specs.declared.section.Section.{Section}
use Rattle.pl_form.specs.Parts.{plain, up, all_names, moved_entry}
use Rattle.pl_form.specs.declared.parts.FormPlan.{FormPlan}

-- where the names begin, and where they end
abbrev pub names_from : ℕ → ℕ → ℕ
names_from file undo = up (up file + undo)

abbrev pub names_end : ℕ → List ℕ → FormPlan → ℕ → ℕ
names_end file old p undo = names_from file undo + length (all_names old p)

-- the section header table, behind other names of so many bytes and with names of so many
abbrev pub rows_behind : FormPlan → ℕ → ℕ → ℕ → ℕ → List Section
rows_behind p file old undo names =
    p.sections ++ plain (old + length p.names) 1 (up file) undo ∷ plain (old + length p.names + 18) 3 (names_from file undo) names ∷ []

-- the section header table
abbrev pub ended_rows : ℕ → List ℕ → FormPlan → ℕ → List Section
ended_rows file old p undo =
    p.sections ++ plain (length old + length p.names) 1 (up file) undo
    ∷ plain (length old + length p.names + 18) 3 (names_from file undo) (length (all_names old p)) ∷ []

-- the header, with the table at an offset
abbrev pub header_with : Header → FormPlan → ℕ → Header
header_with h p table = record h {
  entry = moved_entry p.slot h.entry;
  shoff = table;
  shnum = length p.sections + 2;
  shstrndx = length p.sections + 1;
}
