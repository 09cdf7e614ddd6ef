-- How many bytes a file's original has, by what the file is.
use Rattle.std.proofs.Common.{◌≡◌, ℕ, List, Bool, true, false, Option, Some, None, refl, ◌∙◌, ap}
use Rattle.std.specs.Prelude.{Result, Ok, Err, length}
use Rattle.pl_base.specs.Answers.{unless}
use Rattle.pl_form.specs.Files.{file_by, file_in, marked_in, original_or_file, original_in}
use Rattle.pl_form.specs.Marks.{as_file, has_mark}
use Rattle.pl_form.specs.declared.fault.FileFault.TheVariants as unread
use Rattle.pl_form.specs.declared.file.Entry.{Entry}
use Rattle.pl_form.specs.declared.file.Marked as form
use Rattle.pl_object.specs.Reads.{reads}
use Rattle.pl_object.specs.declared.object.Object.{Object}
use Rattle.pl_object.specs.declared.refusal.Refusal.{Refusal}
use Rattle.pl_object.specs.declared.refusal.Refusal.TheVariants.{Clause, NoMemory}
use Rattle.pl_rewrite.specs.Taken.{entry_by, entry_in}
use Rattle.pl_batch.specs.Folder.{size_by}

of_read : (size : ℕ) (r : Result Object Refusal) → size_by size (entry_by (as_file r)) ≡ size
of_read size (Ok x) = refl
of_read size (Err (Clause number argument)) = refl
of_read size (Err NoMemory) = refl

of_bare : (size : ℕ) (r : Result Object Refusal) (mark : Bool) → size_by size (entry_by (unless mark unread.BadMark (as_file r))) ≡ size
of_bare size r true = refl
of_bare size r false = of_read size r

of_form : (file : List ℕ) (m : Option form.Marked) → size_by (length file) (entry_by (file_by file m)) ≡ length (original_or_file file m)
of_form file None = of_bare (length file) (reads file) (has_mark file)
of_form file (Some m) = refl

size_entry : (file : List ℕ) → size_by (length file) (entry_in file) ≡ length (original_in file)
unfolding original_in entry_in file_in
size_entry file = of_form file (marked_in file)

pub size_told : (file : List ℕ) (entry : Entry) → entry ≡ entry_in file → size_by (length file) entry ≡ length (original_in file)
size_told file entry is = ap (size_by (length file)) is ∙ size_entry file
