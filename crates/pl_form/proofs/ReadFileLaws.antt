-- What is answered of a file.
use Rattle.std.proofs.Common.{◌≡◌, ℕ, true, false, List, Option, Some, None, Ok, Err, sym, ap, ◌∙◌}
use Rattle.pl_base.specs.Answers.{Answers}
use Rattle.pl_object.specs.Reads.{reads}
use Rattle.pl_object.specs.Refusals.{is_memory as object_memory}
use Rattle.pl_object.specs.declared.object.Object.{Object}
use Rattle.pl_object.specs.declared.refusal.Refusal.{Refusal}
use Rattle.pl_object.specs.declared.refusal.Refusal.TheVariants as refusals
use Rattle.pl_form.specs.Files.{file_in}
use Rattle.pl_form.specs.Marks.{has_mark, IsNoForm, IsBadMark, IsPlain, IsFault, file_fault_is_memory, as_file}
use Rattle.pl_form.specs.Reading.{marked_of}
use Rattle.pl_form.specs.declared.fault.FileFault.TheVariants.{Refused}
use Rattle.pl_form.specs.declared.file.File.TheVariants.{Plain}
use Rattle.pl_form.specs.declared.file.Marked.{Marked}
use Rattle.pl_form.proofs.CompleteLaws.{complete}
use Rattle.pl_form.proofs.FilesLaws.{plain_are_told}

some_none : (m : Marked) → ◌≡◌ {A = Option Marked} None (Some m) → ⊥
some_none m e = absurd cc

-- no form, where none is read
pub no_form : (file : List ℕ) → None ≡ marked_of file → IsNoForm file
no_form file none m f = some_none m (none ∙ complete file m f)

pub is_bad : (file : List ℕ) → None ≡ marked_of file → true ≡ has_mark file → IsBadMark file
is_bad file none mark = record { none = no_form file none; mark = sym mark }

pub is_plain : (file : List ℕ) → None ≡ marked_of file → false ≡ has_mark file → IsPlain file
is_plain file none mark = record { none = no_form file none; plain = sym mark }

pub object_told : (file : List ℕ) (x : Object) → None ≡ marked_of file → false ≡ has_mark file → reads file ≡ Ok x → file_in file ≡ Ok (Plain x)
object_told file x none mark e = plain_are_told file (is_plain file none mark) ∙ ap as_file e

pub refused_told : (file : List ℕ) (r : Refusal) → None ≡ marked_of file → false ≡ has_mark file → Answers object_memory (Err r) (reads file) → Answers file_fault_is_memory (Err (Refused r)) (file_in file)
refused_told file refusals.NoMemory none mark e = tt
refused_told file (refusals.Clause number argument) none mark e = plain_are_told file (is_plain file none mark) ∙ ap as_file e

pub refused_fault : (file : List ℕ) (r : Refusal) → None ≡ marked_of file → false ≡ has_mark file → Answers object_memory (Err r) (reads file) → IsFault file (Refused r)
refused_fault file refusals.NoMemory none mark e = tt
refused_fault file (refusals.Clause number argument) none mark e = (is_plain file none mark, e)
