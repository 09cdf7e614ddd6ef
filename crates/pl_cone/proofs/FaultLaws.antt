-- The form fault of a file's original.
use Rattle.std.proofs.Common.{◌≡◌, ℕ, Bool, true, false, List, [], Option, Some, None, Result, Ok, Err, refl, ap}
use Rattle.std.specs.Prelude.{if◌then◌else◌}
use Rattle.pl_base.specs.Answers.{unless}
use Rattle.pl_elf.specs.Clauses.{not_elf, read}
use Rattle.pl_elf.specs.declared.range.Range.{Range}
use Rattle.pl_form.specs.Files.{marked_in, original_in, original_or_file, file_in, file_by}
use Rattle.pl_form.specs.Marks.{has_mark, as_file, IsFormOf}
use Rattle.pl_form.specs.declared.fault.FileFault.TheVariants as unread
use Rattle.pl_form.specs.declared.file.Marked.{Marked}
use Rattle.pl_form.proofs.FilesLaws.{nothing_else_is_read}
use Rattle.pl_object.specs.Reads.{reads}
use Rattle.pl_object.specs.declared.object.Object.{Object}
use Rattle.pl_object.specs.declared.refusal.Refusal.{Refusal}
use Rattle.pl_object.specs.declared.refusal.Refusal.TheVariants.{Clause, NoMemory}
use Rattle.pl_cone.specs.Faults.{fault_of, fault_by, fault_in}
use Rattle.pl_cone.specs.Taken.{entry_by, entry_in, fault_of_entry}

-- ---- by what is read

pub form_fault_is : (region : Range) (bytes : List ℕ) (m : Marked) → IsFormOf bytes m → fault_of region m.object ≡ fault_in region m.original
unfolding fault_in
form_fault_is region bytes m of = rw (of.plain, of.firm.accepted) refl

plain_fault : (region : Range) (marked : Bool) (r : Result Object Refusal) → fault_of_entry region (entry_by (unless marked unread.BadMark (as_file r))) ≡ (if marked then None else fault_by region r)
plain_fault region true r = refl
plain_fault region false (Ok x) = refl
plain_fault region false (Err (Clause number argument)) = refl
plain_fault region false (Err NoMemory) = refl

own_fault_is : (region : Range) (bytes : List ℕ) → fault_of_entry region (entry_by (file_by bytes None)) ≡ fault_in region bytes
unfolding fault_in
own_fault_is region bytes = plain_fault region (has_mark bytes) (reads bytes)

by_mark : (region : Range) (bytes : List ℕ) (found : Option Marked) → marked_in bytes ≡ found → fault_of_entry region (entry_by (file_by bytes found)) ≡ fault_in region (original_or_file bytes found)
by_mark region bytes None is = own_fault_is region bytes
by_mark region bytes (Some m) is = form_fault_is region bytes m (nothing_else_is_read bytes m is)

-- what a file is tells the form fault of its original
pub entry_fault : (region : Range) (bytes : List ℕ) → fault_of_entry region (entry_in bytes) ≡ fault_in region (original_in bytes)
unfolding entry_in file_in original_in
entry_fault region bytes = by_mark region bytes (marked_in bytes) refl

-- ---- no file

nothing_is : reads [] ≡ Err (Clause 1 0)
unfolding reads read not_elf
nothing_is = refl

no_fault : (region : Range) (marked : Bool) → (if marked then None else fault_by region (reads [])) ≡ None
no_fault region true = refl
no_fault region false = ap (fault_by region) nothing_is

-- where a name has no file, it has no form fault
pub nothing_fault : (region : Range) → fault_in region [] ≡ None
unfolding fault_in
nothing_fault region = no_fault region (has_mark [])
