-- A file that was taken, as it is put together.
use Rattle.std.proofs.Common.{◌≡◌, ◌≤◌, ℕ, Bool, true, false, List, length, Option, Some, None, Result, Ok, Err, refl, sym, ap, subst, ◌∙◌}
use Rattle.pl_base.specs.Answers.{unless}
use Rattle.pl_base.specs.Bytes.{IsBytes}
use Rattle.pl_elf.specs.declared.range.Range.{Range}
use Rattle.pl_form.specs.declared.constants.TheConstants.{STORED}
use Rattle.pl_form.specs.Files.{file_by, file_in, marked_in}
use Rattle.pl_form.specs.Marks.{as_file, has_mark}
use Rattle.pl_form.specs.declared.fault.FileFault.TheVariants as unread
use Rattle.pl_form.specs.declared.file.Entry.{Entry}
use Rattle.pl_form.specs.declared.file.Marked.{Marked}
use Rattle.pl_object.specs.Reads.{reads}
use Rattle.pl_object.specs.declared.object.Object.{Object}
use Rattle.pl_object.specs.declared.refusal.Refusal.{Refusal}
use Rattle.pl_object.specs.declared.refusal.Refusal.TheVariants.{Clause, NoMemory}
use Rattle.pl_cone.specs.Taken.{entry_by, entry_in, fault_of_entry, marked_by, taken_of, HasItsEntry, IsTaken}
use Rattle.pl_cone.specs.declared.taken.Taken.{Taken}
use Rattle.pl_cone.proofs.FaultLaws.{entry_fault}

abbrev pub taken_with : List ℕ → List ℕ → Entry → Option ℕ → Taken
taken_with name rows entry fault = record { name = name; bytes = rows; entry = entry; fault = fault }

pub taken_made : (region : Range) (name bytes rows : List ℕ) (entry : Entry) (fault : Option ℕ) → rows ≡ bytes → entry ≡ entry_in bytes → fault ≡ fault_of_entry region entry → taken_with name rows entry fault ≡ taken_of region name bytes
unfolding taken_of
taken_made region name bytes rows entry fault same is faulty =
    ap (λ (xs : List ℕ). taken_with name xs entry fault) same
    ∙ (ap (λ (e : Entry). taken_with name bytes e fault) is
    ∙ ap (λ (f : Option ℕ). taken_with name bytes (entry_in bytes) f) (faulty ∙ (ap (fault_of_entry region) is ∙ entry_fault region bytes)))

pub taken_is : (region : Range) (name bytes rows : List ℕ) (entry : Entry) (fault : Option ℕ) → rows ≡ bytes → entry ≡ entry_in bytes → fault ≡ fault_of_entry region entry → IsBytes bytes → length bytes ≤ STORED → IsTaken region (taken_with name rows entry fault)
taken_is region name bytes rows entry fault same is faulty are_bytes small = record {
  is = taken_made region name bytes rows entry fault same is faulty ∙ ap (taken_of region name) (sym same);
  bytes = subst IsBytes (sym same) are_bytes;
  small = subst (λ (xs : List ℕ). length xs ≤ STORED) (sym same) small;
}

-- ---- what is read of a file

plain_mark : (marked : Bool) (r : Result Object Refusal) → marked_by (entry_by (unless marked unread.BadMark (as_file r))) ≡ None
plain_mark true r = refl
plain_mark false (Ok x) = refl
plain_mark false (Err (Clause number argument)) = refl
plain_mark false (Err NoMemory) = refl

mark_by : (bytes : List ℕ) (found : Option Marked) → marked_by (entry_by (file_by bytes found)) ≡ found
mark_by bytes (Some m) = refl
mark_by bytes None = plain_mark (has_mark bytes) (reads bytes)

mark_in : (bytes : List ℕ) → marked_by (entry_in bytes) ≡ marked_in bytes
unfolding entry_in file_in
mark_in bytes = mark_by bytes (marked_in bytes)

pub marked_read : (t : Taken) → HasItsEntry t → marked_by t.entry ≡ marked_in t.bytes
marked_read t is = ap marked_by is ∙ mark_in t.bytes
