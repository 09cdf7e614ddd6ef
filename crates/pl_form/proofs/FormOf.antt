-- A form by its definition is a form in the sense of the laws of forms.
use Rattle.std.proofs.Common.{◌≡◌, ℕ, ◌<◌, ◌^◌, ◌%◌, true, List, length, Option, Some, arith}
use Rattle.pl_elf.specs.Headers.{header}
use Rattle.pl_elf.specs.Kinds.{is_library, is_program}
use Rattle.pl_elf.specs.declared.segment.Segment.{Segment}
use Rattle.pl_object.specs.PlaceClauses.{last_load}
use Rattle.pl_object.specs.declared.object.Object.{Object}
use Rattle.pl_form.proofs.KindLaws.{segment_count}
use Rattle.pl_form.specs.Back.{wanted}
use Rattle.pl_form.specs.Forms.{undo_part, original_of}
use Rattle.pl_form.specs.Found.{ss_of, ps_of}
use Rattle.pl_form.specs.PartLaws.{FormsLibrary, FormsProgram, IsDigest}
use Rattle.pl_form.specs.Parts.{table_at, library_plan, program_plan}
use Rattle.pl_form.specs.declared.parts.Extension.{Extension}
use Rattle.pl_form.specs.declared.parts.Listed.{Listed}
use Rattle.pl_form.specs.Faults.{IsFirm}
use Rattle.pl_form.specs.Program.{last_index}
use Rattle.pl_form.proofs.FirmLaws.{original_is, library_three, program_two, library_spare, program_spare, last_found, program_untorn}

-- of a library, where the form is short
pub forms_library : (o : List ℕ) (x : Object) (slot stamp checksum : ℕ) (l : Listed) (flat : List ℕ) (digest : Option (List ℕ)) → IsFirm o x → is_library x.kind ≡ true → length flat ≡ wanted (ps_of o) → IsDigest digest → slot < 2 ^ 64 → slot % 2 ≡ 0
    → table_at (library_plan (original_of o) slot stamp checksum l) o (length (undo_part (library_plan (original_of o) slot stamp checksum l) (original_of o) digest)) < 2 ^ 32 → FormsLibrary o x slot stamp checksum l flat digest
forms_library o x slot stamp checksum l flat digest firm library filled size below even small = record {
  original = original_is o x firm;
  kind = library_three o x firm.accepted library;
  spare = library_spare o x firm library;
  filled = filled;
  digest_size = size;
  slot_small = below;
  even = even;
  small = small;
}

-- of a program
pub forms_program : (o : List ℕ) (x : Object) (last : Segment) (e : Extension) (flat : List ℕ) (digest : Option (List ℕ)) → IsFirm o x → is_program x.kind ≡ true → last_load (ss_of o) ≡ Some last → length flat ≡ wanted (ps_of o) → IsDigest digest
    → table_at (program_plan (original_of o) (last_index (ss_of o)) last flat e) o (length (undo_part (program_plan (original_of o) (last_index (ss_of o)) last flat e) (original_of o) digest)) < 2 ^ 32 → FormsProgram o x (last_index (ss_of o)) last e flat digest
forms_program o x last e flat digest firm program at filled size small =
    let found = last_found (ss_of o) last at in
    let untorn = program_untorn o x last firm program at in
    record {
      original = original_is o x firm;
      kind = program_two o x firm.accepted program;
      last_in = omega (arith, found.0, segment_count o (header o));
      is_last = found.1;
      latest = at;
      before = untorn.before;
      stray = untorn.stray;
      spare = program_spare o x firm program;
      filled = filled;
      digest_size = size;
      small = small;
    }
