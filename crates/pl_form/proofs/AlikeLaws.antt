-- What a form leaves alone, from the laws of forms.
use Rattle.std.proofs.Common.{◌≡◌, ℕ, ◌^◌, ◌<◌, ◌≤◌, true, List, length, Option, Some, None, refl, sym, subst, arith}
use Rattle.std.specs.Prelude.{is_some}
use Rattle.std.proofs.lemmas.Bool.{true≢false}
use Rattle.pl_elf.specs.declared.segment.Segment.{Segment}
use Rattle.pl_lists.specs.declared.conflict_row.ConflictRow.{ConflictRow}
use Rattle.pl_lists.specs.declared.list_row.ListRow.{ListRow}
use Rattle.pl_object.specs.PlaceClauses.{last_load}
use Rattle.pl_object.specs.declared.object.Object.{Object}
use Rattle.pl_form.proofs.AlikeTheorem.{libraries_load_alike, programs_load_alike}
use Rattle.pl_form.specs.Back.{wanted}
use Rattle.pl_form.specs.Forms as forms
use Rattle.pl_form.specs.Forms.{original_of, undo_part, planned}
use Rattle.pl_form.specs.Found.{ss_of, ps_of}
use Rattle.pl_form.specs.PartLaws.{IsFree}
use Rattle.pl_form.specs.Parts.{Original, table_at, library_plan, program_plan}
use Rattle.pl_form.specs.declared.parts.Extension.{Extension}
use Rattle.pl_form.specs.declared.parts.Listed.{Listed}
use Rattle.sha2.proofs.Facts256.{length-sha256}
use Rattle.sha2.specs.Sha256.{sha256}
use Rattle.pl_form.specs.Alike.{LoadsAlike, LibrariesLoadAlike, ProgramsLoadAlike}
use Rattle.pl_form.specs.Library.{library_with}
use Rattle.pl_form.specs.Program.{IsFirmProgram, last_index, program_with}
use Rattle.pl_form.specs.Words.{listed, extension_of, checksum_of, digest_in}
use Rattle.pl_form.specs.declared.constants.TheConstants.{STORED}
use Rattle.pl_form.specs.declared.version.Version.{Version}
use Rattle.pl_form.proofs.FormOf.{forms_library, forms_program}
use Rattle.pl_form.proofs.ReadyLaws.{digest_ready, extended_some}
use Rattle.pl_form.proofs.SmallLaws.{table_below}
use Rattle.pl_form.proofs.SomeLastLaws.{some_last}

pub below_library : (o : Original) (slot stamp checksum : ℕ) (l : Listed) (flat : List ℕ) (digest : Option (List ℕ)) → length (forms.form_of_library o slot stamp checksum l flat digest) ≤ STORED
    → table_at (library_plan o slot stamp checksum l) o.bytes (length (undo_part (library_plan o slot stamp checksum l) o digest)) < 2 ^ 32
unfolding planned
below_library o slot stamp checksum l flat digest short = omega (arith, short, table_below (library_plan o slot stamp checksum l) o flat (undo_part (library_plan o slot stamp checksum l) o digest))

pub below_program : (o : Original) (index : ℕ) (last : Segment) (e : Extension) (flat : List ℕ) (digest : Option (List ℕ)) → length (forms.form_of_program o index last e flat digest) ≤ STORED
    → table_at (program_plan o index last flat e) o.bytes (length (undo_part (program_plan o index last flat e) o digest)) < 2 ^ 32
unfolding planned
below_program o index last e flat digest short = omega (arith, short, table_below (program_plan o index last flat e) o flat (undo_part (program_plan o index last flat e) o digest))

pub library_alike : LibrariesLoadAlike
unfolding library_with
library_alike o x slot stamp list flat version i k d is even filled short free =
    let digest = digest_in version o in
    let f = forms_library o x slot stamp (checksum_of o) (listed list) flat digest is.firm is.library filled (digest_ready version (sha256 o) (length-sha256 o)) even.below even.even
    (below_library (original_of o) slot stamp (checksum_of o) (listed list) flat digest short) in
    libraries_load_alike o x slot stamp (checksum_of o) (listed list) flat digest i k d f free

program_at : (o : List ℕ) (x : Object) (list : List ListRow) (flat : List ℕ) (conflicts : List ConflictRow) (version : Version) (i k : ℕ) (d : Segment) (found : Option Segment) → last_load (ss_of o) ≡ found → is_some found ≡ true → IsFirmProgram o x → length flat ≡ wanted (ps_of o)
    → length (program_with o list flat conflicts version) ≤ STORED → IsFree o i k d → LoadsAlike 0 (program_with o list flat conflicts version) o i k d
program_at o x list flat conflicts version i k d None at some is filled short free = absurd (true≢false (sym some))
program_at o x list flat conflicts version i k d (Some last) at some is filled short free =
    let digest = digest_in version o in
    let e = extension_of o list conflicts in
    let index = last_index (ss_of o) in
    let same : forms.form_of_program (original_of o) index last e flat digest ≡ program_with o list flat conflicts version = extended_some o (record { index = index; segment = last }) e flat version (record { at = at; index = refl }) in
    let small : length (forms.form_of_program (original_of o) index last e flat digest) ≤ STORED = subst (λ (xs : List ℕ). length xs ≤ STORED) (sym same) short in
    let f = forms_program o x last e flat digest is.firm is.program at filled (digest_ready version (sha256 o) (length-sha256 o)) (below_program (original_of o) index last e flat digest small) in
    subst (λ (xs : List ℕ). LoadsAlike 0 xs o i k d) same (programs_load_alike o x index last e flat digest i k d f free)

pub program_alike : ProgramsLoadAlike
program_alike o x list flat conflicts version i k d is filled short free =
    program_at o x list flat conflicts version i k d (last_load (ss_of o)) refl (some_last o x is.firm.accepted) is filled short free
