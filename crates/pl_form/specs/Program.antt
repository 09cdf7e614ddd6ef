-- The form of a program.
use Rattle.std.specs.Prelude.{◌≡◌, true, ℕ, suc, List, [], ◌∷◌, length, Option, Some, None, nat_lt, Result, Ok, if◌then◌else◌}
use Rattle.std.specs.List.{list_any}
use Rattle.pl_base.specs.Answers.{unless}
use Rattle.pl_elf.specs.Headers.{is_load}
use Rattle.pl_elf.specs.Kinds.{is_program}
use Rattle.pl_elf.specs.declared.segment.Segment.{Segment}
use Rattle.pl_lists.specs.declared.conflict_row.ConflictRow.{ConflictRow}
use Rattle.pl_lists.specs.declared.list_row.ListRow.{ListRow}
use Rattle.pl_object.specs.PlaceClauses.{last_load}
use Rattle.pl_object.specs.declared.object.Object.{Object}
use Rattle.pl_form.specs.Forms as forms
use Rattle.pl_form.specs.Forms.{original_of}
use Rattle.pl_form.specs.Found.{ss_of}
use Rattle.pl_form.specs.declared.parts.Extension.{Extension}
use Rattle.pl_form.specs.Faults.{IsFirm}
use Rattle.pl_form.specs.Words.{extension_of, flat_of, digest_in}
use Rattle.pl_form.specs.declared.constants.TheConstants.{STORED}
use Rattle.pl_form.specs.declared.fault.FormFault.{FormFault}
use Rattle.pl_form.specs.declared.fault.FormFault.TheVariants.{TooLarge}
use Rattle.pl_form.specs.declared.file.Fill.{Fill}
use Rattle.pl_form.specs.Originals.{AreFoundIn}
use Rattle.pl_form.specs.declared.layout.Source.{Source}
use Rattle.pl_form.specs.declared.program.Last.{Last}
use Rattle.pl_form.specs.declared.version.Version.{Version}

-- the number of the last PT_LOAD among the segments
unfoldable pub last_index : List Segment → ℕ
last_index [] = 0
last_index (s ∷ ss) = if list_any is_load ss then suc (last_index ss) else 0

abbrev pub with_index : List Segment → Option Segment → Option Last
with_index ss None = None
with_index ss (Some last) = Some (record { index = last_index ss; segment = last })

abbrev pub find_last : List Segment → Option Last
find_last ss = with_index ss (last_load ss)

abbrev pub extended_at : List ℕ → Option Segment → Extension → List ℕ → Version → List ℕ
extended_at o None lists flat version = []
extended_at o (Some last) lists flat version =
    forms.form_of_program (original_of o) (last_index (ss_of o)) last lists flat (digest_in version o)

-- an accepted program has a last PT_LOAD
unfoldable pub extended : List ℕ → Extension → List ℕ → Version → List ℕ
extended o lists flat version = extended_at o (last_load (ss_of o)) lists flat version

-- by the bytes at all places
abbrev pub program_with : List ℕ → List ListRow → List ℕ → List ConflictRow → Version → List ℕ
program_with o list flat conflicts version = extended o (extension_of o list conflicts) flat version

-- by a fill for each place
abbrev pub program_form : List ℕ → List ListRow → List Fill → List ConflictRow → Version → List ℕ
program_form o list fills conflicts version = program_with o list (flat_of fills) conflicts version

-- the form, unless it passes 256 MiB
abbrev pub stored : List ℕ → Result (List ℕ) FormFault
stored form = unless (nat_lt STORED (length form)) TooLarge (Ok form)

-- ---- what has one

-- a program that was accepted from a file, and has no form fault other than InRegion
pub record IsFirmProgram (o : List ℕ) (x : Object) : Type 0 where
  pub firm : IsFirm o x
  pub program : is_program x.kind ≡ true

-- such a program with its layout and its SHA-256
pub record IsProgramSource (s : Source) : Type 0 where
  pub firm : IsFirmProgram s.original.now s.object.now
  pub found : AreFoundIn s.original.now s.layout.now s.digest.now
