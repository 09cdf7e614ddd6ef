-- The bytes at the places of a program.
use Rattle.std.specs.Prelude.{◌≡◌, ℕ, true, false, List, [], ◌∷◌, map, filter, Option, Some, None, Result, Ok, Err}
use Rattle.pl_base.specs.Memory.{Memory, layered, read}
use Rattle.pl_conflict.specs.Conflicts.{conflicts}
use Rattle.pl_conflict.specs.Prelinked.{Firm, are_set, list_of, objects_of, originals_of, parts_of, slots_of, version_of}
use Rattle.pl_elf.specs.Kinds.{is_library}
use Rattle.pl_form.specs.Program.{program_form}
use Rattle.pl_lists.specs.declared.conflict_row.ConflictRow.{ConflictRow}
use Rattle.pl_tls.specs.declared.module.Module.{Module}
use Rattle.pl_form.specs.Words.{AreFills, has_place}
use Rattle.pl_form.specs.declared.file.Fill.{Fill}
use Rattle.pl_image.specs.Image.{all_pieces}
use Rattle.pl_object.specs.declared.reloc.Reloc.{Reloc}
use Rattle.pl_value.specs.Linked.{relocated}
use Rattle.pl_value.specs.Ordinary.{loaded_objects}
use Rattle.pl_value.specs.declared.meaning.Meaning.{Meaning}

-- the bytes that a memory has at the place of a relocation of a program, which is loaded at 0
abbrev pub fill_at : Memory → Reloc → Fill
fill_at memory r = record { address = r.address; bytes = read memory r.address r.width }

-- one for each relocation that is not NONE, in their order
unfoldable pub fills : Memory → List Reloc → List Fill
fills memory rs = map (fill_at memory) (filter has_place rs)

-- the memory that the members' originals make at their slots
abbrev pub memory_of : List Firm → List Meaning → Memory
memory_of rs gs = relocated (layered (all_pieces (loaded_objects (slots_of rs) (originals_of rs) (objects_of rs)))) gs

-- the fills of the first of members
abbrev pub fills_of : List Firm → Memory → List Fill
fills_of [] memory = []
fills_of (r ∷ rs) memory = fills memory r.object.relocations

-- there is a fill for each place of the first
abbrev pub AreFirstFills : List Firm → List Fill → Type 0
AreFirstFills [] fills = Unit {0}
AreFirstFills (r ∷ rs) fills = AreFills fills r.object.relocations

-- ---- the program's file

abbrev pub BeginsWithProgram : List Firm → Type 0
BeginsWithProgram [] = Unit {0}
BeginsWithProgram (r ∷ rs) = is_library r.object.kind ≡ false

pub record IsProgramSet (rs : List Firm) : Type 0 where
  pub first : BeginsWithProgram rs
  pub set : are_set rs ≡ true

abbrev pub result_ok : {X E : Type 0} → Result X E → Option X
result_ok (Ok x) = Some x
result_ok (Err e) = None

-- the conflict rows of the members' scope; none where a relocation has no value
abbrev pub conflicts_with : List Firm → List Module → Option (List ConflictRow)
conflicts_with rs tls = result_ok (conflicts (objects_of rs) (parts_of rs) (slots_of rs) tls)

-- the program's form with fills and conflict rows
abbrev pub form_of : List Firm → List Fill → List ConflictRow → Option (List ℕ)
form_of [] fills rows = None
form_of (r ∷ rs) fills rows = Some (program_form r.member.original (list_of rs) fills rows (version_of r.member.version))
