-- What acceptance clauses 23 to 27 and 29 refuse: relocations, and the places that they change.
use Rattle.std.specs.Prelude.{ℕ, ◌+◌, ◌-◌, Bool, false, not, ◌&&◌, ◌||◌, ◌==◌, nat_le, List, [], ◌∷◌, map, fold, find, length, take, drop, Option, Some, None, Result, Ok, if◌then◌else◌, pos}
use Rattle.std.specs.List.{list_any}
use Rattle.std.specs.Ordering.{int_eq}
use Rattle.pl_base.specs.Answers.{refuse, unless_found}
use Rattle.pl_base.specs.Windows.{Window, end_of, any_share}
use Rattle.pl_elf.specs.Headers.{is_load}
use Rattle.pl_elf.specs.declared.segment.Segment.{Segment}
use Rattle.pl_object.specs.FilePart.{file_window, in_file_part}
use Rattle.pl_object.specs.TableClauses.{meets}
use Rattle.pl_object.specs.Relocations.{places}
use Rattle.pl_elf.specs.declared.constants.TheConstants.{R_X86_64_COPY, R_X86_64_GLOB_DAT, R_X86_64_JUMP_SLOT}
use Rattle.pl_object.specs.declared.constants.TheConstants.{RELOC_KINDS}
use Rattle.pl_object.specs.declared.reloc.Reloc.{Reloc}
use Rattle.pl_object.specs.declared.refusal.Refusal.{Refusal}
use Rattle.pl_object.specs.declared.refusal.Refusal.TheVariants.{Clause}

-- ---- 23. Reloc

unfoldable pub is_known : ℕ → Bool
is_known kind = list_any (λ known. known == kind) RELOC_KINDS

-- a kind that is not known, or a symbol that is not among so many
unfoldable pub is_bad : ℕ → Reloc → Bool
is_bad count r = not (is_known r.kind) || nat_le count r.symbol

unfoldable pub first_bad : ℕ → List Reloc → Option Reloc
first_bad count rs = find (is_bad count) rs

-- ---- 24. RelocOutside

-- the last PT_LOAD
unfoldable pub last_load : List Segment → Option Segment
last_load ss = fold (λ found s. if is_load s then Some s else found) None ss

-- a window lies in the memory of a segment
abbrev pub is_in_segment : Window → Segment → Bool
is_in_segment memory s = nat_le s.vaddr memory.at && nat_le (end_of memory) (s.vaddr + s.memsz)

abbrev pub is_in_memory : Window → Option Segment → Bool
is_in_memory memory None = false
is_in_memory memory (Some s) = is_in_segment memory s

-- where a relocation may change memory: in the file part and, in a program, in the memory of the last PT_LOAD
unfoldable pub is_held : Bool → List Segment → Window → Bool
is_held program ss memory = in_file_part ss memory || program && is_in_memory memory (last_load ss)

unfoldable pub reloc_outside : Bool → List Segment → List Reloc → Bool
reloc_outside program ss rs = list_any (λ memory. not (is_held program ss memory)) (places rs)

-- so many packed relocations stand last, behind those of the tables of rows
abbrev pub rows_of : ℕ → List Reloc → List Reloc
rows_of packed rs = take (length rs - packed) rs

abbrev pub last_packed : ℕ → List Reloc → List Reloc
last_packed packed rs = drop (length rs - packed) rs

-- a place of a row, or a packed one, which has to be in the file part in a program too
unfoldable pub any_place_outside : Bool → List Segment → ℕ → List Reloc → Bool
any_place_outside program ss packed rs = reloc_outside program ss (rows_of packed rs) || reloc_outside false ss (last_packed packed rs)

-- ---- 25. RelocOverlap

unfoldable pub reloc_overlap : List Reloc → Bool
reloc_overlap rs = any_share (places rs)

-- ---- 26. RelocInTables

-- the file bytes of the places
unfoldable pub spots : List Segment → List Reloc → List Window
spots ss rs = map (file_window ss) (places rs)

-- the file bytes of a place share a byte with a table
unfoldable pub reloc_in_tables : List Window → List Segment → List Reloc → Bool
reloc_in_tables tables ss rs = list_any (meets tables) (spots ss rs)

-- ---- 27. OddAddend

unfoldable pub is_odd : Reloc → Bool
is_odd r =
    (r.kind == R_X86_64_GLOB_DAT || r.kind == R_X86_64_JUMP_SLOT || r.kind == R_X86_64_COPY) && not (int_eq r.addend (pos 0))

unfoldable pub odd_addend : List Reloc → Bool
odd_addend rs = list_any is_odd rs

-- ---- 29. CopyInLibrary

unfoldable pub is_misplaced_copy : Bool → Reloc → Bool
is_misplaced_copy program r = r.kind == R_X86_64_COPY && (not program || r.symbol == 0)

unfoldable pub misplaced_copy : Bool → List Reloc → Bool
misplaced_copy program rs = list_any (is_misplaced_copy program) rs

-- ---- 23 to 27 in order

unfoldable pub check_places : Bool → List Segment → List Window → ℕ → List Reloc → Result (Unit {0}) Refusal
check_places program ss tables packed rs =
    refuse (
    (any_place_outside program ss packed rs, Clause 24 0) ∷ (reloc_overlap rs, Clause 25 0)
    ∷ (reloc_in_tables tables ss rs, Clause 26 0) ∷ (odd_addend rs, Clause 27 0) ∷ [])
    (Ok tt)

unfoldable pub check_relocs : Bool → List Segment → List Window → ℕ → ℕ → List Reloc → Result (Unit {0}) Refusal
check_relocs program ss tables count packed rs =
    unless_found (first_bad count rs) (λ r. Clause 23 r.kind) (check_places program ss tables packed rs)
