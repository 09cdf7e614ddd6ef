-- What a form leaves alone, from acceptance.
use Rattle.std.proofs.Common.{◌≡◌, ℕ, ◌+◌, ◌≤◌, false, List, Option, Some, ap, subst}
use Rattle.std.specs.Prelude.{not}
use Rattle.std.specs.List.{list_any, AllByRecursion}
use Rattle.pl_base.specs.Windows.{Window}
use Rattle.pl_elf.specs.Headers.{header, loads}
use Rattle.pl_elf.specs.Clauses.{AreLoads}
use Rattle.pl_elf.specs.declared.segment.Segment.{Segment}
use Rattle.pl_object.specs.Accepted.{is_exec}
use Rattle.pl_object.specs.PlaceClauses.{last_load, is_held, reloc_outside}
use Rattle.pl_object.specs.Relocations.{places}
use Rattle.pl_object.specs.Tables.{link_windows}
use Rattle.pl_object.specs.declared.object.Object.{Object}
use Rattle.pl_object.proofs.AcceptedLaws.{accepted}
use Rattle.pl_form.specs.declared.parts.Extension.{Extension}
use Rattle.pl_form.specs.Found.{ss_of, secs_of, tags_of, places_of, zeros_from}
use Rattle.pl_form.specs.Forms.{original_of}
use Rattle.pl_form.specs.PartLaws.{IsOriginal, FormsProgram, IsFree, LibraryFormsLoadAlike, ProgramFormsLoadAlike}
use Rattle.pl_form.proofs.AcceptedIs.{segments_are, places_are, named_of}
use Rattle.pl_form.proofs.FinalTheorem.{library_conditions, program_conditions, inside}
use Rattle.pl_form.proofs.FormTheorem.{IsLoaded, IsHeldProgram, library_loads, program_loads}
use Rattle.pl_form.proofs.LoadFacts.{loads_of, last_is, all_held}
use Rattle.pl_form.proofs.PlaceByteLaws.{IsHeld}
use Rattle.pl_form.proofs.ReaderLaws.{IsAccepted}
use Rattle.pl_form.proofs.WholeTheorem.{taken, library_is, program_is}

-- a byte that is free, by the original's own tables
free : (o : List ℕ) (x : Object) (i k : ℕ) (d : Segment) → IsOriginal o x → IsAccepted o → (header o).shnum ≤ 65000 → IsFree o i k d
    → IsLoaded (original_of o) (places_of o) (link_windows (header o) (ss_of o) (secs_of o) (tags_of o)) (zeros_from (last_load (ss_of o))) i k d
free o x i k d is acc few f = record {
  taken = taken o acc few;
  loads = loads_of o x (accepted o x is.accepted);
  lt = f.lt;
  is = f.load;
  inside = inside o i d acc f.lt;
  plain = record { masked = f.unmasked; away = f.away };
  below = f.below;
}

pub libraries_load_alike : LibraryFormsLoadAlike
libraries_load_alike o x slot stamp checksum l flat digest i k d f is =
    let c = library_conditions o x slot stamp checksum l flat digest f in
    library_loads (original_of o) slot stamp checksum l flat digest (places_of o) (link_windows (header o) (ss_of o) (secs_of o) (tags_of o)) (zeros_from (last_load (ss_of o))) i k d
    (library_is o slot stamp checksum l flat digest c).fits (free o x i k d f.original c.accepted c.few is)

-- each place of a program lies in the file part or in the memory of the last PT_LOAD
pub held_of : (o : List ℕ) (x : Object) (last : Segment) → IsOriginal o x → last_load (ss_of o) ≡ Some last → AllByRecursion (IsHeld (ss_of o) last) (places_of o)
unfolding reloc_outside
held_of o x last is latest =
    let acc = accepted o x is.accepted in
    let here = places_are o x acc is.dynamic (named_of o x is.few is.accepted is.dynamic) in
    let a : list_any (λ memory. not (is_held (is_exec x) (ss_of o) memory)) (places x.relocations) ≡ false = subst (λ (ss : List Segment). list_any (λ memory. not (is_held (is_exec x) ss memory)) (places x.relocations) ≡ false) (segments_are o x acc) acc.held in
    all_held (is_exec x) (ss_of o) last (places_of o) latest (subst (λ (ps : List Window). list_any (λ memory. not (is_held (is_exec x) (ss_of o) memory)) ps ≡ false) here a)

pub loads_are : (o : List ℕ) (x : Object) → IsOriginal o x → AreLoads (loads (ss_of o))
loads_are o x is = let acc = accepted o x is.accepted in subst (λ (ss : List Segment). AreLoads (loads ss)) (segments_are o x acc) acc.loads

pub held_program : (o : List ℕ) (x : Object) (index : ℕ) (last : Segment) (e : Extension) (flat : List ℕ) (digest : Option (List ℕ)) → FormsProgram o x index last e flat digest → IsHeldProgram (original_of o) (places_of o) index last
held_program o x index last e flat digest f =
    let c = program_conditions o x index last e flat digest f in
    record { program = c.program; is_load = (last_is (ss_of o) last f.latest).load; are = loads_are o x f.original; held = held_of o x last f.original f.latest }

pub programs_load_alike : ProgramFormsLoadAlike
programs_load_alike o x index last e flat digest i k d f is =
    let c = program_conditions o x index last e flat digest f in
    let links = link_windows (header o) (ss_of o) (secs_of o) (tags_of o) in
    let start : zeros_from (last_load (ss_of o)) ≡ last.vaddr + last.filesz = ap zeros_from f.latest in
    let loaded : IsLoaded (original_of o) (places_of o) links (last.vaddr + last.filesz) i k d = subst (λ (n : ℕ). IsLoaded (original_of o) (places_of o) links n i k d) start (free o x i k d f.original c.accepted c.few is) in
    program_loads (original_of o) e flat digest (places_of o) links index i k d last (program_is o index last e flat digest c).fits (held_program o x index last e flat digest f) loaded
