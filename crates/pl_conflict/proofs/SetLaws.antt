-- A program and its libraries, each with its prelinked file: with the conflict rows the files are the ordinary image.
use Rattle.std.proofs.Common.{◌≡◌, ℕ, zero, suc, ◌+◌, ◌<◌, ◌≤◌, true, false, List, [], ◌∷◌, length, map, get_or, drop, Option, Some, None, Result, Ok, Err, refl, sym, ap, subst, ◌∙◌, arith, inl, inr}
use Rattle.std.specs.Prelude.{if◌then◌else◌, ◌==◌, not, filter, slice_get, slice_index, slice_index_or}
use Rattle.std.specs.List.{All, list_all}
use Rattle.std.specs.Str.{bytes_eq}
use Rattle.std.proofs.lemmas.Bool.{cases_Bool, and_from, true≢false}
use Rattle.std.proofs.lemmas.Bool.Decides.{nat_tests}
use Rattle.std.proofs.lemmas.List.Elements.{All-head, All-tail}
use Rattle.pl_base.specs.Answers.{◌>>=◌}
use Rattle.pl_base.specs.Bytes.{bytes64}
use Rattle.pl_base.specs.Memory.{layered, read}
use Rattle.pl_elf.specs.Kinds.{is_library, is_program, is_static}
use Rattle.pl_elf.specs.declared.header.Header.{Header}
use Rattle.pl_elf.specs.declared.kind.Kind.{Kind}
use Rattle.pl_elf.specs.declared.kind.Kind.TheVariants.{Program, Library, Static}
use Rattle.pl_form.specs.Program.{IsFirmProgram, program_with}
use Rattle.pl_form.specs.declared.constants.TheConstants.{STORED}
use Rattle.pl_form.proofs.AlignLaws.{align_even, slot_even}
use Rattle.pl_form.proofs.FirmLaws.{library_three, program_two}
use Rattle.pl_image.specs.Image.{byte_of}
use Rattle.pl_image.specs.Loads.{loaded_at}
use Rattle.pl_image.specs.declared.loaded_object.LoadedObject.{LoadedObject}
use Rattle.pl_lists.specs.declared.conflict_row.ConflictRow.{ConflictRow}
use Rattle.pl_object.specs.Accepted.{is_exec}
use Rattle.pl_object.specs.declared.object.Object.{Object}
use Rattle.pl_object.proofs.AcceptedLaws.{accepted}
use Rattle.pl_tls.specs.declared.module.Module.{Module}
use Rattle.pl_value.specs.Laws.{is_shared}
use Rattle.pl_value.specs.Meanings.{meanings}
use Rattle.pl_value.specs.Ordinary.{part_of, loaded_from, loaded_objects, shown_linked}
use Rattle.pl_value.specs.Targets.{base_of}
use Rattle.pl_value.specs.declared.fault.LinkFault.{LinkFault}
use Rattle.pl_value.specs.declared.meaning.Meaning.{Meaning}
use Rattle.pl_value.specs.declared.word.Word.{Word}
use Rattle.pl_value.specs.declared.word.Word.TheVariants.{Put, Copy, Nothing}
use Rattle.pl_conflict.specs.Complete.{IsProgramScope, StandFor}
use Rattle.pl_conflict.specs.Conflicts.{pieces_in, held, row_of, rows_of, ascending, conflicts}
use Rattle.pl_conflict.specs.Fast as fast
use Rattle.pl_conflict.specs.Prelinked as prelinked
use Rattle.pl_conflict.specs.Prelinked.{Firm, objects_of, slots_of, originals_of, version_of, has_numbers, list_of, library_file, is_program_place}
use Rattle.pl_conflict.specs.Standing.{standing_image}
use Rattle.pl_conflict.proofs.CompleteLaws.{library_same, conflicts_complete}
use Rattle.pl_conflict.proofs.GivenLaws.{own_meanings, given_sizes}
use Rattle.pl_conflict.proofs.MadeLaws.{IsProgramOf, given_of, flat_is, scope_memory, library_flat, library_file_is, library_wanted}
use Rattle.pl_conflict.proofs.MemberLaws.{HasOwn, IsSet, library_numbers, program_numbers}
use Rattle.pl_conflict.proofs.ScopeLaws.{read_all, set_placed}
use Rattle.pl_conflict.proofs.StandLaws.{IsLibraryFile, IsProgramFile, AreFiles, stand_for}

-- ---- kinds

abbrev pub HasLibrary : Firm → Type 0
HasLibrary r = is_library r.object.kind ≡ true

is_program_of : (kind : Kind) → is_library kind ≡ false → is_static kind ≡ false → is_program kind ≡ true
is_program_of Program e f = refl
is_program_of Library e f = absurd (true≢false e)
is_program_of Static e f = absurd (true≢false f)

program_firm : (r : Firm) → HasOwn r → is_library r.object.kind ≡ false → IsFirmProgram r.member.original r.object
program_firm r own other = record { firm = own.firm; program = is_program_of r.object.kind other own.firm.dynamic }

pub library_shared : (r : Firm) → HasOwn r → HasLibrary r → is_exec r.object ≡ false
library_shared r own library =
    let facts = accepted r.member.original r.object own.firm.accepted in
    let kind : r.object.header.kind ≡ 3 = ap (λ (h : Header). h.kind) (sym facts.head.header) ∙ library_three r.member.original r.object own.firm.accepted library in
    rw kind refl

program_exec : (r : Firm) → HasOwn r → is_library r.object.kind ≡ false → is_exec r.object ≡ true
program_exec r own other =
    let facts = accepted r.member.original r.object own.firm.accepted in
    let kind : r.object.header.kind ≡ 2 = ap (λ (h : Header). h.kind) (sym facts.head.header) ∙ program_two r.member.original r.object own.firm.accepted (program_firm r own other).program in
    rw kind refl

shared_at : (rs : List Firm) → All HasOwn rs → All HasLibrary rs → (m : ℕ) → m < length (objects_of rs) → is_shared (slice_get (objects_of rs) m) ≡ true
shared_at [] all libraries m lt = absurd (omega (arith, lt))
shared_at (r ∷ rs) all libraries zero lt = ap not (library_shared r (All-head HasOwn r rs all) (All-head HasLibrary r rs libraries))
shared_at (r ∷ rs) all libraries (suc m) lt = shared_at rs (All-tail HasOwn r rs all) (All-tail HasLibrary r rs libraries) m (omega (arith, lt))

later_member : (m : ℕ) → fast.is_library (suc m) ≡ true
later_member m = grind (arith, nat_tests)

pub program_scope : (r : Firm) (rs : List Firm) → All HasOwn (r ∷ rs) → is_library r.object.kind ≡ false → All HasLibrary rs → IsProgramScope (objects_of (r ∷ rs))
program_scope r rs all other libraries zero lt = ap not (program_exec r (All-head HasOwn r rs all) other)
program_scope r rs all other libraries (suc m) lt = shared_at rs (All-tail HasOwn r rs all) libraries m (omega (arith, lt)) ∙ sym (later_member m)

-- ---- conflicts do not look at the first file

later_from : (p q : List ℕ) (ps : List (List ℕ)) (places : List ℕ) (member : ℕ) (os : List Object) → loaded_from places (p ∷ ps) (suc member) os ≡ loaded_from places (q ∷ ps) (suc member) os
unfolding loaded_from
later_from p q ps places member [] = refl
later_from p q ps places member (o ∷ os) =
    let next : suc member + 1 ≡ suc (member + 1) = omega arith in
    let rest : loaded_from places (p ∷ ps) (suc member + 1) os ≡ loaded_from places (q ∷ ps) (suc member + 1) os =
    subst (λ (n : ℕ). loaded_from places (p ∷ ps) n os ≡ loaded_from places (q ∷ ps) n os) (sym next) (later_from p q ps places (member + 1) os) in
    ap (λ (ls : List LoadedObject). loaded_at (base_of places (suc member)) (part_of ps member) o ∷ ls) rest

later_loaded : (p q : List ℕ) (ps : List (List ℕ)) (places : List ℕ) (os : List Object) → drop 1 (loaded_objects places (p ∷ ps) os) ≡ drop 1 (loaded_objects places (q ∷ ps) os)
unfolding loaded_from
later_loaded p q ps places [] = refl
later_loaded p q ps places (o ∷ os) = later_from p q ps places 0 os

row_same : (xs ys : List LoadedObject) (member start : ℕ) (word : Word) → drop 1 xs ≡ drop 1 ys → row_of xs member start word ≡ row_of ys member start word
unfolding held
row_same xs ys member start (Put word) same = elim (cases_Bool (member == 0)) [
  | inl first ↦ rw first refl
  | inr other ↦ rw other (ap (λ (o : Option LoadedObject). row_held o start word) (library_same xs ys member same (ap not other)))
]
  where
    row_held : Option LoadedObject → ℕ → ℕ → Option ConflictRow
    row_held o start word = if bytes_eq (read (layered (pieces_in o)) start 8) (bytes64 word) then None else Some (record { address = start; word = word })
row_same xs ys member start (Copy from at bytes) same = refl
row_same xs ys member start Nothing same = refl

rows_same : (xs ys : List LoadedObject) (gs : List Meaning) → drop 1 xs ≡ drop 1 ys → rows_of xs gs ≡ rows_of ys gs
unfolding rows_of
rows_same xs ys [] same = refl
rows_same xs ys (g ∷ gs) same = rw (row_same xs ys g.member g.start g.word same, rows_same xs ys gs same) refl

conflicts_by : (objects : List Object) (p q : List ℕ) (ps : List (List ℕ)) (places : List ℕ) (r : Result (List Meaning) LinkFault)
    → (r >>= λ gs. Ok (ascending (rows_of (loaded_objects places (p ∷ ps) objects) gs))) ≡ (r >>= λ gs. Ok (ascending (rows_of (loaded_objects places (q ∷ ps) objects) gs)))
conflicts_by objects p q ps places (Err e) = refl
conflicts_by objects p q ps places (Ok gs) = ap (λ (rows : List ConflictRow). Ok (ascending rows)) (rows_same (loaded_objects places (p ∷ ps) objects) (loaded_objects places (q ∷ ps) objects) gs (later_loaded p q ps places objects))

pub conflicts_later : (objects : List Object) (p q : List ℕ) (ps : List (List ℕ)) (places : List ℕ) (modules : List Module) → conflicts objects (p ∷ ps) places modules ≡ conflicts objects (q ∷ ps) places modules
unfolding conflicts
conflicts_later objects p q ps places modules = conflicts_by objects p q ps places (meanings objects places modules)

-- ---- files

-- a library's file, of which `g` tells the bytes
abbrev pub HasFile : (Firm → List ℕ) → Firm → Type 0
HasFile g r = IsLibraryFile r.member.slot (g r) r.member.original r.object

pub library_has : (r : Firm) (rs : List Firm) (file : List ℕ) → HasOwn r → has_numbers r ≡ true → HasLibrary r → length file ≤ STORED → library_file (r ∷ rs) ≡ file → IsLibraryFile r.member.slot file r.member.original r.object
library_has r rs file own numbers library small is =
    let n = library_numbers r numbers library in
    record {
      stamp = r.member.stamp;
      list = list_of rs;
      flat = library_flat r rs;
      version = version_of r.member.version;
      firm = record { firm = own.firm; library = library };
      even = record { below = omega (arith, n.below); even = slot_even r.member.slot r.object.align (align_even r.member.original r.object own.firm.accepted) n.aligned };
      filled = library_wanted r rs own;
      small = small;
      is = sym is ∙ library_file_is r rs;
    }

program_has : (r : Firm) (rs : List Firm) (file : List ℕ) (p : IsProgramOf r rs file) → HasOwn r → is_library r.object.kind ≡ false → length file ≤ STORED → IsProgramFile file r.member.original r.object (given_of (r ∷ rs) p.gs)
unfolding given_of
program_has r rs file p own other small = record {
  list = list_of rs;
  conflicts = p.rows;
  version = version_of r.member.version;
  firm = program_firm r own other;
  sizes = given_sizes (objects_of (r ∷ rs)) (slots_of (r ∷ rs)) p.modules (scope_memory (r ∷ rs) p.gs) r.object.relocations (filter is_program_place p.gs) (own_meanings r.object (objects_of rs) (slots_of (r ∷ rs)) p.modules p.gs p.given);
  small = small;
  is = sym p.is ∙ ap (λ (flat : List ℕ). program_with r.member.original (list_of rs) flat p.rows (version_of r.member.version)) (flat_is (r ∷ rs) p.gs);
}

files_at : (g : Firm → List ℕ) (rs : List Firm) → All (HasFile g) rs → (k : ℕ) (d : Object) → k < length (objects_of rs) → IsLibraryFile (slice_index (slots_of rs) k) (slice_index_or (map g rs) k []) (slice_index_or (originals_of rs) k []) (get_or (objects_of rs) k d)
files_at g [] all k d lt = absurd (omega (arith, lt))
files_at g (r ∷ rs) all zero d lt = All-head (HasFile g) r rs all
files_at g (r ∷ rs) all (suc k) d lt = files_at g rs (All-tail (HasFile g) r rs all) k d (omega (arith, lt))

-- ---- a set with its files

pub record HasFiles (r : Firm) (rs : List Firm) (file : List ℕ) (g : Firm → List ℕ) : Type 0 where
  pub own : All HasOwn (r ∷ rs)
  pub set : IsSet r rs
  pub other : is_library r.object.kind ≡ false
  pub libraries : All HasLibrary rs
  pub made : IsProgramOf r rs file
  pub small : length file ≤ STORED
  pub files : All (HasFile g) rs
  pub parts : map (prelinked.part_of (r ∷ rs)) rs ≡ map g rs

all_numbers : (r : Firm) (rs : List Firm) → IsSet r rs → list_all has_numbers (r ∷ rs) ≡ true
all_numbers r rs set = and_from (has_numbers r) (list_all has_numbers rs) set.first set.numbers

are_files : (r : Firm) (rs : List Firm) (file : List ℕ) (g : Firm → List ℕ) (h : HasFiles r rs file g) → AreFiles r.object (objects_of rs) (originals_of (r ∷ rs)) (file ∷ map g rs) (slots_of (r ∷ rs)) h.made.gs
unfolding given_of scope_memory
are_files r rs file g h = record {
  zero = (program_numbers r h.set.first h.other).0;
  program = program_has r rs file h.made (All-head HasOwn r rs h.own) h.other h.small;
  libraries = files_at g rs h.files;
}

pub set_stands : (r : Firm) (rs : List Firm) (file : List ℕ) (g : Firm → List ℕ) (h : HasFiles r rs file g) → StandFor (originals_of (r ∷ rs)) (file ∷ map g rs) (objects_of (r ∷ rs)) (slots_of (r ∷ rs)) h.made.gs
set_stands r rs file g h =
    stand_for r.object (objects_of rs) r.member.original (originals_of rs) (file ∷ map g rs) (slots_of (r ∷ rs)) h.made.modules h.made.gs (read_all (r ∷ rs) h.own) (set_placed (r ∷ rs) h.own (all_numbers r rs h.set) h.set.apart) h.made.given
    (are_files r rs file g h)

set_conflicts : (r : Firm) (rs : List Firm) (file : List ℕ) (g : Firm → List ℕ) (h : HasFiles r rs file g) → conflicts (objects_of (r ∷ rs)) (file ∷ map g rs) (slots_of (r ∷ rs)) h.made.modules ≡ Ok h.made.rows
set_conflicts r rs file g h =
    conflicts_later (objects_of (r ∷ rs)) file (prelinked.part_of (r ∷ rs) r) (map g rs) (slots_of (r ∷ rs)) h.made.modules
    ∙ ap (λ (ps : List (List ℕ)). conflicts (objects_of (r ∷ rs)) (prelinked.part_of (r ∷ rs) r ∷ ps) (slots_of (r ∷ rs)) h.made.modules) (sym h.parts)
    ∙ h.made.conflicts

pub set_fast : (r : Firm) (rs : List Firm) (file : List ℕ) (g : Firm → List ℕ) (h : HasFiles r rs file g) → (a : ℕ)
    → byte_of (standing_image (slots_of (r ∷ rs)) (file ∷ map g rs) (objects_of (r ∷ rs)) h.made.rows) a ≡ shown_linked (loaded_objects (slots_of (r ∷ rs)) (originals_of (r ∷ rs)) (objects_of (r ∷ rs))) h.made.gs a
set_fast r rs file g h a =
    conflicts_complete (objects_of (r ∷ rs)) (originals_of (r ∷ rs)) (file ∷ map g rs) (slots_of (r ∷ rs)) h.made.modules h.made.gs h.made.rows (read_all (r ∷ rs) h.own) (program_scope r rs h.own h.other h.libraries)
    (set_placed (r ∷ rs) h.own (all_numbers r rs h.set) h.set.apart) h.made.given (set_conflicts r rs file g h) (set_stands r rs file g h) a
