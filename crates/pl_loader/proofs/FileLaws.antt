-- What is known of the files that were given to a load.
use Rattle.std.proofs.Common.{◌≡◌, ℕ, ◌+◌, ◌≤◌, ◌-◌, List, [], ◌∷◌, Option, length, map, take, drop, refl, sym, ap, ◌∙◌, subst, arith, get_or}
use Rattle.std.specs.List.{All, AllZip}
use Rattle.std.proofs.lemmas.List.{length-map, take_all}
use Rattle.std.proofs.lemmas.List.Elements.{All-nil, All-cons, All-head, All-tail, All-map, All-weaker}
use Rattle.pl_elf.specs.Headers.{loads}
use Rattle.pl_elf.specs.declared.constants.TheConstants.{ADDRESS_LIMIT}
use Rattle.pl_object.specs.declared.object.Object.{Object}
use Rattle.pl_elf.specs.declared.range.Range.{Range}
use Rattle.pl_place.specs.Placing.{IsWant}
use Rattle.pl_scope.specs.Scope.{walked, objects, IsAccepted}
use Rattle.pl_scope.specs.declared.constants.TheConstants.{MAX_MEMBERS}
use Rattle.pl_scope.specs.declared.member.Member.{Member}
use Rattle.pl_scope.proofs.MemberLaws.{length_walked}
use Rattle.pl_value.specs.Ordinary.{ArePlaced}
use Rattle.pl_loader.specs.Loading.{objects_of, parts_of, IsRead, AreFiles}
use Rattle.pl_loader.specs.Walk.{member}
use Rattle.pl_loader.specs.Places.{everywhere, kept_free, program_ranges, taken_first, want_of, IsAt, IsFree}
use Rattle.pl_loader.specs.declared.object_file.ObjectFile.{ObjectFile}
use Rattle.pl_loader.proofs.SpanLaws.{spanned}
use Rattle.pl_loader.proofs.ApartLaws.{IsSpannedFile, HasSpan, linked_at, all_at, are_placed}
use Rattle.pl_loader.proofs.BesideLaws.{fewer, lesser}
use Rattle.pl_loader.proofs.FormLaws.{program_takes}

-- ---- the addresses that they take

spanned_file : (f : ObjectFile) → IsRead f → IsSpannedFile f
spanned_file f is = spanned f.bytes f.object is.object

pub program_spanned : (program : ObjectFile) (fs : List ObjectFile) → AreFiles (program ∷ fs) → IsSpannedFile program
program_spanned program fs are = spanned_file program (All-head IsRead program fs are.read)

pub program_fits : (program : ObjectFile) (fs : List ObjectFile) → AreFiles (program ∷ fs) → All (λ s. s.vaddr + s.memsz ≤ ADDRESS_LIMIT) (loads program.object.segments)
program_fits program fs are = (program_spanned program fs are).below

pub libraries_spanned : (program : ObjectFile) (fs : List ObjectFile) → AreFiles (program ∷ fs) → All IsSpannedFile fs
libraries_spanned program fs are = All-weaker IsRead IsSpannedFile spanned_file fs (All-tail IsRead program fs are.read)

pub libraries_have_spans : (program : ObjectFile) (fs : List ObjectFile) → AreFiles (program ∷ fs) → All HasSpan fs
libraries_have_spans program fs are = λ i d lt. (libraries_spanned program fs are i d lt).some (are.libraries i d lt)

pub wants_asked : (program : ObjectFile) (fs : List ObjectFile) → AreFiles (program ∷ fs) → All IsWant (map want_of fs)
wants_asked program fs are =
    All-map IsWant want_of fs (λ i d lt. record { some = libraries_have_spans program fs are i d lt; power = (libraries_spanned program fs are i d lt).power })

-- ---- the scope of their objects

accepted : (f : ObjectFile) → IsRead f → IsAccepted f.object
accepted f is = record { bytes = f.bytes; size = is.size; read = is.object }

-- the objects of the files' names and objects are the files' objects
pub objects_are : (fs : List ObjectFile) → objects (map member fs) ≡ objects_of fs
objects_are [] = refl
objects_are (f ∷ fs) = ap (λ (os : List Object). f.object ∷ os) (objects_are fs)

of_walked : (P : Object → Type 0) (ms : List Member) → All P (objects (walked ms)) → All (λ m. P m.object.now) ms
of_walked P [] all = All-nil (λ (m : Member). P m.object.now)
of_walked P (m ∷ ms) all =
    All-cons (λ (n : Member). P n.object.now) m ms (All-head P m.object.now (objects (walked ms)) all) (of_walked P ms (All-tail P m.object.now (objects (walked ms)) all))

-- members that are the files' names and objects
pub accepted_members : (fs : List ObjectFile) (ms : List Member) → AreFiles fs → walked ms ≡ map member fs → All (λ m. IsAccepted m.object.now) ms
accepted_members fs ms are same =
    let all : All IsAccepted (objects_of fs) = All-map IsAccepted (λ (f : ObjectFile). f.object) fs (All-weaker IsRead (λ (f : ObjectFile). IsAccepted f.object) accepted fs are.read) in
    of_walked IsAccepted ms (subst (λ (os : List Object). All IsAccepted os) (sym (ap objects same ∙ objects_are fs)) all)

pub few_members : (fs : List ObjectFile) (ms : List Member) → length fs ≤ MAX_MEMBERS → walked ms ≡ map member fs → length ms ≤ MAX_MEMBERS
few_members fs ms few same = omega (arith, few, length_walked ms, ap length same, length-map fs member)

-- ---- their places

-- the files as a slice pattern has them: the first, and the others
pub files_are : (fs : List ObjectFile) (program : ObjectFile) → 1 ≤ length fs → program ≡ get_or fs 0 program → fs ≡ program ∷ take (length fs - 1) (drop 1 fs)
files_are [] program le is = absurd (omega (arith, le))
files_are (f ∷ fs) program le is =
    let all : take (length (f ∷ fs) - 1) fs ≡ fs = take_all (length (f ∷ fs) - 1) fs (omega arith) in
    rw (is, all) refl

in_places : (busy : Option Range) (program : ObjectFile) (fs : List ObjectFile) (starts : List ℕ) → AreFiles (program ∷ fs) → IsFree everywhere (taken_first busy program) (map want_of fs) starts
    → AllZip IsAt (program ∷ fs) (0 ∷ starts) × ArePlaced (0 ∷ starts) (parts_of (program ∷ fs)) (objects_of (program ∷ fs))
in_places busy program fs starts are is =
    let size : length fs ≡ length starts = omega (arith, length-map fs want_of, is.one_each) in
    let first = program_spanned program fs are in
    let rest = libraries_spanned program fs are in
    let free = lesser everywhere (linked_at program) (program_ranges program) (map want_of fs) starts (program_takes program (All-head IsRead program fs are.read) are.program) (fewer everywhere (program_ranges program) (kept_free busy) (map want_of fs) starts is.free) in
    let at = all_at everywhere (linked_at program) program fs starts (omega arith) size first rest (libraries_have_spans program fs are) free in
    (at, are_placed everywhere program fs starts size at first rest free is.apart)

-- the first at 0 and the others at these places
pub files_placed : (busy : Option Range) (files : List ObjectFile) (places : List ℕ) (program : ObjectFile) (fs : List ObjectFile) (starts : List ℕ) → files ≡ program ∷ fs → places ≡ 0 ∷ starts → AreFiles files
    → IsFree everywhere (taken_first busy program) (map want_of fs) starts → AllZip IsAt files places × ArePlaced places (parts_of files) (objects_of files)
files_placed busy files places program fs starts files_is places_is are is =
    rw (files_is, places_is) (in_places busy program fs starts (subst AreFiles files_is are) is)
