-- What verifying makes of a row is the file that is meant of it.
use Rattle.std.proofs.Common.{◌≡◌, ℕ, Bool, true, false, List, [], ◌∷◌, map, Option, Some, None, refl, sym, ap, subst, ◌∙◌, arith}
use Rattle.std.specs.Prelude.{is_some, slice_get, if◌then◌else◌}
use Rattle.std.proofs.lemmas.Bool.{false≢true}
use Rattle.std.proofs.lemmas.Option.{none-some}
use Rattle.pl_cone.specs.Candidates as candidates
use Rattle.pl_cone.specs.Links.{IsLinkOf}
use Rattle.pl_cone.specs.Skipped.{skip_causes}
use Rattle.pl_cone.specs.Table.{IsLinkKind, walked_by}
use Rattle.pl_cone.specs.Taken.{AreTaken, entry_in, files_in, marked_by, taken_of}
use Rattle.pl_cone.specs.declared.linking.Link.{Link}
use Rattle.pl_cone.specs.declared.taken.Taken.{Taken}
use Rattle.pl_cone.proofs.NamedFileLaws.{found}
use Rattle.pl_cone.proofs.RowLaws.{IsRow, found_at, row_is}
use Rattle.pl_cone.proofs.TakenLaws.{marked_read}
use Rattle.pl_conflict.specs.Format.{format}
use Rattle.pl_conflict.specs.Own.{FindAll}
use Rattle.pl_conflict.specs.Prelinked.{Firm}
use Rattle.pl_conflict.proofs.MemberLaws.{HasOwn}
use Rattle.pl_elf.specs.Kinds.{is_library, is_static}
use Rattle.pl_elf.specs.declared.kind.Kind.{Kind}
use Rattle.pl_elf.specs.declared.kind.Kind.TheVariants.{Library, Program, Static}
use Rattle.pl_elf.specs.declared.range.Range.{Range}
use Rattle.pl_form.specs.declared.file.Marked.{Marked}
use Rattle.pl_scope.specs.Scope.{objects}
use Rattle.pl_scope.specs.Walk.{Walked}
use Rattle.pl_scope.specs.declared.index.Entry.{Entry}
use Rattle.law_sound.specs.Rule as sound
use Rattle.pl_rewrite.specs.Rows.{IsWalkRow, is_library_row, of_firm, walk_of}
use Rattle.pl_rewrite.specs.RowWords.{IsLinkAt}
use Rattle.pl_rewrite.specs.Sources.{AreSources}
use Rattle.pl_rewrite.specs.Verify.{is_same, is_verified, prelinked_in, verified_original}
use Rattle.pl_rewrite.specs.declared.numbers.Numbered.{Numbered}
use Rattle.pl_rewrite.proofs.FirmLaws.{own_all}
use Rattle.pl_rewrite.proofs.FirmRowLaws.{firms_named, named_of}
use Rattle.pl_rewrite.proofs.NewLibraryLaws.{IsFirst, first_is}
use Rattle.pl_rewrite.proofs.VerifyLaws.{compared, not_marked, original_none, original_read, original_some}

entry_of : (region : Range) (ts : List Taken) (x : Taken) → IsRow region ts x → x.entry ≡ entry_in x.bytes
unfolding taken_of
entry_of region ts x known = ap (λ (t : Taken). t.entry) known.taken.is

-- ---- a link, whether the name may be prelinked or not

as_library : (k : Kind) (ts : List Taken) (index : List Entry) (rows : List ℕ) (l : Link) → is_library k ≡ true → IsLinkOf index (walked_by ts rows) l → IsLinkKind k ts index rows l
as_library Library ts index rows l is by = by
as_library Program ts index rows l is by = absurd (false≢true is)
as_library Static ts index rows l is by = absurd (false≢true is)

as_program : (k : Kind) (ts : List Taken) (index : List Entry) (rows : List ℕ) (l : Link) → is_library k ≡ false → is_static k ≡ false → FindAll (objects (walked_by ts rows)) l.found → l.remaining ≡ [] → IsLinkKind k ts index rows l
as_program Library ts index rows l other linked found none = absurd (false≢true (sym other))
as_program Program ts index rows l other linked found none = (found, none)
as_program Static ts index rows l other linked found none = absurd (false≢true (sym linked))

kind_first : (n : Numbered) (row : ℕ) → (walk : IsWalkRow n row) → candidates.kind_of (walked_by n.files.now (walk_of n row)) ≡ (first_is n row walk).firm.object.kind
kind_first n row walk =
    let first : IsFirst n row = first_is n row walk in
    ap candidates.kind_of (sym (firms_named n row)) ∙ ap (λ (rs : List Firm). candidates.kind_of (map named_of rs)) first.is

kind_row : (n : Numbered) (row : ℕ) → (walk : IsWalkRow n row) → is_library_row n row ≡ is_library (first_is n row walk).firm.object.kind
kind_row n row walk = ap (of_firm false (λ (r : Firm). is_library r.object.kind)) (first_is n row walk).at

pub library_link_at : (n : Numbered) (row : ℕ) (own : Walked) (l : Link) → IsWalkRow n row → is_library_row n row ≡ true → own ≡ walked_by n.files.now (walk_of n row) → IsLinkOf n.index.now own l → IsLinkAt n row l
library_link_at n row own l walk library same by = record {
  walk = walk;
  by = as_library (candidates.kind_of (walked_by n.files.now (walk_of n row))) n.files.now n.index.now (walk_of n row) l (ap is_library (kind_first n row walk) ∙ (sym (kind_row n row walk) ∙ library)) (subst (λ (ws : Walked). IsLinkOf n.index.now ws l) same by);
}

pub program_link_at : (n : Numbered) (row : ℕ) (own : Walked) (l made : Link) → IsWalkRow n row → is_library_row n row ≡ false → own ≡ walked_by n.files.now (walk_of n row) → IsLinkOf n.index.now own l → made.found ≡ l.found → made.remaining ≡ [] → IsLinkAt n row made
program_link_at n row own l made walk other same by found none =
    let first : IsFirst n row = first_is n row walk in
    let has : HasOwn first.firm = own_all (first.firm ∷ first.others) (subst AreSources first.is walk.sources) 0 first.firm (omega arith) in
    let all : FindAll (objects (walked_by n.files.now (walk_of n row))) made.found = subst (FindAll (objects (walked_by n.files.now (walk_of n row)))) (sym found) (subst (λ (ws : Walked). FindAll (objects ws) l.found) same by.found) in
    record {
      walk = walk;
      by = as_program (candidates.kind_of (walked_by n.files.now (walk_of n row))) n.files.now n.index.now (walk_of n row) made (ap is_library (kind_first n row walk) ∙ (sym (kind_row n row walk) ∙ other)) (ap is_static (kind_first n row walk) ∙ has.firm.dynamic) all none;
    }

-- ---- whether it is the one that is there

same_tests : (file : Option (List ℕ)) (bytes : List ℕ) → is_same file bytes ≡ sound.is_same file (Some bytes)
same_tests None bytes = refl
same_tests (Some file) bytes = refl

verified_by : (region : Range) (ts : List Taken) (row : ℕ) (t : Taken) (m : Marked) (file : Option (List ℕ)) (b : Bool) → AreTaken region ts → slice_get ts row ≡ Some t → marked_by t.entry ≡ Some m → file ≡ prelinked_in (files_in ts) t.name → is_same file t.bytes ≡ b → is_verified (files_in ts) t.name ≡ b
verified_by region ts row t m file b taken at mark is same =
    let known : IsRow region ts t = row_is region ts row t taken at in
    let there : found ts t.name ≡ Some t = found_at ts row t taken.distinct at in
    sym (compared region ts t known.taken there (ap is_some mark)) ∙ (ap (λ (o : Option (List ℕ)). sound.is_same o (Some t.bytes)) (sym is) ∙ (sym (same_tests file t.bytes) ∙ same))

pub other_file : (region : Range) (ts : List Taken) (row : ℕ) (t : Taken) (m : Marked) (file : Option (List ℕ)) → AreTaken region ts → slice_get ts row ≡ Some t → marked_by t.entry ≡ Some m → file ≡ prelinked_in (files_in ts) t.name → is_same file t.bytes ≡ false → None ≡ verified_original (files_in ts) t.name
other_file region ts row t m file taken at mark is same = original_none ts t.name (verified_by region ts row t m file false taken at mark is same)

pub same_file : (region : Range) (ts : List Taken) (row : ℕ) (t : Taken) (m : Marked) (file : Option (List ℕ)) → AreTaken region ts → slice_get ts row ≡ Some t → marked_by t.entry ≡ Some m → file ≡ prelinked_in (files_in ts) t.name → is_same file t.bytes ≡ true → Some m.original ≡ verified_original (files_in ts) t.name
same_file region ts row t m file taken at mark is same =
    let known : IsRow region ts t = row_is region ts row t taken at in
    let read = sym (marked_read t (entry_of region ts t known)) ∙ mark in
    original_some ts t m.original (found_at ts row t taken.distinct at) (sym (original_read t.bytes m read)) (verified_by region ts row t m file true taken at mark is same)

pub plain_file : (region : Range) (ts : List Taken) (row : ℕ) (t : Taken) → AreTaken region ts → slice_get ts row ≡ Some t → None ≡ marked_by t.entry → None ≡ verified_original (files_in ts) t.name
plain_file region ts row t taken at none =
    let known : IsRow region ts t = row_is region ts row t taken at in
    original_none ts t.name (sym (not_marked region ts t known.taken (found_at ts row t taken.distinct at) (sym (ap is_some none))))

pub none_verified : (ts : List Taken) (n : List ℕ) → None ≡ verified_original (files_in ts) n → false ≡ is_verified (files_in ts) n
none_verified ts n is = by_test (is_verified (files_in ts) n) refl
  where
    by_test : (b : Bool) → is_verified (files_in ts) n ≡ b → false ≡ is_verified (files_in ts) n
    by_test true on = absurd (none-some _ (is ∙ ap (λ (b : Bool). if b then Some (sound.original_at (format skip_causes) (files_in ts n)) else None) on))
    by_test false off = sym off

pub some_verified : (ts : List Taken) (n original : List ℕ) → Some original ≡ verified_original (files_in ts) n → true ≡ is_verified (files_in ts) n
some_verified ts n original is = by_test (is_verified (files_in ts) n) refl
  where
    by_test : (b : Bool) → is_verified (files_in ts) n ≡ b → true ≡ is_verified (files_in ts) n
    by_test true on = sym on
    by_test false off = absurd (none-some original (sym (is ∙ ap (λ (b : Bool). if b then Some (sound.original_at (format skip_causes) (files_in ts n)) else None) off)))
