-- The file of a library's row, in a version, is the one that is meant of it.
use Rattle.std.proofs.Common.{◌≡◌, ℕ, true, List, [], ◌∷◌, Option, Some, sym, ap, subst, ◌∙◌}
use Rattle.std.specs.Prelude.{drop, slice_get}
use Rattle.std.specs.Option.{option_and_then}
use Rattle.std.proofs.lemmas.Option.{same_Some}
use Rattle.pl_cone.specs.declared.taken.Taken.{Taken}
use Rattle.pl_conflict.specs.Format.{number_of}
use Rattle.pl_conflict.specs.Own.{own_words}
use Rattle.pl_conflict.specs.Prelinked.{Firm, are_set, list_of, objects_of, prelinked, slots_of, stored}
use Rattle.pl_elf.specs.Kinds.{is_library}
use Rattle.pl_form.specs.declared.version.Version.{Version}
use Rattle.pl_form.specs.declared.version.Version.TheVariants.{Two}
use Rattle.pl_lists.specs.declared.list_row.ListRow.{ListRow}
use Rattle.pl_object.specs.declared.object.Object.{Object}
use Rattle.pl_rewrite.specs.Forms.{file_with}
use Rattle.pl_rewrite.specs.Libraries.{IsNew, firm_of, storable_library}
use Rattle.pl_rewrite.specs.Rows.{IsFileMeant, IsFirmAt, IsWalkRow, firms_of, is_library_row}
use Rattle.pl_rewrite.specs.Sources.{AreSources, AreVersionsOf, BeginsIn, IsVersionOf, members, versioned}
use Rattle.pl_rewrite.specs.declared.numbers.Numbered.{Numbered}
use Rattle.pl_rewrite.specs.declared.outcomes.NewLibrary.{NewLibrary}
use Rattle.pl_rewrite.proofs.NewLibraryLaws.{IsFirst, first_is, library_firm}
use Rattle.pl_rewrite.proofs.NewRowLaws.{library_object, made_firm}
use Rattle.pl_rewrite.proofs.VersionLaws.{firms_in_two, lists_versions, objects_versions, set_versions, slots_versions, sources_versions}
use Rattle.pl_rewrite.proofs.WholeLaws.{library_made}

-- ---- what a version does not change

words_versions : (rs ss : List Firm) → AreVersionsOf rs ss → own_words (objects_of rs) (slots_of rs) ≡ own_words (objects_of ss) (slots_of ss)
words_versions rs ss are =
    ap (λ (os : List Object). own_words os (slots_of rs)) (sym (objects_versions rs ss are))
    ∙ ap (own_words (objects_of ss)) (sym (slots_versions rs ss are))

-- the member in the version that it has
firm_in : (version : Version) (m r s : Firm) → m ≡ r → (v : IsVersionOf r s) → s.member.version ≡ number_of version → versioned (number_of version) m ≡ s
firm_in version m r s same v begins =
    let number : v.0 ≡ number_of version = sym (ap (λ (y : Firm). y.member.version) v.2) ∙ begins in
    ap (versioned (number_of version)) same ∙ (ap (λ (k : ℕ). versioned k r) (sym number) ∙ sym v.2)

-- files of the same member, list and words
file_same : (m s : Firm) (list listed : List ListRow) (words own : List (Option ℕ)) → m ≡ s → list ≡ listed → words ≡ own → stored (Some (file_with m list words)) ≡ stored (Some (file_with s listed own))
file_same m s list listed words own firm lists same =
    ap (λ (k : Firm). stored (Some (file_with k list words))) firm
    ∙ (ap (λ (ls : List ListRow). stored (Some (file_with s ls words))) lists ∙ ap (λ (ws : List (Option ℕ)). stored (Some (file_with s listed ws))) same)

-- ---- by the walk

-- its parts are those of the first of these members
list_in : (parts : NewLibrary) (n : Numbered) (row : ℕ) (r s : Firm) (rs ss : List Firm) → IsNew n row parts → firms_of n row ≡ r ∷ rs → AreVersionsOf (r ∷ rs) (s ∷ ss) → parts.list ≡ list_of ss
list_in parts n row r s rs ss new is zip = new.list ∙ (ap (λ (ms : List Firm). list_of (drop 1 ms)) is ∙ sym (lists_versions rs ss zip.1))

words_in : (parts : NewLibrary) (n : Numbered) (row : ℕ) (r s : Firm) (rs ss : List Firm) → IsNew n row parts → firms_of n row ≡ r ∷ rs → AreVersionsOf (r ∷ rs) (s ∷ ss) → parts.words ≡ own_words (objects_of (s ∷ ss)) (slots_of (s ∷ ss))
words_in parts n row r s rs ss new is zip = new.words ∙ (ap (λ (ms : List Firm). own_words (objects_of ms) (slots_of ms)) is ∙ words_versions (r ∷ rs) (s ∷ ss) zip)

-- the file that they prelink
file_in_version : (r s : Firm) (rs ss : List Firm) → AreVersionsOf (r ∷ rs) (s ∷ ss) → AreSources (s ∷ ss) → is_library r.object.kind ≡ true → are_set (s ∷ ss) ≡ true
    → stored (Some (file_with s (list_of ss) (own_words (objects_of (s ∷ ss)) (slots_of (s ∷ ss))))) ≡ prelinked (members (s ∷ ss))
file_in_version r s rs ss zip sources library set =
    let kind : is_library s.object.kind ≡ true = ap (λ (y : Firm). is_library y.object.kind) zip.0.2 ∙ library in
    library_made s ss sources kind set

in_version_of : (n : Numbered) (row : ℕ) (x : Taken) (parts : NewLibrary) (version : Version) (r : Firm) (rs ss : List Firm) → IsWalkRow n row → firms_of n row ≡ r ∷ rs → IsFirmAt n row r → is_library r.object.kind ≡ true → are_set (firms_of n row) ≡ true → (at : slice_get n.files.now row ≡ Some x) → (new : IsNew n row parts)
    → AreVersionsOf (firms_of n row) ss → BeginsIn version ss → storable_library x parts version ≡ prelinked (members ss)
in_version_of n row x parts version r rs [] walk is there library set at new are begins = absurd (subst (λ (ms : List Firm). AreVersionsOf ms []) is are)
in_version_of n row x parts version r rs (s ∷ ss) walk is there library set at new are begins =
    let zip : AreVersionsOf (r ∷ rs) (s ∷ ss) = subst (λ (ms : List Firm). AreVersionsOf ms (s ∷ ss)) is are in
    let made : firm_of x parts Two new.firm.object ≡ r = made_firm n row x parts at new ∙ same_Some new.firm r (sym new.at ∙ there) in
    let firm : firm_of x parts version new.firm.object ≡ s = firm_in version (firm_of x parts Two new.firm.object) r s made zip.0 begins in
    let file : stored (Some (file_with (firm_of x parts version new.firm.object) parts.list parts.words)) ≡ stored (Some (file_with s (list_of ss) (own_words (objects_of (s ∷ ss)) (slots_of (s ∷ ss))))) =
    file_same (firm_of x parts version new.firm.object) s parts.list (list_of ss) parts.words (own_words (objects_of (s ∷ ss)) (slots_of (s ∷ ss))) firm (list_in parts n row r s rs ss new is zip) (words_in parts n row r s rs ss new is zip) in
    let whole : are_set (s ∷ ss) ≡ true = set_versions (firms_of n row) (s ∷ ss) are (firms_in_two n row walk) ∙ set in
    ap (option_and_then (λ (o : Object). stored (Some (file_with (firm_of x parts version o) parts.list parts.words)))) (library_object n row x parts at new)
    ∙ (file ∙ file_in_version r s rs ss zip (sources_versions (firms_of n row) (s ∷ ss) are walk.sources) library whole)

pub library_in_version : (n : Numbered) (row : ℕ) (x : Taken) (parts : NewLibrary) (version : Version) → IsWalkRow n row → is_library_row n row ≡ true → are_set (firms_of n row) ≡ true → slice_get n.files.now row ≡ Some x → IsNew n row parts → IsFileMeant n row version (storable_library x parts version)
library_in_version n row x parts version walk library set at new = λ ss are begins.
    let first : IsFirst n row = first_is n row walk in
    in_version_of n row x parts version first.firm first.others ss walk first.is first.at (library_firm n row first.firm first.at library) set at new are begins
