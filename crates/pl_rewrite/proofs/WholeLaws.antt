-- The prelinked file by what members are.
use Rattle.std.proofs.Common.{◌≡◌, ◌<◌, ℕ, Bool, true, false, List, [], ◌∷◌, Some, None, refl, sym, ap, subst, ◌∙◌}
use Rattle.std.specs.List.{All, list_all}
use Rattle.std.proofs.lemmas.Bool.{and_from}
use Rattle.pl_conflict.specs.Own.{own_words}
use Rattle.pl_conflict.specs.Prelinked as prelinked
use Rattle.pl_conflict.specs.Prelinked.{Firm, are_set, file_of, has_numbers, library_file, list_of, objects_of, of_firm, program_file, slots_of, stored}
use Rattle.pl_conflict.proofs.MemberLaws.{IsSet, set_is}
use Rattle.pl_elf.specs.Kinds.{is_library}
use Rattle.pl_form.specs.Back.{when}
use Rattle.pl_rewrite.specs.Forms.{HasFormWith, HasNumbers, IsLibraryWalk, file_with}
use Rattle.pl_rewrite.specs.Fills.{IsProgramSet}
use Rattle.pl_rewrite.specs.Sources.{AreSources, members}
use Rattle.pl_rewrite.proofs.FirmLaws.{firm_all, true_all}
use Rattle.pl_rewrite.proofs.LibraryLaws.{file_is, form_with}
use Rattle.pl_rewrite.proofs.ListLaws.{valid_of}

whole : (rs : List Firm) → AreSources rs → prelinked.prelinked (members rs) ≡ when (are_set rs) (stored (file_of rs))
unfolding prelinked.prelinked
whole rs are = ap of_firm (firm_all rs are)

pub prelinked_set : (rs : List Firm) → AreSources rs → are_set rs ≡ true → stored (file_of rs) ≡ prelinked.prelinked (members rs)
prelinked_set rs are set = sym (whole rs are ∙ ap (λ (b : Bool). when b (stored (file_of rs))) set)

pub prelinked_none : (rs : List Firm) → AreSources rs → are_set rs ≡ false → None ≡ prelinked.prelinked (members rs)
prelinked_none rs are set = sym (whole rs are ∙ ap (λ (b : Bool). when b (stored (file_of rs))) set)

-- ---- the file by the kind of the first

library_first : (r : Firm) (rs : List Firm) → AreSources (r ∷ rs) → IsSet r rs → is_library r.object.kind ≡ true → IsLibraryWalk (r ∷ rs)
library_first r rs are set library =
    let numbers : All HasNumbers (r ∷ rs) = true_all has_numbers (r ∷ rs) (and_from (has_numbers r) (list_all has_numbers rs) set.first set.numbers) in
    record { first = library; numbers = numbers; names = valid_of r rs are numbers set.list }

pub whole_program : (all : List Firm) (r : Firm) (rs : List Firm) → all ≡ r ∷ rs → are_set all ≡ true → is_library r.object.kind ≡ false → IsProgramSet all
whole_program all r rs is set program =
    let whole : IsProgramSet (r ∷ rs) = record { first = program; set = subst (λ (xs : List Firm). are_set xs ≡ true) is set } in
    subst IsProgramSet (sym is) whole

first_library : (r : Firm) (rs : List Firm) → is_library r.object.kind ≡ true → stored (Some (library_file (r ∷ rs))) ≡ stored (file_of (r ∷ rs))
first_library r rs library = rw library refl

first_program : (r : Firm) (rs : List Firm) → is_library r.object.kind ≡ false → stored (program_file (r ∷ rs)) ≡ stored (file_of (r ∷ rs))
first_program r rs program = rw program refl

pub file_library : (all : List Firm) (r : Firm) (rs : List Firm) → all ≡ r ∷ rs → is_library r.object.kind ≡ true → stored (Some (library_file all)) ≡ stored (file_of all)
file_library all r rs is library = subst (λ (xs : List Firm). stored (Some (library_file xs)) ≡ stored (file_of xs)) (sym is) (first_library r rs library)

pub file_program : (all : List Firm) (r : Firm) (rs : List Firm) → all ≡ r ∷ rs → is_library r.object.kind ≡ false → stored (program_file all) ≡ stored (file_of all)
file_program all r rs is program = subst (λ (xs : List Firm). stored (program_file xs) ≡ stored (file_of xs)) (sym is) (first_program r rs program)

-- ---- a library by itself, with the list of the other members and its own words

pub library_made : (r : Firm) (rs : List Firm) → AreSources (r ∷ rs) → is_library r.object.kind ≡ true → are_set (r ∷ rs) ≡ true
    → stored (Some (file_with r (list_of rs) (own_words (objects_of (r ∷ rs)) (slots_of (r ∷ rs))))) ≡ prelinked.prelinked (members (r ∷ rs))
library_made r rs are library set = ap (λ (file : List ℕ). stored (Some file)) (file_is r rs) ∙ first_library r rs library ∙ prelinked_set (r ∷ rs) are set

pub library_has_form : (r : Firm) (rs : List Firm) → AreSources (r ∷ rs) → is_library r.object.kind ≡ true → are_set (r ∷ rs) ≡ true → HasFormWith r (list_of rs) (own_words (objects_of (r ∷ rs)) (slots_of (r ∷ rs)))
library_has_form r rs are library set = form_with r rs are (library_first r rs are (set_is r rs set) library)
