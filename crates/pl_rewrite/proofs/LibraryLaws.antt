-- What the form of a library asks of its walk.
use Rattle.std.proofs.Common.{◌≡◌, ◌%◌, ◌<◌, true, List, [], ◌∷◌, length, refl, ◌∙◌, arith}
use Rattle.std.proofs.lemmas.List.{length-map}
use Rattle.std.proofs.lemmas.List.Elements.{All-head}
use Rattle.pl_conflict.specs.Own.{own_word, own_words}
use Rattle.pl_conflict.specs.Prelinked.{Firm, has_numbers, library_file, list_of, objects_of, slots_of}
use Rattle.pl_conflict.proofs.MemberLaws.{HasOwn, library_numbers}
use Rattle.pl_form.specs.Library.{IsFirmLibrary, IsListing}
use Rattle.pl_form.proofs.AlignLaws.{align_even, slot_even}
use Rattle.pl_rewrite.specs.Forms.{HasFormWith, HasNumbers, IsLibraryWalk, file_with}
use Rattle.pl_rewrite.specs.Sources.{AreSources, firm}
use Rattle.pl_rewrite.proofs.FirmLaws.{own_all}
use Rattle.pl_rewrite.proofs.ListLaws.{listing}

pub first_library : (r : Firm) (rs : List Firm) → AreSources (r ∷ rs) → IsLibraryWalk (r ∷ rs) → IsFirmLibrary r.member.original r.object
first_library r rs are walk = record { firm = (own_all (r ∷ rs) are 0 r (omega arith)).firm; library = walk.first }

pub first_even : (r : Firm) (rs : List Firm) → AreSources (r ∷ rs) → IsLibraryWalk (r ∷ rs) → r.member.slot % 2 ≡ 0
first_even r rs are walk =
    let own : HasOwn r = own_all (r ∷ rs) are 0 r (omega arith) in
    let numbers : has_numbers r ≡ true = All-head HasNumbers r rs walk.numbers in
    slot_even r.member.slot r.object.align (align_even r.member.original r.object own.firm.accepted) (library_numbers r numbers walk.first).aligned

pub first_list : (r : Firm) (rs : List Firm) → AreSources (r ∷ rs) → IsLibraryWalk (r ∷ rs) → IsListing (list_of rs)
first_list r rs are walk = listing r rs are walk.numbers walk.names

pub words_count : (r : Firm) (rs : List Firm) → length (own_words (objects_of (r ∷ rs)) (slots_of (r ∷ rs))) ≡ length r.object.relocations
unfolding own_words
words_count r rs = length-map r.object.relocations (own_word (objects_of (r ∷ rs)) (slots_of (r ∷ rs)))

-- a library has a form with the list of the other members and its own words
pub form_with : (r : Firm) (rs : List Firm) → AreSources (r ∷ rs) → IsLibraryWalk (r ∷ rs) → HasFormWith r (list_of rs) (own_words (objects_of (r ∷ rs)) (slots_of (r ∷ rs)))
form_with r rs are walk = record { firm = first_library r rs are walk; even = first_even r rs are walk; list = first_list r rs are walk; words = words_count r rs }

-- and its file is that form
pub file_is : (r : Firm) (rs : List Firm) → file_with r (list_of rs) (own_words (objects_of (r ∷ rs)) (slots_of (r ∷ rs))) ≡ library_file (r ∷ rs)
unfolding library_file
file_is r rs = refl
