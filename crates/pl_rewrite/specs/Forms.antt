-- The walk of a library, whose numbers and names are such as they may be, and the library's form.
use Rattle.std.specs.Prelude.{◌≡◌, ℕ, ◌%◌, Bool, true, List, [], ◌∷◌, drop, length, Option}
use Rattle.std.specs.List.{All, list_all}
use Rattle.pl_base.specs.Names.{is_valid_name}
use Rattle.pl_conflict.specs.Prelinked.{Firm, has_numbers, version_of}
use Rattle.pl_elf.specs.Kinds.{is_library}
use Rattle.pl_form.specs.Library.{IsFirmLibrary, IsListing, library_form}
use Rattle.pl_lists.specs.declared.list_row.ListRow.{ListRow}

abbrev pub has_valid_name : Firm → Bool
has_valid_name r = is_valid_name r.member.name

abbrev pub HasNumbers : Firm → Type 0
HasNumbers r = has_numbers r ≡ true

abbrev pub BeginsWithLibrary : List Firm → Type 0
BeginsWithLibrary [] = Unit {0}
BeginsWithLibrary (r ∷ rs) = is_library r.object.kind ≡ true

pub record IsLibraryWalk (rs : List Firm) : Type 0 where
  pub first : BeginsWithLibrary rs
  pub numbers : All HasNumbers rs
  pub names : list_all has_valid_name (drop 1 rs) ≡ true

-- with this list, and these words at its places
abbrev pub file_with : Firm → List ListRow → List (Option ℕ) → List ℕ
file_with r list words = library_form r.member.original r.member.slot r.member.stamp list words (version_of r.member.version)

-- it has a form with them
pub record HasFormWith (r : Firm) (rows : List ListRow) (own : List (Option ℕ)) : Type 0 where
  pub firm : IsFirmLibrary r.member.original r.object
  pub even : r.member.slot % 2 ≡ 0
  pub list : IsListing rows
  pub words : length own ≡ length r.object.relocations
