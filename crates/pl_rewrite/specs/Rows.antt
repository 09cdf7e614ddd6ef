-- Rows of a folder's files with their numbers, and the members that they are.
use Rattle.std.specs.Prelude.{◌≡◌, ◌<◌, ℕ, Bool, true, false, List, [], ◌∷◌, map, length, slice_get, Option, Some, None, IfSome}
use Rattle.std.specs.List.{All, AllZip, filter_map}
use Rattle.std.specs.Option.{option_map}
use Rattle.pl_base.specs.Names.{is_valid_name}
use Rattle.pl_base.specs.Windows.{Window}
use Rattle.pl_cone.specs.Table.{AreRows, AreWalks, IsWalkScope, folder_objects, refusals_in, rows_in}
use Rattle.pl_cone.specs.Taken.{AreTaken, HasItsEntry, object_by}
use Rattle.pl_cone.specs.declared.taken.Taken.{Taken}
use Rattle.pl_conflict.specs.Format.{number_of}
use Rattle.pl_conflict.specs.Prelinked as firm
use Rattle.pl_conflict.specs.Prelinked.{Firm}
use Rattle.pl_elf.specs.Kinds.{is_library}
use Rattle.pl_elf.specs.declared.range.Range.{Range}
use Rattle.pl_form.specs.Files.{original_in}
use Rattle.pl_form.specs.declared.version.Version.{Version}
use Rattle.pl_form.specs.declared.version.Version.TheVariants.{Two}
use Rattle.pl_object.specs.declared.object.Object.{Object}
use Rattle.pl_rewrite.specs.Sources.{AreSources, IsPrelinkedIn}
use Rattle.pl_rewrite.specs.declared.numbers.Numbered.{Numbered}
use Rattle.pl_rewrite.specs.declared.numbers.PlacedWalk.{PlacedWalk}
use Rattle.pl_scope.specs.Folder.{IsFolderIndex}
use Rattle.sha2.specs.Sha256.{sha256}

-- ---- rows

abbrev pub AreInColumn : List ℕ → List ℕ → Type 0
AreInColumn column rows = All (λ r. r < length column) rows

abbrev pub AreRowsOf : List Taken → List ℕ → Type 0
AreRowsOf ts rows = All (λ r. r < length ts) rows

abbrev pub unless_none : Option ℕ → ℕ
unless_none None = 0
unless_none (Some n) = n

abbrev pub number_at : List ℕ → ℕ → ℕ
number_at column row = unless_none (slice_get column row)

abbrev pub walk_of : Numbered → ℕ → List ℕ
walk_of n row = rows_in (slice_get n.walks.now row)

abbrev pub places_of : List ℕ → List ℕ → List ℕ
places_of places rows = map (number_at places) rows

abbrev pub AreFilesRead : List Taken → Type 0
AreFilesRead ts = All HasItsEntry ts

abbrev pub IsDigestOf : Taken → Option (List ℕ) → Type 0
IsDigestOf t digest = IfSome digest (λ d. d ≡ sha256 (original_in t.bytes))

-- the SHA-256 of the original of each, of those that are asked for
abbrev pub AreDigests : List Taken → List (Option (List ℕ)) → Type 0
AreDigests ts digests = AllZip IsDigestOf ts digests

-- files that were taken, with the walk of each name, the index of what they define, a slot and a stamp for each, and the digests that are asked for
pub record IsNumbered (n : Numbered) : Type 0 where
  pub taken : (region : Range) × AreTaken region n.files.now
  pub walks : AreWalks n.files.now (record { walks = n.walks.now; causes = refusals_in n.files.now })
  pub index : IsFolderIndex (folder_objects n.files.now) n.index.now
  pub places : length n.places.now ≡ length n.files.now
  pub stamps : length n.stamps.now ≡ length n.files.now
  pub digests : AreDigests n.files.now n.digests.now

pub record IsPlacedWalk (n : Numbered) (row : ℕ) (p : PlacedWalk) : Type 0 where
  pub walk : IsWalkScope n.files.now (walk_of n row) p.walk
  pub places : p.places ≡ places_of n.places.now (walk_of n row)

-- ---- members

abbrev pub firm_by : Numbered → ℕ → Taken → Object → Firm
firm_by n row t o = record {
  member = record { name = t.name; original = original_in t.bytes; version = number_of Two; slot = number_at n.places.now row; stamp = number_at n.stamps.now row };
  object = o;
}

abbrev pub firm_in : Numbered → ℕ → Option Taken → Option Firm
firm_in n row None = None
firm_in n row (Some t) = option_map (firm_by n row t) (object_by t.entry)

-- those of a row's walk, in version 2
abbrev pub firms_of : Numbered → ℕ → List Firm
firms_of n row = filter_map (λ r. firm_in n r (slice_get n.files.now r)) (walk_of n row)

-- a row that has an object is this member
abbrev pub IsFirmAt : Numbered → ℕ → Firm → Type 0
IsFirmAt n row r = firm_in n row (slice_get n.files.now row) ≡ Some r

abbrev pub of_firm : {X : Type 0} → X → (Firm → X) → Option Firm → X
of_firm none some None = none
of_firm none some (Some r) = some r

abbrev pub firm_at : Numbered → ℕ → Option Firm
firm_at n row = firm_in n row (slice_get n.files.now row)

-- the numbers of an object by themselves
abbrev pub bare : Object → ℕ → ℕ → Firm
bare o slot stamp = record { member = record { name = []; original = []; version = number_of Two; slot = slot; stamp = stamp }; object = o }

abbrev pub numbers_fit : Object → ℕ → ℕ → Bool
numbers_fit o slot stamp = firm.has_numbers (bare o slot stamp)

abbrev pub has_numbers : Numbered → ℕ → Bool
has_numbers n row = of_firm false firm.has_numbers (firm_at n row)

abbrev pub is_named_well : Numbered → ℕ → Bool
is_named_well n row = of_firm false (λ r. is_valid_name r.member.name) (firm_at n row)

abbrev pub windows_of : Numbered → ℕ → List Window
windows_of n row = of_firm [] firm.windows_of (firm_at n row)

abbrev pub is_library_row : Numbered → ℕ → Bool
is_library_row n row = of_firm false (λ r. is_library r.object.kind) (firm_at n row)

-- the member of a row has an alignment
abbrev pub IsAligned : Numbered → ℕ → Type 0
IsAligned n row = (r : Firm) → IsFirmAt n row r → 0 < r.object.align

-- a row has a walk, of which it is the first, and the members have forms
pub record IsWalkRow (n : Numbered) (row : ℕ) : Type 0 where
  pub others : List ℕ
  pub is : walk_of n row ≡ row ∷ others
  pub rows : AreRows n.files.now (walk_of n row)
  pub sources : AreSources (firms_of n row)

-- a row of a library, which has a walk
pub record IsLibraryRow (n : Numbered) (row : ℕ) : Type 0 where
  pub numbered : IsNumbered n
  pub within : row < length n.files.now
  pub walk : IsWalkRow n row
  pub library : is_library_row n row ≡ true

-- the file that is meant of a row, in a version
abbrev pub IsFileMeant : Numbered → ℕ → Version → Option (List ℕ) → Type 0
IsFileMeant n row version file = IsPrelinkedIn (firms_of n row) version file
