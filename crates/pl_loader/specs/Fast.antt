-- Whether a program starts from the prelinked files as they stand, and what it starts from then (Jelínek, "Prelink", on starting a prelinked program).
use Rattle.std.specs.Prelude.{ℕ, Bool, false, ◌&&◌, ◌==◌, List, [], ◌∷◌, length, map, drop, Option, Some, None, IsSome}
use Rattle.std.specs.List.{list_all, zip}
use Rattle.std.specs.Str.{bytes_eq}
use Rattle.pl_image.specs.Image.{Image}
use Rattle.pl_lists.specs.declared.conflict_row.ConflictRow.{ConflictRow}
use Rattle.pl_lists.specs.declared.list_row.ListRow.{ListRow}
use Rattle.pl_conflict.specs.Standing.{standing_image}
use Rattle.pl_loader.specs.Loading.{objects_of}
use Rattle.pl_loader.specs.declared.object_file.Mark.{Mark}
use Rattle.pl_loader.specs.declared.object_file.ObjectFile.{ObjectFile}

-- ---- a list that tells libraries

-- a row has the name of a prelinked file, its stamp and the checksum of its original
abbrev pub is_row_of : ListRow → List ℕ → Option Mark → Bool
is_row_of row name None = false
is_row_of row name (Some k) = bytes_eq row.name name && row.stamp == k.stamp && row.checksum == k.checksum

abbrev pub tells_one : ListRow × ObjectFile → Bool
tells_one both = is_row_of both.0 both.1.name both.1.mark

-- each row is that of its library
unfoldable pub are_rows_of : List ListRow → List ObjectFile → Bool
are_rows_of list libraries = list_all tells_one (zip list libraries)

-- the rows are those of libraries, each a prelinked file, in order
abbrev pub lists_libraries : List ListRow → List ObjectFile → Bool
lists_libraries list libraries = length list == length libraries && are_rows_of list libraries

-- ---- places

abbrev pub is_slot_of : Option Mark → ℕ → Bool
is_slot_of None place = false
is_slot_of (Some k) place = k.slot == place

abbrev pub is_at_slot : ObjectFile × ℕ → Bool
is_at_slot both = is_slot_of both.0.mark both.1

-- each library is a prelinked file, and placed at its slot
unfoldable pub are_at_slots : List ObjectFile → List ℕ → Bool
are_at_slots libraries places = list_all is_at_slot (zip libraries places)

-- ---- the fast path

abbrev pub is_fast_by : Option Mark → List ObjectFile → List ℕ → Bool
is_fast_by None libraries places = false
is_fast_by (Some k) libraries places = lists_libraries k.list libraries && are_at_slots libraries places

-- the program, which stands first, is a prelinked file, its list tells the libraries of its walk, and each of them is placed at its slot
unfoldable pub is_fast : List ObjectFile → List ℕ → Bool
is_fast [] places = false
is_fast (program ∷ libraries) places = is_fast_by program.mark libraries (drop 1 places)

-- ---- the image

abbrev pub stored_by : List ℕ → Option Mark → List ℕ
stored_by bytes None = bytes
stored_by bytes (Some k) = k.file

-- all of a file, as it stands
abbrev pub stored : ObjectFile → List ℕ
stored f = stored_by f.bytes f.mark

abbrev pub rows_by : Option Mark → List ConflictRow
rows_by None = []
rows_by (Some k) = k.conflicts

-- a file that is a prelinked one
abbrev pub IsMarked : ObjectFile → Type 0
IsMarked f = IsSome f.mark

-- the conflict rows of the program, which stands first
unfoldable pub conflicts_of : List ObjectFile → List ConflictRow
conflicts_of [] = []
conflicts_of (program ∷ libraries) = rows_by program.mark

-- the files' segments as they stand, with the program's conflict rows as patches, and nothing else
abbrev pub fast_image : List ObjectFile → List ℕ → Image
fast_image files places = standing_image places (map stored files) (objects_of files) (conflicts_of files)
