-- Prelinked files as they are loaded where they stand (System V gABI chapter 5, "Program Loading"; Jelínek, "Prelink", on starting a prelinked program).
use Rattle.std.specs.Prelude.{ℕ, ◌+◌, List, [], ◌∷◌}
use Rattle.pl_elf.specs.Headers.{header, segments}
use Rattle.pl_image.specs.Image.{Image}
use Rattle.pl_image.specs.Loads.{mask_at}
use Rattle.pl_image.specs.declared.loaded_object.LoadedObject.{LoadedObject}
use Rattle.pl_lists.specs.declared.conflict_row.ConflictRow.{ConflictRow}
use Rattle.pl_object.specs.declared.object.Object.{Object}
use Rattle.pl_form.specs.Loads.{pieces_of}
use Rattle.pl_value.specs.Ordinary.{part_of}
use Rattle.pl_value.specs.Targets.{base_of}
use Rattle.pl_conflict.specs.Fast.{patches}

-- what the segments of a member's file load, by its own program headers, at the addresses of the PT_LOADs of its original alone; the link tables are the original's
abbrev pub standing_at : ℕ → List ℕ → Object → LoadedObject
standing_at place file o = record { pieces = pieces_of place file o.segments (segments file (header file)); mask = mask_at place o }

-- the members from one on
unfoldable pub standing_from : List ℕ → List (List ℕ) → ℕ → List Object → List LoadedObject
standing_from places files member [] = []
standing_from places files member (o ∷ os) = standing_at (base_of places member) (part_of files member) o ∷ standing_from places files (member + 1) os

-- all members of a scope, with the objects of their originals
abbrev pub standing : List ℕ → List (List ℕ) → List Object → List LoadedObject
standing places files objects = standing_from places files 0 objects

-- the image of the fast path: the files' segments as they stand, with the program's conflict rows as patches in their order, and nothing else
abbrev pub standing_image : List ℕ → List (List ℕ) → List Object → List ConflictRow → Image
standing_image places files objects rows = record { objects = standing places files objects; patches = patches rows }
