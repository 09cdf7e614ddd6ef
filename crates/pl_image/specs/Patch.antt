-- The bytes of a patch.
use Rattle.std.specs.Prelude.{ℕ, List}
use Rattle.pl_image.specs.declared.patch.PatchBytes.{PatchBytes}
use Rattle.pl_image.specs.declared.patch.PatchBytes.TheVariants.{Word, Own}

-- they stand in the patch itself, or in memory of their own
abbrev pub bytes_at : PatchBytes → List ℕ
bytes_at (Word bytes) = bytes
bytes_at (Own bytes) = bytes.items
