-- The tags of the dynamic table, in parts and as a whole.
use Rattle.std.proofs.Common.{◌≡◌, List, ◌++◌, refl, append_assoc}
use Rattle.std.specs.List.{flat_map}
use Rattle.std.proofs.lemmas.List.Concat.{flat_map-append}
use Rattle.pl_dyn.specs.declared.tags.Tag.{Tag}
use Rattle.pl_build.specs.Dynamic.{tag_bytes}

pub table_written : (needed tables relocations packed versions usual end spare : List Tag) → flat_map tag_bytes ((needed ++ (tables ++ relocations ++ packed ++ versions ++ usual ++ end)) ++ spare)
    ≡ flat_map tag_bytes needed ++ flat_map tag_bytes tables ++ flat_map tag_bytes relocations ++ flat_map tag_bytes packed ++ flat_map tag_bytes versions ++ flat_map tag_bytes usual ++ flat_map tag_bytes end ++ flat_map tag_bytes spare
table_written needed tables relocations packed versions usual end spare = simp (append_assoc, flat_map-append) refl
