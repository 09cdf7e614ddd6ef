-- Whether libraries can stand at the slots that their files bear, beside a program's file and what is busy.
use Rattle.std.specs.Prelude.{◌≡◌, ℕ, Bool, false, List, ◌++◌, map, drop, Option, Result, Ok, Err}
use Rattle.std.specs.List.{list_all}
use Rattle.pl_conflict.specs.Complete.{file_at}
use Rattle.pl_conflict.specs.Format.{Causes, format, slot_at}
use Rattle.pl_elf.specs.Headers.{header, loads, segments}
use Rattle.pl_elf.specs.Kinds.{is_library}
use Rattle.pl_elf.specs.Ranges.{range_from}
use Rattle.pl_elf.specs.declared.range.Range.{Range}
use Rattle.pl_loader.specs.Places.{kept_free, load_range, misses}
use Rattle.pl_object.specs.declared.object.Object.{Object}
use Rattle.pl_scope.specs.Walk.{Walked}
use Rattle.law_sound.specs.Rule.{Files, objects, walk_in}

-- a name is a program's
abbrev pub IsProgram : {E : Type 0} → Causes E → Files → List ℕ → Type 0
IsProgram causes folder n = (o : Object) → objects (format causes) folder n ≡ Ok o → is_library o.kind ≡ false

-- the addresses that a file loads, by its own program headers
abbrev pub loaded_by : List ℕ → List Range
loaded_by file = map load_range (loads (segments file (header file)))

-- the addresses of a library at the slot that its file bears
abbrev pub at_slot : {E : Type 0} → Causes E → Files → List ℕ × Object → Range
at_slot causes folder m = range_from (slot_at causes folder m.0) m.1.span

-- none of them is taken
abbrev pub is_clear : {E : Type 0} → Causes E → Files → List Range → List ℕ × Object → Bool
is_clear causes folder taken m = list_all (misses (at_slot causes folder m)) taken

-- so it is of each member of a walk after the first
abbrev pub are_clear : {E : Type 0} → Causes E → Files → List Range → Result Walked E → Bool
are_clear causes folder taken (Ok walked) = list_all (is_clear causes folder taken) (drop 1 walked)
are_clear causes folder taken (Err e) = false

-- no library that a program needs has, at its slot, an address that the program's file loads, or one that is busy
unfoldable pub has_free_slots : {E : Type 0} → Causes E → Files → Option Range → List ℕ → Bool
has_free_slots causes folder busy n = are_clear causes folder (loaded_by (file_at folder n) ++ kept_free busy) (walk_in (format causes) folder n)

-- what a file loads has no address of a region
abbrev pub keeps_off : Range → List ℕ → Bool
keeps_off region file = list_all (misses region) (loaded_by file)
