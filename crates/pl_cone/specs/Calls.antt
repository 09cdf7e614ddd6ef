-- Whether one name may be prelinked, and what a run at given slots rewrites.
use Rattle.std.specs.Prelude.{◌≡◌, ◌<◌, ℕ, Bool, true, List, map, find, length, slice_get, Option, Some, None, Result, Ok, Err, ◌==◌, if◌then◌else◌}
use Rattle.std.specs.Str.{bytes_eq}
use Rattle.pl_base.specs.Answers.{◌>>=◌}
use Rattle.pl_elf.specs.declared.range.Range.{Range}
use Rattle.pl_cone.specs.Plans as plans
use Rattle.pl_cone.specs.Taken.{files_in, names_of}
use Rattle.pl_cone.specs.declared.calls.Cone.{Cone}
use Rattle.pl_cone.specs.declared.skip.ConeFault.{ConeFault}
use Rattle.pl_cone.specs.declared.skip.Skip.{Skip}
use Rattle.pl_cone.specs.declared.table.RunTable.{RunTable}
use Rattle.pl_cone.specs.declared.taken.Taken.{Taken}
use Rattle.pl_slots.specs.declared.slot.Slot.{Slot}

abbrev pub is_named : List ℕ → Taken → Bool
is_named n t = bytes_eq t.name n

-- ---- one name

-- the row of a name's file; none where the name has no file
abbrev pub IsRowOf : List Taken → List ℕ → Option ℕ → Type 0
IsRowOf ts n None = find (is_named n) ts ≡ None
IsRowOf ts n (Some row) = (t : Taken) × (slice_get ts row ≡ Some t) × (is_named n t ≡ true)

abbrev pub IsRowNumber : RunTable → ℕ → Type 0
IsRowNumber t row = row < length t.causes

abbrev pub caused : Option (Option Skip) → Result (Unit {0}) Skip
caused None = Ok tt
caused (Some None) = Ok tt
caused (Some (Some skip)) = Err skip

abbrev pub caused_at : RunTable → ℕ → Result (Unit {0}) Skip
caused_at t row = caused (slice_get t.causes row)

-- ---- a run at given slots

abbrev pub place_of : List Slot → Taken → ℕ
place_of slots t = plans.slot_of slots t.name

abbrev pub places_of : List Slot → List Taken → List ℕ
places_of slots ts = map (place_of slots) ts

abbrev pub stale_of : Range → RunTable → List Slot → List (List ℕ)
stale_of region t slots = plans.stale (files_in t.files.now) region slots (names_of t.files.now)

abbrev pub stamp_of : RunTable → List (List ℕ) → ℕ → ℕ → Result ℕ ConeFault
stamp_of t stale last now = if length stale == 0 then Ok last else plans.stamp_after (plans.greatest (files_in t.files.now) last (names_of t.files.now)) now

-- the stale names with the run's stamp, or with the last one where no name is stale
abbrev pub cone : Range → RunTable → List Slot → ℕ → ℕ → Result Cone ConeFault
cone region t slots last now = stamp_of t (stale_of region t slots) last now >>= λ stamp. Ok (record { stale = stale_of region t slots; stamp = stamp })
