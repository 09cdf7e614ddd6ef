-- Where the objects of a load are placed. Which addresses a loader chooses, the System V gABI leaves open: this project's profile.
use Rattle.std.specs.Prelude.{◌≡◌, ℕ, ◌+◌, ◌≤◌, ◌⊎◌, Bool, true, ◌||◌, nat_le, if◌then◌else◌, List, [], ◌∷◌, ◌++◌, map, length, Option, Some, None, Result, Ok}
use Rattle.std.specs.List.{All, list_all}
use Rattle.pl_base.specs.Answers.{◌>>=◌, because}
use Rattle.pl_elf.specs.Headers.{header, loads, segments}
use Rattle.pl_elf.specs.declared.constants.TheConstants.{ADDRESS_LIMIT}
use Rattle.pl_elf.specs.Ranges.{range_from}
use Rattle.pl_elf.specs.declared.range.Range.{Range}
use Rattle.pl_elf.specs.declared.segment.Segment.{Segment}
use Rattle.pl_place.specs.Left.{left}
use Rattle.pl_place.specs.Placing.{chosen, AllFree, WantsAreApart, ArePlacedInTurn, StopsAt}
use Rattle.pl_place.specs.Policy.{Answering, Choice}
use Rattle.pl_slots.specs.declared.slot.Want.{Want}
use Rattle.pl_loader.specs.Faults.{is_memory, of_place}
use Rattle.pl_loader.specs.declared.constants.TheConstants.{REGION_START, REGION_END}
use Rattle.pl_loader.specs.declared.object_file.Mark.{Mark}
use Rattle.pl_loader.specs.declared.object_file.ObjectFile.{ObjectFile}
use Rattle.pl_loader.specs.declared.fault.LoadFault.{LoadFault}
use Rattle.pl_loader.specs.declared.fault.LoadFault.TheVariants.{NoPlace}

-- the region in which libraries are placed
abbrev pub region : Range
region = record { start = REGION_START; end = REGION_END }

-- all addresses that an object may have
abbrev pub everywhere : Range
everywhere = record { start = 0; end = ADDRESS_LIMIT }

-- the addresses of a PT_LOAD, as linked
abbrev pub load_range : Segment → Range
load_range s = range_from s.vaddr s.memsz

abbrev pub segments_by : List Segment → Option Mark → List Segment
segments_by ss None = ss
segments_by ss (Some k) = segments k.file (header k.file)

-- the segments of a file, as it stands
abbrev pub segments_of : ObjectFile → List Segment
segments_of f = segments_by f.object.segments f.mark

-- the addresses that a program's file takes, as it stands
unfoldable pub program_ranges : ObjectFile → List Range
program_ranges program = map load_range (loads (segments_of program))

-- the addresses that a library wants
abbrev pub want_of : ObjectFile → Want
want_of f = record { name = f.name; span = f.object.span; align = f.object.align }

-- the addresses that are kept free besides
abbrev pub kept_free : Option Range → List Range
kept_free None = []
kept_free (Some range) = range ∷ []

-- ---- libraries with a slot of their own

abbrev pub slot_by : Option Mark → Option ℕ
slot_by None = None
slot_by (Some k) = Some k.slot

-- the slot that a library's file bears, where it is prelinked
abbrev pub slot_of : ObjectFile → Option ℕ
slot_of f = slot_by f.mark

-- the addresses of a library at a place
abbrev pub range_at : ObjectFile → ℕ → Range
range_at f place = range_from place f.object.span

-- whether two ranges have no address in common
abbrev pub misses : Range → Range → Bool
misses a b = nat_le a.end b.start || nat_le b.end a.start || nat_le b.end b.start

abbrev pub where_free : List Range → ObjectFile → Option ℕ → Option ℕ
where_free taken f None = None
where_free taken f (Some slot) = if list_all (misses (range_at f slot)) taken then Some slot else None

-- the slot of a library, where it is free of what is taken
abbrev pub slot_place : List Range → ObjectFile → Option ℕ
slot_place taken f = where_free taken f (slot_of f)

-- a library ends at its slot at or below the limit of addresses
abbrev pub Fits : ObjectFile → Option ℕ → Type 0
Fits f None = Unit {0}
Fits f (Some slot) = slot + f.object.span ≤ ADDRESS_LIMIT

abbrev pub range_at_slot : ObjectFile → Option ℕ → List Range
range_at_slot f None = []
range_at_slot f (Some slot) = range_at f slot ∷ []

-- the slots of libraries as their places, each where it is free of what is taken and of the ones before it
unfoldable pub slot_places : List Range → List ObjectFile → List (Option ℕ)
slot_places taken [] = []
slot_places taken (f ∷ fs) = slot_place taken f ∷ slot_places (taken ++ range_at_slot f (slot_place taken f)) fs

-- what libraries take at their slots
unfoldable pub ranges_at_slots : List ObjectFile → List (Option ℕ) → List Range
ranges_at_slots [] owns = []
ranges_at_slots (f ∷ fs) [] = []
ranges_at_slots (f ∷ fs) (own ∷ owns) = range_at_slot f own ++ ranges_at_slots fs owns

abbrev pub want_if : ObjectFile → Option ℕ → List Want
want_if f None = want_of f ∷ []
want_if f (Some slot) = []

-- what the others want
unfoldable pub wants_left : List ObjectFile → List (Option ℕ) → List Want
wants_left [] owns = []
wants_left (f ∷ fs) [] = []
wants_left (f ∷ fs) (own ∷ owns) = want_if f own ++ wants_left fs owns

-- the slots, and the others' places where there is none
unfoldable pub joined : List (Option ℕ) → List ℕ → List ℕ
joined [] starts = []
joined (Some slot ∷ owns) starts = slot ∷ joined owns starts
joined (None ∷ owns) [] = []
joined (None ∷ owns) (start ∷ starts) = start ∷ joined owns starts

-- ---- all places: the load address of each object. A program's is 0, and it stands first

-- what is taken before any library is placed
abbrev pub taken_first : Option Range → ObjectFile → List Range
taken_first busy program = program_ranges program ++ kept_free busy

-- the slots of the libraries beside a program
abbrev pub slot_places_beside : Option Range → ObjectFile → List ObjectFile → List (Option ℕ)
slot_places_beside busy program libraries = slot_places (taken_first busy program) libraries

-- the holes in which the others are placed
abbrev pub holes_beside : Option Range → ObjectFile → List ObjectFile → List Range
holes_beside busy program libraries = left region (taken_first busy program ++ ranges_at_slots libraries (slot_places_beside busy program libraries))

-- what the others want
abbrev pub wants_beside : Option Range → ObjectFile → List ObjectFile → List Want
wants_beside busy program libraries = wants_left libraries (slot_places_beside busy program libraries)

abbrev pub all_places : Option Range → ObjectFile → List ObjectFile → List ℕ → List ℕ
all_places busy program libraries starts = 0 ∷ joined (slot_places_beside busy program libraries) starts

-- by a policy that is a function: each other library in turn is where it says, or the first for which nothing fits
unfoldable pub places : Choice → Option Range → List ObjectFile → Result (List ℕ) LoadFault
places choose busy [] = Ok []
places choose busy (program ∷ libraries) =
    because of_place (chosen choose (holes_beside busy program libraries) (wants_beside busy program libraries))
    >>= λ starts. Ok (all_places busy program libraries starts)

-- by any policy: each other library in turn is where it answered
abbrev pub IsPlaced : Answering → Option Range → List ObjectFile → List ℕ → Type 0
IsPlaced post busy [] places = places ≡ []
IsPlaced post busy (program ∷ libraries) places =
    (starts : List ℕ) × ArePlacedInTurn post (holes_beside busy program libraries) (wants_beside busy program libraries) starts × (places ≡ all_places busy program libraries starts)

-- or it answered that nothing fits for the library of this name, where the ones before it are placed
abbrev pub IsUnplaced : Answering → Option Range → List ObjectFile → List ℕ → Type 0
IsUnplaced post busy [] name = ⊥
IsUnplaced post busy (program ∷ libraries) name = StopsAt post (holes_beside busy program libraries) (wants_beside busy program libraries) name

-- why there are no places, as the load tells it: there was no memory, or nothing fits for a library
pub record StopsOf (post : Answering) (holes : List Range) (wants : List Want) (fault : LoadFault) : Type 0 where
  pub because : (is_memory fault ≡ true) ⊎ ((name : List ℕ) × (fault ≡ NoPlace name) × StopsAt post holes wants name)

pub record StopsFiles (post : Answering) (busy : Option Range) (files : List ObjectFile) (fault : LoadFault) : Type 0 where
  pub because : (is_memory fault ≡ true) ⊎ ((name : List ℕ) × (fault ≡ NoPlace name) × IsUnplaced post busy files name)

-- ---- what places are

-- an object ends at a place at or below the limit of addresses
pub record IsAt (f : ObjectFile) (place : ℕ) : Type 0 where
  pub low : place ≤ ADDRESS_LIMIT
  pub ends : All (λ s. place + (s.vaddr + s.memsz) ≤ ADDRESS_LIMIT) (loads f.object.segments)

-- wants have one place each, in a range and in no busy one, and no address in common
pub record IsFree (within : Range) (busy : List Range) (wants : List Want) (starts : List ℕ) : Type 0 where
  pub one_each : length starts ≡ length wants
  pub free : AllFree within busy wants starts
  pub apart : WantsAreApart wants starts
