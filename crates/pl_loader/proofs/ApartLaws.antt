-- The objects of a load share no address, and end below the limit of addresses.
use Rattle.std.proofs.Common.{◌≡◌, ℕ, zero, suc, ◌+◌, ◌-◌, ◌<◌, ◌≤◌, true, false, not, ◌&&◌, List, [], ◌∷◌, ◌++◌, length, map, get_or, refl, sym, ap, ◌∙◌, subst, arith, zero-add, inl, inr}
use Rattle.std.specs.Prelude.{nat_le, nat_lt}
use Rattle.std.specs.List.{All, AllZip, list_any}
use Rattle.std.proofs.lemmas.Bool.{and_parts, and_from, or_parts, or_from, or_left, or_right, le-leb, lt-ltb, leb-true, ltb-true, or_cases, false_from_ne_true, false≢true}
use Rattle.std.proofs.lemmas.List.Elements.{All-head, All-tail, All-cons, All-weaker}
use Rattle.std.proofs.lemmas.List.Folds.{list_any-append}
use Rattle.pl_base.specs.Memory.{Piece, AtMostOne, lies}
use Rattle.pl_base.proofs.MemoryLaws.{within_true}
use Rattle.pl_base.proofs.TestLaws.{no_both}
use Rattle.pl_elf.specs.Headers.{loads}
use Rattle.pl_elf.specs.Clauses.{ascend_from}
use Rattle.pl_elf.specs.declared.constants.TheConstants.{ADDRESS_LIMIT}
use Rattle.pl_elf.specs.declared.range.Range.{Range}
use Rattle.pl_elf.specs.declared.segment.Segment.{Segment}
use Rattle.pl_object.specs.declared.object.Object.{Object}
use Rattle.pl_slots.specs.Holes.{is_free}
use Rattle.pl_elf.specs.Ranges.{has, range_from}
use Rattle.pl_place.specs.Placing.{want_range, MissesAll, AllFree, WantsAreApart}
use Rattle.pl_image.specs.Image.{all_pieces}
use Rattle.pl_image.specs.Loads.{loaded_piece, loaded_pieces, pieces_at, loaded_at, IsPlaced}
use Rattle.pl_image.specs.declared.loaded_object.LoadedObject.{LoadedObject}
use Rattle.pl_value.specs.Targets.{base_of}
use Rattle.pl_value.specs.Ordinary.{part_of, loaded_from, loaded_objects, ArePlaced}
use Rattle.pl_loader.specs.Loading.{objects_of, parts_of}
use Rattle.pl_loader.specs.Places.{load_range, want_of, IsAt}
use Rattle.pl_loader.specs.declared.object_file.ObjectFile.{ObjectFile}
use Rattle.pl_object.proofs.SpanLaws.{Ends}
use Rattle.pl_loader.proofs.SpanLaws.{IsSpanned}

-- ---- pieces of which no two have an address in common

abbrev Alone : List Piece → Type 0
Alone [] = Unit {0}
Alone (p ∷ ps) = ((a : ℕ) → lies a p ≡ true → list_any (lies a) ps ≡ false) × Alone ps

none_at : (a : ℕ) (ps : List Piece) (j : ℕ) (d : Piece) → j < length ps → list_any (lies a) ps ≡ false → lies a (get_or ps j d) ≡ false
none_at a [] j d lt none = absurd (omega (arith, lt))
none_at a (p ∷ ps) zero d lt none = (or_parts (lies a p) (list_any (lies a) ps) none).0
none_at a (p ∷ ps) (suc j) d lt none = none_at a ps j d (omega (arith, lt)) (or_parts (lies a p) (list_any (lies a) ps) none).1

pub alone_one : (ps : List Piece) → Alone ps → AtMostOne lies ps
alone_one [] alone i j a d lt within hit = absurd (omega (arith, within))
alone_one (p ∷ ps) alone i zero a d lt within hit = absurd (omega (arith, lt))
alone_one (p ∷ ps) alone zero (suc j) a d lt within hit = none_at a ps j d (omega (arith, within)) (alone.0 a hit)
alone_one (p ∷ ps) alone (suc i) (suc j) a d lt within hit = alone_one ps alone.1 i j a d (omega (arith, lt)) (omega (arith, within)) hit

none_of_both : (a : ℕ) (ps qs : List Piece) → list_any (lies a) ps ≡ false → list_any (lies a) qs ≡ false → list_any (lies a) (ps ++ qs) ≡ false
none_of_both a ps qs left right = list_any-append (lies a) ps qs ∙ or_from (list_any (lies a) ps) (list_any (lies a) qs) left right

alone_append : (ps qs : List Piece) → Alone ps → Alone qs → ((a : ℕ) → list_any (lies a) ps ≡ true → list_any (lies a) qs ≡ false) → Alone (ps ++ qs)
alone_append [] qs front back cross = back
alone_append (p ∷ ps) qs front back cross = (
  λ a hit. none_of_both a ps qs (front.0 a hit) (cross a (or_left (lies a p) (list_any (lies a) ps) hit)),
  alone_append ps qs front.1 back (λ a any. cross a (or_right (lies a p) (list_any (lies a) ps) any)),
)

-- ---- the pieces of one object

-- what is loaded stands from the first address on
lies_from : (place low a : ℕ) (bytes : List ℕ) (ss : List Segment) → ascend_from low ss ≡ true → list_any (lies a) (loaded_pieces place bytes ss) ≡ true → place + low ≤ a
lies_from place low a bytes [] ascend any = absurd (false≢true any)
lies_from place low a bytes (s ∷ ss) ascend any =
    let parts = and_parts (nat_le low s.vaddr) (ascend_from (s.vaddr + s.memsz) ss) ascend in
    let from = leb-true low s.vaddr parts.0 in
    elim (or_cases (lies a (loaded_piece place bytes s)) (list_any (lies a) (loaded_pieces place bytes ss)) any) [
      | inl here ↦ omega (arith, from, (within_true (place + s.vaddr) s.memsz a here).0)
      | inr later ↦ omega (arith, from, lies_from place (s.vaddr + s.memsz) a bytes ss parts.1 later)
    ]

-- and below an address at or below which all segments end
lies_below : (place most a : ℕ) (bytes : List ℕ) (ss : List Segment) → All (Ends most) ss → list_any (lies a) (loaded_pieces place bytes ss) ≡ true → a < place + most
lies_below place most a bytes [] ends any = absurd (false≢true any)
lies_below place most a bytes (s ∷ ss) ends any =
    elim (or_cases (lies a (loaded_piece place bytes s)) (list_any (lies a) (loaded_pieces place bytes ss)) any) [
      | inl here ↦ omega (arith, All-head (Ends most) s ss ends, (within_true (place + s.vaddr) s.memsz a here).1)
      | inr later ↦ lies_below place most a bytes ss (All-tail (Ends most) s ss ends) later
    ]

alone_own : (place low : ℕ) (bytes : List ℕ) (ss : List Segment) → ascend_from low ss ≡ true → Alone (loaded_pieces place bytes ss)
alone_own place low bytes [] ascend = tt
alone_own place low bytes (s ∷ ss) ascend =
    let parts = and_parts (nat_le low s.vaddr) (ascend_from (s.vaddr + s.memsz) ss) ascend in (
      λ a hit. false_from_ne_true (list_any (lies a) (loaded_pieces place bytes ss)) (λ any.
          omega (arith, (within_true (place + s.vaddr) s.memsz a hit).1, lies_from place (s.vaddr + s.memsz) a bytes ss parts.1 any)),
      alone_own place (s.vaddr + s.memsz) bytes ss parts.1,
    )

-- ---- the pieces of all objects

-- files as loaded at places
abbrev pub loaded_each : List ObjectFile → List ℕ → List LoadedObject
loaded_each [] places = []
loaded_each (f ∷ fs) [] = []
loaded_each (f ∷ fs) (place ∷ places) = loaded_at place f.bytes f.object ∷ loaded_each fs places

abbrev pieces_of : List ObjectFile → List ℕ → List Piece
pieces_of fs places = all_pieces (loaded_each fs places)

abbrev pub IsSpannedFile : ObjectFile → Type 0
IsSpannedFile f = IsSpanned f.object

-- a library's pieces lie in the addresses that it wants
in_want : (f : ObjectFile) (place a : ℕ) → IsSpannedFile f → list_any (lies a) (pieces_at place f.bytes f.object) ≡ true → has a (want_range (want_of f) place) ≡ true
in_want f place a spanned any =
    let from : place + 0 ≤ a = lies_from place 0 a f.bytes (loads f.object.segments) spanned.are.ascend any in
    let below = lies_below place f.object.span a f.bytes (loads f.object.segments) spanned.span any in
    and_from (nat_le place a) (nat_lt a (place + f.object.span)) (le-leb place a (omega arith)) (lt-ltb a (place + f.object.span) below)

-- libraries miss a range that their wants miss
pieces_miss : (range : Range) (fs : List ObjectFile) (places : List ℕ) (a : ℕ) → All IsSpannedFile fs → MissesAll range (map want_of fs) places → has a range ≡ true → list_any (lies a) (pieces_of fs places) ≡ false
pieces_miss range [] places a all misses within = refl
pieces_miss range (f ∷ fs) [] a all misses within = refl
pieces_miss range (f ∷ fs) (place ∷ places) a all misses within =
    none_of_both a (pieces_at place f.bytes f.object) (pieces_of fs places)
    (false_from_ne_true (list_any (lies a) (pieces_at place f.bytes f.object)) (λ any.
    false≢true (sym (misses.0 a within) ∙ in_want f place a (All-head IsSpannedFile f fs all) any)))
    (pieces_miss range fs places a (All-tail IsSpannedFile f fs all) misses.1 within)

-- and busy ranges beside which they are placed
pieces_free : (region : Range) (busy : List Range) (fs : List ObjectFile) (places : List ℕ) (a : ℕ) → All IsSpannedFile fs → AllFree region busy (map want_of fs) places → is_free a busy ≡ true → list_any (lies a) (pieces_of fs places) ≡ false
pieces_free region busy [] places a all free hit = refl
pieces_free region busy (f ∷ fs) [] a all free hit = refl
pieces_free region busy (f ∷ fs) (place ∷ places) a all free hit =
    none_of_both a (pieces_at place f.bytes f.object) (pieces_of fs places)
    (false_from_ne_true (list_any (lies a) (pieces_at place f.bytes f.object)) (λ any.
    no_both (has a region) (is_free a busy) (free.0 a (in_want f place a (All-head IsSpannedFile f fs all) any)) hit))
    (pieces_free region busy fs places a (All-tail IsSpannedFile f fs all) free.1 hit)

alone_libraries : (fs : List ObjectFile) (places : List ℕ) → All IsSpannedFile fs → WantsAreApart (map want_of fs) places → Alone (pieces_of fs places)
alone_libraries [] places all apart = tt
alone_libraries (f ∷ fs) [] all apart = tt
alone_libraries (f ∷ fs) (place ∷ places) all apart =
    let spanned = All-head IsSpannedFile f fs all in
    let rest = All-tail IsSpannedFile f fs all in
    alone_append (pieces_at place f.bytes f.object) (pieces_of fs places)
    (alone_own place 0 f.bytes (loads f.object.segments) spanned.are.ascend)
    (alone_libraries fs places rest apart.1)
    (λ a any. pieces_miss (want_range (want_of f) place) fs places a rest apart.0 (in_want f place a spanned any))

-- the program's pieces are at the addresses that its original takes
abbrev pub linked_at : ObjectFile → List Range
linked_at f = map load_range (loads f.object.segments)

taken_is : (a : ℕ) (bytes : List ℕ) (ss : List Segment) → is_free a (map load_range ss) ≡ list_any (lies a) (loaded_pieces 0 bytes ss)
taken_is a bytes [] = refl
taken_is a bytes (s ∷ ss) =
    let zero : 0 + s.vaddr ≡ s.vaddr = zero-add s.vaddr in
    rw (zero, taken_is a bytes ss) refl

pub alone_all : (region : Range) (program : ObjectFile) (fs : List ObjectFile) (places : List ℕ) → IsSpannedFile program → All IsSpannedFile fs → AllFree region (linked_at program) (map want_of fs) places → WantsAreApart (map want_of fs) places
    → Alone (pieces_of (program ∷ fs) (0 ∷ places))
alone_all region program fs places spanned all free apart =
    alone_append (pieces_at 0 program.bytes program.object) (pieces_of fs places)
    (alone_own 0 0 program.bytes (loads program.object.segments) spanned.are.ascend)
    (alone_libraries fs places all apart)
    (λ a any. pieces_free region (linked_at program) fs places a all free (taken_is a program.bytes (loads program.object.segments) ∙ any))

-- ---- where objects end

program_at : (f : ObjectFile) → IsSpannedFile f → IsAt f 0
program_at f spanned = record {
  low = omega arith;
  ends = All-weaker (Ends ADDRESS_LIMIT) (λ s. 0 + (s.vaddr + s.memsz) ≤ ADDRESS_LIMIT) (λ s le. omega (arith, le)) (loads f.object.segments) spanned.below;
}

-- the last address of a want is in the region
ends_in : (region : Range) (busy : List Range) (start span : ℕ) → 0 < span
    → ((address : ℕ) → has address (range_from start span) ≡ true → (has address region && not (is_free address busy)) ≡ true) → start + span ≤ region.end
ends_in region busy start span some free =
    let last : ℕ = start + span - 1 in
    let within : has last (range_from start span) ≡ true = and_from (nat_le start last) (nat_lt last (start + span)) (le-leb start last (omega arith)) (lt-ltb last (start + span) (omega arith)) in
    let parts = and_parts (has last region) (not (is_free last busy)) (free last within) in
    let below = ltb-true last region.end (and_parts (nat_le region.start last) (nat_lt last region.end) parts.0).1 in
    omega (arith, below, some)

abbrev pub HasSpan : ObjectFile → Type 0
HasSpan f = 0 < f.object.span

pub libraries_at : (region : Range) (busy : List Range) (fs : List ObjectFile) (places : List ℕ) → region.end ≤ ADDRESS_LIMIT → length fs ≡ length places → All IsSpannedFile fs → All HasSpan fs → AllFree region busy (map want_of fs) places → AllZip IsAt fs places
libraries_at region busy [] [] limit size all some free = tt
libraries_at region busy [] (place ∷ places) limit size all some free = absurd (omega (arith, size))
libraries_at region busy (f ∷ fs) [] limit size all some free = absurd (omega (arith, size))
libraries_at region busy (f ∷ fs) (place ∷ places) limit size all some free =
    let spanned = All-head IsSpannedFile f fs all in
    let end : place + f.object.span ≤ region.end = ends_in region busy place f.object.span (All-head HasSpan f fs some) free.0 in
    let here : IsAt f place = record {
      low = omega (arith, end, limit);
      ends = All-weaker (Ends f.object.span) (λ s. place + (s.vaddr + s.memsz) ≤ ADDRESS_LIMIT) (λ s le. omega (arith, le, end, limit)) (loads f.object.segments) spanned.span;
    } in
    (here, libraries_at region busy fs places limit (omega (arith, size)) (All-tail IsSpannedFile f fs all) (All-tail HasSpan f fs some) free.1)

pub all_at : (region : Range) (busy : List Range) (program : ObjectFile) (fs : List ObjectFile) (places : List ℕ) → region.end ≤ ADDRESS_LIMIT → length fs ≡ length places → IsSpannedFile program → All IsSpannedFile fs → All HasSpan fs
    → AllFree region busy (map want_of fs) places → AllZip IsAt (program ∷ fs) (0 ∷ places)
all_at region busy program fs places limit size spanned all some free = (program_at program spanned, libraries_at region busy fs places limit size all some free)

-- ---- as linking asks it

-- what is loaded from a member on, by the members' indexes
loaded_is : (fs : List ObjectFile) (places ps : List ℕ) (qs : List (List ℕ)) (member : ℕ) → length fs ≡ length places → ((i : ℕ) → i < length fs → base_of ps (member + i) ≡ get_or places i 0) → ((i : ℕ) → i < length fs → part_of qs (member + i) ≡ get_or (parts_of fs) i [])
    → loaded_from ps qs member (objects_of fs) ≡ loaded_each fs places
unfolding loaded_from
loaded_is [] places ps qs member size bases parts = refl
loaded_is (f ∷ fs) [] ps qs member size bases parts = absurd (omega (arith, size))
loaded_is (f ∷ fs) (place ∷ places) ps qs member size bases parts =
    let start : member + 0 ≡ member = omega arith in
    let base : base_of ps member ≡ place = ap (base_of ps) (sym start) ∙ bases 0 (omega arith) in
    let part : part_of qs member ≡ f.bytes = ap (part_of qs) (sym start) ∙ parts 0 (omega arith) in
    let rest = loaded_is fs places ps qs (member + 1) (omega (arith, size))
    (λ i lt. let next : member + 1 + i ≡ member + (i + 1) = omega arith in ap (base_of ps) next ∙ bases (i + 1) (omega (arith, lt)) ∙ next_at i places)
    (λ i lt. let next : member + 1 + i ≡ member + (i + 1) = omega arith in ap (part_of qs) next ∙ parts (i + 1) (omega (arith, lt)) ∙ next_part i (parts_of fs)) in
    rw (base, part, rest) refl
  where
    next_at : (i : ℕ) (xs : List ℕ) → get_or (place ∷ xs) (i + 1) 0 ≡ get_or xs i 0
    next_at i xs = let s : i + 1 ≡ suc i = omega arith in rw s refl

    next_part : (i : ℕ) (xs : List (List ℕ)) → get_or (f.bytes ∷ xs) (i + 1) [] ≡ get_or xs i []
    next_part i xs = let s : i + 1 ≡ suc i = omega arith in rw s refl

from_zero : (n : ℕ) → 0 + n ≡ n
from_zero n = zero-add n

pub loaded_all : (fs : List ObjectFile) (places : List ℕ) → length fs ≡ length places → loaded_objects places (parts_of fs) (objects_of fs) ≡ loaded_each fs places
loaded_all fs places size =
    loaded_is fs places places (parts_of fs) 0 size (λ i lt. ap (base_of places) (from_zero i)) (λ i lt. ap (part_of (parts_of fs)) (from_zero i))

placed_by : (fs : List ObjectFile) (places : List ℕ) → AllZip IsAt fs places → All IsSpannedFile fs → (member : ℕ) (d : Object) → member < length (objects_of fs) → IsPlaced (base_of places member) (get_or (objects_of fs) member d)
placed_by [] [] at all member d lt = absurd (omega (arith, lt))
placed_by [] (place ∷ places) at all member d lt = absurd at
placed_by (f ∷ fs) [] at all member d lt = absurd at
placed_by (f ∷ fs) (place ∷ places) at all zero d lt = record { accepted = (All-head IsSpannedFile f fs all).are; ends = at.0.ends }
placed_by (f ∷ fs) (place ∷ places) at all (suc member) d lt = placed_by fs places at.1 (All-tail IsSpannedFile f fs all) member d (omega (arith, lt))

pub are_placed : (region : Range) (program : ObjectFile) (fs : List ObjectFile) (places : List ℕ) → length fs ≡ length places → AllZip IsAt (program ∷ fs) (0 ∷ places) → IsSpannedFile program → All IsSpannedFile fs
    → AllFree region (linked_at program) (map want_of fs) places → WantsAreApart (map want_of fs) places → ArePlaced (0 ∷ places) (parts_of (program ∷ fs)) (objects_of (program ∷ fs))
are_placed region program fs places size at spanned all free apart =
    let same : loaded_objects (0 ∷ places) (parts_of (program ∷ fs)) (objects_of (program ∷ fs)) ≡ loaded_each (program ∷ fs) (0 ∷ places) = loaded_all (program ∷ fs) (0 ∷ places) (omega (arith, size)) in
    record {
      placed = placed_by (program ∷ fs) (0 ∷ places) at (All-cons IsSpannedFile program fs spanned all);
      apart = subst (λ (os : List LoadedObject). AtMostOne lies (all_pieces os)) (sym same) (alone_one (pieces_of (program ∷ fs) (0 ∷ places)) (alone_all region program fs places spanned all free apart));
    }

-- no objects
none_placed : ArePlaced [] [] []
unfolding loaded_from
none_placed = record { placed = λ member d lt. absurd (omega (arith, lt)); apart = alone_one [] tt }

pub nothing_placed : (fs : List ObjectFile) (places : List ℕ) → length fs < 1 → places ≡ [] → ArePlaced places (parts_of fs) (objects_of fs)
nothing_placed [] places lt is = rw is none_placed
nothing_placed (f ∷ fs) places lt is = absurd (omega (arith, lt))
