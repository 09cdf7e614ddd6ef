-- Prelinked files that are loaded where they stand have the addresses of their originals.
use Rattle.std.proofs.Common.{◌≡◌, ℕ, suc, ◌+◌, ◌<◌, ◌≤◌, Bool, true, false, List, [], ◌∷◌, ◌++◌, length, map, min, get_or, take, drop, Option, Some, None, refl, sym, ap, subst, ◌∙◌, zero-add, append_assoc, append-nil, arith, inl, inr}
use Rattle.std.specs.Prelude.{IsSome, if◌then◌else◌}
use Rattle.std.specs.List.{All, AllZip, zip, list_all}
use Rattle.std.proofs.lemmas.Bool.{cases_Bool, cases_lt, and_parts, false≢true}
use Rattle.std.proofs.lemmas.List.{map-append, map_push, take_more, take_all, drop_more, drop_all, length-map, get_or-map, get_or_default}
use Rattle.std.proofs.lemmas.List.Elements.{All-nil, All-head, All-tail, All-cons}
use Rattle.std.proofs.lemmas.Slice.Zip.{length-zip, get_or-zip}
use Rattle.pl_base.specs.Memory.{Piece, AtMostOne, lies}
use Rattle.pl_elf.specs.declared.constants.TheConstants.{ADDRESS_LIMIT, HEADER_SIZE}
use Rattle.pl_elf.specs.Ranges.{has}
use Rattle.pl_elf.specs.Headers.{HasSegments, header, is_load, loads, segments}
use Rattle.pl_elf.specs.declared.segment.Segment.{Segment}
use Rattle.pl_elf.specs.declared.range.Range.{Range}
use Rattle.pl_form.specs.Files.{IsBorne}
use Rattle.pl_image.specs.Image.{all_pieces, extent_of, extents_of, ascends}
use Rattle.pl_image.specs.Loads.{loaded_piece, loaded_pieces, mask_at, IsPlaced}
use Rattle.pl_image.specs.declared.mask.Mask.{Mask}
use Rattle.pl_image.specs.declared.loaded_object.LoadedObject.{LoadedObject}
use Rattle.pl_form.specs.Loads.{pieces_of, stands}
use Rattle.pl_value.specs.Ordinary.{part_of, loaded_objects, ArePlaced}
use Rattle.pl_value.specs.Targets.{base_of}
use Rattle.pl_conflict.specs.Standing.{standing_at, standing_from, standing}
use Rattle.pl_loader.specs.Fast.{stored_by, stored, is_slot_of, is_at_slot, are_at_slots, is_fast, is_fast_by, lists_libraries, IsMarked}
use Rattle.pl_loader.specs.Loading.{objects_of, parts_of, IsRead, AreFiles}
use Rattle.pl_loader.specs.declared.object_file.Mark.{Mark}
use Rattle.pl_loader.specs.declared.object_file.ObjectFile.{ObjectFile}
use Rattle.pl_loader.proofs.ApartLaws.{loaded_each, loaded_all}
use Rattle.pl_loader.proofs.FormLaws.{is_form, has_header}

-- ---- one file

marked_is : (m : Option Mark) → IsSome m → (k : Mark) × (m ≡ Some k)
marked_is None some = absurd (false≢true some)
marked_is (Some k) some = (k, refl)

stored_is : (f : ObjectFile) (k : Mark) → f.mark ≡ Some k → stored f ≡ k.file
stored_is f k is = ap (stored_by f.bytes) is

-- a prelinked file has its header, and the program header table
pub stored_header : (f : ObjectFile) → IsRead f → IsMarked f → HEADER_SIZE ≤ length (stored f)
stored_header f read marked =
    let k = marked_is f.mark marked in
    subst (λ (bytes : List ℕ). HEADER_SIZE ≤ length bytes) (sym (stored_is f k.0 k.1)) (has_header f k.0 read k.1)

pub stored_segments : (f : ObjectFile) → IsRead f → IsMarked f → HasSegments (stored f) (header (stored f))
stored_segments f read marked =
    let k = marked_is f.mark marked in
    subst (λ (bytes : List ℕ). HasSegments bytes (header bytes)) (sym (stored_is f k.0 k.1)) (is_form f k.0 read k.1).bears.table

as_many : (slot : ℕ) (ss bs : List Segment) → AllZip (IsBorne slot) ss bs → length ss ≡ length bs
as_many slot [] [] all = refl
as_many slot [] (b ∷ bs) all = absurd all
as_many slot (s ∷ ss) [] all = absurd all
as_many slot (s ∷ ss) (b ∷ bs) all = ap suc (as_many slot ss bs all.1)

-- as many segments are borne, one for each
pub stored_many : (f : ObjectFile) → IsRead f → IsMarked f → length f.object.segments ≡ length (segments (stored f) (header (stored f)))
stored_many f read marked =
    let k = marked_is f.mark marked in
    subst (λ (bytes : List ℕ). length f.object.segments ≡ length (segments bytes (header bytes))) (sym (stored_is f k.0 k.1))
    (as_many k.0.slot f.object.segments (segments k.0.file (header k.0.file)) (is_form f k.0 read k.1).bears.each)

-- ---- the pieces of one file

-- a PT_LOAD ends at a place at or below the limit
abbrev Low : ℕ → Segment → Type 0
Low place s = place + (s.vaddr + s.memsz) ≤ ADDRESS_LIMIT

abbrev LowIf : ℕ → Segment → Type 0
LowIf place s = is_load s ≡ true → place + (s.vaddr + s.memsz) ≤ ADDRESS_LIMIT

pub low_if : (place : ℕ) (ss : List Segment) → All (Low place) (loads ss) → All (LowIf place) ss
low_if place [] all = All-nil (LowIf place)
low_if place (s ∷ ss) all = elim (cases_Bool (is_load s)) [
  | inl hit ↦
      let these : All (Low place) (s ∷ loads ss) = rw hit at all in
      All-cons (LowIf place) s ss (λ load. All-head (Low place) s (loads ss) these) (low_if place ss (All-tail (Low place) s (loads ss) these))
  | inr miss ↦
      let these : All (Low place) (loads ss) = rw miss at all in
      All-cons (LowIf place) s ss (λ load. absurd (false≢true (sym miss ∙ load))) (low_if place ss these)
]

-- one segment more
pub pieces_more : (place : ℕ) (bytes : List ℕ) (ss bs : List Segment) (n : ℕ) (s b : Segment) (front after whole : List Piece) → n < length ss → n < length bs → s ≡ get_or ss n s → b ≡ get_or bs n b
    → after ≡ front ++ (if is_load s then stands place bytes s b ∷ [] else []) → front ++ pieces_of place bytes (drop n ss) (drop n bs) ≡ whole → after ++ pieces_of place bytes (drop (n + 1) ss) (drop (n + 1) bs) ≡ whole
unfolding pieces_of
pieces_more place bytes ss bs n s b front after whole lt_ss lt_bs segment header more so_far =
    let rest : List Piece = pieces_of place bytes (drop (n + 1) ss) (drop (n + 1) bs) in
    let ss_is : drop n ss ≡ s ∷ drop (n + 1) ss = drop_more ss n s lt_ss ∙ ap (λ (x : Segment). x ∷ drop (n + 1) ss) (sym segment) in
    let bs_is : drop n bs ≡ b ∷ drop (n + 1) bs = drop_more bs n b lt_bs ∙ ap (λ (x : Segment). x ∷ drop (n + 1) bs) (sym header) in
    let here : pieces_of place bytes (drop n ss) (drop n bs) ≡ (if is_load s then stands place bytes s b ∷ [] else []) ++ rest =
    ap (λ (xs : List Segment). pieces_of place bytes xs (drop n bs)) ss_is ∙ ap (pieces_of place bytes (s ∷ drop (n + 1) ss)) bs_is ∙ split (is_load s) rest in
    ap (λ (ps : List Piece). ps ++ rest) more ∙ append_assoc front (if is_load s then stands place bytes s b ∷ [] else []) rest ∙ ap (λ (ps : List Piece). front ++ ps) (sym here) ∙ so_far
  where
    split : (load : Bool) (rest : List Piece) → (if load then stands place bytes s b ∷ rest else rest) ≡ (if load then stands place bytes s b ∷ [] else []) ++ rest
    split true rest = refl
    split false rest = refl

-- none is left
pub pieces_done : (place : ℕ) (bytes : List ℕ) (ss bs : List Segment) (n : ℕ) (front whole : List Piece) → n ≡ min (length ss) (length bs) → front ++ pieces_of place bytes (drop n ss) (drop n bs) ≡ whole → front ≡ whole
unfolding pieces_of
pieces_done place bytes ss bs n front whole count so_far =
    let none : pieces_of place bytes (drop n ss) (drop n bs) ≡ [] = elim (cases_lt n (length ss)) [
      | inr all ↦ ap (λ (xs : List Segment). pieces_of place bytes xs (drop n bs)) (drop_all n ss all)
      | inl more ↦ let all : length bs ≤ n = omega (arith, count, more) in ap (pieces_of place bytes (drop n ss)) (drop_all n bs all) ∙ no_headers (drop n ss)
    ] in
    sym (append-nil front) ∙ ap (λ (ps : List Piece). front ++ ps) (sym none) ∙ so_far
  where
    no_headers : (xs : List Segment) → pieces_of place bytes xs [] ≡ []
    no_headers [] = refl
    no_headers (x ∷ xs) = refl

extents_same : (place : ℕ) (file o : List ℕ) (ss bs : List Segment) → length ss ≡ length bs → map extent_of (pieces_of place file ss bs) ≡ map extent_of (loaded_pieces place o (loads ss))
unfolding pieces_of
extents_same place file o [] [] size = refl
extents_same place file o [] (b ∷ bs) size = absurd (omega (arith, size))
extents_same place file o (s ∷ ss) [] size = absurd (omega (arith, size))
extents_same place file o (s ∷ ss) (b ∷ bs) size =
    let rest = extents_same place file o ss bs (omega (arith, size)) in
    elim (cases_Bool (is_load s)) [
      | inl hit ↦ rw hit (ap (λ (rs : List Range). extent_of (loaded_piece place o s) ∷ rs) rest)
      | inr miss ↦ rw miss rest
    ]

-- pieces at the same addresses ascend alike
ascend_like : (from : ℕ) (ps qs : List Piece) → map extent_of ps ≡ map extent_of qs → ascends from ps ≡ ascends from qs
unfolding ascends
ascend_like from [] [] same = refl
ascend_like from [] (q ∷ qs) same = absurd (let size : 0 ≡ suc (length qs) = ap length same ∙ ap suc (length-map qs extent_of) in omega (arith, size))
ascend_like from (p ∷ ps) [] same = absurd (let size : suc (length ps) ≡ 0 = sym (ap suc (length-map ps extent_of)) ∙ ap length same in omega (arith, size))
ascend_like from (p ∷ ps) (q ∷ qs) same =
    let first : extent_of p ≡ extent_of q = cc in
    let rest : map extent_of ps ≡ map extent_of qs = cc in
    let start : p.start ≡ q.start = ap (λ (r : Range). r.start) first in
    let end : p.start + p.size ≡ q.start + q.size = ap (λ (r : Range). r.end) first in
    let size : p.size ≡ q.size = omega (arith, start, end) in
    rw (start, size, ascend_like (q.start + q.size) ps qs rest) refl

-- a file's pieces ascend, as its original's do
pub standing_ascends : (f : ObjectFile) (place : ℕ) → IsRead f → IsMarked f → ascends 0 (loaded_pieces place f.bytes (loads f.object.segments)) ≡ true → ascends 0 (pieces_of place (stored f) f.object.segments (segments (stored f) (header (stored f)))) ≡ true
standing_ascends f place read marked up =
    ascend_like 0 _ _ (extents_same place (stored f) f.bytes f.object.segments (segments (stored f) (header (stored f))) (stored_many f read marked)) ∙ up

-- pieces and mask as one
pub standing_whole : (f : ObjectFile) (place : ℕ) (pieces : List Piece) (mask : Mask) → pieces ≡ pieces_of place (stored f) f.object.segments (segments (stored f) (header (stored f))) → mask ≡ mask_at place f.object
    → record { pieces = pieces; mask = mask } ≡ standing_at place (stored f) f.object
standing_whole f place pieces mask is masks = rw (is, masks) refl

-- ---- all files

-- files as they stand at places
abbrev standing_each : List ObjectFile → List ℕ → List LoadedObject
standing_each [] places = []
standing_each (f ∷ fs) [] = []
standing_each (f ∷ fs) (place ∷ places) = standing_at place (stored f) f.object ∷ standing_each fs places

abbrev pub standing_of : ObjectFile × ℕ → LoadedObject
standing_of at = standing_at at.1 (stored at.0) at.0.object

-- by the members' indexes
standing_is : (fs : List ObjectFile) (places ps : List ℕ) (qs : List (List ℕ)) (member : ℕ) → length fs ≡ length places → ((i : ℕ) → i < length fs → base_of ps (member + i) ≡ get_or places i 0) → ((i : ℕ) → i < length fs → part_of qs (member + i) ≡ get_or (map stored fs) i [])
    → standing_from ps qs member (objects_of fs) ≡ standing_each fs places
unfolding standing_from
standing_is [] places ps qs member size bases parts = refl
standing_is (f ∷ fs) [] ps qs member size bases parts = absurd (omega (arith, size))
standing_is (f ∷ fs) (place ∷ places) ps qs member size bases parts =
    let start : member + 0 ≡ member = omega arith in
    let base : base_of ps member ≡ place = ap (base_of ps) (sym start) ∙ bases 0 (omega arith) in
    let part : part_of qs member ≡ stored f = ap (part_of qs) (sym start) ∙ parts 0 (omega arith) in
    let rest = standing_is fs places ps qs (member + 1) (omega (arith, size))
    (λ i lt. let next : member + 1 + i ≡ member + (i + 1) = omega arith in ap (base_of ps) next ∙ bases (i + 1) (omega (arith, lt)) ∙ next_at i places)
    (λ i lt. let next : member + 1 + i ≡ member + (i + 1) = omega arith in ap (part_of qs) next ∙ parts (i + 1) (omega (arith, lt)) ∙ next_part i (map stored fs)) in
    rw (base, part, rest) refl
  where
    next_at : (i : ℕ) (xs : List ℕ) → get_or (place ∷ xs) (i + 1) 0 ≡ get_or xs i 0
    next_at i xs = let s : i + 1 ≡ suc i = omega arith in rw s refl

    next_part : (i : ℕ) (xs : List (List ℕ)) → get_or (stored f ∷ xs) (i + 1) [] ≡ get_or xs i []
    next_part i xs = let s : i + 1 ≡ suc i = omega arith in rw s refl

standing_all : (fs : List ObjectFile) (places : List ℕ) → length fs ≡ length places → standing places (map stored fs) (objects_of fs) ≡ standing_each fs places
standing_all fs places size =
    standing_is fs places places (map stored fs) 0 size (λ i lt. ap (base_of places) (zero-add i)) (λ i lt. ap (part_of (map stored fs)) (zero-add i))

each_zipped : (fs : List ObjectFile) (places : List ℕ) → standing_each fs places ≡ map standing_of (zip fs places)
each_zipped [] places = refl
each_zipped (f ∷ fs) [] = refl
each_zipped (f ∷ fs) (place ∷ places) = ap (λ (ls : List LoadedObject). standing_at place (stored f) f.object ∷ ls) (each_zipped fs places)

-- one file more, and all
pub standing_more : (fs : List ObjectFile) (ps : List ℕ) (n : ℕ) (f : ObjectFile) (p : ℕ) (before after : List LoadedObject) (l : LoadedObject) → n < length fs → n < length ps → f ≡ get_or fs n f → p ≡ get_or ps n p
    → l ≡ standing_at p (stored f) f.object → before ≡ map standing_of (take n (zip fs ps)) → after ≡ before ++ l ∷ [] → after ≡ map standing_of (take (n + 1) (zip fs ps))
standing_more fs ps n f p before after l lt_fs lt_ps file place is so_far more =
    let within : n < length (zip fs ps) = omega (arith, length-zip fs ps) in
    let at : get_or (zip fs ps) n (f, p) ≡ (f, p) = get_or-zip fs ps n (f, p) lt_fs lt_ps ∙ sym (ap (λ (g : ObjectFile). (g, get_or ps n p)) file) ∙ ap (λ (q : ℕ). (f, q)) (sym place) in
    let front : take (n + 1) (zip fs ps) ≡ take n (zip fs ps) ++ (f, p) ∷ [] = take_more (zip fs ps) n (f, p) within ∙ ap (λ (x : ObjectFile × ℕ). take n (zip fs ps) ++ x ∷ []) at in
    more ∙ ap (λ (x : LoadedObject). before ++ x ∷ []) is ∙ ap (λ (xs : List LoadedObject). xs ++ standing_at p (stored f) f.object ∷ []) so_far ∙ sym (map_push standing_of (take n (zip fs ps)) (f, p)) ∙ ap (map standing_of) (sym front)

pub standing_done : (fs : List ObjectFile) (ps : List ℕ) (n : ℕ) (all : List LoadedObject) → length fs ≡ length ps → n ≡ min (length fs) (length ps) → all ≡ map standing_of (take n (zip fs ps)) → all ≡ standing ps (map stored fs) (objects_of fs)
standing_done fs ps n all size count so_far =
    let le : length (zip fs ps) ≤ n = omega (arith, length-zip fs ps, count) in
    so_far ∙ ap (map standing_of) (take_all n (zip fs ps) le) ∙ sym (each_zipped fs ps) ∙ sym (standing_all fs ps size)

-- the object of an index is placed
pub placed_turn : (fs : List ObjectFile) (ps : List ℕ) (n : ℕ) (f : ObjectFile) (p : ℕ) → ArePlaced ps (parts_of fs) (objects_of fs) → n < length fs → n < length ps → f ≡ get_or fs n f → p ≡ get_or ps n p → IsPlaced p f.object
placed_turn fs ps n f p are lt_fs lt_ps file place =
    let at = are.placed n f.object (omega (arith, lt_fs, length-map fs (λ (g : ObjectFile). g.object))) in
    let object : get_or (objects_of fs) n f.object ≡ f.object = get_or-map (λ (g : ObjectFile). g.object) fs n f f.object lt_fs ∙ ap (λ (g : ObjectFile). g.object) (sym file) in
    let base : base_of ps n ≡ p = get_or_default ps n 0 p lt_ps ∙ sym place in
    rw (object, base) at at

-- ---- the same addresses

standing_extents : (fs : List ObjectFile) (places : List ℕ) → All IsRead fs → All IsMarked fs → extents_of (standing_each fs places) ≡ extents_of (loaded_each fs places)
standing_extents [] places read marked = refl
standing_extents (f ∷ fs) [] read marked = refl
standing_extents (f ∷ fs) (place ∷ places) read marked =
    let here = extents_same place (stored f) f.bytes f.object.segments (segments (stored f) (header (stored f))) (stored_many f (All-head IsRead f fs read) (All-head IsMarked f fs marked)) in
    let rest = standing_extents fs places (All-tail IsRead f fs read) (All-tail IsMarked f fs marked) in
    ap (λ (r : List Range). r ∷ extents_of (standing_each fs places)) here ∙ ap (λ (rs : List (List Range)). map extent_of (loaded_pieces place f.bytes (loads f.object.segments)) ∷ rs) rest

pub same_extents : (fs : List ObjectFile) (places : List ℕ) → AreFiles fs → All IsMarked fs → length places ≡ length fs → extents_of (standing places (map stored fs) (objects_of fs)) ≡ extents_of (loaded_objects places (parts_of fs) (objects_of fs))
same_extents fs places are marked size =
    ap extents_of (standing_all fs places (sym size)) ∙ standing_extents fs places are.read marked ∙ ap extents_of (sym (loaded_all fs places (sym size)))

-- objects that load the same addresses have the same ones in common
flat_extents : (ls ms : List LoadedObject) → extents_of ls ≡ extents_of ms → map extent_of (all_pieces ls) ≡ map extent_of (all_pieces ms)
flat_extents [] [] same = refl
flat_extents [] (m ∷ ms) same = absurd (let size : 0 ≡ suc (length ms) = ap length same ∙ ap suc (length-map ms (λ (o : LoadedObject). map extent_of o.pieces)) in omega (arith, size))
flat_extents (l ∷ ls) [] same = absurd (let size : suc (length ls) ≡ 0 = sym (ap suc (length-map ls (λ (o : LoadedObject). map extent_of o.pieces))) ∙ ap length same in omega (arith, size))
flat_extents (l ∷ ls) (m ∷ ms) same =
    let first : map extent_of l.pieces ≡ map extent_of m.pieces = cc in
    let rest : extents_of ls ≡ extents_of ms = cc in
    map-append extent_of l.pieces (all_pieces ls) ∙ ap (λ (rs : List Range). rs ++ map extent_of (all_pieces ls)) first
    ∙ ap (λ (rs : List Range). map extent_of m.pieces ++ rs) (flat_extents ls ms rest) ∙ sym (map-append extent_of m.pieces (all_pieces ms))

lone_like : (ps qs : List Piece) → map extent_of ps ≡ map extent_of qs → AtMostOne lies qs → AtMostOne lies ps
lone_like ps qs same lone i j a d lt within hit =
    let size : length ps ≡ length qs = sym (length-map ps extent_of) ∙ ap length same ∙ length-map qs extent_of in
    let at : (k : ℕ) → k < length ps → extent_of (get_or ps k d) ≡ extent_of (get_or qs k d) =
    λ k few. sym (get_or-map extent_of ps k d (extent_of d) few) ∙ ap (λ (rs : List Range). get_or rs k (extent_of d)) same ∙ get_or-map extent_of qs k d (extent_of d) (omega (arith, few, size)) in
    let over : (k : ℕ) → k < length ps → lies a (get_or ps k d) ≡ lies a (get_or qs k d) = λ k few. ap (has a) (at k few) in
    over j within ∙ lone i j a d lt (omega (arith, within, size)) (sym (over i (omega (arith, lt, within))) ∙ hit)

pub standing_apart : (fs : List ObjectFile) (places : List ℕ) → AreFiles fs → All IsMarked fs → length places ≡ length fs → ArePlaced places (parts_of fs) (objects_of fs) → AtMostOne lies (all_pieces (standing places (map stored fs) (objects_of fs)))
standing_apart fs places are marked size placed = lone_like _ _ (flat_extents _ _ (same_extents fs places are marked size)) placed.apart

-- ---- on the fast path all files are prelinked

marked_one : (m : Option Mark) (place : ℕ) → is_slot_of m place ≡ true → IsSome m
marked_one None place is = absurd (false≢true is)
marked_one (Some k) place is = refl

marked_libraries : (fs : List ObjectFile) (ps : List ℕ) → length ps ≡ length fs → list_all is_at_slot (zip fs ps) ≡ true → All IsMarked fs
marked_libraries [] ps size at = All-nil IsMarked
marked_libraries (f ∷ fs) [] size at = absurd (omega (arith, size))
marked_libraries (f ∷ fs) (p ∷ ps) size at =
    let parts = and_parts (is_slot_of f.mark p) (list_all is_at_slot (zip fs ps)) at in
    All-cons IsMarked f fs (marked_one f.mark p parts.0) (marked_libraries fs ps (omega (arith, size)) parts.1)

fast_by : (m : Option Mark) (fs : List ObjectFile) (ps : List ℕ) → length ps ≡ length fs → is_fast_by m fs ps ≡ true → IsSome m × All IsMarked fs
unfolding are_at_slots
fast_by None fs ps size fast = absurd (false≢true fast)
fast_by (Some k) fs ps size fast = (refl, marked_libraries fs ps size (and_parts (lists_libraries k.list fs) (list_all is_at_slot (zip fs ps)) fast).1)

pub fast_marked : (fs : List ObjectFile) (places : List ℕ) → length places ≡ length fs → is_fast fs places ≡ true → All IsMarked fs
unfolding is_fast
fast_marked [] places size fast = All-nil IsMarked
fast_marked (f ∷ fs) [] size fast = absurd (omega (arith, size))
fast_marked (f ∷ fs) (p ∷ ps) size fast =
    let all = fast_by f.mark fs ps (omega (arith, size)) fast in
    All-cons IsMarked f fs all.0 all.1
