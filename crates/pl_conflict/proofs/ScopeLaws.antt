-- The members of a set as a scope: each object is read of its original, and at the slots no two of them have an address in common.
use Rattle.std.proofs.Common.{◌≡◌, ℕ, zero, suc, ◌+◌, ◌^◌, ◌<◌, ◌≤◌, true, false, List, [], ◌∷◌, ◌++◌, length, map, get_or, refl, sym, ap, subst, ◌∙◌, zero-add, arith, inl, inr}
use Rattle.std.specs.Prelude.{◌||◌, nat_le}
use Rattle.std.specs.List.{All, list_all, list_any, flat_map}
use Rattle.std.proofs.lemmas.Bool.{cases_Bool, and_parts, or_parts, or_from, leb-true, false≢true, false_from_ne_true}
use Rattle.std.proofs.lemmas.Bool.Decides.{nat_tests}
use Rattle.std.proofs.lemmas.List.Elements.{All-head, All-tail, All-weaker}
use Rattle.std.proofs.lemmas.List.Folds.{list_any-append}
use Rattle.pl_base.specs.Memory.{Piece, lies}
use Rattle.pl_base.specs.Windows.{Window, holds, share, any_share}
use Rattle.pl_base.proofs.MemoryLaws.{within_true, within_is}
use Rattle.pl_base.proofs.WindowLaws.{holds_true}
use Rattle.pl_elf.specs.Clauses.{ascend_from}
use Rattle.pl_elf.specs.Headers.{loads}
use Rattle.pl_elf.specs.Kinds.{is_library}
use Rattle.pl_elf.specs.declared.constants.TheConstants.{ADDRESS_LIMIT}
use Rattle.pl_elf.specs.declared.segment.Segment.{Segment}
use Rattle.pl_elf.proofs.AcceptedLaws.{LoadFits, loads_fit}
use Rattle.pl_image.specs.Image.{all_pieces}
use Rattle.pl_image.specs.Loads.{loaded_piece, loaded_pieces, pieces_at, loaded_at, IsPlaced}
use Rattle.pl_image.specs.declared.loaded_object.LoadedObject.{LoadedObject}
use Rattle.pl_object.specs.declared.object.Object.{Object}
use Rattle.pl_object.proofs.AcceptedLaws.{accepted}
use Rattle.pl_object.proofs.SpanLaws.{Ends, span_ends}
use Rattle.pl_scope.proofs.NameLaws.{or_cases}
use Rattle.pl_value.specs.Laws.{AreRead}
use Rattle.pl_value.specs.Ordinary.{part_of, loaded_from, loaded_objects, ArePlaced}
use Rattle.pl_value.specs.Targets.{base_of}
use Rattle.pl_value.proofs.LoneLaws.{Lone, lone_most, lone_join}
use Rattle.pl_conflict.specs.Prelinked.{Firm, objects_of, slots_of, originals_of, has_numbers, load_window, windows_of}
use Rattle.pl_conflict.proofs.MemberLaws.{HasOwn, library_numbers, program_numbers}

pub read_all : (rs : List Firm) → All HasOwn rs → AreRead (originals_of rs) (objects_of rs)
read_all [] all = tt
read_all (r ∷ rs) all = ((All-head HasOwn r rs all).firm.accepted, read_all rs (All-tail HasOwn r rs all))

-- ---- where one member ends

spans : (r : Firm) → HasOwn r → All (Ends r.object.span) (loads r.object.segments)
spans r own = let facts = accepted r.member.original r.object own.firm.accepted in rw facts.span (span_ends r.object.segments facts.loads)

limits : (r : Firm) → HasOwn r → All (Ends ADDRESS_LIMIT) (loads r.object.segments)
limits r own =
    let facts = accepted r.member.original r.object own.firm.accepted in
    All-weaker LoadFits (Ends ADDRESS_LIMIT) (λ s fits. fits.ends) (loads r.object.segments) (loads_fit (loads r.object.segments) facts.loads.fit)

abbrev EndsAt : ℕ → Segment → Type 0
EndsAt place s = place + (s.vaddr + s.memsz) ≤ ADDRESS_LIMIT

within_limit : (n : ℕ) → n ≤ 2 ^ 47 → n ≤ ADDRESS_LIMIT
within_limit n le = le

ends_at : (r : Firm) → HasOwn r → has_numbers r ≡ true → All (EndsAt r.member.slot) (loads r.object.segments)
ends_at r own numbers = elim (cases_Bool (is_library r.object.kind)) [
  | inl library ↦
      let n = library_numbers r numbers library in
      All-weaker (Ends r.object.span) (EndsAt r.member.slot) (λ s e. within_limit (r.member.slot + (s.vaddr + s.memsz)) (omega (arith, n.below, e))) (loads r.object.segments) (spans r own)
  | inr other ↦
      let n = program_numbers r numbers other in
      All-weaker (Ends ADDRESS_LIMIT) (EndsAt r.member.slot) (λ s e. omega (arith, n.0, e)) (loads r.object.segments) (limits r own)
]

member_placed : (r : Firm) → HasOwn r → has_numbers r ≡ true → IsPlaced r.member.slot r.object
member_placed r own numbers = record { accepted = (accepted r.member.original r.object own.firm.accepted).loads; ends = ends_at r own numbers }

placed_at : (rs : List Firm) → All HasOwn rs → list_all has_numbers rs ≡ true → (k : ℕ) (d : Object) → k < length (objects_of rs) → IsPlaced (base_of (slots_of rs) k) (get_or (objects_of rs) k d)
placed_at [] all numbers k d lt = absurd (omega (arith, lt))
placed_at (r ∷ rs) all numbers zero d lt = member_placed r (All-head HasOwn r rs all) (and_parts (has_numbers r) (list_all has_numbers rs) numbers).0
placed_at (r ∷ rs) all numbers (suc k) d lt = placed_at rs (All-tail HasOwn r rs all) (and_parts (has_numbers r) (list_all has_numbers rs) numbers).1 k d (omega (arith, lt))

-- ---- the addresses of one member

lies_from : (place low a : ℕ) (bytes : List ℕ) (ss : List Segment) → ascend_from low ss ≡ true → list_any (lies a) (loaded_pieces place bytes ss) ≡ true → place + low ≤ a
lies_from place low a bytes [] ascend any = absurd (false≢true any)
lies_from place low a bytes (s ∷ ss) ascend any =
    let parts = and_parts (nat_le low s.vaddr) (ascend_from (s.vaddr + s.memsz) ss) ascend in
    let from = leb-true low s.vaddr parts.0 in
    elim (or_cases (lies a (loaded_piece place bytes s)) (list_any (lies a) (loaded_pieces place bytes ss)) any) [
      | inl here ↦ omega (arith, from, (within_true (place + s.vaddr) s.memsz a here).0)
      | inr later ↦ omega (arith, from, lies_from place (s.vaddr + s.memsz) a bytes ss parts.1 later)
    ]

lies_below : (place most a : ℕ) (bytes : List ℕ) (ss : List Segment) → All (Ends most) ss → list_any (lies a) (loaded_pieces place bytes ss) ≡ true → a < place + most
lies_below place most a bytes [] ends any = absurd (false≢true any)
lies_below place most a bytes (s ∷ ss) ends any =
    elim (or_cases (lies a (loaded_piece place bytes s)) (list_any (lies a) (loaded_pieces place bytes ss)) any) [
      | inl here ↦ omega (arith, All-head (Ends most) s ss ends, (within_true (place + s.vaddr) s.memsz a here).1)
      | inr later ↦ lies_below place most a bytes ss (All-tail (Ends most) s ss ends) later
    ]

own_lone : (place low : ℕ) (bytes : List ℕ) (ss : List Segment) → ascend_from low ss ≡ true → Lone lies (loaded_pieces place bytes ss)
own_lone place low bytes [] ascend = tt
own_lone place low bytes (s ∷ ss) ascend =
    let parts = and_parts (nat_le low s.vaddr) (ascend_from (s.vaddr + s.memsz) ss) ascend in (
      λ a hit. false_from_ne_true (list_any (lies a) (loaded_pieces place bytes ss)) (λ any.
          omega (arith, (within_true (place + s.vaddr) s.memsz a hit).1, lies_from place (s.vaddr + s.memsz) a bytes ss parts.1 any)),
      own_lone place (s.vaddr + s.memsz) bytes ss parts.1,
    )

-- a program's pieces are at the addresses of its windows
program_windows : (a : ℕ) (bytes : List ℕ) (ss : List Segment) → list_any (holds a) (map load_window ss) ≡ list_any (lies a) (loaded_pieces 0 bytes ss)
program_windows a bytes [] = refl
program_windows a bytes (s ∷ ss) = let same : 0 + s.vaddr ≡ s.vaddr = zero-add s.vaddr in rw (same, program_windows a bytes ss) refl

library_window : (place size a : ℕ) → place ≤ a → a < place + size → list_any (holds a) (record { at = place; size = size } ∷ []) ≡ true
library_window place size a from to = rw (within_is place size a from to) refl

in_windows : (r : Firm) (bytes : List ℕ) (a : ℕ) → HasOwn r → has_numbers r ≡ true → list_any (lies a) (pieces_at r.member.slot bytes r.object) ≡ true → list_any (holds a) (windows_of r) ≡ true
unfolding windows_of
in_windows r bytes a own numbers any = elim (cases_Bool (is_library r.object.kind)) [
  | inl library ↦
      let facts = accepted r.member.original r.object own.firm.accepted in
      let from : r.member.slot + 0 ≤ a = lies_from r.member.slot 0 a bytes (loads r.object.segments) facts.loads.ascend any in
      let to = lies_below r.member.slot r.object.span a bytes (loads r.object.segments) (spans r own) any in
      rw library (library_window r.member.slot r.object.span a (omega (arith, from)) to)
  | inr other ↦
      let n = program_numbers r numbers other in
      rw other (program_windows a bytes (loads r.object.segments) ∙ subst (λ (place : ℕ). list_any (lies a) (loaded_pieces place bytes (loads r.object.segments)) ≡ true) n.0 any)
]

-- ---- windows that share nothing

both_share : (v w : Window) (a : ℕ) → holds a v ≡ true → holds a w ≡ true → share v w ≡ true
both_share v w a h g = let p = holds_true a v h in let q = holds_true a w g in grind (arith, nat_tests)

pub none_holds : (w : Window) (vs : List Window) (a : ℕ) → holds a w ≡ true → list_any (share w) vs ≡ false → list_any (holds a) vs ≡ false
none_holds w [] a hit none = refl
none_holds w (v ∷ vs) a hit none =
    let p = or_parts (share w v) (list_any (share w) vs) none in
    or_from (holds a v) (list_any (holds a) vs) (false_from_ne_true (holds a v) (λ also. false≢true (sym p.0 ∙ both_share w v a hit also))) (none_holds w vs a hit p.1)

share_rest : (ws vs : List Window) → any_share (ws ++ vs) ≡ false → any_share vs ≡ false
share_rest [] vs none = none
share_rest (w ∷ ws) vs none = share_rest ws vs (or_parts (list_any (share w) (ws ++ vs)) (any_share (ws ++ vs)) none).1

share_cross : (ws vs : List Window) (a : ℕ) → any_share (ws ++ vs) ≡ false → list_any (holds a) ws ≡ true → list_any (holds a) vs ≡ false
share_cross [] vs a none some = absurd (false≢true some)
share_cross (w ∷ ws) vs a none some =
    let p = or_parts (list_any (share w) (ws ++ vs)) (any_share (ws ++ vs)) none in
    elim (cases_Bool (holds a w)) [
      | inl hit ↦ none_holds w vs a hit (or_parts (list_any (share w) ws) (list_any (share w) vs) (sym (list_any-append (share w) ws vs) ∙ p.0)).1
      | inr miss ↦ share_cross ws vs a p.1 (rw miss at some)
    ]

-- ---- all members

loaded_rest : (p : ℕ) (b : List ℕ) (places : List ℕ) (parts : List (List ℕ)) (member : ℕ) (os : List Object) → loaded_from (p ∷ places) (b ∷ parts) (suc member) os ≡ loaded_from places parts member os
unfolding loaded_from
loaded_rest p b places parts member [] = refl
loaded_rest p b places parts member (o ∷ os) =
    let next : suc member + 1 ≡ suc (member + 1) = omega arith in
    ap (λ (ls : List LoadedObject). loaded_at (base_of places member) (part_of parts member) o ∷ ls) (ap (λ (n : ℕ). loaded_from (p ∷ places) (b ∷ parts) n os) next ∙ loaded_rest p b places parts (member + 1) os)

-- what a set loads at its slots
abbrev pub set_loaded : List Firm → List LoadedObject
set_loaded rs = loaded_objects (slots_of rs) (originals_of rs) (objects_of rs)

set_next : (r : Firm) (rs : List Firm) → set_loaded (r ∷ rs) ≡ loaded_at r.member.slot r.member.original r.object ∷ set_loaded rs
unfolding loaded_from
set_next r rs = ap (λ (ls : List LoadedObject). loaded_at r.member.slot r.member.original r.object ∷ ls) (loaded_rest r.member.slot r.member.original (slots_of rs) (originals_of rs) 0 (objects_of rs))

record IsApartSet (rs : List Firm) : Type 0 where
  lone : Lone lies (all_pieces (set_loaded rs))
  inside : (a : ℕ) → list_any (lies a) (all_pieces (set_loaded rs)) ≡ true → list_any (holds a) (flat_map windows_of rs) ≡ true

set_apart : (rs : List Firm) → All HasOwn rs → list_all has_numbers rs ≡ true → any_share (flat_map windows_of rs) ≡ false → IsApartSet rs
unfolding loaded_from
set_apart [] all numbers none = record { lone = tt; inside = λ a some. absurd (false≢true some) }
set_apart (r ∷ rs) all numbers none =
    let own : HasOwn r = All-head HasOwn r rs all in
    let n = and_parts (has_numbers r) (list_all has_numbers rs) numbers in
    let rest = set_apart rs (All-tail HasOwn r rs all) n.1 (share_rest (windows_of r) (flat_map windows_of rs) none) in
    let first = pieces_at r.member.slot r.member.original r.object in
    let facts = accepted r.member.original r.object own.firm.accepted in
    let here : (a : ℕ) → list_any (lies a) first ≡ true → list_any (holds a) (windows_of r) ≡ true = λ a some. in_windows r r.member.original a own n.0 some in
    let cross : (a : ℕ) → list_any (lies a) first ≡ true → list_any (lies a) (all_pieces (set_loaded rs)) ≡ false =
    λ a some. false_from_ne_true (list_any (lies a) (all_pieces (set_loaded rs))) (λ also. false≢true (sym (share_cross (windows_of r) (flat_map windows_of rs) a none (here a some)) ∙ rest.inside a also)) in
    let lone : Lone lies (first ++ all_pieces (set_loaded rs)) =
    lone_join lies first (all_pieces (set_loaded rs)) (own_lone r.member.slot 0 r.member.original (loads r.object.segments) facts.loads.ascend) rest.lone cross in
    let inside : (a : ℕ) → list_any (lies a) (first ++ all_pieces (set_loaded rs)) ≡ true → list_any (holds a) (flat_map windows_of (r ∷ rs)) ≡ true =
    λ a some. list_any-append (holds a) (windows_of r) (flat_map windows_of rs) ∙ either a first (all_pieces (set_loaded rs)) (windows_of r) (flat_map windows_of rs) (here a) (rest.inside a) (sym (list_any-append (lies a) first (all_pieces (set_loaded rs))) ∙ some) in
    record {
      lone = subst (λ (ls : List LoadedObject). Lone lies (all_pieces ls)) (sym (set_next r rs)) lone;
      inside = subst (λ (ls : List LoadedObject). (a : ℕ) → list_any (lies a) (all_pieces ls) ≡ true → list_any (holds a) (flat_map windows_of (r ∷ rs)) ≡ true) (sym (set_next r rs)) inside;
    }
  where
    either : (a : ℕ) (ps qs : List Piece) (ws vs : List Window) → (list_any (lies a) ps ≡ true → list_any (holds a) ws ≡ true) → (list_any (lies a) qs ≡ true → list_any (holds a) vs ≡ true) → (list_any (lies a) ps || list_any (lies a) qs) ≡ true → (list_any (holds a) ws || list_any (holds a) vs) ≡ true
    either a ps qs ws vs left right some = elim (cases_Bool (list_any (lies a) ps)) [
      | inl one ↦ rw (left one) refl
      | inr other ↦ elim (cases_Bool (list_any (holds a) ws)) [
        | inl there ↦ rw there refl
        | inr gone ↦ rw gone (right (rw other at some))
      ]
    ]

pub set_placed : (rs : List Firm) → All HasOwn rs → list_all has_numbers rs ≡ true → any_share (flat_map windows_of rs) ≡ false → ArePlaced (slots_of rs) (originals_of rs) (objects_of rs)
set_placed rs all numbers none = record {
  placed = placed_at rs all numbers;
  apart = lone_most lies (all_pieces (set_loaded rs)) (set_apart rs all numbers none).lone;
}
