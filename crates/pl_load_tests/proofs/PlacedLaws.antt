-- Objects whose address ranges do not meet are placed.
use Rattle.std.proofs.Common.{◌≡◌, ℕ, zero, suc, ◌+◌, ◌<◌, ◌≤◌, true, false, List, [], ◌∷◌, ◌++◌, length, map, get_or, refl, sym, ap, ◌∙◌, subst, arith, zero-add, inl, inr}
use Rattle.std.specs.Prelude.{nat_le}
use Rattle.std.specs.List.{All, list_any, list_all}
use Rattle.std.proofs.lemmas.Bool.{and_parts, or_cases, leb-true, false_from_ne_true, false≢true}
use Rattle.std.proofs.lemmas.List.Folds.{list_any-append}
use Rattle.std.proofs.lemmas.List.Elements.{All-head, All-tail, All-weaker}
use Rattle.pl_base.specs.Memory.{Piece, AtMostOne, lies}
use Rattle.pl_base.proofs.MemoryLaws.{within_true}
use Rattle.pl_elf.specs.Headers.{loads}
use Rattle.pl_elf.specs.Clauses.{AreLoads, ascend_from}
use Rattle.pl_elf.specs.declared.constants.TheConstants.{ADDRESS_LIMIT}
use Rattle.pl_elf.specs.declared.segment.Segment.{Segment}
use Rattle.pl_object.specs.declared.object.Object.{Object}
use Rattle.pl_object.proofs.AcceptedLaws.{accepted}
use Rattle.pl_object.proofs.SpanLaws.{Ends, span_ends}
use Rattle.pl_slots.specs.Apart.{are_apart, is_beside}
use Rattle.pl_slots.specs.declared.slot.Slot.{Slot}
use Rattle.pl_scope.specs.Scope.{IsAccepted}
use Rattle.pl_image.specs.Image.{all_pieces}
use Rattle.pl_image.specs.Loads.{loaded_piece, loaded_pieces, pieces_at, IsPlaced}
use Rattle.pl_image.proofs.PieceLemmas.{ascend_apart}
use Rattle.pl_image.proofs.PlacedLaws.{pieces_ascend}
use Rattle.pl_value.specs.Targets.{base_of}
use Rattle.pl_value.specs.Ordinary.{part_of, loaded_from, loaded_objects, ArePlaced}
use Rattle.pl_value.proofs.LoneLaws.{Lone, Cross, lone_most, most_lone, lone_join}

-- what objects load stands from the place on
lies_from : (place low a : ℕ) (bytes : List ℕ) (ss : List Segment) → ascend_from low ss ≡ true → list_any (lies a) (loaded_pieces place bytes ss) ≡ true → place + low ≤ a
lies_from place low a bytes [] ascend any = absurd (false≢true any)
lies_from place low a bytes (s ∷ ss) ascend any =
    let parts = and_parts (nat_le low s.vaddr) (ascend_from (s.vaddr + s.memsz) ss) ascend in
    let from = leb-true low s.vaddr parts.0 in
    elim (or_cases (lies a (loaded_piece place bytes s)) (list_any (lies a) (loaded_pieces place bytes ss)) any) [
      | inl here ↦ omega (arith, from, (within_true (place + s.vaddr) s.memsz a here).0)
      | inr later ↦ omega (arith, from, lies_from place (s.vaddr + s.memsz) a bytes ss parts.1 later)
    ]

lies_below : (place most a : ℕ) (bytes : List ℕ) (ss : List Segment) → All (Ends most) ss → list_any (lies a) (loaded_pieces place bytes ss) ≡ true → a < place + most
lies_below place most a bytes [] ends any = absurd (false≢true any)
lies_below place most a bytes (s ∷ ss) ends any =
    elim (or_cases (lies a (loaded_piece place bytes s)) (list_any (lies a) (loaded_pieces place bytes ss)) any) [
      | inl here ↦ omega (arith, All-head (Ends most) s ss ends, (within_true (place + s.vaddr) s.memsz a here).1)
      | inr later ↦ lies_below place most a bytes ss (All-tail (Ends most) s ss ends) later
    ]

-- an address is one of a slot's
record IsIn (a : ℕ) (s : Slot) : Type 0 where
  from : s.start ≤ a
  below : a < s.start + s.span

-- an object has a slot at its place
record Has (place : ℕ) (o : Object) (s : Slot) : Type 0 where
  start : s.start ≡ place
  span : s.span ≡ o.span
  low : s.start + s.span ≤ ADDRESS_LIMIT
  are : AreLoads (loads o.segments)
  ends : All (Ends o.span) (loads o.segments)

in_slot : (place a : ℕ) (bytes : List ℕ) (o : Object) (s : Slot) → Has place o s → list_any (lies a) (pieces_at place bytes o) ≡ true → IsIn a s
in_slot place a bytes o s has any =
    let from : place + 0 ≤ a = lies_from place 0 a bytes (loads o.segments) has.are.ascend any in
    let below : a < place + o.span = lies_below place o.span a bytes (loads o.segments) has.ends any in
    record { from = omega (arith, from, has.start); below = omega (arith, below, has.start, has.span) }

placed_one : (place : ℕ) (o : Object) (s : Slot) → Has place o s → IsPlaced place o
placed_one place o s has = record {
  accepted = has.are;
  ends = All-weaker (Ends o.span) (λ x. place + (x.vaddr + x.memsz) ≤ ADDRESS_LIMIT) (λ x le. omega (arith, le, has.low, has.start, has.span)) (loads o.segments) has.ends;
}

lone_one : (place : ℕ) (bytes : List ℕ) (o : Object) (s : Slot) → Has place o s → Lone lies (pieces_at place bytes o)
lone_one place bytes o s has = most_lone lies (pieces_at place bytes o) (ascend_apart (pieces_at place bytes o) (pieces_ascend place bytes o (placed_one place o s has)))

-- objects from a member on have slots
abbrev Have : List ℕ → ℕ → List Object → List Slot → Type 0
Have places member [] slots = Unit {0}
Have places member (o ∷ os) [] = ⊥
Have places member (o ∷ os) (s ∷ ss) = Has (base_of places member) o s × Have places (member + 1) os ss

apart_two : (a : ℕ) (s t : Slot) → is_beside s t ≡ true → IsIn a s → IsIn a t → ⊥
apart_two a s t beside one two = grind arith

cross_all : (places : List ℕ) (parts : List (List ℕ)) (s : Slot) (a member : ℕ) (os : List Object) (ss : List Slot) → Have places member os ss → list_all (is_beside s) ss ≡ true → IsIn a s
    → list_any (lies a) (all_pieces (loaded_from places parts member os)) ≡ true → ⊥
unfolding loaded_from
cross_all places parts s a member [] ss have beside is any = false≢true any
cross_all places parts s a member (o ∷ os) [] have beside is any = have
cross_all places parts s a member (o ∷ os) (t ∷ ts) have beside is any =
    let own : List Piece = pieces_at (base_of places member) (part_of parts member) o in
    let rest : List Piece = all_pieces (loaded_from places parts (member + 1) os) in
    let both = and_parts (is_beside s t) (list_all (is_beside s) ts) beside in
    elim (or_cases (list_any (lies a) own) (list_any (lies a) rest) (sym (list_any-append (lies a) own rest) ∙ any)) [
      | inl here ↦ apart_two a s t both.0 is (in_slot (base_of places member) a (part_of parts member) o t have.0 here)
      | inr later ↦ cross_all places parts s a (member + 1) os ts have.1 both.1 is later
    ]

lone_all : (places : List ℕ) (parts : List (List ℕ)) (member : ℕ) (os : List Object) (ss : List Slot) → Have places member os ss → are_apart ss ≡ true → Lone lies (all_pieces (loaded_from places parts member os))
unfolding loaded_from
lone_all places parts member [] ss have apart = tt
lone_all places parts member (o ∷ os) [] have apart = absurd have
lone_all places parts member (o ∷ os) (s ∷ ss) have apart =
    let own : List Piece = pieces_at (base_of places member) (part_of parts member) o in
    let rest : List Piece = all_pieces (loaded_from places parts (member + 1) os) in
    let both = and_parts (list_all (is_beside s) ss) (are_apart ss) apart in
    lone_join lies own rest (lone_one (base_of places member) (part_of parts member) o s have.0) (lone_all places parts (member + 1) os ss have.1 both.1)
    (λ a hit. false_from_ne_true (list_any (lies a) rest) (λ any.
    cross_all places parts s a (member + 1) os ss have.1 both.0 (in_slot (base_of places member) a (part_of parts member) o s have.0 hit) any))

placed_at : (places : List ℕ) (member k : ℕ) (os : List Object) (ss : List Slot) (d : Object) → Have places member os ss → k < length os → IsPlaced (base_of places (member + k)) (get_or os k d)
placed_at places member k [] ss d have lt = absurd (omega (arith, lt))
placed_at places member k (o ∷ os) [] d have lt = absurd have
placed_at places member zero (o ∷ os) (s ∷ ss) d have lt =
    let here : member + 0 ≡ member = omega arith in
    subst (λ (m : ℕ). IsPlaced (base_of places m) o) (sym here) (placed_one (base_of places member) o s have.0)
placed_at places member (suc k) (o ∷ os) (s ∷ ss) d have lt =
    let next : member + 1 + k ≡ member + suc k = omega arith in
    subst (λ (m : ℕ). IsPlaced (base_of places m) (get_or os k d)) next (placed_at places (member + 1) k os ss d have.1 (omega (arith, lt)))

-- ---- by slots as lists

abbrev IsLow : Slot → Type 0
IsLow s = s.start + s.span ≤ ADDRESS_LIMIT

have_all : (places : List ℕ) (member : ℕ) (os : List Object) (ss : List Slot) → ((i : ℕ) → i < length ss → base_of places (member + i) ≡ get_or (map (λ s. s.start) ss) i 0) → map (λ s. s.span) ss ≡ map (λ o. o.span) os
    → All IsLow ss → All IsAccepted os → Have places member os ss
have_all places member [] ss bases spans low read = tt
have_all places member (o ∷ os) [] bases spans low read = absurd cc
have_all places member (o ∷ os) (s ∷ ss) bases spans low read =
    let here : member + 0 ≡ member = omega arith in
    let first : IsAccepted o = All-head IsAccepted o os read in
    let facts = accepted first.bytes o first.read in
    let span : s.span ≡ o.span = cc in
    let rest : map (λ s. s.span) ss ≡ map (λ o. o.span) os = cc in (
      record {
        start = sym (ap (base_of places) (sym here) ∙ bases 0 (omega arith));
        span = span;
        low = All-head IsLow s ss low;
        are = facts.loads;
        ends = rw facts.span (span_ends o.segments facts.loads);
      },
      have_all places (member + 1) os ss (λ i lt. let next : member + 1 + i ≡ member + suc i = omega arith in ap (base_of places) next ∙ bases (suc i) (omega (arith, lt))) rest
          (All-tail IsLow s ss low) (All-tail IsAccepted o os read),
    )

pub placed : (places : List ℕ) (os : List Object) (ss : List Slot) → map (λ s. s.start) ss ≡ places → map (λ s. s.span) ss ≡ map (λ o. o.span) os → are_apart ss ≡ true
    → All (λ s. s.start + s.span ≤ ADDRESS_LIMIT) ss → All IsAccepted os → (parts : List (List ℕ)) → ArePlaced places parts os
placed places os ss starts spans apart low read parts =
    let have : Have places 0 os ss = have_all places 0 os ss (λ i lt. ap (base_of places) (zero-add i) ∙ ap (λ (xs : List ℕ). get_or xs i 0) (sym starts)) spans low read in
    record {
      placed = λ member d lt. subst (λ (m : ℕ). IsPlaced (base_of places m) (get_or os member d)) (zero-add member) (placed_at places 0 member os ss d have lt);
      apart = lone_most lies (all_pieces (loaded_objects places parts os)) (lone_all places parts 0 os ss have apart);
    }
