-- Where the places of relocations lie in memory.
use Rattle.std.proofs.Common.{◌≡◌, ℕ, ◌+◌, ◌-◌, ◌^◌, ◌<◌, ◌≤◌, Bool, true, false, List, [], ◌∷◌, get_or, Option, Some, None, Ok, refl, sym, ap, subst, ◌∙◌, arith, inl, inr}
use Rattle.std.specs.Prelude.{◌⊎◌, ◌==◌, not, min, nat_le, find, fold, if◌then◌else◌}
use Rattle.std.specs.List.{All, Any, list_any}
use Rattle.std.proofs.lemmas.Bool.{cases_Bool, not-false, false≢true, or_right, and_parts, leb-true}
use Rattle.std.proofs.lemmas.Bool.Decides.{nat_tests}
use Rattle.std.proofs.lemmas.Option.{same_Some, none-some}
use Rattle.std.proofs.lemmas.List.Elements.{All-head, All-tail}
use Rattle.std.proofs.lemmas.List.Folds.{list_any_at, Any-from_list_any}
use Rattle.std.proofs.lemmas.List.{get_or-map, length-map}
use Rattle.pl_base.proofs.SumLaws.{plus_small}
use Rattle.pl_base.specs.Memory.{Piece, lies, is_within}
use Rattle.pl_base.specs.Sums.{plus}
use Rattle.pl_base.specs.Windows.{Window, any_share}
use Rattle.pl_base.proofs.MemoryLaws.{within_true, within_is}
use Rattle.pl_elf.specs.Clauses.{AreLoads, bad_load}
use Rattle.pl_elf.proofs.AcceptedLaws.{load_fits}
use Rattle.pl_elf.specs.Headers.{is_load, loads}
use Rattle.pl_elf.specs.declared.constants.TheConstants.{ADDRESS_LIMIT}
use Rattle.pl_elf.specs.declared.segment.Segment.{Segment}
use Rattle.pl_object.specs.Accepted.{is_exec}
use Rattle.pl_object.specs.FilePart.{file_window, in_file_part, loaded_by, loader, loads_byte}
use Rattle.pl_object.specs.PlaceClauses.{last_load, is_in_memory, is_in_segment, is_held, reloc_outside, reloc_overlap}
use Rattle.pl_object.specs.Reads.{reads}
use Rattle.pl_object.specs.Relocations.{place, places}
use Rattle.pl_object.specs.declared.object.Object.{Object}
use Rattle.pl_object.specs.declared.reloc.Reloc.{Reloc}
use Rattle.pl_object.proofs.AcceptedLaws.{accepted}
use Rattle.pl_base.proofs.FindLaws.{find_passes}
use Rattle.pl_object.proofs.FilePartLaws.{loads_parts}
use Rattle.pl_image.specs.Loads.{loaded_piece, pieces_at, IsPlaced}
use Rattle.pl_value.proofs.LoneLaws.{none_at}

-- ---- segments that a test finds

-- what is true of one of the loads
any_later : (q : Segment → Bool) (s : Segment) (ss : List Segment) → list_any q (loads ss) ≡ true → list_any q (loads (s ∷ ss)) ≡ true
any_later q s ss some = elim (cases_Bool (is_load s)) [
  | inl hit ↦ rw hit (or_right (q s) (list_any q (loads ss)) some)
  | inr miss ↦ rw miss some
]

any_first : (q : Segment → Bool) (s : Segment) (ss : List Segment) → is_load s ≡ true → q s ≡ true → list_any q (loads (s ∷ ss)) ≡ true
any_first q s ss load hit = rw load (rw hit refl)

-- what holds of all PT_LOADs holds of one that is found
pub found_holds : (P : Segment → Type 0) (p : Segment → Bool) (ss : List Segment) (s : Segment) → All P (loads ss) → ((x : Segment) → p x ≡ true → is_load x ≡ true) → find p ss ≡ Some s → P s
found_holds P p [] s all passes found = absurd cc
found_holds P p (x ∷ ss) s all passes found =
    elim (cases_Bool (p x)) [
      | inl hit ↦
          let same : x ≡ s = same_Some x s (rw hit at found) in
          subst P same (All-head P x (loads ss) (rw (passes x hit) at all))
      | inr miss ↦
          found_holds P p ss s (elim (cases_Bool (is_load x)) [
            | inl load ↦ All-tail P x (loads ss) (rw load at all)
            | inr other ↦ rw other at all
          ]) passes (rw miss at found)
    ]

-- the first PT_LOAD that a test finds is one of the loads
found_load : (p : Segment → Bool) (ss : List Segment) (s : Segment) → ((t : Segment) → p t ≡ true → is_load t ≡ true) → find p ss ≡ Some s → (q : Segment → Bool) → q s ≡ true → list_any q (loads ss) ≡ true
found_load p ss s are e = found_holds (λ t. (q : Segment → Bool) → q t ≡ true → list_any q (loads ss) ≡ true) p ss s (λ k d lt q hit. list_any_at q (loads ss) k d lt hit) are e

-- the last PT_LOAD is one of the loads, or it is the one that was found before
last_from : (found : Option Segment) (ss : List Segment) (s : Segment) → fold (λ f t. if is_load t then Some t else f) found ss ≡ Some s → (q : Segment → Bool) → q s ≡ true → (list_any q (loads ss) ≡ true) ⊎ (found ≡ Some s)
last_from found [] s e q hit = inr e
last_from found (t ∷ ts) s e q hit = elim (cases_Bool (is_load t)) [
  | inl load ↦ elim (last_from (Some t) ts s (rw load at e) q hit) [
    | inl some ↦ inl (any_later q t ts some)
    | inr is ↦ inl (any_first q t ts load (ap q (same_Some t s is) ∙ hit))
  ]
  | inr other ↦ elim (last_from found ts s (rw other at e) q hit) [
    | inl some ↦ inl (any_later q t ts some)
    | inr is ↦ inr is
  ]
]

last_is_load : (ss : List Segment) (s : Segment) → last_load ss ≡ Some s → (q : Segment → Bool) → q s ≡ true → list_any q (loads ss) ≡ true
unfolding last_load
last_is_load ss s e q hit = elim (last_from None ss s e q hit) [
  | inl some ↦ some
  | inr none ↦ absurd (none-some s none)
]

-- ---- places in the memory of PT_LOADs

-- bytes lie in the memory of a segment
abbrev pub is_inside : ℕ → ℕ → Segment → Bool
is_inside at size s = is_in_segment (record { at = at; size = size }) s

-- a PT_LOAD that is one of the loads is not refused by itself
not_bad : (ss : List Segment) (s : Segment) → AreLoads (loads ss) → ((q : Segment → Bool) → q s ≡ true → list_any q (loads ss) ≡ true) → bad_load s ≡ false
not_bad ss s are among = elim (cases_Bool (bad_load s)) [
  | inl bad ↦ absurd (false≢true (sym are.fit ∙ among bad_load bad))
  | inr good ↦ good
]

inside_is : (at size : ℕ) (s : Segment) → s.vaddr ≤ at → at + size ≤ s.vaddr + s.memsz → is_inside at size s ≡ true
inside_is at size s from to = grind (arith, nat_tests)

inside_parts : (at size : ℕ) (s : Segment) → is_inside at size s ≡ true → (s.vaddr ≤ at) × (at + size ≤ s.vaddr + s.memsz)
inside_parts at size s h =
    let p = and_parts (nat_le s.vaddr at) (nat_le (at + size) (s.vaddr + s.memsz)) h in
    (leb-true s.vaddr at p.0, leb-true (at + size) (s.vaddr + s.memsz) p.1)

nothing_here : (size : ℕ) → (0 == size) ≡ true → 0 < size → ⊥
nothing_here size h some = absurd (grind (arith, nat_tests))

fits_part : (size rest : ℕ) → (min size rest == size) ≡ true → size ≤ rest
fits_part size rest h = grind (arith, nat_tests)

-- in the file part
file_inside : (ss : List Segment) (w : Window) → AreLoads (loads ss) → in_file_part ss w ≡ true → 0 < w.size → list_any (is_inside w.at w.size) (loads ss) ≡ true
unfolding in_file_part file_window
file_inside ss w are file some = by_loader (loader ss w.at) refl file
  where
    by_loader : (o : Option Segment) → loader ss w.at ≡ o → ((loaded_by w o).size == w.size) ≡ true → list_any (is_inside w.at w.size) (loads ss) ≡ true
    by_loader None e size = absurd (nothing_here w.size size some)
    by_loader (Some s) e size =
        let among : (q : Segment → Bool) → q s ≡ true → list_any q (loads ss) ≡ true = found_load (loads_byte w.at) ss s (λ t h. (loads_parts w.at t h).0) e in
        let byte = loads_parts w.at s (find_passes (loads_byte w.at) ss s e) in
        let long = (load_fits s (not_bad ss s are among)).bytes in
        let rest = fits_part w.size (s.vaddr + s.filesz - w.at) size in
        let from : s.vaddr ≤ w.at = byte.1 in
        let to : w.at < s.vaddr + s.filesz = byte.2 in
        among (is_inside w.at w.size) (inside_is w.at w.size s from (omega arith))

-- in the memory of the last PT_LOAD
memory_inside : (ss : List Segment) (w : Window) → is_in_memory w (last_load ss) ≡ true → list_any (is_inside w.at w.size) (loads ss) ≡ true
memory_inside ss w held = by_last (last_load ss) refl held
  where
    by_last : (o : Option Segment) → last_load ss ≡ o → is_in_memory w o ≡ true → list_any (is_inside w.at w.size) (loads ss) ≡ true
    by_last None e held = absurd (false≢true held)
    by_last (Some s) e held = last_is_load ss s e (is_inside w.at w.size) held

-- a place that is held, and is not empty
held_inside : (program : Bool) (ss : List Segment) (w : Window) → AreLoads (loads ss) → is_held program ss w ≡ true → 0 < w.size → list_any (is_inside w.at w.size) (loads ss) ≡ true
unfolding is_held
held_inside program ss w are held some = elim (cases_Bool (in_file_part ss w)) [
  | inl file ↦ file_inside ss w are file some
  | inr other ↦ memory_inside ss w (and_parts program (is_in_memory w (last_load ss)) (rw other at held)).1
]

-- ---- places as loaded

-- whether the place of a relocation, of an object that is loaded at an address, has another address
abbrev pub reloc_over : ℕ → ℕ → Reloc → Bool
reloc_over base a r = is_within (plus base r.address) r.width a

-- where the place of a relocation has an address, so has a piece of its object, and no sum wraps
pub record IsHeld (base : ℕ) (pieces : List Piece) (r : Reloc) : Type 0 where
  pub piece : (a : ℕ) → reloc_over base a r ≡ true → list_any (lies a) pieces ≡ true
  pub start : (a : ℕ) → reloc_over base a r ≡ true → plus base r.address ≡ base + r.address

below : (n : ℕ) → n ≤ ADDRESS_LIMIT → n < 2 ^ 64
below n le = omega arith

place_held : (base : ℕ) (bytes : List ℕ) (o : Object) (r : Reloc) → IsPlaced base o → is_held (is_exec o) o.segments (place r) ≡ true → IsHeld base (pieces_at base bytes o) r
place_held base bytes o r placed held = record {
  piece = λ a over. at_piece a over (some_load a over);
  start = λ a over. no_wrap_at (some_load a over);
}
  where
    some_load : (a : ℕ) → reloc_over base a r ≡ true → Any (λ s. is_inside r.address r.width s ≡ true) (loads o.segments)
    some_load a over =
        let t = within_true (plus base r.address) r.width a over in
        let from : plus base r.address ≤ a = t.0 in
        let to : a < plus base r.address + r.width = t.1 in
        Any-from_list_any (is_inside r.address r.width) (loads o.segments) (held_inside (is_exec o) o.segments (place r) placed.accepted held (omega arith))

    no_wrap_at : Any (λ s. is_inside r.address r.width s ≡ true) (loads o.segments) → plus base r.address ≡ base + r.address
    no_wrap_at found =
        let s = found.1 in
        let inside = inside_parts r.address r.width s found.4 in
        let to : r.address + r.width ≤ s.vaddr + s.memsz = inside.1 in
        let end : base + (s.vaddr + s.memsz) ≤ ADDRESS_LIMIT = subst (λ (t : Segment). base + (t.vaddr + t.memsz) ≤ ADDRESS_LIMIT) found.3 (placed.ends found.0 s found.2) in
        plus_small base r.address (below (base + r.address) (omega arith))

    at_piece : (a : ℕ) → reloc_over base a r ≡ true → Any (λ s. is_inside r.address r.width s ≡ true) (loads o.segments) → list_any (lies a) (pieces_at base bytes o) ≡ true
    at_piece a over found =
        let s = found.1 in
        let t = within_true (plus base r.address) r.width a over in
        let inside = inside_parts r.address r.width s found.4 in
        let straight = no_wrap_at found in
        let from : plus base r.address ≤ a = t.0 in
        let to : a < plus base r.address + r.width = t.1 in
        let lower : s.vaddr ≤ r.address = inside.0 in
        let upper : r.address + r.width ≤ s.vaddr + s.memsz = inside.1 in
        let hit : is_within (base + s.vaddr) s.memsz a ≡ true = within_is (base + s.vaddr) s.memsz a (omega arith) (omega arith) in
        let d = loaded_piece base bytes s in
        let same : get_or (pieces_at base bytes o) found.0 d ≡ d = get_or-map (loaded_piece base bytes) (loads o.segments) found.0 s d found.2 ∙ ap (loaded_piece base bytes) found.3 in
        list_any_at (lies a) (pieces_at base bytes o) found.0 d (omega (arith, found.2, length-map (loads o.segments) (loaded_piece base bytes))) (subst (λ (p : Piece). lies a p ≡ true) (sym same) hit)

-- the places of an accepted object
pub relocs_held : (base : ℕ) (bytes file : List ℕ) (o : Object) → IsPlaced base o → reads file ≡ Ok o → All (IsHeld base (pieces_at base bytes o)) o.relocations
unfolding reloc_outside
relocs_held base bytes file o placed read = λ k d lt.
    let facts = accepted file o read in
    let r = get_or o.relocations k d in
    let outside : not (is_held (is_exec o) o.segments (get_or (places o.relocations) k (place d))) ≡ false =
    none_at (λ memory. not (is_held (is_exec o) o.segments memory)) (places o.relocations) k (place d) (omega (arith, lt, length-map o.relocations place)) facts.held in
    place_held base bytes o r placed (not-false (is_held (is_exec o) o.segments (place r)) (rw (get_or-map place o.relocations k d (place d) lt) at outside))

pub relocs_apart : (file : List ℕ) (o : Object) → reads file ≡ Ok o → any_share (places o.relocations) ≡ false
unfolding reloc_overlap
relocs_apart file o read = (accepted file o read).apart
