-- What stands at the places of a form.
use Rattle.std.proofs.Common.{Option, ◌≡◌, ℕ, zero, suc, ◌+◌, ◌-◌, ◌<◌, ◌≤◌, true, false, List, [], ◌∷◌, ◌++◌, length, get_or, take, drop, refl, sym, ap, subst, ◌∙◌, arith, inl, inr}
use Rattle.std.specs.Prelude.{◌⊎◌, ◌≢◌, ◌&&◌, ◌==◌, not, map}
use Rattle.std.specs.List.{list_any, concat, AllZip, AllByRecursion}
use Rattle.std.proofs.lemmas.Bool.{cases_Bool, cases_lt, or_parts, eqb-true, true≢false}
use Rattle.std.proofs.lemmas.Bool.Decides.{nat_tests}
use Rattle.std.proofs.lemmas.List.{length-append, take_at, drop_at, drop-drop, get_or-map}
use Rattle.pl_base.specs.Bytes.{part}
use Rattle.pl_base.specs.Memory.{byte_at}
use Rattle.pl_base.specs.Windows.{Window, holds, share, any_share}
use Rattle.pl_base.proofs.WindowLaws.{AreAllApart}
use Rattle.pl_elf.specs.Headers.{header, segment, is_load, loads}
use Rattle.pl_elf.specs.declared.header.Header.{Header}
use Rattle.pl_elf.specs.declared.section.Section.{Section}
use Rattle.pl_elf.specs.declared.segment.Segment.{Segment}
use Rattle.pl_dyn.specs.declared.tags.Tag.{Tag}
use Rattle.pl_object.specs.Accepted.{is_exec, tags_of as object_tags}
use Rattle.pl_object.specs.FilePart.{loader, file_window, in_file_part}
use Rattle.pl_object.specs.PlaceClauses.{last_load, is_held, reloc_outside, reloc_overlap}
use Rattle.pl_object.specs.Relocations.{places}
use Rattle.pl_object.specs.Tables.{window_range, link_windows}
use Rattle.pl_object.specs.declared.object.Object.{Object}
use Rattle.pl_object.proofs.AcceptedLaws.{accepted}
use Rattle.pl_form.specs.Back.{wanted}
use Rattle.pl_form.specs.Forms.{undo_part, planned, form_of_library, form_of_program, original_of}
use Rattle.pl_form.specs.Found.{ss_of, secs_of, tags_of, places_of, ps_of, zeros_from}
use Rattle.pl_form.specs.PartLaws.{IsOriginal, PartsAreFound, FormsProgram, LibrariesHoldFills, ProgramsHoldFills, IsAsLong, FillsAreTold, place_of, segment_of}
use Rattle.pl_form.specs.Loads.{stands, spot_of, spots_of, hidden_windows, fills}
use Rattle.pl_form.specs.Parts.{moved_segment, library_plan, program_plan}
use Rattle.pl_form.specs.declared.parts.Extension.{Extension}
use Rattle.pl_form.proofs.AcceptedIs.{segments_are, sections_are, tags_are, places_are, named_of}
use Rattle.pl_form.proofs.AlikeTheorem.{loads_are, held_program}
use Rattle.pl_form.proofs.FinalTheorem.{library_conditions, program_conditions, inside}
use Rattle.pl_form.proofs.FormTheorem.{own_fits, moved_fits, program_segment_fits, program_hidden, visible_fill, hidden_fill}
use Rattle.pl_form.proofs.KindLaws.{IsProgram, library_kept, program_kept, program_grown, segment_count}
use Rattle.pl_form.proofs.LoadFacts.{loads_of, apart_of}
use Rattle.pl_form.proofs.LoadLaws.{SegmentFits, segment_there, IsKept}
use Rattle.pl_form.proofs.LoadTheorem.{Loads, IsGrown}
use Rattle.pl_form.proofs.OverlapLaws.{zeros_apart}
use Rattle.pl_form.proofs.PlaceByteLaws.{IsHeld, is_own, memory_apart, memory_window, none_shares, not_any_at, not_both, size_most, zero_byte_of}
use Rattle.pl_form.proofs.WholeTheorem.{taken, library_is, program_is}

-- ---- an original's own parts

pub parts_found : PartsAreFound
parts_found o x is =
    let acc = accepted o x is.accepted in
    let head : x.header ≡ header o = sym acc.head.header in
    let rows : x.segments ≡ ss_of o = segments_are o x acc in
    record {
      head = head;
      rows = rows;
      placed = places_are o x acc is.dynamic (named_of o x is.few is.accepted is.dynamic);
      linked = (acc.tabled is.dynamic).shape
          ∙ ap (λ (h : Header). map window_range (link_windows h x.segments x.sections (object_tags o x))) head
          ∙ ap (λ (ss : List Segment). map window_range (link_windows (header o) ss x.sections (object_tags o x))) rows
          ∙ ap (λ (secs : List Section). map window_range (link_windows (header o) (ss_of o) secs (object_tags o x))) (sections_are o x acc)
          ∙ ap (λ (ts : List Tag). map window_range (link_windows (header o) (ss_of o) (secs_of o) ts)) (tags_are o x acc);
    }

-- ---- bytes for the places

spot_wanted : (ss : List Segment) (start : ℕ) (place : Window) → (spot_of ss start place).size + (spot_of ss start place).hidden ≡ place.size
unfolding spot_of file_window
spot_wanted ss start place = omega (arith, size_most place (loader ss place.at))

told_from : (ss : List Segment) (start : ℕ) (places : List Window) (given : List (List ℕ)) → AllZip IsAsLong given places
    → (length (concat given) ≡ wanted (spots_of ss start places)) × (fills (spots_of ss start places) (concat given) ≡ given)
told_from ss start [] [] all = (refl, refl)
told_from ss start [] (b ∷ bs) all = absurd all
told_from ss start (w ∷ ws) [] all = absurd all
told_from ss start (w ∷ ws) (b ∷ bs) all =
    let s = spot_of ss start w in
    let n : length b ≡ s.size + s.hidden = all.0 ∙ sym (spot_wanted ss start w) in
    let rest = told_from ss start ws bs all.1 in
    let first : take (s.size + s.hidden) (b ++ concat bs) ≡ b = take_at b (concat bs) (s.size + s.hidden) n in
    let last : drop s.hidden (drop s.size (b ++ concat bs)) ≡ concat bs = drop-drop s.hidden s.size (b ++ concat bs) ∙ drop_at b (concat bs) (s.size + s.hidden) n in
    (length-append b (concat bs) ∙ omega (arith, n, rest.0), rw (first, last) (ap (λ (xs : List (List ℕ)). b ∷ xs) rest.1))

pub fills_told : FillsAreTold
fills_told o given all =
    let told = told_from (ss_of o) (zeros_from (last_load (ss_of o))) (places_of o) given all in
    record { size = told.0; same = told.1 }

-- ---- one PT_LOAD has an address

none_later : (w : Segment → Window) (s : Segment) (ss : List Segment) → any_share (map w (loads (s ∷ ss))) ≡ false → any_share (map w (loads ss)) ≡ false
none_later w s ss none = elim (cases_Bool (is_load s)) [
  | inl hit ↦ (or_parts (list_any (share (w s)) (map w (loads ss))) (any_share (map w (loads ss))) (rw hit at none)).1
  | inr miss ↦ rw miss at none
]

first_apart : (w : Segment → Window) (s : Segment) (ss : List Segment) (j x : ℕ) (e : Segment) → any_share (map w (loads (s ∷ ss))) ≡ false → is_load s ≡ true → j < length ss → is_load (get_or ss j e) ≡ true
    → holds x (w s) ≡ true → holds x (w (get_or ss j e)) ≡ true → ⊥
first_apart w s ss j x e none is lt load h g =
    let apart = (or_parts (list_any (share (w s)) (map w (loads ss))) (any_share (map w (loads ss))) (rw is at none)).0 in
    not_both (w s) (w (get_or ss j e)) x (is_load (get_or ss j e)) load (not_any_at (λ t. is_load t && share (w s) (w t)) ss j e (none_shares w s ss apart) lt) h g

pub one_index : (w : Segment → Window) (ss : List Segment) (i j x : ℕ) (d e : Segment) → any_share (map w (loads ss)) ≡ false → i < length ss → j < length ss → is_load (get_or ss i d) ≡ true → is_load (get_or ss j e) ≡ true
    → holds x (w (get_or ss i d)) ≡ true → holds x (w (get_or ss j e)) ≡ true → i ≡ j
one_index w [] i j x d e none m n is load h g = absurd (omega (arith, m))
one_index w (s ∷ ss) zero zero x d e none m n is load h g = refl
one_index w (s ∷ ss) zero (suc j) x d e none m n is load h g = absurd (first_apart w s ss j x e none is (omega (arith, n)) load h g)
one_index w (s ∷ ss) (suc i) zero x d e none m n is load h g = absurd (first_apart w s ss i x d none load (omega (arith, m)) is g h)
one_index w (s ∷ ss) (suc i) (suc j) x d e none m n is load h g = ap suc (one_index w ss i j x d e (none_later w s ss none) (omega (arith, m)) (omega (arith, n)) is load h g)

-- ---- a library

alone : (o : List ℕ) (x : Object) → IsOriginal o x → any_share (places_of o) ≡ false
unfolding reloc_overlap
alone o x is = subst (λ (ws : List Window). any_share ws ≡ false) (parts_found o x is).placed (accepted o x is.accepted).apart

stands_by : (place k n : ℕ) (s borne : Segment) (file : List ℕ) → get_or (part borne.offset borne.filesz file) k 0 ≡ n → byte_at (place + s.vaddr + k) (stands place file s borne) ≡ n
stands_by place k n s borne file same = let at : place + s.vaddr + k - (place + s.vaddr) ≡ k = omega arith in rw at same

-- a place in the file part has all its bytes there
whole_place : (ss : List Segment) (start : ℕ) (place : Window) → not (is_held false ss place) ≡ false → (spot_of ss start place).size ≡ place.size
unfolding spot_of is_held in_file_part
whole_place ss start place e = elim (cases_Bool ((file_window ss place).size == place.size)) [
  | inl whole ↦ eqb-true (file_window ss place).size place.size whole
  | inr other ↦ absurd (true≢false (rw other at e))
]

-- as each place of a library is
whole_at : (o : List ℕ) (x : Object) (start a : ℕ) (w : Window) → IsOriginal o x → (header o).kind ≡ 3 → a < length (places_of o) → (spot_of (ss_of o) start (place_of o a w)).size ≡ (place_of o a w).size
unfolding reloc_outside
whole_at o x start a w is kind lt =
    let found = parts_found o x is in
    let other : is_exec x ≡ false = rw (found.head, kind) refl in
    let held : list_any (λ memory. not (is_held (is_exec x) x.segments memory)) (places x.relocations) ≡ false = (accepted o x is.accepted).held in
    let none : list_any (λ memory. not (is_held false (ss_of o) memory)) (places_of o) ≡ false = rw (other, found.rows, found.placed) at held in
    whole_place (ss_of o) start (place_of o a w) (not_any_at (λ memory. not (is_held false (ss_of o) memory)) (places_of o) a w none lt)

pub libraries_hold_fills : LibrariesHoldFills
unfolding planned library_plan
libraries_hold_fills o x slot stamp checksum l flat digest i k a j d w f u =
    let c = library_conditions o x slot stamp checksum l flat digest f in
    let org = original_of o in
    let ss = ss_of o in
    let p = library_plan org slot stamp checksum l in
    let undo = undo_part p org digest in
    let file = form_of_library org slot stamp checksum l flat digest in
    let fits = (library_is o slot stamp checksum l flat digest c).fits in
    let acc = accepted o x f.original.accepted in
    let start = zeros_from (last_load ss) in
    let links = link_windows (header o) ss (secs_of o) (tags_of o) in
    let n : i < length ss = omega (arith, u.lt, segment_count o (header o)) in
    let within = inside o i d c.accepted u.lt in
    let borne = get_or (map (moved_segment slot) ss) i d in
    let small : SegmentFits borne = subst SegmentFits (sym (get_or-map (moved_segment slot) ss i d d n)) (moved_fits slot (get_or ss i d) (own_fits org i d (taken o c.accepted c.few) u.lt)) in
    let there : segment file (header file) i ≡ borne = segment_there p org flat undo fits i d (omega (arith, u.lt, fits.segments)) small in
    let seen : j < (spot_of ss start (place_of o a w)).size = omega (arith, u.inside, whole_at o x start a w f.original f.kind u.place) in
    stands_by slot k _ (segment_of o i d) (segment file (header file) i) file
    (ap (λ (b : Segment). get_or (part b.offset b.filesz file) k 0) there
    ∙ visible_fill p org flat undo (places_of o) links start a i j k d borne w fits (apart_of o x acc c.accepted (alone o x f.original)) (loads_of o x acc) (loads_are o x f.original) u.place u.lt u.load within
    (inl (library_kept org slot i d n within)) u.at u.below seen)

-- ---- a program

held_at : (ss : List Segment) (last : Segment) (ws : List Window) (a : ℕ) (w : Window) → AllByRecursion (IsHeld ss last) ws → a < length ws → IsHeld ss last (get_or ws a w)
held_at ss last [] a w all lt = absurd (omega (arith, lt))
held_at ss last (v ∷ ws) zero w all lt = all.0
held_at ss last (v ∷ ws) (suc a) w all lt = held_at ss last ws a w all.1 (omega (arith, lt))

-- how the form bears the segment of each index
borne_at : (o : List ℕ) (index : ℕ) (last : Segment) (e : Extension) (flat : List ℕ) (i : ℕ) (d : Segment) → IsProgram (original_of o) index last → i < (header o).phnum
    → IsGrown (program_plan (original_of o) index last flat e) (original_of o) flat last (get_or (program_plan (original_of o) index last flat e).segments index d)
    → (IsKept (program_plan (original_of o) index last flat e).cut (length (program_plan (original_of o) index last flat e).more) (segment_of o i d) (get_or (program_plan (original_of o) index last flat e).segments i d)
    ⊎ IsGrown (program_plan (original_of o) index last flat e) (original_of o) flat (segment_of o i d) (get_or (program_plan (original_of o) index last flat e).segments i d))
borne_at o index last e flat i d is lt grown =
    let org = original_of o in
    let p = program_plan org index last flat e in
    elim (cases_Bool (i == index)) [
      | inl hit ↦
          let same : i ≡ index = grind (arith, nat_tests) in
          let here : IsGrown p org flat (segment_of o index d) (get_or p.segments index d) = subst (λ (s : Segment). IsGrown p org flat s (get_or p.segments index d)) (sym (is.is_last d)) grown in
          inr (subst (λ (n : ℕ). IsGrown p org flat (segment_of o n d) (get_or p.segments n d)) (sym same) here)
      | inr miss ↦
          let other : i ≢ index = grind (arith, nat_tests) in
          inl (program_kept org index last e flat i d is lt other)
    ]

-- the last PT_LOAD grows
pub program_grows : (o : List ℕ) (x : Object) (index : ℕ) (last : Segment) (e : Extension) (flat : List ℕ) (digest : Option (List ℕ)) (d : Segment) → FormsProgram o x index last e flat digest
    → IsGrown (program_plan (original_of o) index last flat e) (original_of o) flat last (get_or (program_plan (original_of o) index last flat e).segments index d)
program_grows o x index last e flat digest d f =
    let c = program_conditions o x index last e flat digest f in
    let org = original_of o in
    let links = link_windows (header o) (ss_of o) (secs_of o) (tags_of o) in
    let bears : Loads org (places_of o) links (last.vaddr + last.filesz) = subst (λ (n : ℕ). Loads org (places_of o) links n) (ap zeros_from f.latest) (loads_of o x (accepted o x f.original.accepted)) in
    program_grown org index last e flat d c.program f.filled (program_hidden org (places_of o) links index last (held_program o x index last e flat digest f) bears)

holds_by : (x : ℕ) (s : Segment) → s.vaddr ≤ x → x < s.vaddr + s.memsz → holds x (memory_window s) ≡ true
holds_by x s from to = grind (arith, nat_tests)

pub programs_hold_fills : ProgramsHoldFills
unfolding planned
programs_hold_fills o x index last e flat digest i k a j d w f u =
    let c = program_conditions o x index last e flat digest f in
    let org = original_of o in
    let ss = ss_of o in
    let p = program_plan org index last flat e in
    let undo = undo_part p org digest in
    let file = form_of_program org index last e flat digest in
    let fits = (program_is o index last e flat digest c).fits in
    let acc = accepted o x f.original.accepted in
    let start : ℕ = last.vaddr + last.filesz in
    let links = link_windows (header o) ss (secs_of o) (tags_of o) in
    let held = held_program o x index last e flat digest f in
    let bears : Loads org (places_of o) links start = subst (λ (n : ℕ). Loads org (places_of o) links n) (ap zeros_from f.latest) (loads_of o x acc) in
    let grown = program_grows o x index last e flat digest d f in
    let n : i < length ss = omega (arith, u.lt, segment_count o (header o)) in
    let m : index < length ss = omega (arith, c.program.last_in, segment_count o (header o)) in
    let within = inside o i d c.accepted u.lt in
    let place = place_of o a w in
    let there : segment file (header file) i ≡ get_or p.segments i d =
    segment_there p org flat undo fits i d (omega (arith, u.lt, fits.segments)) (program_segment_fits org index last e flat (length undo) i d (taken o c.accepted c.few) c.program fits u.lt within) in
    stands_by 0 k _ (segment_of o i d) (segment file (header file) i) file
    (ap (λ (b : Segment). get_or (part b.offset b.filesz file) k 0) there
    ∙ elim (cases_lt j (spot_of ss start place).size) [
      | inl seen ↦
          visible_fill p org flat undo (places_of o) links start a i j k d (get_or p.segments i d) w fits (apart_of o x acc c.accepted (alone o x f.original)) bears held.are u.place u.lt u.load within
          (borne_at o index last e flat i d c.program u.lt grown) u.at u.below seen
      | inr past ↦
          let at = held_at ss last (places_of o) a w held.held u.place in
          let zero = zero_byte_of ss last index j d place held.are m held.is_load c.program.size (c.program.is_last d) at past u.inside in
          let address : ℕ = place.at + j in
          let mine : holds address (memory_window (segment_of o i d)) ≡ true = holds_by address (segment_of o i d) (omega (arith, u.at)) (omega (arith, u.at, u.below)) in
          let its : holds address (memory_window last) ≡ true = holds_by address last (omega (arith, zero.2)) (omega (arith, zero.3, u.inside)) in
          let same : i ≡ index = one_index memory_window ss i index address d d (memory_apart 0 (loads ss) held.are.ascend) n m u.load (rw (c.program.is_last d) held.is_load) mine (rw (c.program.is_last d) its) in
          let is : segment_of o i d ≡ last = ap (λ (y : ℕ). segment_of o y d) same ∙ c.program.is_last d in
          let byte : place.at + j - last.vaddr ≡ k = omega (arith, u.at, ap (λ (s : Segment). s.vaddr) is) in
          let own = is_own ss index d last held.are m held.is_load c.program.size (c.program.is_last d) in
          let apart : AreAllApart (hidden_windows (ps_of o)) = subst (λ (y : ℕ). AreAllApart (hidden_windows (spots_of ss y (places_of o)))) (sym (ap zeros_from f.latest)) (zeros_apart ss last (places_of o) c.program.size own held.held (alone o x f.original)) in
          let filled = hidden_fill p org flat undo (places_of o) links a index j d (get_or p.segments index d) last w fits apart bears held u.place at grown past u.inside in
          ap (λ (y : ℕ). get_or (part (get_or p.segments y d).offset (get_or p.segments y d).filesz file) k 0) same
          ∙ ap (λ (y : ℕ). get_or (part (get_or p.segments index d).offset (get_or p.segments index d).filesz file) y 0) (sym byte)
          ∙ filled
    ])
