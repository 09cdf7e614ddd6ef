-- The words that a library's form holds at the places of its relocations.
use Rattle.std.proofs.Common.{◌≡◌, ℕ, zero, suc, ◌+◌, ◌-◌, ◌<◌, ◌≤◌, true, false, List, [], ◌∷◌, ◌++◌, length, get_or, take, drop, Option, Some, None, refl, sym, ap, subst, ◌∙◌, arith, inl, inr}
use Rattle.std.specs.Prelude.{◌==◌, not}
use Rattle.std.specs.List.{All, AllZip, list_any}
use Rattle.std.specs.Option.{unwrap_or}
use Rattle.std.proofs.lemmas.Bool.{cases_Bool, eqb-true, true≢false}
use Rattle.std.proofs.lemmas.Grind.{same_number_lists}
use Rattle.std.proofs.lemmas.List.{append-nil, drop-drop, drop_at, get_or-map, length-map, take_all, take_at}
use Rattle.std.proofs.lemmas.List.Elements.{All-cons, All-map, All-nil}
use Rattle.pl_base.specs.Bytes.{bytes64, part}
use Rattle.pl_base.specs.Memory.{Piece, byte_at, is_within, layered, lies, read}
use Rattle.pl_base.specs.Sums.{plus}
use Rattle.pl_base.specs.Windows.{AllIn, Window}
use Rattle.pl_base.proofs.MemoryLaws.{layered_is, read_byte, read_length, within_is, within_true}
use Rattle.pl_base.proofs.WindowLaws.{length-part, part_byte}
use Rattle.pl_base.proofs.WordLaws.{length_bytes64}
use Rattle.pl_elf.specs.Clauses.{AreLoads}
use Rattle.pl_elf.specs.Headers.{is_load, loads}
use Rattle.pl_elf.specs.declared.segment.Segment.{Segment}
use Rattle.pl_form.specs.Faults.{IsFirm}
use Rattle.pl_form.specs.Library.{IsFirmLibrary, library_with}
use Rattle.pl_form.specs.Pieces.{IsPieceOf, StandsFor, is_over}
use Rattle.pl_form.specs.Words.{all_filled, filled, word_at}
use Rattle.pl_form.proofs.FirmLaws.{library_three, original_is}
use Rattle.pl_form.proofs.LayoutLaws.{length-all_filled, length-filled, spot_in}
use Rattle.pl_form.proofs.LengthLaws.{spots_inside}
use Rattle.pl_form.proofs.PieceLaws.{listed_moved, listed_stands}
use Rattle.pl_image.specs.Loads.{IsPlaced, loaded_piece, pieces_at}
use Rattle.pl_object.specs.Accepted.{is_exec}
use Rattle.pl_object.specs.FilePart.{file_window, in_file_part}
use Rattle.pl_object.specs.PlaceClauses.{is_held, last_load, reloc_outside}
use Rattle.pl_object.specs.Relocations.{place, places}
use Rattle.pl_object.specs.declared.object.Object.{Object}
use Rattle.pl_object.specs.declared.reloc.Reloc.{Reloc}
use Rattle.pl_object.proofs.AcceptedLaws.{accepted}
use Rattle.pl_form.specs.Back.{spot_windows, wanted}
use Rattle.pl_form.specs.Found.{places_of, ps_of, ss_of, zeros_from}
use Rattle.pl_form.specs.Loads.{fills, pieces_of, spot_of, spots_of}
use Rattle.pl_form.specs.declared.parts.Spot.{Spot}
use Rattle.pl_form.proofs.PlaceByteLaws.{spot_byte}
use Rattle.pl_form.proofs.StandLaws.{parts_found}
use Rattle.pl_value.proofs.LoneLaws.{none_at}
use Rattle.pl_value.proofs.PlaceLaws.{IsHeld, relocs_held}
use Rattle.pl_conflict.specs.Conflicts.{held}
use Rattle.pl_conflict.specs.Held.{FormsHoldWords, IsHeldWord, held_at}
use Rattle.pl_conflict.proofs.StandLaws.{moved_pieces, own_pieces}

-- ---- eight bytes of pieces

-- some piece is over an address, and all that are have one byte there
record Has (ps : List Piece) (a v : ℕ) : Type 0 where
  each : All (λ p. lies a p ≡ true → byte_at a p ≡ v) ps
  some : list_any (lies a) ps ≡ true

read_pieces : (ps : List Piece) (start : ℕ) (bytes : List ℕ) → length bytes ≡ 8 → ((k : ℕ) → k < 8 → Has ps (start + k) (get_or bytes k 0)) → read (layered ps) start 8 ≡ bytes
read_pieces ps start bytes eight has =
    same_number_lists (read (layered ps) start 8) bytes (read_length (layered ps) start 8 ∙ sym eight)
    (λ k lt.
    let below : k < 8 = omega (arith, lt, read_length (layered ps) start 8) in
    let h = has k below in
    read_byte (layered ps) start 8 k below
    ∙ ap (λ (o : Option ℕ). unwrap_or o 0) (layered_is ps (start + k) (Some (get_or bytes k 0)) (λ i d within hit. ap (λ (n : ℕ). Some n) (h.each i d within hit)) h.some))

-- ---- pieces of a form

zip_some : (x : Object) (given : List (List ℕ)) (slot a : ℕ) (ps qs : List Piece) → AllZip (IsPieceOf x given slot a) ps qs → list_any (lies a) qs ≡ list_any (lies a) ps
zip_some x given slot a [] [] zip = refl
zip_some x given slot a [] (q ∷ qs) zip = absurd zip
zip_some x given slot a (p ∷ ps) [] zip = absurd zip
zip_some x given slot a (p ∷ ps) (q ∷ qs) zip = rw (zip.0.start, zip.0.size, zip_some x given slot a ps qs zip.1) refl

-- under the place of an index, each has the byte that was given for it
zip_each : (x : Object) (given : List (List ℕ)) (slot a i v : ℕ) (d : Reloc) (ps qs : List Piece) → i < length x.relocations → is_over slot a (get_or x.relocations i d) ≡ true → get_or (get_or given i []) (a - (slot + (get_or x.relocations i d).address)) 0 ≡ v
    → AllZip (IsPieceOf x given slot a) ps qs → All (λ q. lies a q ≡ true → byte_at a q ≡ v) qs
zip_each x given slot a i v d [] [] lt over is zip = All-nil (λ (q : Piece). lies a q ≡ true → byte_at a q ≡ v)
zip_each x given slot a i v d [] (q ∷ qs) lt over is zip = absurd zip
zip_each x given slot a i v d (p ∷ ps) [] lt over is zip = absurd zip
zip_each x given slot a i v d (p ∷ ps) (q ∷ qs) lt over is zip =
    let same : lies a q ≡ lies a p = rw (zip.0.start, zip.0.size) refl in
    All-cons (λ (q : Piece). lies a q ≡ true → byte_at a q ≡ v) q qs (λ hit. zip.0.under i d lt (sym same ∙ hit) over ∙ is) (zip_each x given slot a i v d ps qs lt over is zip.1)

-- ---- bytes for the places

behind_first : (p : Spot) (one rest : List ℕ) → length one ≡ p.size + p.hidden → drop p.hidden (drop p.size (one ++ rest)) ≡ rest
behind_first p one rest n = drop-drop p.hidden p.size (one ++ rest) ∙ drop_at one rest (p.size + p.hidden) n

filled_at : (o : List ℕ) (ps : List Spot) (words : List (Option ℕ)) (i : ℕ) (d : Spot) → AllIn (length o) (spot_windows ps) → i < length ps → get_or (fills ps (all_filled o ps words)) i [] ≡ filled o (get_or ps i d) (word_at words i)
filled_at o [] words i d fits lt = absurd (omega (arith, lt))
filled_at o (p ∷ ps) [] zero d fits lt = take_at (filled o p None) (all_filled o ps []) (p.size + p.hidden) (length-filled o p None fits.0)
filled_at o (p ∷ ps) [] (suc i) d fits lt =
    ap (λ (xs : List ℕ). get_or (fills ps xs) i []) (behind_first p (filled o p None) (all_filled o ps []) (length-filled o p None fits.0)) ∙ filled_at o ps [] i d fits.1 (omega (arith, lt))
filled_at o (p ∷ ps) (w ∷ ws) zero d fits lt = take_at (filled o p w) (all_filled o ps ws) (p.size + p.hidden) (length-filled o p w fits.0)
filled_at o (p ∷ ps) (w ∷ ws) (suc i) d fits lt =
    ap (λ (xs : List ℕ). get_or (fills ps xs) i []) (behind_first p (filled o p w) (all_filled o ps ws) (length-filled o p w fits.0)) ∙ filled_at o ps ws i d fits.1 (omega (arith, lt))

-- a place of eight bytes that all stand in the file
record IsWhole (p : Spot) : Type 0 where
  size : p.size ≡ 8
  hidden : p.hidden ≡ 0

filled_word : (o : List ℕ) (p : Spot) (word : ℕ) → IsWhole p → filled o p (Some word) ≡ bytes64 word
filled_word o p word is =
    rw (is.size, is.hidden) (append-nil (take 8 (bytes64 word) ++ []) ∙ append-nil (take 8 (bytes64 word)) ∙ take_all 8 (bytes64 word) (omega (arith, length_bytes64 word)))

filled_none : (o : List ℕ) (p : Spot) → IsWhole p → filled o p None ≡ part p.at 8 o
filled_none o p is = rw (is.size, is.hidden) (append-nil (part p.at 8 o))

-- ---- the place of a relocation

spot_at : (o : List ℕ) (x : Object) (i : ℕ) (d : Reloc) (e : Spot) → IsFirm o x → i < length x.relocations → get_or (ps_of o) i e ≡ spot_of x.segments (zeros_from (last_load x.segments)) (place (get_or x.relocations i d))
spot_at o x i d e firm lt =
    let found = parts_found o x (original_is o x firm) in
    let start = zeros_from (last_load x.segments) in
    let all : spots_of x.segments start (places x.relocations) ≡ ps_of o =
    ap (λ (ws : List Window). spots_of x.segments start ws) found.placed ∙ ap (λ (ss : List Segment). spots_of ss (zeros_from (last_load ss)) (places_of o)) found.rows in
    ap (λ (ps : List Spot). get_or ps i e) (sym all)
    ∙ get_or-map (spot_of x.segments start) (places x.relocations) i (place d) e (omega (arith, lt, length-map x.relocations place))
    ∙ ap (spot_of x.segments start) (get_or-map place x.relocations i d (place d) lt)

in_file : (ss : List Segment) (w : Window) → not (is_held false ss w) ≡ false → (file_window ss w).size ≡ w.size
unfolding is_held in_file_part
in_file ss w e = elim (cases_Bool ((file_window ss w).size == w.size)) [
  | inl whole ↦ eqb-true (file_window ss w).size w.size whole
  | inr other ↦ absurd (true≢false (rw other at e))
]

-- as each place of a library is
place_in_file : (o : List ℕ) (x : Object) (i : ℕ) (d : Reloc) → IsFirmLibrary o x → i < length x.relocations → (file_window x.segments (place (get_or x.relocations i d))).size ≡ (get_or x.relocations i d).width
unfolding reloc_outside
place_in_file o x i d firm lt =
    let found = parts_found o x (original_is o x firm.firm) in
    let other : is_exec x ≡ false = rw (found.head, library_three o x firm.firm.accepted firm.library) refl in
    let held : list_any (λ memory. not (is_held (is_exec x) x.segments memory)) (places x.relocations) ≡ false = (accepted o x firm.firm.accepted).held in
    let none : list_any (λ memory. not (is_held false x.segments memory)) (places x.relocations) ≡ false = rw other at held in
    let one = none_at (λ memory. not (is_held false x.segments memory)) (places x.relocations) i (place d) (omega (arith, lt, length-map x.relocations place)) none in
    in_file x.segments (place (get_or x.relocations i d)) (rw (get_or-map place x.relocations i d (place d) lt) at one)

whole_spot : (ss : List Segment) (start : ℕ) (w : Window) → w.size ≡ 8 → (file_window ss w).size ≡ w.size → IsWhole (spot_of ss start w)
unfolding spot_of
whole_spot ss start w eight whole = record { size = whole ∙ eight; hidden = omega (arith, whole) }

-- ---- the word that the original holds

loads_each : (P : Segment → Type 0) (ss : List Segment) → ((i : ℕ) (d : Segment) → i < length ss → is_load (get_or ss i d) ≡ true → P (get_or ss i d)) → All P (loads ss)
loads_each P [] each = All-nil P
loads_each P (s ∷ ss) each =
    let rest : All P (loads ss) = loads_each P ss (λ i d lt load. each (suc i) d (omega (arith, lt)) load) in
    elim (cases_Bool (is_load s)) [
      | inl hit ↦ rw hit (All-cons P s (loads ss) (each zero s (omega arith) hit) rest)
      | inr miss ↦ rw miss rest
    ]

load_byte : (o : List ℕ) (ss : List Segment) (start i j a : ℕ) (d : Segment) (w : Window) → AreLoads (loads ss) → i < length ss → is_load (get_or ss i d) ≡ true → a ≡ w.at + j → j < 8 → IsWhole (spot_of ss start w)
    → lies a (loaded_piece 0 o (get_or ss i d)) ≡ true → byte_at a (loaded_piece 0 o (get_or ss i d)) ≡ get_or (part (spot_of ss start w).at 8 o) j 0
load_byte o ss start i j a d w are lt load at below whole hit =
    let s = get_or ss i d in
    let p = within_true (0 + s.vaddr) s.memsz a hit in
    let k : ℕ = a - (0 + s.vaddr) in
    let b = spot_byte ss start i j k d w are lt load (omega (arith, p.0, at)) (omega (arith, p.0, p.1)) (omega (arith, below, whole.size)) in
    part_byte s.offset s.filesz o k b.0 ∙ ap (λ (n : ℕ). get_or o n 0) b.1 ∙ sym (part_byte (spot_of ss start w).at 8 o j below)

own_hit : (n size : ℕ) → 0 < size → is_within n size n ≡ true
own_hit n size some = within_is n size n (omega arith) (omega (arith, some))

-- where a place has eight bytes, no sum wraps, and each has a piece
record IsSound (place : ℕ) (ps : List Piece) (r : Reloc) : Type 0 where
  straight : plus place r.address ≡ place + r.address
  over : (k : ℕ) → k < 8 → is_over place (place + r.address + k) r ≡ true
  some : (k : ℕ) → k < 8 → list_any (lies (place + r.address + k)) ps ≡ true

sound_at : (place : ℕ) (o : List ℕ) (x : Object) (i : ℕ) (d : Reloc) → IsFirm o x → IsPlaced place x → i < length x.relocations → (get_or x.relocations i d).width ≡ 8 → IsSound place (pieces_at place o x) (get_or x.relocations i d)
sound_at place o x i d firm placed lt wide =
    let r = get_or x.relocations i d in
    let h : IsHeld place (pieces_at place o x) r = relocs_held place o o x placed firm.accepted i d lt in
    let straight : plus place r.address ≡ place + r.address = h.start (plus place r.address) (own_hit (plus place r.address) r.width (omega (arith, wide))) in
    let over : (k : ℕ) → k < 8 → is_over place (place + r.address + k) r ≡ true = λ k below. within_is (place + r.address) r.width (place + r.address + k) (omega arith) (omega (arith, below, wide)) in
    record {
      straight = straight;
      over = over;
      some = λ k below. h.piece (place + r.address + k) (subst (λ (n : ℕ). is_within n r.width (place + r.address + k) ≡ true) (sym straight) (over k below));
    }

placed_low : (slot : ℕ) (x : Object) → IsPlaced slot x → IsPlaced 0 x
placed_low slot x placed = record { accepted = placed.accepted; ends = λ k d lt. omega (arith, placed.ends k d lt) }

-- there is a spot for each relocation
spot_count : (o : List ℕ) (x : Object) → IsFirm o x → length (ps_of o) ≡ length x.relocations
spot_count o x firm =
    let found = parts_found o x (original_is o x firm) in
    let start = zeros_from (last_load (ss_of o)) in
    length-map (places_of o) (spot_of (ss_of o) start) ∙ ap length (sym found.placed) ∙ length-map x.relocations place

spot_whole : (o : List ℕ) (x : Object) (i : ℕ) (d : Reloc) (e : Spot) → IsFirmLibrary o x → i < length x.relocations → (get_or x.relocations i d).width ≡ 8 → IsWhole (get_or (ps_of o) i e)
spot_whole o x i d e firm lt wide =
    subst IsWhole (sym (spot_at o x i d e firm.firm lt)) (whole_spot x.segments (zeros_from (last_load x.segments)) (place (get_or x.relocations i d)) wide (place_in_file o x i d firm lt))

-- the bytes of its place in the file are those that the original holds there
original_word : (o : List ℕ) (x : Object) (i : ℕ) (d : Reloc) (e : Spot) → IsFirmLibrary o x → IsPlaced 0 x → i < length x.relocations → (get_or x.relocations i d).width ≡ 8 → held_at 0 o x (get_or x.relocations i d) ≡ part (get_or (ps_of o) i e).at 8 o
unfolding held
original_word o x i d e firm placed lt wide =
    let r = get_or x.relocations i d in
    let ss = x.segments in
    let start = zeros_from (last_load ss) in
    let p = spot_of ss start (place r) in
    let same : get_or (ps_of o) i e ≡ p = spot_at o x i d e firm.firm lt in
    let sound = sound_at 0 o x i d firm.firm placed lt wide in
    let whole : IsWhole p = subst IsWhole same (spot_whole o x i d e firm lt wide) in
    let inside = spot_in (length o) (ps_of o) i e (spots_inside o x firm.firm) (omega (arith, lt, spot_count o x firm.firm)) in
    let fits : p.at + 8 ≤ length o = subst (λ (q : Spot). q.at + q.size ≤ length o → q.at + 8 ≤ length o) same (λ le. omega (arith, le, (spot_whole o x i d e firm lt wide).size)) (subst (λ (q : Spot). q.at + q.size ≤ length o) same inside) in
    let each : (k : ℕ) → k < 8 → Has (pieces_at 0 o x) (0 + r.address + k) (get_or (part p.at 8 o) k 0) = λ k below.
    let a : ℕ = 0 + r.address + k in
    let Fits : Segment → Type 0 = λ s. lies a (loaded_piece 0 o s) ≡ true → byte_at a (loaded_piece 0 o s) ≡ get_or (part p.at 8 o) k 0 in
    let loaded : All Fits (loads ss) = loads_each Fits ss (λ j t within load. load_byte o ss start j k a t (place r) placed.accepted within load (omega arith) below whole) in
    let all : All (λ q. lies a q ≡ true → byte_at a q ≡ get_or (part p.at 8 o) k 0) (pieces_at 0 o x) = All-map (λ q. lies a q ≡ true → byte_at a q ≡ get_or (part p.at 8 o) k 0) (loaded_piece 0 o) (loads ss) loaded in
    record { each = all; some = sound.some k below }
    in
    ap (λ (n : ℕ). read (layered (pieces_at 0 o x)) n 8) sound.straight ∙ read_pieces (pieces_at 0 o x) (0 + r.address) (part p.at 8 o) (length-part p.at 8 o fits) each ∙ ap (λ (q : Spot). part q.at 8 o) (sym same)

-- ---- the whole

word_bytes : (o : List ℕ) (x : Object) (i : ℕ) (d : Reloc) (e : Spot) (own : Option ℕ) (word : ℕ) → IsFirmLibrary o x → IsPlaced 0 x → i < length x.relocations → (get_or x.relocations i d).width ≡ 8
    → IsHeldWord o x (get_or x.relocations i d) own word → filled o (get_or (ps_of o) i e) own ≡ bytes64 word
word_bytes o x i d e None word firm placed lt wide holds =
    filled_none o (get_or (ps_of o) i e) (spot_whole o x i d e firm lt wide) ∙ sym (original_word o x i d e firm placed lt wide) ∙ holds
word_bytes o x i d e (Some own) word firm placed lt wide holds = filled_word o (get_or (ps_of o) i e) own (spot_whole o x i d e firm lt wide) ∙ ap bytes64 (sym holds)

pub forms_hold : FormsHoldWords
unfolding held
forms_hold o file x slot words i d word f placed lt wide holds =
    let r = get_or x.relocations i d in
    let e = spot_of x.segments 0 (place r) in
    let ps = ps_of o in
    let flat = all_filled o ps words in
    let given = fills ps flat in
    let form = library_with o slot f.stamp f.list flat f.version in
    let spots = spots_inside o x f.firm.firm in
    let full : length flat ≡ wanted ps = length-all_filled o ps words spots in
    let moved : pieces_of slot form x.segments (ss_of form) ≡ pieces_at slot form x =
    ap (pieces_of slot form x.segments) (listed_moved o x slot f.stamp f.list flat f.version f.firm f.even full f.short) ∙ moved_pieces slot slot form x.segments in
    let sound = sound_at slot o x i d f.firm.firm placed lt wide in
    let bytes : get_or given i [] ≡ bytes64 word =
    filled_at o ps words i e spots (omega (arith, lt, spot_count o x f.firm.firm)) ∙ word_bytes o x i d e (word_at words i) word f.firm (placed_low slot x placed) lt wide holds in
    let each : (k : ℕ) → k < 8 → Has (pieces_at slot form x) (slot + r.address + k) (get_or (bytes64 word) k 0) = λ k below.
    let a : ℕ = slot + r.address + k in
    let at : a - (slot + r.address) ≡ k = omega arith in
    let is : get_or (get_or given i []) (a - (slot + r.address)) 0 ≡ get_or (bytes64 word) k 0 = ap (λ (xs : List ℕ). get_or xs (a - (slot + r.address)) 0) bytes ∙ ap (λ (n : ℕ). get_or (bytes64 word) n 0) at in
    let stands : StandsFor form o x given slot a = listed_stands o x slot f.stamp f.list flat f.version a f.firm f.even full f.short in
    let own : list_any (lies a) (pieces_of slot o x.segments x.segments) ≡ true = ap (λ (qs : List Piece). list_any (lies a) qs) (own_pieces slot o x.segments) ∙ sound.some k below in
    let here : Has (pieces_of slot form x.segments (ss_of form)) a (get_or (bytes64 word) k 0) = record {
      each = zip_each x given slot a i (get_or (bytes64 word) k 0) d (pieces_of slot o x.segments x.segments) (pieces_of slot form x.segments (ss_of form)) lt (sound.over k below) is stands;
      some = zip_some x given slot a (pieces_of slot o x.segments x.segments) (pieces_of slot form x.segments (ss_of form)) stands ∙ own;
    } in
    subst (λ (qs : List Piece). Has qs a (get_or (bytes64 word) k 0)) moved here
    in
    ap (λ (xs : List ℕ). held_at slot xs x r) f.is ∙ ap (λ (n : ℕ). read (layered (pieces_at slot form x)) n 8) sound.straight ∙ read_pieces (pieces_at slot form x) (slot + r.address) (bytes64 word) (length_bytes64 word) each
