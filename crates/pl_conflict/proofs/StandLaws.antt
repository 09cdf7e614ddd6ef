-- The prelinked files of a program and of libraries stand for their originals.
use Rattle.std.proofs.Common.{◌≡◌, ℕ, zero, suc, ◌+◌, ◌-◌, ◌^◌, ◌<◌, ◌≤◌, Bool, true, false, List, [], ◌∷◌, ◌++◌, length, map, get_or, Option, Some, None, Ok, refl, sym, ap, subst, ◌∙◌, zero-add, arith, inl, inr}
use Rattle.std.specs.Prelude.{◌==◌, filter, slice_index}
use Rattle.std.specs.List.{All, AllZip, list_any, concat}
use Rattle.std.specs.Option.{is_some, unwrap_or}
use Rattle.std.proofs.lemmas.Bool.{cases_Bool, and_from, or_parts, or_from, eq-eqb, not-false, false≢true, false_from_ne_true}
use Rattle.std.proofs.lemmas.List.{get_or-map}
use Rattle.std.proofs.lemmas.List.Elements.{All-nil, All-cons, All-head, All-tail, All-map}
use Rattle.std.proofs.lemmas.List.Folds.{list_any-append}
use Rattle.pl_base.specs.Memory.{Memory, Piece, Fill, is_within, lies, byte_at, layered, read, filled, over}
use Rattle.pl_base.proofs.FindLaws.{any_map}
use Rattle.pl_base.proofs.MemoryLaws.{within_true, read_byte, layered_some}
use Rattle.pl_base.proofs.SumLaws.{plus_small}
use Rattle.pl_base.specs.Sums.{plus}
use Rattle.pl_elf.specs.Headers.{is_load, is_moved_kind, loads}
use Rattle.pl_elf.specs.declared.constants.TheConstants.{ADDRESS_LIMIT}
use Rattle.pl_elf.specs.declared.segment.Segment.{Segment}
use Rattle.pl_form.specs.Library.{IsFirmLibrary, IsEven, library_with}
use Rattle.pl_form.specs.Pieces.{is_linked, is_over, IsPieceOf, StandsFor, IsGiven as IsGivenFor}
use Rattle.pl_form.specs.Program.{IsFirmProgram, program_with}
use Rattle.pl_form.specs.declared.constants.TheConstants.{STORED}
use Rattle.pl_form.specs.declared.version.Version.{Version}
use Rattle.pl_form.proofs.PieceLaws.{library_stands, program_stands, library_moved}
use Rattle.pl_image.specs.Image.{all_pieces, any_masked}
use Rattle.pl_image.specs.Loads.{loaded_piece, loaded_pieces, pieces_at, load_at, mask_at, loads_table, is_masked, IsPlaced}
use Rattle.pl_image.specs.declared.loaded_object.LoadedObject.{LoadedObject}
use Rattle.pl_image.specs.declared.mask.Load.{Load}
use Rattle.pl_image.specs.declared.mask.Mask.{Mask}
use Rattle.pl_lists.specs.declared.conflict_row.ConflictRow.{ConflictRow}
use Rattle.pl_lists.specs.declared.list_row.ListRow.{ListRow}
use Rattle.pl_object.specs.declared.object.Object.{Object}
use Rattle.pl_object.specs.declared.reloc.Reloc.{Reloc}
use Rattle.pl_form.specs.Back.{wanted}
use Rattle.pl_form.specs.Found.{ss_of, ps_of}
use Rattle.pl_form.specs.Loads.{stands, pieces_of, fills}
use Rattle.pl_form.specs.Parts.{moved_segment}
use Rattle.pl_tls.specs.declared.module.Module.{Module}
use Rattle.pl_value.specs.Laws.{AreRead}
use Rattle.pl_value.specs.Linked.{under, words, copies, worded, relocated}
use Rattle.pl_value.specs.Meanings.{Row, row, rows, rows_from, given, meanings}
use Rattle.pl_value.specs.Ordinary.{part_of, loaded_from, loaded_objects, ArePlaced}
use Rattle.pl_value.specs.Targets.{base_of}
use Rattle.pl_value.specs.declared.meaning.Meaning.{Meaning}
use Rattle.pl_value.proofs.MeaningLaws.{IsGiven, meanings_given, zip_weaker}
use Rattle.pl_value.proofs.PlaceLaws.{reloc_over, IsHeld, relocs_held}
use Rattle.pl_conflict.specs.Complete.{Stands, LibrariesStand, StandFor}
use Rattle.pl_conflict.specs.Fast.{IsForm, Holds, is_library}
use Rattle.pl_conflict.specs.Prelinked.{is_program_place}
use Rattle.pl_conflict.specs.Standing.{standing_from, standing}
use Rattle.pl_conflict.proofs.CompleteLaws.{is_byte, either_first, either_second, holds_of}
use Rattle.pl_conflict.proofs.GivenLaws.{IsOwnGiven, own_meanings}

-- ---- pieces, member by member

zip_append : {X Y : Type 0} (R : X → Y → Type 0) (xs : List X) (ys : List Y) (vs : List X) (ws : List Y) → AllZip R xs ys → AllZip R vs ws → AllZip R (xs ++ vs) (ys ++ ws)
zip_append R [] [] vs ws one two = two
zip_append R [] (y ∷ ys) vs ws one two = absurd one
zip_append R (x ∷ xs) [] vs ws one two = absurd one
zip_append R (x ∷ xs) (y ∷ ys) vs ws one two = (one.0, zip_append R xs ys vs ws one.1 two)

-- pairs for which more is known of the first
zip_with : {X Y : Type 0} (R S : X → Y → Type 0) (P : X → Type 0) (xs : List X) (ys : List Y) → ((x : X) (y : Y) → P x → R x y → S x y) → AllZip R xs ys → All P xs → AllZip S xs ys
zip_with R S P [] [] step zip all = tt
zip_with R S P [] (y ∷ ys) step zip all = absurd zip
zip_with R S P (x ∷ xs) [] step zip all = absurd zip
zip_with R S P (x ∷ xs) (y ∷ ys) step zip all = (step x y (All-head P x xs all) zip.0, zip_with R S P xs ys step zip.1 (All-tail P x xs all))

abbrev before : List ℕ → List (List ℕ) → ℕ → Object → List Piece
before places originals member o = pieces_at (base_of places member) (part_of originals member) o

abbrev after : List ℕ → List (List ℕ) → ℕ → Object → List Piece
after places files member o = pieces_of (base_of places member) (part_of files member) o.segments (ss_of (part_of files member))

zip_from : (R : Piece → Piece → Type 0) (places : List ℕ) (originals files : List (List ℕ)) (member : ℕ) (os : List Object)
    → ((k : ℕ) (d : Object) → k < length os → AllZip R (before places originals (member + k) (get_or os k d)) (after places files (member + k) (get_or os k d)))
    → AllZip R (all_pieces (loaded_from places originals member os)) (all_pieces (standing_from places files member os))
unfolding loaded_from standing_from
zip_from R places originals files member [] each = tt
zip_from R places originals files member (o ∷ os) each =
    let Both : ℕ → Object → Type 0 = λ n x. AllZip R (before places originals n x) (after places files n x) in
    let first : Both member o = subst (λ (n : ℕ). Both n o) (omega arith) (each zero o (omega arith)) in
    let next : (k : ℕ) (d : Object) → k < length os → Both (member + 1 + k) (get_or os k d) = λ k d lt. subst (λ (n : ℕ). Both n (get_or os k d)) (omega arith) (each (suc k) d (omega (arith, lt))) in
    zip_append R (before places originals member o) (after places files member o) (all_pieces (loaded_from places originals (member + 1) os)) (all_pieces (standing_from places files (member + 1) os))
    first (zip_from R places originals files (member + 1) os next)

-- ---- an original, and a library's file

pub own_pieces : (place : ℕ) (bytes : List ℕ) (ss : List Segment) → pieces_of place bytes ss ss ≡ loaded_pieces place bytes (loads ss)
unfolding pieces_of
own_pieces place bytes [] = refl
own_pieces place bytes (s ∷ ss) = elim (cases_Bool (is_load s)) [
  | inl hit ↦ rw hit (ap (λ (ps : List Piece). loaded_piece place bytes s ∷ ps) (own_pieces place bytes ss))
  | inr miss ↦ rw miss (own_pieces place bytes ss)
]

moved_stands : (place slot : ℕ) (file : List ℕ) (s : Segment) → stands place file s (moved_segment slot s) ≡ loaded_piece place file s
moved_stands place slot file s = elim (cases_Bool (is_moved_kind s.kind)) [
  | inl hit ↦ rw hit refl
  | inr miss ↦ rw miss refl
]

pub moved_pieces : (place slot : ℕ) (file : List ℕ) (ss : List Segment) → pieces_of place file ss (map (moved_segment slot) ss) ≡ loaded_pieces place file (loads ss)
unfolding pieces_of
moved_pieces place slot file [] = refl
moved_pieces place slot file (s ∷ ss) = elim (cases_Bool (is_load s)) [
  | inl hit ↦ rw hit (ap (λ (p : Piece). p ∷ pieces_of place file ss (map (moved_segment slot) ss)) (moved_stands place slot file s) ∙ ap (λ (ps : List Piece). loaded_piece place file s ∷ ps) (moved_pieces place slot file ss))
  | inr miss ↦ rw miss (moved_pieces place slot file ss)
]

-- a file is the form of a library for the place
pub record IsLibraryFile (place : ℕ) (file original : List ℕ) (x : Object) : Type 0 where
  pub stamp : ℕ
  pub list : List ListRow
  pub flat : List ℕ
  pub version : Version
  pub firm : IsFirmLibrary original x
  pub even : IsEven place
  pub filled : length flat ≡ wanted (ps_of original)
  pub small : length file ≤ STORED
  pub is : file ≡ library_with original place stamp list flat version

-- a file is the form of a program with these bytes at its places
pub record IsProgramFile (file original : List ℕ) (x : Object) (given : List (List ℕ)) : Type 0 where
  pub list : List ListRow
  pub conflicts : List ConflictRow
  pub version : Version
  pub firm : IsFirmProgram original x
  pub sizes : AllZip IsGivenFor given x.relocations
  pub small : length file ≤ STORED
  pub is : file ≡ program_with original list (concat given) conflicts version

-- what stands at an address, whatever the bytes at the places are
record StandsThere (file original : List ℕ) (x : Object) (place a : ℕ) : Type 0 where
  given : List (List ℕ)
  stands : StandsFor file original x given place a

library_there : (place : ℕ) (file original : List ℕ) (x : Object) (a : ℕ) → IsLibraryFile place file original x → StandsThere file original x place a
library_there place file original x a f = record {
  given = fills (ps_of original) f.flat;
  stands = subst (λ (xs : List ℕ). StandsFor xs original x (fills (ps_of original) f.flat) place a) (sym f.is)
      (library_stands original x place f.stamp f.list f.flat f.version a f.firm f.even f.filled (subst (λ (xs : List ℕ). length xs ≤ STORED) f.is f.small));
}

library_loads : (place : ℕ) (file original : List ℕ) (x : Object) → IsLibraryFile place file original x → pieces_at place file x ≡ pieces_of place file x.segments (ss_of file)
library_loads place file original x f =
    let small = subst (λ (xs : List ℕ). length xs ≤ STORED) f.is f.small in
    let moved = library_moved original x place f.stamp f.list f.flat f.version f.firm f.even f.filled small in
    sym (ap (pieces_of place file x.segments) (ap ss_of f.is ∙ moved) ∙ moved_pieces place place file x.segments)

program_there : (place : ℕ) (file original : List ℕ) (x : Object) (given : List (List ℕ)) (a : ℕ) → place ≡ 0 → IsProgramFile file original x given → StandsFor file original x given place a
program_there place file original x bytes a first f =
    subst (λ (n : ℕ). StandsFor file original x bytes n a) (sym first)
    (subst (λ (xs : List ℕ). StandsFor xs original x bytes 0 a) (sym f.is)
    (program_stands original x f.list bytes f.conflicts f.version a f.firm f.sizes (subst (λ (xs : List ℕ). length xs ≤ STORED) f.is f.small)))

-- ---- where the pieces stand

extents : (file original : List ℕ) (x : Object) (given : List (List ℕ)) (place a : ℕ) → StandsFor file original x given place a → AllZip Stands (pieces_at place original x) (pieces_of place file x.segments (ss_of file))
extents file original x given place a stood =
    subst (λ (ps : List Piece). AllZip Stands ps (pieces_of place file x.segments (ss_of file))) (own_pieces place original x.segments)
    (zip_weaker (IsPieceOf x given place a) Stands (pieces_of place original x.segments x.segments) (pieces_of place file x.segments (ss_of file)) (λ p q is. record { start = is.start; size = is.size }) stood)

-- ---- bytes under no place

linked_is : (place : ℕ) (x : Object) (a : ℕ) → is_linked place x a ≡ is_masked (mask_at place x) a
unfolding is_linked is_masked
linked_is place x a = sym (any_map (λ (load : Load). list_any (loads_table a load) x.tables) (load_at place) (loads x.segments))

over_none : (place a : ℕ) (rs : List Reloc) → a < 2 ^ 64 → list_any (reloc_over place a) rs ≡ false → list_any (is_over place a) rs ≡ false
over_none place a [] lt none = refl
over_none place a (r ∷ rs) lt none =
    let p = or_parts (reloc_over place a r) (list_any (reloc_over place a) rs) none in
    or_from (is_over place a r) (list_any (is_over place a) rs)
    (false_from_ne_true (is_over place a r) (λ hit. false≢true (sym p.0 ∙ ap (λ (n : ℕ). is_within n r.width a) (plus_small place r.address (omega (arith, lt, (within_true (place + r.address) r.width a hit).0))) ∙ hit)))
    (over_none place a rs lt p.1)

abbrev EndsLow : Piece → Type 0
EndsLow p = p.start + p.size ≤ ADDRESS_LIMIT

ends_low : (place : ℕ) (bytes : List ℕ) (x : Object) → IsPlaced place x → All EndsLow (pieces_at place bytes x)
ends_low place bytes x placed = All-map EndsLow (loaded_piece place bytes) (loads x.segments) (λ k d lt. sums place (get_or (loads x.segments) k d).vaddr (get_or (loads x.segments) k d).memsz (placed.ends k d lt))
  where
    sums : (a b c : ℕ) → a + (b + c) ≤ ADDRESS_LIMIT → a + b + c ≤ ADDRESS_LIMIT
    sums a b c le = omega (arith, le)

below_limit : (start size a : ℕ) → start + size ≤ ADDRESS_LIMIT → is_within start size a ≡ true → a < 2 ^ 64
below_limit start size a le hit = omega (arith, le, (within_true start size a hit).1)

member_forms : (gs : List Meaning) (a : ℕ) (file original : List ℕ) (x : Object) (given : List (List ℕ)) (place : ℕ) → StandsFor file original x given place a → IsPlaced place x → is_masked (mask_at place x) a ≡ false
    → (list_any (under a) gs ≡ false → list_any (reloc_over place a) x.relocations ≡ false) → AllZip (IsForm gs a) (pieces_at place original x) (pieces_of place file x.segments (ss_of file))
member_forms gs a file original x given place stood placed seen none =
    let own : AllZip (IsPieceOf x given place a) (pieces_at place original x) (pieces_of place file x.segments (ss_of file)) =
    subst (λ (ps : List Piece). AllZip (IsPieceOf x given place a) ps (pieces_of place file x.segments (ss_of file))) (own_pieces place original x.segments) stood in
    zip_with (IsPieceOf x given place a) (IsForm gs a) EndsLow (pieces_at place original x) (pieces_of place file x.segments (ss_of file))
    (λ p q low is. record {
      start = is.start;
      size = is.size;
      away = λ hit away. is.away hit (linked_is place x a ∙ seen) (over_none place a x.relocations (below_limit p.start p.size a low hit) (none away));
    }) own (ends_low place original x placed)

-- ---- what is asked of a whole scope, member by member

masked_at : (places : List ℕ) (originals : List (List ℕ)) (member : ℕ) (os : List Object) (a : ℕ) → any_masked (loaded_from places originals member os) a ≡ false → (k : ℕ) (d : Object) → k < length os → is_masked (mask_at (base_of places (member + k)) (get_or os k d)) a ≡ false
unfolding loaded_from
masked_at places originals member [] a none k d lt = absurd (omega (arith, lt))
masked_at places originals member (o ∷ os) a none zero d lt =
    subst (λ (n : ℕ). is_masked (mask_at (base_of places n) o) a ≡ false) (omega arith) (or_parts (is_masked (mask_at (base_of places member) o) a) (any_masked (loaded_from places originals (member + 1) os) a) none).0
masked_at places originals member (o ∷ os) a none (suc k) d lt =
    let rest = masked_at places originals (member + 1) os a (or_parts (is_masked (mask_at (base_of places member) o) a) (any_masked (loaded_from places originals (member + 1) os) a) none).1 k d (omega (arith, lt)) in
    subst (λ (n : ℕ). is_masked (mask_at (base_of places n) (get_or os k d)) a ≡ false) (omega arith) rest

abbrev row_over : List ℕ → ℕ → Row → Bool
row_over places a x = reloc_over (base_of places x.member) a x.reloc

rows_none : (places : List ℕ) (a member : ℕ) (os : List Object) → list_any (row_over places a) (rows_from member os) ≡ false → (k : ℕ) (d : Object) → k < length os → list_any (reloc_over (base_of places (member + k)) a) (get_or os k d).relocations ≡ false
unfolding rows_from
rows_none places a member [] none k d lt = absurd (omega (arith, lt))
rows_none places a member (o ∷ os) none zero d lt =
    let p = or_parts (list_any (row_over places a) (map (row member) o.relocations)) (list_any (row_over places a) (rows_from (member + 1) os)) (sym (list_any-append (row_over places a) (map (row member) o.relocations) (rows_from (member + 1) os)) ∙ none) in
    let here : list_any (reloc_over (base_of places member) a) o.relocations ≡ false = sym (any_map (row_over places a) (row member) o.relocations) ∙ p.0 in
    subst (λ (n : ℕ). list_any (reloc_over (base_of places n) a) o.relocations ≡ false) (omega arith) here
rows_none places a member (o ∷ os) none (suc k) d lt =
    let p = or_parts (list_any (row_over places a) (map (row member) o.relocations)) (list_any (row_over places a) (rows_from (member + 1) os)) (sym (list_any-append (row_over places a) (map (row member) o.relocations) (rows_from (member + 1) os)) ∙ none) in
    let rest = rows_none places a (member + 1) os p.1 k d (omega (arith, lt)) in
    subst (λ (n : ℕ). list_any (reloc_over (base_of places n) a) (get_or os k d).relocations ≡ false) (omega arith) rest

under_rows : (objects : List Object) (places : List ℕ) (modules : List Module) (a : ℕ) (xs : List Row) (gs : List Meaning) → AllZip (IsGiven objects places modules) xs gs → list_any (under a) gs ≡ list_any (row_over places a) xs
under_rows objects places modules a [] [] zip = refl
under_rows objects places modules a [] (g ∷ gs) zip = absurd zip
under_rows objects places modules a (x ∷ xs) [] zip = absurd zip
under_rows objects places modules a (x ∷ xs) (g ∷ gs) zip =
    let one : under a g ≡ row_over places a x = sym (ap (under a) zip.0.is) in
    rw (one, under_rows objects places modules a xs gs zip.1) refl

-- ---- bytes under a place of the program

zip_byte : (x : Object) (given : List (List ℕ)) (place a v : ℕ) (ps qs : List Piece) → ((p q : Piece) → IsPieceOf x given place a p q → lies a p ≡ true → byte_at a q ≡ v) → AllZip (IsPieceOf x given place a) ps qs → list_any (lies a) ps ≡ true → list_any (is_byte a v) qs ≡ true
unfolding is_byte
zip_byte x given place a v [] [] byte zip some = absurd (false≢true some)
zip_byte x given place a v [] (q ∷ qs) byte zip some = absurd zip
zip_byte x given place a v (p ∷ ps) [] byte zip some = absurd zip
zip_byte x given place a v (p ∷ ps) (q ∷ qs) byte zip some =
    let same : lies a q ≡ lies a p = rw (zip.0.start, zip.0.size) refl in
    elim (cases_Bool (lies a p)) [
      | inl hit ↦ either_first (is_byte a v q) (list_any (is_byte a v) qs) (and_from (lies a q) (byte_at a q == v) (same ∙ hit) (eq-eqb (byte_at a q) v (byte p q zip.0 hit)))
      | inr miss ↦ either_second (is_byte a v q) (list_any (is_byte a v) qs) (zip_byte x given place a v ps qs byte zip.1 (rw miss at some))
    ]

over_some : (start : ℕ) (bytes : List ℕ) (memory : Memory) (a : ℕ) → is_some (memory a) ≡ true → is_some (over start bytes memory a) ≡ true
over_some start bytes memory a some = elim (cases_Bool (is_within start (length bytes) a)) [
  | inl hit ↦ rw hit refl
  | inr miss ↦ rw miss some
]

filled_some : (memory : Memory) (fs : List Fill) (a : ℕ) → is_some (memory a) ≡ true → is_some (filled memory fs a) ≡ true
unfolding filled
filled_some memory [] a some = some
filled_some memory (f ∷ fs) a some = filled_some (over f.start f.bytes memory) fs a (over_some f.start f.bytes memory a some)

relocated_some : (memory : Memory) (gs : List Meaning) (a : ℕ) → is_some (memory a) ≡ true → is_some (relocated memory gs a) ≡ true
unfolding relocated
relocated_some memory gs a some = filled_some (worded memory gs) (copies (worded memory gs) gs) a (filled_some memory (words gs) a some)

some_is : (o : Option ℕ) → is_some o ≡ true → Some (unwrap_or o 0) ≡ o
some_is None e = absurd (false≢true e)
some_is (Some n) e = refl

-- the pair of an index
zip_at : {X Y : Type 0} (R : X → Y → Type 0) (xs : List X) (ys : List Y) → AllZip R xs ys → (k : ℕ) (e : Y) → k < length ys → (x : X) × (k < length xs) × (get_or xs k x ≡ x) × R x (get_or ys k e)
zip_at R [] [] zip k e lt = absurd (omega (arith, lt))
zip_at R [] (y ∷ ys) zip k e lt = absurd zip
zip_at R (x ∷ xs) [] zip k e lt = absurd zip
zip_at R (x ∷ xs) (y ∷ ys) zip zero e lt = (x, omega arith, refl, zip.0)
zip_at R (x ∷ xs) (y ∷ ys) zip (suc k) e lt =
    let p = zip_at R xs ys zip.1 k e (omega (arith, lt)) in
    (p.0, omega (arith, p.1), p.2, p.3)

all_filter : {X : Type 0} (p : X → Bool) (P : X → Type 0) (xs : List X) → All P (filter p xs) → All (λ x. p x ≡ true → P x) xs
all_filter p P [] all = All-nil (λ x. p x ≡ true → P x)
all_filter p P (x ∷ xs) all = elim (cases_Bool (p x)) [
  | inl hit ↦
      let whole : All P (x ∷ filter p xs) = rw hit at all in
      All-cons (λ y. p y ≡ true → P y) x xs (λ _. All-head P x (filter p xs) whole) (all_filter p P xs (All-tail P x (filter p xs) whole))
  | inr miss ↦
      let whole : All P (filter p xs) = rw miss at all in
      All-cons (λ y. p y ≡ true → P y) x xs (λ hit. absurd (false≢true (sym miss ∙ hit))) (all_filter p P xs whole)
]

abbrev fill : Memory → Meaning → List ℕ
fill memory g = read memory g.start g.size

-- the byte of a place, as it was given
given_byte : (memory : Memory) (gs : List Meaning) (w a place address width : ℕ) (d : Meaning) → w < length gs → (get_or gs w d).start ≡ place + address → (get_or gs w d).size ≡ width → is_within (place + address) width a ≡ true
    → slice_index (get_or (map (fill memory) gs) w []) (a - (place + address)) ≡ unwrap_or (memory a) 0
given_byte memory gs w a place address width d lt start size hit =
    let g = get_or gs w d in
    let p = within_true (place + address) width a hit in
    let there : get_or (map (fill memory) gs) w [] ≡ fill memory g = get_or-map (fill memory) gs w d [] lt in
    let k : ℕ = a - (place + address) in
    let at : g.start + k ≡ a = omega (arith, start, p.0) in
    ap (λ (xs : List ℕ). get_or xs k 0) there ∙ read_byte memory g.start g.size k (omega (arith, size, p.0, p.1)) ∙ ap (λ (n : ℕ). unwrap_or (memory n) 0) at

-- ---- the program's own places

record Own (x : Object) (places : List ℕ) (original file : List ℕ) (memory : Memory) (gs : List Meaning) (a : ℕ) : Type 0 where
  held : All (IsHeld (base_of places 0) (pieces_at (base_of places 0) original x)) x.relocations
  stood : AllZip (IsPieceOf x (map (fill memory) gs) (base_of places 0) a) (pieces_at (base_of places 0) original x) (pieces_of (base_of places 0) file x.segments (ss_of file))
  some : list_any (lies a) (pieces_at (base_of places 0) original x) ≡ true → is_some (memory a) ≡ true

own_holds : (objects : List Object) (places : List ℕ) (modules : List Module) (x : Object) (original file : List ℕ) (memory : Memory) (gs : List Meaning) (a : ℕ) → AllZip (IsOwnGiven objects places modules) x.relocations gs → Own x places original file memory gs a
    → All (λ g. under a g ≡ true → list_any (is_byte a (unwrap_or (memory a) 0)) (pieces_of (base_of places 0) file x.segments (ss_of file)) ≡ true × (is_some (memory a) ≡ true)) gs
unfolding IsOwnGiven
own_holds objects places modules x original file memory gs a zip own = λ w e lt hit.
    let place = base_of places 0 in
    let p = zip_at (IsOwnGiven objects places modules) x.relocations gs zip w e lt in
    let r = p.0 in
    let g = get_or gs w e in
    let start : g.start ≡ plus place r.address = ap (λ (h : Meaning). h.start) (sym p.3.is) in
    let size : g.size ≡ r.width = ap (λ (h : Meaning). h.size) (sym p.3.is) in
    let over : reloc_over place a r ≡ true = subst (λ (n : ℕ). is_within n r.width a ≡ true) start (subst (λ (n : ℕ). is_within g.start n a ≡ true) size hit) in
    let held : IsHeld place (pieces_at place original x) r = subst (IsHeld place (pieces_at place original x)) p.2 (own.held w r p.1) in
    let straight : plus place r.address ≡ place + r.address = held.start a over in
    let there : is_over place a r ≡ true = subst (λ (n : ℕ). is_within n r.width a ≡ true) straight over in
    let lie = held.piece a over in
    let byte : slice_index (get_or (map (fill memory) gs) w []) (a - (place + r.address)) ≡ unwrap_or (memory a) 0 = given_byte memory gs w a place r.address r.width e lt (start ∙ straight) size there in (
      zip_byte x (map (fill memory) gs) place a (unwrap_or (memory a) 0) (pieces_at place original x) (pieces_of place file x.segments (ss_of file))
          (λ q s is hits. is.under w r p.1 hits (subst (λ (t : Reloc). is_over place a t ≡ true) (sym p.2) there) ∙ subst (λ (t : Reloc). slice_index (get_or (map (fill memory) gs) w []) (a - (place + t.address)) ≡ unwrap_or (memory a) 0) (sym p.2) byte)
          own.stood lie,
      own.some lie,
    )

-- ---- the whole

first_of_all : (test : Piece → Bool) (ps qs : List Piece) → list_any test ps ≡ true → list_any test (ps ++ qs) ≡ true
first_of_all test ps qs some = list_any-append test ps qs ∙ either_first (list_any test ps) (list_any test qs) some

loaded_with : List Piece → Mask → LoadedObject
loaded_with pieces mask = record { pieces = pieces; mask = mask }

same_from : (places : List ℕ) (files : List (List ℕ)) (member : ℕ) (os : List Object) → ((k : ℕ) (d : Object) → k < length os → before places files (member + k) (get_or os k d) ≡ after places files (member + k) (get_or os k d)) → loaded_from places files member os ≡ standing_from places files member os
unfolding loaded_from standing_from loaded_with
same_from places files member [] each = refl
same_from places files member (o ∷ os) each =
    let Both : ℕ → Object → Type 0 = λ n x. before places files n x ≡ after places files n x in
    let first : Both member o = subst (λ (n : ℕ). Both n o) (omega arith) (each zero o (omega arith)) in
    let next : (k : ℕ) (d : Object) → k < length os → Both (member + 1 + k) (get_or os k d) = λ k d lt. subst (λ (n : ℕ). Both n (get_or os k d)) (omega arith) (each (suc k) d (omega (arith, lt))) in
    ap (λ (ps : List Piece). loaded_with ps (mask_at (base_of places member) o) ∷ loaded_from places files (member + 1) os) first
    ∙ ap (λ (ls : List LoadedObject). loaded_with (after places files member o) (mask_at (base_of places member) o) ∷ ls) (same_from places files (member + 1) os next)

-- a program, whose places have the bytes that its scope gives, and libraries, each at its slot
pub record AreFiles (x : Object) (os : List Object) (originals files : List (List ℕ)) (places : List ℕ) (gs : List Meaning) : Type 0 where
  pub zero : base_of places 0 ≡ 0
  pub program : IsProgramFile (part_of files 0) (part_of originals 0) x (map (fill (relocated (layered (all_pieces (loaded_objects places originals (x ∷ os)))) gs)) (filter is_program_place gs))
  pub libraries : (k : ℕ) (d : Object) → k < length os → IsLibraryFile (base_of places (suc k)) (part_of files (suc k)) (part_of originals (suc k)) (get_or os k d)

each_there : (x : Object) (os : List Object) (originals files : List (List ℕ)) (places : List ℕ) (gs : List Meaning) (a : ℕ) → AreFiles x os originals files places gs
    → (k : ℕ) (d : Object) → k < length (x ∷ os) → StandsThere (part_of files k) (part_of originals k) (get_or (x ∷ os) k d) (base_of places k) a
each_there x os originals files places gs a are zero d lt =
    let memory = relocated (layered (all_pieces (loaded_objects places originals (x ∷ os)))) gs in
    record { given = map (fill memory) (filter is_program_place gs); stands = program_there (base_of places 0) (part_of files 0) (part_of originals 0) x (map (fill memory) (filter is_program_place gs)) a are.zero are.program }
each_there x os originals files places gs a are (suc k) d lt = library_there (base_of places (suc k)) (part_of files (suc k)) (part_of originals (suc k)) (get_or os k d) a (are.libraries k d (omega (arith, lt)))

stood_extents : (x : Object) (os : List Object) (originals files : List (List ℕ)) (places : List ℕ) (gs : List Meaning) → AreFiles x os originals files places gs → AllZip Stands (all_pieces (loaded_objects places originals (x ∷ os))) (all_pieces (standing places files (x ∷ os)))
stood_extents x os originals files places gs are =
    zip_from Stands places originals files 0 (x ∷ os) (λ k d lt. subst (λ (n : ℕ). AllZip Stands (before places originals n (get_or (x ∷ os) k d)) (after places files n (get_or (x ∷ os) k d))) (sym (zero-add k))
    (let t = each_there x os originals files places gs 0 are k d lt in extents (part_of files k) (part_of originals k) (get_or (x ∷ os) k d) t.given (base_of places k) 0 t.stands))

stood_libraries : (x : Object) (os : List Object) (originals files : List (List ℕ)) (places : List ℕ) (gs : List Meaning) → AreFiles x os originals files places gs → LibrariesStand (loaded_objects places files (x ∷ os)) (standing places files (x ∷ os))
unfolding loaded_from standing_from
stood_libraries x os originals files places gs are =
    same_from places files 1 os (λ k d lt. subst (λ (n : ℕ). before places files n (get_or os k d) ≡ after places files n (get_or os k d)) (omega arith) (library_loads (base_of places (suc k)) (part_of files (suc k)) (part_of originals (suc k)) (get_or os k d) (are.libraries k d lt)))

stood_forms : (x : Object) (os : List Object) (originals files : List (List ℕ)) (places : List ℕ) (modules : List Module) (gs : List Meaning) (a : ℕ) → ArePlaced places originals (x ∷ os) → meanings (x ∷ os) places modules ≡ Ok gs → AreFiles x os originals files places gs
    → any_masked (loaded_objects places originals (x ∷ os)) a ≡ false → AllZip (IsForm gs a) (all_pieces (loaded_objects places originals (x ∷ os))) (all_pieces (standing places files (x ∷ os)))
stood_forms x os originals files places modules gs a placed is are seen =
    let same : list_any (under a) gs ≡ list_any (row_over places a) (rows (x ∷ os)) = under_rows (x ∷ os) places modules a (rows (x ∷ os)) gs (meanings_given (x ∷ os) places modules gs is) in
    zip_from (IsForm gs a) places originals files 0 (x ∷ os) (λ k d lt. subst (λ (n : ℕ). AllZip (IsForm gs a) (before places originals n (get_or (x ∷ os) k d)) (after places files n (get_or (x ∷ os) k d))) (sym (zero-add k))
    (let t = each_there x os originals files places gs a are k d lt in
    member_forms gs a (part_of files k) (part_of originals k) (get_or (x ∷ os) k d) t.given (base_of places k) t.stands (placed.placed k d lt)
    (subst (λ (n : ℕ). is_masked (mask_at (base_of places n) (get_or (x ∷ os) k d)) a ≡ false) (zero-add k) (masked_at places originals 0 (x ∷ os) a seen k d lt))
    (λ none. subst (λ (n : ℕ). list_any (reloc_over (base_of places n) a) (get_or (x ∷ os) k d).relocations ≡ false) (zero-add k) (rows_none places a 0 (x ∷ os) (sym same ∙ none) k d lt))))

stood_holds : (x : Object) (os : List Object) (original : List ℕ) (originals files : List (List ℕ)) (places : List ℕ) (modules : List Module) (gs : List Meaning) (a : ℕ) → AreRead (original ∷ originals) (x ∷ os) → ArePlaced places (original ∷ originals) (x ∷ os) → meanings (x ∷ os) places modules ≡ Ok gs → AreFiles x os (original ∷ originals) files places gs
    → All (λ g. under a g ≡ true → is_library g.member ≡ false → Holds (all_pieces (standing places files (x ∷ os))) a (relocated (layered (all_pieces (loaded_objects places (original ∷ originals) (x ∷ os)))) gs a)) gs
unfolding loaded_from standing_from
stood_holds x os original originals files places modules gs a read placed is are =
    let place = base_of places 0 in
    let all = all_pieces (loaded_objects places (original ∷ originals) (x ∷ os)) in
    let memory : Memory = relocated (layered all) gs in
    let ps = pieces_at place original x in
    let rest = all_pieces (loaded_from places (original ∷ originals) 1 os) in
    let qs = pieces_of place (part_of files 0) x.segments (ss_of (part_of files 0)) in
    let stood = program_there place (part_of files 0) original x (map (fill memory) (filter is_program_place gs)) a are.zero are.program in
    let own : Own x places original (part_of files 0) memory (filter is_program_place gs) a = record {
      held = relocs_held place original original x (placed.placed 0 x (omega arith)) read.0;
      stood = subst (λ (xs : List Piece). AllZip (IsPieceOf x (map (fill memory) (filter is_program_place gs)) place a) xs qs) (own_pieces place original x.segments) stood;
      some = λ lie. relocated_some (layered all) gs a (layered_some all a ∙ first_of_all (lies a) ps rest lie);
    } in
    let there = all_filter is_program_place (λ g. under a g ≡ true → list_any (is_byte a (unwrap_or (memory a) 0)) qs ≡ true × (is_some (memory a) ≡ true)) gs (own_holds (x ∷ os) places modules x original (part_of files 0) memory (filter is_program_place gs) a (own_meanings x os places modules gs is) own) in
    λ k d lt hit library.
    let t = there k d lt (not-false ((get_or gs k d).member == 0) library) hit in
    subst (Holds (all_pieces (standing places files (x ∷ os))) a) (some_is (memory a) t.1)
    (holds_of (all_pieces (standing places files (x ∷ os))) a (unwrap_or (memory a) 0) (first_of_all (is_byte a (unwrap_or (memory a) 0)) qs (all_pieces (standing_from places files 1 os)) t.0))

pub stand_for : (x : Object) (os : List Object) (original : List ℕ) (originals files : List (List ℕ)) (places : List ℕ) (modules : List Module) (gs : List Meaning) → AreRead (original ∷ originals) (x ∷ os) → ArePlaced places (original ∷ originals) (x ∷ os) → meanings (x ∷ os) places modules ≡ Ok gs
    → AreFiles x os (original ∷ originals) files places gs → StandFor (original ∷ originals) files (x ∷ os) places gs
stand_for x os original originals files places modules gs read placed is are = record {
  extents = stood_extents x os (original ∷ originals) files places gs are;
  libraries = stood_libraries x os (original ∷ originals) files places gs are;
  forms = λ a seen. record {
    forms = stood_forms x os (original ∷ originals) files places modules gs a placed is are seen;
    holds = stood_holds x os original originals files places modules gs a read placed is are;
  };
}
