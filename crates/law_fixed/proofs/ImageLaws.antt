-- A fixed program loads, outside the link tables and the places of packed relocations, what the program loads at the address.
use Rattle.std.proofs.Common.{◌≡◌, ℕ, zero, suc, ◌+◌, ◌-◌, ◌<◌, ◌≤◌, ◌^◌, true, false, List, [], ◌∷◌, ◌++◌, map, drop, get_or, Option, refl, sym, ap, ◌∙◌, arith, inl, inr}
use Rattle.std.specs.Prelude.{◌||◌, slice_index, ⊤}
use Rattle.std.specs.Option.{is_some, unwrap_or}
use Rattle.std.specs.List.{All, AllZip, list_any}
use Rattle.std.proofs.lemmas.Bool.{cases_Bool, false≢true, or_parts, cases_lt}
use Rattle.std.proofs.lemmas.Bool.Decides.{nat_tests}
use Rattle.std.proofs.lemmas.List.{get_or-take, get_or-drop, get_or_past, length-take, ext_get_or}
use Rattle.std.proofs.lemmas.List.Elements.{All-head, All-tail}
use Rattle.pl_elf.specs.declared.constants.TheConstants.{ADDRESS_LIMIT}
use Rattle.pl_base.specs.Memory.{Fill, Memory, Piece, byte_at, covers, filled, is_within, layered, lies, over, read}
use Rattle.law_fixed.specs.Fixed.{IsFixedFile, KeepsBytes, fixed, fixed_segment, is_relative_at}
use Rattle.pl_image.specs.Loads.{IsPlaced, is_masked, load_at, loaded_at, loaded_piece, loads_table, mask_at, pieces_at}
use Rattle.pl_image.specs.declared.mask.Load.{Load}
use Rattle.pl_image.specs.declared.loaded_object.LoadedObject.{LoadedObject}
use Rattle.pl_object.specs.declared.object.Object.{Object}
use Rattle.pl_elf.specs.declared.range.Range.{Range}
use Rattle.pl_elf.specs.declared.segment.Segment.{Segment}
use Rattle.pl_value.specs.Targets.{base_of}
use Rattle.pl_elf.specs.Ranges.{has}
use Rattle.pl_elf.specs.Headers.{is_load, is_moved_kind, loads}
use Rattle.pl_value.specs.Ordinary.{loaded_from, part_of}
use Rattle.pl_base.specs.Bytes.{part}
use Rattle.pl_base.proofs.MemoryLaws.{within_true, within_is, filled_same, IsLike, same_bytes, same_domain, read_length, read_byte}

-- ---- segments

load_kept : (at : ℕ) (s : Segment) → is_load (fixed_segment at s) ≡ is_load s
unfolding fixed_segment
load_kept at s = refl

pub load_moves : (s : Segment) → is_load s ≡ true → is_moved_kind s.kind ≡ true
unfolding is_moved_kind
load_moves s h = let e : s.kind ≡ 1 = grind (arith, nat_tests) in rw e refl

-- a PT_LOAD that ends, at the address, within the limit begins there
start_moved : (at : ℕ) (s : Segment) → is_load s ≡ true → at + (s.vaddr + s.memsz) ≤ ADDRESS_LIMIT → 0 + (fixed_segment at s).vaddr ≡ at + s.vaddr
unfolding fixed_segment
start_moved at s load fits = rw (load_moves s load) (omega (arith, fits))

-- what holds of the PT_LOADs, first to last
pub loads_all : (P : Segment → Type 0) (s : Segment) (ss : List Segment) → All P (loads (s ∷ ss)) → (is_load s ≡ true → P s) × All P (loads ss)
loads_all P s ss all = elim (cases_Bool (is_load s)) [
  | inl load ↦ let both : All P (s ∷ loads ss) = rw load at all in (λ _. All-head P s (loads ss) both, All-tail P s (loads ss) both)
  | inr other ↦ let rest : All P (loads ss) = rw other at all in (λ load. absurd (false≢true (sym other ∙ load)), rest)
]

load_parts : (at : ℕ) (s : Segment) → load_at 0 (fixed_segment at s) ≡ record { start = 0 + (fixed_segment at s).vaddr; offset = s.offset; size = s.filesz }
unfolding fixed_segment
load_parts at s = refl

piece_size : (at : ℕ) (file : List ℕ) (s : Segment) → (loaded_piece 0 file (fixed_segment at s)).size ≡ s.memsz
unfolding fixed_segment
piece_size at file s = refl

piece_bytes : (at : ℕ) (file : List ℕ) (s : Segment) → (loaded_piece 0 file (fixed_segment at s)).bytes ≡ part s.offset s.filesz file
unfolding fixed_segment
piece_bytes at file s = refl

-- the masks are equal
loads_at_moved : (at : ℕ) (ss : List Segment) → All (λ s. at + (s.vaddr + s.memsz) ≤ ADDRESS_LIMIT) (loads ss) → map (load_at 0) (loads (map (fixed_segment at) ss)) ≡ map (load_at at) (loads ss)
loads_at_moved at [] placed = refl
loads_at_moved at (s ∷ ss) placed =
    let both = loads_all (λ s. at + (s.vaddr + s.memsz) ≤ ADDRESS_LIMIT) s ss placed in
    let rest = loads_at_moved at ss both.1 in
    elim (cases_Bool (is_load s)) [
      | inl load ↦ rw (load_kept at s, load, rest) (ap (λ (l : Load). l ∷ map (load_at at) (loads ss)) (one at s load (both.0 load)))
      | inr other ↦ rw (load_kept at s, other) rest
    ]
  where
    one : (at : ℕ) (s : Segment) → is_load s ≡ true → at + (s.vaddr + s.memsz) ≤ ADDRESS_LIMIT → load_at 0 (fixed_segment at s) ≡ load_at at s
    one at s load fits = load_parts at s ∙ ap (λ (n : ℕ). record { start = n; offset = s.offset; size = s.filesz }) (start_moved at s load fits)

pub mask_moved : (at : ℕ) (o : Object) → IsPlaced at o → mask_at 0 (fixed at o) ≡ mask_at at o
unfolding fixed
mask_moved at o placed = ap (λ (ls : List Load). record { loads = ls; tables = o.tables }) (loads_at_moved at o.segments placed.ends)

-- ---- pieces

-- pieces that stand alike, and have the same byte at an address where a condition holds
abbrev Alike : Type 0 → ℕ → Piece → Piece → Type 0
Alike Free a p q = IsLike p q × (Free → lies a p ≡ true → byte_at a q ≡ byte_at a p)

byte_same : (xs ys : List ℕ) (offset n k : ℕ) → (k < n → slice_index ys (offset + k) ≡ slice_index xs (offset + k)) → get_or (part offset n ys) k 0 ≡ get_or (part offset n xs) k 0
byte_same xs ys offset n k same = elim (cases_lt k n) [
  | inl lt ↦ get_or-take n (drop offset ys) k 0 lt ∙ get_or-drop offset ys k 0 ∙ same lt ∙ sym (get_or-drop offset xs k 0) ∙ sym (get_or-take n (drop offset xs) k 0 lt)
  | inr le ↦ get_or_past (part offset n ys) k 0 (omega (arith, le, length-take n (drop offset ys))) ∙ sym (get_or_past (part offset n xs) k 0 (omega (arith, le, length-take n (drop offset xs))))
]

-- an address is free where no link table is masked and no RELATIVE relocation is over it
pub record IsFree (at : ℕ) (o : Object) (a : ℕ) : Type 0 where
  pub seen : is_masked (mask_at at o) a ≡ false
  pub plain : list_any (is_relative_at (a - at)) o.relocations ≡ false

unmasked : (a : ℕ) (l : Load) (tables : List Range) → is_within l.start l.size a ≡ true → list_any (loads_table a l) tables ≡ false → list_any (has (l.offset + (a - l.start))) tables ≡ false
unmasked a l [] inside none = refl
unmasked a l (t ∷ ts) inside none =
    let p = or_parts (loads_table a l t) (list_any (loads_table a l) ts) none in
    let one : has (l.offset + (a - l.start)) t ≡ false = rw inside at p.0 in
    rw (one, unmasked a l ts inside p.1) refl

-- a segment's own part of the mask
masked_part : (at a : ℕ) (tables : List Range) (s : Segment) (ss : List Segment) → is_load s ≡ true → is_masked (record { loads = map (load_at at) (loads (s ∷ ss)); tables = tables }) a ≡ false
    → (list_any (loads_table a (load_at at s)) tables ≡ false) × (is_masked (record { loads = map (load_at at) (loads ss); tables = tables }) a ≡ false)
unfolding is_masked
masked_part at a tables s ss load none =
    let n : (list_any (loads_table a (load_at at s)) tables || list_any (λ l. list_any (loads_table a l) tables) (map (load_at at) (loads ss))) ≡ false = rw load at none in
    or_parts (list_any (loads_table a (load_at at s)) tables) (list_any (λ l. list_any (loads_table a l) tables) (map (load_at at) (loads ss))) n

masked_rest : (at a : ℕ) (tables : List Range) (s : Segment) (ss : List Segment) → is_load s ≡ false → is_masked (record { loads = map (load_at at) (loads (s ∷ ss)); tables = tables }) a ≡ false → is_masked (record { loads = map (load_at at) (loads ss); tables = tables }) a ≡ false
masked_rest at a tables s ss load none = rw load at none

piece_alike : (at : ℕ) (o : Object) (bytes file : List ℕ) (a : ℕ) (s : Segment) → is_load s ≡ true → at + (s.vaddr + s.memsz) ≤ ADDRESS_LIMIT → KeepsBytes o bytes file s
    → Alike ((list_any (loads_table a (load_at at s)) o.tables ≡ false) × (list_any (is_relative_at (a - at)) o.relocations ≡ false)) a (loaded_piece at bytes s) (loaded_piece 0 file (fixed_segment at s))
unfolding fixed_segment
piece_alike at o bytes file a s load fits keeps =
    let e = start_moved at s load fits in (
      record { start = e; size = piece_size at file s },
      λ free inside.
          let w = within_true (at + s.vaddr) s.memsz a inside in
          let k : ℕ = a - (at + s.vaddr) in
          ap (λ (n : ℕ). slice_index (part s.offset s.filesz file) (a - n)) e
          ∙ byte_same bytes file s.offset s.filesz k (λ lt. keeps k lt
          (unmasked a (load_at at s) o.tables (within_is (at + s.vaddr) s.filesz a w.0 (omega (arith, lt, w.0))) free.0)
          (ap (λ (b : ℕ). list_any (is_relative_at b) o.relocations) (omega (arith, w.0)) ∙ free.1)),
    )

pieces_alike : (at : ℕ) (o : Object) (bytes file : List ℕ) (a : ℕ) (ss : List Segment) → All (λ s. at + (s.vaddr + s.memsz) ≤ ADDRESS_LIMIT) (loads ss) → All (KeepsBytes o bytes file) (loads ss) → list_any (is_relative_at (a - at)) o.relocations ≡ false
    → is_masked (record { loads = map (load_at at) (loads ss); tables = o.tables }) a ≡ false
    → AllZip (Alike ⊤ a) (map (loaded_piece at bytes) (loads ss)) (map (loaded_piece 0 file) (loads (map (fixed_segment at) ss)))
pieces_alike at o bytes file a [] placed keeps plain seen = tt
pieces_alike at o bytes file a (s ∷ ss) placed keeps plain seen =
    let fits = loads_all (λ s. at + (s.vaddr + s.memsz) ≤ ADDRESS_LIMIT) s ss placed in
    let kept = loads_all (KeepsBytes o bytes file) s ss keeps in
    elim (cases_Bool (is_load s)) [
      | inl load ↦
          let m = masked_part at a o.tables s ss load seen in
          let one = piece_alike at o bytes file a s load (fits.0 load) (kept.0 load) in
          rw (load_kept at s, load) ((one.0, λ _ inside. one.1 (m.0, plain) inside), pieces_alike at o bytes file a ss fits.1 kept.1 plain m.1)
      | inr other ↦ rw (load_kept at s, other) (pieces_alike at o bytes file a ss fits.1 kept.1 plain (masked_rest at a o.tables s ss other seen))
    ]

-- where they begin and end alone
pieces_like : (at : ℕ) (bytes file : List ℕ) (ss : List Segment) → All (λ s. at + (s.vaddr + s.memsz) ≤ ADDRESS_LIMIT) (loads ss) → AllZip IsLike (map (loaded_piece at bytes) (loads ss)) (map (loaded_piece 0 file) (loads (map (fixed_segment at) ss)))
pieces_like at bytes file [] placed = tt
pieces_like at bytes file (s ∷ ss) placed =
    let fits = loads_all (λ s. at + (s.vaddr + s.memsz) ≤ ADDRESS_LIMIT) s ss placed in
    elim (cases_Bool (is_load s)) [
      | inl load ↦ rw (load_kept at s, load) (record { start = start_moved at s load (fits.0 load); size = piece_size at file s }, pieces_like at bytes file ss fits.1)
      | inr other ↦ rw (load_kept at s, other) (pieces_like at bytes file ss fits.1)
    ]

-- ---- memories with the same pieces behind

rest_like : (ps : List Piece) → AllZip IsLike ps ps
rest_like [] = tt
rest_like (p ∷ ps) = (record { start = refl; size = refl }, rest_like ps)

zip_more : {X : Type 0} (R : X → X → Type 0) (xs ys zs : List X) → AllZip R xs ys → AllZip R zs zs → AllZip R (xs ++ zs) (ys ++ zs)
zip_more R [] [] zs one two = two
zip_more R [] (y ∷ ys) zs one two = absurd one
zip_more R (x ∷ xs) [] zs one two = absurd one
zip_more R (x ∷ xs) (y ∷ ys) zs one two = (one.0, zip_more R xs ys zs one.1 two)

rest_alike : (a : ℕ) (ps : List Piece) → AllZip (λ p q. IsLike p q × (lies a p ≡ true → byte_at a q ≡ byte_at a p)) ps ps
rest_alike a [] = tt
rest_alike a (p ∷ ps) = ((record { start = refl; size = refl }, λ _. refl), rest_alike a ps)

zip_plain : (a : ℕ) (ps qs : List Piece) → AllZip (Alike ⊤ a) ps qs → AllZip (λ p q. IsLike p q × (lies a p ≡ true → byte_at a q ≡ byte_at a p)) ps qs
zip_plain a [] [] one = tt
zip_plain a [] (q ∷ qs) one = absurd one
zip_plain a (p ∷ ps) [] one = absurd one
zip_plain a (p ∷ ps) (q ∷ qs) one = ((one.0.0, one.0.1 tt), zip_plain a ps qs one.1)

-- bytes at the same addresses
pub domain_moved : (at : ℕ) (o : Object) (bytes file : List ℕ) (rest : List Piece) (a : ℕ) → IsPlaced at o → is_some (layered (pieces_at 0 file (fixed at o) ++ rest) a) ≡ is_some (layered (pieces_at at bytes o ++ rest) a)
unfolding fixed
domain_moved at o bytes file rest a placed =
    same_domain (pieces_at at bytes o ++ rest) (map (loaded_piece 0 file) (loads (map (fixed_segment at) o.segments)) ++ rest) a
    (zip_more IsLike (pieces_at at bytes o) (map (loaded_piece 0 file) (loads (map (fixed_segment at) o.segments))) rest (pieces_like at bytes file o.segments placed.ends) (rest_like rest))

-- the same byte where the address is free
pub free_moved : (at : ℕ) (o : Object) (bytes file : List ℕ) (rest : List Piece) (a : ℕ) → IsPlaced at o → IsFixedFile o bytes file → IsFree at o a → layered (pieces_at 0 file (fixed at o) ++ rest) a ≡ layered (pieces_at at bytes o ++ rest) a
unfolding fixed
free_moved at o bytes file rest a placed is free =
    let new : List Piece = map (loaded_piece 0 file) (loads (map (fixed_segment at) o.segments)) in
    let old : List Piece = pieces_at at bytes o in
    same_bytes (old ++ rest) (new ++ rest) a
    (zip_more (λ p q. IsLike p q × (lies a p ≡ true → byte_at a q ≡ byte_at a p)) old new rest (zip_plain a old new (pieces_alike at o bytes file a o.segments placed.ends is.same free.plain free.seen)) (rest_alike a rest))

-- and where the program has no piece
away_moved : (ps qs rest : List Piece) (a : ℕ) → AllZip IsLike ps qs → list_any (lies a) ps ≡ false → layered (qs ++ rest) a ≡ layered (ps ++ rest) a
unfolding layered
away_moved [] [] rest a like none = refl
away_moved [] (q ∷ qs) rest a like none = absurd like
away_moved (p ∷ ps) [] rest a like none = absurd like
away_moved (p ∷ ps) (q ∷ qs) rest a like none =
    let n = or_parts (lies a p) (list_any (lies a) ps) none in
    let same : lies a q ≡ lies a p = rw (like.0.start, like.0.size) refl in
    rw (same, n.0) (away_moved ps qs rest a like.1 n.1)

pub outside_moved : (at : ℕ) (o : Object) (bytes file : List ℕ) (rest : List Piece) (a : ℕ) → IsPlaced at o → list_any (lies a) (pieces_at at bytes o) ≡ false → layered (pieces_at 0 file (fixed at o) ++ rest) a ≡ layered (pieces_at at bytes o ++ rest) a
unfolding fixed
outside_moved at o bytes file rest a placed none = away_moved (pieces_at at bytes o) (map (loaded_piece 0 file) (loads (map (fixed_segment at) o.segments))) rest a (pieces_like at bytes file o.segments placed.ends) none

-- ---- fills over memories that differ

-- under a fill it does not matter over what it is laid
pub filled_covered : (m n : Memory) (fs : List Fill) (a : ℕ) → list_any (covers a) fs ≡ true → filled n fs a ≡ filled m fs a
unfolding filled
filled_covered m n [] a some = absurd (false≢true some)
filled_covered m n (f ∷ fs) a some = elim (cases_Bool (covers a f)) [
  | inl hit ↦ filled_same (over f.start f.bytes n) (over f.start f.bytes m) fs a (rw hit refl)
  | inr miss ↦ filled_covered (over f.start f.bytes m) (over f.start f.bytes n) fs a (rw miss at some)
]

-- the bytes that are read, where each is the same
pub read_same : (m n : Memory) (start size : ℕ) → ((k : ℕ) → k < size → n (start + k) ≡ m (start + k)) → read n start size ≡ read m start size
read_same m n start size same =
    ext_get_or 0 (read n start size) (read m start size) (read_length n start size ∙ sym (read_length m start size)) (λ k lt.
    let le : k < size = omega (arith, lt, read_length n start size) in
    read_byte n start size k le ∙ ap (λ (v : Option ℕ). unwrap_or v 0) (same k le) ∙ sym (read_byte m start size k le))

-- ---- the other members

rest_step : (at : ℕ) (ps : List ℕ) (bytes file : List ℕ) (parts : List (List ℕ)) (m : ℕ) (p : Object) → 1 ≤ m → loaded_at (base_of (0 ∷ ps) m) (part_of (file ∷ parts) m) p ≡ loaded_at (base_of (at ∷ ps) m) (part_of (bytes ∷ parts) m) p
rest_step at ps bytes file parts zero p le = absurd (omega (arith, le))
rest_step at ps bytes file parts (suc m) p le = refl

pub rest_kept : (at : ℕ) (ps : List ℕ) (bytes file : List ℕ) (parts : List (List ℕ)) (m : ℕ) (os : List Object) → 1 ≤ m → loaded_from (0 ∷ ps) (file ∷ parts) m os ≡ loaded_from (at ∷ ps) (bytes ∷ parts) m os
unfolding loaded_from
rest_kept at ps bytes file parts m [] le = refl
rest_kept at ps bytes file parts m (p ∷ os) le =
    ap (λ (l : LoadedObject). l ∷ loaded_from (0 ∷ ps) (file ∷ parts) (m + 1) os) (rest_step at ps bytes file parts m p le)
    ∙ ap (λ (ls : List LoadedObject). loaded_at (base_of (at ∷ ps) m) (part_of (bytes ∷ parts) m) p ∷ ls) (rest_kept at ps bytes file parts (m + 1) os (omega (arith, le)))
