-- Rows of a file whose words moved are the rows of the fixed program.
use Rattle.std.proofs.Common.{◌≡◌, ℕ, zero, suc, ◌+◌, ◌*◌, ◌/◌, ◌%◌, ◌^◌, ◌<◌, ◌≤◌, Bool, true, false, List, [], ◌∷◌, length, map, take, refl, sym, ap, ◌∙◌, arith, inl, inr}
use Rattle.std.specs.Prelude.{◌⊎◌, ◌==◌, ◌&&◌, ◌||◌, nat_le, nat_lt, not, bit_and, if◌then◌else◌}
use Rattle.std.specs.List.{range_with_len, before_first, position_or_len}
use Rattle.std.specs.Int.{w64, cast_signed, cast_unsigned}
use Rattle.std.proofs.lemmas.Bool.{cases_Bool, eqb-true, false≢true}
use Rattle.std.proofs.lemmas.Bool.Decides.{nat_tests}
use Rattle.std.proofs.lemmas.Int.{of_z-to_z}
use Rattle.std.proofs.lemmas.List.{take-map}
use Rattle.pl_base.specs.Bytes.{IsBytes, part, byte, word16, word32, word64, bytes64}
use Rattle.pl_base.specs.Sums.{plus}
use Rattle.pl_base.proofs.WindowLaws.{part_apart}
use Rattle.pl_base.proofs.WordLaws.{length_bytes64, word64_below, word16_below, word16_apart, word32_apart, word64_apart, word64_put, word64_part}
use Rattle.pl_dyn.specs.Entries.{entry, entries, is_null, tags}
use Rattle.pl_dyn.specs.Kinds.{is_address_tag}
use Rattle.pl_dyn.specs.declared.tags.Tag.{Tag}
use Rattle.pl_elf.specs.Headers.{header, segment_at, section_at, is_moved_kind}
use Rattle.pl_elf.specs.declared.constants.TheConstants.{SHF_ALLOC}
use Rattle.pl_move.specs.Moves.{add8, has_section, moves, row_moved}
use Rattle.pl_move.specs.declared.kind.RowKind.TheVariants.{SegmentAddress, PhysicalAddress, TagValue, SymbolValue, RelocationPlace, RelativeAddend}
use Rattle.pl_move.proofs.MoveLaws.{length-add8, agree_add8}
use Rattle.pl_object.specs.Relocations.{width, reloc_at}
use Rattle.pl_sym.specs.Symbol.{is_undefined, is_tls, is_in_section}
use Rattle.pl_sym.specs.Definers.{is_canonical}
use Rattle.pl_sym.specs.declared.symbol.Symbol.{Symbol}
use Rattle.pl_ver.specs.declared.constants.TheConstants.{VER_NDX_GLOBAL}
use Rattle.law_fixed.specs.Fixed.{fixed_entry, fixed_header, fixed_segment, fixed_section, fixed_reloc, with_value, fixed_symbol}
use Rattle.law_fixed.specs.Fixed.{moves as moves_symbol}
use Rattle.pl_pie.specs.Words.{is_address}

-- ---- numbers beside the word that was added to

by_size : (k n at l : ℕ) → l ≡ 8 → (k + n ≤ at) ⊎ (at + 8 ≤ k) → (k + n ≤ at) ⊎ (at + l ≤ k)
by_size k n at l is (inl before) = inl before
by_size k n at l is (inr behind) = inr (omega (arith, is, behind))

kept_part : (k n at w : ℕ) (r : List ℕ) → at + 8 ≤ length r → (k + n ≤ at) ⊎ (at + 8 ≤ k) → part k n (add8 at w r) ≡ part k n r
unfolding add8
kept_part k n at w r fits apart = let len = length_bytes64 (plus (word64 at r) w) in part_apart k n at (bytes64 (plus (word64 at r) w)) r (omega (arith, fits, len)) (by_size k n at _ len apart)

pub kept16 : (k at w : ℕ) (r : List ℕ) → at + 8 ≤ length r → (k + 2 ≤ at) ⊎ (at + 8 ≤ k) → word16 k (add8 at w r) ≡ word16 k r
unfolding add8
kept16 k at w r fits apart = let len = length_bytes64 (plus (word64 at r) w) in word16_apart k at (bytes64 (plus (word64 at r) w)) r (omega (arith, fits, len)) (by_size k 2 at _ len apart)

pub kept32 : (k at w : ℕ) (r : List ℕ) → at + 8 ≤ length r → (k + 4 ≤ at) ⊎ (at + 8 ≤ k) → word32 k (add8 at w r) ≡ word32 k r
unfolding add8
kept32 k at w r fits apart = let len = length_bytes64 (plus (word64 at r) w) in word32_apart k at (bytes64 (plus (word64 at r) w)) r (omega (arith, fits, len)) (by_size k 4 at _ len apart)

pub kept64 : (k at w : ℕ) (r : List ℕ) → at + 8 ≤ length r → (k + 8 ≤ at) ⊎ (at + 8 ≤ k) → word64 k (add8 at w r) ≡ word64 k r
unfolding add8
kept64 k at w r fits apart = let len = length_bytes64 (plus (word64 at r) w) in word64_apart k at (bytes64 (plus (word64 at r) w)) r (omega (arith, fits, len)) (by_size k 8 at _ len apart)

small : (n : ℕ) → n % 2 ^ 64 < 2 ^ 64
small n = omega arith

pub moved64 : (at w : ℕ) (r : List ℕ) → at + 8 ≤ length r → word64 at (add8 at w r) ≡ plus (word64 at r) w
unfolding add8
moved64 at w r fits = word64_put at (plus (word64 at r) w) r fits (small (word64 at r + w))

-- ---- the header

-- with an entry that moves; where it is 0, the header is the same
pub header_moved : (w : ℕ) (xs : List ℕ) → 64 ≤ length xs → (word64 24 xs == 0) ≡ false → header (add8 24 w xs) ≡ fixed_header w (header xs)
unfolding header fixed_header fixed_entry
header_moved w xs long some =
    rw (
      kept_part 0 16 24 w xs (omega (arith, long)) (inl (omega arith)),
      kept16 16 24 w xs (omega (arith, long)) (inl (omega arith)),
      kept16 18 24 w xs (omega (arith, long)) (inl (omega arith)),
      kept32 20 24 w xs (omega (arith, long)) (inl (omega arith)),
      moved64 24 w xs (omega (arith, long)),
      kept64 32 24 w xs (omega (arith, long)) (inr (omega arith)),
      kept64 40 24 w xs (omega (arith, long)) (inr (omega arith)),
      kept32 48 24 w xs (omega (arith, long)) (inr (omega arith)),
      kept16 52 24 w xs (omega (arith, long)) (inr (omega arith)),
      kept16 54 24 w xs (omega (arith, long)) (inr (omega arith)),
      kept16 56 24 w xs (omega (arith, long)) (inr (omega arith)),
      kept16 58 24 w xs (omega (arith, long)) (inr (omega arith)),
      kept16 60 24 w xs (omega (arith, long)) (inr (omega arith)),
      kept16 62 24 w xs (omega (arith, long)) (inr (omega arith)),
      some,
    )
    refl

-- ---- one program header

pub segment_moved : (w : ℕ) (r : List ℕ) → length r ≡ 56 → segment_at (row_moved w PhysicalAddress (row_moved w SegmentAddress r)) 0 ≡ fixed_segment w (segment_at r 0)
unfolding row_moved segment_at fixed_segment
segment_moved w r n = elim (cases_Bool (is_moved_kind (word32 0 r))) [
  | inr miss ↦ rw (miss, miss) refl
  | inl hit ↦
      let f : 16 + 8 ≤ length r = omega (arith, n) in
      let one : List ℕ = add8 16 w r in
      let len : length one ≡ 56 = length-add8 16 w r f ∙ n in
      let g : 24 + 8 ≤ length one = omega (arith, len) in
      let again : is_moved_kind (word32 0 one) ≡ true = ap is_moved_kind (kept32 0 16 w r f (inl (omega arith))) ∙ hit in
      rw (
        hit,
        again,
        kept32 0 24 w one g (inl (omega arith)) ∙ kept32 0 16 w r f (inl (omega arith)),
        kept32 4 24 w one g (inl (omega arith)) ∙ kept32 4 16 w r f (inl (omega arith)),
        kept64 8 24 w one g (inl (omega arith)) ∙ kept64 8 16 w r f (inl (omega arith)),
        kept64 16 24 w one g (inl (omega arith)) ∙ moved64 16 w r f,
        moved64 24 w one g ∙ ap (λ (v : ℕ). plus v w) (kept64 24 16 w r f (inr (omega arith))),
        kept64 32 24 w one g (inr (omega arith)) ∙ kept64 32 16 w r f (inr (omega arith)),
        kept64 40 24 w one g (inr (omega arith)) ∙ kept64 40 16 w r f (inr (omega arith)),
        kept64 48 24 w one g (inr (omega arith)) ∙ kept64 48 16 w r f (inr (omega arith)),
      )
      refl
]

-- ---- one section header

pub section_moved : (w : ℕ) (r : List ℕ) (allocated : Bool) → length r ≡ 64 → not (bit_and (word64 8 r) SHF_ALLOC == 0) ≡ allocated → section_at (if allocated then add8 16 w r else r) 0 ≡ fixed_section w (section_at r 0)
unfolding section_at fixed_section
section_moved w r false n is = rw (unallocated (bit_and (word64 8 r) SHF_ALLOC == 0) is) refl
  where
    unallocated : (b : Bool) → not b ≡ false → b ≡ true
    unallocated true h = refl
    unallocated false h = sym h
section_moved w r true n is =
    let f : 16 + 8 ≤ length r = omega (arith, n) in
    rw (
      kept32 0 16 w r f (inl (omega arith)),
      kept32 4 16 w r f (inl (omega arith)),
      kept64 8 16 w r f (inl (omega arith)),
      moved64 16 w r f,
      kept64 24 16 w r f (inr (omega arith)),
      kept64 32 16 w r f (inr (omega arith)),
      kept32 40 16 w r f (inr (omega arith)),
      kept32 44 16 w r f (inr (omega arith)),
      kept64 48 16 w r f (inr (omega arith)),
      kept64 56 16 w r f (inr (omega arith)),
      allocated (bit_and (word64 8 r) SHF_ALLOC == 0) is,
    )
    refl
  where
    allocated : (b : Bool) → not b ≡ true → b ≡ false
    allocated true h = sym h
    allocated false h = refl

-- ---- the dynamic table

-- a tag of a table whose address tags moved
unfoldable pub moved_tag : ℕ → Tag → Tag
moved_tag at t = if is_address_tag t.number then record { number = t.number; value = plus t.value at } else t

row_entry : (table : List ℕ) (i : ℕ) → entry (part (16 * i) 16 table) 0 ≡ entry table i
row_entry table i =
    let start : 16 * i + 0 ≡ 16 * i = omega arith in
    rw (word64_part (16 * i) 16 0 table (omega arith) ∙ ap (λ (k : ℕ). word64 k table) start, word64_part (16 * i) 16 8 table (omega arith)) refl

entry_moved : (w : ℕ) (r : List ℕ) → length r ≡ 16 → entry (row_moved w TagValue r) 0 ≡ moved_tag w (entry r 0)
unfolding row_moved moved_tag
entry_moved w r n = elim (cases_Bool (is_address_tag (word64 0 r))) [
  | inr miss ↦ rw miss refl
  | inl hit ↦ rw (hit, kept64 0 8 w r (omega (arith, n)) (inl (omega arith)), moved64 8 w r (omega (arith, n))) refl
]

pub range_same : {X : Type 0} (f g : ℕ → X) (j m : ℕ) → ((i : ℕ) → i < j + m → f i ≡ g i) → map f (range_with_len j m) ≡ map g (range_with_len j m)
range_same f g j zero each = refl
range_same f g j (suc m) each =
    let one : f j ≡ g j = each j (omega arith) in
    let rest = range_same f g (j + 1) m (λ i lt. each i (omega (arith, lt))) in
    rw (one, rest) refl

pub range_mapped : {X Y : Type 0} (h : X → Y) (f : ℕ → X) (j m : ℕ) → map (λ i. h (f i)) (range_with_len j m) ≡ map h (map f (range_with_len j m))
range_mapped h f j zero = refl
range_mapped h f j (suc m) = ap (λ (ys : List _). h (f j) ∷ ys) (range_mapped h f (j + 1) m)

-- two tables of one length, each row of one the row of the other with its word moved
pub entries_moved : (w : ℕ) (old new : List ℕ) → length new ≡ length old → ((i : ℕ) → i < length old / 16 → part (16 * i) 16 new ≡ row_moved w TagValue (part (16 * i) 16 old)) → ((i : ℕ) → i < length old / 16 → length (part (16 * i) 16 old) ≡ 16)
    → entries new ≡ map (moved_tag w) (entries old)
unfolding entries
entries_moved w old new size rows whole =
    ap (λ (n : ℕ). map (entry new) (range_with_len 0 (n / 16))) size
    ∙ range_same (entry new) (λ i. moved_tag w (entry old i)) 0 (length old / 16) (λ i lt.
    sym (row_entry new i) ∙ ap (λ (r : List ℕ). entry r 0) (rows i (omega (arith, lt))) ∙ entry_moved w (part (16 * i) 16 old) (whole i (omega (arith, lt))) ∙ ap (moved_tag w) (row_entry old i))
    ∙ range_mapped (moved_tag w) (entry old) 0 (length old / 16)

pub number_kept : (w : ℕ) (t : Tag) → (moved_tag w t).number ≡ t.number
unfolding moved_tag
number_kept w t = elim (cases_Bool (is_address_tag t.number)) [ inl hit ↦ rw hit refl | inr miss ↦ rw miss refl ]

pub nulls_moved : (w : ℕ) (ts : List Tag) → position_or_len is_null (map (moved_tag w) ts) ≡ position_or_len is_null ts
nulls_moved w [] = refl
nulls_moved w (t ∷ ts) =
    let same : is_null (moved_tag w t) ≡ is_null t = ap (λ (n : ℕ). n == 0) (number_kept w t) in
    rw (same, nulls_moved w ts) refl

before_moved : (w : ℕ) (ts : List Tag) → before_first is_null (map (moved_tag w) ts) ≡ map (moved_tag w) (before_first is_null ts)
before_moved w ts = ap (λ (n : ℕ). take n (map (moved_tag w) ts)) (nulls_moved w ts) ∙ take-map (moved_tag w) (position_or_len is_null ts) ts

pub tags_moved : (w : ℕ) (old new : List ℕ) → entries new ≡ map (moved_tag w) (entries old) → tags new ≡ map (moved_tag w) (tags old)
unfolding tags
tags_moved w old new is = ap (before_first is_null) is ∙ before_moved w (entries old)

-- ---- one relocation

pub reloc_moved : (w : ℕ) (ss ss' : List Symbol) (r : List ℕ) → length r ≡ 24 → IsBytes r → ((kind symbol : ℕ) → width ss' kind symbol ≡ width ss kind symbol)
    → reloc_at ss' (row_moved w RelativeAddend (row_moved w RelocationPlace r)) 0 ≡ fixed_reloc w (reloc_at ss r 0)
unfolding row_moved reloc_at fixed_reloc
reloc_moved w ss ss' r n bytes same = by_place (word32 8 r == 0) (word32 8 r == 8) refl refl
  where
    f : 0 + 8 ≤ length r
    f = omega (arith, n)

    one : List ℕ
    one = add8 0 w r

    len : length one ≡ 24
    len = length-add8 0 w r f ∙ n

    kind : word32 8 one ≡ word32 8 r
    kind = kept32 8 0 w r f (inr (omega arith))

    whole : cast_unsigned w64 (cast_signed w64 (word64 16 r)) ≡ word64 16 r
    whole = of_z-to_z w64 (word64 16 r) (word64_below 16 r bytes)

    g : 16 + 8 ≤ length one
    g = omega (arith, len)

    by_place : (a b : Bool) → (word32 8 r == 0) ≡ a → (word32 8 r == 8) ≡ b → reloc_at ss' (row_moved w RelativeAddend (row_moved w RelocationPlace r)) 0 ≡ fixed_reloc w (reloc_at ss r 0)
    by_place true true is_none is_relative = absurd (omega (arith, eqb-true (word32 8 r) 0 is_none, eqb-true (word32 8 r) 8 is_relative))
    by_place true false is_none is_relative = rw (is_none, is_relative, same (word32 8 r) (word32 12 r)) refl
    by_place false false is_none is_relative =
        rw (is_none, kind, is_relative, kind, moved64 0 w r f, kept32 12 0 w r f (inr (omega arith)), kept64 16 0 w r f (inr (omega arith)), same (word32 8 r) (word32 12 r)) refl
    by_place false true is_none is_relative =
        rw (
          is_none,
          kind,
          is_relative,
          kept64 0 16 w one g (inl (omega arith)) ∙ moved64 0 w r f,
          kept32 8 16 w one g (inl (omega arith)) ∙ kind,
          kept32 12 16 w one g (inl (omega arith)) ∙ kept32 12 0 w r f (inr (omega arith)),
          moved64 16 w one g ∙ ap (λ (v : ℕ). plus v w) (kept64 16 0 w r f (inr (omega arith))),
          whole,
          same (word32 8 r) (word32 12 r),
        )
        refl

-- ---- one symbol

pub kept8 : (k at w : ℕ) (r : List ℕ) → at + 8 ≤ length r → k < at → byte k (add8 at w r) ≡ byte k r
kept8 k at w r fits before = (agree_add8 at w r fits).bytes k (grind (arith, nat_tests))

section_same : (n : ℕ) → n < 2 ^ 16 → (not (n == 0) && not (nat_le 65280 n && nat_le n 65535)) ≡ (nat_lt 0 n && nat_lt n 65280)
section_same n small = bool_same _ _ (λ h. grind (arith, nat_tests)) (λ h. grind (arith, nat_tests))
  where
    bool_same : (a b : Bool) → (a ≡ true → b ≡ true) → (b ≡ true → a ≡ true) → a ≡ b
    bool_same true true f g = refl
    bool_same false false f g = refl
    bool_same true false f g = sym (f refl)
    bool_same false true f g = g refl

-- a symbol by its row and its name
abbrev pub of_row : List ℕ → List ℕ → Symbol
of_row r name = record {
  name = name;
  value = word64 8 r;
  size = word64 16 r;
  bind = byte 4 r / 16;
  kind = byte 4 r % 16;
  visibility = byte 5 r % 4;
  section = word16 6 r;
  version = VER_NDX_GLOBAL;
}

-- a row whose word moved is that of the symbol with the value moved
value_row : (w : ℕ) (r name : List ℕ) → length r ≡ 24 → of_row (add8 8 w r) name ≡ with_value (plus (word64 8 r) w) (of_row r name)
value_row w r name n =
    let f : 8 + 8 ≤ length r = omega (arith, n) in
    rw (moved64 8 w r f, kept64 16 8 w r f (inr (omega arith)), kept8 4 8 w r f (omega arith), kept8 5 8 w r f (omega arith), kept16 6 8 w r f (inl (omega arith))) refl

-- the row of a symbol: its word moves with its section, or as an address
unfoldable pub symbol_row : ℕ → Bool → List ℕ → List ℕ
symbol_row w address r = if address then add8 8 w (row_moved w SymbolValue r) else row_moved w SymbolValue r

tests_meet : (t a c : Bool) → (a ≡ true → c ≡ false) → ((a && not t) && (not t && c)) ≡ false
tests_meet true a c apart = elim a as (λ b. ((b && false) && (false && c)) ≡ false) [ true ↦ refl | false ↦ refl ]
tests_meet false true c apart = apart refl
tests_meet false false c apart = refl

tests_join : (t a c : Bool) → (not t && (a || c)) ≡ ((a && not t) || (not t && c))
tests_join true true c = refl
tests_join true false c = refl
tests_join false true c = refl
tests_join false false c = refl

module _ (w : ℕ) (r name : List ℕ) (n : length r ≡ 24) (bytes : IsBytes r) where
  abbrev s : Symbol
  s = of_row r name

  in_section : is_in_section s ≡ has_section (word16 6 r)
  unfolding is_in_section
  in_section = section_same (word16 6 r) (word16_below 6 r bytes)

  -- a symbol in a section is not undefined
  not_canonical : has_section (word16 6 r) ≡ true → is_canonical s ≡ false
  unfolding is_canonical is_undefined
  not_canonical section = let some : (word16 6 r == 0) ≡ false = has_some (word16 6 r) section in rw some refl
    where
      has_some : (k : ℕ) → (nat_lt 0 k && nat_lt k 65280) ≡ true → (k == 0) ≡ false
      has_some k h = grind (arith, nat_tests)

  exclusive : (moves SymbolValue r && is_address s) ≡ false
  unfolding is_address is_tls
  exclusive = tests_meet (byte 4 r % 16 == 6) (has_section (word16 6 r)) (is_canonical s) not_canonical

  either : moves_symbol s ≡ (moves SymbolValue r || is_address s)
  unfolding moves_symbol is_address is_tls
  either = ap (λ (b : Bool). not (byte 4 r % 16 == 6) && (b || is_canonical s)) in_section ∙ tests_join (byte 4 r % 16 == 6) (has_section (word16 6 r)) (is_canonical s)

  by_tests : (m a : Bool) → (m && a) ≡ false → of_row (if a then add8 8 w (if m then add8 8 w r else r) else (if m then add8 8 w r else r)) name ≡ (if (m || a) then with_value (plus (word64 8 r) w) s else s)
  by_tests true true h = absurd (false≢true (sym h))
  by_tests true false h = value_row w r name n
  by_tests false true h = value_row w r name n
  by_tests false false h = refl

  pub symbol_moved : of_row (symbol_row w (is_address s) r) name ≡ fixed_symbol w s
  unfolding symbol_row row_moved fixed_symbol
  symbol_moved = by_tests (moves SymbolValue r) (is_address s) exclusive ∙ ap (λ (b : Bool). if b then with_value (plus (word64 8 r) w) s else s) (sym either)

name_of : (w : ℕ) (m a : Bool) (r : List ℕ) → length r ≡ 24 → word32 0 (if a then add8 8 w (if m then add8 8 w r else r) else (if m then add8 8 w r else r)) ≡ word32 0 r
name_of w false false r n = refl
name_of w false true r n = kept32 0 8 w r (omega (arith, n)) (inl (omega arith))
name_of w true false r n = kept32 0 8 w r (omega (arith, n)) (inl (omega arith))
name_of w true true r n =
    let len = length-add8 8 w r (omega (arith, n)) in
    kept32 0 8 w (add8 8 w r) (omega (arith, n, len)) (inl (omega arith)) ∙ kept32 0 8 w r (omega (arith, n)) (inl (omega arith))

pub symbol_name : (w : ℕ) (address : Bool) (r : List ℕ) → length r ≡ 24 → word32 0 (symbol_row w address r) ≡ word32 0 r
unfolding symbol_row row_moved
symbol_name w address r n = name_of w (moves SymbolValue r) address r n
