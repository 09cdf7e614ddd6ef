-- What is written where a program is fixed stands in link tables, is not loaded, or is under a RELATIVE relocation.
use Rattle.std.proofs.Common.{◌≡◌, ℕ, zero, suc, ◌+◌, ◌-◌, ◌*◌, ◌/◌, ◌<◌, ◌≤◌, true, false, List, [], ◌∷◌, length, map, drop, get_or, Option, Some, None, refl, sym, ap, subst, ◌∙◌, arith, inl, inr}
use Rattle.std.specs.Prelude.{if◌then◌else◌, ◌&&◌, ◌==◌, nat_le, nat_lt, slice_get, slice_index, AllPairs}
use Rattle.std.specs.List.{list_any}
use Rattle.std.proofs.Math.Nat.{mul-div-le}
use Rattle.std.proofs.lemmas.Bool.{cases_Bool, cases_lt, true≢false, or_parts, or_from}
use Rattle.std.proofs.lemmas.Bool.Decides.{nat_tests}
use Rattle.std.proofs.lemmas.List.{length-map, get_or-map}
use Rattle.std.proofs.lemmas.List.Folds.{list_any-append}
use Rattle.std.proofs.lemmas.Option.{get_or_from_slice_get, slice_get_within}
use Rattle.pl_base.specs.Windows.{Window, holds, any_share, AreApart, AllIn, Agree}
use Rattle.pl_base.proofs.WindowLaws.{holds_true, holds_false, holds_not, none_share, all_apart_at, agree_same}
use Rattle.pl_elf.specs.Clauses.{load_window, load_windows}
use Rattle.pl_elf.specs.Headers.{is_load, loads}
use Rattle.pl_elf.specs.Ranges.{has}
use Rattle.pl_elf.specs.declared.range.Range.{Range}
use Rattle.pl_elf.specs.declared.segment.Segment.{Segment}
use Rattle.pl_object.specs.Accepted.{IsTabled, tags_of}
use Rattle.pl_object.specs.FilePart.{nothing, loads_byte, loader}
use Rattle.pl_object.specs.Named.{range_window, window_in, dynamic_of, symbols_of, rela_of, jmprel_of, packed_of, symtabs_of}
use Rattle.pl_object.specs.Tables.{header_window, segments_window, link_windows}
use Rattle.pl_object.specs.declared.object.Object.{Object}
use Rattle.pl_object.proofs.FilePartLaws.{loads_parts}
use Rattle.pl_value.proofs.LoneLaws.{none_at}
use Rattle.pl_move.specs.Moves.{row_size, table_window, table_windows, moved, all_moved, add8}
use Rattle.pl_move.specs.Objects.{rows_of, symbol_rows, main_tables, tables_of}
use Rattle.pl_move.specs.declared.kind.RowKind.{RowKind}
use Rattle.pl_move.specs.declared.kind.RowKind.TheVariants.{TagValue, SymbolValue, RelocationPlace, RelativeAddend, PackedAddress}
use Rattle.pl_move.specs.declared.table.Table.{Table}
use Rattle.pl_move.proofs.MoveLaws.{length-moved, moved_agrees, length-add8, agree_add8}
use Rattle.pl_move.proofs.ObjectLaws.{table_windows-append}
use Rattle.pl_pie.specs.Fix.{added, word_windows}

-- ---- an offset outside of windows

sub_out : (j at n m : ℕ) → n ≤ m → holds j (record { at = at; size = m }) ≡ false → holds j (record { at = at; size = n }) ≡ false
sub_out j at n m le out = elim (holds_false j (record { at = at; size = m }) out) [
  | inl lt ↦ holds_not j (record { at = at; size = n }) (inl lt)
  | inr ge ↦ holds_not j (record { at = at; size = n }) (inr (omega (arith, le, ge)))
]

-- a word inside of a window that does not hold the offset
pub inside_out : (j b : ℕ) (w : Window) → w.at ≤ b → b + 8 ≤ w.at + w.size → holds j w ≡ false → holds j (record { at = b; size = 8 }) ≡ false
inside_out j b w from to out = elim (holds_false j w out) [
  | inl lt ↦ holds_not j (record { at = b; size = 8 }) (inl (omega (arith, lt, from)))
  | inr ge ↦ holds_not j (record { at = b; size = 8 }) (inr (omega (arith, ge, to)))
]

-- windows apart hold no offset in common
pub apart_out : (j : ℕ) (v w : Window) → AreApart v w → holds j w ≡ true → holds j v ≡ false
apart_out j v w apart hit =
    let h = holds_true j w hit in
    elim apart [
      | inl before ↦ holds_not j v (inr (omega (arith, before, h.0)))
      | inr more ↦ elim more [
        | inl behind ↦ holds_not j v (inl (omega (arith, behind, h.1)))
        | inr empty ↦ elim empty [
          | inl first ↦ elim (cases_lt j v.at) [
            | inl lt ↦ holds_not j v (inl lt)
            | inr le ↦ holds_not j v (inr (omega (arith, le, first)))
          ]
          | inr second ↦ absurd (omega (arith, second, h.0, h.1))
        ]
      ]
    ]

pub holds_in : (j at size : ℕ) → at ≤ j → j < at + size → holds j (record { at = at; size = size }) ≡ true
holds_in j at size le lt = grind (arith, nat_tests)

-- ---- tables

range_out : (j : ℕ) (r : Range) → has j r ≡ false → holds j (range_window r) ≡ false
range_out j r out = elim (cases_Bool (holds j (range_window r))) [
  | inr miss ↦ miss
  | inl hit ↦ let h = holds_true j (range_window r) hit in absurd (true≢false (sym (inside j r.start r.end h.0 (omega (arith, h.0, h.1))) ∙ out))
]
  where
    inside : (j a b : ℕ) → a ≤ j → j < b → (nat_le a j && nat_lt j b) ≡ true
    inside j a b le lt = grind (arith, nat_tests)

slot_out : (j : ℕ) (rs : List Range) (i : ℕ) → list_any (has j) rs ≡ false → holds j (window_in (slice_get rs i)) ≡ false
slot_out j rs i none = of_slot (slice_get rs i) refl
  where
    of_slot : (m : Option Range) → slice_get rs i ≡ m → holds j (window_in m) ≡ false
    of_slot None is = holds_not j nothing (inr (omega arith))
    of_slot (Some r) is =
        let out : has j (get_or rs i r) ≡ false = none_at (has j) rs i r (slice_get_within rs i r is) none in
        range_out j r (subst (λ (q : Range). has j q ≡ false) (get_or_from_slice_get rs i r r is) out)

pub symbols_out : (o : Object) (j : ℕ) → list_any (has j) o.tables ≡ false → holds j (symbols_of o) ≡ false
unfolding symbols_of
symbols_out o j none = slot_out j o.tables 3 none

rows_out : (j : ℕ) (kind : RowKind) (w : Window) → holds j w ≡ false → holds j (table_window (rows_of kind w)) ≡ false
rows_out j kind w out = sub_out j w.at (row_size kind * (w.size / row_size kind)) w.size (mul-div-le w.size (row_size kind)) out

drop_out : (j k : ℕ) (rs : List Range) → list_any (has j) rs ≡ false → list_any (has j) (drop k rs) ≡ false
drop_out j zero rs none = none
drop_out j (suc k) [] none = refl
drop_out j (suc k) (r ∷ rs) none = drop_out j k rs (or_parts (has j r) (list_any (has j) rs) none).1

symtabs_out : (j : ℕ) (rs : List Range) → list_any (has j) rs ≡ false → list_any (holds j) (table_windows (map symbol_rows rs)) ≡ false
symtabs_out j [] none = refl
symtabs_out j (r ∷ rs) none =
    let p = or_parts (has j r) (list_any (has j) rs) none in
    or_from _ _ (rows_out j SymbolValue (range_window r) (range_out j r p.0)) (symtabs_out j rs p.1)

header_out : (p : List ℕ) (o : Object) (j : ℕ) → IsTabled p o (tags_of p o) → list_any (has j) o.tables ≡ false → holds j header_window ≡ false
unfolding link_windows
header_out p o j tabled none =
    let e = ap (λ (rs : List Range). window_in (slice_get rs 0)) tabled.shape in
    subst (λ (w : Window). holds j w ≡ false) e (slot_out j o.tables 0 none)

segments_out : (p : List ℕ) (o : Object) (j : ℕ) → IsTabled p o (tags_of p o) → list_any (has j) o.tables ≡ false → holds j (segments_window o.header) ≡ false
unfolding link_windows
segments_out p o j tabled none =
    let e = ap (λ (rs : List Range). window_in (slice_get rs 1)) tabled.shape in
    let out = subst (λ (w : Window). holds j w ≡ false) e (slot_out j o.tables 1 none) in
    sub_out j o.header.phoff (56 * o.header.phnum) (o.header.phoff + 56 * o.header.phnum - o.header.phoff) (omega arith) out

main_out : (p : List ℕ) (o : Object) (j : ℕ) → IsTabled p o (tags_of p o) → list_any (has j) o.tables ≡ false → list_any (holds j) (table_windows (main_tables o)) ≡ false
unfolding main_tables dynamic_of symbols_of rela_of jmprel_of packed_of
main_out p o j tabled none =
    let header = header_out p o j tabled none in
    let segments = segments_out p o j tabled none in
    let slot = λ (i : ℕ). slot_out j o.tables i none in
    or_from _ _ (sub_out j 0 _ 64 (entry_small o.entry) header)
    (or_from _ _ segments
    (or_from _ _ segments
    (or_from _ _ (rows_out j TagValue _ (slot 2))
    (or_from _ _ (rows_out j SymbolValue _ (slot 3))
    (or_from _ _ (rows_out j RelocationPlace _ (slot 5))
    (or_from _ _ (rows_out j RelativeAddend _ (slot 5))
    (or_from _ _ (rows_out j RelocationPlace _ (slot 6))
    (or_from _ _ (rows_out j RelativeAddend _ (slot 6))
    (or_from _ _ (rows_out j PackedAddress _ (slot 12)) refl)))))))))
  where
    entry_small : (entry : ℕ) → 64 * (if entry == 0 then 0 else 1) ≤ 64
    entry_small entry = elim (cases_Bool (entry == 0)) [
      | inl none ↦ rw none (omega arith)
      | inr some ↦ rw some (omega arith)
    ]

pub tables_out : (p : List ℕ) (o : Object) (j : ℕ) → IsTabled p o (tags_of p o) → list_any (has j) o.tables ≡ false → list_any (holds j) (table_windows (tables_of o)) ≡ false
unfolding tables_of symtabs_of
tables_out p o j tabled none =
    ap (list_any (holds j)) (table_windows-append (main_tables o) (map symbol_rows (symtabs_of o)))
    ∙ list_any-append (holds j) (table_windows (main_tables o)) (table_windows (map symbol_rows (symtabs_of o)))
    ∙ or_from _ _ (main_out p o j tabled none) (symtabs_out j (drop 13 o.tables) (drop_out j 13 o.tables none))

-- ---- what is written elsewhere stays

pub moved_out : (w : ℕ) (ts : List Table) (xs : List ℕ) (j : ℕ) → AllIn (length xs) (table_windows ts) → list_any (holds j) (table_windows ts) ≡ false → slice_index (all_moved w ts xs) j ≡ slice_index xs j
unfolding all_moved
moved_out w [] xs j fits out = refl
moved_out w (t ∷ ts) xs j fits out =
    let p = or_parts (holds j (table_window t)) (list_any (holds j) (table_windows ts)) out in
    let one : Agree (table_window t ∷ []) (moved w t xs) xs = moved_agrees [] w t xs xs (agree_same xs) fits.0 in
    moved_out w ts (moved w t xs) j (rw (length-moved w t xs fits.0) fits.1) p.1 ∙ one.bytes j (or_from _ _ p.0 refl)

pub added_out : (w : ℕ) (ats : List ℕ) (xs : List ℕ) (j : ℕ) → AllIn (length xs) (word_windows ats) → list_any (holds j) (word_windows ats) ≡ false → slice_index (added w ats xs) j ≡ slice_index xs j
unfolding added
added_out w [] xs j fits out = refl
added_out w (at ∷ ats) xs j fits out =
    let p = or_parts (holds j (record { at = at; size = 8 })) (list_any (holds j) (word_windows ats)) out in
    added_out w ats (add8 at w xs) j (rw (length-add8 at w xs fits.0) fits.1) p.1 ∙ (agree_add8 at w xs fits.0).bytes j (or_from _ _ p.0 refl)

-- ---- the segment of a byte

-- the segment that loads a byte is one of the PT_LOADs
pub loader_at : (ss : List Segment) (a : ℕ) (t : Segment) → loader ss a ≡ Some t → (i : ℕ) × (i < length (loads ss)) × ((d : Segment) → get_or (loads ss) i d ≡ t)
loader_at [] a t h = absurd cc
loader_at (s ∷ ss) a t h = elim (cases_Bool (loads_byte a s)) [
  | inl hit ↦
      let e : ◌≡◌ {A = Option Segment} (Some s) (Some t) = rw hit at h in
      let same : s ≡ t = cc in
      let load = (loads_parts a s hit).0 in
      rw load (0, omega arith, λ d. same)
  | inr miss ↦
      let rest = loader_at ss a t (rw miss at h) in
      elim (cases_Bool (is_load s)) [
        | inl load ↦ rw load (suc rest.0, omega (arith, rest.1), λ d. rest.2 d)
        | inr other ↦ rw other rest
      ]
]

-- no byte of the file is in two of them
pub same_load : (ls : List Segment) (i k j : ℕ) (d : Segment) → any_share (load_windows ls) ≡ false → i < length ls → k < length ls → holds j (load_window (get_or ls i d)) ≡ true → holds j (load_window (get_or ls k d)) ≡ true → i ≡ k
same_load ls i k j d none first second one two =
    let ws : List Window = load_windows ls in
    let all : AllPairs AreApart ws = all_apart_at ws (none_share ws none) in
    let size : length ws ≡ length ls = length-map ls load_window in
    let one_at : get_or ws i (load_window d) ≡ load_window (get_or ls i d) = get_or-map load_window ls i d (load_window d) first in
    let two_at : get_or ws k (load_window d) ≡ load_window (get_or ls k d) = get_or-map load_window ls k d (load_window d) second in
    elim (cases_lt i k) [
      | inl lt ↦
          let apart : AreApart (load_window (get_or ls i d)) (load_window (get_or ls k d)) = rw (one_at, two_at) at (all i k (load_window d) lt (omega (arith, second, size))) in
          absurd (true≢false (sym one ∙ apart_out j _ _ apart two))
      | inr ge ↦ elim (cases_lt k i) [
        | inl lt ↦
            let apart : AreApart (load_window (get_or ls k d)) (load_window (get_or ls i d)) = rw (two_at, one_at) at (all k i (load_window d) lt (omega (arith, first, size))) in
            absurd (true≢false (sym two ∙ apart_out j _ _ apart one))
        | inr le ↦ omega (arith, ge, le)
      ]
    ]
