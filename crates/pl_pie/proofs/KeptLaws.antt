-- A window that shares no byte with a word that moves keeps its bytes.
use Rattle.std.proofs.Common.{◌≡◌, ℕ, ◌+◌, ◌-◌, ◌*◌, ◌/◌, ◌%◌, ◌^◌, ◌<◌, ◌≤◌, true, false, List, [], ◌∷◌, ◌++◌, length, map, refl, sym, ap, subst, ◌∙◌, arith, inl, inr}
use Rattle.std.specs.Prelude.{◌==◌, not, slice_index, if◌then◌else◌}
use Rattle.std.proofs.lemmas.Bool.{cases_Bool, cases_lt, or_from}
use Rattle.std.proofs.Math.Nat.{mul-le-mul_left, mul-div-le}
use Rattle.std.proofs.lemmas.Nat.{div-add-mod', mod_below}
use Rattle.pl_base.specs.Bytes.{part, word64}
use Rattle.pl_base.specs.Windows.{Window, within, holds, IsIn, AllIn, AreApart, IsApart}
use Rattle.pl_base.proofs.WindowLaws.{holds_true, holds_false, holds_not, agree_same, agree_within, part_byte, part_part, length-part, AreAllApart, apart_turned}
use Rattle.pl_dyn.specs.Kinds.{is_address_tag}
use Rattle.pl_elf.specs.Headers.{is_moved_kind}
use Rattle.pl_elf.specs.declared.range.Range.{Range}
use Rattle.pl_object.specs.Named.{range_window, dynamic_of, symbols_of, rela_of, jmprel_of, packed_of, symtabs_of}
use Rattle.pl_object.specs.Tables.{header_window, segments_window}
use Rattle.pl_object.specs.declared.object.Object.{Object}
use Rattle.pl_move.specs.Moves.{add8, row_size, word_offset, moves, row_moved, table_window, table_windows, moved, all_moved}
use Rattle.pl_move.specs.Objects.{rows_of, symbol_rows, main_tables, tables_of}
use Rattle.pl_move.specs.declared.kind.RowKind.{RowKind}
use Rattle.pl_move.specs.declared.kind.RowKind.TheVariants.{Entry, SegmentAddress, PhysicalAddress, TagValue, SymbolValue, RelocationPlace, RelativeAddend, PackedAddress}
use Rattle.pl_move.specs.declared.table.Table.{Table}
use Rattle.pl_move.proofs.MoveLaws.{agree_add8, length-row_moved, length-moved, moved_agrees}
use Rattle.pl_pie.specs.Words.{word_window, row_start}
use Rattle.pl_pie.proofs.ContentLaws.{within_moved, row_at, row_room}
use Rattle.pl_pie.proofs.OwnLaws.{all_windows, entry_apart, rows_sub}
use Rattle.pl_pie.proofs.RowOfLaws.{kept8, kept16, kept32, kept64, moved64}

-- ---- one row

in_row : (kind : RowKind) → word_offset kind + 8 ≤ row_size kind
in_row Entry = omega arith
in_row SegmentAddress = omega arith
in_row PhysicalAddress = omega arith
in_row TagValue = omega arith
in_row SymbolValue = omega arith
in_row RelocationPlace = omega arith
in_row RelativeAddend = omega arith
in_row PackedAddress = omega arith

-- a byte outside of the word that moves
row_byte : (w : ℕ) (kind : RowKind) (r : List ℕ) (k : ℕ) → length r ≡ row_size kind → (moves kind r ≡ true → holds k (word_window (word_offset kind)) ≡ false) → slice_index (row_moved w kind r) k ≡ slice_index r k
unfolding row_moved
row_byte w kind r k n apart = elim (cases_Bool (moves kind r)) [
  | inl hit ↦ rw hit ((agree_add8 (word_offset kind) w r (omega (arith, n, in_row kind))).bytes k (or_from _ _ (apart hit) refl))
  | inr miss ↦ rw miss refl
]

-- what tells whether a row's word moves is no part of the word, nor of the other word of such a row
parity : (x w : ℕ) → w % 2 ≡ 0 → (x + w) % 2 ^ 64 % 2 ≡ x % 2
parity x w even = omega (arith, even)

same_word : (kind : RowKind) (w : ℕ) (r : List ℕ) → length r ≡ row_size kind → w % 2 ≡ 0 → moves kind (add8 (word_offset kind) w r) ≡ moves kind r
same_word Entry w r n even = refl
same_word SegmentAddress w r n even = ap is_moved_kind (kept32 0 16 w r (omega (arith, n)) (inl (omega arith)))
same_word PhysicalAddress w r n even = ap is_moved_kind (kept32 0 24 w r (omega (arith, n)) (inl (omega arith)))
same_word TagValue w r n even = ap is_address_tag (kept64 0 8 w r (omega (arith, n)) (inl (omega arith)))
same_word SymbolValue w r n even = rw (kept16 6 8 w r (omega (arith, n)) (inl (omega arith)), kept8 4 8 w r (omega (arith, n)) (omega arith)) refl
same_word RelocationPlace w r n even = ap (λ (k : ℕ). not (k == 0)) (kept32 8 0 w r (omega (arith, n)) (inr (omega arith)))
same_word RelativeAddend w r n even = ap (λ (k : ℕ). k == 8) (kept32 8 16 w r (omega (arith, n)) (inl (omega arith)))
same_word PackedAddress w r n even = ap (λ (k : ℕ). k == 0) (ap (λ (x : ℕ). x % 2) (moved64 0 w r (omega (arith, n))) ∙ parity (word64 0 r) w even)

-- of two kinds of rows of one size: a row of the first moved is told as it was by the second
abbrev AreTold : RowKind → RowKind → Type 0
AreTold k l = (w : ℕ) (r : List ℕ) → length r ≡ row_size k → w % 2 ≡ 0 → moves l (row_moved w k r) ≡ moves l r

by_word : (k l : RowKind) → ((w : ℕ) (r : List ℕ) → length r ≡ row_size k → w % 2 ≡ 0 → moves l (add8 (word_offset k) w r) ≡ moves l r) → AreTold k l
unfolding row_moved
by_word k l told w r n even = elim (cases_Bool (moves k r)) [
  | inl hit ↦ rw hit (told w r n even)
  | inr miss ↦ rw miss refl
]

told_segment : AreTold SegmentAddress PhysicalAddress
told_segment = by_word SegmentAddress PhysicalAddress (λ w r n even. ap is_moved_kind (kept32 0 16 w r (omega (arith, n)) (inl (omega arith))))

told_reloc : AreTold RelocationPlace RelativeAddend
told_reloc = by_word RelocationPlace RelativeAddend (λ w r n even. ap (λ (k : ℕ). k == 8) (kept32 8 0 w r (omega (arith, n)) (inr (omega arith))))

-- ---- one table

abbrev pub row_of : Table → List ℕ → ℕ → List ℕ
row_of t xs i = part (row_start t i) (row_size t.kind) xs

-- each row of a moved table is the row moved
pub moved_row : (w : ℕ) (t : Table) (i : ℕ) (xs : List ℕ) → IsIn (length xs) (table_window t) → i < t.count → row_of t (moved w t xs) i ≡ row_moved w t.kind (row_of t xs i)
moved_row w t i xs fits lt =
    let s : ℕ = row_size t.kind in
    let old : List ℕ = within (table_window t) xs in
    let len : length old ≡ s * t.count = length-part t.at (s * t.count) xs fits in
    let room : s * i + s ≤ s * t.count = row_room s i t.count lt in
    sym (part_part t.at (s * t.count) (s * i) s (moved w t xs) room) ∙ ap (part (s * i) s) (within_moved w t xs fits)
    ∙ row_at s (row_moved w t.kind) t.count i old (length-row_moved w t.kind) (omega (arith, len)) lt ∙ ap (row_moved w t.kind) (part_part t.at (s * t.count) (s * i) s xs room)

-- no word that moves has the byte
abbrev pub Clear : ℕ → List ℕ → Table → Type 0
Clear j xs t = (i : ℕ) → i < t.count → moves t.kind (row_of t xs i) ≡ true → holds j (word_window (row_start t i + word_offset t.kind)) ≡ false

row_index : (s n d : ℕ) → 0 < s → d < s * n → (d / s < n) × (s * (d / s) + d % s ≡ d) × (d % s < s)
row_index s n d some lt = (
  elim (cases_lt (d / s) n) [
    | inl below ↦ below
    | inr le ↦ absurd (omega (arith, lt, mul-le-mul_left {m = n} {n = d / s} s le, mul-div-le d s))
  ],
  omega (arith, div-add-mod' d s),
  mod_below d s some,
)

shifted_out : (a k b : ℕ) → holds (a + k) (word_window (a + b)) ≡ false → holds k (word_window b) ≡ false
shifted_out a k b out = elim (holds_false (a + k) (word_window (a + b)) out) [
  | inl lt ↦ holds_not k (word_window b) (inl (omega (arith, lt)))
  | inr le ↦ holds_not k (word_window b) (inr (omega (arith, le)))
]

table_byte : (w : ℕ) (t : Table) (xs : List ℕ) (j : ℕ) → IsIn (length xs) (table_window t) → Clear j xs t → slice_index (moved w t xs) j ≡ slice_index xs j
table_byte w t xs j fits clear = elim (cases_Bool (holds j (table_window t))) [
  | inr miss ↦ (moved_agrees [] w t xs xs (agree_same xs) fits).bytes j (or_from _ _ miss refl)
  | inl hit ↦ inside (holds_true j (table_window t) hit)
]
  where
    inside : (t.at ≤ j) × (j < t.at + row_size t.kind * t.count) → slice_index (moved w t xs) j ≡ slice_index xs j
    inside h =
        let s : ℕ = row_size t.kind in
        let ix = row_index s t.count (j - t.at) (omega (arith, in_row t.kind)) (omega (arith, h.0, h.1)) in
        let i : ℕ = (j - t.at) / s in
        let k : ℕ = (j - t.at) % s in
        let e : t.at + s * i + k ≡ j = omega (arith, ix.1, h.0) in
        let room : s * i + s ≤ s * t.count = row_room s i t.count ix.0 in
        let len : length (row_of t xs i) ≡ s = length-part (t.at + s * i) s xs (omega (arith, room, fits)) in
        let out : moves t.kind (row_of t xs i) ≡ true → holds k (word_window (word_offset t.kind)) ≡ false =
        λ hit. shifted_out (t.at + s * i) k (word_offset t.kind) (subst (λ (m : ℕ). holds m (word_window (t.at + s * i + word_offset t.kind)) ≡ false) (sym e) (clear i ix.0 hit)) in
        subst (λ (m : ℕ). slice_index (moved w t xs) m ≡ slice_index xs m) e
        (sym (part_byte (t.at + s * i) s (moved w t xs) k ix.2) ∙ ap (λ (r : List ℕ). slice_index r k) (moved_row w t i xs fits ix.0)
        ∙ row_byte w t.kind (row_of t xs i) k len out ∙ part_byte (t.at + s * i) s xs k ix.2)

-- ---- tables one after the other

-- a table's move leaves what tells whether the rows of another move
abbrev pub Leaves : Table → Table → Type 0
Leaves t u = (w : ℕ) (xs : List ℕ) (i : ℕ) → w % 2 ≡ 0 → IsIn (length xs) (table_window t) → IsIn (length xs) (table_window u) → i < u.count → moves u.kind (row_of u (moved w t xs) i) ≡ moves u.kind (row_of u xs i)

row_apart : (u : Table) (v : Window) (i : ℕ) → i < u.count → AreApart (table_window u) v → AreApart (record { at = row_start u i; size = row_size u.kind }) v
row_apart u v i lt (inl le) = inl (omega (arith, le, row_room (row_size u.kind) i u.count lt))
row_apart u v i lt (inr (inl le)) = inr (inl (omega (arith, le)))
row_apart u v i lt (inr (inr (inl none))) = absurd (omega (arith, none, row_room (row_size u.kind) i u.count lt, in_row u.kind))
row_apart u v i lt (inr (inr (inr none))) = inr (inr (inr none))

leaves_apart : (t u : Table) → AreApart (table_window u) (table_window t) → Leaves t u
leaves_apart t u apart w xs i even first second lt =
    ap (moves u.kind)
    (agree_within (record { at = row_start u i; size = row_size u.kind }) (table_window t ∷ []) (moved w t xs) xs (moved_agrees [] w t xs xs (agree_same xs) first)
    (omega (arith, second, row_room (row_size u.kind) i u.count lt)) (row_apart u (table_window t) i lt apart, tt))

row_length : (t : Table) (xs : List ℕ) (i : ℕ) → IsIn (length xs) (table_window t) → i < t.count → length (row_of t xs i) ≡ row_size t.kind
row_length t xs i fits lt = length-part (row_start t i) (row_size t.kind) xs (omega (arith, fits, row_room (row_size t.kind) i t.count lt))

leaves_segments : (at count : ℕ) → Leaves (record { kind = SegmentAddress; at = at; count = count }) (record { kind = PhysicalAddress; at = at; count = count })
leaves_segments at count w xs i even first second lt =
    let t : Table = record { kind = SegmentAddress; at = at; count = count } in
    ap (moves PhysicalAddress) (moved_row w t i xs first lt) ∙ told_segment w (row_of t xs i) (row_length t xs i first lt) even

leaves_relocs : (v : Window) → Leaves (rows_of RelocationPlace v) (rows_of RelativeAddend v)
leaves_relocs v w xs i even first second lt =
    let t : Table = rows_of RelocationPlace v in
    ap (moves RelativeAddend) (moved_row w t i xs first lt) ∙ told_reloc w (row_of t xs i) (row_length t xs i first lt) even

abbrev pub LeavesAll : Table → List Table → Type 0
LeavesAll t [] = Unit {0}
LeavesAll t (u ∷ us) = Leaves t u × LeavesAll t us

abbrev pub AllLeave : List Table → Type 0
AllLeave [] = Unit {0}
AllLeave (t ∷ ts) = LeavesAll t ts × AllLeave ts

abbrev pub AllClear : ℕ → List ℕ → List Table → Type 0
AllClear j xs [] = Unit {0}
AllClear j xs (t ∷ ts) = Clear j xs t × AllClear j xs ts

clear_after : (w j : ℕ) (t : Table) (us : List Table) (xs : List ℕ) → w % 2 ≡ 0 → IsIn (length xs) (table_window t) → AllIn (length xs) (table_windows us) → LeavesAll t us → AllClear j xs us → AllClear j (moved w t xs) us
clear_after w j t [] xs even fits rest leaves clear = tt
clear_after w j t (u ∷ us) xs even fits rest leaves clear =
    (λ i lt hit. clear.0 i lt (sym (leaves.0 w xs i even fits rest.0 lt) ∙ hit), clear_after w j t us xs even fits rest.1 leaves.1 clear.1)

pub all_bytes : (w : ℕ) (ts : List Table) (xs : List ℕ) (j : ℕ) → w % 2 ≡ 0 → AllIn (length xs) (table_windows ts) → AllLeave ts → AllClear j xs ts → slice_index (all_moved w ts xs) j ≡ slice_index xs j
unfolding all_moved
all_bytes w [] xs j even fits leave clear = refl
all_bytes w (t ∷ ts) xs j even fits leave clear =
    all_bytes w ts (moved w t xs) j even (rw (length-moved w t xs fits.0) fits.1) leave.1 (clear_after w j t ts xs even fits.0 fits.1 leave.0 clear.1) ∙ table_byte w t xs j fits.0 clear.0

leaves_both : (t : Table) (us vs : List Table) → LeavesAll t us → LeavesAll t vs → LeavesAll t (us ++ vs)
leaves_both t [] vs a b = b
leaves_both t (u ∷ us) vs a b = (a.0, leaves_both t us vs a.1 b)

abbrev EachLeaves : List Table → List Table → Type 0
EachLeaves [] us = Unit {0}
EachLeaves (t ∷ ts) us = LeavesAll t us × EachLeaves ts us

leave_both : (ts us : List Table) → AllLeave ts → AllLeave us → EachLeaves ts us → AllLeave (ts ++ us)
leave_both [] us a b each = b
leave_both (t ∷ ts) us a b each = (leaves_both t ts us a.0 each.0, leave_both ts us a.1 b each.1)

-- ---- the tables of an object

both_rows : (k l : RowKind) (v w : Window) → AreApart v w → AreApart (table_window (rows_of k v)) (table_window (rows_of l w))
both_rows k l v w apart = rows_sub l (table_window (rows_of k v)) w (apart_turned w (table_window (rows_of k v)) (rows_sub k w v (apart_turned v w apart)))

symtabs_leave : (t : Table) (rs : List Range) → IsApart (table_window t) (map range_window rs) → LeavesAll t (map symbol_rows rs)
symtabs_leave t [] apart = tt
symtabs_leave t (r ∷ rs) apart = (leaves_apart t (symbol_rows r) (apart_turned (table_window t) (table_window (symbol_rows r)) (rows_sub SymbolValue (table_window t) (range_window r) apart.0)), symtabs_leave t rs apart.1)

rows_of_apart : (k : RowKind) (v : Window) (ws : List Window) → IsApart v ws → IsApart (table_window (rows_of k v)) ws
rows_of_apart k v [] apart = tt
rows_of_apart k v (w ∷ ws) apart = (apart_turned w (table_window (rows_of k v)) (rows_sub k w v (apart_turned v w apart.0)), rows_of_apart k v ws apart.1)

symtabs_leave_all : (rs : List Range) → AreAllApart (map range_window rs) → AllLeave (map symbol_rows rs)
symtabs_leave_all [] apart = tt
symtabs_leave_all (r ∷ rs) apart = (symtabs_leave (symbol_rows r) rs (rows_of_apart SymbolValue (range_window r) (map range_window rs) apart.0), symtabs_leave_all rs apart.1)

entry_first : (entry : ℕ) (v : Window) → AreApart v (record { at = 0; size = 64 }) → AreApart v (record { at = 0; size = 64 * (if entry == 0 then 0 else 1) })
entry_first entry v apart = entry_apart v entry apart

entry_symtabs : (entry : ℕ) (ws : List Window) → IsApart (record { at = 0; size = 64 }) ws → IsApart (record { at = 0; size = 64 * (if entry == 0 then 0 else 1) }) ws
entry_symtabs entry [] apart = tt
entry_symtabs entry (w ∷ ws) apart = (apart_turned w _ (entry_apart w entry (apart_turned _ w apart.0)), entry_symtabs entry ws apart.1)

abbrev entry_table : Object → Table
entry_table o = record { kind = Entry; at = 0; count = if o.entry == 0 then 0 else 1 }

abbrev segment_table : Object → Table
segment_table o = record { kind = SegmentAddress; at = o.header.phoff; count = o.header.phnum }

abbrev physical_table : Object → Table
physical_table o = record { kind = PhysicalAddress; at = o.header.phoff; count = o.header.phnum }

abbrev later : Object → List Table
later o =
    rows_of TagValue (dynamic_of o) ∷ rows_of SymbolValue (symbols_of o) ∷ rows_of RelocationPlace (rela_of o) ∷ rows_of RelativeAddend (rela_of o)
    ∷ rows_of RelocationPlace (jmprel_of o) ∷ rows_of RelativeAddend (jmprel_of o) ∷ rows_of PackedAddress (packed_of o) ∷ []

entry_leaves : (o : Object) → AreAllApart (all_windows o) → LeavesAll (entry_table o) (segment_table o ∷ physical_table o ∷ rows_of TagValue (dynamic_of o) ∷ rows_of SymbolValue (symbols_of o) ∷ rows_of RelocationPlace (rela_of o) ∷ rows_of RelativeAddend (rela_of o) ∷ rows_of RelocationPlace (jmprel_of o) ∷ rows_of RelativeAddend (jmprel_of o) ∷ rows_of PackedAddress (packed_of o) ∷ [])
entry_leaves o a = (leaves_apart (entry_table o) (segment_table o) (entry_apart (table_window (segment_table o)) o.entry (apart_turned header_window (segments_window o.header) a.1.0.0)), (leaves_apart (entry_table o) (physical_table o) (entry_apart (table_window (physical_table o)) o.entry (apart_turned header_window (segments_window o.header) a.1.0.0)), (leaves_apart (entry_table o) (rows_of TagValue (dynamic_of o)) (entry_apart (table_window (rows_of TagValue (dynamic_of o))) o.entry (apart_turned header_window (table_window (rows_of TagValue (dynamic_of o))) (rows_sub TagValue header_window (dynamic_of o) a.1.0.1.1.0))), (leaves_apart (entry_table o) (rows_of SymbolValue (symbols_of o)) (entry_apart (table_window (rows_of SymbolValue (symbols_of o))) o.entry (apart_turned header_window (table_window (rows_of SymbolValue (symbols_of o))) (rows_sub SymbolValue header_window (symbols_of o) a.1.0.1.1.1.0))), (leaves_apart (entry_table o) (rows_of RelocationPlace (rela_of o)) (entry_apart (table_window (rows_of RelocationPlace (rela_of o))) o.entry (apart_turned header_window (table_window (rows_of RelocationPlace (rela_of o))) (rows_sub RelocationPlace header_window (rela_of o) a.1.0.1.1.1.1.0))), (leaves_apart (entry_table o) (rows_of RelativeAddend (rela_of o)) (entry_apart (table_window (rows_of RelativeAddend (rela_of o))) o.entry (apart_turned header_window (table_window (rows_of RelativeAddend (rela_of o))) (rows_sub RelativeAddend header_window (rela_of o) a.1.0.1.1.1.1.0))), (leaves_apart (entry_table o) (rows_of RelocationPlace (jmprel_of o)) (entry_apart (table_window (rows_of RelocationPlace (jmprel_of o))) o.entry (apart_turned header_window (table_window (rows_of RelocationPlace (jmprel_of o))) (rows_sub RelocationPlace header_window (jmprel_of o) a.1.0.1.1.1.1.1.0))), (leaves_apart (entry_table o) (rows_of RelativeAddend (jmprel_of o)) (entry_apart (table_window (rows_of RelativeAddend (jmprel_of o))) o.entry (apart_turned header_window (table_window (rows_of RelativeAddend (jmprel_of o))) (rows_sub RelativeAddend header_window (jmprel_of o) a.1.0.1.1.1.1.1.0))), (leaves_apart (entry_table o) (rows_of PackedAddress (packed_of o)) (entry_apart (table_window (rows_of PackedAddress (packed_of o))) o.entry (apart_turned header_window (table_window (rows_of PackedAddress (packed_of o))) (rows_sub PackedAddress header_window (packed_of o) (apart_turned _ _ a.0.0)))), tt)))))))))

segment_leaves : (o : Object) → AreAllApart (all_windows o) → LeavesAll (segment_table o) (physical_table o ∷ rows_of TagValue (dynamic_of o) ∷ rows_of SymbolValue (symbols_of o) ∷ rows_of RelocationPlace (rela_of o) ∷ rows_of RelativeAddend (rela_of o) ∷ rows_of RelocationPlace (jmprel_of o) ∷ rows_of RelativeAddend (jmprel_of o) ∷ rows_of PackedAddress (packed_of o) ∷ [])
segment_leaves o a = (leaves_segments o.header.phoff o.header.phnum, (leaves_apart (segment_table o) (rows_of TagValue (dynamic_of o)) (apart_turned (segments_window o.header) (table_window (rows_of TagValue (dynamic_of o))) (rows_sub TagValue (segments_window o.header) (dynamic_of o) a.1.1.0.1.0)), (leaves_apart (segment_table o) (rows_of SymbolValue (symbols_of o)) (apart_turned (segments_window o.header) (table_window (rows_of SymbolValue (symbols_of o))) (rows_sub SymbolValue (segments_window o.header) (symbols_of o) a.1.1.0.1.1.0)), (leaves_apart (segment_table o) (rows_of RelocationPlace (rela_of o)) (apart_turned (segments_window o.header) (table_window (rows_of RelocationPlace (rela_of o))) (rows_sub RelocationPlace (segments_window o.header) (rela_of o) a.1.1.0.1.1.1.0)), (leaves_apart (segment_table o) (rows_of RelativeAddend (rela_of o)) (apart_turned (segments_window o.header) (table_window (rows_of RelativeAddend (rela_of o))) (rows_sub RelativeAddend (segments_window o.header) (rela_of o) a.1.1.0.1.1.1.0)), (leaves_apart (segment_table o) (rows_of RelocationPlace (jmprel_of o)) (apart_turned (segments_window o.header) (table_window (rows_of RelocationPlace (jmprel_of o))) (rows_sub RelocationPlace (segments_window o.header) (jmprel_of o) a.1.1.0.1.1.1.1.0)), (leaves_apart (segment_table o) (rows_of RelativeAddend (jmprel_of o)) (apart_turned (segments_window o.header) (table_window (rows_of RelativeAddend (jmprel_of o))) (rows_sub RelativeAddend (segments_window o.header) (jmprel_of o) a.1.1.0.1.1.1.1.0)), (leaves_apart (segment_table o) (rows_of PackedAddress (packed_of o)) (apart_turned (segments_window o.header) (table_window (rows_of PackedAddress (packed_of o))) (rows_sub PackedAddress (segments_window o.header) (packed_of o) (apart_turned _ _ a.0.1.0))), tt))))))))

physical_leaves : (o : Object) → AreAllApart (all_windows o) → LeavesAll (physical_table o) (rows_of TagValue (dynamic_of o) ∷ rows_of SymbolValue (symbols_of o) ∷ rows_of RelocationPlace (rela_of o) ∷ rows_of RelativeAddend (rela_of o) ∷ rows_of RelocationPlace (jmprel_of o) ∷ rows_of RelativeAddend (jmprel_of o) ∷ rows_of PackedAddress (packed_of o) ∷ [])
physical_leaves o a = (leaves_apart (physical_table o) (rows_of TagValue (dynamic_of o)) (apart_turned (segments_window o.header) (table_window (rows_of TagValue (dynamic_of o))) (rows_sub TagValue (segments_window o.header) (dynamic_of o) a.1.1.0.1.0)), (leaves_apart (physical_table o) (rows_of SymbolValue (symbols_of o)) (apart_turned (segments_window o.header) (table_window (rows_of SymbolValue (symbols_of o))) (rows_sub SymbolValue (segments_window o.header) (symbols_of o) a.1.1.0.1.1.0)), (leaves_apart (physical_table o) (rows_of RelocationPlace (rela_of o)) (apart_turned (segments_window o.header) (table_window (rows_of RelocationPlace (rela_of o))) (rows_sub RelocationPlace (segments_window o.header) (rela_of o) a.1.1.0.1.1.1.0)), (leaves_apart (physical_table o) (rows_of RelativeAddend (rela_of o)) (apart_turned (segments_window o.header) (table_window (rows_of RelativeAddend (rela_of o))) (rows_sub RelativeAddend (segments_window o.header) (rela_of o) a.1.1.0.1.1.1.0)), (leaves_apart (physical_table o) (rows_of RelocationPlace (jmprel_of o)) (apart_turned (segments_window o.header) (table_window (rows_of RelocationPlace (jmprel_of o))) (rows_sub RelocationPlace (segments_window o.header) (jmprel_of o) a.1.1.0.1.1.1.1.0)), (leaves_apart (physical_table o) (rows_of RelativeAddend (jmprel_of o)) (apart_turned (segments_window o.header) (table_window (rows_of RelativeAddend (jmprel_of o))) (rows_sub RelativeAddend (segments_window o.header) (jmprel_of o) a.1.1.0.1.1.1.1.0)), (leaves_apart (physical_table o) (rows_of PackedAddress (packed_of o)) (apart_turned (segments_window o.header) (table_window (rows_of PackedAddress (packed_of o))) (rows_sub PackedAddress (segments_window o.header) (packed_of o) (apart_turned _ _ a.0.1.0))), tt)))))))

dynamic_leaves : (o : Object) → AreAllApart (all_windows o) → LeavesAll (rows_of TagValue (dynamic_of o)) (rows_of SymbolValue (symbols_of o) ∷ rows_of RelocationPlace (rela_of o) ∷ rows_of RelativeAddend (rela_of o) ∷ rows_of RelocationPlace (jmprel_of o) ∷ rows_of RelativeAddend (jmprel_of o) ∷ rows_of PackedAddress (packed_of o) ∷ [])
dynamic_leaves o a = (leaves_apart (rows_of TagValue (dynamic_of o)) (rows_of SymbolValue (symbols_of o)) (both_rows SymbolValue TagValue (symbols_of o) (dynamic_of o) (apart_turned (dynamic_of o) (symbols_of o) a.1.1.1.1.0.0)), (leaves_apart (rows_of TagValue (dynamic_of o)) (rows_of RelocationPlace (rela_of o)) (both_rows RelocationPlace TagValue (rela_of o) (dynamic_of o) (apart_turned (dynamic_of o) (rela_of o) a.1.1.1.1.0.1.0)), (leaves_apart (rows_of TagValue (dynamic_of o)) (rows_of RelativeAddend (rela_of o)) (both_rows RelativeAddend TagValue (rela_of o) (dynamic_of o) (apart_turned (dynamic_of o) (rela_of o) a.1.1.1.1.0.1.0)), (leaves_apart (rows_of TagValue (dynamic_of o)) (rows_of RelocationPlace (jmprel_of o)) (both_rows RelocationPlace TagValue (jmprel_of o) (dynamic_of o) (apart_turned (dynamic_of o) (jmprel_of o) a.1.1.1.1.0.1.1.0)), (leaves_apart (rows_of TagValue (dynamic_of o)) (rows_of RelativeAddend (jmprel_of o)) (both_rows RelativeAddend TagValue (jmprel_of o) (dynamic_of o) (apart_turned (dynamic_of o) (jmprel_of o) a.1.1.1.1.0.1.1.0)), (leaves_apart (rows_of TagValue (dynamic_of o)) (rows_of PackedAddress (packed_of o)) (both_rows PackedAddress TagValue (packed_of o) (dynamic_of o) a.0.1.1.1.0), tt))))))

symbols_leaves : (o : Object) → AreAllApart (all_windows o) → LeavesAll (rows_of SymbolValue (symbols_of o)) (rows_of RelocationPlace (rela_of o) ∷ rows_of RelativeAddend (rela_of o) ∷ rows_of RelocationPlace (jmprel_of o) ∷ rows_of RelativeAddend (jmprel_of o) ∷ rows_of PackedAddress (packed_of o) ∷ [])
symbols_leaves o a = (leaves_apart (rows_of SymbolValue (symbols_of o)) (rows_of RelocationPlace (rela_of o)) (both_rows RelocationPlace SymbolValue (rela_of o) (symbols_of o) (apart_turned (symbols_of o) (rela_of o) a.1.1.1.1.1.0.0)), (leaves_apart (rows_of SymbolValue (symbols_of o)) (rows_of RelativeAddend (rela_of o)) (both_rows RelativeAddend SymbolValue (rela_of o) (symbols_of o) (apart_turned (symbols_of o) (rela_of o) a.1.1.1.1.1.0.0)), (leaves_apart (rows_of SymbolValue (symbols_of o)) (rows_of RelocationPlace (jmprel_of o)) (both_rows RelocationPlace SymbolValue (jmprel_of o) (symbols_of o) (apart_turned (symbols_of o) (jmprel_of o) a.1.1.1.1.1.0.1.0)), (leaves_apart (rows_of SymbolValue (symbols_of o)) (rows_of RelativeAddend (jmprel_of o)) (both_rows RelativeAddend SymbolValue (jmprel_of o) (symbols_of o) (apart_turned (symbols_of o) (jmprel_of o) a.1.1.1.1.1.0.1.0)), (leaves_apart (rows_of SymbolValue (symbols_of o)) (rows_of PackedAddress (packed_of o)) (both_rows PackedAddress SymbolValue (packed_of o) (symbols_of o) a.0.1.1.1.1.0), tt)))))

rela_leaves : (o : Object) → AreAllApart (all_windows o) → LeavesAll (rows_of RelocationPlace (rela_of o)) (rows_of RelativeAddend (rela_of o) ∷ rows_of RelocationPlace (jmprel_of o) ∷ rows_of RelativeAddend (jmprel_of o) ∷ rows_of PackedAddress (packed_of o) ∷ [])
rela_leaves o a = (leaves_relocs (rela_of o), (leaves_apart (rows_of RelocationPlace (rela_of o)) (rows_of RelocationPlace (jmprel_of o)) (both_rows RelocationPlace RelocationPlace (jmprel_of o) (rela_of o) (apart_turned (rela_of o) (jmprel_of o) a.1.1.1.1.1.1.0.0)), (leaves_apart (rows_of RelocationPlace (rela_of o)) (rows_of RelativeAddend (jmprel_of o)) (both_rows RelativeAddend RelocationPlace (jmprel_of o) (rela_of o) (apart_turned (rela_of o) (jmprel_of o) a.1.1.1.1.1.1.0.0)), (leaves_apart (rows_of RelocationPlace (rela_of o)) (rows_of PackedAddress (packed_of o)) (both_rows PackedAddress RelocationPlace (packed_of o) (rela_of o) a.0.1.1.1.1.1.0), tt))))

addends_leaves : (o : Object) → AreAllApart (all_windows o) → LeavesAll (rows_of RelativeAddend (rela_of o)) (rows_of RelocationPlace (jmprel_of o) ∷ rows_of RelativeAddend (jmprel_of o) ∷ rows_of PackedAddress (packed_of o) ∷ [])
addends_leaves o a = (leaves_apart (rows_of RelativeAddend (rela_of o)) (rows_of RelocationPlace (jmprel_of o)) (both_rows RelocationPlace RelativeAddend (jmprel_of o) (rela_of o) (apart_turned (rela_of o) (jmprel_of o) a.1.1.1.1.1.1.0.0)), (leaves_apart (rows_of RelativeAddend (rela_of o)) (rows_of RelativeAddend (jmprel_of o)) (both_rows RelativeAddend RelativeAddend (jmprel_of o) (rela_of o) (apart_turned (rela_of o) (jmprel_of o) a.1.1.1.1.1.1.0.0)), (leaves_apart (rows_of RelativeAddend (rela_of o)) (rows_of PackedAddress (packed_of o)) (both_rows PackedAddress RelativeAddend (packed_of o) (rela_of o) a.0.1.1.1.1.1.0), tt)))

jmprel_leaves : (o : Object) → AreAllApart (all_windows o) → LeavesAll (rows_of RelocationPlace (jmprel_of o)) (rows_of RelativeAddend (jmprel_of o) ∷ rows_of PackedAddress (packed_of o) ∷ [])
jmprel_leaves o a = (leaves_relocs (jmprel_of o), (leaves_apart (rows_of RelocationPlace (jmprel_of o)) (rows_of PackedAddress (packed_of o)) (both_rows PackedAddress RelocationPlace (packed_of o) (jmprel_of o) a.0.1.1.1.1.1.1.0), tt))

jumps_leaves : (o : Object) → AreAllApart (all_windows o) → LeavesAll (rows_of RelativeAddend (jmprel_of o)) (rows_of PackedAddress (packed_of o) ∷ [])
jumps_leaves o a = (leaves_apart (rows_of RelativeAddend (jmprel_of o)) (rows_of PackedAddress (packed_of o)) (both_rows PackedAddress RelativeAddend (packed_of o) (jmprel_of o) a.0.1.1.1.1.1.1.0), tt)

packed_leaves : (o : Object) → AreAllApart (all_windows o) → LeavesAll (rows_of PackedAddress (packed_of o)) ([])
packed_leaves o a = tt

pub main_leave : (o : Object) → AreAllApart (all_windows o) → AllLeave (main_tables o)
unfolding main_tables
main_leave o a = (entry_leaves o a, (segment_leaves o a, (physical_leaves o a, (dynamic_leaves o a, (symbols_leaves o a, (rela_leaves o a, (addends_leaves o a, (jmprel_leaves o a, (jumps_leaves o a, (packed_leaves o a, tt))))))))))

main_symtabs : (o : Object) → AreAllApart (all_windows o) → EachLeaves (main_tables o) (map symbol_rows (symtabs_of o))
unfolding main_tables
main_symtabs o a = (symtabs_leave (entry_table o) (symtabs_of o) (entry_symtabs o.entry (map range_window (symtabs_of o)) a.1.0.1.1.1.1.1.1), (symtabs_leave (segment_table o) (symtabs_of o) (a.1.1.0.1.1.1.1.1), (symtabs_leave (physical_table o) (symtabs_of o) (a.1.1.0.1.1.1.1.1), (symtabs_leave (rows_of TagValue (dynamic_of o)) (symtabs_of o) (rows_of_apart TagValue (dynamic_of o) (map range_window (symtabs_of o)) (a.1.1.1.1.0.1.1.1)), (symtabs_leave (rows_of SymbolValue (symbols_of o)) (symtabs_of o) (rows_of_apart SymbolValue (symbols_of o) (map range_window (symtabs_of o)) (a.1.1.1.1.1.0.1.1)), (symtabs_leave (rows_of RelocationPlace (rela_of o)) (symtabs_of o) (rows_of_apart RelocationPlace (rela_of o) (map range_window (symtabs_of o)) (a.1.1.1.1.1.1.0.1)), (symtabs_leave (rows_of RelativeAddend (rela_of o)) (symtabs_of o) (rows_of_apart RelativeAddend (rela_of o) (map range_window (symtabs_of o)) (a.1.1.1.1.1.1.0.1)), (symtabs_leave (rows_of RelocationPlace (jmprel_of o)) (symtabs_of o) (rows_of_apart RelocationPlace (jmprel_of o) (map range_window (symtabs_of o)) (a.1.1.1.1.1.1.1.0)), (symtabs_leave (rows_of RelativeAddend (jmprel_of o)) (symtabs_of o) (rows_of_apart RelativeAddend (jmprel_of o) (map range_window (symtabs_of o)) (a.1.1.1.1.1.1.1.0)), (symtabs_leave (rows_of PackedAddress (packed_of o)) (symtabs_of o) (rows_of_apart PackedAddress (packed_of o) (map range_window (symtabs_of o)) (a.0.1.1.1.1.1.1.1)), tt))))))))))

pub tables_leave : (o : Object) → AreAllApart (all_windows o) → AllLeave (tables_of o)
unfolding tables_of
tables_leave o a = leave_both (main_tables o) (map symbol_rows (symtabs_of o)) (main_leave o a) (symtabs_leave_all (symtabs_of o) a.1.1.1.1.1.1.1.1) (main_symtabs o a)
