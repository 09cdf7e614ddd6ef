-- What a form leaves alone, byte for byte.
use Rattle.std.proofs.Common.{◌≡◌, ℕ, ◌+◌, ◌*◌, ◌^◌, ◌<◌, ◌≤◌, false, List, [], ◌∷◌, ◌++◌, length, get_or, refl, sym, ap, ◌∙◌, arith, inl, inr}
use Rattle.std.specs.Prelude.{◌⊎◌, map}
use Rattle.std.specs.List.{list_any, concat}
use Rattle.std.proofs.lemmas.Bool.{cases_lt, or_parts}
use Rattle.std.proofs.lemmas.List.{get_or_past}
use Rattle.pl_base.specs.Bytes.{IsBytes, part}
use Rattle.pl_base.specs.Windows.{holds, AllIn}
use Rattle.pl_base.proofs.WordLaws.{word32_below, word64_below}
use Rattle.pl_base.proofs.WindowLaws.{length-part, part_byte, part_part, all_in, agree_same}
use Rattle.pl_elf.specs.Headers.{header, segment, segment_at}
use Rattle.pl_elf.specs.Written.{segment_bytes}
use Rattle.pl_elf.specs.declared.header.Header.{Header}
use Rattle.pl_elf.specs.declared.segment.Segment.{Segment}
use Rattle.pl_elf.proofs.WrittenLaws.{segment_read}
use Rattle.pl_move.specs.Moves.{table_window, table_windows, moved, all_moved}
use Rattle.pl_move.specs.declared.table.Table.{Table}
use Rattle.pl_form.specs.Back.{inserted}
use Rattle.pl_form.specs.Parts.{Original, new_header, front_part, form}
use Rattle.pl_form.specs.declared.parts.FormPlan.{FormPlan}
use Rattle.pl_move.proofs.MoveLaws.{length-moved, moved_agrees}
use Rattle.pl_form.proofs.HeadLaws.{segment_part, length-segment, length-rows_of, row_of}
use Rattle.pl_form.proofs.PartsLaws.{part_before, part_after}
use Rattle.pl_form.proofs.FormLaws.{written, front_agrees, front_size, form_header, segments_first, rest_of, form_split}
use Rattle.pl_form.specs.Fits.{Fits}

-- ---- what moving leaves alone

pub outside_moved : (w : ℕ) (ts : List Table) (xs : List ℕ) (k : ℕ) → AllIn (length xs) (table_windows ts) → list_any (holds k) (table_windows ts) ≡ false → get_or (all_moved w ts xs) k 0 ≡ get_or xs k 0
unfolding all_moved
outside_moved w [] xs k fits out = refl
outside_moved w (t ∷ ts) xs k fits out =
    let p = or_parts (holds k (table_window t)) (list_any (holds k) (table_windows ts)) out in
    let same_size = length-moved w t xs fits.0 in
    let one = (moved_agrees [] w t xs xs (agree_same xs) fits.0).bytes k (rw p.0 refl) in
    outside_moved w ts (moved w t xs) k (rw same_size fits.1) p.1 ∙ one

-- a byte of the original that is in no link table and under no place
pub front_stays : (p : FormPlan) (o : Original) (flat : List ℕ) (undo k : ℕ) → Fits p o flat undo → list_any (holds k) (written o) ≡ false → list_any (holds k) (table_windows o.tables) ≡ false
    → get_or (front_part p o flat undo) k 0 ≡ get_or o.bytes k 0
front_stays p o flat undo k fits out tables =
    (front_agrees p o flat undo fits).bytes k out ∙ outside_moved p.slot o.tables o.bytes k (all_in (length o.bytes) (table_windows o.tables) fits.tables_in) tables

-- ---- the segments of the form, as they stand in it

pub record SegmentFits (s : Segment) : Type 0 where
  pub kind : s.kind < 2 ^ 32
  pub flags : s.flags < 2 ^ 32
  pub offset : s.offset < 2 ^ 64
  pub vaddr : s.vaddr < 2 ^ 64
  pub paddr : s.paddr < 2 ^ 64
  pub filesz : s.filesz < 2 ^ 64
  pub memsz : s.memsz < 2 ^ 64
  pub align : s.align < 2 ^ 64

pub segment_fits : (xs : List ℕ) (at : ℕ) → IsBytes xs → SegmentFits (segment_at xs at)
unfolding segment_at
segment_fits xs at b = record { kind = word32_below at xs b; flags = word32_below (at + 4) xs b; offset = word64_below (at + 8) xs b; vaddr = word64_below (at + 16) xs b; paddr = word64_below (at + 24) xs b; filesz = word64_below (at + 32) xs b; memsz = word64_below (at + 40) xs b; align = word64_below (at + 48) xs b }

table_length : (p : FormPlan) → length (concat (map segment_bytes p.segments)) ≡ 56 * length p.segments
table_length p = length-rows_of 56 segment_bytes p.segments length-segment

-- the segment of each index
pub segment_there : (p : FormPlan) (o : Original) (flat undo : List ℕ) → Fits p o flat (length undo) → (i : ℕ) (d : Segment) → i < length p.segments → SegmentFits (get_or p.segments i d)
    → segment (form p o flat undo) (header (form p o flat undo)) i ≡ get_or p.segments i d
unfolding new_header
segment_there p o flat undo fits i d lt small =
    let file = form p o flat undo in
    let at = (header o.bytes).phoff in
    let s = get_or p.segments i d in
    let n = front_size p o flat (length undo) fits in
    let size = table_length p in
    let inside : 56 * i + 56 ≤ length (concat (map segment_bytes p.segments)) = omega (arith, size, lt) in
    let before : at + 56 * i + 56 ≤ p.cut = omega (arith, inside, size, fits.segments, fits.before) in
    let row : part (at + 56 * i) 56 file ≡ segment_bytes s =
    ap (part (at + 56 * i) 56) (form_split p o flat undo)
    ∙ part_before (at + 56 * i) 56 p.cut p.more (front_part p o flat (length undo)) (rest_of p o flat undo) before (omega (arith, n, fits.cut))
    ∙ sym (part_part at (length (concat (map segment_bytes p.segments))) (56 * i) 56 (front_part p o flat (length undo)) inside)
    ∙ ap (part (56 * i) 56) (segments_first p o flat (length undo) fits)
    ∙ row_of 56 segment_bytes p.segments i d length-segment lt in
    ap (λ (h : Header). segment file h i) (form_header p o flat undo fits)
    ∙ sym (segment_part (at + 56 * i) file) ∙ ap (λ (xs : List ℕ). segment_at xs 0) row
    ∙ segment_read s small.kind small.flags small.offset small.vaddr small.paddr small.filesz small.memsz small.align

-- ---- the bytes that a segment loads

-- where the file bytes of a segment of the original stand in the form
abbrev pub IsKept : ℕ → ℕ → Segment → Segment → Type 0
IsKept cut shift s borne = (borne.filesz ≡ s.filesz) × (((borne.offset ≡ s.offset) × (s.offset + s.filesz ≤ cut)) ⊎ ((borne.offset ≡ s.offset + shift) × (cut ≤ s.offset)) ⊎ (s.filesz ≡ 0))

kept_by : (at n cut : ℕ) (more front tail : List ℕ) (place : ℕ) → at + n ≤ length front → cut ≤ length front → ((place ≡ at) × (at + n ≤ cut)) ⊎ ((place ≡ at + length more) × (cut ≤ at)) ⊎ (n ≡ 0)
    → part place n (inserted cut more front ++ tail) ≡ part at n front
kept_by at n cut more front tail place fits le (inl is) = ap (λ (k : ℕ). part k n (inserted cut more front ++ tail)) is.0 ∙ part_before at n cut more front tail is.1 le
kept_by at n cut more front tail place fits le (inr (inl is)) = ap (λ (k : ℕ). part k n (inserted cut more front ++ tail)) is.0 ∙ part_after at n cut more front tail is.1 fits
kept_by at n cut more front tail place fits le (inr (inr none)) = rw none refl

pub kept_part : (p : FormPlan) (o : Original) (flat undo : List ℕ) → Fits p o flat (length undo) → (s borne : Segment) → s.offset + s.filesz ≤ length o.bytes → IsKept p.cut (length p.more) s borne
    → part borne.offset borne.filesz (form p o flat undo) ≡ part s.offset s.filesz (front_part p o flat (length undo))
kept_part p o flat undo fits s borne inside kept =
    let n = front_size p o flat (length undo) fits in
    ap (λ (k : ℕ). part borne.offset k (form p o flat undo)) kept.0
    ∙ ap (part borne.offset s.filesz) (form_split p o flat undo)
    ∙ kept_by s.offset s.filesz p.cut p.more (front_part p o flat (length undo)) (rest_of p o flat undo) borne.offset (omega (arith, n, inside)) (omega (arith, n, fits.cut)) kept.1

-- a byte of a part, and none past it
pub part_bytes_same : (at n : ℕ) (xs ys : List ℕ) (k : ℕ) → length xs ≡ length ys → at + n ≤ length ys → (k < n → get_or xs (at + k) 0 ≡ get_or ys (at + k) 0) → get_or (part at n xs) k 0 ≡ get_or (part at n ys) k 0
part_bytes_same at n xs ys k size fits same = elim (cases_lt k n) [
  | inl lt ↦ part_byte at n xs k lt ∙ same lt ∙ sym (part_byte at n ys k lt)
  | inr le ↦ get_or_past (part at n xs) k 0 (omega (arith, le, length-part at n xs (omega (arith, size, fits)))) ∙ sym (get_or_past (part at n ys) k 0 (omega (arith, le, length-part at n ys fits)))
]
