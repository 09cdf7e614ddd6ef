-- The front part of a form, and how its undo section is found.
use Rattle.std.proofs.Common.{◌≡◌, ℕ, ◌+◌, ◌-◌, ◌*◌, ◌^◌, ◌<◌, ◌≤◌, Bool, true, false, List, [], ◌∷◌, ◌++◌, length, get_or, take, drop, Option, Some, refl, sym, ap, subst, ◌∙◌, append_assoc, arith, inl, inr}
use Rattle.std.specs.Prelude.{◌||◌, ◌&&◌, ◌==◌, nat_le, map}
use Rattle.std.specs.List.{list_any, concat}
use Rattle.std.proofs.lemmas.Bool.{cases_Bool, or_parts}
use Rattle.std.proofs.lemmas.Bool.Decides.{nat_tests}
use Rattle.std.proofs.lemmas.List.{length-append, length-take-le, length-drop, append-nil, get_or-append-add}
use Rattle.pl_base.specs.Bytes.{part, put, word64}
use Rattle.pl_base.specs.Windows.{Window, Put, put_window, windows, holds, AllIn, Agree}
use Rattle.pl_base.proofs.WordLaws.{word16_below, word32_below, word64_below}
use Rattle.pl_base.proofs.WindowLaws.{length-put, length-part, within_put, agree_itself, agree_edit, agree_edits, agree_wider, all_in, part_part, part_apart}
use Rattle.pl_elf.specs.Headers.{header, section, section_at, section_offset}
use Rattle.pl_elf.specs.Written.{header_bytes, segment_bytes, section_header_bytes}
use Rattle.pl_elf.specs.declared.header.Header.{Header}
use Rattle.pl_elf.specs.declared.section.Section.{Section}
use Rattle.pl_elf.proofs.WrittenLaws.{header_read, section_read}
use Rattle.pl_move.specs.Moves.{table_windows, IsSlot, all_moved}
use Rattle.pl_form.specs.Back.{header_window, segments_window, sections_window, head_windows, spot_windows, wanted, visible, Reader, undo_section, has_undo_section, section_part, undo_of, inserted}
use Rattle.pl_form.specs.declared.parts.Spot.{Spot}
use Rattle.pl_form.specs.Parts.{up, joined, joined_size, Original, plain, old_names, names_part, undo_at, names_at, table_at, undo_row, names_row, table_rows, table_part, moved_entry, new_header, moved_part, under_segments, under_header, front_part, form}
use Rattle.pl_form.specs.Fits.{Fits}
use Rattle.pl_form.specs.declared.parts.FormPlan.{FormPlan}
use Rattle.pl_move.proofs.MoveLaws.{length-all_moved}
use Rattle.pl_form.proofs.HeadLaws.{header_part, section_part as section_by_part, length-header, length-segment, length-section, length-rows_of, row_of}
use Rattle.pl_form.proofs.FrontLaws.{IsReadable}
use Rattle.pl_form.proofs.PartsLaws.{length-joined, part_next, tail_of, joined_tail, length-inserted, part_before}
use Rattle.pl_form.proofs.FileTheorem.{IsForm}

-- ---- the front part

pub windows_visible : (ps : List Spot) (flat : List ℕ) → length flat ≡ wanted ps → windows (visible ps flat) ≡ spot_windows ps
windows_visible [] flat n = refl
windows_visible (p ∷ ps) flat n =
    let one : length (take p.size flat) ≡ p.size = length-take-le p.size flat (omega (arith, n)) in
    let rest : windows (visible ps (drop p.hidden (drop p.size flat))) ≡ spot_windows ps =
    windows_visible ps (drop p.hidden (drop p.size flat)) (omega (arith, n, length-drop p.hidden (drop p.size flat), length-drop p.size flat)) in
    ap (λ (k : ℕ). record { at = p.at; size = k } ∷ windows (visible ps (drop p.hidden (drop p.size flat)))) one
    ∙ ap (λ (ws : List Window). record { at = p.at; size = p.size } ∷ ws) rest

-- the windows that are written: the header, the program headers, the dynamic table and the places
abbrev pub written : Original → List Window
written o = header_window ∷ segments_window (header o.bytes) ∷ o.dynamic ∷ spot_windows o.spots

pub segments_length : (p : FormPlan) (o : Original) (flat : List ℕ) (undo : ℕ) → Fits p o flat undo → length (concat (map segment_bytes p.segments)) ≡ 56 * (header o.bytes).phnum
segments_length p o flat undo fits = length-rows_of 56 segment_bytes p.segments length-segment ∙ ap (λ (n : ℕ). 56 * n) fits.segments

ident_length : (xs : List ℕ) → 64 ≤ length xs → length (header xs).ident ≡ 16
unfolding header
ident_length xs long = length-part 0 16 xs (omega (arith, long))

pub new_length : (p : FormPlan) (o : Original) (undo : ℕ) → 64 ≤ length o.bytes → length (header_bytes (new_header p o.bytes undo)) ≡ 64
unfolding new_header
new_length p o undo long = length-header _ (ident_length o.bytes long)

-- three puts over what was there
three : (ws : List Window) (a b c : Put) (xs ys : List ℕ) → Agree ws xs ys → AllIn (length xs) (put_window a ∷ put_window b ∷ put_window c ∷ [])
    → Agree (put_window a ∷ put_window b ∷ put_window c ∷ ws) (put a.at a.bytes (put b.at b.bytes (put c.at c.bytes xs))) ys
three ws a b c xs ys h fits =
    let size_c : length (put c.at c.bytes xs) ≡ length xs = length-put c.at c.bytes xs fits.1.1.0 in
    let size_b : length (put b.at b.bytes (put c.at c.bytes xs)) ≡ length xs = length-put b.at b.bytes (put c.at c.bytes xs) (rw size_c fits.1.0) ∙ size_c in
    let one = agree_edit ws c.at c.bytes xs ys h fits.1.1.0 in
    let two = agree_edit (put_window c ∷ ws) b.at b.bytes (put c.at c.bytes xs) ys one (rw size_c fits.1.0) in
    agree_edit (put_window b ∷ put_window c ∷ ws) a.at a.bytes (put b.at b.bytes (put c.at c.bytes xs)) ys two (rw size_b fits.0)

moved_agrees : (p : FormPlan) (o : Original) (flat : List ℕ) (undo : ℕ) → Fits p o flat undo → Agree (spot_windows o.spots) (moved_part p o flat) (all_moved p.slot o.tables o.bytes)
unfolding moved_part
moved_agrees p o flat undo fits =
    let size : length (all_moved p.slot o.tables o.bytes) ≡ length o.bytes = length-all_moved p.slot o.tables o.bytes (all_in (length o.bytes) (table_windows o.tables) fits.tables_in) in
    let ws : windows (visible o.spots flat) ≡ spot_windows o.spots = windows_visible o.spots flat fits.fills in
    let in_spots : AllIn (length (all_moved p.slot o.tables o.bytes)) (windows (visible o.spots flat)) = rw (size, ws) (all_in (length o.bytes) (spot_windows o.spots) fits.spots_in) in
    let whole : Agree (windows (visible o.spots flat) ++ []) (moved_part p o flat) (all_moved p.slot o.tables o.bytes) =
    agree_edits (visible o.spots flat) [] (all_moved p.slot o.tables o.bytes) (all_moved p.slot o.tables o.bytes) (agree_itself [] (all_moved p.slot o.tables o.bytes)) in_spots in
    subst (λ (vs : List Window). Agree vs (moved_part p o flat) (all_moved p.slot o.tables o.bytes)) (append-nil (windows (visible o.spots flat)) ∙ ws) whole

-- outside of what is written, the front part is the moved original
pub front_agrees : (p : FormPlan) (o : Original) (flat : List ℕ) (undo : ℕ) → Fits p o flat undo → Agree (written o) (front_part p o flat undo) (all_moved p.slot o.tables o.bytes)
unfolding front_part
front_agrees p o flat undo fits =
    let h = header o.bytes in
    let ins = all_in (length o.bytes) (head_windows h ++ o.dynamic ∷ []) fits.heads_in in
    let before = moved_agrees p o flat undo fits in
    let moved_size : length (all_moved p.slot o.tables o.bytes) ≡ length o.bytes = length-all_moved p.slot o.tables o.bytes (all_in (length o.bytes) (table_windows o.tables) fits.tables_in) in
    let size : length (moved_part p o flat) ≡ length o.bytes = before.size ∙ moved_size in
    let n1 = new_length p o undo ins.0 in
    let n2 = segments_length p o flat undo fits in
    let room : AllIn (length (moved_part p o flat)) (record { at = 0; size = length (header_bytes (new_header p o.bytes undo)) } ∷ record { at = h.phoff; size = length (concat (map segment_bytes p.segments)) } ∷ record { at = o.dynamic.at; size = length p.dynamic } ∷ []) =
    rw (size, n1, n2, fits.dynamic) (ins.0, (ins.1.0, (ins.1.1.1.0, tt))) in
    let all = three (spot_windows o.spots) (record { at = 0; bytes = header_bytes (new_header p o.bytes undo) }) (record { at = h.phoff; bytes = concat (map segment_bytes p.segments) }) (record { at = o.dynamic.at; bytes = p.dynamic })
    (moved_part p o flat) (all_moved p.slot o.tables o.bytes) before room in
    rw (n1, n2, fits.dynamic) at all

pub length-moved_part : (p : FormPlan) (o : Original) (flat : List ℕ) (undo : ℕ) → Fits p o flat undo → length (moved_part p o flat) ≡ length o.bytes
length-moved_part p o flat undo fits = (moved_agrees p o flat undo fits).size ∙ length-all_moved p.slot o.tables o.bytes (all_in (length o.bytes) (table_windows o.tables) fits.tables_in)

heads_room : (p : FormPlan) (o : Original) (flat : List ℕ) (undo : ℕ) → Fits p o flat undo
    → AllIn (length (moved_part p o flat)) (record { at = 0; size = length (header_bytes (new_header p o.bytes undo)) } ∷ record { at = (header o.bytes).phoff; size = length (concat (map segment_bytes p.segments)) } ∷ record { at = o.dynamic.at; size = length p.dynamic } ∷ [])
heads_room p o flat undo fits =
    let ins = all_in (length o.bytes) (head_windows (header o.bytes) ++ o.dynamic ∷ []) fits.heads_in in
    rw (length-moved_part p o flat undo fits, new_length p o undo ins.0, segments_length p o flat undo fits, fits.dynamic) (ins.0, (ins.1.0, (ins.1.1.1.0, tt)))

-- and outside of the header, the program headers and the dynamic table it is the moved part
pub front_moved : (p : FormPlan) (o : Original) (flat : List ℕ) (undo : ℕ) → Fits p o flat undo → Agree (header_window ∷ segments_window (header o.bytes) ∷ o.dynamic ∷ []) (front_part p o flat undo) (moved_part p o flat)
unfolding front_part
front_moved p o flat undo fits =
    let h = header o.bytes in
    let ins = all_in (length o.bytes) (head_windows h ++ o.dynamic ∷ []) fits.heads_in in
    let all = three [] (record { at = 0; bytes = header_bytes (new_header p o.bytes undo) }) (record { at = h.phoff; bytes = concat (map segment_bytes p.segments) }) (record { at = o.dynamic.at; bytes = p.dynamic })
    (moved_part p o flat) (moved_part p o flat) (agree_itself [] (moved_part p o flat)) (heads_room p o flat undo fits) in
    rw (new_length p o undo ins.0, segments_length p o flat undo fits, fits.dynamic) at all

-- the same with the section header table, as Back has it
sections_too : (h s t d : Window) (ps : List Window) (k : ℕ) → list_any (holds k) ((h ∷ s ∷ t ∷ d ∷ []) ++ ps) ≡ false → list_any (holds k) (h ∷ s ∷ d ∷ ps) ≡ false
sections_too h s t d ps k out =
    let a = or_parts (holds k h) (holds k s || (holds k t || (holds k d || list_any (holds k) ps))) out in
    let b = or_parts (holds k s) (holds k t || (holds k d || list_any (holds k) ps)) a.1 in
    let c = or_parts (holds k t) (holds k d || list_any (holds k) ps) b.1 in
    rw (a.0, b.0) c.1

pub front_size : (p : FormPlan) (o : Original) (flat : List ℕ) (undo : ℕ) → Fits p o flat undo → length (front_part p o flat undo) ≡ length o.bytes
front_size p o flat undo fits = (front_agrees p o flat undo fits).size ∙ length-all_moved p.slot o.tables o.bytes (all_in (length o.bytes) (table_windows o.tables) fits.tables_in)

pub length-under_segments : (p : FormPlan) (o : Original) (flat : List ℕ) (undo : ℕ) → Fits p o flat undo → length (under_segments p o flat) ≡ length o.bytes
length-under_segments p o flat undo fits =
    let ins = all_in (length o.bytes) (head_windows (header o.bytes) ++ o.dynamic ∷ []) fits.heads_in in
    let moved_size : length (all_moved p.slot o.tables o.bytes) ≡ length o.bytes = length-all_moved p.slot o.tables o.bytes (all_in (length o.bytes) (table_windows o.tables) fits.tables_in) in
    let size : length (moved_part p o flat) ≡ length o.bytes = (moved_agrees p o flat undo fits).size ∙ moved_size in
    length-put o.dynamic.at p.dynamic (moved_part p o flat) (omega (arith, ins.1.1.1.0, fits.dynamic, size)) ∙ size

pub segments_room : (p : FormPlan) (o : Original) (flat : List ℕ) (undo : ℕ) → Fits p o flat undo → (header o.bytes).phoff + length (concat (map segment_bytes p.segments)) ≤ length (under_segments p o flat)
segments_room p o flat undo fits =
    let ins = all_in (length o.bytes) (head_windows (header o.bytes) ++ o.dynamic ∷ []) fits.heads_in in
    omega (arith, ins.1.0, segments_length p o flat undo fits, length-under_segments p o flat undo fits)

pub length-under_header : (p : FormPlan) (o : Original) (flat : List ℕ) (undo : ℕ) → Fits p o flat undo → length (under_header p o flat) ≡ length o.bytes
length-under_header p o flat undo fits =
    length-put (header o.bytes).phoff (concat (map segment_bytes p.segments)) (under_segments p o flat) (segments_room p o flat undo fits) ∙ length-under_segments p o flat undo fits

-- the program headers in the front part
pub segments_first : (p : FormPlan) (o : Original) (flat : List ℕ) (undo : ℕ) → Fits p o flat undo → part (header o.bytes).phoff (length (concat (map segment_bytes p.segments))) (front_part p o flat undo) ≡ concat (map segment_bytes p.segments)
unfolding front_part
segments_first p o flat undo fits =
    let ins = all_in (length o.bytes) (head_windows (header o.bytes) ++ o.dynamic ∷ []) fits.heads_in in
    let table = concat (map segment_bytes p.segments) in
    let n1 = new_length p o undo ins.0 in
    part_apart (header o.bytes).phoff (length table) 0 (header_bytes (new_header p o.bytes undo)) (under_header p o flat) (omega (arith, n1, ins.0, length-under_header p o flat undo fits)) (inr (omega (arith, n1, fits.apart)))
    ∙ within_put (header o.bytes).phoff table (under_segments p o flat) (segments_room p o flat undo fits)

-- ---- the header of the form

entry_small : (slot entry : ℕ) → moved_entry slot entry < 2 ^ 64
entry_small slot entry = elim (cases_Bool (entry == 0)) [
  | inl none ↦ rw none (omega arith)
  | inr some ↦ rw some (omega arith)
]

new_read : (p : FormPlan) (o : Original) (flat : List ℕ) (undo : ℕ) → Fits p o flat undo → header (header_bytes (new_header p o.bytes undo)) ≡ new_header p o.bytes undo
unfolding new_header header
new_read p o flat undo fits =
    let xs = o.bytes in
    let b = fits.bytes in
    let ins = all_in (length xs) (head_windows (header xs) ++ o.dynamic ∷ []) fits.heads_in in
    header_read (new_header p xs undo) (ident_length xs ins.0) (word16_below 16 xs b) (word16_below 18 xs b) (word32_below 20 xs b) (entry_small p.slot (word64 24 xs)) (word64_below 32 xs b)
    (omega (arith, fits.small)) (word32_below 48 xs b) (word16_below 52 xs b) (word16_below 54 xs b) (word16_below 56 xs b) (word16_below 58 xs b) fits.few (omega (arith, fits.few))

header_first : (p : FormPlan) (o : Original) (flat : List ℕ) (undo : ℕ) → Fits p o flat undo → part 0 64 (front_part p o flat undo) ≡ header_bytes (new_header p o.bytes undo)
unfolding front_part
header_first p o flat undo fits =
    let ins = all_in (length o.bytes) (head_windows (header o.bytes) ++ o.dynamic ∷ []) fits.heads_in in
    let n1 = new_length p o undo ins.0 in
    ap (λ (n : ℕ). part 0 n (front_part p o flat undo)) (sym n1)
    ∙ within_put 0 (header_bytes (new_header p o.bytes undo)) (under_header p o flat) (omega (arith, n1, ins.0, length-under_header p o flat undo fits))

-- ---- the whole

abbrev body : FormPlan → Original → List ℕ → ℕ → List ℕ
body p o flat undo = inserted p.cut p.more (front_part p o flat undo)

abbrev parts : FormPlan → Original → List ℕ → List (List ℕ)
parts p o undo = p.parts ++ undo ∷ names_part p o.bytes ∷ table_part p o.bytes (length undo) ∷ []

-- the whole is its front with what was inserted, and the rest
pub rest_of : FormPlan → Original → List ℕ → List ℕ → List ℕ
rest_of p o flat undo = tail_of (body p o flat (length undo)) (parts p o undo)

pub form_split : (p : FormPlan) (o : Original) (flat undo : List ℕ) → form p o flat undo ≡ inserted p.cut p.more (front_part p o flat (length undo)) ++ rest_of p o flat undo
unfolding form rest_of
form_split p o flat undo = joined_tail (body p o flat (length undo)) (parts p o undo)

body_size : (p : FormPlan) (o : Original) (flat : List ℕ) (undo : ℕ) → Fits p o flat undo → length (body p o flat undo) ≡ length o.bytes + length p.more
body_size p o flat undo fits =
    let n = front_size p o flat undo fits in
    length-inserted p.cut p.more (front_part p o flat undo) (omega (arith, n, fits.cut)) ∙ omega (arith, n)

-- the header of the file
pub form_header : (p : FormPlan) (o : Original) (flat undo : List ℕ) → Fits p o flat (length undo) → header (form p o flat undo) ≡ new_header p o.bytes (length undo)
unfolding form
form_header p o flat undo fits =
    let u = length undo in
    let n = front_size p o flat u fits in
    let b = body p o flat u in
    let whole : form p o flat undo ≡ b ++ tail_of b (parts p o undo) = joined_tail b (parts p o undo) in
    let first : part 0 64 (form p o flat undo) ≡ header_bytes (new_header p o.bytes u) =
    ap (part 0 64) whole ∙ part_before 0 64 p.cut p.more (front_part p o flat u) (tail_of b (parts p o undo)) (omega (arith, fits.apart, fits.before)) (omega (arith, n, fits.cut)) ∙ header_first p o flat u fits in
    sym (header_part (form p o flat undo)) ∙ ap header first ∙ new_read p o flat u fits

-- a part in the file: where the parts in front of it end
part_there : (p : FormPlan) (o : Original) (flat undo : List ℕ) → Fits p o flat (length undo) → (before : List (List ℕ)) (next : List ℕ) (rest : List (List ℕ)) → parts p o undo ≡ before ++ next ∷ rest
    → part (up (joined_size (length o.bytes + length p.more) before)) (length next) (form p o flat undo) ≡ next
unfolding form
part_there p o flat undo fits before next rest is =
    let b = body p o flat (length undo) in
    ap (λ (n : ℕ). part (up (joined_size n before)) (length next) (joined b (parts p o undo))) (sym (body_size p o flat (length undo) fits))
    ∙ ap (λ (ps : List (List ℕ)). part (up (joined_size (length b) before)) (length next) (joined b ps)) is
    ∙ part_next b before next rest

joined_size-append : (n : ℕ) (ps qs : List (List ℕ)) → joined_size n (ps ++ qs) ≡ joined_size (joined_size n ps) qs
unfolding joined_size
joined_size-append n [] qs = refl
joined_size-append n (p ∷ ps) qs = joined_size-append (up n + length p) ps qs

pub undo_there : (p : FormPlan) (o : Original) (flat undo : List ℕ) → Fits p o flat (length undo) → part (undo_at p o.bytes) (length undo) (form p o flat undo) ≡ undo
undo_there p o flat undo fits = part_there p o flat undo fits p.parts undo (names_part p o.bytes ∷ table_part p o.bytes (length undo) ∷ []) refl

pub names_there : (p : FormPlan) (o : Original) (flat undo : List ℕ) → Fits p o flat (length undo) → part (names_at p o.bytes (length undo)) (length (names_part p o.bytes)) (form p o flat undo) ≡ names_part p o.bytes
unfolding joined_size
names_there p o flat undo fits =
    let n = length o.bytes + length p.more in
    let place : joined_size n (p.parts ++ undo ∷ []) ≡ undo_at p o.bytes + length undo = joined_size-append n p.parts (undo ∷ []) in
    let there = part_there p o flat undo fits (p.parts ++ undo ∷ []) (names_part p o.bytes) (table_part p o.bytes (length undo) ∷ []) (sym (append_assoc p.parts (undo ∷ []) (names_part p o.bytes ∷ table_part p o.bytes (length undo) ∷ []))) in
    rw place at there

pub table_there : (p : FormPlan) (o : Original) (flat undo : List ℕ) → Fits p o flat (length undo) → part (table_at p o.bytes (length undo)) (length (table_part p o.bytes (length undo))) (form p o flat undo) ≡ table_part p o.bytes (length undo)
unfolding joined_size
table_there p o flat undo fits =
    let n = length o.bytes + length p.more in
    let place : joined_size n (p.parts ++ undo ∷ names_part p o.bytes ∷ []) ≡ names_at p o.bytes (length undo) + length (names_part p o.bytes) = joined_size-append n p.parts (undo ∷ names_part p o.bytes ∷ []) in
    let there = part_there p o flat undo fits (p.parts ++ undo ∷ names_part p o.bytes ∷ []) (table_part p o.bytes (length undo)) [] (sym (append_assoc p.parts (undo ∷ names_part p o.bytes ∷ []) (table_part p o.bytes (length undo) ∷ []))) in
    rw place at there

-- how long the form is
pub form_length : (p : FormPlan) (o : Original) (flat undo : List ℕ) → Fits p o flat (length undo) → length (form p o flat undo) ≡ table_at p o.bytes (length undo) + 64 * (length p.sections + 2)
unfolding form joined_size
form_length p o flat undo fits =
    let u = length undo in
    let n = length o.bytes + length p.more in
    let table = table_part p o.bytes u in
    let size : length table ≡ 64 * (length p.sections + 2) = length-rows_of 64 section_header_bytes (table_rows p o.bytes u) length-section ∙ ap (λ (k : ℕ). 64 * k) (length-append p.sections (undo_row p o.bytes u ∷ names_row p o.bytes u ∷ [])) in
    length-joined (body p o flat u) (parts p o undo) ∙ ap (λ (k : ℕ). joined_size k (parts p o undo)) (body_size p o flat u fits)
    ∙ joined_size-append n p.parts (undo ∷ names_part p o.bytes ∷ table ∷ []) ∙ ap (λ (k : ℕ). table_at p o.bytes u + k) size

-- ---- the sections of the form

-- any row of the new table is read from the file
pub row_there : (p : FormPlan) (o : Original) (flat undo : List ℕ) → Fits p o flat (length undo) → (i : ℕ) (d : Section) → i < length (table_rows p o.bytes (length undo))
    → part (table_at p o.bytes (length undo) + 64 * i) 64 (form p o flat undo) ≡ section_header_bytes (get_or (table_rows p o.bytes (length undo)) i d)
row_there p o flat undo fits i d lt =
    let rows = table_rows p o.bytes (length undo) in
    let size : length (table_part p o.bytes (length undo)) ≡ 64 * length rows = length-rows_of 64 section_header_bytes rows length-section in
    sym (part_part (table_at p o.bytes (length undo)) (length (table_part p o.bytes (length undo))) (64 * i) 64 (form p o flat undo) (omega (arith, size, lt)))
    ∙ ap (part (64 * i) 64) (table_there p o flat undo fits) ∙ row_of 64 section_header_bytes rows i d length-section lt

plain_read : (name kind at size : ℕ) → name < 2 ^ 32 → kind < 2 ^ 32 → at < 2 ^ 64 → size < 2 ^ 64 → section_at (section_header_bytes (plain name kind at size)) 0 ≡ plain name kind at size
plain_read name kind at size a b c d = section_read (plain name kind at size) a b (omega arith) (omega arith) c d (omega arith) (omega arith) (omega arith) (omega arith)

section_count : (p : FormPlan) (o : Original) (undo : ℕ) → length (table_rows p o.bytes undo) ≡ length p.sections + 2
section_count p o undo = length-append p.sections (undo_row p o.bytes undo ∷ names_row p o.bytes undo ∷ [])

undo_row_is : (p : FormPlan) (o : Original) (undo : ℕ) (d : Section) → get_or (table_rows p o.bytes undo) (length p.sections) d ≡ undo_row p o.bytes undo
undo_row_is p o undo d =
    let here : length p.sections ≡ length p.sections + 0 = omega arith in
    ap (λ (n : ℕ). get_or (table_rows p o.bytes undo) n d) here ∙ get_or-append-add p.sections (undo_row p o.bytes undo ∷ names_row p o.bytes undo ∷ []) 0 d

-- the section two before the end is the undo section
pub undo_section_is : (p : FormPlan) (o : Original) (flat undo : List ℕ) → Fits p o flat (length undo) → undo_section (form p o flat undo) ≡ undo_row p o.bytes (length undo)
unfolding new_header
undo_section_is p o flat undo fits =
    let u = length undo in
    let file = form p o flat undo in
    let row = undo_row p o.bytes u in
    let last : length p.sections + 2 - 2 ≡ length p.sections = omega arith in
    let lt : length p.sections < length (table_rows p o.bytes u) = omega (arith, section_count p o u) in
    let there : part (table_at p o.bytes u + 64 * length p.sections) 64 file ≡ section_header_bytes row = row_there p o flat undo fits (length p.sections) row lt ∙ ap section_header_bytes (undo_row_is p o u row) in
    let old = length (old_names o.bytes) in
    let small : (old + length p.names < 2 ^ 32) × (undo_at p o.bytes < 2 ^ 64) × (u < 2 ^ 64) =
    let n : length (names_part p o.bytes) ≡ old + (length p.names + 28) = length-append (old_names o.bytes) _ ∙ ap (λ (k : ℕ). old + k) (length-append p.names _) in
    (omega (arith, n, fits.small), omega (arith, fits.small), omega (arith, fits.small)) in
    ap (λ (h : Header). section file h (h.shnum - 2)) (form_header p o flat undo fits)
    ∙ ap (λ (n : ℕ). section_at file (table_at p o.bytes u + 64 * n)) last
    ∙ sym (section_by_part (table_at p o.bytes u + 64 * length p.sections) file)
    ∙ ap (λ (xs : List ℕ). section_at xs 0) there
    ∙ plain_read (old + length p.names) 1 (undo_at p o.bytes) u small.0 (omega arith) small.1 small.2

-- ---- Back of it

one_true : (a b c : Bool) → a ≡ true → b ≡ true → c ≡ true → (a && (b && (c && true))) ≡ true
one_true a b c e f g = rw (e, f, g) refl

below_true : (m n : ℕ) → m ≤ n → nat_le m n ≡ true
below_true m n h = grind (arith, nat_tests)

undo_section_in : (p : FormPlan) (o : Original) (flat undo : List ℕ) → Fits p o flat (length undo) → has_undo_section (form p o flat undo) ≡ true
unfolding new_header
undo_section_in p o flat undo fits =
    let file = form p o flat undo in
    let u = length undo in
    let n = form_length p o flat undo fits in
    let h = form_header p o flat undo fits in
    let s = undo_section_is p o flat undo fits in
    let last : length p.sections + 2 - 2 ≡ length p.sections = omega arith in
    let row : table_at p o.bytes u + 64 * (length p.sections + 2 - 2) + 64 ≤ length file = omega (arith, n, last) in
    let bytes : undo_at p o.bytes + u ≤ length file = omega (arith, n) in
    let t1 : nat_le 2 (header file).shnum ≡ true = subst (λ (x : Header). nat_le 2 x.shnum ≡ true) (sym h) (below_true 2 (length p.sections + 2) (omega arith)) in
    let t2 : nat_le (section_offset (header file) ((header file).shnum - 2) + 64) (length file) ≡ true = subst (λ (x : Header). nat_le (section_offset x (x.shnum - 2) + 64) (length file) ≡ true) (sym h) (below_true (table_at p o.bytes u + 64 * (length p.sections + 2 - 2) + 64) (length file) row) in
    let t3 : nat_le ((undo_section file).offset + (undo_section file).size) (length file) ≡ true = subst (λ (x : Section). nat_le (x.offset + x.size) (length file) ≡ true) (sym s) (below_true (undo_at p o.bytes + u) (length file) bytes) in
    one_true (nat_le 2 (header file).shnum) (nat_le (section_offset (header file) ((header file).shnum - 2) + 64) (length file)) (nat_le ((undo_section file).offset + (undo_section file).size) (length file)) t1 t2 t3

pub plan_undone : (r : Reader) (p : FormPlan) (o : Original) (flat undo : List ℕ) (rs : List Window) (digest : Option (List ℕ)) → Fits p o flat (length undo) → IsReadable r o.bytes o.dynamic o.tables rs o.spots → IsSlot p.slot
    → r.undo undo ≡ Some (undo_of p.slot p.cut (length p.more) o.dynamic o.spots o.bytes digest)
    → IsForm r (form p o flat undo) o.bytes p.slot p.cut (length p.more)
unfolding form
plan_undone r p o flat undo rs digest fits readable slot_in reads =
    let u = length undo in
    let b = body p o flat u in
    let h = header o.bytes in
    let two = undo_section_in p o flat undo fits in
    let found : section_part (undo_section (form p o flat undo)) (form p o flat undo) ≡ undo = ap (λ (s : Section). section_part s (form p o flat undo)) (undo_section_is p o flat undo fits) ∙ undo_there p o flat undo fits in
    record {
      front = front_part p o flat u;
      more = p.more;
      tail = tail_of b (parts p o undo);
      d = o.dynamic;
      ts = o.tables;
      rs = rs;
      ps = o.spots;
      digest = digest;
      readable = readable;
      slot_in = slot_in;
      agrees = agree_wider (written o) ((head_windows h ++ o.dynamic ∷ []) ++ spot_windows o.spots) (front_part p o flat u) (all_moved p.slot o.tables o.bytes)
          (sections_too header_window (segments_window h) (sections_window h) o.dynamic (spot_windows o.spots)) (front_agrees p o flat u fits);
      front_size = front_size p o flat u fits;
      cut_in = fits.cut;
      more_size = refl;
      is = joined_tail b (parts p o undo);
      two = two;
      found = ap r.undo found ∙ reads;
    }
