-- What is read of a library's form: its list and its stamp.
use Rattle.std.proofs.Common.{◌≡◌, ℕ, ◌+◌, ◌-◌, ◌*◌, ◌^◌, ◌<◌, ◌≤◌, List, [], ◌∷◌, ◌++◌, length, get_or, sym, ap, subst, ◌∙◌, arith, inl, inr}
use Rattle.std.specs.Prelude.{◌⊎◌, map}
use Rattle.std.specs.List.{concat}
use Rattle.std.proofs.lemmas.List.{length-append, get_or-append-add, append-nil}
use Rattle.pl_base.specs.Bytes.{part, put, word64, bytes64}
use Rattle.pl_base.specs.Windows.{within}
use Rattle.pl_base.proofs.WordLaws.{length_bytes64, word64_part, word64_front, word64_behind, word64_back}
use Rattle.pl_base.proofs.WindowLaws.{part_apart, within_put, all_in}
use Rattle.pl_elf.specs.Headers.{header, section, sections}
use Rattle.pl_elf.specs.Written.{header_bytes, segment_bytes}
use Rattle.pl_elf.specs.declared.section.Section.{Section}
use Rattle.pl_move.specs.Moves.{rows}
use Rattle.pl_form.specs.Back.{head_windows, section_part, inserted}
use Rattle.pl_form.specs.Fits.{Fits}
use Rattle.pl_form.specs.Parts.{Original, up, joined, joined_size, plain, with_rows, old_names, names_part, table_part, table_at, entry_bytes, library_entries, list_sections, moved_section, library_sections, library_plan, new_header, moved_part, under_segments, under_header, front_part, form}
use Rattle.pl_form.specs.declared.parts.Listed.{Listed}
use Rattle.pl_form.specs.declared.parts.FormPlan.{FormPlan}
use Rattle.pl_form.proofs.FormLaws.{new_length, front_size, length-moved_part, length-under_header, segments_room, segments_length}
use Rattle.pl_form.proofs.PartsLaws.{part_next, length-inserted}
use Rattle.pl_form.proofs.FoundLaws.{SectionFits, section_before}

-- ---- the dynamic table

-- the new dynamic table stands in the front part
pub dynamic_there : (p : FormPlan) (o : Original) (flat : List ℕ) (undo : ℕ) → Fits p o flat undo
    → 64 ≤ o.dynamic.at → (o.dynamic.at + o.dynamic.size ≤ (header o.bytes).phoff) ⊎ ((header o.bytes).phoff + 56 * (header o.bytes).phnum ≤ o.dynamic.at)
    → within o.dynamic (front_part p o flat undo) ≡ p.dynamic
unfolding front_part
dynamic_there p o flat undo fits low apart =
    let ins = all_in (length o.bytes) (head_windows (header o.bytes) ++ o.dynamic ∷ []) fits.heads_in in
    let hb = header_bytes (new_header p o.bytes undo) in
    let ss = concat (map segment_bytes p.segments) in
    let n1 : length hb ≡ 64 = new_length p o undo ins.0 in
    let n2 = segments_length p o flat undo fits in
    let size = length-moved_part p o flat undo fits in
    part_apart o.dynamic.at o.dynamic.size 0 hb (under_header p o flat) (omega (arith, n1, ins.0, length-under_header p o flat undo fits)) (inr (omega (arith, n1, low)))
    ∙ part_apart o.dynamic.at o.dynamic.size (header o.bytes).phoff ss (under_segments p o flat) (segments_room p o flat undo fits) (elim apart [ inl before ↦ inl before | inr behind ↦ inr (omega (arith, behind, n2)) ])
    ∙ ap (λ (n : ℕ). part o.dynamic.at n (under_segments p o flat)) (sym fits.dynamic)
    ∙ within_put o.dynamic.at p.dynamic (moved_part p o flat) (omega (arith, ins.1.1.1.0, fits.dynamic, size))

-- the value of the first entry that was put in
pub stamp_of : (at stamp checksum : ℕ) (table : List ℕ) → at + 32 ≤ length table → stamp < 2 ^ 64 → word64 (at + 8) (put at (library_entries stamp checksum) table) ≡ stamp
stamp_of at stamp checksum table room small =
    let a : List ℕ = bytes64 0x6ffffdf5 in
    let b : List ℕ = bytes64 stamp in
    let rest : List ℕ = entry_bytes 0x6ffffdf8 checksum in
    let es = library_entries stamp checksum in
    let size : length es ≡ 32 = length-append (entry_bytes 0x6ffffdf5 stamp) rest ∙ omega (arith, length-append a b, length-append (bytes64 0x6ffffdf8) (bytes64 checksum), length_bytes64 0x6ffffdf5, length_bytes64 stamp, length_bytes64 0x6ffffdf8, length_bytes64 checksum) in
    let there : part at (length es) (put at es table) ≡ es = within_put at es table (omega (arith, room, size)) in
    let inside : word64 8 (part at (length es) (put at es table)) ≡ word64 (at + 8) (put at es table) = word64_part at (length es) 8 (put at es table) (omega (arith, size)) in
    let two : length (entry_bytes 0x6ffffdf5 stamp) ≡ 16 = omega (arith, length-append a b, length_bytes64 0x6ffffdf5, length_bytes64 stamp) in
    let first : word64 8 es ≡ word64 8 (a ++ b) = word64_front 8 (a ++ b) rest (omega (arith, two)) in
    let second : word64 (length a + 0) (a ++ b) ≡ word64 0 b = word64_behind a b 0 in
    let eight : length a + 0 ≡ 8 = omega (arith, length_bytes64 0x6ffffdf5) in
    let last : word64 0 b ≡ stamp = ap (λ (xs : List ℕ). word64 0 xs) (sym (append-nil b)) ∙ word64_back stamp [] small in
    sym inside ∙ ap (word64 8) there ∙ first ∙ ap (λ (n : ℕ). word64 n (a ++ b)) (sym eight) ∙ second ∙ last

-- ---- the list

plain_fits : (name kind at size : ℕ) → name < 2 ^ 32 → kind < 2 ^ 32 → at < 2 ^ 64 → size < 2 ^ 64 → SectionFits (plain name kind at size)
plain_fits name kind at size a b c d = record { name = a; kind = b; flags = omega arith; addr = omega arith; offset = c; size = d; link = omega arith; info = omega arith; align = omega arith; entsize = omega arith }

rows_fit : (link entsize : ℕ) (s : Section) → link < 2 ^ 32 → entsize < 2 ^ 64 → SectionFits s → SectionFits (with_rows link entsize s)
rows_fit link entsize s a b is = record { name = is.name; kind = is.kind; flags = is.flags; addr = is.addr; offset = is.offset; size = is.size; link = a; info = is.info; align = is.align; entsize = b }

-- the two parts of a library's list, behind a file of so many bytes
two_parts : (b strings rows : List ℕ) (rest : List (List ℕ)) → part (up (length b)) (length strings) (joined b (strings ∷ rows ∷ rest)) ≡ strings
unfolding joined_size
two_parts b strings rows rest = part_next b [] strings (rows ∷ rest)

second_part : (b strings rows : List ℕ) (rest : List (List ℕ)) → part (up (up (length b) + length strings)) (length rows) (joined b (strings ∷ rows ∷ rest)) ≡ rows
unfolding joined_size
second_part b strings rows rest = part_next b (strings ∷ []) rows rest

-- where the parts end is below where the table begins
abbrev list_end : ℕ → Listed → ℕ
list_end file l = up (up file + length l.strings) + length l.rows

up_least : (n : ℕ) → n ≤ up n
up_least n = omega arith

list_below : (o : Original) (slot stamp checksum : ℕ) (l : Listed) (undo : ℕ) → list_end (length o.bytes) l ≤ table_at (library_plan o slot stamp checksum l) o.bytes undo
unfolding library_plan joined_size
list_below o slot stamp checksum l undo =
    let p = library_plan o slot stamp checksum l in
    let n = list_end (length o.bytes) l in
    let zero_more : length o.bytes + 0 ≡ length o.bytes = omega arith in
    let at : joined_size (length o.bytes + 0) (l.strings ∷ l.rows ∷ []) ≡ n = ap (λ (k : ℕ). list_end k l) zero_more in
    let a = up_least (joined_size (length o.bytes + 0) (l.strings ∷ l.rows ∷ [])) in
    let b = up_least (up (joined_size (length o.bytes + 0) (l.strings ∷ l.rows ∷ [])) + undo) in
    let c = up_least (up (up (joined_size (length o.bytes + 0) (l.strings ∷ l.rows ∷ [])) + undo) + length (names_part p o.bytes)) in
    omega (arith, at, a, b, c)

names_below : (o : Original) (slot stamp checksum : ℕ) (l : Listed) (undo : ℕ) → length (old_names o.bytes) + 25 ≤ table_at (library_plan o slot stamp checksum l) o.bytes undo
unfolding library_plan
names_below o slot stamp checksum l undo =
    let p = library_plan o slot stamp checksum l in
    let n : length (names_part p o.bytes) ≡ length (old_names o.bytes) + 53 = length-append (old_names o.bytes) _ in
    let c = up_least (up (up (joined_size (length o.bytes + length p.more) p.parts) + undo) + length (names_part p o.bytes)) in
    omega (arith, n, c)

-- both sections, read from the file by their numbers from the end
pub strings_there : (o : Original) (slot stamp checksum : ℕ) (l : Listed) (flat undo : List ℕ) → Fits (library_plan o slot stamp checksum l) o flat (length undo)
    → section_part (section (form (library_plan o slot stamp checksum l) o flat undo) (header (form (library_plan o slot stamp checksum l) o flat undo)) ((header (form (library_plan o slot stamp checksum l) o flat undo)).shnum - 4)) (form (library_plan o slot stamp checksum l) o flat undo) ≡ l.strings
unfolding library_plan library_sections form
strings_there o slot stamp checksum l flat undo fits =
    let p = library_plan o slot stamp checksum l in
    let file = form p o flat undo in
    let old = map (moved_section slot) (sections o.bytes (header o.bytes)) in
    let new = list_sections l (length o.bytes) (length old) (length (old_names o.bytes)) in
    let row : Section = plain (length (old_names o.bytes)) 3 (up (length o.bytes)) (length l.strings) in
    let here : length old ≡ length old + 0 = omega arith in
    let is : get_or (old ++ new) (length old) row ≡ row = ap (λ (n : ℕ). get_or (old ++ new) n row) here ∙ get_or-append-add old new 0 row in
    let size : length (old ++ new) ≡ length old + 2 = length-append old new in
    let below = list_below o slot stamp checksum l (length undo) in
    let names = names_below o slot stamp checksum l (length undo) in
    let small : SectionFits (get_or (old ++ new) (length old) row) = subst SectionFits (sym is) (plain_fits (length (old_names o.bytes)) 3 (up (length o.bytes)) (length l.strings) (omega (arith, names, fits.small)) (omega arith) (omega (arith, below, up_least (up (length o.bytes) + length l.strings), fits.small)) (omega (arith, below, up_least (up (length o.bytes) + length l.strings), fits.small))) in
    let found = section_before p o flat undo fits (length old) 4 row (omega (arith, size)) (omega (arith, size)) small ∙ is in
    let front = inserted p.cut p.more (front_part p o flat (length undo)) in
    let front_length : length front ≡ length o.bytes = length-inserted p.cut p.more (front_part p o flat (length undo)) (omega (arith, front_size p o flat (length undo) fits)) ∙ omega (arith, front_size p o flat (length undo) fits) in
    let there : part (up (length front)) (length l.strings) file ≡ l.strings = two_parts front l.strings l.rows (undo ∷ names_part p o.bytes ∷ table_part p o.bytes (length undo) ∷ []) in
    ap (λ (s : Section). section_part s file) found ∙ ap (λ (n : ℕ). part (up n) (length l.strings) file) (sym front_length) ∙ there

pub rows_there : (o : Original) (slot stamp checksum : ℕ) (l : Listed) (flat undo : List ℕ) → Fits (library_plan o slot stamp checksum l) o flat (length undo)
    → section_part (section (form (library_plan o slot stamp checksum l) o flat undo) (header (form (library_plan o slot stamp checksum l) o flat undo)) ((header (form (library_plan o slot stamp checksum l) o flat undo)).shnum - 3)) (form (library_plan o slot stamp checksum l) o flat undo) ≡ l.rows
unfolding library_plan library_sections form
rows_there o slot stamp checksum l flat undo fits =
    let p = library_plan o slot stamp checksum l in
    let file = form p o flat undo in
    let old = map (moved_section slot) (sections o.bytes (header o.bytes)) in
    let new = list_sections l (length o.bytes) (length old) (length (old_names o.bytes)) in
    let bare : Section = plain (length (old_names o.bytes) + 12) 0x6ffffff7 (up (up (length o.bytes) + length l.strings)) (length l.rows) in
    let row : Section = with_rows (length old) 20 bare in
    let is : get_or (old ++ new) (length old + 1) row ≡ row = get_or-append-add old new 1 row in
    let size : length (old ++ new) ≡ length old + 2 = length-append old new in
    let below = list_below o slot stamp checksum l (length undo) in
    let names = names_below o slot stamp checksum l (length undo) in
    let small : SectionFits (get_or (old ++ new) (length old + 1) row) = subst SectionFits (sym is) (rows_fit (length old) 20 bare (omega (arith, size, fits.few)) (omega arith)
    (plain_fits (length (old_names o.bytes) + 12) 0x6ffffff7 (up (up (length o.bytes) + length l.strings)) (length l.rows) (omega (arith, names, fits.small)) (omega arith) (omega (arith, below, fits.small)) (omega (arith, below, fits.small)))) in
    let found = section_before p o flat undo fits (length old + 1) 3 row (omega (arith, size)) (omega (arith, size)) small ∙ is in
    let front = inserted p.cut p.more (front_part p o flat (length undo)) in
    let front_length : length front ≡ length o.bytes = length-inserted p.cut p.more (front_part p o flat (length undo)) (omega (arith, front_size p o flat (length undo) fits)) ∙ omega (arith, front_size p o flat (length undo) fits) in
    let there : part (up (up (length front) + length l.strings)) (length l.rows) file ≡ l.rows = second_part front l.strings l.rows (undo ∷ names_part p o.bytes ∷ table_part p o.bytes (length undo) ∷ []) in
    ap (λ (s : Section). section_part s file) found ∙ ap (λ (n : ℕ). part (up (up n + length l.strings)) (length l.rows) file) (sym front_length) ∙ there
