-- The stored tables are the original's.
use Rattle.std.proofs.Common.{◌≡◌, ℕ, ◌+◌, ◌*◌, ◌<◌, ◌≤◌, List, [], ◌∷◌, ◌++◌, length, sym, ap, ◌∙◌, arith}
use Rattle.std.specs.Prelude.{map}
use Rattle.std.specs.List.{range_with_len}
use Rattle.std.proofs.lemmas.List.FromFn.{length-map-range_with_len, get_or-map-range_with_len, fill_by_all}
use Rattle.pl_base.specs.Bytes.{part}
use Rattle.pl_base.specs.Windows.{within, AllIn}
use Rattle.pl_base.proofs.WindowLaws.{part_part, part_front, part_behind, length-within}
use Rattle.pl_elf.specs.Headers.{header, segment_at, section_at, segment, section, segments, sections}
use Rattle.pl_elf.specs.declared.header.Header.{Header}
use Rattle.pl_form.specs.Back.{header_window, segments_window, sections_window, head_windows, headers_of, all_within}
use Rattle.pl_form.specs.Found.{stored_segments, stored_sections}
use Rattle.pl_form.proofs.HeadLaws.{headers_begin, segment_part, section_part}

-- two lists of the same function at each index
pub same_rows : {X : Type 0} (f g : ℕ → X) (n : ℕ) (d : X) → ((k : ℕ) → k < n → f k ≡ g k) → map f (range_with_len 0 n) ≡ map g (range_with_len 0 n)
same_rows f g n d same = fill_by_all g (map f (range_with_len 0 n)) n d (length-map-range_with_len f 0 n) (λ k lt. get_or-map-range_with_len f 0 n k k d lt (omega arith) ∙ same k lt)

-- a part of the middle of three
part_middle : (i n : ℕ) (a b c : List ℕ) → i + n ≤ length b → part (length a + i) n (a ++ (b ++ c)) ≡ part i n b
part_middle i n a b c fits = part_behind i n a (b ++ c) ∙ part_front i n b c fits

stored_segment : (o : List ℕ) (i : ℕ) → AllIn (length o) (head_windows (header o)) → i < (header o).phnum → segment_at (headers_of o) (64 + 56 * i) ≡ segment o (header o) i
stored_segment o i fits lt =
    let h = header o in
    let a = within header_window o in
    let b = within (segments_window h) o in
    let n = length-within header_window o fits.0 in
    let m = length-within (segments_window h) o fits.1.0 in
    let place : 64 + 56 * i ≡ length a + 56 * i = omega (arith, n) in
    let row : part (64 + 56 * i) 56 (headers_of o) ≡ part (h.phoff + 56 * i) 56 o =
    ap (λ (k : ℕ). part k 56 (headers_of o)) place ∙ part_middle (56 * i) 56 a b (within (sections_window h) o ++ []) (omega (arith, m, lt))
    ∙ part_part h.phoff (56 * h.phnum) (56 * i) 56 o (omega (arith, lt)) in
    sym (segment_part (64 + 56 * i) (headers_of o)) ∙ ap (λ (xs : List ℕ). segment_at xs 0) row ∙ segment_part (h.phoff + 56 * i) o

stored_section : (o : List ℕ) (i : ℕ) → AllIn (length o) (head_windows (header o)) → i < (header o).shnum → section_at (headers_of o) (64 + 56 * (header o).phnum + 64 * i) ≡ section o (header o) i
stored_section o i fits lt =
    let h = header o in
    let a = within header_window o in
    let b = within (segments_window h) o in
    let c = within (sections_window h) o in
    let n = length-within header_window o fits.0 in
    let m = length-within (segments_window h) o fits.1.0 in
    let k = length-within (sections_window h) o fits.1.1.0 in
    let place : 64 + 56 * h.phnum + 64 * i ≡ length a + (length b + 64 * i) = omega (arith, n, m) in
    let row : part (64 + 56 * h.phnum + 64 * i) 64 (headers_of o) ≡ part (h.shoff + 64 * i) 64 o =
    ap (λ (x : ℕ). part x 64 (headers_of o)) place ∙ part_behind (length b + 64 * i) 64 a (b ++ (c ++ [])) ∙ part_middle (64 * i) 64 b c [] (omega (arith, k, lt))
    ∙ part_part h.shoff (64 * h.shnum) (64 * i) 64 o (omega (arith, lt)) in
    sym (section_part (64 + 56 * h.phnum + 64 * i) (headers_of o)) ∙ ap (λ (xs : List ℕ). section_at xs 0) row ∙ section_part (h.shoff + 64 * i) o

header_stored : (o : List ℕ) → AllIn (length o) (head_windows (header o)) → header (headers_of o) ≡ header o
header_stored o fits = headers_begin o (all_within (segments_window (header o) ∷ sections_window (header o) ∷ []) o) fits.0

pub segments_stored : (o : List ℕ) → AllIn (length o) (head_windows (header o)) → stored_segments (headers_of o) ≡ segments o (header o)
unfolding stored_segments segments
segments_stored o fits =
    ap (λ (h : Header). map (λ (i : ℕ). segment_at (headers_of o) (64 + 56 * i)) (range_with_len 0 h.phnum)) (header_stored o fits)
    ∙ same_rows (λ (i : ℕ). segment_at (headers_of o) (64 + 56 * i)) (segment o (header o)) (header o).phnum (segment_at [] 0) (λ k lt. stored_segment o k fits lt)

pub sections_stored : (o : List ℕ) → AllIn (length o) (head_windows (header o)) → stored_sections (headers_of o) ≡ sections o (header o)
unfolding stored_sections sections
sections_stored o fits =
    ap (λ (h : Header). map (λ (i : ℕ). section_at (headers_of o) (64 + 56 * h.phnum + 64 * i)) (range_with_len 0 h.shnum)) (header_stored o fits)
    ∙ same_rows (λ (i : ℕ). section_at (headers_of o) (64 + 56 * (header o).phnum + 64 * i)) (section o (header o)) (header o).shnum (section_at [] 0) (λ k lt. stored_section o k fits lt)
