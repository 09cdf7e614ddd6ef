-- Memories that are one at every address have one text.
use Rattle.std.proofs.Common.{◌≡◌, ℕ, zero, suc, ◌+◌, ◌*◌, ◌^◌, ◌<◌, List, [], ◌∷◌, ◌++◌, Option, None, refl, sym, ap, ◌∙◌, arith}
use Rattle.std.specs.Prelude.{if◌then◌else◌}
use Rattle.std.specs.List.{list_any, flat_map}
use Rattle.std.specs.Option.{unwrap_or}
use Rattle.std.proofs.lemmas.List.{ext_get_or}
use Rattle.pl_base.specs.Bytes.{word64}
use Rattle.pl_base.specs.Memory.{Memory, read}
use Rattle.pl_base.proofs.MemoryLaws.{read_length, read_byte}
use Rattle.pl_elf.specs.declared.range.Range.{Range}
use Rattle.pl_elf.specs.Ranges.{has}
use Rattle.pl_image.specs.Lines.{word_in, unless_zero, word_line, lines_from, word_lines, only, text}

abbrev Same : Memory → Memory → Type 0
Same m k = (address : ℕ) → m address ≡ k address

read_same : (m k : Memory) (start size : ℕ) → Same m k → read m start size ≡ read k start size
read_same m k start size same =
    ext_get_or 0 (read m start size) (read k start size) (read_length m start size ∙ sym (read_length k start size)) (λ i lt.
    let within : i < size = omega (arith, lt, read_length m start size) in
    read_byte m start size i within ∙ ap (λ (v : Option ℕ). unwrap_or v 0) (same (start + i)) ∙ sym (read_byte k start size i within))

word_same : (m k : Memory) (address : ℕ) → Same m k → word_in m address ≡ word_in k address
unfolding word_in
word_same m k address same = ap (word64 0) (read_same m k address 8 same)

line_same : (m k : Memory) (number : ℕ) → Same m k → word_line m number ≡ word_line k number
unfolding word_line
line_same m k number same = ap (unless_zero (8 * number)) (word_same m k (8 * number) same)

lines_same : (m k : Memory) (number count : ℕ) → Same m k → lines_from m number count ≡ lines_from k number count
unfolding lines_from
lines_same m k number zero same = refl
lines_same m k number (suc count) same =
    ap (λ (xs : List ℕ). xs ++ word_line m (number + count)) (lines_same m k number count same) ∙ ap (λ (xs : List ℕ). lines_from k number count ++ xs) (line_same m k (number + count) same)

all_lines_same : (m k : Memory) → Same m k → word_lines m ≡ word_lines k
unfolding word_lines
all_lines_same m k same = lines_same m k 0 (2 ^ 44) same

only_same : (ranges : List Range) (m k : Memory) → Same m k → Same (only ranges m) (only ranges k)
unfolding only
only_same ranges m k same = λ address. ap (λ (o : Option ℕ). if list_any (has address) ranges then o else None) (same address)

pub text_same : (m k : Memory) (extents : List (List Range)) → Same m k → text m extents ≡ text k extents
unfolding text
text_same m k [] same = refl
text_same m k (ranges ∷ extents) same =
    let here = all_lines_same (only ranges m) (only ranges k) (only_same ranges m k same) in
    ap (λ (xs : List ℕ). xs ++ flat_map (λ rs. word_lines (only rs m)) extents) here ∙ ap (λ (xs : List ℕ). word_lines (only ranges k) ++ xs) (text_same m k extents same)
