-- A header, a program header and a section header are told by their own bytes.
use Rattle.std.proofs.Common.{◌≡◌, ℕ, zero, suc, ◌+◌, ◌*◌, ◌<◌, ◌≤◌, List, [], ◌∷◌, ◌++◌, length, get_or, refl, sym, ap, ◌∙◌, arith}
use Rattle.std.specs.Prelude.{map}
use Rattle.std.specs.List.{concat}
use Rattle.std.proofs.lemmas.List.{length-append, take_at}
use Rattle.pl_base.specs.Bytes.{part, word32, bytes16, bytes32, bytes64}
use Rattle.pl_base.specs.Windows.{within}
use Rattle.pl_base.proofs.WindowLaws.{part_part, part_behind, length-part}
use Rattle.pl_base.proofs.WordLaws.{word16_part, word32_part, word64_part}
use Rattle.pl_elf.specs.Headers.{header, segment_at, section_at}
use Rattle.pl_elf.specs.Written.{header_bytes, segment_bytes, section_header_bytes}
use Rattle.pl_elf.specs.declared.header.Header.{Header}
use Rattle.pl_elf.specs.declared.segment.Segment.{Segment}
use Rattle.pl_elf.specs.declared.section.Section.{Section}
use Rattle.pl_form.specs.Back.{header_window}

-- the header by the first 64 bytes
pub header_part : (xs : List ℕ) → header (part 0 64 xs) ≡ header xs
unfolding header
header_part xs =
    rw (
      part_part 0 64 0 16 xs (omega arith),
      word16_part 0 64 16 xs (omega arith),
      word16_part 0 64 18 xs (omega arith),
      word32_part 0 64 20 xs (omega arith),
      word64_part 0 64 24 xs (omega arith),
      word64_part 0 64 32 xs (omega arith),
      word64_part 0 64 40 xs (omega arith),
      word32_part 0 64 48 xs (omega arith),
      word16_part 0 64 52 xs (omega arith),
      word16_part 0 64 54 xs (omega arith),
      word16_part 0 64 56 xs (omega arith),
      word16_part 0 64 58 xs (omega arith),
      word16_part 0 64 60 xs (omega arith),
      word16_part 0 64 62 xs (omega arith),
    )
    refl

pub header_same : (xs ys : List ℕ) → part 0 64 xs ≡ part 0 64 ys → header xs ≡ header ys
header_same xs ys same = sym (header_part xs) ∙ ap header same ∙ header_part ys

pub headers_begin : (o rest : List ℕ) → 64 ≤ length o → header (within header_window o ++ rest) ≡ header o
headers_begin o rest long =
    let size : length (part 0 64 o) ≡ 64 = length-part 0 64 o long in
    header_same (part 0 64 o ++ rest) o (take_at (part 0 64 o) rest 64 size)

pub segment_part : (at : ℕ) (xs : List ℕ) → segment_at (part at 56 xs) 0 ≡ segment_at xs at
unfolding segment_at
segment_part at xs =
    let here : at + 0 ≡ at = omega arith in
    rw (
      word32_part at 56 0 xs (omega arith) ∙ ap (λ (n : ℕ). word32 n xs) here,
      word32_part at 56 4 xs (omega arith),
      word64_part at 56 8 xs (omega arith),
      word64_part at 56 16 xs (omega arith),
      word64_part at 56 24 xs (omega arith),
      word64_part at 56 32 xs (omega arith),
      word64_part at 56 40 xs (omega arith),
      word64_part at 56 48 xs (omega arith),
    )
    refl

pub section_part : (at : ℕ) (xs : List ℕ) → section_at (part at 64 xs) 0 ≡ section_at xs at
unfolding section_at
section_part at xs =
    let here : at + 0 ≡ at = omega arith in
    rw (
      word32_part at 64 0 xs (omega arith) ∙ ap (λ (n : ℕ). word32 n xs) here,
      word32_part at 64 4 xs (omega arith),
      word64_part at 64 8 xs (omega arith),
      word64_part at 64 16 xs (omega arith),
      word64_part at 64 24 xs (omega arith),
      word64_part at 64 32 xs (omega arith),
      word32_part at 64 40 xs (omega arith),
      word32_part at 64 44 xs (omega arith),
      word64_part at 64 48 xs (omega arith),
      word64_part at 64 56 xs (omega arith),
    )
    refl

-- ---- how many bytes

pub length-header : (h : Header) → length h.ident ≡ 16 → length (header_bytes h) ≡ 64
unfolding header_bytes bytes16 bytes32 bytes64
length-header h size =
    let rest : List ℕ = concat (bytes16 h.kind ∷ bytes16 h.machine ∷ bytes32 h.version ∷ bytes64 h.entry ∷ bytes64 h.phoff ∷ bytes64 h.shoff ∷ bytes32 h.flags ∷ bytes16 h.ehsize ∷ bytes16 h.phentsize ∷ bytes16 h.phnum ∷ bytes16 h.shentsize ∷ bytes16 h.shnum ∷ bytes16 h.shstrndx ∷ []) in
    length-append h.ident rest ∙ ap (λ (n : ℕ). n + 48) size

pub length-segment : (s : Segment) → length (segment_bytes s) ≡ 56
unfolding segment_bytes bytes32 bytes64
length-segment s = refl

pub length-section : (s : Section) → length (section_header_bytes s) ≡ 64
unfolding section_header_bytes bytes32 bytes64
length-section s = refl

-- ---- rows of one size

pub length-rows_of : {X : Type 0} (size : ℕ) (f : X → List ℕ) (xs : List X) → ((x : X) → length (f x) ≡ size) → length (concat (map f xs)) ≡ size * length xs
length-rows_of size f [] one = omega arith
length-rows_of size f (x ∷ xs) one = length-append (f x) (concat (map f xs)) ∙ omega (arith, one x, length-rows_of size f xs one)

-- a row of a table
pub row_of : {X : Type 0} (size : ℕ) (f : X → List ℕ) (xs : List X) (i : ℕ) (d : X) → ((x : X) → length (f x) ≡ size) → i < length xs → part (size * i) size (concat (map f xs)) ≡ f (get_or xs i d)
row_of size f [] i d one lt = absurd (omega (arith, lt))
row_of size f (x ∷ xs) zero d one lt =
    let start : size * 0 ≡ 0 = omega arith in
    rw start (take_at (f x) (concat (map f xs)) size (one x))
row_of size f (x ∷ xs) (suc i) d one lt =
    let start : size * suc i ≡ length (f x) + size * i = omega (arith, one x) in
    ap (λ (n : ℕ). part n size (f x ++ concat (map f xs))) start
    ∙ part_behind (size * i) size (f x) (concat (map f xs))
    ∙ row_of size f xs i d one (omega (arith, lt))
