-- How long entries and changed tables are.
use Rattle.std.proofs.Common.{◌≡◌, ℕ, ◌+◌, ◌*◌, ◌≤◌, List, ◌++◌, length, drop, ◌∙◌, ap, arith, inl, inr}
use Rattle.std.specs.Prelude.{◌==◌}
use Rattle.std.proofs.lemmas.Bool.{cases_Bool, eq-eqb}
use Rattle.std.proofs.lemmas.List.{length-append, length-drop, take_at, drop_all, append-nil}
use Rattle.pl_base.specs.Bytes.{bytes64, part, put, word64}
use Rattle.pl_base.specs.Windows.{within, IsIn}
use Rattle.pl_base.proofs.WindowLaws.{length-within}
use Rattle.pl_elf.specs.declared.segment.Segment.{Segment}
use Rattle.pl_form.specs.declared.parts.Extension.{Extension}
use Rattle.pl_form.specs.Extending.{with_strings, program_entries}
use Rattle.pl_form.specs.declared.layout.Layout.{Layout}
use Rattle.pl_base.proofs.WordLaws.{length_bytes64}
use Rattle.pl_move.specs.Moves.{rows, row_moved}
use Rattle.pl_move.specs.declared.kind.RowKind.TheVariants.{TagValue}
use Rattle.pl_move.proofs.MoveLaws.{length-rows, length-row_moved}
use Rattle.pl_form.specs.Parts.{entry_bytes, library_entries, with_tag, rows_at, conflicts_at}

pub length-entry : (tag value : ℕ) → length (entry_bytes tag value) ≡ 16
length-entry tag value = length-append (bytes64 tag) (bytes64 value) ∙ omega (arith, length_bytes64 tag, length_bytes64 value)

pub length-library_entries : (stamp checksum : ℕ) → length (library_entries stamp checksum) ≡ 32
length-library_entries stamp checksum = length-append (entry_bytes 0x6ffffdf5 stamp) (entry_bytes 0x6ffffdf8 checksum) ∙ omega (arith, length-entry 0x6ffffdf5 stamp, length-entry 0x6ffffdf8 checksum)

pub length-moved_tags : (slot tags : ℕ) (table : List ℕ) → 16 * tags ≤ length table → length (rows 16 (row_moved slot TagValue) tags table) ≡ length table
length-moved_tags slot tags table fits = length-rows 16 (row_moved slot TagValue) tags table (length-row_moved slot TagValue) fits

-- ---- entries of a program

-- an entry written over a row
entry_put : (number value : ℕ) (row : List ℕ) → length row ≡ 16 → put 8 (bytes64 value) (put 0 (bytes64 number) row) ≡ entry_bytes number value
unfolding put bytes64
entry_put number value row n =
    let a : List ℕ = bytes64 number in
    let v : List ℕ = bytes64 value in
    let rest : List ℕ = drop (0 + length a) row in
    let la : length a ≡ 8 = length_bytes64 number in
    let lv : length v ≡ 8 = length_bytes64 value in
    let size : length (a ++ rest) ≤ 8 + length v = omega (arith, length-append a rest, length-drop (0 + length a) row, la, lv, n) in
    ap (λ (xs : List ℕ). xs ++ (v ++ drop (8 + length v) (a ++ rest))) (take_at a rest 8 la)
    ∙ ap (λ (xs : List ℕ). a ++ (v ++ xs)) (drop_all (8 + length v) (a ++ rest) size)
    ∙ ap (λ (xs : List ℕ). a ++ xs) (append-nil v)

pub tag_put : (number value : ℕ) (row : List ℕ) → length row ≡ 16 → word64 0 row ≡ number → put 8 (bytes64 value) (put 0 (bytes64 number) row) ≡ with_tag number value row
tag_put number value row n is = rw (eq-eqb (word64 0 row) number is) (entry_put number value row n)

length-with_tag : (number value : ℕ) (row : List ℕ) → length row ≡ 16 → length (with_tag number value row) ≡ 16
length-with_tag number value row n = elim (cases_Bool (word64 0 row == number)) [
  | inl hit ↦ rw hit (length-entry number value)
  | inr miss ↦ rw miss n
]

pub length-with_strings : (address size : ℕ) (row : List ℕ) → length row ≡ 16 → length (with_strings address size row) ≡ 16
length-with_strings address size row n = length-with_tag 10 size (with_tag 5 address row) (length-with_tag 5 address row n)

pub length-program_entries : (last : Segment) (e : Extension) → length (program_entries last e) ≡ 64
unfolding bytes64
length-program_entries last e =
    let a : List ℕ = entry_bytes 0x6ffffef9 (rows_at last e) in
    let b : List ℕ = entry_bytes 0x6ffffdf7 (length e.rows) in
    let d : List ℕ = entry_bytes 0x6ffffef8 (conflicts_at last e) in
    let f : List ℕ = entry_bytes 0x6ffffdf6 (length e.conflicts) in
    length-append a (b ++ (d ++ f)) ∙ omega (
      arith,
      length-append b (d ++ f),
      length-append d f,
      length-entry 0x6ffffef9 (rows_at last e),
      length-entry 0x6ffffdf7 (length e.rows),
      length-entry 0x6ffffef8 (conflicts_at last e),
      length-entry 0x6ffffdf6 (length e.conflicts),
    )

-- ---- the bytes of a dynamic table

pub table_within : (bytes table : List ℕ) (l : Layout) (at size : ℕ) → at ≡ l.dynamic.at → size ≡ l.dynamic.size → table ≡ part at size bytes → table ≡ within l.dynamic bytes
table_within bytes table l at size a b e = e ∙ ap (λ (n : ℕ). part n size bytes) a ∙ ap (λ (n : ℕ). part l.dynamic.at n bytes) b

pub table_length : (bytes : List ℕ) (l : Layout) (table : List ℕ) → IsIn (length bytes) l.dynamic → table ≡ within l.dynamic bytes → length table ≡ l.dynamic.size
table_length bytes l table fits is = ap length is ∙ length-within l.dynamic bytes fits
