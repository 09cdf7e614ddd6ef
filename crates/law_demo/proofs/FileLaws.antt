-- Where the parts of a built file stand.
use Rattle.std.proofs.Common.{◌≡◌, ℕ, ◌+◌, ◌-◌, ◌*◌, ◌≤◌, true, List, [], ◌∷◌, ◌++◌, length, map, replicate, Result, Ok, Err, refl, sym, ap, subst, ◌∙◌, append_assoc, length-append, arith, inl, inr}
use Rattle.std.specs.Prelude.{codes, fold, nat_le, nat_lt}
use Rattle.std.specs.List.{flat_map}
use Rattle.std.proofs.lemmas.Bool.{cases_Bool}
use Rattle.std.proofs.lemmas.Bool.Decides.{nat_tests}
use Rattle.std.proofs.lemmas.List.{length-replicate}
use Rattle.std.proofs.lemmas.List.Concat.{flat_map-append}
use Rattle.pl_base.specs.Bytes.{bytes16, bytes32, bytes64}
use Rattle.pl_base.specs.Sums.{round_up}
use Rattle.pl_base.proofs.AnswerLaws.{bind_ok, ok_same}
use Rattle.pl_base.proofs.SumLaws.{round_up-at_least}
use Rattle.pl_base.proofs.WindowLaws.{length-put}
use Rattle.pl_base.proofs.WordLaws.{length_bytes64}
use Rattle.pl_elf.specs.declared.segment.Segment.{Segment}
use Rattle.pl_elf.specs.Written as written
use Rattle.pl_form.proofs.HeadLaws.{length-segment}
use Rattle.pl_build.specs.declared.checks.Fault.{Fault}
use Rattle.pl_build.specs.declared.fields.Field.{Field}
use Rattle.pl_build.specs.declared.layout.Tables.{Tables}
use Rattle.pl_build.specs.declared.line.DataWord.{DataWord}
use Rattle.pl_build.specs.declared.layout_plan.LayoutPlan.{LayoutPlan}
use Rattle.pl_build.specs.declared.recipe.Settings.{Settings}
use Rattle.pl_build.specs.declared.sections.SectionRow.{SectionRow}
use Rattle.pl_build.specs.declared.string_table.StringTable.{StringTable}
use Rattle.pl_build.specs.Data.{data_bytes, word_put}
use Rattle.pl_build.specs.Dynamic.{place_of}
use Rattle.pl_build.specs.Fields.{field_bytes, fields}
use Rattle.pl_build.specs.File.{ident, first_header_fields, last_header_fields, header_bytes, interp_of, front, up_to_data, file_of, parts_end, sections_offset, file_end, limited, made}
use Rattle.pl_build.specs.Layout.{filled_to, end_of, tables, too_large}
use Rattle.pl_build.specs.LayoutPlan.{has_interp}
use Rattle.pl_build.specs.Roles.{index_of}
use Rattle.pl_build.specs.Sections.{first_fields, last_fields, section_row_bytes}
use Rattle.pl_build.specs.Segments.{segments, data_offset}
use Rattle.pl_build.specs.StringTable.{section_names}
use Rattle.pl_build.proofs.SegmentLaws.{few_segments}
use Rattle.law_demo.specs.Planned.{header_of, section_of, planned_segments}
use Rattle.law_demo.specs.Files.{FilesHoldTables}
use Rattle.law_demo.specs.Standing.{AreStanding, AreLaid}
use Rattle.law_demo.proofs.LaidLaws.{standing_front, tables_laid}
use Rattle.law_demo.proofs.BackLaws.{Begins, begins_itself, begins_more, begins_through, rows_long}

-- ---- the bytes of rows are those that pl_elf writes

pub header_written_as : (p : LayoutPlan) (phnum shoff : ℕ) → header_bytes p phnum shoff ≡ written.header_bytes (header_of p phnum shoff)
unfolding header_bytes header_of written.header_bytes fields bytes16 bytes32 bytes64
header_written_as p phnum shoff =
    let last : List Field = last_header_fields phnum (length p.roles) (index_of p.roles (codes ".shstrtab")) in
    append_assoc (flat_map field_bytes ident) (flat_map field_bytes (first_header_fields p.settings shoff)) (flat_map field_bytes last)
    ∙ ap (λ (l : List ℕ). flat_map field_bytes ident ++ l) (sym (flat_map-append field_bytes (first_header_fields p.settings shoff) last))

pub section_written_as : (s : SectionRow) → section_row_bytes s ≡ written.section_header_bytes (section_of s)
unfolding section_row_bytes section_of written.section_header_bytes fields bytes32 bytes64
section_written_as s = sym (flat_map-append field_bytes (first_fields s) (last_fields s))

pub sections_written_as : (rows : List SectionRow) → flat_map section_row_bytes rows ≡ flat_map written.section_header_bytes (map section_of rows)
sections_written_as [] = refl
sections_written_as (s ∷ rows) = rw (section_written_as s, sections_written_as rows) refl

-- ---- lengths

pub filled_long : (offset : ℕ) (xs : List ℕ) → length xs ≤ offset → length (filled_to offset xs) ≡ offset
unfolding filled_to
filled_long offset xs le = omega (arith, le, length-append xs (replicate (offset - length xs) 0), length-replicate {A = ℕ} (offset - length xs) 0)

pub begins_filled : (xs ys : List ℕ) (offset : ℕ) → Begins xs ys → Begins xs (filled_to offset ys)
unfolding filled_to
begins_filled xs ys offset b = begins_more xs ys (replicate (offset - length ys) 0) b

word_kept : (bytes : List ℕ) (w : DataWord) → length (word_put bytes w) ≡ length bytes
unfolding word_put
word_kept bytes w = elim (cases_Bool (nat_le (w.offset + 8) (length bytes))) [
  | inl fits ↦ rw fits (length-put w.offset (bytes64 w.value) bytes (within (length bytes) w.offset (length (bytes64 w.value)) (length_bytes64 w.value) fits))
  | inr passes ↦ rw passes refl
]
  where
    within : (size at n : ℕ) → n ≡ 8 → nat_le (at + 8) size ≡ true → at + n ≤ size
    within size at n eight le = grind (arith, nat_tests)

words_kept : (bytes : List ℕ) (words : List DataWord) → length (fold word_put bytes words) ≡ length bytes
words_kept bytes [] = refl
words_kept bytes (w ∷ words) = words_kept (word_put bytes w) words ∙ word_kept bytes w

pub data_long : (size : ℕ) (words : List DataWord) → length (data_bytes size words) ≡ size
unfolding data_bytes
data_long size words = words_kept (replicate size 0) words ∙ length-replicate {A = ℕ} size 0

pub header_long : (p : LayoutPlan) (phnum shoff : ℕ) → length (header_bytes p phnum shoff) ≡ 64
unfolding header_bytes fields
header_long p phnum shoff = refl

pub segments_long : (ss : List Segment) → length (flat_map written.segment_bytes ss) ≡ 56 * length ss
segments_long ss = rows_long 56 written.segment_bytes length-segment ss

interp_small : (s : Settings) → length (interp_of s) ≤ 29
unfolding interp_of
interp_small s = elim (cases_Bool (has_interp s)) [
  | inl there ↦ rw there (omega arith)
  | inr missing ↦ rw missing (omega arith)
]

pub few : (p : LayoutPlan) (t : Tables) → length (planned_segments p t) ≤ 7
unfolding planned_segments segments
few p t = few_segments p.settings (end_of t) (place_of t.places (codes ".dynamic")) _

-- the header and the program header table
abbrev pub heads : LayoutPlan → Tables → ℕ → List ℕ
heads p t shoff = header_bytes p (length (planned_segments p t)) shoff ++ flat_map written.segment_bytes (planned_segments p t)

heads_small : (p : LayoutPlan) (t : Tables) (shoff : ℕ) → length (heads p t shoff) ≤ 512
heads_small p t shoff =
    omega (arith, length-append (header_bytes p (length (planned_segments p t)) shoff) (flat_map written.segment_bytes (planned_segments p t)), header_long p (length (planned_segments p t)) shoff, segments_long (planned_segments p t), few p t)

front_small : (p : LayoutPlan) (t : Tables) (shoff : ℕ) → length (front p t (end_of t) shoff) ≤ 1024
unfolding front planned_segments
front_small p t shoff =
    omega (arith, length-append (filled_to 512 (heads p t shoff)) (interp_of p.settings), filled_long 512 (heads p t shoff) (heads_small p t shoff), interp_small p.settings)

-- what precedes the tables
abbrev pub before_tables : LayoutPlan → Tables → ℕ → List ℕ
before_tables p t shoff = filled_to 1024 (front p t (end_of t) shoff)

pub before_long : (p : LayoutPlan) (t : Tables) (shoff : ℕ) → length (before_tables p t shoff) ≡ 1024
before_long p t shoff = filled_long 1024 (front p t (end_of t) shoff) (front_small p t shoff)

pub data_after : (p : LayoutPlan) (t : Tables) (shoff : ℕ) → length (up_to_data p t (end_of t) shoff) ≡ data_offset (end_of t)
unfolding up_to_data
data_after p t shoff =
    filled_long (data_offset (end_of t)) (before_tables p t shoff ++ t.bytes) (omega (arith, length-append (before_tables p t shoff) t.bytes, before_long p t shoff, round_up-at_least (end_of t) 4096 (omega arith)))

-- ---- what the file begins with

pub begins_before : (p : LayoutPlan) (t : Tables) (shoff : ℕ) → Begins (heads p t shoff) (before_tables p t shoff)
unfolding front planned_segments
begins_before p t shoff =
    begins_filled (heads p t shoff) (front p t (end_of t) shoff) 1024 (begins_more (heads p t shoff) (filled_to 512 (heads p t shoff)) (interp_of p.settings) (begins_filled (heads p t shoff) (heads p t shoff) 512 (begins_itself (heads p t shoff))))

abbrev pub names_of : LayoutPlan → StringTable
names_of p = section_names p.roles

-- the file of a plan whose tables are these
abbrev pub file_by : LayoutPlan → Tables → List ℕ
file_by p t = file_of p t (end_of t) (names_of p) (sections_offset p (end_of t) (names_of p))

-- the parts up to the names of the sections
abbrev pub parts_by : LayoutPlan → Tables → ℕ → List ℕ
parts_by p t shoff = up_to_data p t (end_of t) shoff ++ data_bytes p.settings.data_size p.words ++ (names_of p).bytes

pub parts_long : (p : LayoutPlan) (t : Tables) (shoff : ℕ) → length (parts_by p t shoff) ≡ parts_end p (end_of t) (names_of p)
unfolding parts_end
parts_long p t shoff =
    omega (arith, length-append (up_to_data p t (end_of t) shoff ++ data_bytes p.settings.data_size p.words) (names_of p).bytes, length-append (up_to_data p t (end_of t) shoff) (data_bytes p.settings.data_size p.words), data_long p.settings.data_size p.words, data_after p t shoff)

pub begins_parts : (p : LayoutPlan) (t : Tables) → Begins (parts_by p t (sections_offset p (end_of t) (names_of p))) (file_by p t)
unfolding file_of
begins_parts p t =
    let shoff : ℕ = sections_offset p (end_of t) (names_of p) in
    let parts : List ℕ = parts_by p t shoff in
    begins_more parts (filled_to shoff parts) _ (begins_filled parts parts shoff (begins_itself parts))

pub begins_tables : (p : LayoutPlan) (t : Tables) → Begins (before_tables p t (sections_offset p (end_of t) (names_of p)) ++ t.bytes) (file_by p t)
unfolding up_to_data
begins_tables p t =
    let shoff : ℕ = sections_offset p (end_of t) (names_of p) in
    let first : List ℕ = before_tables p t shoff ++ t.bytes in
    begins_through first (parts_by p t shoff) (file_by p t)
    (begins_more first (up_to_data p t (end_of t) shoff ++ data_bytes p.settings.data_size p.words) (names_of p).bytes
    (begins_more first (up_to_data p t (end_of t) shoff) (data_bytes p.settings.data_size p.words)
    (begins_filled first first (data_offset (end_of t)) (begins_itself first))))
    (begins_parts p t)

pub begins_heads : (p : LayoutPlan) (t : Tables) → Begins (heads p t (sections_offset p (end_of t) (names_of p))) (file_by p t)
begins_heads p t =
    let shoff : ℕ = sections_offset p (end_of t) (names_of p) in
    begins_through (heads p t shoff) (before_tables p t shoff ++ t.bytes) (file_by p t)
    (begins_more (heads p t shoff) (before_tables p t shoff) t.bytes (begins_before p t shoff))
    (begins_tables p t)

-- the section header table stands last
pub shoff_long : (p : LayoutPlan) (t : Tables) → length (filled_to (sections_offset p (end_of t) (names_of p)) (parts_by p t (sections_offset p (end_of t) (names_of p)))) ≡ sections_offset p (end_of t) (names_of p)
unfolding sections_offset
shoff_long p t =
    filled_long (sections_offset p (end_of t) (names_of p)) (parts_by p t (sections_offset p (end_of t) (names_of p)))
    (subst (λ (n : ℕ). n ≤ round_up (parts_end p (end_of t) (names_of p)) 8) (sym (parts_long p t (sections_offset p (end_of t) (names_of p)))) (round_up-at_least (parts_end p (end_of t) (names_of p)) 8 (omega arith)))

-- ---- what was made

limited_is : (p : LayoutPlan) (t : Tables) (bytes : List ℕ) → limited p (names_of p) t ≡ Ok bytes → (bytes ≡ file_by p t) × (file_end p (end_of t) (names_of p) ≤ 16777216)
unfolding limited
limited_is p t bytes is = elim (cases_Bool (nat_lt 16777216 (file_end p (end_of t) (names_of p)))) [
  | inl over ↦ let no : ◌≡◌ {A = Result (List ℕ) Fault} (Err too_large) (Ok bytes) = rw over at is in cc
  | inr fits ↦ (sym (ok_same (file_by p t) bytes (rw fits at is)), grind (arith, nat_tests))
]

pub made_is : (p : LayoutPlan) (bytes : List ℕ) → made p ≡ Ok bytes → (t : Tables) × (tables p ≡ Ok t) × (bytes ≡ file_by p t) × (file_end p (end_of t) (names_of p) ≤ 16777216)
unfolding made
made_is p bytes e =
    let step = bind_ok (tables p) (limited p (names_of p)) bytes e in
    let done = limited_is p step.0 bytes step.2 in
    (step.0, step.1, done.0, done.1)

-- the tables of every file stand where its places say
pub files_hold : FilesHoldTables
files_hold p bytes e =
    let m = made_is p bytes e in
    let before : List ℕ = before_tables p m.0 (sections_offset p (end_of m.0) (names_of p)) in
    let laid : AreLaid p before m.0 = tables_laid p m.0 before (before_long p m.0 (sections_offset p (end_of m.0) (names_of p))) m.1 in
    let b = begins_tables p m.0 in
    (m.0, m.1, subst (λ (xs : List ℕ). AreStanding p xs 1024 [] m.0.places) (sym (m.2 ∙ b.is)) (standing_front p (before ++ m.0.bytes) b.rest 1024 [] m.0.places laid.standing))
