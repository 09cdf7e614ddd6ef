-- How long the form of a program is at most, and how many conflict rows a scope has.
use Rattle.std.proofs.Common.{[], ◌∷◌, ◌++◌, ◌≡◌, ℕ, ◌+◌, ◌-◌, ◌*◌, ◌^◌, ◌≤◌, true, List, length, map, drop, Option, Some, None, Ok, refl, ap, ◌∙◌, arith, inl, inr}
use Rattle.std.specs.Prelude.{is_some, nat_lt}
use Rattle.std.specs.List.{filter_map}
use Rattle.std.proofs.lemmas.Bool.{cases_Bool, true≢false}
use Rattle.std.proofs.lemmas.List.{length-append, length-drop, length-map, length-take}
use Rattle.pl_base.specs.Windows.{Window, within}
use Rattle.pl_base.proofs.AnswerLaws.{bind_ok, ok_same}
use Rattle.pl_base.proofs.EachLaws.{length-each}
use Rattle.pl_base.proofs.WindowLaws.{all_in}
use Rattle.pl_base.proofs.WordLaws.{length_bytes32, length_bytes64}
use Rattle.pl_elf.specs.Headers.{header, sections}
use Rattle.pl_elf.specs.Kinds.{is_program}
use Rattle.pl_elf.specs.declared.segment.Segment.{Segment}
use Rattle.pl_lists.specs.Conflicts.{conflict_bytes, conflicts_bytes}
use Rattle.pl_lists.specs.Lists.{after, list_bytes, list_strings, row_bytes}
use Rattle.pl_lists.specs.declared.conflict_row.ConflictRow.{ConflictRow}
use Rattle.pl_lists.specs.declared.list_row.ListRow.{ListRow}
use Rattle.pl_object.specs.FilePart.{file_window}
use Rattle.pl_object.specs.PlaceClauses.{last_load}
use Rattle.pl_object.specs.Tables.{strings_memory}
use Rattle.pl_object.specs.declared.object.Object.{Object}
use Rattle.pl_form.proofs.FinalTheorem.{program_conditions}
use Rattle.pl_form.proofs.FormLaws.{form_length}
use Rattle.pl_form.proofs.KindLaws.{program_fits, section_count}
use Rattle.pl_form.proofs.ReaderLaws.{readable}
use Rattle.pl_form.proofs.WholeTheorem.{taken}
use Rattle.pl_form.specs.Back.{head_windows, wanted}
use Rattle.pl_form.specs.Fits.{Fits}
use Rattle.pl_form.specs.Forms as forms
use Rattle.pl_form.specs.Forms.{original_of, planned, undo_part}
use Rattle.pl_form.specs.Found.{d_of, ps_of, ss_of, tags_of}
use Rattle.pl_form.specs.PartLaws.{IsDigest}
use Rattle.pl_form.specs.Parts.{extension, joined_size, names_part, old_names, program_plan, program_section, program_sections}
use Rattle.pl_form.specs.declared.parts.Extension.{Extension}
use Rattle.sha2.proofs.Facts256.{length-sha256}
use Rattle.sha2.specs.Sha256.{sha256}
use Rattle.pl_form.specs.Extending.{IsShort}
use Rattle.pl_form.specs.Faults.{IsFirm}
use Rattle.pl_form.specs.Program.{last_index, program_with}
use Rattle.pl_form.specs.Words.{digest_in, extension_of, strings_of}
use Rattle.pl_form.specs.declared.version.Version.{Version}
use Rattle.pl_form.proofs.FormOf.{forms_program}
use Rattle.pl_form.proofs.LengthLaws.{accepted_small, names_most, original_accepted, spots_inside, undo_short}
use Rattle.pl_form.proofs.ProgramLengthLaws.{extension_short, hidden_inside, program_short, program_wanted, whole_short}
use Rattle.pl_form.proofs.ReadyLaws.{digest_ready, extended_some, short_ready}
use Rattle.pl_form.proofs.SomeLastLaws.{some_last}
use Rattle.pl_tls.specs.declared.module.Module.{Module}
use Rattle.pl_value.specs.Meanings as value
use Rattle.pl_value.specs.Meanings.{meaning, meanings, row, rows_from}
use Rattle.pl_value.specs.Ordinary.{loaded_objects}
use Rattle.pl_value.specs.declared.meaning.Meaning.{Meaning}
use Rattle.pl_image.specs.declared.loaded_object.LoadedObject.{LoadedObject}
use Rattle.pl_conflict.specs.Conflicts.{ascending, conflicts, inserted, row_of, rows_of}

-- ---- a program's form, by its lists

abbrev size_of : Extension → ℕ
size_of e = length e.strings + (length e.rows + length e.conflicts)

section_bytes_few : (o : List ℕ) (last : Segment) (cut shift : ℕ) (e : Extension) → length (program_sections (original_of o) last cut shift e) ≡ (header o).shnum + 3
unfolding program_sections
section_bytes_few o last cut shift e =
    let old = map (program_section cut shift last) (sections o (header o)) in
    length-append old _ ∙ ap (λ (k : ℕ). k + 3) (length-map (sections o (header o)) (program_section cut shift last) ∙ section_count o (header o))

form_most : (o : List ℕ) (x : Object) (last : Segment) (e : Extension) (flat : List ℕ) (digest : Option (List ℕ)) → IsFirm o x → is_program x.kind ≡ true → last_load (ss_of o) ≡ Some last → length flat ≡ wanted (ps_of o) → IsDigest digest → size_of e ≤ 2 ^ 30
    → length (forms.form_of_program (original_of o) (last_index (ss_of o)) last e flat digest) ≤ 7 * length o + 2 * (last.memsz - last.filesz) + size_of e + 600
unfolding planned program_plan joined_size
form_most o x last e flat digest firm program at filled size lists =
    let a = original_of o in
    let i : ℕ = last_index (ss_of o) in
    let p = program_plan a i last flat e in
    let u = undo_part p a digest in
    let short : IsShort last = short_ready o x last firm program at in
    let is = program_conditions o x i last e flat digest (forms_program o x last e flat digest firm program at filled size (program_short o x last e flat digest firm at short filled size lists)) in
    let fits : Fits p a flat (length u) = program_fits a i last e flat (length u) (taken o is.accepted is.few) is.program is.spare is.flat_size is.small in
    let undo = undo_short o digest p.slot p.cut (length p.more) (original_accepted o x firm) (spots_inside o x firm) size in
    let names : length (names_part p o) ≡ length (old_names o) + 67 = length-append (old_names o) _ in
    let block = extension last (ps_of o) flat e in
    let heads = all_in (length o) (head_windows (header o) ++ d_of o ∷ []) (readable o (original_accepted o x firm)).heads_in in
    omega (
      arith,
      form_length p a flat u fits,
      section_bytes_few o last p.cut (length p.more) e,
      heads.1.1.0,
      undo,
      names,
      names_most o,
      program_wanted o x last firm at short.bytes,
      extension_short last (ps_of o) flat e filled (hidden_inside o x last firm at short.bytes),
      whole_short block,
    )

-- ---- the lists

length-row : (start : ℕ) (r : ListRow) → length (row_bytes start r) ≡ 20
unfolding row_bytes
length-row start r = simp (length-append, length_bytes32) refl

length-list : (start : ℕ) (list : List ListRow) → length (list_bytes start list) ≡ 20 * length list
unfolding list_bytes
length-list start [] = refl
length-list start (r ∷ list) = length-append (row_bytes start r) (list_bytes (after start r) list) ∙ omega (arith, length-row start r, length-list (after start r) list)

length-conflict : (r : ConflictRow) → length (conflict_bytes r) ≡ 24
unfolding conflict_bytes
length-conflict r = simp (length-append, length_bytes64) refl

length-conflicts : (rs : List ConflictRow) → length (conflicts_bytes rs) ≡ 24 * length rs
unfolding conflicts_bytes
length-conflicts [] = refl
length-conflicts (r ∷ rs) = length-append (conflict_bytes r) (conflicts_bytes rs) ∙ omega (arith, length-conflict r, length-conflicts rs)

within_short : (w : Window) (o : List ℕ) → length (within w o) ≤ length o
within_short w o = omega (arith, length-take w.size (drop w.at o), length-drop w.at o)

extension_size : (o : List ℕ) (list : List ListRow) (rs : List ConflictRow) → size_of (extension_of o list rs) ≤ length o + length (list_strings list) + 20 * length list + 24 * length rs
extension_size o list rs =
    omega (arith, length-append (strings_of o) (list_strings list), within_short (file_window (ss_of o) (strings_memory (tags_of o))) o, length-list (length (strings_of o)) list, length-conflicts rs)

with_last : (o : List ℕ) (x : Object) (found : Option Segment) → last_load (ss_of o) ≡ found → is_some found ≡ true → (last : Segment) × (last_load (ss_of o) ≡ Some last)
with_last o x None at some = absurd (true≢false (cc))
with_last o x (Some last) at some = (last, at)

-- a program's form, by its original, its list and its conflict rows
pub program_most : (o : List ℕ) (x : Object) (list : List ListRow) (flat : List ℕ) (rs : List ConflictRow) (version : Version) → IsFirm o x → is_program x.kind ≡ true → length flat ≡ wanted (ps_of o)
    → length (list_strings list) + 20 * length list + 24 * length rs ≤ 2 ^ 29
    → length (program_with o list flat rs version) ≤ 8 * length o + 2 ^ 25 + length (list_strings list) + 20 * length list + 24 * length rs + 600
program_most o x list flat rs version firm program filled few =
    let found = with_last o x (last_load (ss_of o)) refl (some_last o x firm.accepted) in
    let last : Segment = found.0 in
    let e : Extension = extension_of o list rs in
    let size = digest_ready version (sha256 o) (length-sha256 o) in
    let short : IsShort last = short_ready o x last firm program found.1 in
    let lists = extension_size o list rs in
    let most = form_most o x last e flat (digest_in version o) firm program found.1 filled size (omega (arith, lists, few, accepted_small o x firm.accepted)) in
    let same : forms.form_of_program (original_of o) (last_index (ss_of o)) last e flat (digest_in version o) ≡ program_with o list flat rs version =
    extended_some o (record { index = last_index (ss_of o); segment = last }) e flat version (record { at = found.1; index = refl }) in
    omega (arith, ap (λ (l : List ℕ). length l) same, most, lists, short.zeros)

-- ---- how many rows

length-inserted : (r : ConflictRow) (rs : List ConflictRow) → length (inserted r rs) ≡ length rs + 1
unfolding inserted
length-inserted r [] = refl
length-inserted r (next ∷ later) = elim (cases_Bool (nat_lt r.address next.address)) [
  | inl before ↦ rw before (omega arith)
  | inr behind ↦ rw behind (let rest = length-inserted r later in omega (arith, rest))
]

length-ascending : (rs : List ConflictRow) → length (ascending rs) ≡ length rs
unfolding ascending
length-ascending [] = refl
length-ascending (r ∷ rs) = let rest = length-ascending rs in omega (arith, length-inserted r (ascending rs), rest)

one_or_none : {X Y : Type 0} (h : X → Option Y) (x : X) (xs : List X) (found : Option Y) → h x ≡ found → length (filter_map h xs) ≤ length xs → length (filter_map h (x ∷ xs)) ≤ length xs + 1
one_or_none h x xs None e rest = rw e (omega (arith, rest))
one_or_none h x xs (Some y) e rest = rw e (omega (arith, rest))

fewer : {X Y : Type 0} (h : X → Option Y) (xs : List X) → length (filter_map h xs) ≤ length xs
fewer h [] = omega arith
fewer h (x ∷ xs) = let most = one_or_none h x xs (h x) refl (fewer h xs) in omega (arith, most)

length-rows : (files : List LoadedObject) (gs : List Meaning) → length (rows_of files gs) ≤ length gs
unfolding rows_of
length-rows files gs = fewer (λ g. row_of files g.member g.start g.word) gs

-- how many relocations objects have together
abbrev pub relocations_in : List Object → ℕ
relocations_in [] = 0
relocations_in (o ∷ os) = length o.relocations + relocations_in os

length-all : (member : ℕ) (os : List Object) → length (rows_from member os) ≡ relocations_in os
unfolding rows_from
length-all member [] = refl
length-all member (o ∷ os) =
    let rest = length-all (member + 1) os in
    omega (arith, length-append (map (row member) o.relocations) (rows_from (member + 1) os), length-map o.relocations (row member), rest)

-- a scope has no more conflict rows than relocations
pub conflicts_most : (objects : List Object) (parts : List (List ℕ)) (places : List ℕ) (modules : List Module) (rs : List ConflictRow) → conflicts objects parts places modules ≡ Ok rs → length rs ≤ relocations_in objects
unfolding conflicts meanings
conflicts_most objects parts places modules rs e =
    let step = bind_ok (meanings objects places modules) (λ gs. Ok (ascending (rows_of (loaded_objects places parts objects) gs))) rs e in
    let gs : List Meaning = step.0 in
    let same : ascending (rows_of (loaded_objects places parts objects) gs) ≡ rs = ok_same (ascending (rows_of (loaded_objects places parts objects) gs)) rs step.2 in
    let count = length-each (meaning objects places modules) (value.rows objects) gs step.1 in
    omega (arith, ap (λ (l : List ConflictRow). length l) same, length-ascending (rows_of (loaded_objects places parts objects) gs), length-rows (loaded_objects places parts objects) gs, count, length-all 0 objects)
