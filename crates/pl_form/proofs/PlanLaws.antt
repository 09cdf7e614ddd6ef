-- The plan of a program's form, from its parts.
use Rattle.std.proofs.Common.{◌≡◌, ℕ, ◌+◌, ◌^◌, ◌<◌, false, List, [], ◌∷◌, ◌++◌, length, map, refl, sym, ap, ◌∙◌, arith}
use Rattle.std.specs.List.{list_any}
use Rattle.std.proofs.lemmas.List.{length-map}
use Rattle.pl_base.specs.Windows.{within}
use Rattle.pl_elf.specs.Clauses.{section_passes}
use Rattle.pl_elf.specs.Headers.{header, sections, segments}
use Rattle.pl_elf.specs.declared.section.Section.{Section}
use Rattle.pl_elf.specs.declared.segment.Segment.{Segment}
use Rattle.pl_object.specs.Accepted.{HasHead}
use Rattle.pl_object.specs.declared.object.Object.{Object}
use Rattle.pl_form.specs.Back.{wanted}
use Rattle.pl_form.specs.Parts as parts
use Rattle.pl_form.specs.Parts.{Original, old_names, extension, whole_extension, library_plan, program_plan, program_sections, program_segments, program_dynamic, with_entries}
use Rattle.pl_form.specs.declared.section_names.TheConstants.{LIBSTR_NAME, LIBLIST_NAME, CONFLICT_NAME}
use Rattle.pl_form.specs.declared.parts.Extension.{Extension}
use Rattle.pl_form.specs.declared.parts.FormPlan.{FormPlan}
use Rattle.pl_form.specs.Extending as extending
use Rattle.pl_form.specs.Extending.{AreShort, IsExtended, split_segments, all_sections, new_sections, program_table}
use Rattle.pl_form.specs.Faults.{cut_of}
use Rattle.pl_form.specs.Originals.{original}
use Rattle.pl_form.specs.Tables.{plan_of, tables_of}
use Rattle.pl_form.specs.declared.parts.FormTables.{FormTables}
use Rattle.pl_form.specs.declared.parts.Listed.{Listed}
use Rattle.pl_form.specs.declared.layout.Layout.{Layout}
use Rattle.pl_form.specs.declared.program.Last.{Last}
use Rattle.pl_form.proofs.ProgramLaws.{segments_are, sections_are, low_files, low_sections}
use Rattle.pl_form.proofs.ProgramLengthLaws.{extension_short, whole_short}

-- what is inserted is short
pub block_small : (bytes : List ℕ) (x : Object) (l : Layout) (last : Last) (flat block : List ℕ) (e : Extension) → IsExtended bytes x l last → length flat ≡ wanted l.spots → AreShort e → block ≡ extension last.segment l.spots flat e → length block < 2 ^ 31
block_small bytes x l last flat block e is filled short same = omega (arith, ap length same, extension_short last.segment l.spots flat e filled is.hidden, is.short.zeros, short)

-- the section header table
sections_whole : (bytes : List ℕ) (x : Object) (l : Layout) (last : Last) (cut size : ℕ) (e : Extension) → HasHead bytes x → list_any (section_passes bytes) x.sections ≡ false → length bytes + size < 2 ^ 64
    → all_sections (length (old_names bytes)) x.sections last.segment (record { cut = cut; size = size }) e ≡ program_sections (original bytes l) last.segment cut size e
unfolding program_sections
sections_whole bytes x l last cut size e head low room =
    let f = map (extending.section_shifted_by (record { cut = cut; size = size }) last.segment) in
    let g = map (parts.program_section cut size last.segment) in
    let names : ℕ = length (old_names bytes) in
    let same : sections bytes (header bytes) ≡ x.sections = ap (sections bytes) head.header ∙ head.sections in
    ap (λ (xs : List Section). xs ++ new_sections last.segment e (length x.sections) names) (sections_are cut size (length bytes) last.segment x.sections (low_sections bytes x.sections low) room)
    ∙ ap (λ (n : ℕ). g x.sections ++ new_sections last.segment e n names) (sym (length-map x.sections (parts.program_section cut size last.segment)))
    ∙ ap (λ (ss : List Section). g ss ++ new_sections last.segment e (length (g ss)) names) (sym same)

-- the program header table
segments_whole : (bytes : List ℕ) (x : Object) (l : Layout) (last : Last) (cut size more : ℕ) → HasHead bytes x → IsExtended bytes x l last → length bytes + size < 2 ^ 64
    → split_segments (record { cut = cut; size = size }) more last x.segments ≡ program_segments cut size more last.index (segments bytes (header bytes))
segments_whole bytes x l last cut size more head is room =
    let same : segments bytes (header bytes) ≡ x.segments = ap (segments bytes) head.header ∙ head.segments in
    segments_are cut size more (length bytes) last x.segments is.index is.is (low_files bytes x.segments is.files) room
    ∙ ap (program_segments cut size more last.index) (sym same)

-- what a plan is made of
abbrev pub planned_of : ℕ → List ℕ → List Segment → List ℕ → List (List ℕ) → List Section → List ℕ → FormPlan
planned_of cut more segments dynamic parts sections names = record { slot = 0; cut = cut; more = more; segments = segments; dynamic = dynamic; parts = parts; sections = sections; names = names }

same_plan : (cut : ℕ) (m n d e s t : List ℕ) (ps : List (List ℕ)) (ss ts : List Segment) (xs ys : List Section) → m ≡ n → ss ≡ ts → d ≡ e → ps ≡ [] → xs ≡ ys → s ≡ t → planned_of cut m ss d ps xs s ≡ planned_of cut n ts e [] ys t
same_plan cut m n d e s t ps ss ts xs ys a b f k g h = rw (a, b, f, k, g, h) refl

dynamic_is : (bytes : List ℕ) (l : Layout) (last : Last) (e : Extension) (table dynamic : List ℕ) → table ≡ within l.dynamic bytes → dynamic ≡ program_table last.segment e l.tags table → dynamic ≡ program_dynamic (original bytes l) last.segment e
unfolding program_dynamic with_entries
dynamic_is bytes l last e table dynamic is made = made ∙ ap (program_table last.segment e l.tags) is

pub plan_is : (bytes : List ℕ) (x : Object) (l : Layout) (last : Last) (flat block more table dynamic names : List ℕ) (ps : List (List ℕ)) (ss : List Segment) (xs : List Section) (e : Extension) (size count told : ℕ) → HasHead bytes x → length bytes + 100 < 2 ^ 32 → IsExtended bytes x l last → length flat ≡ wanted l.spots
    → AreShort e → block ≡ extension last.segment l.spots flat e → more ≡ whole_extension block → size ≡ length more → count ≡ length block → told ≡ length (old_names bytes)
    → ss ≡ split_segments (record { cut = cut_of last.segment; size = size }) count last x.segments
    → xs ≡ all_sections told x.sections last.segment (record { cut = cut_of last.segment; size = size }) e
    → table ≡ within l.dynamic bytes → dynamic ≡ program_table last.segment e l.tags table → ps ≡ [] → names ≡ LIBSTR_NAME ++ (LIBLIST_NAME ++ CONFLICT_NAME)
    → planned_of (cut_of last.segment) more ss dynamic ps xs names ≡ program_plan (original bytes l) last.index last.segment flat e
unfolding program_plan
plan_is bytes x l last flat block more table dynamic names ps ss xs e size count told head few is filled short b m sized counted toldness segs secs t dyn none named =
    let cut = cut_of last.segment in
    let small = block_small bytes x l last flat block e is filled short b in
    let room : length bytes + size < 2 ^ 64 = omega (arith, few, small, sized, ap length m, whole_short block) in
    let block_is : List ℕ = extension last.segment l.spots flat e in
    let more_is : more ≡ whole_extension block_is = m ∙ ap whole_extension b in
    let size_is : size ≡ length (whole_extension block_is) = sized ∙ ap length more_is in
    let count_is : count ≡ length block_is = counted ∙ ap length b in
    same_plan cut more (whole_extension block_is) dynamic (program_dynamic (original bytes l) last.segment e) names (LIBSTR_NAME ++ (LIBLIST_NAME ++ CONFLICT_NAME)) ps ss
    (program_segments cut (length (whole_extension block_is)) (length block_is) last.index (segments bytes (header bytes))) xs (program_sections (original bytes l) last.segment cut (length (whole_extension block_is)) e)
    more_is
    (segs ∙ segments_whole bytes x l last cut size count head is room ∙ ap (λ (n : ℕ). program_segments cut n count last.index (segments bytes (header bytes))) size_is
    ∙ ap (λ (n : ℕ). program_segments cut (length (whole_extension block_is)) n last.index (segments bytes (header bytes))) count_is)
    (dynamic_is bytes l last e table dynamic t dyn)
    none
    (secs ∙ ap (λ (n : ℕ). all_sections n x.sections last.segment (record { cut = cut; size = size }) e) toldness
    ∙ sections_whole bytes x l last cut size e head is.sections room ∙ ap (λ (n : ℕ). program_sections (original bytes l) last.segment cut n e) size_is)
    named

-- ---- the same by its tables

abbrev pub tables_with : List Segment → List ℕ → List Section → List ℕ → FormTables
tables_with ss dynamic sections names = record { segments = ss; dynamic = dynamic; sections = sections; names = names }

pub same_tables : (ss ts : List Segment) (d e : List ℕ) (xs ys : List Section) (s t : List ℕ) → ss ≡ ts → d ≡ e → xs ≡ ys → s ≡ t → tables_with ss d xs s ≡ tables_with ts e ys t
same_tables ss ts d e xs ys s t a b k g = rw (a, b, k, g) refl

pub library_plan_is : (o : Original) (slot stamp checksum cut : ℕ) (l : Listed) (more : List ℕ) (t : FormTables) (ps : List (List ℕ)) → cut ≡ length o.bytes → more ≡ [] → t ≡ tables_of (library_plan o slot stamp checksum l) → ps ≡ l.strings ∷ l.rows ∷ []
    → plan_of slot cut more t ps ≡ library_plan o slot stamp checksum l
unfolding library_plan
library_plan_is o slot stamp checksum cut l more t ps a b d e =
    ap (λ (n : ℕ). plan_of slot n more t ps) a
    ∙ ap (λ (m : List ℕ). plan_of slot (length o.bytes) m t ps) b
    ∙ ap (λ (u : FormTables). plan_of slot (length o.bytes) [] u ps) d
    ∙ ap (plan_of slot (length o.bytes) [] (tables_of (library_plan o slot stamp checksum l))) e
