-- The program headers of a form, as they stand in it.
use Rattle.std.proofs.Common.{◌≡◌, ℕ, ◌+◌, ◌<◌, ◌≤◌, List, [], length, get_or, sym, ap, subst, ◌∙◌, arith}
use Rattle.std.specs.Prelude.{map}
use Rattle.std.proofs.lemmas.List.{length-append, length-map, get_or-map}
use Rattle.std.proofs.lemmas.List.FromFn.{fill_by_all}
use Rattle.pl_elf.specs.Headers.{header, segment_at, segment, segments}
use Rattle.pl_elf.specs.declared.header.Header.{Header}
use Rattle.pl_elf.specs.declared.segment.Segment.{Segment}
use Rattle.pl_form.specs.Back.{inserted}
use Rattle.pl_form.specs.Fits.{Fits}
use Rattle.pl_form.specs.Forms.{undo_part, planned, original_of}
use Rattle.pl_form.specs.PartLaws.{HasTable, LibraryFormsAreMoved, ProgramsAreExtended}
use Rattle.pl_form.specs.Parts.{Original, moved_segment, new_header, front_part, form, library_plan, program_plan}
use Rattle.pl_form.specs.declared.parts.FormPlan.{FormPlan}
use Rattle.pl_form.proofs.FinalTheorem.{library_conditions, program_conditions, inside}
use Rattle.pl_form.proofs.FormLaws.{form_header, front_size, form_split, rest_of}
use Rattle.pl_form.proofs.FormTheorem.{own_fits, moved_fits, program_segment_fits}
use Rattle.pl_form.proofs.KindLaws.{IsTaken, segment_count}
use Rattle.pl_form.proofs.LoadLaws.{SegmentFits, segment_there}
use Rattle.pl_form.proofs.PartsLaws.{length-inserted}
use Rattle.pl_form.proofs.WholeTheorem.{taken, library_is, program_is}

-- a form is no shorter than its original
pub no_shorter : (p : FormPlan) (o : Original) (flat undo : List ℕ) → Fits p o flat (length undo) → length o.bytes ≤ length (form p o flat undo)
no_shorter p o flat undo fits =
    let front = front_part p o flat (length undo) in
    let size = front_size p o flat (length undo) fits in
    let whole : length (form p o flat undo) ≡ length (inserted p.cut p.more front) + length (rest_of p o flat undo) =
    ap (λ (xs : List ℕ). length xs) (form_split p o flat undo) ∙ length-append (inserted p.cut p.more front) (rest_of p o flat undo) in
    omega (arith, whole, size, length-inserted p.cut p.more front (omega (arith, size, fits.cut)))

-- the table of a plan, as it stands
pub table_is : (p : FormPlan) (o : Original) (flat undo : List ℕ) → Fits p o flat (length undo) → ((i : ℕ) (d : Segment) → i < length p.segments → SegmentFits (get_or p.segments i d)) → HasTable (form p o flat undo) p.segments
unfolding new_header segments
table_is p o flat undo fits small =
    let file = form p o flat undo in
    let h = form_header p o flat undo fits in
    let d : Segment = segment_at [] 0 in
    let start : (header file).phoff ≡ (header o.bytes).phoff = ap (λ (g : Header). g.phoff) h in
    let rows : (header file).phnum ≡ (header o.bytes).phnum = ap (λ (g : Header). g.phnum) h in
    let count : length p.segments ≡ (header file).phnum = fits.segments ∙ sym rows in
    record {
      inside = omega (arith, start, rows, fits.before, fits.cut, no_shorter p o flat undo fits);
      are = sym (fill_by_all (segment file (header file)) p.segments (header file).phnum d count (λ i lt. sym (segment_there p o flat undo fits i d (omega (arith, lt, count)) (small i d (omega (arith, lt, count))))));
    }

moved_small : (o : Original) (slot i : ℕ) (d : Segment) → IsTaken o → i < length (map (moved_segment slot) (segments o.bytes (header o.bytes))) → SegmentFits (get_or (map (moved_segment slot) (segments o.bytes (header o.bytes))) i d)
moved_small o slot i d is lt =
    let ss = segments o.bytes (header o.bytes) in
    let n : i < length ss = omega (arith, lt, length-map ss (moved_segment slot)) in
    subst SegmentFits (sym (get_or-map (moved_segment slot) ss i d d n)) (moved_fits slot (get_or ss i d) (own_fits o i d is (omega (arith, n, segment_count o.bytes (header o.bytes)))))

pub libraries_are_moved : LibraryFormsAreMoved
unfolding planned library_plan
libraries_are_moved o x slot stamp checksum l flat digest f =
    let c = library_conditions o x slot stamp checksum l flat digest f in
    let a = original_of o in
    let p = library_plan a slot stamp checksum l in
    table_is p a flat (undo_part p a digest) (library_is o slot stamp checksum l flat digest c).fits (λ i d lt. moved_small a slot i d (taken o c.accepted c.few) lt)

pub programs_are_extended : ProgramsAreExtended
unfolding planned
programs_are_extended o x index last e flat digest f =
    let c = program_conditions o x index last e flat digest f in
    let a = original_of o in
    let p = program_plan a index last flat e in
    let fits = (program_is o index last e flat digest c).fits in
    table_is p a flat (undo_part p a digest) fits
    (λ i d lt. let n : i < (header o).phnum = omega (arith, lt, fits.segments) in
    program_segment_fits a index last e flat (length (undo_part p a digest)) i d (taken o c.accepted c.few) c.program fits n (inside o i d c.accepted n))
