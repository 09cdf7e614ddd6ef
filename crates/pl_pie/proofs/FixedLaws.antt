-- No file that `fix` makes is a prelinked one.
use Rattle.std.proofs.Common.{◌≡◌, ℕ, ◌+◌, ◌^◌, ◌<◌, ◌≤◌, List, map, Option, Some, None, Result, Ok, refl, sym, ap, subst, ◌∙◌, arith, inl, inr}
use Rattle.std.specs.Prelude.{◌&&◌}
use Rattle.std.specs.Result.{is_ok}
use Rattle.std.proofs.lemmas.Bool.{eqb-true}
use Rattle.pl_base.proofs.FindLaws.{find_fails}
use Rattle.pl_dyn.specs.declared.dynamic.Dynamic.{Dynamic}
use Rattle.pl_elf.specs.Clauses.{AreLoads, bad_load}
use Rattle.pl_elf.specs.Headers.{header, is_load, loads, segments}
use Rattle.pl_elf.specs.declared.constants.TheConstants.{ADDRESS_LIMIT}
use Rattle.pl_elf.specs.declared.fault.HeaderFault.{HeaderFault}
use Rattle.pl_elf.specs.declared.header.Header.{Header}
use Rattle.pl_elf.specs.declared.segment.Segment.{Segment}
use Rattle.pl_elf.proofs.AcceptedLaws.{load_fits, loads_accepted}
use Rattle.law_fixed.specs.Fixed.{fixed, fixed_header, fixed_segment}
use Rattle.pl_form.specs.Files.{marked_in}
use Rattle.pl_form.specs.Marks.{IsFormOf}
use Rattle.pl_form.specs.Words.{checksum_of, digest_in, extension_of, listed}
use Rattle.pl_form.specs.Program.{last_index}
use Rattle.pl_form.specs.declared.file.Marked.{Marked}
use Rattle.pl_form.proofs.CompleteLaws.{library_file, library_forms, program_file, program_forms, with_last}
use Rattle.pl_form.proofs.FilesLaws.{nothing_else_is_read}
use Rattle.pl_object.specs.Accepted as object
use Rattle.pl_object.specs.FilePart.{loads_byte}
use Rattle.pl_object.specs.Reads.{dynamic}
use Rattle.pl_object.specs.Tables.{dynamic_memory}
use Rattle.pl_object.specs.declared.object.Object.{Object}
use Rattle.pl_object.proofs.TabledLaws.{IsTable, table_is}
use Rattle.pl_form.specs.Forms.{form_of_library, original_of, planned, undo_part}
use Rattle.pl_form.specs.Found.{ss_of}
use Rattle.pl_form.specs.PartLaws.{FormsLibrary}
use Rattle.pl_form.specs.Parts.{library_plan, new_header}
use Rattle.pl_form.specs.declared.parts.Listed.{Listed}
use Rattle.pl_form.proofs.FinalTheorem.{library_conditions}
use Rattle.pl_form.proofs.FormLaws.{form_header}
use Rattle.pl_form.proofs.PlaceByteLaws.{none_of_loads}
use Rattle.pl_form.proofs.WholeTheorem.{library_is}
use Rattle.pl_pie.specs.Fix.{MayBeFixed, fixed_bytes}
use Rattle.pl_pie.specs.Pie.{as_program, pie}
use Rattle.pl_pie.proofs.AtLaws.{dynamic_of, found_is}
use Rattle.pl_pie.proofs.BearLaws.{file_bears}
use Rattle.pl_pie.proofs.DynamicLaws.{dynamic_read}
use Rattle.pl_pie.proofs.HeadAgain.{file_taken, type_is}
use Rattle.pl_pie.proofs.MemoryLaws.{are_standing}
use Rattle.pl_pie.proofs.PieLaws.{IsPie, not_static, pie_is}
use Rattle.pl_pie.proofs.TagLaws.{moved_dynamic}
use Rattle.pl_pie.proofs.ProgramLaws.{not_read}
use Rattle.pl_pie.proofs.StandingLaws.{is_held, right_test}

-- ---- the type

pub library_type : (o : List ℕ) (x : Object) (slot stamp checksum : ℕ) (l : Listed) (flat : List ℕ) (digest : Option (List ℕ)) → FormsLibrary o x slot stamp checksum l flat digest → (header (form_of_library (original_of o) slot stamp checksum l flat digest)).kind ≡ 3
unfolding planned new_header
library_type o x slot stamp checksum l flat digest f =
    let a = original_of o in
    let p = library_plan a slot stamp checksum l in
    let fits = (library_is o slot stamp checksum l flat digest (library_conditions o x slot stamp checksum l flat digest f)).fits in
    ap (λ (h : Header). h.kind) (form_header p a flat (undo_part p a digest) fits) ∙ f.kind

-- ---- a file

module _ (bytes : List ℕ) (o : Object) (at : ℕ) (some : pie bytes ≡ Some o) (may : MayBeFixed o at) where
  abbrev file : List ℕ
  file = fixed_bytes at o bytes

  abbrev program : List ℕ
  program = as_program bytes

  is : IsPie bytes o
  is = pie_is bytes o some

  fixed_type : (header file).kind ≡ 2
  unfolding fixed fixed_header
  fixed_type = ap (λ (h : Header). h.kind) (file_bears at o bytes some).header ∙ eqb-true o.header.kind 2 (type_is program o is.read is.program)

  segments_are : ss_of file ≡ map (fixed_segment at) o.segments
  unfolding fixed
  segments_are = let bears = file_bears at o bytes some in ap (segments file) bears.header ∙ bears.segments

  loads_are : AreLoads (loads (ss_of file))
  unfolding fixed_bytes
  loads_are = loads_accepted file (ap (λ (r : Result Header HeaderFault). is_ok r) (file_taken bytes o at some may.aligned may.ends))

  read_as : (d : Dynamic) × (dynamic file (ss_of file) ≡ Ok d)
  unfolding fixed_bytes
  read_as =
      let other = not_static o.kind is.program in
      let found = found_is program o is.read other in
      let ss : List Segment = o.segments in
      let d : Dynamic = dynamic_of (object.tags_of program o) o in
      let own : IsTable program ss d = table_is program ss d found.table in
      let s : Segment = own.byte.0 in
      let held = is_held ss (dynamic_memory ss) s own.byte.1 own.inside in
      let good = find_fails (loads_byte (dynamic_memory ss).at) (λ (y : Segment). is_load y && bad_load y) ss s own.byte.1 (none_of_loads bad_load ss is.accepted.loads.fit) in
      let fits = load_fits s (right_test (is_load s) (bad_load s) held.load good) in
      let low : (dynamic_memory ss).at < 2 ^ 64 = omega (arith, held.high, fits.bytes, fits.ends) in
      let stands = are_standing at ss is.accepted.loads (subst (λ (n : ℕ). at + n ≤ ADDRESS_LIMIT) is.accepted.span may.ends) in
      (moved_dynamic at d, subst (λ (ys : List Segment). dynamic file ys ≡ Ok (moved_dynamic at d)) (sym segments_are) (dynamic_read at program o is.accepted other stands low d found.table))

  no_form : (m : Marked) → IsFormOf file m → ⊥
  no_form m form = elim form.mark [
    | inl library ↦
        let same = library_file file m form library in
        let kind = library_type m.original m.object m.slot m.stamp (checksum_of m.original) (listed m.list) form.flat (digest_in m.version m.original) (library_forms file m form library) in
        let three : (header file).kind ≡ 3 = ap (λ (xs : List ℕ). (header xs).kind) same ∙ kind in
        omega (arith, three, fixed_type)
    | inr own ↦ with_last file m form ⊥ (λ last at_last.
        let same = program_file file m form last own at_last in
        let forms = program_forms file m form last own at_last in
        not_read m.original m.object (last_index (ss_of m.original)) last (extension_of m.original m.list m.conflicts) form.flat (digest_in m.version m.original) forms read_as.0
        (subst (λ (xs : List ℕ). AreLoads (loads (ss_of xs))) same loads_are)
        (subst (λ (xs : List ℕ). dynamic xs (ss_of xs) ≡ Ok read_as.0) same read_as.1))
  ]

none_by : (xs : List ℕ) (found : Option Marked) → marked_in xs ≡ found → ((m : Marked) → IsFormOf xs m → ⊥) → found ≡ None
none_by xs None e none = refl
none_by xs (Some m) e none = absurd (none m (nothing_else_is_read xs m e))

pub no_mark : (xs : List ℕ) → ((m : Marked) → IsFormOf xs m → ⊥) → marked_in xs ≡ None
no_mark xs none = none_by xs (marked_in xs) refl none

pub made_bare : (bytes : List ℕ) (o : Object) (at : ℕ) → pie bytes ≡ Some o → MayBeFixed o at → marked_in (fixed_bytes at o bytes) ≡ None
made_bare bytes o at some may = no_mark (fixed_bytes at o bytes) (no_form bytes o at some may)
