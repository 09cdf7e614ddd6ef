-- A form of either kind by its plan: the name of its undo section, and its program headers.
use Rattle.std.proofs.Common.{◌≡◌, ℕ, zero, suc, ◌+◌, ◌-◌, ◌*◌, ◌^◌, ◌<◌, ◌≤◌, true, List, [], ◌∷◌, ◌++◌, length, get_or, drop, Some, refl, sym, ap, subst, ◌∙◌, append_assoc, arith, inl, inr}
use Rattle.std.specs.Prelude.{◌&&◌, map, nat_le, nat_lt, nat_eq}
use Rattle.std.specs.List.{All, AllZip, starts_with}
use Rattle.std.proofs.lemmas.Bool.{cases_Bool, eqb-true, true≢false}
use Rattle.std.proofs.lemmas.List.{length-append, drop_at, get_or-append-add}
use Rattle.std.proofs.lemmas.List.Elements.{All-head, All-tail}
use Rattle.std.proofs.lemmas.List.Folds.{list_any_at}
use Rattle.std.proofs.lemmas.List.FromFn.{get_or-map-range_with_len}
use Rattle.pl_base.specs.Bytes.{part}
use Rattle.pl_elf.specs.Clauses.{names, section_data}
use Rattle.pl_elf.specs.Headers.{header, is_load, is_moved_kind, loads, section, section_at, sections}
use Rattle.pl_elf.specs.Written.{section_header_bytes}
use Rattle.pl_elf.specs.declared.header.Header.{Header}
use Rattle.pl_elf.specs.declared.section.Section.{Section}
use Rattle.pl_elf.specs.declared.segment.Segment.{Segment}
use Rattle.pl_elf.proofs.AcceptedLaws.{LoadFits, loads_fit}
use Rattle.pl_elf.proofs.WrittenLaws.{section_read}
use Rattle.pl_object.specs.PlaceClauses.{last_load}
use Rattle.pl_object.specs.Reads.{span}
use Rattle.pl_object.proofs.AcceptedLaws.{accepted}
use Rattle.pl_object.proofs.SpanLaws.{Ends, span_ends}
use Rattle.pl_form.specs.Back.{undo_section}
use Rattle.pl_form.specs.Fits.{Fits}
use Rattle.pl_form.specs.Forms.{undo_part, planned, original_of}
use Rattle.pl_form.specs.Found.{ss_of, secs_of}
use Rattle.pl_form.specs.PartLaws.{HasTable}
use Rattle.pl_form.specs.Parts.{Original, old_names, names_part, table_at, table_rows, undo_row, names_row, new_header, form, moved_segment, extended_segment, shifted_segment, program_segments, extension, library_plan, program_plan}
use Rattle.pl_form.specs.declared.section_names.TheConstants.{UNDO_NAME, NAMES_NAME}
use Rattle.pl_form.specs.declared.parts.FormPlan.{FormPlan}
use Rattle.pl_form.proofs.AcceptedIs.{segments_are}
use Rattle.pl_form.proofs.FinalTheorem.{library_conditions, program_conditions}
use Rattle.pl_form.proofs.FormLaws.{form_header, names_there, row_there, undo_section_is}
use Rattle.pl_form.proofs.FormTheorem.{all_small}
use Rattle.pl_form.proofs.HeadLaws.{section_part as section_by_part}
use Rattle.pl_form.proofs.KindLaws.{grown_segment, section_count, segment_count}
use Rattle.pl_form.proofs.LoadFacts.{last_is}
use Rattle.pl_form.proofs.StandLaws.{program_grows}
use Rattle.pl_form.proofs.TableLaws.{libraries_are_moved, programs_are_extended}
use Rattle.pl_form.proofs.WholeTheorem.{library_is, program_is}
use Rattle.pl_form.specs.Files.{IsBorne, BearsSegments}
use Rattle.pl_form.specs.Marks.{has_undo_name, is_undo_name, IsFormOf, IsLibraryMark, IsProgramMark}
use Rattle.pl_form.specs.Program.{last_index}
use Rattle.pl_form.specs.Words.{listed, extension_of, checksum_of, digest_in}
use Rattle.pl_form.specs.declared.file.Marked.{Marked}
use Rattle.pl_form.proofs.CompleteLaws.{library_file, library_forms, program_file, program_forms, with_last}

-- ---- the section of section names

names_row_is : (p : FormPlan) (o : Original) (undo : ℕ) (d : Section) → get_or (table_rows p o.bytes undo) (length p.sections + 1) d ≡ names_row p o.bytes undo
names_row_is p o undo d = get_or-append-add p.sections (undo_row p o.bytes undo ∷ names_row p o.bytes undo ∷ []) 1 d

names_section : (p : FormPlan) (o : Original) (flat undo : List ℕ) → Fits p o flat (length undo) → section (form p o flat undo) (header (form p o flat undo)) (header (form p o flat undo)).shstrndx ≡ names_row p o.bytes (length undo)
unfolding new_header
names_section p o flat undo fits =
    let u = length undo in
    let file = form p o flat undo in
    let row = names_row p o.bytes u in
    let lt : length p.sections + 1 < length (table_rows p o.bytes u) = omega (arith, length-append p.sections (undo_row p o.bytes u ∷ row ∷ [])) in
    let there : part (table_at p o.bytes u + 64 * (length p.sections + 1)) 64 file ≡ section_header_bytes row = row_there p o flat undo fits (length p.sections + 1) row lt ∙ ap section_header_bytes (names_row_is p o u row) in
    let old = length (old_names o.bytes) in
    let n : length (names_part p o.bytes) ≡ old + (length p.names + 28) = length-append (old_names o.bytes) _ ∙ ap (λ (k : ℕ). old + k) (length-append p.names _) in
    ap (λ (h : Header). section file h h.shstrndx) (form_header p o flat undo fits)
    ∙ sym (section_by_part (table_at p o.bytes u + 64 * (length p.sections + 1)) file)
    ∙ ap (λ (xs : List ℕ). section_at xs 0) there
    ∙ section_read row (omega (arith, n, fits.small)) (omega arith) (omega arith) (omega arith) (omega (arith, fits.small)) (omega (arith, n, fits.small)) (omega arith) (omega arith) (omega arith) (omega arith)

names_are : (p : FormPlan) (o : Original) (flat undo : List ℕ) → Fits p o flat (length undo) → names (form p o flat undo) (header (form p o flat undo)) ≡ names_part p o.bytes
unfolding section_data
names_are p o flat undo fits = ap (λ (s : Section). section_data (form p o flat undo) s) (names_section p o flat undo fits) ∙ names_there p o flat undo fits

-- the undo section has its name
name_there : (p : FormPlan) (o : Original) → drop (length (old_names o.bytes) + length p.names) (names_part p o.bytes) ≡ UNDO_NAME ++ NAMES_NAME
name_there p o =
    let front : List ℕ = old_names o.bytes ++ p.names in
    ap (drop (length (old_names o.bytes) + length p.names)) (sym (append_assoc (old_names o.bytes) p.names (UNDO_NAME ++ NAMES_NAME)))
    ∙ drop_at front (UNDO_NAME ++ NAMES_NAME) (length (old_names o.bytes) + length p.names) (length-append (old_names o.bytes) p.names)

row_named : (p : FormPlan) (o : Original) (undo : ℕ) → is_undo_name (names_part p o.bytes) (undo_row p o.bytes undo) ≡ true
row_named p o undo = ap (λ (xs : List ℕ). starts_with nat_eq xs UNDO_NAME) (name_there p o)

plan_named : (p : FormPlan) (o : Original) (flat undo : List ℕ) → Fits p o flat (length undo) → has_undo_name (form p o flat undo) ≡ true
unfolding has_undo_name sections new_header
plan_named p o flat undo fits =
    let file = form p o flat undo in
    let h = header file in
    let d : Section = undo_row p o.bytes (length undo) in
    let rows : h.shnum ≡ length p.sections + 2 = ap (λ (g : Header). g.shnum) (form_header p o flat undo fits) in
    let lt : h.shnum - 2 < h.shnum = omega (arith, rows) in
    let at : get_or (secs_of file) (h.shnum - 2) d ≡ undo_section file = get_or-map-range_with_len (section file h) 0 h.shnum (h.shnum - 2) (h.shnum - 2) d lt (omega arith) in
    let is : get_or (secs_of file) (h.shnum - 2) d ≡ d = at ∙ undo_section_is p o flat undo fits in
    let name : is_undo_name (names file h) (get_or (secs_of file) (h.shnum - 2) d) ≡ true =
    ap (λ (s : Section). is_undo_name (names file h) s) is ∙ ap (λ (ns : List ℕ). is_undo_name ns d) (names_are p o flat undo fits) ∙ row_named p o (length undo) in
    list_any_at (is_undo_name (names file h)) (secs_of file) (h.shnum - 2) d (omega (arith, lt, section_count file h)) name

-- ---- segments

moved_load : (s : Segment) → is_load s ≡ true → is_moved_kind s.kind ≡ true
unfolding is_moved_kind
moved_load s load = let kind : s.kind ≡ 1 = eqb-true s.kind 1 load in rw kind refl

one_moved : (slot span : ℕ) (s : Segment) → slot + span ≤ 2 ^ 47 → (is_load s ≡ true → s.vaddr + s.memsz ≤ span) → IsBorne slot s (moved_segment slot s)
one_moved slot span s le ends = elim (cases_Bool (is_moved_kind s.kind)) [
  | inl hit ↦ rw hit (record {
    load = refl;
    start = λ load. (let most = ends load in omega (arith, le, most));
    size = λ load. omega arith;
    end = λ load. (let most = ends load in omega (arith, le, most));
  })
  | inr miss ↦ rw miss (record {
    load = refl;
    start = λ load. absurd (true≢false (sym (moved_load s load) ∙ miss));
    size = λ load. omega arith;
    end = λ load. absurd (true≢false (sym (moved_load s load) ∙ miss));
  })
]

-- of what holds of all PT_LOADs
first_load : (P : Segment → Type 0) (s : Segment) (ss : List Segment) → All P (loads (s ∷ ss)) → is_load s ≡ true → P s
first_load P s ss all load = All-head P s (loads ss) (rw load at all)

later_loads : (P : Segment → Type 0) (s : Segment) (ss : List Segment) → All P (loads (s ∷ ss)) → All P (loads ss)
later_loads P s ss all = elim (cases_Bool (is_load s)) [
  | inl hit ↦ All-tail P s (loads ss) (rw hit at all)
  | inr miss ↦ rw miss at all
]

moved_borne : (slot span : ℕ) (ss : List Segment) → slot + span ≤ 2 ^ 47 → All (Ends span) (loads ss) → AllZip (IsBorne slot) ss (map (moved_segment slot) ss)
moved_borne slot span [] le ends = tt
moved_borne slot span (s ∷ ss) le ends = (one_moved slot span s le (first_load (Ends span) s ss ends), moved_borne slot span ss le (later_loads (Ends span) s ss ends))

one_shifted : (cut shift : ℕ) (s : Segment) → (is_load s ≡ true → LoadFits s) → IsBorne 0 s (shifted_segment cut shift s)
one_shifted cut shift s fits = elim (cases_Bool (nat_lt 0 s.filesz && nat_le cut s.offset)) [
  | inl hit ↦ rw hit (record { load = refl; start = λ load. omega arith; size = λ load. omega arith; end = λ load. (let most = (fits load).ends in omega (arith, most)) })
  | inr miss ↦ rw miss (record { load = refl; start = λ load. omega arith; size = λ load. omega arith; end = λ load. (let most = (fits load).ends in omega (arith, most)) })
]

shifted_borne : (cut shift : ℕ) (ss : List Segment) → All LoadFits (loads ss) → AllZip (IsBorne 0) ss (map (shifted_segment cut shift) ss)
shifted_borne cut shift [] fits = tt
shifted_borne cut shift (s ∷ ss) fits = (one_shifted cut shift s (first_load LoadFits s ss fits), shifted_borne cut shift ss (later_loads LoadFits s ss fits))

fits_at : (ss : List Segment) (i : ℕ) (d : Segment) → All LoadFits (loads ss) → i < length ss → is_load (get_or ss i d) ≡ true → LoadFits (get_or ss i d)
fits_at [] i d all lt load = absurd (omega (arith, lt))
fits_at (s ∷ ss) zero d all lt load = first_load LoadFits s ss all load
fits_at (s ∷ ss) (suc i) d all lt load = fits_at ss i d (later_loads LoadFits s ss all) (omega (arith, lt)) load

-- the segment that grows has at least its addresses, and ends below 2^64
record Grows (more : ℕ) (s : Segment) : Type 0 where
  size : s.memsz ≤ s.filesz + more
  end : s.vaddr + (s.filesz + more) < 2 ^ 64

extended_borne : (cut shift more index : ℕ) (ss : List Segment) (d : Segment) → index < length ss → All LoadFits (loads ss) → Grows more (get_or ss index d) → AllZip (IsBorne 0) ss (program_segments cut shift more index ss)
extended_borne cut shift more index [] d lt fits grows = tt
extended_borne cut shift more zero (s ∷ ss) d lt fits grows =
    (record { load = refl; start = λ load. omega arith; size = λ load. grows.size; end = λ load. grows.end }, shifted_borne cut shift ss (later_loads LoadFits s ss fits))
extended_borne cut shift more (suc index) (s ∷ ss) d lt fits grows = (one_shifted cut shift s (first_load LoadFits s ss fits), extended_borne cut shift more index ss d (omega (arith, lt)) (later_loads LoadFits s ss fits) grows)

-- ---- a form by its plan

pub record IsPlanned (file : List ℕ) (m : Marked) : Type 0 where
  pub plan : FormPlan
  pub flat : List ℕ
  pub undo : List ℕ
  pub fits : Fits plan (original_of m.original) flat (length undo)
  pub is : file ≡ form plan (original_of m.original) flat undo
  pub table : HasTable file plan.segments
  pub borne : AllZip (IsBorne m.slot) m.object.segments plan.segments

library_borne : (file : List ℕ) (m : Marked) → IsFormOf file m → IsLibraryMark m → AllZip (IsBorne m.slot) m.object.segments (map (moved_segment m.slot) (ss_of m.original))
library_borne file m f is =
    let acc = accepted m.original m.object f.firm.accepted in
    let below : m.slot + span m.object.segments ≤ 2 ^ 47 = subst (λ (n : ℕ). m.slot + n ≤ 2 ^ 47) acc.span is.below in
    subst (λ (ss : List Segment). AllZip (IsBorne m.slot) m.object.segments (map (moved_segment m.slot) ss)) (segments_are m.original m.object acc)
    (moved_borne m.slot (span m.object.segments) m.object.segments below (span_ends m.object.segments acc.loads))

library_planned : (file : List ℕ) (m : Marked) → IsFormOf file m → IsLibraryMark m → IsPlanned file m
unfolding planned library_plan
library_planned file m f is =
    let o = m.original in
    let digest = digest_in m.version o in
    let p = library_plan (original_of o) m.slot m.stamp (checksum_of o) (listed m.list) in
    let made = library_forms file m f is in
    let same = library_file file m f is in
    let c = library_conditions o m.object m.slot m.stamp (checksum_of o) (listed m.list) f.flat digest made in
    record {
      plan = p;
      flat = f.flat;
      undo = undo_part p (original_of o) digest;
      fits = (library_is o m.slot m.stamp (checksum_of o) (listed m.list) f.flat digest c).fits;
      is = same;
      table = subst (λ (xs : List ℕ). HasTable xs p.segments) (sym same) (libraries_are_moved o m.object m.slot m.stamp (checksum_of o) (listed m.list) f.flat digest made);
      borne = library_borne file m f is;
    }

program_planned : (file : List ℕ) (m : Marked) → IsFormOf file m → (last : Segment) → IsProgramMark m → last_load (ss_of m.original) ≡ Some last → IsPlanned file m
unfolding planned program_plan
program_planned file m f last is at =
    let o = m.original in
    let org = original_of o in
    let ss = ss_of o in
    let index = last_index ss in
    let e = extension_of o m.list m.conflicts in
    let digest = digest_in m.version o in
    let p = program_plan org index last f.flat e in
    let block = extension last org.spots f.flat e in
    let made = program_forms file m f last is at in
    let same = program_file file m f last is at in
    let c = program_conditions o m.object index last e f.flat digest made in
    let fits = (program_is o index last e f.flat digest c).fits in
    let acc = accepted o m.object f.firm.accepted in
    let own = segments_are o m.object acc in
    let all : All LoadFits (loads ss) = subst (λ (xs : List Segment). All LoadFits (loads xs)) own (loads_fit (loads m.object.segments) acc.loads.fit) in
    let lt : index < length ss = omega (arith, c.program.last_in, segment_count o (header o)) in
    let grown = program_grows o m.object index last e f.flat digest last made in
    let borne : get_or p.segments index last ≡ extended_segment (length block) (get_or ss index last) = grown_segment p.cut (length p.more) (length block) index ss last lt in
    let here : get_or ss index last ≡ last = c.program.is_last last in
    let size : (get_or p.segments index last).filesz ≡ last.filesz + length block = ap (λ (s : Segment). s.filesz) borne ∙ ap (λ (s : Segment). s.filesz + length block) here in
    let small = all_small p org f.flat (length (undo_part p org digest)) fits in
    let limit : last.vaddr + last.memsz ≤ 2 ^ 47 = subst (λ (s : Segment). s.vaddr + s.memsz ≤ 2 ^ 47) here (fits_at ss index last all lt (rw here (last_is ss last at).load)).ends in
    let grows : Grows (length block) last = record { size = omega (arith, size, grown.room); end = omega (arith, size, grown.more, small, c.program.cut, limit) } in
    record {
      plan = p;
      flat = f.flat;
      undo = undo_part p org digest;
      fits = fits;
      is = same;
      table = subst (λ (xs : List ℕ). HasTable xs p.segments) (sym same) (programs_are_extended o m.object index last e f.flat digest made);
      borne = subst (λ (n : ℕ). AllZip (IsBorne n) m.object.segments p.segments) (sym is.slot)
          (subst (λ (xs : List Segment). AllZip (IsBorne 0) xs p.segments) (sym own) (extended_borne p.cut (length p.more) (length block) index ss last lt all (subst (Grows (length block)) (sym here) grows)));
    }

pub form_planned : (file : List ℕ) (m : Marked) → IsFormOf file m → IsPlanned file m
form_planned file m f = elim f.mark [
  | inl is ↦ library_planned file m f is
  | inr is ↦ with_last file m f (IsPlanned file m) (λ last at. program_planned file m f last is at)
]

-- ---- what is said of a form

pub undo_named : (file : List ℕ) (m : Marked) → IsFormOf file m → has_undo_name file ≡ true
undo_named file m f =
    let by = form_planned file m f in
    ap has_undo_name by.is ∙ plan_named by.plan (original_of m.original) by.flat by.undo by.fits

pub forms_bear : (file : List ℕ) (m : Marked) → IsFormOf file m → BearsSegments file m
forms_bear file m f =
    let by = form_planned file m f in
    record { table = by.table.inside; each = subst (λ (ss : List Segment). AllZip (IsBorne m.slot) m.object.segments ss) (sym by.table.are) by.borne }
