-- What an accepted original that has a form, with its layout, gives to the code that writes the form.
use Rattle.std.proofs.Common.{◌≡◌, ℕ, ◌+◌, ◌-◌, ◌*◌, ◌%◌, ◌^◌, ◌<◌, ◌≤◌, Bool, true, false, List, [], ◌∷◌, ◌++◌, length, get_or, Option, Some, None, Result, Ok, refl, sym, ap, subst, ◌∙◌, arith}
use Rattle.std.specs.Prelude.{◌&&◌, ◌||◌, ◌==◌, not, nat_lt, nat_le}
use Rattle.std.specs.List.{list_any}
use Rattle.std.specs.Result.{is_ok}
use Rattle.std.proofs.lemmas.Bool.{or_parts, leb-false, ltb-false, true≢false}
use Rattle.pl_base.proofs.AnswerLaws.{refuse_none}
use Rattle.pl_base.proofs.WindowLaws.{all_in}
use Rattle.pl_base.specs.Bytes.{word32}
use Rattle.pl_base.specs.Windows.{Window, AllIn, IsIn, within}
use Rattle.pl_base.specs.Strings.{has_end}
use Rattle.pl_elf.specs.Clauses as elf
use Rattle.pl_elf.specs.Clauses.{AreLoads, bad_load, section_passes, segment_passes}
use Rattle.pl_elf.specs.Headers.{header, segments, sections, HasSections, is_load, loads}
use Rattle.pl_elf.specs.Kinds.{is_library, is_program}
use Rattle.pl_elf.specs.declared.fault.HeaderFault.{HeaderFault}
use Rattle.pl_elf.specs.declared.fault.HeaderFault.TheVariants as fault
use Rattle.pl_elf.specs.declared.header.Header.{Header}
use Rattle.pl_elf.specs.declared.section.Section.{Section}
use Rattle.pl_elf.specs.declared.segment.Segment.{Segment}
use Rattle.pl_elf.proofs.AcceptedLaws.{load_fits}
use Rattle.pl_dyn.specs.Entries.{tags}
use Rattle.pl_lists.specs.Conflicts.{conflicts_bytes}
use Rattle.pl_lists.specs.Lists.{list_strings, list_bytes}
use Rattle.pl_lists.specs.declared.conflict_row.ConflictRow.{ConflictRow}
use Rattle.pl_lists.specs.declared.list_row.ListRow.{ListRow}
use Rattle.sha2.specs.Sha256.{sha256}
use Rattle.pl_object.specs.FilePart.{file_window, loaded}
use Rattle.pl_object.specs.Named as named
use Rattle.pl_object.specs.Tables.{dynamic_memory, strings_memory}
use Rattle.pl_object.specs.Accepted.{HasHead}
use Rattle.pl_object.specs.PlaceClauses.{last_load}
use Rattle.pl_object.specs.Reads.{reads}
use Rattle.pl_object.specs.declared.object.Object.{Object}
use Rattle.pl_object.proofs.AcceptedLaws.{read_holds, accepted}
use Rattle.pl_form.proofs.AcceptedIs.{segments_are}
use Rattle.pl_form.proofs.FinalTheorem.{inside, library_conditions, program_conditions}
use Rattle.pl_form.proofs.KindLaws.{segment_count, section_count, library_fits, program_fits}
use Rattle.pl_form.proofs.LoadFacts.{last_is}
use Rattle.pl_form.proofs.PlaceByteLaws.{none_of_loads, not_any_at}
use Rattle.pl_form.proofs.ReaderLaws.{readable}
use Rattle.pl_form.proofs.WholeTheorem.{taken}
use Rattle.pl_form.specs.Back.{head_windows, wanted}
use Rattle.pl_form.specs.Fits.{Fits}
use Rattle.pl_form.specs.Forms as forms
use Rattle.pl_form.specs.Forms.{original_of, undo_part, planned}
use Rattle.pl_form.specs.Found.{ss_of, d_of, ps_of, tags_of}
use Rattle.pl_form.specs.PartLaws.{IsDigest}
use Rattle.pl_form.specs.Loads.{hidden_windows}
use Rattle.pl_form.specs.Parts.{Original, form, library_plan, program_plan}
use Rattle.pl_form.specs.declared.parts.Extension.{Extension}
use Rattle.pl_form.specs.declared.parts.Listed.{Listed}
use Rattle.pl_form.specs.declared.parts.FormPlan.{FormPlan}
use Rattle.pl_form.specs.declared.parts.Spot.{Spot}
use Rattle.pl_form.specs.Extending.{IsShort, HasNames, IsExtended}
use Rattle.pl_form.specs.Faults.{IsFirm}
use Rattle.pl_form.specs.Library.{IsMovable, library_with}
use Rattle.pl_form.specs.Originals.{original}
use Rattle.pl_form.specs.Program.{last_index, with_index, find_last, extended, extended_at}
use Rattle.pl_form.specs.Words.{kept_digest, digest_in, listed, checksum_of, strings_of, extension_of}
use Rattle.pl_form.specs.declared.layout.Layout.{Layout}
use Rattle.pl_form.specs.declared.program.Last.{Last}
use Rattle.pl_form.specs.declared.version.Version.{Version}
use Rattle.pl_form.specs.declared.version.Version.TheVariants.{One, Two}
use Rattle.pl_form.proofs.FirmLaws.{library_spare, program_spare, last_found, program_untorn}
use Rattle.pl_form.proofs.FormOf.{forms_library, forms_program}
use Rattle.pl_form.proofs.LengthLaws.{accepted_small, original_accepted, library_short}
use Rattle.pl_form.proofs.ProgramLengthLaws.{hidden_inside, program_short}

-- ---- clauses 5 and 7: the file bytes of sections, and the section of section names

abbrev tests : List ℕ → List (Bool × HeaderFault)
tests bytes = (
    (elf.not_elf bytes, fault.NotElf) ∷ (elf.other_class bytes, fault.Class) ∷ (elf.other_machine (header bytes), fault.Machine) ∷ (elf.other_kind bytes (header bytes), fault.Kind)
    ∷ (elf.truncated bytes (header bytes), fault.Truncated) ∷ (elf.bad_segment (header bytes) (segments bytes (header bytes)), fault.BadSegment)
    ∷ (elf.bad_section bytes (header bytes) (sections bytes (header bytes)), fault.BadSection) ∷ (elf.no_sections (header bytes), fault.NoSections) ∷ [])

record HasRows (bytes : List ℕ) : Type 0 where
  few : (header bytes).shnum ≤ 65000
  sections : list_any (section_passes bytes) (sections bytes (header bytes)) ≡ false
  names : (header bytes).shstrndx < (header bytes).shnum

index_by : (count index : ℕ) (a b d : Bool) → (not (count == 0) && (a || b || nat_le count index || d)) ≡ false → (count == 0) ≡ false → index < count
index_by count index a b d e some =
    let p = or_parts (a || b || nat_le count index) d (rw some at e) in
    leb-false count index (or_parts (a || b) (nat_le count index) p.0).1

few_by : (count : ℕ) (a c d : Bool) → (not (count == 0) && (a || nat_lt 65000 count || c || d)) ≡ false → (count == 0) ≡ false → count ≤ 65000
few_by count a c d e some =
    let p = or_parts (a || nat_lt 65000 count || c) d (rw some at e) in
    let q = or_parts (a || nat_lt 65000 count) c p.0 in
    ltb-false 65000 count (or_parts a (nat_lt 65000 count) q.0).1

few_of : (bytes : List ℕ) (h : Header) (ss : List Section) → elf.bad_section bytes h ss ≡ false → (h.shnum == 0) ≡ false → h.shnum ≤ 65000
unfolding elf.bad_section
few_of bytes h ss e some = few_by h.shnum (not (h.shentsize == 64)) (nat_le h.shnum h.shstrndx) (list_any (λ s. not (has_end s.name (elf.names bytes h))) ss) e some

index_of : (bytes : List ℕ) (h : Header) (ss : List Section) → elf.bad_section bytes h ss ≡ false → (h.shnum == 0) ≡ false → h.shstrndx < h.shnum
unfolding elf.bad_section
index_of bytes h ss e some =
    index_by h.shnum h.shstrndx (not (h.shentsize == 64)) (nat_lt 65000 h.shnum) (list_any (λ s. not (has_end s.name (elf.names bytes h))) ss) e some

whole_sections : (bytes : List ℕ) (h : Header) → elf.truncated bytes h ≡ false → list_any (section_passes bytes) (sections bytes h) ≡ false
unfolding elf.truncated
whole_sections bytes h e = (or_parts (elf.passes bytes h.phoff (56 * h.phnum) || elf.passes bytes h.shoff (64 * h.shnum) || list_any (segment_passes bytes (elf.is_static_file bytes h)) (segments bytes h)) _ e).1

rows_read : (bytes : List ℕ) (h : Header) → elf.read bytes ≡ Ok h → HasRows bytes
unfolding elf.read
rows_read bytes h e =
    let none = refuse_none (tests bytes) (Ok (header bytes)) (ap (λ (r : Result Header HeaderFault). is_ok r) e) in
    let p1 = or_parts (elf.not_elf bytes) _ none in
    let p2 = or_parts (elf.other_class bytes) _ p1.1 in
    let p3 = or_parts (elf.other_machine (header bytes)) _ p2.1 in
    let p4 = or_parts (elf.other_kind bytes (header bytes)) _ p3.1 in
    let p5 = or_parts (elf.truncated bytes (header bytes)) _ p4.1 in
    let p6 = or_parts (elf.bad_segment (header bytes) (segments bytes (header bytes))) _ p5.1 in
    let p7 = or_parts (elf.bad_section bytes (header bytes) (sections bytes (header bytes))) _ p6.1 in
    let p8 = or_parts (elf.no_sections (header bytes)) _ p7.1 in
    record { few = few_of bytes (header bytes) (sections bytes (header bytes)) p7.0 p8.0; sections = whole_sections bytes (header bytes) p5.0; names = index_of bytes (header bytes) (sections bytes (header bytes)) p7.0 p8.0 }

has_rows : (o : List ℕ) (x : Object) → reads o ≡ Ok x → HasRows o
has_rows o x e = read_holds (λ (y : Object). HasRows o) o (λ h s. rows_read o h s.read) (λ h d l is. rows_read o h is.read) x e

pub names_ready : (o : List ℕ) (x : Object) → reads o ≡ Ok x → HasNames o
names_ready o x e =
    let head = (accepted o x e).head in
    let fit : HasSections o (header o) = subst (λ (h : Header). HasSections o h) (sym head.header) head.sections_in in
    record { long = head.long; row = omega (arith, fit, (has_rows o x e).names) }

sections_pass : (o : List ℕ) (x : Object) → reads o ≡ Ok x → list_any (section_passes o) x.sections ≡ false
sections_pass o x e =
    let head = (accepted o x e).head in
    subst (λ (ss : List Section). list_any (section_passes o) ss ≡ false) (ap (sections o) head.header ∙ head.sections) (has_rows o x e).sections

pub rows_ready : (o : List ℕ) (x : Object) → reads o ≡ Ok x → length x.sections < 2 ^ 16
rows_ready o x e =
    let head = (accepted o x e).head in
    let same : sections o (header o) ≡ x.sections = ap (sections o) head.header ∙ head.sections in
    omega (arith, ap length same, section_count o (header o), (has_rows o x e).few)

-- ---- every original with its layout

pub record IsReady (o : List ℕ) (x : Object) (l : Layout) : Type 0 where
  pub head : HasHead o x
  pub few : length o + 100 < 2 ^ 32
  pub names : HasNames o
  pub dynamic : IsIn (length o) l.dynamic

dynamic_in : (o : List ℕ) (x : Object) → IsFirm o x → IsIn (length o) (d_of o)
dynamic_in o x firm = (all_in (length o) (head_windows (header o) ++ d_of o ∷ []) (readable o (original_accepted o x firm)).heads_in).1.1.1.0

pub ready : (o : List ℕ) (x : Object) (l : Layout) → IsFirm o x → original o l ≡ original_of o → IsReady o x l
ready o x l firm same =
    let small = accepted_small o x firm.accepted in
    let d : l.dynamic ≡ d_of o = ap (λ (a : Original). a.dynamic) same in
    record {
      head = (accepted o x firm.accepted).head;
      few = omega (arith, small);
      names = names_ready o x firm.accepted;
      dynamic = subst (λ (w : Window). IsIn (length o) w) (sym d) (dynamic_in o x firm);
    }

spare_by : (o : List ℕ) (l : Layout) (more : ℕ) → original o l ≡ original_of o → 16 * length (tags_of o) + more ≤ (d_of o).size → 16 * l.tags + more ≤ l.dynamic.size
spare_by o l more same le =
    let t : l.tags ≡ length (tags_of o) = ap (λ (a : Original). a.tags) same in
    let d : l.dynamic.size ≡ (d_of o).size = ap (λ (a : Original). a.dynamic.size) same in
    omega (arith, t, d, le)

pub movable_ready : (o : List ℕ) (x : Object) (l : Layout) → IsFirm o x → is_library x.kind ≡ true → original o l ≡ original_of o → IsMovable o x l
movable_ready o x l firm library same =
    let r = ready o x l firm same in
    record { few = r.few; rows = rows_ready o x firm.accepted; names = r.names; dynamic = r.dynamic; spare = spare_by o l 32 same (library_spare o x firm library) }

pub digest_ready : (version : Version) (digest : List ℕ) → length digest ≡ 32 → IsDigest (kept_digest version digest)
digest_ready One digest n = tt
digest_ready Two digest n = n

-- ---- a library

pub library_fit : (o : List ℕ) (x : Object) (l : Layout) (slot stamp checksum : ℕ) (listed : Listed) (p : FormPlan) (flat undo : List ℕ) (digest : Option (List ℕ)) → IsFirm o x → is_library x.kind ≡ true → original o l ≡ original_of o
    → p ≡ library_plan (original o l) slot stamp checksum listed → undo ≡ undo_part p (original o l) digest → length flat ≡ wanted (ps_of o) → IsDigest digest → slot < 2 ^ 64 → slot % 2 ≡ 0 → length listed.strings ≤ 2 ^ 30 → length listed.rows ≤ 2 ^ 30
    → Fits p (original o l) flat (length undo)
library_fit o x l slot stamp checksum listed p flat undo digest firm library same plan written filled size below even strings rows =
    let a = original_of o in
    let q = library_plan a slot stamp checksum listed in
    let f = forms_library o x slot stamp checksum listed flat digest firm library filled size below even (library_short o x slot stamp checksum listed digest firm library size strings rows) in
    let is = library_conditions o x slot stamp checksum listed flat digest f in
    let base : Fits q a flat (length (undo_part q a digest)) = library_fits a slot stamp checksum listed flat (length (undo_part q a digest)) (taken o is.accepted is.few) is.spare is.flat_size is.small in
    let p_is : p ≡ q = plan ∙ ap (λ (b : Original). library_plan b slot stamp checksum listed) same in
    let u_is : undo ≡ undo_part q a digest = written ∙ ap (λ (r : FormPlan). undo_part r (original o l) digest) p_is ∙ ap (λ (b : Original). undo_part q b digest) same in
    subst (λ (r : FormPlan). Fits r (original o l) flat (length undo)) (sym p_is) (subst (λ (b : Original). Fits q b flat (length undo)) (sym same) (subst (λ (u : List ℕ). Fits q a flat (length u)) (sym u_is) base))

-- the form, by the plan and the undo section that the code makes
pub library_whole : (o : List ℕ) (l : Layout) (slot stamp checksum : ℕ) (listed : Listed) (p : FormPlan) (flat undo : List ℕ) (digest : Option (List ℕ)) → original o l ≡ original_of o
    → p ≡ library_plan (original o l) slot stamp checksum listed → undo ≡ undo_part p (original o l) digest → form p (original o l) flat undo ≡ forms.form_of_library (original_of o) slot stamp checksum listed flat digest
unfolding planned
library_whole o l slot stamp checksum listed p flat undo digest same plan written =
    ap (form p (original o l) flat) written
    ∙ ap (λ (r : FormPlan). form r (original o l) flat (undo_part r (original o l) digest)) plan
    ∙ ap (λ (b : Original). form (library_plan b slot stamp checksum listed) b flat (undo_part (library_plan b slot stamp checksum listed) b digest)) same

-- ---- a program

segment_there : (i : ℕ) (s : Segment) (last : Last) → record { index = i; segment = s } ≡ last → (s ≡ last.segment) × (last.index ≡ i)
segment_there i s last e = (ap (λ (l : Last). l.segment) e, sym (ap (λ (l : Last). l.index) e))

some_last_is : (x y : Last) → ◌≡◌ {A = Option Last} (Some x) (Some y) → x ≡ y
some_last_is x y e = cc

no_last : (last : Last) → ◌≡◌ {A = Option Last} None (Some last) → ⊥
no_last last e = absurd cc

last_by : (ss : List Segment) (found : Option Segment) (last : Last) → with_index ss found ≡ Some last → (found ≡ Some last.segment) × (last.index ≡ last_index ss)
last_by ss None last e = absurd (no_last last e)
last_by ss (Some s) last e =
    let p = segment_there (last_index ss) s last (some_last_is _ last e) in
    (ap (λ (y : Segment). Some y) p.0, p.1)

pub record IsLastOf (o : List ℕ) (last : Last) : Type 0 where
  pub at : last_load (ss_of o) ≡ Some last.segment
  pub index : last.index ≡ last_index (ss_of o)

pub last_ready : (o : List ℕ) (x : Object) (last : Last) → IsFirm o x → find_last x.segments ≡ Some last → IsLastOf o last
last_ready o x last firm e =
    let same = segments_are o x (accepted o x firm.accepted) in
    let p = last_by (ss_of o) (last_load (ss_of o)) last (subst (λ (ss : List Segment). find_last ss ≡ Some last) same e) in
    record { at = p.0; index = p.1 }

right_of : (a b : Bool) → a ≡ true → (a && b) ≡ false → b ≡ false
right_of true b e h = h
right_of false b e h = absurd (true≢false (sym e))

pub short_ready : (o : List ℕ) (x : Object) (last : Segment) → IsFirm o x → is_program x.kind ≡ true → last_load (ss_of o) ≡ Some last → IsShort last
short_ready o x last firm program at =
    let acc = accepted o x firm.accepted in
    let is = original_accepted o x firm in
    let found = last_found (ss_of o) last at in
    let n : last_index (ss_of o) < (header o).phnum = omega (arith, found.0, segment_count o (header o)) in
    let there : last.offset + last.filesz ≤ length o = subst (λ (s : Segment). s.offset + s.filesz ≤ length o) (found.1 last) (inside o (last_index (ss_of o)) last is n) in
    let fit = subst (λ (ss : List Segment). AreLoads (loads ss)) (segments_are o x acc) acc.loads in
    let good : (is_load last && bad_load last) ≡ false =
    subst (λ (s : Segment). (is_load s && bad_load s) ≡ false) (found.1 last) (not_any_at (λ s. is_load s && bad_load s) (ss_of o) (last_index (ss_of o)) last (none_of_loads bad_load (ss_of o) fit.fit) found.0) in
    let fits = load_fits last (right_of (is_load last) (bad_load last) (last_is (ss_of o) last at).load good) in
    let untorn = program_untorn o x last firm program at in
    record { file = omega (arith, there, firm.few); memory = omega (arith, fits.ends); bytes = fits.bytes; zeros = omega (arith, untorn.zeros) }

pub extended_ready : (o : List ℕ) (x : Object) (l : Layout) (last : Last) → IsFirm o x → is_program x.kind ≡ true → original o l ≡ original_of o → IsLastOf o last → IsExtended o x l last
extended_ready o x l last firm program same is =
    let acc = accepted o x firm.accepted in
    let ss = segments_are o x acc in
    let r = ready o x l firm same in
    let short = short_ready o x last.segment firm program is.at in
    let found = last_found (ss_of o) last.segment is.at in
    let ps : l.spots ≡ ps_of o = ap (λ (a : Original). a.spots) same in
    record {
      short = short;
      index = subst (λ (xs : List Segment). last.index < length xs) (sym ss) (omega (arith, is.index, found.0));
      is = λ d. ap (λ (xs : List Segment). get_or xs last.index d) ss ∙ ap (λ (i : ℕ). get_or (ss_of o) i d) is.index ∙ found.1 d;
      files = (acc.tabled firm.dynamic).files;
      sections = sections_pass o x firm.accepted;
      rows = rows_ready o x firm.accepted;
      names = r.names;
      dynamic = r.dynamic;
      spare = spare_by o l 64 same (program_spare o x firm program);
      hidden = subst (λ (spots : List Spot). AllIn (last.segment.memsz - last.segment.filesz) (hidden_windows spots)) (sym ps) (hidden_inside o x last.segment firm is.at short.bytes);
    }

pub program_fit : (o : List ℕ) (x : Object) (l : Layout) (last : Last) (e : Extension) (p : FormPlan) (flat undo : List ℕ) (digest : Option (List ℕ)) → IsFirm o x → is_program x.kind ≡ true → original o l ≡ original_of o → IsLastOf o last
    → p ≡ program_plan (original o l) last.index last.segment flat e → undo ≡ undo_part p (original o l) digest → length flat ≡ wanted (ps_of o) → IsDigest digest → length e.strings + (length e.rows + length e.conflicts) ≤ 2 ^ 30
    → Fits p (original o l) flat (length undo)
program_fit o x l last e p flat undo digest firm program same at plan written filled size lists =
    let a = original_of o in
    let i = last_index (ss_of o) in
    let q = program_plan a i last.segment flat e in
    let f = forms_program o x last.segment e flat digest firm program at.at filled size (program_short o x last.segment e flat digest firm at.at (short_ready o x last.segment firm program at.at) filled size lists) in
    let is = program_conditions o x i last.segment e flat digest f in
    let base : Fits q a flat (length (undo_part q a digest)) = program_fits a i last.segment e flat (length (undo_part q a digest)) (taken o is.accepted is.few) is.program is.spare is.flat_size is.small in
    let p_is : p ≡ q = plan ∙ ap (λ (b : Original). program_plan b last.index last.segment flat e) same ∙ ap (λ (n : ℕ). program_plan a n last.segment flat e) at.index in
    let u_is : undo ≡ undo_part q a digest = written ∙ ap (λ (r : FormPlan). undo_part r (original o l) digest) p_is ∙ ap (λ (b : Original). undo_part q b digest) same in
    subst (λ (r : FormPlan). Fits r (original o l) flat (length undo)) (sym p_is) (subst (λ (b : Original). Fits q b flat (length undo)) (sym same) (subst (λ (u : List ℕ). Fits q a flat (length u)) (sym u_is) base))

pub program_whole : (o : List ℕ) (l : Layout) (last : Last) (e : Extension) (p : FormPlan) (flat undo : List ℕ) (digest : Option (List ℕ)) → original o l ≡ original_of o → IsLastOf o last
    → p ≡ program_plan (original o l) last.index last.segment flat e → undo ≡ undo_part p (original o l) digest
    → form p (original o l) flat undo ≡ forms.form_of_program (original_of o) (last_index (ss_of o)) last.segment e flat digest
unfolding planned
program_whole o l last e p flat undo digest same at plan written =
    ap (form p (original o l) flat) written
    ∙ ap (λ (r : FormPlan). form r (original o l) flat (undo_part r (original o l) digest)) plan
    ∙ ap (λ (b : Original). form (program_plan b last.index last.segment flat e) b flat (undo_part (program_plan b last.index last.segment flat e) b digest)) same
    ∙ ap (λ (n : ℕ). form (program_plan (original_of o) n last.segment flat e) (original_of o) flat (undo_part (program_plan (original_of o) n last.segment flat e) (original_of o) digest)) at.index

-- ---- what the code of a program answers

none_by : (ss : List Segment) (found : Option Segment) → with_index ss found ≡ None → found ≡ None
none_by ss None e = refl
none_by ss (Some s) e = absurd cc

pub extended_none : (o : List ℕ) (x : Object) (e : Extension) (flat : List ℕ) (version : Version) → IsFirm o x → find_last x.segments ≡ None → extended o e flat version ≡ []
unfolding extended
extended_none o x e flat version firm none =
    let same = segments_are o x (accepted o x firm.accepted) in
    let at : last_load (ss_of o) ≡ None = none_by (ss_of o) (last_load (ss_of o)) (subst (λ (ss : List Segment). find_last ss ≡ None) same none) in
    ap (λ (found : Option Segment). extended_at o found e flat version) at

pub extended_some : (o : List ℕ) (last : Last) (e : Extension) (flat : List ℕ) (version : Version) → IsLastOf o last
    → forms.form_of_program (original_of o) (last_index (ss_of o)) last.segment e flat (digest_in version o) ≡ extended o e flat version
unfolding extended
extended_some o last e flat version is = sym (ap (λ (found : Option Segment). extended_at o found e flat version) is.at)

-- ---- what the code of a library answers

pub library_with_is : (o : List ℕ) (slot stamp checksum : ℕ) (l : Listed) (list : List ListRow) (flat digest : List ℕ) (version : Version) (kept : Option (List ℕ)) → digest ≡ sha256 o → checksum ≡ word32 0 digest → l ≡ listed list → kept ≡ kept_digest version digest
    → forms.form_of_library (original_of o) slot stamp checksum l flat kept ≡ library_with o slot stamp list flat version
unfolding library_with
library_with_is o slot stamp checksum l list flat digest version kept a b e k =
    let sum : checksum ≡ checksum_of o = b ∙ ap (word32 0) a in
    let rest : kept ≡ digest_in version o = k ∙ ap (kept_digest version) a in
    ap (λ (n : ℕ). forms.form_of_library (original_of o) slot stamp n l flat kept) sum
    ∙ ap (λ (m : Listed). forms.form_of_library (original_of o) slot stamp (checksum_of o) m flat kept) e
    ∙ ap (forms.form_of_library (original_of o) slot stamp (checksum_of o) (listed list) flat) rest

-- ---- the strings of a program

strings_ready : (o : List ℕ) (x : Object) → IsFirm o x → named.strings_of x ≡ file_window (ss_of o) (strings_memory (tags_of o))
unfolding loaded
strings_ready o x firm =
    let acc = accepted o x firm.accepted in
    (acc.tabled firm.dynamic).named.strings
    ∙ ap (λ (ss : List Segment). file_window ss (strings_memory (tags (within (file_window ss (dynamic_memory ss)) o)))) (segments_are o x acc)

pub extension_is : (o : List ℕ) (x : Object) (list : List ListRow) (conflicts : List ConflictRow) (w : Window) (before strings rows table : List ℕ) → IsFirm o x → w ≡ named.strings_of x → before ≡ within w o → strings ≡ before ++ list_strings list
    → rows ≡ list_bytes (length before) list → table ≡ conflicts_bytes conflicts → record { strings = strings; rows = rows; conflicts = table } ≡ extension_of o list conflicts
extension_is o x list conflicts w before strings rows table firm a b d e f =
    let old : before ≡ strings_of o = b ∙ ap (λ (v : Window). within v o) (a ∙ strings_ready o x firm) in
    rw (d, e, f, old) refl
