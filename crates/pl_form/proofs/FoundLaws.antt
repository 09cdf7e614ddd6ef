-- What is found in a form by its header: the undo section, the front, and any section.
use Rattle.std.proofs.Common.{◌≡◌, ℕ, ◌+◌, ◌-◌, ◌*◌, ◌^◌, ◌<◌, true, List, [], ◌∷◌, ◌++◌, length, get_or, Option, Some, refl, sym, ap, ◌∙◌, arith}
use Rattle.std.proofs.lemmas.List.{length-append, get_or_append_left}
use Rattle.pl_base.specs.Bytes.{part}
use Rattle.pl_base.proofs.WindowLaws.{all_in}
use Rattle.pl_elf.specs.Headers.{header, section, section_at}
use Rattle.pl_elf.specs.Written.{section_header_bytes}
use Rattle.pl_elf.specs.declared.header.Header.{Header}
use Rattle.pl_elf.specs.declared.section.Section.{Section}
use Rattle.pl_elf.proofs.WrittenLaws.{section_read}
use Rattle.pl_undo.specs.declared.undo.Undo.{Undo}
use Rattle.pl_form.specs.Back.{head_windows, has_undo_section, undo_section, section_part, find_undo, undo_in, front_of, undo_of}
use Rattle.pl_form.specs.Fits.{Fits}
use Rattle.pl_form.specs.Forms.{undo_part, planned}
use Rattle.pl_form.specs.Found.{reader}
use Rattle.pl_form.specs.Parts.{Original, table_at, table_rows, undo_row, names_row, new_header, front_part, form}
use Rattle.pl_form.specs.declared.parts.FormPlan.{FormPlan}
use Rattle.pl_form.proofs.FormLaws.{form_split, rest_of, form_header, front_size, row_there, undo_section_is, undo_there, plan_undone}
use Rattle.pl_form.proofs.FormTheorem.{IsUndoable}
use Rattle.pl_form.proofs.HeadLaws.{section_part as section_by_part}
use Rattle.pl_form.proofs.PartsLaws.{inserted_back}
use Rattle.pl_form.proofs.UndoLaws.{undo_read}

-- what the undo section of a planned form says
abbrev pub undo_by : FormPlan → Original → Option (List ℕ) → Undo
undo_by p o digest = undo_of p.slot p.cut (length p.more) o.dynamic o.spots o.bytes digest

found_by : (file : List ℕ) (u : Undo) → has_undo_section file ≡ true → undo_in (section_part (undo_section file) file) ≡ Some u → find_undo file ≡ Some u
found_by file u two read = rw (two, read) refl

pub undo_found : (p : FormPlan) (o : Original) (flat : List ℕ) (digest : Option (List ℕ)) → IsUndoable reader p o flat digest → find_undo (planned p o flat digest) ≡ Some (undo_by p o digest)
unfolding planned
undo_found p o flat digest is =
    let ins = all_in (length o.bytes) (head_windows (header o.bytes) ++ o.dynamic ∷ []) is.fits.heads_in in
    let read : reader.undo (undo_part p o digest) ≡ Some (undo_by p o digest) =
    is.reads (undo_part p o digest) ∙ undo_read digest o.bytes p.slot p.cut (length p.more) o.dynamic o.spots is.is_digest (ins.0, (ins.1.0, (ins.1.1.0, tt))) is.stored is.few in
    let whole = plan_undone reader p o flat (undo_part p o digest) is.rs digest is.fits is.readable (omega (arith, is.stored.slot_in), is.even) read in
    let file = form p o flat (undo_part p o digest) in
    let there : section_part (undo_section file) file ≡ undo_part p o digest = ap (λ (s : Section). section_part s file) (undo_section_is p o flat (undo_part p o digest) is.fits) ∙ undo_there p o flat (undo_part p o digest) is.fits in
    found_by file (undo_by p o digest) whole.two (ap undo_in there ∙ read)

-- the bytes that stand where the original's stood are the front part
pub front_is : (p : FormPlan) (o : Original) (flat undo : List ℕ) (digest : Option (List ℕ)) → Fits p o flat (length undo) → front_of (undo_by p o digest) (form p o flat undo) ≡ front_part p o flat (length undo)
front_is p o flat undo digest fits =
    ap (front_of (undo_by p o digest)) (form_split p o flat undo)
    ∙ inserted_back p.cut (length p.more) (length o.bytes) p.more (front_part p o flat (length undo)) (rest_of p o flat undo) (front_size p o flat (length undo) fits) fits.cut refl

-- ---- sections

-- the numbers of a section are those of its 64 bytes
pub record SectionFits (s : Section) : Type 0 where
  pub name : s.name < 2 ^ 32
  pub kind : s.kind < 2 ^ 32
  pub flags : s.flags < 2 ^ 64
  pub addr : s.addr < 2 ^ 64
  pub offset : s.offset < 2 ^ 64
  pub size : s.size < 2 ^ 64
  pub link : s.link < 2 ^ 32
  pub info : s.info < 2 ^ 32
  pub align : s.addralign < 2 ^ 64
  pub entsize : s.entsize < 2 ^ 64

-- the section of an index of the new table
pub section_is : (p : FormPlan) (o : Original) (flat undo : List ℕ) → Fits p o flat (length undo) → (i : ℕ) (d : Section) → i < length p.sections → SectionFits (get_or p.sections i d)
    → section (form p o flat undo) (header (form p o flat undo)) i ≡ get_or p.sections i d
unfolding new_header
section_is p o flat undo fits i d lt small =
    let u = length undo in
    let file = form p o flat undo in
    let s = get_or p.sections i d in
    let ends : List Section = undo_row p o.bytes u ∷ names_row p o.bytes u ∷ [] in
    let row : get_or (table_rows p o.bytes u) i d ≡ s = get_or_append_left p.sections ends d i lt in
    let there : part (table_at p o.bytes u + 64 * i) 64 file ≡ section_header_bytes s = row_there p o flat undo fits i d (omega (arith, lt, length-append p.sections ends)) ∙ ap section_header_bytes row in
    ap (λ (h : Header). section file h i) (form_header p o flat undo fits)
    ∙ sym (section_by_part (table_at p o.bytes u + 64 * i) file)
    ∙ ap (λ (xs : List ℕ). section_at xs 0) there
    ∙ section_read s small.name small.kind small.flags small.addr small.offset small.size small.link small.info small.align small.entsize

-- so many sections before the end
pub section_before : (p : FormPlan) (o : Original) (flat undo : List ℕ) → Fits p o flat (length undo) → (i back : ℕ) (d : Section) → i < length p.sections → i + back ≡ length p.sections + 2 → SectionFits (get_or p.sections i d)
    → section (form p o flat undo) (header (form p o flat undo)) ((header (form p o flat undo)).shnum - back) ≡ get_or p.sections i d
unfolding new_header
section_before p o flat undo fits i back d lt same small =
    let file = form p o flat undo in
    let index : (header file).shnum - back ≡ i = ap (λ (h : Header). h.shnum - back) (form_header p o flat undo fits) ∙ omega (arith, same) in
    ap (section file (header file)) index ∙ section_is p o flat undo fits i d lt small
