-- How long the undo section and the form of a library are, before there is a form.
use Rattle.std.proofs.Common.{[], ◌∷◌, ◌++◌, ◌≡◌, ℕ, ◌+◌, ◌*◌, ◌^◌, ◌<◌, ◌≤◌, Bool, true, false, List, length, drop, Option, Result, Ok, refl, sym, subst, ap, ◌∙◌, arith, inl, inr}
use Rattle.std.specs.Prelude.{◌||◌, ◌&&◌, ◌==◌, not}
use Rattle.std.specs.List.{list_any}
use Rattle.std.specs.Result.{is_ok}
use Rattle.std.proofs.lemmas.Bool.{cases_Bool, or_parts, ltb-false, eqb-true, true≢false}
use Rattle.std.proofs.lemmas.List.{length-append, length-take, length-drop}
use Rattle.pl_base.proofs.AnswerLaws.{refuse_none, bind_ok}
use Rattle.pl_base.proofs.WindowLaws.{length-within, all_in}
use Rattle.pl_base.specs.Windows.{Window, within, any_share, AllIn}
use Rattle.pl_elf.specs.Clauses.{section_data}
use Rattle.pl_elf.specs.Headers.{header, section}
use Rattle.pl_elf.specs.Kinds.{is_library}
use Rattle.pl_elf.specs.declared.constants.TheConstants.{ET_EXEC}
use Rattle.pl_elf.specs.declared.header.Header.{Header}
use Rattle.pl_elf.specs.declared.section.Section.{Section}
use Rattle.pl_elf.specs.declared.segment.Segment.{Segment}
use Rattle.pl_dyn.specs.declared.tags.Tag.{Tag}
use Rattle.pl_sym.specs.declared.symbol.Symbol.{Symbol}
use Rattle.pl_object.specs.Accepted.{is_exec}
use Rattle.pl_object.specs.FilePart.{file_window, in_file_part}
use Rattle.pl_object.specs.PlaceClauses.{last_load, is_in_memory, is_held, reloc_outside, reloc_overlap, check_relocs, misplaced_copy}
use Rattle.pl_object.specs.SymbolClauses.{check_symbols, has_ifunc}
use Rattle.pl_object.specs.Reads.{reads, headers, layout, check, check_rest, too_large, is_pie}
use Rattle.pl_object.specs.Relocations.{places}
use Rattle.pl_object.specs.Tables.{sections_window}
use Rattle.pl_object.specs.declared.object.Object.{Object}
use Rattle.pl_object.specs.declared.refusal.Refusal.{Refusal}
use Rattle.pl_object.specs.declared.refusal.Refusal.TheVariants.{Clause}
use Rattle.pl_object.specs.declared.reloc.Reloc.{Reloc}
use Rattle.pl_object.proofs.AcceptedLaws.{read_holds, accepted}
use Rattle.pl_undo.specs.Section.{undo_bytes, headers_size}
use Rattle.pl_form.proofs.AcceptedIs.{segments_are, places_are, named_of, reads_accepted}
use Rattle.pl_form.proofs.FrontLaws.{length-memory_of}
use Rattle.pl_form.proofs.LoadFacts.{apart_of}
use Rattle.pl_form.proofs.ReaderLaws.{IsAccepted, readable}
use Rattle.pl_form.proofs.SizeLaws.{total, apart_fit, undo_length}
use Rattle.pl_form.proofs.UndoLaws.{length-headers}
use Rattle.pl_form.specs.Back.{head_windows, spot_windows, memory_of, wanted, undo_of}
use Rattle.pl_form.specs.Forms.{original_of, undo_part}
use Rattle.pl_form.specs.Found.{ss_of, d_of, ps_of, places_of, zeros_from}
use Rattle.pl_form.specs.PartLaws.{IsDigest}
use Rattle.pl_form.specs.Loads.{spot_of, spots_of}
use Rattle.pl_form.specs.Parts.{joined_size, old_names, names_part, table_at, library_plan}
use Rattle.pl_form.specs.declared.parts.Listed.{Listed}
use Rattle.pl_form.specs.Faults.{IsFirm}
use Rattle.pl_form.proofs.FirmLaws.{library_three}

-- ---- clause 30

rest_small : (bytes : List ℕ) (h : Header) (ss : List Segment) (tags : List Tag) (symbols : List Symbol) (rs : List Reloc) → check_rest bytes h ss tags symbols rs ≡ Ok tt → too_large bytes ≡ false
unfolding check_rest
rest_small bytes h ss tags symbols rs e =
    let all = refuse_none ((has_ifunc symbols, Clause 28 0) ∷ (misplaced_copy (h.kind == ET_EXEC) rs, Clause 29 0) ∷ (too_large bytes, Clause 30 0) ∷ (is_pie h ss tags, Clause 31 0) ∷ []) (Ok tt) (ap (λ (r : Result (Unit {0}) Refusal). is_ok r) e) in
    let a = or_parts (has_ifunc symbols) (misplaced_copy (h.kind == ET_EXEC) rs || (too_large bytes || (is_pie h ss tags || false))) all in
    let b = or_parts (misplaced_copy (h.kind == ET_EXEC) rs) (too_large bytes || (is_pie h ss tags || false)) a.1 in
    (or_parts (too_large bytes) (is_pie h ss tags || false) b.1).0

small_file : (bytes : List ℕ) → too_large bytes ≡ false → length bytes ≤ 67108864
unfolding too_large
small_file bytes e = ltb-false 67108864 (length bytes) e

pub accepted_small : (o : List ℕ) (x : Object) → reads o ≡ Ok x → length o ≤ 67108864
unfolding check headers
accepted_small o x e =
    read_holds (λ (y : Object). length o ≤ 67108864) o (λ h s. small_file o s.small)
    (λ h d l is.
    let f = headers o h in
    let ps = layout o f d.tags l in
    let s = bind_ok (check_symbols (h.kind == ET_EXEC) f.segments ps.hashes l.versions l.symbols) _ tt is.checks in
    let r = bind_ok (check_relocs (h.kind == ET_EXEC) f.segments (sections_window h ∷ ps.windows) (length l.symbols) ps.packed ps.relocations) _ tt s.2 in
    small_file o (rest_small o h f.segments d.tags l.symbols ps.relocations r.2)) x e

-- ---- places

pub original_accepted : (o : List ℕ) (x : Object) → IsFirm o x → IsAccepted o
original_accepted o x firm = reads_accepted o x firm.bytes firm.few firm.accepted firm.dynamic

pub places_same : (o : List ℕ) (x : Object) → IsFirm o x → places x.relocations ≡ places_of o
places_same o x firm = places_are o x (accepted o x firm.accepted) firm.dynamic (named_of o x firm.few firm.accepted firm.dynamic)

pub places_apart : (o : List ℕ) (x : Object) → IsFirm o x → any_share (places_of o) ≡ false
unfolding reloc_overlap
places_apart o x firm = subst (λ (ws : List Window). any_share ws ≡ false) (places_same o x firm) (accepted o x firm.accepted).apart

pub spots_inside : (o : List ℕ) (x : Object) → IsFirm o x → AllIn (length o) (spot_windows (ps_of o))
spots_inside o x firm = all_in (length o) (spot_windows (ps_of o)) (readable o (original_accepted o x firm)).spots_in

pub spots_fit : (o : List ℕ) (x : Object) → IsFirm o x → total (spot_windows (ps_of o)) ≤ length o
spots_fit o x firm =
    apart_fit (spot_windows (ps_of o)) (length o) (apart_of o x (accepted o x firm.accepted) (original_accepted o x firm) (places_apart o x firm)).spots (spots_inside o x firm)

-- those of a library have no byte in zeros
whole_of : (ss : List Segment) (p : Window) (b : Bool) → not (in_file_part ss p || false && b) ≡ false → (file_window ss p).size ≡ p.size
unfolding in_file_part
whole_of ss p b e = elim (cases_Bool ((file_window ss p).size == p.size)) [
  | inl hit ↦ eqb-true (file_window ss p).size p.size hit
  | inr miss ↦ absurd (true≢false (rw miss at e))
]

wanted_whole : (ss : List Segment) (start : ℕ) (ps : List Window) → list_any (λ memory. not (is_held false ss memory)) ps ≡ false → wanted (spots_of ss start ps) ≡ total (spot_windows (spots_of ss start ps))
unfolding is_held spot_of
wanted_whole ss start [] none = refl
wanted_whole ss start (p ∷ ps) none =
    let q = or_parts (not (is_held false ss p)) (list_any (λ memory. not (is_held false ss memory)) ps) none in
    let whole : (file_window ss p).size ≡ p.size = whole_of ss p (is_in_memory p (last_load ss)) q.0 in
    omega (arith, whole, wanted_whole ss start ps q.1)

no_program : (o : List ℕ) (x : Object) → IsFirm o x → is_library x.kind ≡ true → is_exec x ≡ false
no_program o x firm library =
    let acc = accepted o x firm.accepted in
    let kind : x.header.kind ≡ 3 = ap (λ (h : Header). h.kind) (sym acc.head.header) ∙ library_three o x firm.accepted library in
    rw kind refl

library_held : (o : List ℕ) (x : Object) → IsFirm o x → is_library x.kind ≡ true → list_any (λ memory. not (is_held false (ss_of o) memory)) (places_of o) ≡ false
unfolding reloc_outside
library_held o x firm library =
    let acc = accepted o x firm.accepted in
    let a : list_any (λ memory. not (is_held (is_exec x) (ss_of o) memory)) (places x.relocations) ≡ false = subst (λ (ss : List Segment). list_any (λ memory. not (is_held (is_exec x) ss memory)) (places x.relocations) ≡ false) (segments_are o x acc) acc.held in
    let b : list_any (λ memory. not (is_held false (ss_of o) memory)) (places x.relocations) ≡ false = subst (λ (p : Bool). list_any (λ memory. not (is_held p (ss_of o) memory)) (places x.relocations) ≡ false) (no_program o x firm library) a in
    subst (λ (ws : List Window). list_any (λ memory. not (is_held false (ss_of o) memory)) ws ≡ false) (places_same o x firm) b

pub library_wanted : (o : List ℕ) (x : Object) → IsFirm o x → is_library x.kind ≡ true → wanted (ps_of o) ≤ length o
library_wanted o x firm library = omega (arith, wanted_whole (ss_of o) (zeros_from (last_load (ss_of o))) (places_of o) (library_held o x firm library), spots_fit o x firm)

-- ---- the undo section

pub undo_short : (o : List ℕ) (digest : Option (List ℕ)) (slot cut shift : ℕ) → IsAccepted o → AllIn (length o) (spot_windows (ps_of o)) → IsDigest digest
    → length (undo_bytes (undo_of slot cut shift (d_of o) (ps_of o) o digest)) ≤ 144 + 3 * length o + wanted (ps_of o)
unfolding headers_size
undo_short o digest slot cut shift is spots size =
    let u = undo_of slot cut shift (d_of o) (ps_of o) o digest in
    let h = header o in
    let ins = all_in (length o) (head_windows h ++ d_of o ∷ []) (readable o is).heads_in in
    let heads : length u.headers ≡ 64 + (56 * h.phnum + 64 * h.shnum) = length-headers o (ins.0, (ins.1.0, (ins.1.1.0, tt))) ∙ omega arith in
    let kept : length u.kept ≡ (d_of o).size + wanted (ps_of o) = length-append (within (d_of o) o) (memory_of (ps_of o) o) ∙ omega (arith, length-within (d_of o) o ins.1.1.1.0, length-memory_of (ps_of o) o spots) in
    omega (arith, undo_length u size, heads, kept, ins.1.0, ins.1.1.0, ins.1.1.1.0)

data_most : (o : List ℕ) (s : Section) → length (section_data o s) ≤ length o
unfolding section_data
data_most o s = elim (cases_Bool (s.kind == 8)) [
  | inl hit ↦ rw hit (omega arith)
  | inr miss ↦ rw miss (omega (arith, length-take s.size (drop s.offset o), length-drop s.offset o))
]

pub names_most : (o : List ℕ) → length (old_names o) ≤ length o
names_most o = data_most o (section o (header o) (header o).shstrndx)

-- the section header table of a library's form begins below 2^32
pub library_short : (o : List ℕ) (x : Object) (slot stamp checksum : ℕ) (l : Listed) (digest : Option (List ℕ)) → IsFirm o x → is_library x.kind ≡ true → IsDigest digest → length l.strings ≤ 2 ^ 30 → length l.rows ≤ 2 ^ 30
    → table_at (library_plan (original_of o) slot stamp checksum l) o (length (undo_part (library_plan (original_of o) slot stamp checksum l) (original_of o) digest)) < 2 ^ 32
unfolding library_plan joined_size
library_short o x slot stamp checksum l digest firm library size strings rows =
    let p = library_plan (original_of o) slot stamp checksum l in
    let undo = undo_short o digest p.slot p.cut (length p.more) (original_accepted o x firm) (spots_inside o x firm) size in
    let names : length (names_part p o) ≡ length (old_names o) + 53 = length-append (old_names o) _ in
    omega (arith, undo, names, names_most o, library_wanted o x firm library, accepted_small o x firm.accepted, strings, rows)
