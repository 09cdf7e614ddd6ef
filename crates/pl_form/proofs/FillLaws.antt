-- Forms that are too long, and the bytes of fills.
use Rattle.std.proofs.Common.{◌≡◌, ℕ, ◌+◌, ◌-◌, ◌<◌, ◌≤◌, true, false, List, [], ◌∷◌, ◌++◌, length, map, replicate, Option, Some, None, Err, refl, sym, ap, subst, ◌∙◌, arith, inl, inr}
use Rattle.std.specs.Prelude.{◌==◌, filter, is_some}
use Rattle.std.specs.List.{All}
use Rattle.std.proofs.lemmas.Bool.{cases_Bool, lt-ltb, true≢false}
use Rattle.std.proofs.lemmas.List.{length-append}
use Rattle.std.proofs.lemmas.List.Elements.{All-head, All-tail}
use Rattle.pl_base.specs.Sums.{round_up}
use Rattle.pl_base.specs.Windows.{Window, ◌⊕◌}
use Rattle.pl_base.proofs.WindowLaws.{length-⊕}
use Rattle.pl_elf.specs.declared.segment.Segment.{Segment}
use Rattle.pl_lists.specs.Lists.{list_strings}
use Rattle.pl_lists.specs.declared.conflict_row.ConflictRow.{ConflictRow}
use Rattle.pl_lists.specs.declared.list_row.ListRow.{ListRow}
use Rattle.pl_object.specs.FilePart.{file_window, loaded_by, loader}
use Rattle.pl_object.specs.PlaceClauses.{last_load}
use Rattle.pl_object.specs.Relocations.{places, width}
use Rattle.pl_object.specs.declared.object.Object.{Object}
use Rattle.pl_object.specs.declared.reloc.Reloc.{Reloc}
use Rattle.pl_object.proofs.AcceptedLaws.{accepted}
use Rattle.pl_sym.specs.declared.symbol.Symbol.{Symbol}
use Rattle.pl_form.proofs.SizeLaws.{total}
use Rattle.pl_form.specs.Back.{wanted}
use Rattle.pl_form.specs.Forms as forms
use Rattle.pl_form.specs.Forms.{original_of, undo_part, planned}
use Rattle.pl_form.specs.Found.{ss_of, ps_of, places_of, zeros_from}
use Rattle.pl_form.specs.Loads.{spot_of, spots_of}
use Rattle.pl_form.specs.Parts.{Original, joined_size, program_plan, zeros_part, extension_at, lists_part, extension, whole_extension}
use Rattle.pl_form.specs.declared.parts.Extension.{Extension}
use Rattle.pl_form.specs.Faults.{IsFirm}
use Rattle.pl_form.specs.Program.{extended, last_index, program_with, stored}
use Rattle.pl_form.specs.Words.{AreFills, flat_of, fill_window, has_place, strings_of, extension_of, digest_in}
use Rattle.pl_form.specs.declared.constants.TheConstants.{STORED}
use Rattle.pl_form.specs.declared.fault.FormFault.TheVariants.{TooLarge}
use Rattle.pl_form.specs.declared.file.Fill.{Fill}
use Rattle.pl_form.specs.declared.version.Version.{Version}
use Rattle.pl_form.proofs.LengthLaws.{places_same}
use Rattle.pl_form.proofs.ReadyLaws.{extended_some}
use Rattle.pl_form.proofs.SmallLaws.{table_below}
use Rattle.pl_form.proofs.SomeLastLaws.{some_last}

-- ---- a form is longer than its lists

lists_long : (e : Extension) → length e.strings + (length e.rows + length e.conflicts) ≤ length (lists_part e)
lists_long e = omega (arith, length-⊕ (e.strings ⊕ e.rows) e.conflicts, length-⊕ e.strings e.rows)

block_long : (last : Segment) (o : Original) (flat : List ℕ) (e : Extension) → length (lists_part e) ≤ length (extension last o.spots flat e)
unfolding extension
block_long last o flat e =
    let gap : List ℕ = replicate (extension_at last - (last.vaddr + last.memsz)) 0 in
    omega (arith, length-append (zeros_part last o.spots flat) (gap ++ lists_part e), length-append gap (lists_part e))

whole_long : (bytes : List ℕ) → length bytes ≤ length (whole_extension bytes)
unfolding whole_extension
whole_long bytes = omega (arith, length-append bytes (replicate {A = ℕ} (round_up (length bytes) 16 - length bytes) 0))

program_long : (o : Original) (index : ℕ) (last : Segment) (e : Extension) (flat : List ℕ) (digest : Option (List ℕ)) → length e.strings + (length e.rows + length e.conflicts) ≤ length (forms.form_of_program o index last e flat digest)
unfolding planned program_plan joined_size
program_long o index last e flat digest =
    let p = program_plan o index last flat e in
    omega (arith, table_below p o flat (undo_part p o digest), whole_long (extension last o.spots flat e), block_long last o flat e, lists_long e)

extended_by : (o : List ℕ) (e : Extension) (flat : List ℕ) (version : Version) (found : Option Segment) → last_load (ss_of o) ≡ found → is_some found ≡ true → length e.strings + (length e.rows + length e.conflicts) ≤ length (extended o e flat version)
extended_by o e flat version None at some = absurd (true≢false (sym some))
extended_by o e flat version (Some last) at some =
    let same : forms.form_of_program (original_of o) (last_index (ss_of o)) last e flat (digest_in version o) ≡ extended o e flat version = extended_some o (record { index = last_index (ss_of o); segment = last }) e flat version (record { at = at; index = refl }) in
    omega (arith, ap length same, program_long (original_of o) (last_index (ss_of o)) last e flat (digest_in version o))

extended_long : (o : List ℕ) (x : Object) (e : Extension) (flat : List ℕ) (version : Version) → IsFirm o x → length e.strings + (length e.rows + length e.conflicts) ≤ length (extended o e flat version)
extended_long o x e flat version firm = extended_by o e flat version (last_load (ss_of o)) refl (some_last o x firm.accepted)

too_large : (form : List ℕ) → STORED < length form → stored form ≡ Err TooLarge
too_large form lt = rw (lt-ltb STORED (length form) lt) refl

pub names_too_long : (o : List ℕ) (x : Object) (list : List ListRow) (flat : List ℕ) (conflicts : List ConflictRow) (version : Version) → IsFirm o x → STORED < length (list_strings list) → stored (program_with o list flat conflicts version) ≡ Err TooLarge
names_too_long o x list flat conflicts version firm lt =
    too_large _ (omega (arith, extended_long o x (extension_of o list conflicts) flat version firm, length-append (strings_of o) (list_strings list), lt))

pub lists_too_long : (o : List ℕ) (x : Object) (list : List ListRow) (flat : List ℕ) (conflicts : List ConflictRow) (version : Version) (e : Extension) → IsFirm o x → e ≡ extension_of o list conflicts → STORED < length e.strings + (length e.rows + length e.conflicts)
    → stored (program_with o list flat conflicts version) ≡ Err TooLarge
lists_too_long o x list flat conflicts version e firm is lt =
    subst (λ (l : Extension). stored (extended o l flat version) ≡ Err TooLarge) is (too_large _ (omega (arith, extended_long o x e flat version firm, lt)))

-- ---- there is a byte of a fill for each byte of a place

window_short : (memory : Window) (s : Option Segment) → (loaded_by memory s).size ≤ memory.size
window_short memory None = omega arith
window_short memory (Some s) = omega arith

spots_total : (ss : List Segment) (start : ℕ) (ps : List Window) → wanted (spots_of ss start ps) ≡ total ps
unfolding spot_of file_window
spots_total ss start [] = refl
spots_total ss start (p ∷ ps) = omega (arith, window_short p (loader ss p.at), spots_total ss start ps)

flat_total : (fills : List Fill) → length (flat_of fills) ≡ total (map fill_window fills)
flat_total [] = refl
flat_total (f ∷ fs) = length-append f.bytes (flat_of fs) ∙ omega (arith, flat_total fs)

none_wide : (symbols : List Symbol) (r : Reloc) → r.width ≡ width symbols r.kind r.symbol → has_place r ≡ false → r.width ≡ 0
unfolding width
none_wide symbols r is none = elim (cases_Bool (r.kind == 0)) [
  | inl hit ↦ is ∙ rw hit refl
  | inr other ↦ absurd (true≢false (rw other at none))
]

abbrev IsWide : List Symbol → Reloc → Type 0
IsWide symbols r = r.width ≡ width symbols r.kind r.symbol

placed_total : (symbols : List Symbol) (rs : List Reloc) → All (IsWide symbols) rs → total (places (filter has_place rs)) ≡ total (places rs)
placed_total symbols [] all = refl
placed_total symbols (r ∷ rs) all = elim (cases_Bool (has_place r)) [
  | inl hit ↦ rw hit (ap (λ (n : ℕ). r.width + n) (placed_total symbols rs (All-tail (IsWide symbols) r rs all)))
  | inr none ↦ let zero = none_wide symbols r (All-head (IsWide symbols) r rs all) none in rw none (omega (arith, zero, placed_total symbols rs (All-tail (IsWide symbols) r rs all)))
]

pub fills_wanted : (o : List ℕ) (x : Object) (fills : List Fill) → IsFirm o x → AreFills fills x.relocations → length (flat_of fills) ≡ wanted (ps_of o)
fills_wanted o x fills firm are =
    let acc = accepted o x firm.accepted in
    flat_total fills
    ∙ ap total are
    ∙ placed_total x.symbols x.relocations acc.widths
    ∙ ap total (places_same o x firm)
    ∙ sym (spots_total (ss_of o) (zeros_from (last_load (ss_of o))) (places_of o))
