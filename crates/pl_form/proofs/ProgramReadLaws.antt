-- All that is read of a program's form, by its original, lists and version.
use Rattle.std.proofs.Common.{◌≡◌, ℕ, ◌+◌, ◌-◌, ◌^◌, ◌<◌, ◌≤◌, Bool, true, false, List, length, get_or, Option, Some, refl, sym, ap, subst, ◌∙◌, arith}
use Rattle.std.specs.Prelude.{◌&&◌}
use Rattle.std.specs.List.{list_any}
use Rattle.std.proofs.lemmas.Bool.{true≢false}
use Rattle.pl_base.specs.Windows.{AllIn}
use Rattle.pl_base.proofs.WindowLaws.{AreAllApart}
use Rattle.pl_elf.specs.Clauses.{bad_load}
use Rattle.pl_elf.specs.Headers.{header, is_load, loads}
use Rattle.pl_elf.specs.declared.segment.Segment.{Segment}
use Rattle.pl_elf.proofs.AcceptedLaws.{load_fits}
use Rattle.pl_object.specs.PlaceClauses.{last_load}
use Rattle.pl_object.specs.declared.object.Object.{Object}
use Rattle.pl_form.specs.Back.{find_undo, front_of}
use Rattle.pl_form.specs.Forms.{original_of, undo_part, planned, form_of_program}
use Rattle.pl_form.specs.Found.{zeros_from, ss_of, places_of, ps_of}
use Rattle.pl_form.specs.PartLaws.{FormsProgram}
use Rattle.pl_form.specs.Loads.{spots_of, hidden_windows}
use Rattle.pl_form.specs.Parts.{Original, program_plan, zeros_part, front_part}
use Rattle.pl_form.specs.declared.parts.Extension.{Extension}
use Rattle.pl_undo.specs.declared.undo.Undo.{Undo}
use Rattle.pl_form.proofs.AlikeTheorem.{held_program}
use Rattle.pl_form.proofs.FinalTheorem.{program_conditions}
use Rattle.pl_form.proofs.KindLaws.{segment_count}
use Rattle.pl_form.proofs.OverlapLaws.{zeros_apart}
use Rattle.pl_form.proofs.PlaceByteLaws.{is_own, hidden_in, none_of_loads, not_any_at}
use Rattle.pl_form.proofs.WholeTheorem.{program_is}
use Rattle.pl_form.specs.Reading.{section_from_end, places_in, standing, zeros_behind}
use Rattle.pl_form.proofs.FoundLaws.{undo_by, undo_found, front_is}
use Rattle.pl_form.proofs.OriginalLaws.{alone, spots_apart}
use Rattle.pl_form.proofs.ProgramListLaws.{IsEnd, zeros_there, strings_there, rows_there, conflicts_there}
use Rattle.pl_form.proofs.StandingLaws.{all_stand}

-- what is read
pub record ReadsProgram (file o : List ℕ) (e : Extension) (flat : List ℕ) (digest : Option (List ℕ)) : Type 0 where
  pub undo : Undo
  pub found : find_undo file ≡ Some undo
  pub slot_is : undo.slot ≡ 0
  pub digest_is : undo.digest ≡ digest
  pub strings : section_from_end 5 file ≡ e.strings
  pub rows : section_from_end 4 file ≡ e.rows
  pub conflicts : section_from_end 3 file ≡ e.conflicts
  pub places : places_in o (front_of undo file) file ≡ flat

plan_slot : (o : Original) (index : ℕ) (last : Segment) (flat : List ℕ) (e : Extension) → (program_plan o index last flat e).slot ≡ 0
unfolding program_plan
plan_slot o index last flat e = refl

right_of : (a b : Bool) → a ≡ true → (a && b) ≡ false → b ≡ false
right_of true b e h = h
right_of false b e h = absurd (true≢false (sym e))

-- clause 6 of the last PT_LOAD
top_of : (ss : List Segment) (index : ℕ) (last : Segment) → list_any bad_load (loads ss) ≡ false → index < length ss → get_or ss index last ≡ last → is_load last ≡ true → last.vaddr + last.memsz ≤ 2 ^ 47
top_of ss index last fit lt at load =
    let good : (is_load last && bad_load last) ≡ false = subst (λ (s : Segment). (is_load s && bad_load s) ≡ false) at (not_any_at (λ s. is_load s && bad_load s) ss index last (none_of_loads bad_load ss fit) lt) in
    (load_fits last (right_of (is_load last) (bad_load last) load good)).ends

-- the bytes of places in the zeros
pub record AreHidden (o : List ℕ) (last : Segment) : Type 0 where
  pub end : IsEnd (original_of o) last
  pub apart : AreAllApart (hidden_windows (ps_of o))

hidden_of : (o : List ℕ) (x : Object) (index : ℕ) (last : Segment) (e : Extension) (flat : List ℕ) (digest : Option (List ℕ)) → FormsProgram o x index last e flat digest → AreHidden o last
hidden_of o x index last e flat digest f =
    let ss = ss_of o in
    let h = held_program o x index last e flat digest f in
    let size = h.program.size in
    let lt : index < length ss = omega (arith, h.program.last_in, segment_count o (header o)) in
    let own = is_own ss index last last h.are lt h.is_load size (h.program.is_last last) in
    let start : zeros_from (last_load ss) ≡ last.vaddr + last.filesz = ap zeros_from f.latest in
    let inside : AllIn (last.memsz - last.filesz) (hidden_windows (spots_of ss (last.vaddr + last.filesz) (places_of o))) = hidden_in ss last (places_of o) size own h.held in
    let apart : AreAllApart (hidden_windows (spots_of ss (last.vaddr + last.filesz) (places_of o))) = zeros_apart ss last (places_of o) size own h.held (alone o x f.original) in
    record {
      end = record {
        size = size;
        top = top_of ss index last h.are.fit lt (h.program.is_last last) h.is_load;
        inside = subst (λ (n : ℕ). AllIn (last.memsz - last.filesz) (hidden_windows (spots_of ss n (places_of o)))) (sym start) inside;
      };
      apart = subst (λ (n : ℕ). AreAllApart (hidden_windows (spots_of ss n (places_of o)))) (sym start) apart;
    }

pub program_read : (o : List ℕ) (x : Object) (index : ℕ) (last : Segment) (e : Extension) (flat : List ℕ) (digest : Option (List ℕ)) → FormsProgram o x index last e flat digest
    → ReadsProgram (form_of_program (original_of o) index last e flat digest) o e flat digest
unfolding planned
program_read o x index last e flat digest f =
    let c = program_conditions o x index last e flat digest f in
    let a = original_of o in
    let p = program_plan a index last flat e in
    let is = program_is o index last e flat digest c in
    let undo = undo_part p a digest in
    let u = undo_by p a digest in
    let file = form_of_program a index last e flat digest in
    let front = front_part p a flat (length undo) in
    let hid = hidden_of o x index last e flat digest f in
    let front_same : front_of u file ≡ front = front_is p a flat undo digest is.fits in
    let apart = spots_apart o x f.original c.accepted in
    let zeros : zeros_behind (last_load (ss_of o)) file ≡ zeros_part last (ps_of o) flat = ap (λ (s : Option Segment). zeros_behind s file) f.latest ∙ zeros_there a index last e flat undo is.fits hid.end in
    record {
      undo = u;
      found = undo_found p a flat digest is;
      slot_is = plan_slot a index last flat e;
      digest_is = refl;
      strings = strings_there a index last e flat undo is.fits hid.end;
      rows = rows_there a index last e flat undo is.fits hid.end;
      conflicts = conflicts_there a index last e flat undo is.fits hid.end;
      places = ap (λ (xs : List ℕ). places_in o xs file) front_same ∙ ap (λ (zs : List ℕ). standing (ps_of o) front zs) zeros ∙ all_stand p a last flat (length undo) is.fits apart hid.apart hid.end.inside;
    }
