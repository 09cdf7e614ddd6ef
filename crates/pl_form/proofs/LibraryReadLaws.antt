-- All that is read of a library's form, by its original, slot, stamp, list and version.
use Rattle.std.proofs.Common.{◌≡◌, ℕ, ◌+◌, ◌*◌, ◌%◌, ◌^◌, ◌<◌, ◌≤◌, List, [], ◌∷◌, ◌++◌, length, Option, Some, refl, ap, ◌∙◌, arith}
use Rattle.std.proofs.Math.Nat.{mod-eq_of_lt}
use Rattle.pl_base.specs.Bytes.{put, word64}
use Rattle.pl_base.specs.Windows.{within}
use Rattle.pl_base.proofs.WindowLaws.{length-within, all_in}
use Rattle.pl_elf.specs.Headers.{header}
use Rattle.pl_move.specs.Moves.{row_moved}
use Rattle.pl_move.specs.declared.kind.RowKind.TheVariants.{TagValue}
use Rattle.pl_move.proofs.MoveLaws.{length-rows, length-row_moved}
use Rattle.pl_object.specs.PlaceClauses.{last_load}
use Rattle.pl_object.specs.declared.object.Object.{Object}
use Rattle.pl_form.specs.Back.{head_windows, find_undo, front_of}
use Rattle.pl_form.specs.Forms.{original_of, undo_part, planned, form_of_library}
use Rattle.pl_form.specs.Found.{ss_of, d_of, tags_of}
use Rattle.pl_form.specs.PartLaws.{FormsLibrary}
use Rattle.pl_form.specs.Parts.{Original, library_entries, library_dynamic, library_plan, with_entries, tags_moved, front_part}
use Rattle.pl_form.specs.declared.parts.Listed.{Listed}
use Rattle.pl_undo.specs.declared.undo.Undo.{Undo}
use Rattle.pl_form.proofs.FinalTheorem.{library_conditions}
use Rattle.pl_form.proofs.WholeTheorem.{library_is}
use Rattle.pl_form.specs.Reading.{section_from_end, places_in, stamp_in, zeros_behind}
use Rattle.pl_form.proofs.FoundLaws.{undo_by, undo_found, front_is}
use Rattle.pl_form.proofs.LibraryLaws.{dynamic_there, stamp_of, strings_there, rows_there}
use Rattle.pl_form.proofs.OriginalLaws.{dynamic_beside, spots_apart, library_shown}
use Rattle.pl_form.proofs.StandingLaws.{shown_stand}

-- the entries stand in the new dynamic table
table_is : (o : Original) (slot stamp checksum : ℕ) (l : Listed) → (library_plan o slot stamp checksum l).dynamic ≡ put (16 * o.tags) (library_entries stamp checksum) (tags_moved slot o)
unfolding library_plan library_dynamic with_entries
table_is o slot stamp checksum l = refl

stamp_there : (o : Original) (slot stamp checksum : ℕ) (l : Listed) (front : List ℕ) → 16 * o.tags + 32 ≤ o.dynamic.size → o.dynamic.at + o.dynamic.size ≤ length o.bytes → stamp < 2 ^ 32
    → within o.dynamic front ≡ (library_plan o slot stamp checksum l).dynamic → word64 (16 * o.tags + 8) (within o.dynamic front) ≡ stamp
stamp_there o slot stamp checksum l front spare inside small there =
    let d = o.dynamic in
    let old : length (within d o.bytes) ≡ d.size = length-within d o.bytes inside in
    let moved : length (tags_moved slot o) ≡ d.size = length-rows 16 (row_moved slot TagValue) o.tags (within d o.bytes) (length-row_moved slot TagValue) (omega (arith, old, spare)) ∙ old in
    ap (word64 (16 * o.tags + 8)) (there ∙ table_is o slot stamp checksum l)
    ∙ stamp_of (16 * o.tags) stamp checksum (tags_moved slot o) (omega (arith, moved, spare)) (omega (arith, small))

-- what is read
pub record ReadsLibrary (file o : List ℕ) (slot stamp : ℕ) (l : Listed) (flat : List ℕ) (digest : Option (List ℕ)) : Type 0 where
  pub undo : Undo
  pub found : find_undo file ≡ Some undo
  pub slot_is : undo.slot ≡ slot
  pub digest_is : undo.digest ≡ digest
  pub strings : section_from_end 4 file ≡ l.strings
  pub rows : section_from_end 3 file ≡ l.rows
  pub stamp_is : stamp_in o (front_of undo file) ≡ stamp
  pub places : places_in o (front_of undo file) file ≡ flat

plan_slot : (o : Original) (slot stamp checksum : ℕ) (l : Listed) → (library_plan o slot stamp checksum l).slot ≡ slot
unfolding library_plan
plan_slot o slot stamp checksum l = refl

pub library_read : (o : List ℕ) (x : Object) (slot stamp checksum : ℕ) (l : Listed) (flat : List ℕ) (digest : Option (List ℕ)) → FormsLibrary o x slot stamp checksum l flat digest → stamp < 2 ^ 32
    → ReadsLibrary (form_of_library (original_of o) slot stamp checksum l flat digest) o slot stamp l flat digest
unfolding planned
library_read o x slot stamp checksum l flat digest f small =
    let c = library_conditions o x slot stamp checksum l flat digest f in
    let a = original_of o in
    let p = library_plan a slot stamp checksum l in
    let is = library_is o slot stamp checksum l flat digest c in
    let undo = undo_part p a digest in
    let u = undo_by p a digest in
    let file = form_of_library a slot stamp checksum l flat digest in
    let front = front_part p a flat (length undo) in
    let ins = all_in (length o) (head_windows (header o) ++ d_of o ∷ []) is.fits.heads_in in
    let some : 0 < (d_of o).size = omega (arith, c.spare) in
    let beside = dynamic_beside o c.accepted some in
    let front_same : front_of u file ≡ front = front_is p a flat undo digest is.fits in
    let there = dynamic_there p a flat (length undo) is.fits beside.low beside.apart in
    let stamp_is : word64 (16 * length (tags_of o) + 8) (within (d_of o) front) ≡ stamp = stamp_there a slot stamp checksum l front c.spare ins.1.1.1.0 small there in
    let apart = spots_apart o x f.original c.accepted in
    let shown = library_shown o x f.original c.kind in
    record {
      undo = u;
      found = undo_found p a flat digest is;
      slot_is = plan_slot a slot stamp checksum l;
      digest_is = refl;
      strings = strings_there a slot stamp checksum l flat undo is.fits;
      rows = rows_there a slot stamp checksum l flat undo is.fits;
      stamp_is = ap (stamp_in o) front_same ∙ ap (λ (n : ℕ). n % 2 ^ 32) stamp_is ∙ mod-eq_of_lt small;
      places = ap (λ (xs : List ℕ). places_in o xs file) front_same ∙ shown_stand p a flat (zeros_behind (last_load (ss_of o)) file) (length undo) is.fits apart shown;
    }
