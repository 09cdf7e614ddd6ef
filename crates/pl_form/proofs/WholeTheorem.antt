-- Back of a form is its original, from what acceptance says of the original's bytes.
use Rattle.std.proofs.Common.{◌≡◌, ℕ, ◌+◌, ◌*◌, ◌%◌, ◌^◌, ◌<◌, ◌≤◌, true, List, [], ◌∷◌, length, Option, Some, refl, ap, arith, inl, inr}
use Rattle.std.specs.Prelude.{is_some}
use Rattle.std.proofs.lemmas.Bool.{and_parts, false≢true}
use Rattle.pl_base.specs.Windows.{AreApart}
use Rattle.pl_base.proofs.WindowLaws.{none_share}
use Rattle.pl_elf.specs.Headers.{header, segment_of_kind}
use Rattle.pl_elf.specs.declared.constants.TheConstants.{PT_DYNAMIC}
use Rattle.pl_elf.specs.declared.header.Header.{Header}
use Rattle.pl_elf.specs.declared.segment.Segment.{Segment}
use Rattle.pl_object.specs.FilePart.{in_file_part}
use Rattle.pl_object.specs.Tables.{main_windows, dynamic_memory}
use Rattle.pl_form.specs.Back.{header_window, segments_window, back, wanted, undo_of}
use Rattle.pl_form.specs.Parts.{Original, table_at, library_plan, program_plan}
use Rattle.pl_form.specs.declared.parts.FormPlan.{FormPlan}
use Rattle.pl_form.specs.declared.parts.Listed.{Listed}
use Rattle.pl_form.specs.declared.parts.Extension.{Extension}
use Rattle.pl_form.specs.Found.{reader, ss_of, secs_of, d_of, tags_of, rs_of, ps_of}
use Rattle.pl_form.specs.Forms.{undo_part, form_of_library, form_of_program, original_of}
use Rattle.pl_form.specs.Fits.{Fits}
use Rattle.pl_form.proofs.KindLaws.{IsTaken, IsProgram, library_fits, program_fits, segment_count}
use Rattle.pl_form.proofs.UndoLaws.{IsStored}
use Rattle.pl_form.proofs.SizeLaws.{kept_length}
use Rattle.pl_form.specs.PartLaws.{IsDigest}
use Rattle.pl_form.proofs.FormTheorem.{IsUndoable, planned_undone, one_planned, all_small, library_stored, program_stored}
use Rattle.pl_form.proofs.ReaderLaws.{IsAccepted, readable}

-- ---- from acceptance

some_segments : (ss : List Segment) → is_some (segment_of_kind PT_DYNAMIC ss) ≡ true → 0 < length ss
some_segments [] h = absurd (false≢true h)
some_segments (s ∷ ss) h = omega arith

begins : (h : Header) → 0 < h.phnum → AreApart header_window (segments_window h) → 64 ≤ h.phoff
begins h some (inl le) = le
begins h some (inr (inl le)) = absurd (omega (arith, le, some))
begins h some (inr (inr (inl none))) = absurd (omega (arith, none))
begins h some (inr (inr (inr none))) = absurd (omega (arith, none, some))

pub taken : (o : List ℕ) → IsAccepted o → (header o).shnum ≤ 65000 → IsTaken (original_of o)
unfolding main_windows
taken o is few =
    let r = readable o is in
    let there = and_parts (is_some (segment_of_kind PT_DYNAMIC (ss_of o))) (in_file_part (ss_of o) (dynamic_memory (ss_of o))) is.dynamic in
    let some : 0 < (header o).phnum = omega (arith, some_segments (ss_of o) there.0, segment_count o (header o)) in
    let apart = none_share (main_windows (header o) (ss_of o) (secs_of o) (tags_of o)) is.overlap in
    record { bytes = is.bytes; heads_in = r.heads_in; tables_in = r.tables_in; spots_in = r.spots_in; apart = begins (header o) some apart.0.0; few = few }

undoable : (p : FormPlan) (o flat : List ℕ) (digest : Option (List ℕ)) → IsAccepted o → Fits p (original_of o) flat (length (undo_part p (original_of o) digest)) → IsStored o p.slot p.cut (length p.more) → IsDigest digest → p.slot % 2 ≡ 0
    → IsUndoable reader p (original_of o) flat digest
undoable p o flat digest is fits stored is_digest even = record {
  rs = rs_of o;
  reads = λ bytes. refl;
  readable = readable o is;
  fits = fits;
  stored = stored;
  few = (let m = kept_length (undo_of p.slot p.cut (length p.more) (d_of o) (ps_of o) o digest) in omega (arith, m, fits.small));
  is_digest = is_digest;
  even = even;
}

all_below : (p : FormPlan) (o : Original) (flat : List ℕ) (undo : ℕ) → Fits p o flat undo → (length o.bytes < 2 ^ 64) × (length p.more < 2 ^ 64)
all_below p o flat undo fits = let n = all_small p o flat undo fits in (omega (arith, n), omega (arith, n))

slot_even : (o : Original) (index : ℕ) (last : Segment) (e : Extension) (flat : List ℕ) → (program_plan o index last flat e).slot % 2 ≡ 0
unfolding program_plan
slot_even o index last e flat = omega arith

-- ---- both kinds

pub record IsLibrary (o : List ℕ) (slot stamp checksum : ℕ) (l : Listed) (flat : List ℕ) (digest : Option (List ℕ)) : Type 0 where
  pub accepted : IsAccepted o
  pub kind : (header o).kind ≡ 3
  -- clause 7, NoSpareTags
  pub few : (header o).shnum ≤ 65000
  pub spare : 16 * length (tags_of o) + 32 ≤ (d_of o).size
  pub flat_size : length flat ≡ wanted (ps_of o)
  pub digest_size : IsDigest digest
  pub slot_small : slot < 2 ^ 64
  pub even : slot % 2 ≡ 0
  pub small : table_at (library_plan (original_of o) slot stamp checksum l) o (length (undo_part (library_plan (original_of o) slot stamp checksum l) (original_of o) digest)) < 2 ^ 32

pub library_is : (o : List ℕ) (slot stamp checksum : ℕ) (l : Listed) (flat : List ℕ) (digest : Option (List ℕ)) → IsLibrary o slot stamp checksum l flat digest
    → IsUndoable reader (library_plan (original_of o) slot stamp checksum l) (original_of o) flat digest
unfolding library_plan
library_is o slot stamp checksum l flat digest is =
    let a = original_of o in
    let p = library_plan a slot stamp checksum l in
    let fits = library_fits a slot stamp checksum l flat (length (undo_part p a digest)) (taken o is.accepted is.few) is.spare is.flat_size is.small in
    undoable p o flat digest is.accepted fits (library_stored a slot stamp checksum l is.kind is.slot_small (all_below p a flat (length (undo_part p a digest)) fits).0) is.digest_size is.even

pub library_undone : (o : List ℕ) (slot stamp checksum : ℕ) (l : Listed) (flat : List ℕ) (digest : Option (List ℕ)) → IsLibrary o slot stamp checksum l flat digest
    → back reader (form_of_library (original_of o) slot stamp checksum l flat digest) ≡ Some o
library_undone o slot stamp checksum l flat digest is = planned_undone reader _ (original_of o) flat digest (library_is o slot stamp checksum l flat digest is)

pub record IsProgramForm (o : List ℕ) (index : ℕ) (last : Segment) (e : Extension) (flat : List ℕ) (digest : Option (List ℕ)) : Type 0 where
  pub accepted : IsAccepted o
  pub kind : (header o).kind ≡ 2
  pub few : (header o).shnum ≤ 65000
  pub spare : 16 * length (tags_of o) + 64 ≤ (d_of o).size
  pub program : IsProgram (original_of o) index last
  pub flat_size : length flat ≡ wanted (ps_of o)
  pub digest_size : IsDigest digest
  pub small : table_at (program_plan (original_of o) index last flat e) o (length (undo_part (program_plan (original_of o) index last flat e) (original_of o) digest)) < 2 ^ 32

pub program_is : (o : List ℕ) (index : ℕ) (last : Segment) (e : Extension) (flat : List ℕ) (digest : Option (List ℕ)) → IsProgramForm o index last e flat digest
    → IsUndoable reader (program_plan (original_of o) index last flat e) (original_of o) flat digest
program_is o index last e flat digest is =
    let a = original_of o in
    let p = program_plan a index last flat e in
    let fits = program_fits a index last e flat (length (undo_part p a digest)) (taken o is.accepted is.few) is.program is.spare is.flat_size is.small in
    let below = all_below p a flat (length (undo_part p a digest)) fits in
    undoable p o flat digest is.accepted fits (program_stored a index last e flat is.kind is.program.cut below.1 below.0) is.digest_size (slot_even a index last e flat)

pub program_undone : (o : List ℕ) (index : ℕ) (last : Segment) (e : Extension) (flat : List ℕ) (digest : Option (List ℕ)) → IsProgramForm o index last e flat digest
    → back reader (form_of_program (original_of o) index last e flat digest) ≡ Some o
program_undone o index last e flat digest is = planned_undone reader _ (original_of o) flat digest (program_is o index last e flat digest is)

-- a library's form is no program's
pub kinds_apart : (o o' : List ℕ) (slot stamp checksum : ℕ) (l : Listed) (flat flat' : List ℕ) (digest digest' : Option (List ℕ)) (index : ℕ) (last : Segment) (e : Extension)
    → IsLibrary o slot stamp checksum l flat digest → IsProgramForm o' index last e flat' digest' → form_of_library (original_of o) slot stamp checksum l flat digest ≡ form_of_program (original_of o') index last e flat' digest' → ⊥
kinds_apart o o' slot stamp checksum l flat flat' digest digest' index last e a b same =
    let one : o ≡ o' = one_planned reader _ _ (original_of o) (original_of o') flat flat' digest digest' (library_is o slot stamp checksum l flat digest a) (program_is o' index last e flat' digest' b) same in
    let kinds : (header o).kind ≡ (header o').kind = ap (λ (xs : List ℕ). (header xs).kind) one in
    absurd (omega (arith, a.kind, b.kind, kinds))
