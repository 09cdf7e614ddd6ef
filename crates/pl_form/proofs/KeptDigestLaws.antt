-- The digest that the undo section of a form keeps is that of its original.
use Rattle.std.proofs.Common.{◌≡◌, ℕ, ◌^◌, ◌<◌, List, length, Some, sym, ap, subst, ◌∙◌, arith, inl, inr}
use Rattle.sha2.specs.Sha256.{sha256}
use Rattle.pl_elf.specs.declared.segment.Segment.{Segment}
use Rattle.pl_object.specs.PlaceClauses.{last_load}
use Rattle.pl_undo.specs.declared.undo.Undo.{Undo}
use Rattle.pl_form.specs.Back.{find_undo}
use Rattle.pl_form.specs.Files.{marked_in}
use Rattle.pl_form.specs.Found.{ss_of}
use Rattle.pl_form.specs.Marks.{IsFormOf, IsLibraryMark, IsProgramMark}
use Rattle.pl_form.specs.Program.{last_index}
use Rattle.pl_form.specs.Reading.{digest_kept}
use Rattle.pl_form.specs.Words.{listed, extension_of, checksum_of, digest_in}
use Rattle.pl_form.specs.declared.file.Marked.{Marked}
use Rattle.pl_form.specs.declared.version.Version.{Version}
use Rattle.pl_form.specs.declared.version.Version.TheVariants.{One, Two}
use Rattle.pl_form.proofs.CompleteLaws.{library_file, library_forms, program_file, program_forms, with_last}
use Rattle.pl_form.proofs.FilesLaws.{nothing_else_is_read}
use Rattle.pl_form.proofs.LibraryReadLaws.{ReadsLibrary, library_read}
use Rattle.pl_form.proofs.ProgramReadLaws.{ReadsProgram, program_read}

-- the undo section of a file keeps what the version has of the original's digest
record KeepsDigest (file : List ℕ) (m : Marked) : Type 0 where
  undo : Undo
  found : find_undo file ≡ Some undo
  kept : undo.digest ≡ digest_in m.version m.original

library_keeps : (file : List ℕ) (m : Marked) (f : IsFormOf file m) → IsLibraryMark m → KeepsDigest file m
library_keeps file m f is =
    let o = m.original in
    let reads = subst (λ (xs : List ℕ). ReadsLibrary xs o m.slot m.stamp (listed m.list) f.flat (digest_in m.version o)) (sym (library_file file m f is))
    (library_read o m.object m.slot m.stamp (checksum_of o) (listed m.list) f.flat (digest_in m.version o) (library_forms file m f is) is.stamp) in
    record { undo = reads.undo; found = reads.found; kept = reads.digest_is }

program_keeps : (file : List ℕ) (m : Marked) (f : IsFormOf file m) (last : Segment) → IsProgramMark m → last_load (ss_of m.original) ≡ Some last → KeepsDigest file m
program_keeps file m f last is at =
    let o = m.original in
    let e = extension_of o m.list m.conflicts in
    let reads = subst (λ (xs : List ℕ). ReadsProgram xs o e f.flat (digest_in m.version o)) (sym (program_file file m f last is at))
    (program_read o m.object (last_index (ss_of o)) last e f.flat (digest_in m.version o) (program_forms file m f last is at)) in
    record { undo = reads.undo; found = reads.found; kept = reads.digest_is }

keeps : (file : List ℕ) (m : Marked) → IsFormOf file m → KeepsDigest file m
keeps file m f = elim f.mark [
  | inl is ↦ library_keeps file m f is
  | inr is ↦ with_last file m f (KeepsDigest file m) (λ last at. program_keeps file m f last is at)
]

by_version : (version : Version) (o digest : List ℕ) → digest_in version o ≡ Some digest → digest ≡ sha256 o
by_version One o digest e = absurd cc
by_version Two o digest e = cc

pub kept_is : (file : List ℕ) (m : Marked) (digest : List ℕ) → marked_in file ≡ Some m → digest_kept (find_undo file) ≡ Some digest → digest ≡ sha256 m.original
kept_is file m digest read e =
    let k = keeps file m (nothing_else_is_read file m read) in
    by_version m.version m.original digest (sym k.kept ∙ sym (ap digest_kept k.found) ∙ e)

-- a prelinked file has fewer than 2^32 bytes
pub marked_small : (file : List ℕ) (m : Marked) → marked_in file ≡ Some m → length file < 2 ^ 32
marked_small file m read = let f = nothing_else_is_read file m read in omega (arith, f.small)
