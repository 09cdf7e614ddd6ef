-- One file of a load: what the format tells of its bytes.
use Rattle.std.proofs.Common.{◌≡◌, ℕ, ◌≤◌, Bool, true, false, List, map, length, Option, Some, None, Result, Ok, Err, refl, sym, ap, subst, ◌∙◌, arith, inl, inr}
use Rattle.std.specs.Prelude.{◌&&◌, nat_lt}
use Rattle.std.specs.Option.{option_map}
use Rattle.std.specs.Str.{bytes_eq}
use Rattle.std.proofs.lemmas.Bool.{false≢true}
use Rattle.std.proofs.lemmas.Bool.Decides.{nat_tests}
use Rattle.pl_base.specs.Answers.{◌>>=◌, because}
use Rattle.pl_base.proofs.AnswerLaws.{bind_ok, because_ok, ok_same, unless_ok}
use Rattle.pl_elf.specs.Kinds.{is_library}
use Rattle.pl_form.specs.Files.{marked_in, original_in, original_or_file, file_in, file_by}
use Rattle.pl_form.specs.Marks.{has_mark, as_file, IsFormOf}
use Rattle.pl_form.specs.Words.{checksum_of}
use Rattle.pl_form.specs.declared.constants.TheConstants.{STORED}
use Rattle.pl_form.specs.declared.fault.FileFault.TheVariants.{BadMark}
use Rattle.pl_form.specs.declared.file.File.{File}
use Rattle.pl_form.specs.declared.file.File.TheVariants.{Plain, Marked}
use Rattle.pl_form.specs.declared.file.Marked as form
use Rattle.pl_form.proofs.FilesLaws.{nothing_else_is_read}
use Rattle.pl_form.proofs.LengthLaws.{accepted_small}
use Rattle.pl_object.specs.Reads.{reads}
use Rattle.pl_object.specs.declared.object.Object.{Object}
use Rattle.pl_object.specs.declared.refusal.Refusal.{Refusal}
use Rattle.law_sound.specs.Rule as sound
use Rattle.pl_conflict.specs.Complete.{marked_conflicts}
use Rattle.pl_conflict.specs.Format.{Causes, number_of, row_of_list, mark_of, mark_in, read_original}
use Rattle.pl_loader.specs.Faults.{of_file}
use Rattle.pl_loader.specs.Fast.{stored, rows_by}
use Rattle.pl_loader.specs.Loading.{IsLoadable}
use Rattle.pl_loader.specs.Walk.{with_mark, named, loadable, read_in}
use Rattle.pl_loader.specs.declared.object_file.Mark.{Mark}
use Rattle.pl_loader.specs.declared.object_file.ObjectFile.{ObjectFile}
use Rattle.pl_loader.specs.declared.fault.LoadFault.TheVariants.{NotProgram}
use Rattle.pl_loader.proofs.GiveLaws.{read_named}

-- a mark as the format tells it, which tells the version besides
abbrev pub mark_by : ℕ → Option Mark → Option sound.Mark
mark_by version None = None
mark_by version (Some k) = Some (record { version = version; slot = k.slot; stamp = k.stamp; list = map row_of_list k.list })

-- a library's mark has the checksum of its original
abbrev pub Sums : List ℕ → Bool → Option Mark → Type 0
Sums original library None = Unit {0}
Sums original library (Some k) = library ≡ true → k.checksum ≡ checksum_of original

-- what the format tells of a file's bytes
pub record IsFileOf {F : Type 0} (causes : Causes F) (n bytes : List ℕ) (f : ObjectFile) : Type 0 where
  pub original : original_in bytes ≡ f.bytes
  pub object : read_original causes n (original_in bytes) ≡ Ok f.object
  pub version : ℕ
  pub mark : mark_in bytes ≡ mark_by version f.mark
  pub sums : Sums f.bytes (is_library f.object.kind) f.mark
  pub stored : bytes ≡ stored f
  pub rows : marked_conflicts (marked_in bytes) ≡ rows_by f.mark

-- ---- an accepted original

stored_is : STORED ≡ 268435456
stored_is = refl

not_below : (a b : ℕ) → b ≤ a → nat_lt a b ≡ false
not_below a b h = grind (arith, nat_tests)

-- no accepted file is longer than a folder holds
within : (o : List ℕ) (x : Object) → reads o ≡ Ok x → nat_lt STORED (length o) ≡ false
within o x is = not_below STORED (length o) (omega (arith, stored_is, accepted_small o x is))

read_back : {F : Type 0} (causes : Causes F) (n o : List ℕ) (x : Object) → has_mark o ≡ false → reads o ≡ Ok x → read_original causes n o ≡ Ok x
unfolding read_original
read_back causes n o x plain is = rw (within o x is, plain, is) refl

-- ---- a prelinked file, and any other

marked_file : {F : Type 0} (causes : Causes F) (n bytes : List ℕ) (m : form.Marked) → marked_in bytes ≡ Some m → IsFileOf causes n bytes (with_mark n bytes (Marked m))
unfolding original_in mark_in
marked_file causes n bytes m is =
    let of : IsFormOf bytes m = nothing_else_is_read bytes m is in
    let original : original_in bytes ≡ m.original = ap (original_or_file bytes) is in
    record {
      original = original;
      object = ap (read_original causes n) original ∙ read_back causes n m.original m.object of.plain of.firm.accepted;
      version = number_of m.version;
      mark = ap (option_map mark_of) is;
      sums = λ library. elim of.mark [ inl mark ↦ mark.checksum | inr program ↦ absurd (false≢true (sym program.program ∙ library)) ];
      stored = refl;
      rows = ap marked_conflicts is;
    }

plain_file : {F : Type 0} (causes : Causes F) (n bytes : List ℕ) (x : Object) → marked_in bytes ≡ None → has_mark bytes ≡ false → reads bytes ≡ Ok x → IsFileOf causes n bytes (with_mark n bytes (Plain x))
unfolding original_in mark_in
plain_file causes n bytes x none plain is =
    let original : original_in bytes ≡ bytes = ap (original_or_file bytes) none in
    record {
      original = original;
      object = ap (read_original causes n) original ∙ read_back causes n bytes x plain is;
      version = 0;
      mark = ap (option_map mark_of) none;
      sums = tt;
      stored = refl;
      rows = ap marked_conflicts none;
    }

plain_is : (r : Result Object Refusal) (file : File) → as_file r ≡ Ok file → (x : Object) × (r ≡ Ok x) × (Plain x ≡ file)
plain_is (Ok x) file e = (x, refl, ok_same (Plain x) file e)
plain_is (Err refusal) file e = absurd cc

file_is : {F : Type 0} (causes : Causes F) (n bytes : List ℕ) (file : File) → file_in bytes ≡ Ok file → IsFileOf causes n bytes (with_mark n bytes file)
unfolding file_in
file_is causes n bytes file is = by (marked_in bytes) refl is
  where
    by : (found : Option form.Marked) → marked_in bytes ≡ found → file_by bytes found ≡ Ok file → IsFileOf causes n bytes (with_mark n bytes file)
    by None none e =
        let p = unless_ok (has_mark bytes) BadMark (as_file (reads bytes)) file e in
        let q = plain_is (reads bytes) file p.1 in
        subst (λ (g : File). IsFileOf causes n bytes (with_mark n bytes g)) q.2 (plain_file causes n bytes q.0 none p.0 q.1)
    by (Some m) some e = subst (λ (g : File). IsFileOf causes n bytes (with_mark n bytes g)) (ok_same (Marked m) file e) (marked_file causes n bytes m some)

-- ---- a file as a load reads it

pub record IsReadAs {F : Type 0} (causes : Causes F) (name n bytes : List ℕ) (f : ObjectFile) : Type 0 where
  pub named : f.name ≡ n
  pub is : IsFileOf causes n bytes f
  pub loadable : IsLoadable name f

pub read_as : {F : Type 0} (causes : Causes F) (name n bytes : List ℕ) (f : ObjectFile) → read_in name n bytes ≡ Ok f → IsReadAs causes name n bytes f
unfolding read_in named loadable
read_as causes name n bytes f is =
    let p = bind_ok (because (of_file n) (file_in bytes) >>= λ file. Ok (with_mark n bytes file)) (loadable name) f is in
    let q = bind_ok (because (of_file n) (file_in bytes)) (λ file. Ok (with_mark n bytes file)) p.0 p.1 in
    let u = unless_ok (bytes_eq p.0.name name && is_library p.0.object.kind) (NotProgram p.0.name) (Ok p.0) f p.2 in
    let file : IsFileOf causes n bytes (with_mark n bytes q.0) = file_is causes n bytes q.0 (because_ok (of_file n) (file_in bytes) q.0 q.1) in
    let same : with_mark n bytes q.0 ≡ f = ok_same (with_mark n bytes q.0) p.0 q.2 ∙ ok_same p.0 f u.1 in
    record {
      named = read_named name n bytes f is;
      is = subst (λ (g : ObjectFile). IsFileOf causes n bytes g) same file;
      loadable = subst (λ (g : ObjectFile). IsLoadable name g) (ok_same p.0 f u.1) u.0;
    }
