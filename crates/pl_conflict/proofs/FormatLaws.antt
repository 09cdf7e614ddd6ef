-- The format of prelinked files keeps what every format keeps.
use Rattle.std.proofs.Common.{◌≡◌, ℕ, true, false, List, Option, Some, None, Ok, refl, sym, ap, subst, ◌∙◌, inl, inr}
use Rattle.std.specs.Prelude.{◌⊎◌, nat_lt, length}
use Rattle.std.specs.Option.{option_map}
use Rattle.std.proofs.lemmas.Bool.{false≢true, true≢false}
use Rattle.pl_base.specs.Answers.{because, unless}
use Rattle.pl_base.proofs.AnswerLaws.{because_ok, ok_same, unless_ok}
use Rattle.pl_elf.specs.Kinds.{is_library, is_static}
use Rattle.pl_elf.specs.declared.kind.Kind.{Kind}
use Rattle.pl_elf.specs.declared.kind.Kind.TheVariants.{Program, Library, Static}
use Rattle.pl_form.specs.Files.{marked_in, original_in, original_or_file}
use Rattle.pl_form.specs.Marks.{has_mark, IsFormOf, IsMark}
use Rattle.pl_form.specs.declared.constants.TheConstants.{STORED}
use Rattle.pl_form.specs.declared.file.Marked.{Marked}
use Rattle.pl_form.proofs.FilesLaws.{forms_are_read, nothing_else_is_read, originals_are_bare}
use Rattle.pl_object.specs.Reads.{reads}
use Rattle.pl_object.specs.declared.object.Object.{Object}
use Rattle.law_sound.specs.Rule.{Mark}
use Rattle.pl_conflict.specs.Format.{Causes, mark_of, mark_in, read_original, FormatIsKept}
use Rattle.pl_conflict.proofs.MadeLaws.{prelinked_forms}

-- ---- what is read of a form

some_mark : (o : Option Marked) (k : Mark) → option_map mark_of o ≡ Some k → (m : Marked) × (o ≡ Some m) × (mark_of m ≡ k)
some_mark None k e = absurd (no k e)
  where
    no : (k : Mark) → ◌≡◌ {A = Option Mark} None (Some k) → ⊥
    no k e = absurd cc
some_mark (Some m) k e = (m, refl, same m k e)
  where
    same : (m : Marked) (k : Mark) → ◌≡◌ {A = Option Mark} (Some (mark_of m)) (Some k) → mark_of m ≡ k
    same m k e = cc

original_is : (file : List ℕ) (m : Marked) → marked_in file ≡ Some m → original_in file ≡ m.original
unfolding original_in
original_is file m is = ap (original_or_file file) is

mark_is : (file : List ℕ) (m : Marked) → marked_in file ≡ Some m → mark_in file ≡ Some (mark_of m)
unfolding mark_in
mark_is file m is = ap (option_map mark_of) is

mark_from : (file : List ℕ) (k : Mark) → mark_in file ≡ Some k → (m : Marked) × (marked_in file ≡ Some m) × (mark_of m ≡ k)
unfolding mark_in
mark_from file k e = some_mark (marked_in file) k e

-- ---- kinds

library_is : (kind : Kind) → is_library kind ≡ true → kind ≡ Library
library_is Program e = absurd (false≢true e)
library_is Library e = refl
library_is Static e = absurd (false≢true e)

program_is : (kind : Kind) → is_library kind ≡ false → is_static kind ≡ false → kind ≡ Program
program_is Program e f = refl
program_is Library e f = absurd (true≢false e)
program_is Static e f = absurd (true≢false f)

pub read_is : {E : Type 0} (causes : Causes E) (n o : List ℕ) (x : Object) → read_original causes n o ≡ Ok x → reads o ≡ Ok x
unfolding read_original
read_is causes n o x is =
    let p = unless_ok (nat_lt STORED (length o)) (causes.large n) (unless (has_mark o) (causes.bad_mark n) (because (causes.refused n) (reads o))) x is in
    let q = unless_ok (has_mark o) (causes.bad_mark n) (because (causes.refused n) (reads o)) x p.1 in
    because_ok (causes.refused n) (reads o) x q.1

kinds_of : (file : List ℕ) (m : Marked) (k : Mark) (x : Object) → IsFormOf file m → mark_of m ≡ k → reads m.original ≡ Ok x → (x.kind ≡ Library) ⊎ ((x.kind ≡ Program) × (k.slot ≡ 0) × (k.stamp ≡ 0))
kinds_of file m k x form mark read =
    let same : m.object ≡ x = ok_same m.object x (sym form.firm.accepted ∙ read) in
    by m.object x form.mark form.firm.dynamic same
  where
    by : (y x : Object) → IsMark m → is_static m.object.kind ≡ false → m.object ≡ x → (x.kind ≡ Library) ⊎ ((x.kind ≡ Program) × (k.slot ≡ 0) × (k.stamp ≡ 0))
    by y x (inl library) dynamic same = inl (ap (λ (o : Object). o.kind) (sym same) ∙ library_is m.object.kind library.library)
    by y x (inr program) dynamic same = inr (
      ap (λ (o : Object). o.kind) (sym same) ∙ program_is m.object.kind program.program dynamic,
      ap (λ (j : Mark). j.slot) (sym mark) ∙ program.slot,
      ap (λ (j : Mark). j.stamp) (sym mark) ∙ program.stamp,
    )

-- ---- the whole

pub format_kept : {E : Type 0} → FormatIsKept E
unfolding mark_in
format_kept causes = record {
  bare = λ file. ap (option_map mark_of) (originals_are_bare file);
  original = λ m ms file is.
      let p = prelinked_forms m ms file is in
      original_is file p.made (forms_are_read file p.made p.bytes p.form) ∙ p.original;
  mark = λ m ms file is.
      let p = prelinked_forms m ms file is in
      mark_is file p.made (forms_are_read file p.made p.bytes p.form) ∙ ap (λ (k : Mark). Some k) p.mark;
  kinds = λ n file k x marked read.
      let p = mark_from file k marked in
      let form : IsFormOf file p.0 = nothing_else_is_read file p.0 p.1 in
      kinds_of file p.0 k x form p.2 (subst (λ (o : List ℕ). reads o ≡ Ok x) (original_is file p.0 p.1) (read_is causes n (original_in file) x read));
}
