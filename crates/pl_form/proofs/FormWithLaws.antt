-- The form by all that it is made of, and whether it is stored.
use Rattle.std.proofs.Common.{◌≡◌, ℕ, ◌<◌, true, false, List, length, Result, Ok, Err, refl, sym, ◌∙◌, inl, inr}
use Rattle.std.specs.Prelude.{nat_lt}
use Rattle.std.proofs.lemmas.Bool.{cases_Bool, ltb-true, true≢false}
use Rattle.pl_base.proofs.AnswerLaws.{unless_ok, ok_same}
use Rattle.pl_elf.specs.Kinds.{is_library, is_program, is_static}
use Rattle.pl_elf.specs.declared.kind.Kind.{Kind}
use Rattle.pl_elf.specs.declared.kind.Kind.TheVariants.{Program, Library, Static}
use Rattle.pl_form.specs.Library.{library_with}
use Rattle.pl_form.specs.Marks.{form_with}
use Rattle.pl_form.specs.Program.{program_with, stored}
use Rattle.pl_form.specs.declared.constants.TheConstants.{STORED}
use Rattle.pl_form.specs.declared.fault.FormFault.{FormFault}
use Rattle.pl_form.specs.declared.fault.FormFault.TheVariants.{TooLarge}
use Rattle.pl_form.specs.declared.file.Marked.{Marked}

-- what is neither a library nor static is a program
pub no_library : (kind : Kind) → is_library kind ≡ false → is_static kind ≡ false → is_program kind ≡ true
no_library Program a b = refl
no_library Library a b = absurd (true≢false a)
no_library Static a b = absurd (true≢false b)

pub library_is : (m : Marked) (flat : List ℕ) → is_library m.object.kind ≡ true → library_with m.original m.slot m.stamp m.list flat m.version ≡ form_with m flat
unfolding form_with
library_is m flat library = rw library refl

pub program_is : (m : Marked) (flat : List ℕ) → is_library m.object.kind ≡ false → program_with m.original m.list flat m.conflicts m.version ≡ form_with m flat
unfolding form_with
program_is m flat program = rw program refl

-- a form that is stored
pub stored_is : (form bytes : List ℕ) → stored form ≡ Ok bytes → bytes ≡ form
stored_is form bytes e = let p = unless_ok (nat_lt STORED (length form)) TooLarge (Ok form) bytes e in sym (ok_same form bytes p.1)

-- and one that is too large
pub stored_none : (form : List ℕ) → stored form ≡ Err TooLarge → STORED < length form
stored_none form e = elim (cases_Bool (nat_lt STORED (length form))) [
  | inl large ↦ ltb-true STORED (length form) large
  | inr small ↦ absurd (let same : stored form ≡ Ok form = rw small refl in let no : ◌≡◌ {A = Result (List ℕ) FormFault} (Ok form) (Err TooLarge) = sym same ∙ e in cc)
]
