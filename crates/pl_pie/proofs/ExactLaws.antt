-- Loosening gives nothing but programs of which the file is the fixed one.
use Rattle.std.proofs.Common.{◌≡◌, ℕ, Bool, true, false, List, Option, Some, None, Result, Ok, Err, refl, subst}
use Rattle.std.specs.Prelude.{◌&&◌, if◌then◌else◌}
use Rattle.std.specs.Str.{bytes_eq}
use Rattle.std.proofs.lemmas.Slice.Eq.{bytes_eq-Decides}
use Rattle.pl_elf.specs.Kinds.{is_program}
use Rattle.pl_object.specs.Reads.{reads}
use Rattle.pl_object.specs.declared.object.Object.{Object}
use Rattle.pl_object.specs.declared.refusal.Refusal.{Refusal}
use Rattle.pl_pie.specs.Pie.{pie}
use Rattle.pl_pie.specs.Fix.{fixed_bytes, fits, page_of, loosened, checked_by, checked, unfixed_by, unfixed}
use Rattle.pl_pie.specs.Laws.{UnfixIsExact}

abbrev Found : List ℕ → List ℕ → Type 0
Found file bytes = (o : Object) × (at : ℕ) × (pie bytes ≡ Some o) × (fits o at ≡ true) × (fixed_bytes at o bytes ≡ file)

pub unfix_exact : UnfixIsExact
unfolding unfixed checked
unfix_exact file bytes h = of_read (reads file) h
  where
    of_test : (at : ℕ) (l : List ℕ) (y : Object) → pie l ≡ Some y → (b c : Bool) → fits y at ≡ b → bytes_eq (fixed_bytes at y l) file ≡ c → (if b && c then Some l else None) ≡ Some bytes → Found file bytes
    of_test at l y is false c fit same e = absurd cc
    of_test at l y is true false fit same e = absurd cc
    of_test at l y is true true fit same e =
        let one : l ≡ bytes = cc in
        subst (λ (p : List ℕ). Found file p) one (y, at, is, fit, (bytes_eq-Decides (fixed_bytes at y l) file).0 same)

    of_pie : (at : ℕ) (l : List ℕ) (y : Option Object) → pie l ≡ y → checked_by at file l y ≡ Some bytes → Found file bytes
    of_pie at l None is e = absurd cc
    of_pie at l (Some y) is e = of_test at l y is (fits y at) (bytes_eq (fixed_bytes at y l) file) refl refl e

    of_kind : (x : Object) (b : Bool) → (if b then checked_by (page_of x) file (loosened x file) (pie (loosened x file)) else None) ≡ Some bytes → Found file bytes
    of_kind x false e = absurd cc
    of_kind x true e = of_pie (page_of x) (loosened x file) (pie (loosened x file)) refl e

    of_read : (r : Result Object Refusal) → unfixed_by file r ≡ Some bytes → Found file bytes
    of_read (Err fault) e = absurd cc
    of_read (Ok x) e = of_kind x (is_program x.kind) e
