-- A program at an address has the image of what is read of the fixed file.
use Rattle.std.proofs.Common.{ℕ, List, ◌∷◌, sym, subst, ◌∙◌}
use Rattle.std.specs.List.{AllZip}
use Rattle.pl_base.proofs.AnswerLaws.{ok_same}
use Rattle.pl_object.specs.declared.object.Object.{Object}
use Rattle.pl_value.specs.Ordinary.{ordinary}
use Rattle.law_fixed.specs.Fixed.{fixed}
use Rattle.law_fixed.specs.Laws.{SameImage}
use Rattle.pl_pie.specs.Fix.{fixed_bytes}
use Rattle.pl_pie.specs.Laws.{FixedFileIsOrdinary, IsFixed, IsSameRange}
use Rattle.pl_pie.specs.Pie.{as_program}
use Rattle.pl_pie.proofs.FileLaws.{fixed_object_is_ordinary}
use Rattle.pl_pie.proofs.FixedIsRead.{fixed_is_read}
use Rattle.pl_pie.proofs.ImageAgain.{image_through}

like_tables : (at : ℕ) (o x : Object) → IsFixed at o x → AllZip IsSameRange x.tables (fixed at o).tables
unfolding fixed
like_tables at o x is = is.tables

pub file_is_ordinary : FixedFileIsOrdinary
file_is_ordinary at o x os bytes parts places modules are pie may read placed =
    let file : List ℕ = fixed_bytes at o bytes in
    let r = fixed_is_read bytes o at are pie may in
    let is : IsFixed at o x = subst (IsFixed at o) (ok_same r.0 x (sym r.1 ∙ read)) r.2 in
    let before = ordinary (o ∷ os) (as_program bytes ∷ parts) (at ∷ places) modules in
    subst (λ (y : Object). SameImage before (ordinary (y ∷ os) (file ∷ parts) (0 ∷ places) modules)) (sym is.same)
    (image_through (fixed at o) x.tables os (like_tables at o x is) before parts file places modules (fixed_object_is_ordinary at o os bytes parts places modules pie may placed))
