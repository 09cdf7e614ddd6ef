use Rattle.std.proofs.Common.{◌∙◌, ℕ, List, Ok, Err, ap, sym}
use Rattle.pl_pie.specs.Placed.{placed}
use Rattle.pl_pie.proofs.HoldLaws.{by_function}
use Rattle.pl_loader.specs.declared.fault.LoadFault.TheVariants as faults
use Rattle.pl_loader.specs.Given.{first_by, first_of}
use Rattle.pl_loader.proofs.given.first_file.Goals as goal

pub returns-in-NotPie-clause-means : goal.returns-in-NotPie-clause-means
unfolding first_of
returns-in-NotPie-clause-means g c choose follows =
    ap (first_by c.args.name.now c.args.bytes.items) (ap (placed choose) (sym c.deref.ensures.value) ∙ sym (by_function c.in_ok-fix_placed.ensures.placed choose follows) ∙ c.in-NotPie.is)
    ∙ ap (λ (file : List ℕ). Ok file) (sym c.new.ensures)

pub returns-in_ok-copy_of-in-NoPlace-clause-means : goal.returns-in_ok-copy_of-in-NoPlace-clause-means
unfolding first_of
returns-in_ok-copy_of-in-NoPlace-clause-means g c choose follows =
    ap (first_by c.args.name.now c.args.bytes.items) (ap (placed choose) (sym c.deref.ensures.value) ∙ sym (by_function c.in_ok-fix_placed.ensures.placed choose follows) ∙ c.in-NoPlace.is)
    ∙ ap (λ (n : List ℕ). Err (faults.NoPlace n)) (sym c.in_ok-copy_of-in-NoPlace.ensures)

pub returns-in_ok-fixed-in-Fixed-clause-means : goal.returns-in_ok-fixed-in-Fixed-clause-means
unfolding first_of
returns-in_ok-fixed-in-Fixed-clause-means g c choose follows =
    ap (first_by c.args.name.now c.args.bytes.items) (ap (placed choose) (sym c.deref.ensures.value) ∙ sym (by_function c.in_ok-fix_placed.ensures.placed choose follows) ∙ c.in-Fixed.is)
    ∙ ap (λ (file : List ℕ). Ok file) (sym c.in_ok-fixed-in-Fixed.ensures)
