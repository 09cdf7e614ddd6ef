use Rattle.std.proofs.Common.{◌≡◌, ℕ, List, sym, ap, ◌∙◌}
use Rattle.std.specs.Prelude.{Err, Result}
use Rattle.pl_pie.specs.Placed.{placed}
use Rattle.pl_pie.specs.declared.placing.Placing.TheVariants as placings
use Rattle.pl_pie.proofs.HoldLaws.{then_holds, unasked}
use Rattle.pl_change.specs.Answers.{BatchMeansAlone}
use Rattle.pl_change.specs.Replace.{fixed_by, fixed_of}
use Rattle.pl_change.specs.declared.cause.Cause.{Cause}
use Rattle.pl_change.specs.declared.cause.Cause.TheVariants.{NoPlace, NotPie}
use Rattle.pl_change.specs.declared.fixing.FixedFile.{FixedFile}
use Rattle.pl_change.proofs.fixing.fixed_of.Goals as goal

pub returns-in_ok-copy_of-in-NotPie-clause-means : goal.returns-in_ok-copy_of-in-NotPie-clause-means
unfolding fixed_of
returns-in_ok-copy_of-in-NotPie-clause-means g c = then_holds c.in_ok-fix_placed.ensures.placed (λ choose made.
    let is : placed choose c.args.original.now ≡ placings.NotPie = sym made ∙ c.in-NotPie.is in
    ap (fixed_by c.args.name.now) is ∙ ap (λ (n : List ℕ). Err (NotPie n)) (sym c.in_ok-copy_of-in-NotPie.ensures))

pub returns-in_ok-copy_of-in-NoPlace-clause-means : goal.returns-in_ok-copy_of-in-NoPlace-clause-means
unfolding fixed_of
returns-in_ok-copy_of-in-NoPlace-clause-means g c = then_holds c.in_ok-fix_placed.ensures.placed (λ choose made.
    let is : placed choose c.args.original.now ≡ placings.NoPlace = sym made ∙ c.in-NoPlace.is in
    ap (fixed_by c.args.name.now) is ∙ ap (λ (n : List ℕ). Err (NoPlace n)) (sym c.in_ok-copy_of-in-NoPlace.ensures))

pub returns-in-Fixed-clause-means : goal.returns-in-Fixed-clause-means
unfolding fixed_of
returns-in-Fixed-clause-means g c = then_holds c.in_ok-fix_placed.ensures.placed (λ choose made.
    ap (fixed_by c.args.name.now) (sym made ∙ c.in-Fixed.is) ∙ ap (λ (xs : List ℕ). fixed_by c.args.name.now (placings.Fixed c.in-Fixed.address xs)) (sym c.into_bytes.ensures))
