use Rattle.std.proofs.Common.{rules, ◌≡◌, ◌+◌, ◌≤◌, sym, subst}
use Rattle.pl_place.specs.Left.{greatest_end}
use Rattle.pl_place.proofs.LeftLaws.{fits_below_end}
use Rattle.pl_place.proofs.holes.Holes.end.Goals as goal

pub returns-clause-most : goal.returns-clause-most
returns-clause-most c span start fits =
    let is : c.greatest_end.result ≡ greatest_end c.args.self.now = search rules in
    subst (λ end. start + span ≤ end) (sym is) (fits_below_end span start c.args.self.now fits)
