use Rattle.std.proofs.Common.{◌≡◌, None, sym, ap, ◌∙◌}
use Rattle.std.specs.Prelude.{slice_get}
use Rattle.pl_scope.specs.Walking.{wants}
use Rattle.pl_scope.specs.Walk.{itself}
use Rattle.pl_scope.proofs.WalkLaws.{walk_ends}
use Rattle.pl_scope.proofs.order.Order.wants.Goals as goal

pub returns-in-None-clause-ends : goal.returns-in-None-clause-ends
returns-in-None-clause-ends c =
    let none : slice_get c.self.inside.names.items c.self.inside.given ≡ None = sym (rw c.as_slice.ensures.value at c.in-None.ensures) in
    λ files name walked under_way. walk_ends itself files name walked c.args.self.now (sym (ap wants c.self.view_is) ∙ none) under_way
