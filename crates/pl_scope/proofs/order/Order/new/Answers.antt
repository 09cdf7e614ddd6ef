use Rattle.std.proofs.Common.{◌≡◌, ℕ, List, [], ◌∷◌, false, refl, sym, subst}
use Rattle.pl_scope.specs.Walk.{IsUnderWay, itself}
use Rattle.pl_scope.proofs.WalkLaws.{walk_begins}
use Rattle.pl_scope.proofs.order.Order.new.Goals as goal

pub returns-clause-begins : goal.returns-clause-begins
returns-clause-begins c =
    let names : c.push.new.self.items ≡ c.args.name.now ∷ [] = rw (c.in_ok-push.ensures.items, c.new-names.ensures.items, c.in_ok-copy_of.ensures) refl in
    λ files. subst (λ (all : List (List ℕ)). IsUnderWay itself files c.args.name.now [] (record { names = all; given = 0; program = false })) (sym names) (walk_begins itself files c.args.name.now)
