use Rattle.std.proofs.Common.{◌≡◌, ℕ, List, [], ◌∷◌, ◌++◌, Some, refl, sym, subst, ap, ◌∙◌}
use Rattle.pl_scope.specs.Walking.{wants}
use Rattle.pl_scope.proofs.WalkLaws.{give_given}
use Rattle.pl_loader.specs.Loading.{Loading, IsLoadable}
use Rattle.pl_loader.proofs.StepLaws.{loading_more}
use Rattle.pl_loader.proofs.walk_files.WalkFiles.enter.Goals as goal

pub invariant_of-self-in-Ok : goal.invariant_of-self-in-Ok
invariant_of-self-in-Ok c =
    let before : Loading = record { name = c.self.inside.name; order = c.self.inside.order; files = c.self.inside.files.items } in
    let wanted : wants c.self.inside.order ≡ Some c.args.file.name = ap (λ (l : Loading). wants l.order) c.self.view_is ∙ c.requires.wanted in
    let loadable : IsLoadable c.self.inside.name c.args.file = subst (λ (n : List ℕ). IsLoadable n c.args.file) (ap (λ (l : Loading). l.name) (sym c.self.view_is)) c.requires.loadable in
    let pushed : c.push.new.self.items ≡ c.self.inside.files.items ++ c.args.file ∷ [] = rw (c.push.ensures.items, c.unwrap.ensures, c.reserve.ensures.items) refl in
    let count = give_given c.self.inside.order c.give.new.self c.args.file.name c.args.file.object wanted c.in-Ok.ensures.ok in
    rw pushed (loading_more before c.give.new.self c.args.file c.self.invariant wanted c.requires.read loadable c.in-Ok.ensures.ok count)
