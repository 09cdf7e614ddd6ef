use Rattle.std.proofs.Common.{◌≡◌, ℕ, List, ap, subst, ◌∙◌}
use Rattle.std.proofs.lemmas.Result.{err_from_is_err_and, on_ok_weaker, IfErr-weaker}
use Rattle.pl_loader.specs.Loading.{Loading, IsLoadable}
use Rattle.pl_loader.proofs.GiveLaws.{give_lacks, give_refused, give_entered, give_stopped}
use Rattle.pl_loader.proofs.walk_files.WalkFiles.give.Goals as goal

pub returns-in_default-file-clause-err : goal.returns-in_default-file-clause-err
returns-in_default-file-clause-err c = give_lacks c.args.self.now c.in-Some.wanted.now c.in-Ok.name _ c.in-Some.ensures.name c.in_default-file.is c.in-Ok.ensures

pub returns-in_err-file-clause-err : goal.returns-in_err-file-clause-err
returns-in_err-file-clause-err c =
    let p = err_from_is_err_and c.from_residual.result c.from_residual.ensures.1 in
    let loaded : c.as_str.result.now ≡ c.args.self.now.name = c.as_str.ensures ∙ ap (λ (l : Loading). l.name) c.self.view_is in
    rw (p.1, p.2)
    (give_refused c.args.self.now c.in-Some.wanted.now c.in-Some-file.given _ _ c.in-Some.ensures.name c.in-Some-file.is
    (rw (loaded, c.in-Ok.ensures) at c.in_err-file.ensures.exact))

pub enter-requires-clause-loadable : goal.enter-requires-clause-loadable
enter-requires-clause-loadable c =
    let loaded : c.as_str.result.now ≡ c.args.self.now.name = c.as_str.ensures ∙ ap (λ (l : Loading). l.name) c.self.view_is in
    subst (λ (n : List ℕ). IsLoadable n c.in_ok-file.file) loaded c.in_ok-file.ensures.loadable

pub returns-clause-ok : goal.returns-clause-ok
returns-clause-ok c =
    let loaded : c.as_str.result.now ≡ c.args.self.now.name = c.as_str.ensures ∙ ap (λ (l : Loading). l.name) c.self.view_is in
    on_ok_weaker c.enter.result
    (λ entry. give_entered c.args.self.now c.enter.new.self c.in-Some.wanted.now c.in-Some-file.given c.in_ok-file.file _ c.in-Some.ensures.name c.in-Some-file.is
    (rw (loaded, c.in-Ok.ensures) at c.in_ok-file.ensures.exact) entry)
    c.enter.ensures.ok

pub returns-clause-err : goal.returns-clause-err
returns-clause-err c =
    let loaded : c.as_str.result.now ≡ c.args.self.now.name = c.as_str.ensures ∙ ap (λ (l : Loading). l.name) c.self.view_is in
    IfErr-weaker c.enter.result _ _
    (λ f stops. give_stopped c.args.self.now c.in-Some.wanted.now c.in-Some-file.given c.in_ok-file.file _ f c.in-Some.ensures.name c.in-Some-file.is
    (rw (loaded, c.in-Ok.ensures) at c.in_ok-file.ensures.exact) stops)
    c.enter.ensures.err
