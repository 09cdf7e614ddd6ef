use Rattle.std.proofs.Common.{◌≡◌, true, sym, ap, ◌∙◌}
use Rattle.std.proofs.lemmas.Result.{IfOk-weaker}
use Rattle.pl_loader.specs.Fast.{is_fast}
use Rattle.pl_loader.proofs.StandingLaws.{fast_marked, same_extents}
use Rattle.pl_loader.proofs.StartLaws.{fast_is}
use Rattle.pl_loader.proofs.starting.imaged.Goals as goal

pub returns-then-is_fast-clause-ok : goal.returns-then-is_fast-clause-ok
returns-then-is_fast-clause-ok c =
    let fast : is_fast c.args.files.now c.args.places.now ≡ true = ap (is_fast c.args.files.now) (sym c.as_slice.ensures) ∙ sym c.is_fast.ensures ∙ c.if-is_fast.true in
    let marked = fast_marked c.args.files.now c.args.places.now c.requires.one_each fast in
    IfOk-weaker c.standing.result _ _
    (λ image is. fast_is c.args.files.now c.args.places.now c.args.modules.now image fast is (same_extents c.args.files.now c.args.places.now c.requires.files marked c.requires.one_each))
    (rw c.as_slice-then-is_fast.ensures at c.standing.ensures.exact)
