use Rattle.std.proofs.Common.{refl, sym, ◌∙◌}
use Rattle.std.proofs.lemmas.Result.{IfOk-weaker}
use Rattle.pl_rewrite.proofs.OriginalLaws.{no_mark, put_mark}
use Rattle.pl_rewrite.proofs.rewriting.put_original.Goals as goal

pub returns-in_default : goal.returns-in_default
returns-in_default c = sym (no_mark c.args.taken.now (sym (c.in_default.ensures.read c.requires)))

pub returns : goal.returns
returns c =
    IfOk-weaker c.put.result _ _
    (λ row e. e ∙ put_mark c.args.taken.now c.in-Some.marked.now c.args.taken.now.name c.args.taken.now.bytes c.as_slice.result.now c.in_ok-original.original.items (c.in-Some.ensures.read c.requires) refl refl c.as_slice.ensures c.in_ok-original.ensures.items)
    c.put.ensures
