use Rattle.std.proofs.Common.{sym, ap, ◌∙◌}
use Rattle.pl_form.specs.Reading.{digest_kept}
use Rattle.pl_form.proofs.KeptDigestLaws.{kept_is, marked_small}
use Rattle.pl_form.proofs.digests.original_digest.Goals as goal

pub find_undo-requires : goal.find_undo-requires
find_undo-requires c = marked_small c.args.file.now c.args.marked.now c.requires

pub returns-in-Some : goal.returns-in-Some
returns-in-Some c =
    kept_is c.args.file.now c.args.marked.now c.in-Some.digest c.requires (sym (ap digest_kept c.in_ok-undo.ensures.exact) ∙ sym c.digest_kept.ensures ∙ c.in-Some.is)
