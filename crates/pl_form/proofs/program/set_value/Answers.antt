use Rattle.std.proofs.Common.{sym, ap, ◌∙◌}
use Rattle.pl_base.specs.Bytes.{put, bytes64}
use Rattle.pl_form.proofs.EntryLaws.{tag_put}
use Rattle.pl_form.proofs.program.set_value.Goals as goal

pub returns-then-word64-number : goal.returns-then-word64-number
returns-then-word64-number c =
    c.put64-then-word64-number.ensures ∙ ap (put 8 (bytes64 c.args.value)) c.put64.ensures ∙ tag_put c.args.number c.args.value c.args.row.now c.requires (sym c.word64.ensures ∙ c.if-word64-number.true)
