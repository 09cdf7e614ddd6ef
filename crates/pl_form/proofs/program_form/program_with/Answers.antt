use Rattle.std.proofs.Common.{sym, ◌∙◌}
use Rattle.std.proofs.lemmas.Bool.{ltb-true}
use Rattle.pl_form.proofs.FillLaws.{names_too_long, lists_too_long}
use Rattle.pl_form.proofs.program_form.program_with.Goals as goal

pub returns-then-has_long_names : goal.returns-then-has_long_names
returns-then-has_long_names c =
    names_too_long c.args.source.now.original.now c.args.source.now.object.now c.args.list.now c.args.flat.now c.args.conflicts.now c.args.version c.requires.source.firm.firm (ltb-true _ _ (sym c.has_long_names.ensures ∙ c.if-has_long_names.true))

pub returns-then-are_too_long : goal.returns-then-are_too_long
returns-then-are_too_long c =
    lists_too_long c.args.source.now.original.now c.args.source.now.object.now c.args.list.now c.args.flat.now c.args.conflicts.now c.args.version c.in_ok-lists.lists c.requires.source.firm.firm c.in_ok-lists.ensures (ltb-true _ _ (sym c.are_too_long.ensures ∙ c.if-are_too_long.true))
