use Rattle.std.proofs.Common.{sym, ◌∙◌}
use Rattle.pl_pie.proofs.CallLaws.{pie_other}
use Rattle.pl_pie.proofs.pie.is_pie.Goals as goal

pub returns-then-not-has_pie_type : goal.returns-then-not-has_pie_type
returns-then-not-has_pie_type c = sym (pie_other c.args.bytes.now (sym c.has_pie_type.ensures ∙ c.if-not-has_pie_type.true))
