use Rattle.std.proofs.Common.{◌++◌, ◌∙◌}
use Rattle.std.specs.Prelude.{codes}
use Rattle.pl_gen.specs.Lines.{def_line, function_name, hexadecimal}
use Rattle.pl_gen.proofs.TextLaws.{joined}
use Rattle.pl_gen.proofs.lines.def_line.Goals as goal

pub returns : goal.returns
unfolding def_line
returns c = joined _ _ _ (codes "def " ++ function_name c.args.number) (codes " global func " ++ hexadecimal c.args.offset ++ codes " 8\n") c.in_ok-text.ensures c.in_ok-push_str.ensures.bytes (c.as_str.ensures.value ∙ c.in_ok-def_back.ensures)
