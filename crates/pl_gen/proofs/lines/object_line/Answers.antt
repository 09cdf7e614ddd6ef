use Rattle.std.proofs.Common.{◌++◌, refl}
use Rattle.std.specs.Prelude.{codes}
use Rattle.pl_gen.specs.Lines.{object_line, object_name}
use Rattle.pl_gen.proofs.TextLaws.{joined}
use Rattle.pl_gen.proofs.lines.object_line.Goals as goal

pub returns : goal.returns
unfolding object_line
returns c = joined _ _ _ (codes "def " ++ object_name c.args.index) (codes " global object 800 8\n") c.in_ok-text.ensures c.in_ok-push_str.ensures.bytes refl
