use Rattle.std.proofs.Common.{ap, ◌∙◌}
use Rattle.pl_form.specs.Files.{original_in, original_or_file}
use Rattle.pl_cone.proofs.taken.Taken.original.Goals as goal

pub returns-in-None : goal.returns-in-None
unfolding original_in
returns-in-None c = c.as_slice.ensures ∙ ap (original_or_file c.args.self.now.bytes) (c.in-None.ensures.read c.requires)

pub returns-in-Some : goal.returns-in-Some
unfolding original_in
returns-in-Some c = c.as_slice-in-Some.ensures ∙ ap (original_or_file c.args.self.now.bytes) (c.in-Some.ensures.read c.requires)
