use Rattle.std.proofs.Common.{ap, ◌∙◌}
use Rattle.pl_base.specs.Files.{files_of}
use Rattle.pl_folder.specs.Seen.{Seen}
use Rattle.pl_demo.proofs.set.no_folder.Goals as goal

pub returns : goal.returns
returns c = ap (λ (s : Seen). s.files) c.in_ok-folder.ensures ∙ ap files_of (c.as_slice.ensures.value ∙ c.new-files.ensures.items)
