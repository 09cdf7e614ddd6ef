use Rattle.std.proofs.Common.{List, ℕ, ap, ◌∙◌}
use Rattle.pl_folder.specs.InMemory.{quiet_files}
use Rattle.pl_cli.specs.Demo.{begins_fast, load}
use Rattle.pl_cli.proofs.DemoLemmas.{tells_fast}
use Rattle.pl_cli.proofs.demo.load_of.Goals as goal

pub returns-clause-fast : goal.returns-clause-fast
returns-clause-fast c =
    c.begins_fast-fast.ensures ∙ ap (λ (text : List ℕ). begins_fast text) (c.deref.ensures.value ∙ c.in_ok-text.ensures.text) ∙ tells_fast (load (quiet_files c.args.folder.now) c.args.name.now)
