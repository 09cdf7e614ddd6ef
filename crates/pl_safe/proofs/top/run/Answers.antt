use Rattle.std.proofs.Common.{map, string_bytes}
use Rattle.pl_cli.specs.Outside.{outside}
use Rattle.pl_cli.specs.Words.{command}
use Rattle.pl_safe.proofs.SafeLemmas.{stays_safe}
use Rattle.pl_safe.proofs.top.run.Goals as goal

pub returns-clause-safe : goal.returns-clause-safe
returns-clause-safe g c =
    let folder = g.D.Folder.seen in
    let input = g.S.Source.seen in
    let output = g.K.Sink.seen in
    stays_safe (command c.args.now (map string_bytes c.args.words.now)) (outside (folder c.args.folder.now) (input c.args.input.now) (output c.args.output.now))
    (outside (folder c.run.new.folder) (input c.run.new.input) (output c.run.new.output)) c.run.result (g.met.D.Folder.is_folder c.args.folder.now) c.run.ensures.ran
