use Rattle.std.proofs.lemmas.Result.{on_ok_weaker}
use Rattle.std.proofs.Common.{◌∙◌}
use Rattle.pl_cli.proofs.WeaveTextLemmas.{at_start}
use Rattle.pl_cli.proofs.weave_text.add_end.Goals as goal

pub returns-in-Ok : goal.returns-in-Ok
returns-in-Ok g c =
    on_ok_weaker c.add_start.result (λ added choose follows. added ∙ at_start choose c.args.loader.now c.args.out.now.text.items c.in-Ok.started c.requires.finished (c.in-Ok.ensures.ok choose follows)) c.add_start.ensures
