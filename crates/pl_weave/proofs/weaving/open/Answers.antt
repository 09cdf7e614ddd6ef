use Rattle.std.proofs.Common.{◌≡◌, ◌∙◌, None, Ok, refl, ap, sym, rules}
use Rattle.pl_weave.specs.Opening.{wanted}
use Rattle.pl_weave.specs.Running.{files_in}
use Rattle.pl_weave.proofs.QuietLemmas.{never_broken}
use Rattle.pl_weave.proofs.WeavingLemmas.{never_large, opened_ok, opens_none, opens_one, policies_at}
use Rattle.pl_weave.proofs.weaving.open.Goals as goal

pub returns-then-is_none-clause-opens : goal.returns-then-is_none-clause-opens
returns-then-is_none-clause-opens g c files p choose agree have follows =
    let none : wanted c.loader.result.now ≡ None = search rules in
    opens_none choose c.args.loader c.args.weave.now files c.loader.result.now c.loader.ensures none

pub returns-in-Ok-clause-opens : goal.returns-in-Ok-clause-opens
returns-in-Ok-clause-opens g c files p choose agree have follows =
    let is : c.open.result ≡ Ok tt = search rules in
    opens_one p choose c.args.loader c.args.weave.now c.open.new.self (files_in c.args.held.now) files agree have follows (opened_ok c.open.result is c.open.ensures.opens)

pub returns-in-Ok-clause-same : goal.returns-in-Ok-clause-same
returns-in-Ok-clause-same g c = c.open.ensures.calls.files refl

pub returns-in-Ok-clause-policies : goal.returns-in-Ok-clause-policies
returns-in-Ok-clause-policies g c =
    let is : c.open.result ≡ Ok tt = search rules in
    policies_at c.args.loader c.args.weave.now c.open.new.self (files_in c.args.held.now) (opened_ok c.open.result is c.open.ensures.opens)
