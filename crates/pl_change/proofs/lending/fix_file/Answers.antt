use Rattle.std.proofs.Common.{◌≡◌, rules, subst}
use Rattle.pl_pie.proofs.HoldLaws.{then_holds}
use Rattle.pl_folder.specs.Calls.{Calls}
use Rattle.pl_folder.specs.Seen.{Seen}
use Rattle.pl_change.specs.Answers.{ending}
use Rattle.pl_change.specs.Commands.{Commands, outcome}
use Rattle.pl_change.specs.Replace.{fixing_meant}
use Rattle.pl_change.proofs.LentLemmas.{first_of, returned}
use Rattle.pl_change.proofs.lending.fix_file.Goals as goal

pub returns-clause-fixes : goal.returns-clause-fixes
returns-clause-fixes g c = then_holds c.fix_held.ensures.fixes (λ choose fixes.
    let call = fixes.calls in
    let same = first_of _ _ _ _ call.referent in
    let end : g.D.Folder.seen c.fix_held.new.held.folder.folder.now ≡ g.D.Folder.seen c.folder-1.given.0 = search rules in
    record {
      calls = subst (λ (s : Seen). Calls (ending c.fix_held.result) (Commands (fixing_meant choose c.args.name.now) (outcome c.fix_held.result)) (g.D.Folder.seen c.args.folder.now) s) end (returned _ _ call);
      told = fixes.told;
    })
