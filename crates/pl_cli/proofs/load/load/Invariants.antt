use Rattle.std.proofs.Common.{◌≡◌, ◌-◌, true}
use Rattle.pl_folder.specs.Calls.{Calls}
use Rattle.pl_folder.specs.Seen.{Done}
use Rattle.pl_scope.specs.declared.constants.TheConstants.{MAX_MEMBERS}
use Rattle.pl_loader.specs.Walk.{IsUnderWay}
use Rattle.pl_texts.specs.declared.cause.Cause.TheVariants as causes
use Rattle.pl_cli.specs.Load.{loaded_object, loading_file}
use Rattle.pl_texts.specs.Looks.{takes}
use Rattle.pl_texts.proofs.LookLemmas.{AllBut, left_from}
use Rattle.pl_cli.proofs.load.load.Given as goal

abbrev pub invariant-loop-wanted : goal.invariant-loop-wanted
invariant-loop-wanted g l =
    let seen = g.D.Folder.seen in
    let object = loaded_object l.asked (seen l.fn.folder).files l.name in record {
      under_way : (seen l.fn.folder).tells ≡ true → IsUnderWay causes.Load (loading_file l.asked (seen l.fn.folder).files l.name) l.name l.loader.walk;
      busy : l.loader.busy ≡ l.fn.busy;
      policy : l.loader.policy ≡ l.placer;
      calls : Calls Done (AllBut (left_from object l.loader.walk.order) (takes object l.name)) (seen l.fn.folder) (seen l.folder);
    }

abbrev pub decreases-loop-wanted : goal.decreases-loop-wanted
decreases-loop-wanted g l = MAX_MEMBERS - l.loader.walk.order.given
