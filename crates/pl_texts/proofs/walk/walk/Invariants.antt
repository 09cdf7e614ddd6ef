use Rattle.std.proofs.Common.{◌-◌}
use Rattle.std.specs.List.{All}
use Rattle.pl_scope.specs.Scope.{IsAccepted}
use Rattle.pl_scope.specs.declared.constants.TheConstants.{MAX_MEMBERS}
use Rattle.pl_texts.specs.Order.{members_of}
use Rattle.pl_texts.proofs.MemberLemmas.{Walks}
use Rattle.pl_texts.proofs.OrderLemmas.{SoFar, Way}
use Rattle.pl_texts.proofs.walk.walk.Given as goal

abbrev pub invariant-loop-wanted : goal.invariant-loop-wanted
invariant-loop-wanted g l =
    let seen = g.D.Folder.seen in record {
      way : Way (seen l.fn.folder) l.name (members_of l.members.items) l.order;
      walks : Walks l.name (members_of l.members.items) l.order;
      accepted : All (λ m. IsAccepted m.object) l.members.items;
      calls : SoFar (seen l.fn.folder) (seen l.folder) l.name l.order;
    }

abbrev pub decreases-loop-wanted : goal.decreases-loop-wanted
decreases-loop-wanted g l = MAX_MEMBERS - l.order.given
