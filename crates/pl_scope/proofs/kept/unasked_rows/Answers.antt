use Rattle.pl_scope.specs.Scope.{objects}
use Rattle.pl_scope.proofs.KeptLaws.{more_rows}
use Rattle.pl_scope.proofs.kept.unasked_rows.Goals as goal

pub loop-member-preserved : goal.loop-member-preserved
loop-member-preserved c =
    more_rows (objects c.args.scope.now) c.loop-member.rows.items c.push.new.self.items c.in_ok-unasked_row.field-0 c.loop-member.member _ c.in_ok-push.ensures.items c.in_ok-unasked_row.ensures c.object.ensures.object c.loop-member.invariant
