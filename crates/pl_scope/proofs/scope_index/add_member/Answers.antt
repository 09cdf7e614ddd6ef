use Rattle.pl_scope.proofs.ScopeIndexLaws.{member_done, member_last, member_more, member_none, no_last}
use Rattle.pl_scope.proofs.scope_index.add_member.Goals as goal

pub loop-entry-init : goal.loop-entry-init
loop-entry-init c = record { so_far = member_none c.args.own.now c.args.member c.args.members.now.items; last = no_last c.args.member c.args.members.now.items }

pub loop-entry-preserved : goal.loop-entry-preserved
loop-entry-preserved c =
    let key = c.name_part-key.result in
    let front = c.loop-entry.members.items in
    let new = c.add_key.new.members.items in
    let added = c.in_ok-add_key.ensures in
    record {
      so_far = member_more c.args.own.now c.args.member c.loop-entry.entry-index _ key c.loop-entry.last c.args.members.now.items front new c.name_part-key.ensures added c.loop-entry.invariant.so_far c.loop-entry.invariant.last;
      last = member_last c.args.member key c.loop-entry.last front new added c.loop-entry.invariant.last;
    }

pub returns : goal.returns
returns c = member_done c.args.own.now c.args.member c.loop-entry.entry-index c.args.members.now.items c.loop-entry.members.items c.loop-entry-test.false c.loop-entry.invariant.so_far
