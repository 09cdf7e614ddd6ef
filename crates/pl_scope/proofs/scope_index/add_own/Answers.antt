use Rattle.std.proofs.Common.{List, refl, subst}
use Rattle.pl_scope.specs.ScopeIndex.{IsMemberAdded}
use Rattle.pl_scope.specs.declared.entries.Entry.{Entry}
use Rattle.pl_scope.proofs.scope_index.add_own.Goals as goal

pub returns : goal.returns
returns c =
    let added = subst (λ (es : List Entry). IsMemberAdded es c.args.member c.args.index.now.members.items c.add_member.new.members.items) c.as_slice.ensures.value c.in_ok-add_member.ensures in
    record { numbers = refl; own = (c.in_ok-own.own, c.in_ok-push.ensures.items, c.in_ok-own.ensures, added) }
