use Rattle.std.proofs.Common.{◌∙◌, sym}
use Rattle.pl_scope.proofs.ScopeIndexLaws.{key_last, key_pushed}
use Rattle.pl_scope.proofs.scope_index.add_key.Goals as goal

pub returns-then-is_last : goal.returns-then-is_last
returns-then-is_last c = key_last c.args.last c.args.key c.args.member c.args.members.now.items (sym c.is_last.ensures ∙ c.if-is_last.true)

pub returns : goal.returns
returns c = key_pushed c.args.last c.args.key c.args.member c.args.members.now.items c.push.new.self.items c.in_ok-push.ensures.items
