use Rattle.std.proofs.Common.{◌∙◌, sym}
use Rattle.pl_scope.specs.ShortIndex.{key_at}
use Rattle.pl_scope.proofs.EntryLaws.{added_none, added_one}
use Rattle.pl_scope.proofs.short_index.add_symbol.Goals as goal

pub returns-in_default : goal.returns-in_default
returns-in_default c = added_none (key_at c.args.object.now c.args.member c.args.symbol) c.args.symbol c.args.entries.now.items (sym c.key_at.ensures ∙ c.in_default.is)

pub returns : goal.returns
returns c =
    added_one (key_at c.args.object.now c.args.member c.args.symbol) c.args.symbol c.in-Some.key c.args.entries.now.items c.push.new.self.items (sym c.key_at.ensures ∙ c.in-Some.is) c.in_ok-push.ensures.items
