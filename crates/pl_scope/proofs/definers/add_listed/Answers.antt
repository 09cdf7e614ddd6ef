use Rattle.std.proofs.Common.{◌∙◌, sym}
use Rattle.pl_scope.specs.Definers.{listed_key}
use Rattle.pl_scope.proofs.EntryLaws.{added_none, added_one}
use Rattle.pl_scope.proofs.definers.add_listed.Goals as goal

pub returns-in_default : goal.returns-in_default
returns-in_default c =
    let x = c.args.listed.now in
    added_none (listed_key x.numbers.now x.versions.now x.object.now c.args.listing c.args.symbol) c.args.symbol c.args.entries.now.items (sym c.listed_key.ensures ∙ c.in_default.is)

pub returns : goal.returns
returns c =
    let x = c.args.listed.now in
    added_one (listed_key x.numbers.now x.versions.now x.object.now c.args.listing c.args.symbol) c.args.symbol c.in-Some.key c.args.entries.now.items c.push.new.self.items (sym c.listed_key.ensures ∙ c.in-Some.is) c.in_ok-push.ensures.items
