use Rattle.std.proofs.Common.{◌∙◌, sym}
use Rattle.std.proofs.lemmas.Map.Text.{btree_map_updates_str}
use Rattle.pl_scope.proofs.NumberLaws.{number_new, number_there}
use Rattle.pl_scope.proofs.numbers.add_number.Goals as goal

pub returns-then-contains_key : goal.returns-then-contains_key
returns-then-contains_key c = number_there c.args.name.now c.args.numbers.now (sym c.contains_key.ensures ∙ c.if-contains_key.true)

pub returns : goal.returns
returns c =
    let updates = btree_map_updates_str c.args.name.now c.args.numbers.now c.insert.new.self _ c.in_ok-insert.ensures.updates in
    number_new c.args.name.now _ c.args.numbers.now c.insert.new.self (sym c.contains_key.ensures ∙ c.if-contains_key.false) updates
