use Rattle.std.proofs.Common.{◌∙◌}
use Rattle.pl_object.proofs.FindingLaws.{misses_is}
use Rattle.pl_object.proofs.symbol_clauses.misses_one.Goals as goal

pub returns : goal.returns
returns c =
    let hashes = c.deref.result.now in
    let found = c.in_ok-found.found.items in
    let told = misses_is c.args.table.now c.requires.formed c.requires.whole c.args.symbols.now hashes found (c.deref.ensures.value ∙ c.in_ok-hashes.ensures) c.in_ok-found.ensures.exact in
    c.any_unfound.ensures ∙ rw c.deref-2.ensures.value told
