use Rattle.std.proofs.Common.{◌<◌, ◌≤◌, length, arith}
use Rattle.pl_scope.proofs.DefinerLaws.{list_more, list_none, list_sorted}
use Rattle.pl_scope.proofs.definers.list_of.Goals as goal

pub loop-symbol-init : goal.loop-symbol-init
loop-symbol-init c =
    let x = c.args.listed.now in
    list_none x.numbers.now x.versions.now x.object.now c.args.listing c.new-entries.result.items c.new-entries.ensures.items

pub loop-symbol-preserved : goal.loop-symbol-preserved
loop-symbol-preserved c =
    let x = c.args.listed.now in
    let lt : c.loop-symbol.symbol < length x.object.now.symbols = omega (arith, c.requires.few, c.len-symbol-end.ensures) in
    list_more x.numbers.now x.versions.now x.object.now c.args.listing c.loop-symbol.symbol c.loop-symbol.entries.items c.add_listed.new.entries.items lt c.in_ok-add_listed.ensures c.loop-symbol.invariant

pub returns : goal.returns
returns c =
    let x = c.args.listed.now in
    let le : length x.object.now.symbols ≤ c.loop-symbol.symbol = omega (arith, c.requires.few, c.len-symbol-end.ensures) in
    list_sorted x.numbers.now x.versions.now x.object.now c.args.listing c.loop-symbol.symbol c.loop-symbol.entries.items c.sort_entries.new.entries.items le c.loop-symbol.invariant c.sort_entries.ensures.same c.sort_entries.ensures.rising
