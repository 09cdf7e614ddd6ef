use Rattle.std.proofs.Common.{◌≤◌, length, arith}
use Rattle.pl_scope.proofs.ShortIndexLaws.{symbols_done, symbols_more, symbols_none}
use Rattle.pl_scope.proofs.short_index.add_symbols.Goals as goal

pub loop-symbol-init : goal.loop-symbol-init
loop-symbol-init c = symbols_none c.args.object.now c.args.member c.args.entries.now.items

pub loop-symbol-preserved : goal.loop-symbol-preserved
loop-symbol-preserved c =
    symbols_more c.args.object.now c.args.member c.loop-symbol.symbol c.args.entries.now.items c.loop-symbol.entries.items c.add_symbol.new.entries.items c.in_ok-add_symbol.ensures c.loop-symbol.invariant

pub returns : goal.returns
returns c =
    let o = c.args.object.now in
    let le : length o.symbols ≤ c.loop-symbol.symbol = omega (arith, c.requires.few, c.len-symbol-end.ensures) in
    symbols_done o c.args.member c.loop-symbol.symbol c.args.entries.now.items c.loop-symbol.entries.items le c.loop-symbol.invariant
