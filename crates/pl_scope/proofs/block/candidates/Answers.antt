use Rattle.std.proofs.Common.{subst}
use Rattle.pl_scope.specs.Block.{HaveName, IsPlace}
use Rattle.pl_scope.specs.declared.block.Place.{Place}
use Rattle.pl_scope.proofs.BlockLaws.{named_here}
use Rattle.pl_scope.proofs.block.candidates.Goals as goal

pub returns-in-Among : goal.returns-in-Among
returns-in-Among c =
    let block = c.args.block.now in
    let have : HaveName block c.in-Among.among.now = subst (λ (p : Place). IsPlace block p) c.in-Among.is c.requires.place in
    named_here block c.args.pick c.in-Among.among.now have

pub listed-requires-clause-block : goal.listed-requires-clause-block
listed-requires-clause-block c = c.requires

pub listed-requires-clause-lists : goal.listed-requires-clause-lists
listed-requires-clause-lists c = subst (λ (p : Place). IsPlace c.args.block.now p) c.in-Lists.is c.requires.place
