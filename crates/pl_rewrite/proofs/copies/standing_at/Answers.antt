use Rattle.std.proofs.Common.{◌<◌, arith, length}
use Rattle.std.proofs.lemmas.Result.{IfOk-weaker}
use Rattle.pl_rewrite.proofs.PlaceLaws.{bytes_stand, one_loaded}
use Rattle.pl_rewrite.proofs.copies.standing_at.Goals as goal

pub one_of-loaded-requires : goal.one_of-loaded-requires
one_of-loaded-requires c = omega (arith, c.requires.some, c.requires.loaded.one_each)

pub read_loaded-requires : goal.read_loaded-requires
read_loaded-requires c = one_loaded c.args.filling.now 0 c.one_of-loaded.result.now c.requires.loaded (omega (arith, c.requires.some, c.requires.loaded.one_each)) c.one_of-loaded.ensures

pub returns : goal.returns
returns c =
    let some : 0 < length c.args.filling.now.loaded.now = omega (arith, c.requires.some, c.requires.loaded.one_each) in
    IfOk-weaker c.read_loaded.result _ _ (λ v read. bytes_stand c.args.filling.now 0 c.one_of-loaded.result.now c.requires.loaded some c.one_of-loaded.ensures c.args.reloc.now.address c.args.reloc.now.width v.items read) c.read_loaded.ensures
