use Rattle.std.proofs.Common.{arith}
use Rattle.std.proofs.lemmas.List.{length-map}
use Rattle.pl_loader.specs.Started.{block_of}
use Rattle.pl_loader.proofs.modules.modules.Goals as goal

pub offsets-requires : goal.offsets-requires
offsets-requires c = rw (c.deref.ensures.value, c.in_ok-blocks.ensures) (omega (arith, length-map c.args.files.now block_of, c.requires))
