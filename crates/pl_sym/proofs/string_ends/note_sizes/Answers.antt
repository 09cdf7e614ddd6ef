use Rattle.pl_sym.proofs.EndLaws.{sizes_begin}
use Rattle.pl_sym.proofs.string_ends.note_sizes.Goals as goal

pub loop-block-init : goal.loop-block-init
loop-block-init c = sizes_begin c.args.bytes.now c.args.sizes.now c.requires.len c.requires.none
