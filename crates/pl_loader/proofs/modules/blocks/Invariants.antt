use Rattle.std.proofs.Common.{◌≡◌, map, take}
use Rattle.pl_loader.specs.Started.{block_of}
use Rattle.pl_loader.proofs.modules.blocks.Given as goal

abbrev pub invariant-loop-file : goal.invariant-loop-file
invariant-loop-file l = l.blocks.items ≡ map block_of (take l.file-index l.files)
