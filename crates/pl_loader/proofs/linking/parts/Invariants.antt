use Rattle.std.proofs.Common.{◌≡◌, take}
use Rattle.pl_loader.specs.Loading.{parts_of}
use Rattle.pl_loader.proofs.linking.parts.Given as goal

abbrev pub invariant-loop-file : goal.invariant-loop-file
invariant-loop-file l = l.parts ≡ parts_of (take l.file-index l.files)
