use Rattle.std.proofs.Common.{◌≡◌, drop}
use Rattle.std.specs.FinMap.{get}
use Rattle.pl_base.specs.Files.{files_of}
use Rattle.pl_cli.proofs.weave.file_of.Given as goal

-- the files up to here are of other names
abbrev pub invariant-loop-file : goal.invariant-loop-file
invariant-loop-file l = get (files_of (drop l.file-index l.files)) l.name ≡ get (files_of l.files) l.name
