use Rattle.std.proofs.Common.{◌≡◌, ◌+◌, ◌≤◌, drop, map}
use Rattle.std.specs.Prelude.{sum_by, length}
use Rattle.pl_change.proofs.CopyLemmas.{File}
use Rattle.pl_change.specs.declared.room.TheConstants.{FOLDER}
use Rattle.pl_change.proofs.copying.are_bulky.Given as goal

-- what is left, and the files that are left, make up the whole
abbrev pub invariant-loop-file : goal.invariant-loop-file
invariant-loop-file l = (l.left + sum_by (λ (file : File). length file.1.items) l.files ≡ FOLDER + sum_by (λ (file : File). length file.1.items) (drop l.file-index l.files)) × (l.left ≤ FOLDER)
