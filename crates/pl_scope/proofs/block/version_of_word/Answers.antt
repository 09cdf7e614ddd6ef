use Rattle.std.proofs.Common.{◌∙◌, subst, Option}
use Rattle.std.specs.Borrow.{Bor}
use Rattle.pl_scope.specs.Block.{AreVersionsOf}
use Rattle.pl_scope.specs.declared.version_index.VersionIndex.{VersionIndex}
use Rattle.pl_scope.proofs.VersionIndexLaws.{version_found}
use Rattle.pl_scope.proofs.block.version_of_word.Goals as goal

pub returns-in-Some : goal.returns-in-Some
returns-in-Some c =
    let block = c.args.block.now in
    c.name_of.ensures ∙ version_found block.object.now.versions c.in-Some.versions.now c.args.word (subst (λ (x : Option (Bor VersionIndex)). AreVersionsOf block.object.now x) c.in-Some.is c.requires.versions)
