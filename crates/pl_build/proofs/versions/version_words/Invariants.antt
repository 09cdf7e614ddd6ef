use Rattle.std.proofs.Common.{◌≡◌, ◌++◌, drop, map}
use Rattle.pl_build.specs.declared.fields.Field.TheVariants.{Half}
use Rattle.pl_build.specs.Fields.{fields}
use Rattle.pl_build.specs.Versions.{version_word, version_words}
use Rattle.pl_build.proofs.versions.version_words.Given as goal

abbrev pub invariant-loop-symbol : goal.invariant-loop-symbol
invariant-loop-symbol l = l.out.items ++ fields (map (λ s. Half (version_word l.plan s)) (drop l.symbol-index l.symbols)) ≡ version_words l.plan
