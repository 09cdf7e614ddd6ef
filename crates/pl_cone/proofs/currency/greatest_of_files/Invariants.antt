use Rattle.std.proofs.Common.{◌≡◌, take}
use Rattle.std.specs.Prelude.{fold, max}
use Rattle.pl_cone.specs.Currency.{greatest_of_file}
use Rattle.pl_cone.proofs.currency.greatest_of_files.Given as goal

abbrev pub invariant-loop-taken : goal.invariant-loop-taken
invariant-loop-taken l = l.most ≡ fold (λ most t. max most (greatest_of_file t)) l.last (take l.taken-index l.files)
