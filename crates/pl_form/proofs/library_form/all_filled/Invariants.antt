use Rattle.std.proofs.Common.{◌≡◌, ◌++◌, drop}
use Rattle.pl_form.specs.Words.{all_filled}
use Rattle.pl_form.proofs.library_form.all_filled.Given as goal

abbrev pub invariant-loop-index : goal.invariant-loop-index
invariant-loop-index l = l.out.items ++ all_filled l.bytes (drop l.index l.spots) (drop l.index l.words) ≡ all_filled l.bytes l.spots l.words
