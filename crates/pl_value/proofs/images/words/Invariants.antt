use Rattle.std.proofs.Common.{◌≡◌, take}
use Rattle.pl_value.specs.Linked as linked
use Rattle.pl_value.proofs.images.words.Given as goal

abbrev pub invariant-loop-meaning : goal.invariant-loop-meaning
invariant-loop-meaning l = l.patches ≡ linked.words (take l.meaning-index l.meanings)
