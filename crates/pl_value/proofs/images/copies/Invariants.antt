use Rattle.std.proofs.Common.{◌≡◌, take}
use Rattle.pl_image.specs.Image.{patched}
use Rattle.pl_value.specs.Linked as linked
use Rattle.pl_value.proofs.images.copies.Given as goal

abbrev pub invariant-loop-meaning : goal.invariant-loop-meaning
invariant-loop-meaning l = l.patches ≡ linked.copies (patched l.worded) (take l.meaning-index l.meanings)
