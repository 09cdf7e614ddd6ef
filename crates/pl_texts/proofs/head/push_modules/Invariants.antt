use Rattle.std.proofs.Common.{◌≡◌, ◌++◌, take}
use Rattle.std.specs.List.{flat_map}
use Rattle.pl_texts.specs.LoadText.{tls_line}
use Rattle.pl_texts.proofs.head.push_modules.Given as goal

abbrev pub invariant-loop-tls : goal.invariant-loop-tls
invariant-loop-tls l = l.out.items ≡ l.fn.out.items ++ flat_map tls_line (take l.tls-index l.modules)
