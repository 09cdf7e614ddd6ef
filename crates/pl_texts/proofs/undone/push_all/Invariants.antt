use Rattle.std.proofs.Common.{◌≡◌, ◌++◌, take}
use Rattle.pl_texts.proofs.undone.push_all.Given as goal

abbrev pub invariant-loop-byte : goal.invariant-loop-byte
invariant-loop-byte l = l.line.items ≡ l.fn.line.items ++ take l.byte-index l.bytes
