use Rattle.std.proofs.Common.{◌≡◌, ◌++◌, drop}
use Rattle.pl_form.specs.Back.{all_within}
use Rattle.pl_form.proofs.windows.all_bytes.Given as goal

abbrev pub invariant-loop-window : goal.invariant-loop-window
invariant-loop-window l = l.all.items ++ all_within (drop l.window-index l.windows) l.bytes ≡ all_within l.windows l.bytes
