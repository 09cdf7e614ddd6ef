use Rattle.std.proofs.Common.{◌≡◌, drop}
use Rattle.pl_base.specs.Windows.{are_in}
use Rattle.pl_form.proofs.windows.are_in.Given as goal

abbrev pub invariant-loop-window : goal.invariant-loop-window
invariant-loop-window l = are_in l.size (drop l.window-index l.windows) ≡ are_in l.size l.windows
