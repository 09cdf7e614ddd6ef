use Rattle.std.proofs.Common.{◌≡◌, ◌++◌, drop}
use Rattle.pl_form.specs.Words.{flat_of}
use Rattle.pl_form.proofs.program_form.flat_of.Given as goal

abbrev pub invariant-loop-fill : goal.invariant-loop-fill
invariant-loop-fill l = l.flat.items ++ flat_of (drop l.fill-index l.fills) ≡ flat_of l.fills
