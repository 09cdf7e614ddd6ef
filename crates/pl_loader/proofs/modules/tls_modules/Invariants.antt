use Rattle.std.proofs.Common.{◌≡◌, map, take}
use Rattle.pl_loader.specs.Started.{tls_module}
use Rattle.pl_loader.proofs.modules.tls_modules.Given as goal

abbrev pub invariant-loop-tls : goal.invariant-loop-tls
invariant-loop-tls l = l.rows ≡ map (tls_module l.files) (take l.tls-index l.modules)
