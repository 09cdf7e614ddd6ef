use Rattle.std.proofs.Common.{◌≡◌, ◌≤◌, take}
use Rattle.std.specs.Prelude.{fold, min}
use Rattle.pl_elf.specs.declared.constants.TheConstants.{ADDRESS_LIMIT}
use Rattle.pl_loader.proofs.bounds.lowest_address.Given as goal

abbrev pub invariant-loop-segment : goal.invariant-loop-segment
invariant-loop-segment l = record {
  least : l.least ≡ fold (λ least s. min least s.vaddr) ADDRESS_LIMIT (take l.segment-index l.loads);
  limit : l.least ≤ ADDRESS_LIMIT;
}
