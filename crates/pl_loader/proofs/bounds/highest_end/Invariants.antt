use Rattle.std.proofs.Common.{◌≡◌, ◌+◌, ◌≤◌, take}
use Rattle.std.specs.Prelude.{fold, max}
use Rattle.pl_elf.specs.declared.constants.TheConstants.{ADDRESS_LIMIT}
use Rattle.pl_loader.proofs.bounds.highest_end.Given as goal

abbrev pub invariant-loop-segment : goal.invariant-loop-segment
invariant-loop-segment l = record {
  most : l.most ≡ fold (λ most s. max most (s.vaddr + s.memsz)) 0 (take l.segment-index l.loads);
  limit : l.place + l.most ≤ ADDRESS_LIMIT;
}
