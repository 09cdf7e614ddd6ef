use Rattle.std.proofs.Common.{◌≡◌, ◌+◌, ◌≤◌, true, map, take, length}
use Rattle.std.specs.List.{All, zip}
use Rattle.pl_elf.specs.declared.constants.TheConstants.{ADDRESS_LIMIT}
use Rattle.pl_image.specs.Image.{ascends}
use Rattle.pl_loader.proofs.StandingLaws.{standing_of}
use Rattle.pl_loader.proofs.standing.standing_files.Given as goal

abbrev pub invariant-loop-file : goal.invariant-loop-file
invariant-loop-file l = record {
  so_far : l.loaded.items ≡ map standing_of (take (length l.yielded) (zip l.files l.places));
  ascend : All (λ o. ascends 0 o.pieces ≡ true) l.loaded.items;
  fit : All (λ o. All (λ l. l.start + l.size ≤ ADDRESS_LIMIT) o.mask.loads) l.loaded.items;
}
