use Rattle.std.proofs.Common.{◌≡◌, ◌*◌, ◌++◌, map}
use Rattle.std.specs.List.{range_with_len}
use Rattle.pl_gen.specs.Draws.{after}
use Rattle.pl_gen.specs.Set.{seen, program}
use Rattle.pl_gen.proofs.set.push_programs.Given as goal

abbrev pub invariant-loop-index : goal.invariant-loop-index
invariant-loop-index l = record {
  files : seen l.files.items ≡ seen l.fn.files.items ++ map (program l.libraries l.fn.generator) (range_with_len 0 l.index);
  generator : l.generator ≡ after (131 * l.index) l.fn.generator;
}
