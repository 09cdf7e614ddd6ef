use Rattle.std.proofs.Common.{◌≡◌, ◌<◌, ◌^◌, ◌++◌, length}
use Rattle.std.specs.Vec.Iter.{into_iter_items, into_iter_len}
use Rattle.pl_cli.specs.Weave.{runs_text}
use Rattle.pl_cli.proofs.weave_text.add_runs.Given as goal

abbrev pub invariant-loop-run : goal.invariant-loop-run
invariant-loop-run l = record {
  number : l.number ≡ length l.yielded;
  text : l.out.items ≡ l.fn.out.items ++ runs_text 0 l.yielded;
  all : l.yielded ++ into_iter_items l.run-iterator ≡ into_iter_items l.initial.run-iterator;
  left : into_iter_len l.run-iterator ≡ length (into_iter_items l.run-iterator);
  few : length (into_iter_items l.initial.run-iterator) < 2 ^ 64;
}
