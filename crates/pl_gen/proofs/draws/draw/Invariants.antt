use Rattle.std.proofs.Common.{◌≡◌, ◌-◌, ◌++◌}
use Rattle.pl_gen.specs.Draws.{words, after}
use Rattle.pl_gen.proofs.draws.draw.Given as goal

abbrev pub invariant-loop-turn : goal.invariant-loop-turn
invariant-loop-turn l = record {
  words : l.words.items ++ words (l.count - l._turn) l.generator ≡ words l.count l.fn.generator;
  after : after (l.count - l._turn) l.generator ≡ after l.count l.fn.generator;
}
