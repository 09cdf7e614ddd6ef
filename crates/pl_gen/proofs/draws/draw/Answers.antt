use Rattle.std.proofs.Common.{arith, length, ap, ◌∙◌}
use Rattle.pl_gen.proofs.DrawLaws.{words_more, after_more, words_all, after_all, words_long}
use Rattle.pl_gen.proofs.draws.draw.Goals as goal

pub loop-turn-preserved : goal.loop-turn-preserved
loop-turn-preserved c = record {
  words = words_more c.args.count c.loop-turn._turn c.loop-turn.generator c.next_word-word.new.self c.next_word-word.result c.loop-turn.words.items c.push.new.self.items _ c.loop-turn-test.true c.next_word-word.ensures c.in_ok-push.ensures.items c.loop-turn.invariant.words;
  after = after_more c.args.count c.loop-turn._turn c.loop-turn.generator c.next_word-word.new.self c.next_word-word.result _ c.loop-turn-test.true c.next_word-word.ensures c.loop-turn.invariant.after;
}

pub returns-clause-words : goal.returns-clause-words
returns-clause-words c = words_all c.args.count c.loop-turn._turn c.loop-turn.generator c.loop-turn.words.items _ (omega arith) c.loop-turn.invariant.words

pub returns-clause-after : goal.returns-clause-after
returns-clause-after c = after_all c.args.count c.loop-turn._turn c.loop-turn.generator _ (omega arith) c.loop-turn.invariant.after

pub returns-clause-count : goal.returns-clause-count
returns-clause-count c =
    ap length (words_all c.args.count c.loop-turn._turn c.loop-turn.generator c.loop-turn.words.items _ (omega arith) c.loop-turn.invariant.words) ∙ words_long c.args.count c.args.generator.now
