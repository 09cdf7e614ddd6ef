use Rattle.std.proofs.Common.{◌*◌, arith, rules, inl, inr}
use Rattle.std.proofs.lemmas.Bool.{cases_order}
use Rattle.pl_base.proofs.ResultLaws.{OnErr-from}
use Rattle.pl_image.specs.Image.{own_memory}
use Rattle.pl_image.proofs.ByteLemmas.{own_none}
use Rattle.pl_image.proofs.TextLemmas.{words_begin, words_more, words_stopped, words_done}
use Rattle.pl_image.proofs.image.Image.add_object.Goals as goal

pub loop-number-init : goal.loop-number-init
loop-number-init g c =
    let next = c.next_word-number.ensures in record {
      number = next.within.1;
      passes = words_begin (own_memory c.args.self.now c.args.pieces.now) (g.K.Sink.seen c.args.sink.now).got c.args.lines.now.items c.next_word-number.result
          (λ a low high. elim (cases_order a (8 * c.pieces_begin.result)) [
            | inl same ↦ next.clear a (omega arith) high
            | inr other ↦ elim other [
              | inl less ↦ own_none c.args.self.now c.args.pieces.now c.requires a (c.pieces_begin.ensures.before a less)
              | inr more ↦ next.clear a (omega arith) high
            ]
          ]);
      tells = search rules;
      quiet = search rules;
    }

pub returns-in_err-add_word : goal.returns-in_err-add_word
returns-in_err-add_word g c =
    let seen = g.K.Sink.seen in
    let at = c.loop-number.invariant in record {
      passes = search rules;
      prefix = OnErr-from _ _ (words_stopped (own_memory c.args.self.now c.args.pieces.now) (seen c.args.sink.now).got (seen c.loop-number.sink).got (seen c.add_word.new.sink).got c.args.lines.now.items c.loop-number.lines.items
          c.loop-number.number at.number at.passes c.in_err-add_word.ensures.prefix);
      tells = search rules;
      count = search rules;
    }

pub loop-number-preserved : goal.loop-number-preserved
loop-number-preserved g c =
    let seen = g.K.Sink.seen in
    let at = c.loop-number.invariant in
    let next = c.next_word-number-in-loop-number in record {
      number = next.ensures.within.1;
      passes = words_more (own_memory c.args.self.now c.args.pieces.now) (seen c.args.sink.now).got (seen c.loop-number.sink).got (seen c.add_word.new.sink).got c.args.lines.now.items c.loop-number.lines.items c.add_word.new.lines.items
          c.loop-number.number next.result c.word.result c.word.ensures next.ensures.within.0 next.ensures.clear at.passes c.in_ok-add_word.ensures.passes;
      tells = search rules;
      quiet = search rules;
    }

pub returns : goal.returns
returns g c =
    let seen = g.K.Sink.seen in
    let at = c.loop-number.invariant in record {
      passes = words_done (own_memory c.args.self.now c.args.pieces.now) (seen c.args.sink.now).got (seen c.loop-number.sink).got c.args.lines.now.items c.loop-number.lines.items c.loop-number.number at.number
          (λ a low high. own_none c.args.self.now c.args.pieces.now c.requires a (c.pieces_end-end.ensures.past a (omega (arith, low, c.loop-number-test.false)))) at.passes;
      prefix = search rules;
      tells = search rules;
      count = search rules;
    }
