use Rattle.std.proofs.Common.{rules}
use Rattle.std.proofs.lemmas.Result.{on_err_weaker, on_ok_weaker}
use Rattle.pl_image.specs.Image.{text_of}
use Rattle.pl_image.proofs.TextLemmas.{text_done, text_stopped}
use Rattle.pl_image.proofs.image.Image.write_text.Goals as goal

pub returns : goal.returns
returns g c =
    let seen = g.K.Sink.seen in record {
      whole = on_ok_weaker c.flush.result (text_done (seen c.args.sink.now).got (seen c.add_objects.new.sink).got (seen c.flush.new.sink).got c.new-lines.result.items c.add_objects.new.lines.items (text_of c.args.self.now)
          c.new-lines.ensures c.in_ok-add_objects.ensures.passes) c.flush.ensures.wrote.whole;
      prefix = on_err_weaker c.flush.result (text_stopped (seen c.args.sink.now).got (seen c.add_objects.new.sink).got (seen c.flush.new.sink).got c.new-lines.result.items c.add_objects.new.lines.items (text_of c.args.self.now)
          c.new-lines.ensures c.in_ok-add_objects.ensures.passes) c.flush.ensures.wrote.prefix;
      tells = search rules;
      count = search rules;
    }
