use Rattle.std.proofs.Common.{◌≡◌, ap, ◌∙◌, subst, rules}
use Rattle.pl_base.specs.Streams.{got_after, GotPrefix}
use Rattle.pl_base.proofs.ResultLaws.{OnErr-from}
use Rattle.pl_image.specs.Image.{text_of}
use Rattle.pl_texts.specs.LoadText.{head_text, end_text, load_text}
use Rattle.pl_texts.proofs.PartLemmas.{stopped_in_first, stopped_in_second, stopped_in_third, got_three}
use Rattle.pl_texts.proofs.write.write_start.Goals as goal

pub returns-in_err-write_all : goal.returns-in_err-write_all
unfolding load_text text_of
returns-in_err-write_all g c =
    let seen = g.K.Sink.seen in
    let s = c.args.started.now in
    let first = head_text s.fast s.objects s.modules s.entry in
    let head : c.deref.result.now ≡ first = c.deref.ensures.value ∙ c.in_ok-head.ensures in record {
      whole = search rules;
      prefix = OnErr-from _ _ (stopped_in_first first (text_of s.image) end_text (seen c.args.output.now).got (seen c.write_all.new.sink).got
          (subst (GotPrefix (seen c.args.output.now).got (seen c.write_all.new.sink).got) head c.in_err-write_all.ensures.prefix));
      early = search rules;
      count = search rules;
    }

pub returns-in_err-write_text : goal.returns-in_err-write_text
unfolding load_text text_of
returns-in_err-write_text g c =
    let seen = g.K.Sink.seen in
    let s = c.args.started.now in
    let first = head_text s.fast s.objects s.modules s.entry in
    let head : c.deref.result.now ≡ first = c.deref.ensures.value ∙ c.in_ok-head.ensures in record {
      whole = search rules;
      prefix = OnErr-from _ _ (stopped_in_second first (text_of s.image) end_text (seen c.args.output.now).got (seen c.write_all.new.sink).got (seen c.write_text.new.sink).got
          (c.in_ok-write_all.ensures.whole ∙ ap (got_after (seen c.args.output.now).got) head) c.in_err-write_text.ensures.prefix);
      early = search rules;
      count = search rules;
    }

pub returns-in_err-write_all-2 : goal.returns-in_err-write_all-2
unfolding load_text text_of
returns-in_err-write_all-2 g c =
    let seen = g.K.Sink.seen in
    let s = c.args.started.now in
    let first = head_text s.fast s.objects s.modules s.entry in
    let head : c.deref.result.now ≡ first = c.deref.ensures.value ∙ c.in_ok-head.ensures in record {
      whole = search rules;
      prefix = OnErr-from _ _ (stopped_in_third first (text_of s.image) end_text (seen c.args.output.now).got (seen c.write_all.new.sink).got (seen c.write_text.new.sink).got (seen c.write_all-2.new.sink).got
          (c.in_ok-write_all.ensures.whole ∙ ap (got_after (seen c.args.output.now).got) head) c.in_ok-write_text.ensures.whole c.in_err-write_all-2.ensures.prefix);
      early = search rules;
      count = search rules;
    }

pub returns : goal.returns
unfolding load_text text_of
returns g c =
    let seen = g.K.Sink.seen in
    let s = c.args.started.now in
    let first = head_text s.fast s.objects s.modules s.entry in
    let head : c.deref.result.now ≡ first = c.deref.ensures.value ∙ c.in_ok-head.ensures in record {
      whole = got_three first (text_of s.image) end_text (seen c.args.output.now).got (seen c.write_all.new.sink).got (seen c.write_text.new.sink).got (seen c.write_all-2.new.sink).got
          (c.in_ok-write_all.ensures.whole ∙ ap (got_after (seen c.args.output.now).got) head) c.in_ok-write_text.ensures.whole c.in_ok-write_all-2.ensures.whole;
      prefix = search rules;
      early = search rules;
      count = search rules;
    }
