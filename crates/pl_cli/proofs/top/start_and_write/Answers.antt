use Rattle.std.proofs.Common.{◌≡◌, ◌∙◌, refl, rules, sym, ap, subst}
use Rattle.std.specs.Prelude.{Result}
use Rattle.pl_base.specs.Answers.{because}
use Rattle.pl_base.specs.Streams.{GotPrefix}
use Rattle.pl_loader.specs.Started.{Start, IsStart, Starts}
use Rattle.pl_loader.specs.declared.fault.LoadFault.{LoadFault}
use Rattle.pl_loader.specs.declared.started.Started.{Started}
use Rattle.pl_cli.specs.Answer.{load_answer}
use Rattle.pl_texts.specs.declared.cause.Cause.TheVariants as causes
use Rattle.pl_texts.specs.LoadText.{load_text, start_of}
use Rattle.pl_cli.proofs.top.start_and_write.Goals as goal

same_start : (s : Started) (whole : Start) → IsStart s whole → start_of s ≡ whole
same_start s whole is = λ i. record {
  fast = is.fast i;
  objects = is.objects i;
  modules = is.modules i;
  entry = is.entry i;
  memory = λ address. is.bytes address i;
  extents = is.extents i;
}

meant_text : (s : Started) (meant : Result Start LoadFault) → Starts s meant → load_text (start_of s) ≡ (load_answer (because causes.Load meant)).text
meant_text s meant starts = ap load_text (same_start s starts.0 starts.2) ∙ ap (λ (m : Result Start LoadFault). (load_answer (because causes.Load m)).text) (sym starts.1)

pub returns-in-Err-Failed : goal.returns-in-Err-Failed
returns-in-Err-Failed g c = λ choose follows.
    let seen = g.K.Sink.seen in
    let prefix = subst (GotPrefix (seen c.args.output.now).got (seen c.write_start.new.output).got) (meant_text c.in-Ok.started _ (c.in-Ok.ensures.ok choose follows)) c.in-Err-Failed.ensures.prefix in
    record { prints = λ _. prefix; folder = refl; input = refl; count = search rules }
