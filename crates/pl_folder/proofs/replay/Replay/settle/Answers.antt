use Rattle.std.proofs.Common.{◌++◌, ap, ◌∙◌}
use Rattle.pl_folder.specs.Replaying.{changes_of, chosen_changes, contents_of, keeps, shown_files}
use Rattle.pl_folder.proofs.ReplayLemmas.{image_stands}
use Rattle.pl_folder.proofs.replay.Replay.settle.Goals as goal

pub returns : goal.returns
returns c = λ s is.
    image_stands c.args.self.now _ (keeps c.args.choice)
    (c.in_ok-keep.ensures ∙ ap (λ cs. changes_of c.args.self.now.settled.items ++ chosen_changes (keeps c.args.choice) 0 (changes_of cs)) c.deref.ensures.value)
    c.clear.ensures.items
    (c.in_ok-self.ensures ∙ ap (λ fs. shown_files (keeps c.args.choice) 0 (contents_of fs)) c.deref-2.ensures.value)
    s is
