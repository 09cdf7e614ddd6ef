use Rattle.std.proofs.Common.{[], ◌∷◌, ◌++◌, refl, ap, ◌∙◌}
use Rattle.std.proofs.lemmas.List.{map-append}
use Rattle.pl_folder.specs.Disk.{Move}
use Rattle.pl_folder.specs.Entries.{name_bytes}
use Rattle.pl_folder.specs.Replaying.{change_of, changes_of}
use Rattle.pl_folder.proofs.ReplayLemmas.{nothing_renamed, renamed_stands}
use Rattle.pl_folder.proofs.replay.Replay.rename.Goals as goal

pub returns-in_default : goal.returns-in_default
returns-in_default c = λ s is. nothing_renamed c.args.self.now (name_bytes c.args.from.now) c.file_of.result c.file_of.ensures c.in_default.is (name_bytes c.args.to.now) s is

pub returns : goal.returns
returns c = λ s is.
    renamed_stands c.args.self.now _ (name_bytes c.args.from.now) (name_bytes c.args.to.now) c.in-Some.file c.file_of.result c.file_of.ensures c.in-Some.is refl
    (ap changes_of c.in_ok-push.ensures.items
    ∙ map-append change_of c.args.self.now.changes.items _
    ∙ (λ i. changes_of c.args.self.now.changes.items ++ Move (c.copy.ensures i) (c.copy-2.ensures i) c.in-Some.file ∷ []))
    refl s is
