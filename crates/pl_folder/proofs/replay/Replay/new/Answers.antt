use Rattle.std.proofs.Common.{◌≡◌, List, [], ◌++◌, drop, ap, sym, ◌∙◌}
use Rattle.std.proofs.lemmas.List.{append-nil}
use Rattle.pl_folder.specs.Entries.{entries_of}
use Rattle.pl_folder.specs.Replaying.{changes_of, contents_of}
use Rattle.pl_folder.specs.declared.file.File.{File}
use Rattle.pl_folder.proofs.ReplayLemmas.{binds_from, left_none, started_stands, whole_files}
use Rattle.pl_folder.proofs.replay.Replay.new.Goals as goal

pub returns : goal.returns
returns c =
    let items = c.files-file-items.result.now in
    let i = c.loop-i.i in
    let none : drop i items ≡ [] = left_none items i c.loop-i-test.false in
    started_stands _ (entries_of c.args.first.now.files.items) c.args.first.now.distinct
    (sym (ap (λ (fs : List File). changes_of c.loop-i.settled.items ++ binds_from i (entries_of fs)) none ∙ append-nil (changes_of c.loop-i.settled.items)) ∙ c.loop-i.invariant.settled ∙ ap (binds_from 0) c.files-file-items.ensures.entries)
    c.new.ensures.items
    (sym (ap (λ (fs : List File). contents_of c.loop-i.files.items ++ whole_files (entries_of fs)) none ∙ append-nil (contents_of c.loop-i.files.items)) ∙ c.loop-i.invariant.files ∙ ap whole_files c.files-file-items.ensures.entries)
