use Rattle.std.proofs.Common.{refl, ap, arith, ◌∙◌, ◌++◌}
use Rattle.pl_folder.specs.Entries.{name_bytes}
use Rattle.pl_folder.specs.declared.replay.FileContent.{FileContent}
use Rattle.pl_folder.proofs.ReplayLemmas.{appended_stands, nothing_appended, past_files}
use Rattle.pl_folder.proofs.replay.Replay.append.Goals as goal

pub returns-in_default : goal.returns-in_default
returns-in_default c = λ s whole is. nothing_appended c.args.self.now (name_bytes c.args.name.now) c.file_of.result c.file_of.ensures c.in_default.is c.args.bytes.now s is

pub returns-in_ok-extend_from_slice : goal.returns-in_ok-extend_from_slice
returns-in_ok-extend_from_slice c = λ s whole is.
    appended_stands c.args.self.now (name_bytes c.args.name.now) c.file_of.result c.file_of.ensures c.in-Some.file c.in-Some.is _ c.args.bytes.now c.index_mut-loaded.result.now
    (c.in_ok-extend_from_slice.ensures.items ∙ ap (λ (x : FileContent). x.bytes.items ++ c.args.bytes.now) c.index_mut-loaded.ensures.value)
    refl (omega (arith, c.if-file-len.true, c.len.ensures)) s is

pub returns-else-file-len : goal.returns-else-file-len
returns-else-file-len c = λ s whole is. past_files c.args.self.now (name_bytes c.args.name.now) c.file_of.result c.file_of.ensures c.in-Some.file c.in-Some.is (omega (arith, c.if-file-len.false, c.len.ensures)) s whole is
