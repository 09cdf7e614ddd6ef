use Rattle.std.proofs.Common.{refl, ap, arith}
use Rattle.pl_folder.specs.Entries.{name_bytes}
use Rattle.pl_folder.specs.declared.replay.FileContent.{FileContent}
use Rattle.pl_folder.proofs.ReplayLemmas.{firmed_stands, nothing_firm, past_files}
use Rattle.pl_folder.proofs.replay.Replay.firm.Goals as goal

pub returns-in_default : goal.returns-in_default
returns-in_default c = λ s whole is. nothing_firm c.args.self.now (name_bytes c.args.name.now) c.file_of.result c.file_of.ensures c.in_default.is s is

pub returns-then-file-len : goal.returns-then-file-len
returns-then-file-len c = λ s whole is.
    firmed_stands c.args.self.now (name_bytes c.args.name.now) c.file_of.result c.file_of.ensures c.in-Some.file c.in-Some.is _ c.index_mut.result.now
    (ap (λ (x : FileContent). x.bytes.items) c.index_mut.ensures.value)
    refl (omega (arith, c.if-file-len.true, c.len.ensures)) s is

pub returns-else-file-len : goal.returns-else-file-len
returns-else-file-len c = λ s whole is. past_files c.args.self.now (name_bytes c.args.name.now) c.file_of.result c.file_of.ensures c.in-Some.file c.in-Some.is (omega (arith, c.if-file-len.false, c.len.ensures)) s whole is
