use Rattle.std.proofs.Common.{◌∙◌, ap}
use Rattle.pl_batch.specs.Folder.{size_by}
use Rattle.pl_batch.proofs.EntryLemmas.{size_told}
use Rattle.pl_batch.proofs.reading.original_size.Goals as goal

pub returns : goal.returns
returns c =
    let taken = c.args.taken.now in
    c.size_by.ensures ∙ (ap (λ size. size_by size taken.entry) c.len.ensures ∙ size_told taken.bytes taken.entry c.requires)
