use Rattle.pl_change.specs.Answers.{Finds}
use Rattle.pl_change.specs.Folder.{cache_file}
use Rattle.pl_change.specs.declared.fault.BatchFault.TheVariants.{NoMemory}
use Rattle.pl_change.proofs.CacheLemmas.{cache_absent, cache_failed, cache_lacks, cache_large, cache_took, cache_untold}
use Rattle.pl_change.proofs.FindLemmas.{at_err}
use Rattle.pl_change.proofs.UndoLemmas.{items}
use Rattle.pl_change.proofs.cache.cache_file.Goals as goal

pub returns-in-Ok : goal.returns-in-Ok
returns-in-Ok g c = cache_took c.in-Ok.bytes c.in-Ok.ensures

pub returns-in_ok-no_cache-in-Err-NotThere : goal.returns-in_ok-no_cache-in-Err-NotThere
returns-in_ok-no_cache-in-Err-NotThere g c =
    cache_absent c.in_ok-no_cache-in-Err-NotThere.field-0 c.in_ok-no_cache-in-Err-NotThere.ensures (rw c.in-Err-NotThere.field-0-is at c.in-Err-NotThere.ensures)

pub returns-in_err-no_cache-in-Err-NotThere : goal.returns-in_err-no_cache-in-Err-NotThere
returns-in_err-no_cache-in-Err-NotThere g c =
    let seen = g.D.Folder.seen in
    at_err (λ r. Finds (cache_file (seen c.args.folder.now).files) items r (seen c.args.folder.now) (seen c.take.new.self)) c.from_residual.result NoMemory c.from_residual.ensures.1
    (cache_untold (rw c.in-Err-NotThere.field-0-is at c.in-Err-NotThere.ensures))

pub returns-in-Err-TooLarge : goal.returns-in-Err-TooLarge
returns-in-Err-TooLarge g c = cache_large (rw c.in-Err-TooLarge.field-0-is at c.in-Err-TooLarge.ensures)

pub returns-in-Err-Failed : goal.returns-in-Err-Failed
returns-in-Err-Failed g c = cache_failed (rw c.in-Err-Failed.field-0-is at c.in-Err-Failed.ensures)

pub returns-in-Err-NoMemory : goal.returns-in-Err-NoMemory
returns-in-Err-NoMemory g c = cache_lacks (rw c.in-Err-NoMemory.field-0-is at c.in-Err-NoMemory.ensures)
