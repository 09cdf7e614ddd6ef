use Rattle.std.proofs.Common.{◌∙◌, ℕ, List, Err, ap, subst, sym}
use Rattle.pl_change.specs.Answers.{Finds, BatchMeansAlone}
use Rattle.pl_change.specs.Copied.{cache_there}
use Rattle.pl_change.specs.Folder.{cache_in}
use Rattle.pl_change.proofs.CopiedLemmas.{cache_copied, cached, large_cache, misspelled_cache, no_cache_copied}
use Rattle.pl_change.proofs.FindLemmas.{at_err}
use Rattle.pl_change.proofs.copying.take_cache.Goals as goal

pub returns-in_err-cache_in-in-Ok-clause-found : goal.returns-in_err-cache_in-in-Ok-clause-found
returns-in_err-cache_in-in-Ok-clause-found g c =
    let seen = g.D.Folder.seen in
    let fault = c.in_err-cache_in-in-Ok.field-0.0 in
    at_err (λ r. Finds (cache_there (seen c.args.folder.now).files) cached r (seen c.args.folder.now) (seen c.take.new.self)) c.from_residual.result fault c.from_residual.ensures.1
    (misspelled_cache c.in-Ok.bytes c.in-Ok.ensures fault (subst (λ (bytes : List ℕ). BatchMeansAlone (cache_in bytes) (Err fault)) c.deref.ensures.value c.in_err-cache_in-in-Ok.ensures))

pub returns-in_ok-cache_in-in-Ok-clause-found : goal.returns-in_ok-cache_in-in-Ok-clause-found
returns-in_ok-cache_in-in-Ok-clause-found g c = cache_copied c.in-Ok.bytes c.in-Ok.ensures c.in_ok-cache_in-in-Ok.field-0 (ap cache_in (sym c.deref.ensures.value) ∙ c.in_ok-cache_in-in-Ok.ensures)

pub returns-in-Err-NotThere-clause-found : goal.returns-in-Err-NotThere-clause-found
returns-in-Err-NotThere-clause-found g c = no_cache_copied (rw c.in-Err-NotThere.field-0-is at c.in-Err-NotThere.ensures)

pub returns-in-Err-TooLarge-clause-found : goal.returns-in-Err-TooLarge-clause-found
returns-in-Err-TooLarge-clause-found g c = large_cache (rw c.in-Err-TooLarge.field-0-is at c.in-Err-TooLarge.ensures)
