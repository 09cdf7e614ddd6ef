use Rattle.std.proofs.Common.{◌≡◌, ℕ, List, subst}
use Rattle.std.specs.Prelude.{Ok, Err, MatchBool, ⊤}
use Rattle.pl_cache.specs.Reading.{is_memory}
use Rattle.pl_texts.specs.Finds.{HasPrinted}
use Rattle.pl_texts.specs.CacheText.{spelled}
use Rattle.pl_texts.specs.Stops.{of_cache_fault}
use Rattle.pl_texts.proofs.PrintLemmas.{absent_by, text_given, text_stopped, too_large_by}
use Rattle.pl_texts.proofs.StopLemmas.{at_err}
use Rattle.pl_texts.proofs.printing.print.Goals as goal

pub returns-in_err-spelled_text-in-Ok : goal.returns-in_err-spelled_text-in-Ok
returns-in_err-spelled_text-in-Ok g c =
    let seen = g.D.Folder.seen in
    let fault = c.in_err-spelled_text-in-Ok.field-0.0 in
    let stopped = subst (λ (text : List ℕ). MatchBool (is_memory fault) ⊤ (spelled text ≡ Err fault)) c.deref.ensures.value c.in_err-spelled_text-in-Ok.ensures in
    at_err (λ r. HasPrinted r (seen c.args.folder.now) (seen c.take.new.self)) c.from_residual.result (of_cache_fault fault) c.from_residual.ensures.1
    (text_stopped c.in-Ok.bytes fault c.in-Ok.ensures stopped)

pub returns-in_ok-spelled_text-in-Ok : goal.returns-in_ok-spelled_text-in-Ok
returns-in_ok-spelled_text-in-Ok g c =
    let text = c.in_ok-spelled_text-in-Ok.field-0 in
    text_given c.in-Ok.bytes text c.in-Ok.ensures (subst (λ (bytes : List ℕ). spelled bytes ≡ Ok text.items) c.deref.ensures.value c.in_ok-spelled_text-in-Ok.ensures)

pub returns-in_ok-no_cache_text-in-Err-NotThere : goal.returns-in_ok-no_cache_text-in-Err-NotThere
returns-in_ok-no_cache_text-in-Err-NotThere g c = absent_by c.in-Err-NotThere.field-0 c.in-Err-NotThere.field-0-is c.in_ok-no_cache_text-in-Err-NotThere.field-0 c.in-Err-NotThere.ensures c.in_ok-no_cache_text-in-Err-NotThere.ensures

pub returns-in-Err-TooLarge : goal.returns-in-Err-TooLarge
returns-in-Err-TooLarge g c = too_large_by c.in-Err-TooLarge.field-0 c.in-Err-TooLarge.field-0-is c.in-Err-TooLarge.ensures
