use Rattle.std.proofs.Common.{ℕ, subst}
use Rattle.std.specs.Prelude.{Err, Ok}
use Rattle.pl_io.specs.Seen.{HasReadAll}
use Rattle.pl_cli.specs.Came.{HasContent}
use Rattle.pl_texts.specs.Stops.{of_read_fault}
use Rattle.pl_cli.proofs.ContentLemmas.{unread, was_read}
use Rattle.pl_texts.proofs.StopLemmas.{at_err}
use Rattle.pl_cli.proofs.store.content.Goals as goal

pub returns-in_err-bytes-clause-content : goal.returns-in_err-bytes-clause-content
returns-in_err-bytes-clause-content g c =
    let seen = g.S.Source.seen in
    let fault = c.in_err-bytes.field-0.0 in
    at_err (λ r. HasContent c.args.kind r (seen c.args.input.now) (seen c.read_all.new.source)) c.from_residual.result (of_read_fault fault) c.from_residual.ensures.1
    (unread c.args.kind fault (subst (λ (most : ℕ). HasReadAll most (Err fault) (seen c.args.input.now) (seen c.read_all.new.source)) c.most_bytes.ensures c.in_err-bytes.ensures))

pub returns-clause-content : goal.returns-clause-content
returns-clause-content g c =
    let seen = g.S.Source.seen in
    was_read c.args.kind c.in_ok-bytes.bytes (subst (λ (most : ℕ). HasReadAll most (Ok c.in_ok-bytes.bytes) (seen c.args.input.now) (seen c.read_all.new.source)) c.most_bytes.ensures c.in_ok-bytes.ensures) c.stored_by.result c.stored_by.ensures.means
