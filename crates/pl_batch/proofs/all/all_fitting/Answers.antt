use Rattle.std.specs.Prelude.{Ok, Err}
use Rattle.pl_change.specs.Answers.{Finds}
use Rattle.pl_batch.specs.Changes.{changes_of}
use Rattle.pl_batch.specs.declared.all.AllMade.{AllMade}
use Rattle.pl_batch.specs.declared.run.Run.TheVariants.{All}
use Rattle.pl_batch.proofs.AllLemmas.{by_rows, by_rows_err, fits, reported, unfit}
use Rattle.pl_change.proofs.FindLemmas.{at_err}
use Rattle.pl_batch.proofs.all.all_fitting.Goals as goal

pub returns-in_err-made-clause-found : goal.returns-in_err-made-clause-found
returns-in_err-made-clause-found g c =
    let seen = g.D.Folder.seen in
    let fault = c.in_err-made.field-0.0 in
    at_err (λ r. Finds (changes_of (seen c.args.folder.now).files (All c.args.asked.now)) (λ (m : AllMade). m.rows) r (seen c.args.folder.now) (seen c.all_made.new.folder)) c.from_residual.result fault c.from_residual.ensures.1
    (by_rows_err fault (unfit c.args.asked.now fault c.in_err-made.ensures))

pub returns-in_err-rows-clause-found : goal.returns-in_err-rows-clause-found
returns-in_err-rows-clause-found g c =
    let seen = g.D.Folder.seen in
    let fault = c.in_err-rows.field-0.0 in
    at_err (λ r. Finds (changes_of (seen c.args.folder.now).files (All c.args.asked.now)) (λ (m : AllMade). m.rows) r (seen c.args.folder.now) (seen c.all_made.new.folder)) c.from_residual-in_err-rows.result fault c.from_residual-in_err-rows.ensures.1
    (by_rows_err fault (fits c.args.asked.now c.in_ok-made.made c.in_ok-made.ensures (Err fault) c.in_err-rows.ensures.means))

pub returns-clause-found : goal.returns-clause-found
returns-clause-found g c =
    let made = c.in_ok-made.made in
    by_rows (record { rows = c.in_ok-rows.rows; report = made.report }) (fits c.args.asked.now made c.in_ok-made.ensures (Ok c.in_ok-rows.rows) c.in_ok-rows.ensures.means)

pub returns-clause-report : goal.returns-clause-report
returns-clause-report g c = (reported c.args.asked.now c.in_ok-made.made c.in_ok-made.ensures).means
