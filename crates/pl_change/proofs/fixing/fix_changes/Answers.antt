use Rattle.std.proofs.Common.{◌≡◌, ◌<◌, ◌^◌, ℕ, List, length, sym, subst}
use Rattle.std.specs.Prelude.{Err, Ok}
use Rattle.pl_base.proofs.NameLaws.{valid_length}
use Rattle.pl_pie.proofs.HoldLaws.{then_holds, unasked}
use Rattle.pl_folder.specs.Calls.{Calls}
use Rattle.pl_journal.specs.Parts.{Looking}
use Rattle.pl_change.specs.Answers.{BatchMeansAlone, ending}
use Rattle.pl_change.specs.Replace.{FindsFixed, fixed_as, fixed_of}
use Rattle.pl_change.proofs.FindLemmas.{at_err, reads_on}
use Rattle.pl_change.proofs.ReplaceLemmas.{by_made, by_made_err, is_fixed, made_put, no_original, not_fixed, still, told_address, unmade}
use Rattle.pl_change.proofs.fixing.fix_changes.Goals as goal

pub fixed_of-requires-clause-few : goal.fixed_of-requires-clause-few
fixed_of-requires-clause-few g c = subst (λ (xs : List ℕ). length xs < 2 ^ 32) (sym c.as_slice.ensures) c.in_ok-original.ensures.small

pub put_fitting-requires : goal.put_fitting-requires
put_fitting-requires g c = valid_length c.args.name.now c.in_ok-original.ensures.valid

-- ---- the original is not there

pub returns-in_err-original-clause-found : goal.returns-in_err-original-clause-found
returns-in_err-original-clause-found g c = unasked (λ choose.
    let seen = g.D.Folder.seen in
    let a = seen c.args.folder.now in
    let name = c.args.name.now in
    let fault = c.in_err-original.field-0.0 in
    at_err (λ r. FindsFixed choose name r a (seen c.take_original.new.folder)) c.from_residual.result fault c.from_residual.ensures.1
    (record { found = by_made_err fault (no_original (fixed_as choose name) name fault c.in_err-original.ensures.found); told = tt }))

pub returns-in_err-original-clause-looks : goal.returns-in_err-original-clause-looks
returns-in_err-original-clause-looks g c =
    let seen = g.D.Folder.seen in
    at_err (λ r. Calls (ending r) Looking (seen c.args.folder.now) (seen c.take_original.new.folder)) c.from_residual.result c.in_err-original.field-0.0 c.from_residual.ensures.1 c.in_err-original.ensures.found.calls

-- ---- it is not fixed

pub returns-in_err-program-clause-found : goal.returns-in_err-program-clause-found
returns-in_err-program-clause-found g c = then_holds c.in_err-program.ensures.means (λ choose means.
    let seen = g.D.Folder.seen in
    let a = seen c.args.folder.now in
    let name = c.args.name.now in
    let original = c.in_ok-original.original in
    let fault = c.in_err-program.field-0.0 in
    let alone = subst (λ (xs : List ℕ). BatchMeansAlone (fixed_of choose name xs) (Err fault)) c.as_slice.ensures means in
    at_err (λ r. FindsFixed choose name r a (seen c.take_original.new.folder)) c.from_residual-in_err-program.result fault c.from_residual-in_err-program.ensures.1
    (record { found = by_made_err fault (unmade (fixed_as choose name) name original c.in_ok-original.ensures.found fault (not_fixed choose name original fault alone)); told = tt }))

pub returns-in_err-program-clause-looks : goal.returns-in_err-program-clause-looks
returns-in_err-program-clause-looks g c =
    let seen = g.D.Folder.seen in
    let fault = c.in_err-program.field-0.0 in
    at_err (λ r. Calls (ending r) Looking (seen c.args.folder.now) (seen c.take_original.new.folder)) c.from_residual-in_err-program.result fault c.from_residual-in_err-program.ensures.1
    (still fault c.in_err-program.ensures.alone c.in_ok-original.ensures.found.calls)

-- ---- it is not put

pub returns-in_err-rows-clause-found : goal.returns-in_err-rows-clause-found
returns-in_err-rows-clause-found g c = then_holds c.in_ok-program.ensures.means (λ choose means.
    let seen = g.D.Folder.seen in
    let a = seen c.args.folder.now in
    let name = c.args.name.now in
    let original = c.in_ok-original.original in
    let program = c.in_ok-program.program in
    let fault = c.in_err-rows.field-0.0 in
    let is = subst (λ (xs : List ℕ). BatchMeansAlone (fixed_of choose name xs) (Ok program)) c.as_slice.ensures means in
    at_err (λ r. FindsFixed choose name r a (seen c.put_fitting.new.folder)) c.from_residual-in_err-rows.result fault c.from_residual-in_err-rows.ensures.1
    (record { found = by_made_err fault (made_put (fixed_as choose name) name original c.in_ok-original.ensures.found program.bytes (is_fixed choose name original program is) (Err fault) c.in_err-rows.ensures.found); told = tt }))

pub returns-in_err-rows-clause-looks : goal.returns-in_err-rows-clause-looks
returns-in_err-rows-clause-looks g c =
    let seen = g.D.Folder.seen in
    at_err (λ r. Calls (ending r) Looking (seen c.args.folder.now) (seen c.put_fitting.new.folder)) c.from_residual-in_err-rows.result c.in_err-rows.field-0.0 c.from_residual-in_err-rows.ensures.1
    (reads_on c.in_ok-original.ensures.found.calls c.in_err-rows.ensures.found.calls)

-- ---- it is

pub returns-clause-found : goal.returns-clause-found
returns-clause-found g c = then_holds c.in_ok-program.ensures.means (λ choose means.
    let name = c.args.name.now in
    let original = c.in_ok-original.original in
    let program = c.in_ok-program.program in
    let is = subst (λ (xs : List ℕ). BatchMeansAlone (fixed_of choose name xs) (Ok program)) c.as_slice.ensures means in
    record {
      found = by_made (record { rows = c.in_ok-rows.rows; address = program.address })
          (made_put (fixed_as choose name) name original c.in_ok-original.ensures.found program.bytes (is_fixed choose name original program is) (Ok c.in_ok-rows.rows) c.in_ok-rows.ensures.found);
      told = λ told. told_address choose name original program is (g.D.Folder.seen c.args.folder.now).files (c.in_ok-original.ensures.found.means told);
    })

pub returns-clause-looks : goal.returns-clause-looks
returns-clause-looks g c = reads_on c.in_ok-original.ensures.found.calls c.in_ok-rows.ensures.found.calls
