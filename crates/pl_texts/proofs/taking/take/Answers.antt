use Rattle.std.proofs.Common.{◌≡◌, rules, true, false, sym, subst}
use Rattle.std.specs.Prelude.{Err}
use Rattle.pl_base.specs.Names.{is_valid_name}
use Rattle.pl_base.proofs.NameLaws.{valid_length}
use Rattle.pl_texts.specs.Finds.{HasTaken}
use Rattle.pl_texts.specs.declared.stop.Stop.{Stop}
use Rattle.pl_texts.specs.declared.stop.Stop.TheVariants as stops
use Rattle.pl_texts.proofs.TakeLemmas.{taken_once, unasked, unasked_untold, untaken, untold}
use Rattle.pl_texts.proofs.StopLemmas.{at_err}
use Rattle.pl_texts.proofs.taking.take.Goals as goal

pub take-requires : goal.take-requires
take-requires g c =
    let valid : is_valid_name c.args.name.now ≡ true = search rules in
    valid_length c.args.name.now valid

pub returns-then-not-is_valid_name-clause-taken : goal.returns-then-not-is_valid_name-clause-taken
returns-then-not-is_valid_name-clause-taken g c =
    let a = g.D.Folder.seen c.args.folder.now in
    let invalid : is_valid_name c.args.name.now ≡ false = search rules in
    subst (λ (stop : Stop). HasTaken c.args.name.now (Err stop) a a) (sym c.in_ok-untaken.ensures.stop) (unasked c.args.name.now a invalid)

pub returns-in_err-untaken-clause-taken : goal.returns-in_err-untaken-clause-taken
returns-in_err-untaken-clause-taken g c =
    let a = g.D.Folder.seen c.args.folder.now in
    at_err (λ r. HasTaken c.args.name.now r a a) c.from_residual.result stops.NoMemory c.from_residual.ensures.1 (unasked_untold c.args.name.now a)

pub returns-in-Ok-clause-taken : goal.returns-in-Ok-clause-taken
returns-in-Ok-clause-taken g c =
    let valid : is_valid_name c.args.name.now ≡ true = search rules in
    taken_once c.args.name.now c.in-Ok.bytes valid c.in-Ok.ensures

pub returns-in_ok-untaken-in-Err-clause-taken : goal.returns-in_ok-untaken-in-Err-clause-taken
returns-in_ok-untaken-in-Err-clause-taken g c =
    let seen = g.D.Folder.seen in
    let valid : is_valid_name c.args.name.now ≡ true = search rules in
    subst (λ (stop : Stop). HasTaken c.args.name.now (Err stop) (seen c.args.folder.now) (seen c.take.new.self)) (sym c.in_ok-untaken-in-Err.ensures.stop) (untaken c.args.name.now c.in-Err.fault valid c.in-Err.ensures)

pub returns-in_err-untaken-in-Err-clause-taken : goal.returns-in_err-untaken-in-Err-clause-taken
returns-in_err-untaken-in-Err-clause-taken g c =
    let seen = g.D.Folder.seen in
    let valid : is_valid_name c.args.name.now ≡ true = search rules in
    at_err (λ r. HasTaken c.args.name.now r (seen c.args.folder.now) (seen c.take.new.self)) c.from_residual-in_err-untaken-in-Err.result stops.NoMemory c.from_residual-in_err-untaken-in-Err.ensures.1
    (untold c.args.name.now c.in-Err.fault c.in_err-untaken-in-Err.ensures.lacks valid c.in-Err.ensures)
