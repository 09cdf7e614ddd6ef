use Rattle.std.specs.Prelude.{Err}
use Rattle.std.proofs.Common.{◌≡◌, true, false, rules, sym, subst}
use Rattle.pl_base.specs.Names.{is_valid_name}
use Rattle.pl_folder.specs.Calls.{Calls}
use Rattle.pl_change.specs.Answers.{fault_ending}
use Rattle.pl_change.specs.Commands.{outcome, ready_for, stopped}
use Rattle.pl_change.specs.Starts.{Named, Starts}
use Rattle.pl_change.specs.declared.fault.BatchFault.{BatchFault}
use Rattle.pl_change.proofs.StartLemmas.{invalid_by, named_bad, named_valid, valid_start}
use Rattle.pl_change.proofs.starting.start_for.Goals as goal

pub returns-then-is_valid_name-clause-calls : goal.returns-then-is_valid_name-clause-calls
returns-then-is_valid_name-clause-calls g c =
    let valid : is_valid_name c.args.name.now ≡ true = search rules in
    valid_start c.args.name.now (outcome c.start-started.result) valid c.start-started.ensures.calls

pub returns-then-is_valid_name-clause-named : goal.returns-then-is_valid_name-clause-named
returns-then-is_valid_name-clause-named g c =
    let valid : is_valid_name c.args.name.now ≡ true = search rules in
    named_valid c.args.name.now c.start-started.result valid

pub returns-clause-named : goal.returns-clause-named
returns-clause-named g c = subst (λ (fault : BatchFault). Named {X = Unit {0}} c.args.name.now (Err fault)) (sym c.bad_name.ensures) (named_bad c.args.name.now (Unit {0}) c.start-started.result)

pub returns-clause-calls : goal.returns-clause-calls
returns-clause-calls g c =
    let seen = g.D.Folder.seen in
    let invalid : is_valid_name c.args.name.now ≡ false = search rules in
    subst (λ (fault : BatchFault). Calls (fault_ending fault) (Starts (ready_for c.args.name.now) (stopped fault)) (seen c.args.held.now.folder) (seen c.start-started.new.held.folder)) (sym c.bad_name.ensures)
    (invalid_by c.args.name.now c.start-started.result invalid c.start-started.ensures.calls)
