use Rattle.std.proofs.Common.{List, drop, ◌+◌, subst}
use Rattle.std.specs.Prelude.{string_bytes}
use Rattle.pl_folder.specs.Calls.{Calls}
use Rattle.pl_folder.specs.Disk.{Name}
use Rattle.pl_folder.specs.Seen.{Broken, Done}
use Rattle.pl_journal.specs.Lists.{texts}
use Rattle.pl_journal.specs.Parts.{RemovesIfOwn, RemovesTo}
use Rattle.pl_journal.proofs.Endings.{passed_failed}
use Rattle.pl_journal.proofs.RecoverLemmas.{names_from}
use Rattle.pl_journal.proofs.RecoverParts.{none_removed, removes_on, removes_stop}
use Rattle.pl_journal.proofs.RealLemmas.{firmly_none, firmly_then}
use Rattle.pl_journal.proofs.recovering.remove_own.Goals as goal

pub returns-in_err-remove_if_own-clause-calls : goal.returns-in_err-remove_if_own-clause-calls
returns-in_err-remove_if_own-clause-calls g c =
    let names = c.args.names.now in
    let i = c.loop-name.name-index in
    let name = c.name-item.result in
    let left = subst (λ (l : List Name). Calls Done (RemovesTo (texts names) l) (g.D.Folder.seen c.args.held.now.folder) (g.D.Folder.seen c.loop-name.held.folder)) (names_from names i name c.loop-name-test.true c.name-item.is) c.loop-name.invariant.0 in
    let gone = subst (λ (n : Name). Calls Broken (RemovesIfOwn n) (g.D.Folder.seen c.loop-name.held.folder) (g.D.Folder.seen c.remove_if_own.new.held.folder)) c.as_str.ensures.value c.in_err-remove_if_own.ensures.calls in
    passed_failed _ c.from_residual.result c.from_residual.ensures.1 (removes_stop (texts names) (texts (drop (i + 1) names)) tt (removes_on (texts names) (string_bytes name) (texts (drop (i + 1) names)) left gone))

pub loop-name-preserved : goal.loop-name-preserved
loop-name-preserved g c =
    let names = c.args.names.now in
    let i = c.loop-name.name-index in
    let name = c.name-item.result in
    let left = subst (λ (l : List Name). Calls Done (RemovesTo (texts names) l) (g.D.Folder.seen c.args.held.now.folder) (g.D.Folder.seen c.loop-name.held.folder)) (names_from names i name c.loop-name-test.true c.name-item.is) c.loop-name.invariant.0 in
    let gone = subst (λ (n : Name). Calls Done (RemovesIfOwn n) (g.D.Folder.seen c.loop-name.held.folder) (g.D.Folder.seen c.remove_if_own.new.held.folder)) c.as_str.ensures.value c.in_ok-remove_if_own.ensures.calls in
    (removes_on (texts names) (string_bytes name) (texts (drop (i + 1) names)) left gone, firmly_then c.loop-name.invariant.1 c.in_ok-remove_if_own.ensures.real)

pub loop-name-init : goal.loop-name-init
loop-name-init g c = (none_removed (texts c.args.names.now) (g.D.Folder.seen c.args.held.now.folder), firmly_none (g.D.Folder.seen c.args.held.now.folder))

pub returns-in_err-remove_if_own-clause-real : goal.returns-in_err-remove_if_own-clause-real
returns-in_err-remove_if_own-clause-real g c = firmly_then c.loop-name.invariant.1 c.in_err-remove_if_own.ensures.real

pub returns-clause-real : goal.returns-clause-real
returns-clause-real g c = c.loop-name.invariant.1
