use Rattle.pl_scope.proofs.VersionIndexLaws.{versions_done, versions_more}
use Rattle.pl_scope.proofs.version_index.versions_of.Goals as goal

pub loop-row-init : goal.loop-row-init
loop-row-init c = c.new-index.ensures

pub loop-row-preserved : goal.loop-row-preserved
loop-row-preserved c =
    versions_more c.names_in-row-items.result.now c.loop-row.row-index c.row-item.result c.loop-row.index c.note.new.self c.loop-row-test.true c.row-item.is c.in_ok-note.ensures c.loop-row.invariant

pub returns : goal.returns
returns c =
    versions_done c.args.versions.now c.names_in-row-items.result.now c.loop-row.row-index c.loop-row.index c.names_in-row-items.ensures c.loop-row-test.false c.loop-row.invariant
