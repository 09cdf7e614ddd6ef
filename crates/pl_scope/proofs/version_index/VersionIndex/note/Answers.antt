use Rattle.std.proofs.Common.{◌∙◌, sym}
use Rattle.pl_scope.proofs.VersionIndexLaws.{version_again, version_new}
use Rattle.pl_scope.proofs.version_index.VersionIndex.note.Goals as goal

pub returns-then-contains_key : goal.returns-then-contains_key
returns-then-contains_key c = version_again c.args.self.now c.args.row.now (sym c.contains_key.ensures ∙ c.if-contains_key.true)

pub returns : goal.returns
returns c =
    version_new c.args.self.now (record { names = c.insert.new.self }) c.args.row.now c.as_slice.result c.as_slice.ensures (sym c.contains_key.ensures ∙ c.if-contains_key.false) (c.in_ok-insert.ensures.updates).0
