use Rattle.std.proofs.Common.{◌≡◌, true, false, rules}
use Rattle.pl_base.specs.Names.{is_valid_name}
use Rattle.pl_change.proofs.UndoLemmas.{is_valid, not_valid}
use Rattle.pl_change.proofs.undoing.undo_if_valid.Goals as goal

pub returns-then-not-is_valid_name : goal.returns-then-not-is_valid_name
returns-then-not-is_valid_name g c =
    let invalid : is_valid_name c.args.name.now ≡ false = search rules in
    not_valid c.args.name.now (g.D.Folder.seen c.args.folder.now) invalid

pub returns : goal.returns
returns g c =
    let valid : is_valid_name c.args.name.now ≡ true = search rules in
    is_valid c.args.name.now c.undo_any.result valid c.undo_any.ensures
