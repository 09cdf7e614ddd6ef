use Rattle.std.proofs.Common.{sym, subst}
use Rattle.std.proofs.lemmas.Result.{IfOk-weaker}
use Rattle.pl_cone.specs.Taken.{HasItsEntry}
use Rattle.pl_rewrite.specs.Libraries.{IsNewIfAny}
use Rattle.pl_rewrite.specs.Rows.{IsFileMeant}
use Rattle.pl_rewrite.proofs.DigestLaws.{numbered_read, read_item}
use Rattle.pl_rewrite.proofs.MadeRowLaws.{none_meant}
use Rattle.pl_rewrite.proofs.NewRowLaws.{library_may}
use Rattle.pl_rewrite.proofs.RowTestLaws.{file_or}
use Rattle.pl_rewrite.proofs.NewFileLaws.{library_in_version}
use Rattle.pl_rewrite.proofs.verifying.library_meant.Goals as goal

pub returns-in_default : goal.returns-in_default
returns-in_default c = none_meant c.args.numbered.now c.args.row c.args.version c.requires.row.walk (subst (IsNewIfAny c.args.numbered.now c.args.row) c.in_default.is c.in_ok-made.ensures)

pub bounds-numbered-row : goal.bounds-numbered-row
bounds-numbered-row c = c.requires.row.within

pub storable_library-requires-clause-read : goal.storable_library-requires-clause-read
storable_library-requires-clause-read c =
    let n = c.args.numbered.now in
    subst HasItsEntry c.index-numbered-row.is (read_item n.files.now c.args.row c.index-numbered-row.result (numbered_read n c.requires.row.numbered) c.requires.row.within c.index-numbered-row.is)

pub storable_library-requires-clause-form : goal.storable_library-requires-clause-form
storable_library-requires-clause-form c =
    let n = c.args.numbered.now in
    let new = subst (IsNewIfAny n c.args.row) c.in-Some.is c.in_ok-made.ensures in
    library_may n c.args.row _ c.in-Some.parts (file_or n c.args.row c.index-numbered-row.result c.requires.row.within) new.1

pub returns : goal.returns
returns c =
    let n = c.args.numbered.now in
    let new = subst (IsNewIfAny n c.args.row) c.in-Some.is c.in_ok-made.ensures in
    let at = file_or n c.args.row c.index-numbered-row.result c.requires.row.within in
    IfOk-weaker c.storable_library.result _ _
    (λ file is. subst (IsFileMeant n c.args.row c.args.version) (sym is)
    (library_in_version n c.args.row _ c.in-Some.parts c.args.version c.requires.row.walk c.requires.row.library new.0 at new.1)) c.storable_library.ensures
