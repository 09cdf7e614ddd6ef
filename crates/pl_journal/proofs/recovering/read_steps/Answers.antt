use Rattle.std.proofs.Common.{rules, ◌≡◌, subst}
use Rattle.pl_folder.specs.Taken.{Explains, taken}
use Rattle.pl_folder.specs.declared.fault.FolderFault.{FolderFault}
use Rattle.pl_folder.specs.declared.fault.FolderFault.TheVariants.{TooLarge}
use Rattle.pl_journal.specs.Lists.{texts}
use Rattle.pl_journal.specs.Names.{journal}
use Rattle.pl_journal.proofs.RecoverParts.{bad_taken, ok_taken, too_large_rows}
use Rattle.pl_journal.proofs.recovering.read_steps.Goals as goal

pub returns-in-Ok-clause-ok : goal.returns-in-Ok-clause-ok
returns-in-Ok-clause-ok g c =
    let a = g.D.Folder.seen c.args.held.now.folder in
    ok_taken c.steps_of.result a.tells a.files c.in-Ok.bytes.items c.as_slice.result.now (texts c.args.names.now) c.in-Ok.ensures.bytes c.as_slice.ensures.value c.steps_of.ensures.ok

pub returns-in-Ok-clause-bad : goal.returns-in-Ok-clause-bad
returns-in-Ok-clause-bad g c =
    let a = g.D.Folder.seen c.args.held.now.folder in
    bad_taken c.steps_of.result a.tells a.files c.in-Ok.bytes.items c.as_slice.result.now c.in-Ok.ensures.bytes c.as_slice.ensures.value c.steps_of.ensures.bad

pub returns-in-Err-TooLarge-clause-bad : goal.returns-in-Err-TooLarge-clause-bad
returns-in-Err-TooLarge-clause-bad g c =
    let a = g.D.Folder.seen c.args.held.now.folder in
    let large : c.in-Err-TooLarge.field-0 ≡ TooLarge = search rules in
    let why = subst (λ (fault : FolderFault). Explains a.tells (taken a.files journal) fault) large c.in-Err-TooLarge.ensures.explained in
    λ is told. too_large_rows a.files (why told)
