use Rattle.pl_folder.specs.InMemory.{quiet_files}
use Rattle.pl_demo.proofs.AnswerLemmas.{on_ok}
use Rattle.pl_demo.proofs.MakingLemmas.{is_there, was_put}
use Rattle.std.proofs.Common.{refl}
use Rattle.pl_demo.proofs.making.put.Goals as goal

pub append-requires-clause-there : goal.append-requires-clause-there
append-requires-clause-there c = is_there c.args.name.now (quiet_files c.args.folder.now) (quiet_files c.create.new.self) (c.in-Ok.ensures.calls.files refl)

pub returns-in-Ok : goal.returns-in-Ok
returns-in-Ok c =
    on_ok c.append.result (was_put c.args.name.now c.args.bytes.now (quiet_files c.args.folder.now) (quiet_files c.create.new.self) (quiet_files c.append.new.folder) (c.in-Ok.ensures.calls.files refl)) c.append.ensures
