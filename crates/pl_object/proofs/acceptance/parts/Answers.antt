use Rattle.std.proofs.Common.{sym}
use Rattle.pl_object.proofs.ReadLaws.{parts_static}
use Rattle.pl_object.proofs.acceptance.parts.Goals as goal

pub returns-then-is_static_file : goal.returns-then-is_static_file
returns-then-is_static_file c =
    rw (parts_static c.args.bytes.now c.args.headers (sym (rw c.if-is_static_file.true at c.is_static_file.ensures))) c.static_program.ensures
