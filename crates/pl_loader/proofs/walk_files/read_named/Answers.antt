use Rattle.std.proofs.Common.{sym, subst}
use Rattle.pl_loader.specs.Loading.{IsRead}
use Rattle.pl_loader.proofs.GiveLaws.{read_of}
use Rattle.pl_loader.proofs.walk_files.read_named.Goals as goal

pub returns-in-Ok-clause-read : goal.returns-in-Ok-clause-read
returns-in-Ok-clause-read c =
    subst IsRead (sym c.with_mark.ensures) (read_of c.args.name c.args.bytes.items c.in-Ok.file c.requires (rw c.deref.ensures.value at c.in-Ok.ensures.is) (rw c.deref.ensures.value at c.in-Ok.ensures.segments))
