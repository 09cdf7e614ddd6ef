use Rattle.std.proofs.Common.{◌+◌, arith}
use Rattle.pl_form.proofs.ExtensionLaws.{round_near}
use Rattle.pl_form.proofs.extension.extension.Goals as goal

pub overflow_sub-gap : goal.overflow_sub-gap
overflow_sub-gap c = omega (arith, c.extension_at.ensures, (round_near (c.args.last.now.vaddr + c.args.last.now.memsz)).0)
