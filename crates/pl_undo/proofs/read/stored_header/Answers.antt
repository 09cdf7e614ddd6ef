use Rattle.std.proofs.Common.{◌∙◌, ap}
use Rattle.std.proofs.lemmas.List.{take_rest}
use Rattle.pl_elf.specs.Headers.{header}
use Rattle.pl_undo.proofs.read.stored_header.Goals as goal

pub returns : goal.returns
returns c = c.header_fields.ensures ∙ ap header (take_rest c.args.bytes.now c.args.at)
