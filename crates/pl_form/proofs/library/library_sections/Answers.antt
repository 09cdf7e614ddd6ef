use Rattle.std.proofs.Common.{length, ap, arith}
use Rattle.pl_form.proofs.LengthLaws.{names_most}
use Rattle.pl_form.proofs.library.library_sections.Goals as goal

pub list_sections-new-requires-clause-names : goal.list_sections-new-requires-clause-names
list_sections-new-requires-clause-names c = omega (arith, ap length c.old_names.ensures, names_most c.args.bytes.now, c.requires.few)

pub old_names-requires : goal.old_names-requires
old_names-requires c = c.requires.names
