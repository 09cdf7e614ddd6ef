use Rattle.std.proofs.Common.{arith}
use Rattle.pl_form.proofs.ExtensionLaws.{at_near, rows_near, conflicts_near}
use Rattle.pl_form.proofs.program.new_sections.Goals as goal

pub loaded_section-list-requires-clause-from : goal.loaded_section-list-requires-clause-from
loaded_section-list-requires-clause-from c = omega (arith, (rows_near c.args.last.now c.args.lists.now c.requires.last c.requires.lists).from, c.rows_at.ensures)

pub loaded_section-list-requires-clause-address : goal.loaded_section-list-requires-clause-address
loaded_section-list-requires-clause-address c = omega (arith, (rows_near c.args.last.now c.args.lists.now c.requires.last c.requires.lists).below, c.rows_at.ensures)

pub loaded_section-conflicts-requires-clause-from : goal.loaded_section-conflicts-requires-clause-from
loaded_section-conflicts-requires-clause-from c = omega (arith, (conflicts_near c.args.last.now c.args.lists.now c.requires.last c.requires.lists).from, c.conflicts_at.ensures)

pub loaded_section-conflicts-requires-clause-address : goal.loaded_section-conflicts-requires-clause-address
loaded_section-conflicts-requires-clause-address c = omega (arith, (conflicts_near c.args.last.now c.args.lists.now c.requires.last c.requires.lists).below, c.conflicts_at.ensures)

pub loaded_section-requires-clause-from : goal.loaded_section-requires-clause-from
loaded_section-requires-clause-from c = omega (arith, (at_near c.args.last.now c.requires.last).from, c.extension_at.ensures)

pub loaded_section-requires-clause-address : goal.loaded_section-requires-clause-address
loaded_section-requires-clause-address c = omega (arith, (at_near c.args.last.now c.requires.last).below, c.extension_at.ensures)
