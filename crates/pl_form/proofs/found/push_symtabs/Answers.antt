use Rattle.pl_form.proofs.FindingLaws.{symtabs_more, symtabs_done}
use Rattle.pl_form.proofs.found.push_symtabs.Goals as goal

pub loop-section-preserved : goal.loop-section-preserved
loop-section-preserved c = symtabs_more c.args.sections.now _ _ _ _ _ c.loop-section-test.true c.in_ok-push_symtab.ensures c.loop-section.invariant

pub returns : goal.returns
returns c = symtabs_done c.args.sections.now _ _ _ c.loop-section-test.false c.loop-section.invariant
