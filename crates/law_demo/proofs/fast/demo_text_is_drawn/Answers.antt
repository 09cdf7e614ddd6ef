use Rattle.law_demo.proofs.DemoTextLaws.{relocations_drawn, text_drawn, texts_ordinary}
use Rattle.law_demo.proofs.fast.demo_text_is_drawn.Goals as goal

pub returns-clause-texts : goal.returns-clause-texts
returns-clause-texts c = texts_ordinary

pub returns-clause-relocations : goal.returns-clause-relocations
returns-clause-relocations c = relocations_drawn

pub returns-clause-text : goal.returns-clause-text
returns-clause-text c = text_drawn
