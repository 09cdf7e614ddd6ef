use Rattle.law_demo.proofs.SpelledLaws.{absolutes_read, copies_read, globdats_read, jumpslots_read, relatives_read}
use Rattle.law_demo.proofs.files.rel_lines_are_read.Goals as goal

pub returns-clause-copies : goal.returns-clause-copies
returns-clause-copies c = copies_read

pub returns-clause-relatives : goal.returns-clause-relatives
returns-clause-relatives c = relatives_read

pub returns-clause-absolutes : goal.returns-clause-absolutes
returns-clause-absolutes c = absolutes_read

pub returns-clause-globdats : goal.returns-clause-globdats
returns-clause-globdats c = globdats_read

pub returns-clause-jumpslots : goal.returns-clause-jumpslots
returns-clause-jumpslots c = jumpslots_read
