use Rattle.pl_elf.specs.Written.{section_header_bytes}
use Rattle.pl_form.proofs.LoopLaws.{bytes_more, bytes_done}
use Rattle.pl_form.proofs.bytes.section_table.Goals as goal

pub loop-section-preserved : goal.loop-section-preserved
loop-section-preserved c = bytes_more section_header_bytes _ _ _ _ _ _ c.loop-section-test.true c.in_ok-push_section.ensures c.loop-section.invariant

pub returns : goal.returns
returns c = bytes_done section_header_bytes _ _ _ _ c.loop-section-test.false c.loop-section.invariant
