use Rattle.std.proofs.Common.{◌≡◌, ◌++◌, drop}
use Rattle.pl_elf.specs.Written.{section_header_bytes}
use Rattle.pl_form.proofs.LoopLaws.{bytes_of}
use Rattle.pl_form.proofs.bytes.section_table.Given as goal

abbrev pub invariant-loop-section : goal.invariant-loop-section
invariant-loop-section l = l.table.items ++ bytes_of section_header_bytes (drop l.section-index l.sections) ≡ bytes_of section_header_bytes l.sections
