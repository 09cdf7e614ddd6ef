-- The bytes of a header, a program header and a section header: their fields in the standard's order (System V gABI, chapters 4 and 5).
use Rattle.std.specs.Prelude.{ℕ, List, [], ◌∷◌}
use Rattle.std.specs.List.{concat}
use Rattle.pl_base.specs.Bytes.{bytes16, bytes32, bytes64}
use Rattle.pl_elf.specs.declared.header.Header.{Header}
use Rattle.pl_elf.specs.declared.segment.Segment.{Segment}
use Rattle.pl_elf.specs.declared.section.Section.{Section}

unfoldable pub header_bytes : Header → List ℕ
header_bytes h = concat (
    h.ident ∷ bytes16 h.kind ∷ bytes16 h.machine ∷ bytes32 h.version ∷ bytes64 h.entry ∷ bytes64 h.phoff ∷ bytes64 h.shoff
    ∷ bytes32 h.flags ∷ bytes16 h.ehsize ∷ bytes16 h.phentsize ∷ bytes16 h.phnum ∷ bytes16 h.shentsize ∷ bytes16 h.shnum
    ∷ bytes16 h.shstrndx ∷ [])

unfoldable pub segment_bytes : Segment → List ℕ
segment_bytes s = concat (
    bytes32 s.kind ∷ bytes32 s.flags ∷ bytes64 s.offset ∷ bytes64 s.vaddr ∷ bytes64 s.paddr ∷ bytes64 s.filesz
    ∷ bytes64 s.memsz ∷ bytes64 s.align ∷ [])

unfoldable pub section_header_bytes : Section → List ℕ
section_header_bytes s = concat (
    bytes32 s.name ∷ bytes32 s.kind ∷ bytes64 s.flags ∷ bytes64 s.addr ∷ bytes64 s.offset ∷ bytes64 s.size
    ∷ bytes32 s.link ∷ bytes32 s.info ∷ bytes64 s.addralign ∷ bytes64 s.entsize ∷ [])
