-- Where bytes of memory stand in the file. A PT_LOAD loads the first filesz of its memsz bytes of memory from the file (System V gABI chapter 5, "Program Header").
use Rattle.std.specs.Prelude.{ℕ, ◌+◌, ◌-◌, min, Bool, ◌&&◌, ◌==◌, nat_le, nat_lt, List, Option, Some, None, find}
use Rattle.pl_base.specs.Windows.{Window, within}
use Rattle.pl_elf.specs.Headers.{is_load}
use Rattle.pl_elf.specs.declared.segment.Segment.{Segment}

-- no bytes
abbrev pub nothing : Window
nothing = record { at = 0; size = 0 }

-- a byte of memory is loaded from the file bytes of a PT_LOAD
unfoldable pub loads_byte : ℕ → Segment → Bool
loads_byte address s = is_load s && nat_le s.vaddr address && nat_lt address (s.vaddr + s.filesz)

-- the first PT_LOAD that loads a byte of memory from the file
abbrev pub loader : List Segment → ℕ → Option Segment
loader ss address = find (loads_byte address) ss

-- a window of memory in the file, as far as one segment loads it from there
abbrev pub loaded_by : Window → Option Segment → Window
loaded_by memory None = nothing
loaded_by memory (Some s) = record {
  at = s.offset + (memory.at - s.vaddr);
  size = min memory.size (s.vaddr + s.filesz - memory.at);
}

-- the file bytes of a window of memory: those from its first byte on that one PT_LOAD loads
unfoldable pub file_window : List Segment → Window → Window
file_window ss memory = loaded_by memory (loader ss memory.at)

-- a window of memory is in the file part: it lies inside the file bytes of one PT_LOAD. A window of no bytes does, wherever it is.
unfoldable pub in_file_part : List Segment → Window → Bool
in_file_part ss memory = (file_window ss memory).size == memory.size

-- the bytes that are loaded at a window of memory
unfoldable pub loaded : List ℕ → List Segment → Window → List ℕ
loaded bytes ss memory = within (file_window ss memory) bytes
