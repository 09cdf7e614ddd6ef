-- The program header table (System V gABI chapter 5, "Program Header").
use Rattle.std.specs.Prelude.{ℕ, ◌+◌, ◌*◌, Bool, true, ◌||◌, nat_lt, List, [], ◌∷◌, ◌++◌, length, codes}
use Rattle.std.specs.Option.{is_some, unwrap_or}
use Rattle.pl_base.specs.Sums.{plus, round_up}
use Rattle.pl_elf.specs.declared.constants.TheConstants.{HEADER_SIZE, SEGMENT_SIZE, PT_LOAD, PT_DYNAMIC, PT_INTERP, PT_PHDR, PT_TLS, PT_GNU_STACK, PAGE, PF_R, PF_W}
use Rattle.pl_elf.specs.declared.segment.Segment.{Segment}
use Rattle.pl_build.specs.declared.constants.TheConstants.{INTERP_OFFSET, TABLE_ALIGN, STACK_ALIGN}
use Rattle.pl_build.specs.declared.line.TlsBlock.{TlsBlock}
use Rattle.pl_build.specs.declared.recipe.Settings.{Settings}
use Rattle.pl_build.specs.declared.roles.PlacedSection.{PlacedSection}
use Rattle.pl_build.specs.Choices.{chosen}
use Rattle.pl_build.specs.Dynamic.{is_there}
use Rattle.pl_build.specs.LayoutPlan.{base_of, data_address, has_interp}

-- the path of the interpreter of x86-64 programs, ended by a 0 byte
abbrev pub interp_bytes : List ℕ
interp_bytes = codes "/lib64/ld-linux-x86-64.so.2" ++ 0 ∷ []

-- bytes that stand in the file as in memory
unfoldable pub readable : ℕ → ℕ → ℕ → ℕ → ℕ → Segment
readable kind offset address size align = record {
  kind = kind;
  flags = PF_R;
  offset = offset;
  vaddr = address;
  paddr = address;
  filesz = size;
  memsz = size;
  align = align;
}

-- the file offset of the data, where the tables end at an offset
abbrev pub data_offset : ℕ → ℕ
data_offset tables_end = round_up tables_end PAGE

-- the tables; the data and the zeros behind it
unfoldable pub first_load : Settings → ℕ → Segment
first_load s tables_end = readable PT_LOAD 0 (base_of s) tables_end PAGE

unfoldable pub second_load : Settings → ℕ → Segment
second_load s tables_end = record {
  kind = PT_LOAD;
  flags = PF_R + PF_W;
  offset = data_offset tables_end;
  vaddr = data_address s;
  paddr = data_address s;
  filesz = s.data_size;
  memsz = plus s.data_size s.bss;
  align = PAGE;
}

abbrev pub no_tls : TlsBlock
no_tls = record { offset = 0; filesz = 0; memsz = 0; align = 0 }

unfoldable pub tls_segment : Settings → ℕ → Segment
tls_segment s tables_end =
    let tls = unwrap_or s.tls no_tls in
    let address = plus (data_address s) tls.offset in
    record {
      kind = PT_TLS;
      flags = PF_R;
      offset = plus (data_offset tables_end) tls.offset;
      vaddr = address;
      paddr = address;
      filesz = tls.filesz;
      memsz = tls.memsz;
      align = tls.align;
    }

abbrev pub stack_segment : Segment
stack_segment = record {
  kind = PT_GNU_STACK;
  flags = PF_R + PF_W;
  offset = 0;
  vaddr = 0;
  paddr = 0;
  filesz = 0;
  memsz = 0;
  align = STACK_ALIGN;
}

-- the program header table itself
unfoldable pub table_segment : Settings → ℕ → Segment
table_segment s count = readable PT_PHDR HEADER_SIZE (base_of s + HEADER_SIZE) (SEGMENT_SIZE * count) TABLE_ALIGN

unfoldable pub interp_segment : Settings → Segment
interp_segment s = readable PT_INTERP INTERP_OFFSET (base_of s + INTERP_OFFSET) (length interp_bytes) 1

unfoldable pub dynamic_segment : PlacedSection → Segment
dynamic_segment place = readable PT_DYNAMIC place.offset place.addr place.size TABLE_ALIGN

-- ---- which there are

unfoldable pub has_data : Settings → Bool
has_data s = nat_lt 0 s.data_size || nat_lt 0 s.bss

-- where the table itself says how many segments there are
unfoldable pub with_count : Settings → ℕ → PlacedSection → ℕ → List Segment
with_count s tables_end dynamic count = chosen (
    (has_interp s, table_segment s count) ∷ (has_interp s, interp_segment s) ∷ (true, first_load s tables_end)
    ∷ (has_data s, second_load s tables_end) ∷ (is_there dynamic, dynamic_segment dynamic)
    ∷ (is_some s.tls, tls_segment s tables_end) ∷ (s.usual, stack_segment) ∷ [])

unfoldable pub segments : Settings → ℕ → PlacedSection → List Segment
segments s tables_end dynamic = with_count s tables_end dynamic (length (with_count s tables_end dynamic 0))
