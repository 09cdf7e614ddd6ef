-- What the headers of a built file say, by its plan.
use Rattle.std.specs.Prelude.{◌≡◌, ℕ, Bool, true, false, List, map, length, codes}
use Rattle.pl_elf.specs.declared.constants.TheConstants.{HEADER_SIZE, SEGMENT_SIZE, SECTION_SIZE, EM_X86_64, EV_CURRENT}
use Rattle.pl_elf.specs.declared.header.Header.{Header}
use Rattle.pl_elf.specs.declared.section.Section.{Section}
use Rattle.pl_elf.specs.declared.segment.Segment.{Segment}
use Rattle.pl_elf.specs.Headers as elf
use Rattle.pl_build.specs.declared.layout.Tables.{Tables}
use Rattle.pl_build.specs.declared.layout_plan.LayoutPlan.{LayoutPlan}
use Rattle.pl_build.specs.declared.roles.Role.{Role}
use Rattle.pl_build.specs.declared.roles.Role.TheVariants.{Null, Interp, Hash, GnuHash, Dynsym, Dynstr, Versym, Verdef, Verneed, RelaDyn, RelaPlt, RelrDyn, Dynamic, Data, Bss, Shstrtab}
use Rattle.pl_build.specs.declared.sections.SectionRow.{SectionRow}
use Rattle.pl_build.specs.Dynamic.{place_of}
use Rattle.pl_build.specs.Fields.{fields}
use Rattle.pl_build.specs.File.{ident, type_of, entry_or_base, places_of, sections_offset}
use Rattle.pl_build.specs.Layout.{end_of}
use Rattle.pl_build.specs.Roles.{index_of}
use Rattle.pl_build.specs.Sections.{section_rows}
use Rattle.pl_build.specs.Segments.{segments, data_offset}
use Rattle.pl_build.specs.StringTable.{section_names}

-- a section whose bytes the tables hold
abbrev pub is_table : Role → Bool
is_table Null = false
is_table Interp = false
is_table Hash = true
is_table GnuHash = true
is_table Dynsym = true
is_table Dynstr = true
is_table Versym = true
is_table Verdef = true
is_table Verneed = true
is_table RelaDyn = true
is_table RelaPlt = true
is_table RelrDyn = true
is_table Dynamic = true
is_table Data = false
is_table Bss = false
is_table Shstrtab = false

-- for so many segments, and a section header table at an offset
unfoldable pub header_of : LayoutPlan → ℕ → ℕ → Header
header_of p phnum shoff = record {
  ident = fields ident;
  kind = type_of p.settings;
  machine = EM_X86_64;
  version = EV_CURRENT;
  entry = entry_or_base p.settings p.settings.entry;
  phoff = HEADER_SIZE;
  shoff = shoff;
  flags = 0;
  ehsize = HEADER_SIZE;
  phentsize = SEGMENT_SIZE;
  phnum = phnum;
  shentsize = SECTION_SIZE;
  shnum = length p.roles;
  shstrndx = index_of p.roles (codes ".shstrtab");
}

unfoldable pub section_of : SectionRow → Section
section_of s = record {
  name = s.name;
  kind = s.kind;
  flags = s.flags;
  addr = s.addr;
  offset = s.offset;
  size = s.size;
  link = s.link;
  info = s.info;
  addralign = s.addralign;
  entsize = s.entsize;
}

-- ---- of a plan whose tables are these

unfoldable pub planned_segments : LayoutPlan → Tables → List Segment
planned_segments p t = segments p.settings (end_of t) (place_of t.places (codes ".dynamic"))

unfoldable pub planned_header : LayoutPlan → Tables → Header
planned_header p t = header_of p (length (planned_segments p t)) (sections_offset p (end_of t) (section_names p.roles))

unfoldable pub planned_sections : LayoutPlan → Tables → List Section
planned_sections p t =
    map section_of (section_rows p (section_names p.roles) (places_of p t (data_offset (end_of t)) (length (section_names p.roles).bytes)))

-- the headers of a file are read so
pub record IsHeaded (p : LayoutPlan) (t : Tables) (bytes : List ℕ) : Type 0 where
  pub header : elf.header bytes ≡ planned_header p t
  pub segments : elf.segments bytes (planned_header p t) ≡ planned_segments p t
  pub sections : elf.sections bytes (planned_header p t) ≡ planned_sections p t
