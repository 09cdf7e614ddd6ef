-- The sections of a file by what they hold: their names and fields (System V gABI chapter 4, "Sections"; GNU symbol versioning; GNU hash table).
use Rattle.std.specs.Prelude.{ℕ, ◌+◌, Bool, List, [], position, unwrap_or, codes}
use Rattle.std.specs.Str.{bytes_eq}
use Rattle.pl_elf.specs.declared.constants.TheConstants.{SHT_NULL, SHT_PROGBITS, SHT_STRTAB, SHT_RELA, SHT_HASH, SHT_DYNAMIC, SHT_NOBITS, SHT_DYNSYM, SHT_GNU_HASH, SHT_GNU_VERDEF, SHT_GNU_VERNEED, SHT_GNU_VERSYM, SHF_WRITE, SHF_ALLOC, SHT_RELR, RELA_SIZE, RELR_SIZE}
use Rattle.pl_dyn.specs.declared.constants.TheConstants.{ENTRY_SIZE}
use Rattle.pl_sym.specs.declared.constants.TheConstants.{SYMBOL_SIZE}
use Rattle.pl_ver.specs.declared.constants.TheConstants.{VERSYM_SIZE}
use Rattle.pl_hash.specs.declared.table.TheConstants.{WORD_SIZE}
use Rattle.pl_build.specs.declared.constants.TheConstants.{TABLE_ALIGN}
use Rattle.pl_build.specs.declared.roles.Role.{Role}
use Rattle.pl_build.specs.declared.roles.Role.TheVariants.{Null, Interp, Hash, GnuHash, Dynsym, Dynstr, Versym, Verdef, Verneed, RelaDyn, RelaPlt, RelrDyn, Dynamic, Data, Bss, Shstrtab}

unfoldable pub section_name : Role → List ℕ
section_name Null = []
section_name Interp = codes ".interp"
section_name Hash = codes ".hash"
section_name GnuHash = codes ".gnu.hash"
section_name Dynsym = codes ".dynsym"
section_name Dynstr = codes ".dynstr"
section_name Versym = codes ".gnu.version"
section_name Verdef = codes ".gnu.version_d"
section_name Verneed = codes ".gnu.version_r"
section_name RelaDyn = codes ".rela.dyn"
section_name RelaPlt = codes ".rela.plt"
section_name RelrDyn = codes ".relr.dyn"
section_name Dynamic = codes ".dynamic"
section_name Data = codes ".data"
section_name Bss = codes ".bss"
section_name Shstrtab = codes ".shstrtab"

unfoldable pub kind_of : Role → ℕ
kind_of Null = SHT_NULL
kind_of Interp = SHT_PROGBITS
kind_of Hash = SHT_HASH
kind_of GnuHash = SHT_GNU_HASH
kind_of Dynsym = SHT_DYNSYM
kind_of Dynstr = SHT_STRTAB
kind_of Versym = SHT_GNU_VERSYM
kind_of Verdef = SHT_GNU_VERDEF
kind_of Verneed = SHT_GNU_VERNEED
kind_of RelaDyn = SHT_RELA
kind_of RelaPlt = SHT_RELA
kind_of RelrDyn = SHT_RELR
kind_of Dynamic = SHT_DYNAMIC
kind_of Data = SHT_PROGBITS
kind_of Bss = SHT_NOBITS
kind_of Shstrtab = SHT_STRTAB

-- the name of the section that `link` is to name; the null section, of index 0, has no name
unfoldable pub link_of : Role → List ℕ
link_of Hash = codes ".dynsym"
link_of GnuHash = codes ".dynsym"
link_of Versym = codes ".dynsym"
link_of RelaDyn = codes ".dynsym"
link_of RelaPlt = codes ".dynsym"
link_of Dynsym = codes ".dynstr"
link_of Verdef = codes ".dynstr"
link_of Verneed = codes ".dynstr"
link_of Dynamic = codes ".dynstr"
link_of _ = []

unfoldable pub flags_of : Role → ℕ
flags_of Null = 0
flags_of Shstrtab = 0
flags_of Data = SHF_ALLOC + SHF_WRITE
flags_of Bss = SHF_ALLOC + SHF_WRITE
flags_of _ = SHF_ALLOC

unfoldable pub align_of : Role → ℕ
align_of Null = 0
align_of Interp = 1
align_of Shstrtab = 1
align_of _ = TABLE_ALIGN

-- bytes of a row
unfoldable pub entsize_of : Role → ℕ
entsize_of Hash = WORD_SIZE
entsize_of Dynsym = SYMBOL_SIZE
entsize_of Versym = VERSYM_SIZE
entsize_of RelaDyn = RELA_SIZE
entsize_of RelaPlt = RELA_SIZE
entsize_of RelrDyn = RELR_SIZE
entsize_of Dynamic = ENTRY_SIZE
entsize_of _ = 0

-- ---- in a list of sections

abbrev pub has_name : List ℕ → Role → Bool
has_name name role = bytes_eq (section_name role) name

-- the index of the section of a name, 0 where there is none
unfoldable pub index_of : List Role → List ℕ → ℕ
index_of roles name = unwrap_or (position (has_name name) roles) 0
