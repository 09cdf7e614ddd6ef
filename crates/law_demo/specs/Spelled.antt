-- Lines of a recipe as they are spelled.
use Rattle.std.specs.Prelude.{◌≡◌, ℕ, ◌^◌, ◌<◌, true, false, List, [], ◌++◌, None, codes, ◌==◌}
use Rattle.std.specs.Fmt.{digits}
use Rattle.std.specs.List.{list_any}
use Rattle.pl_base.specs.Names.{is_valid_name}
use Rattle.pl_elf.specs.declared.constants.TheConstants.{R_X86_64_64, R_X86_64_COPY, R_X86_64_GLOB_DAT, R_X86_64_JUMP_SLOT, R_X86_64_RELATIVE}
use Rattle.pl_sym.specs.declared.constants.TheConstants.{STB_GLOBAL, STB_WEAK, STT_OBJECT, STT_FUNC, STV_DEFAULT}
use Rattle.pl_build.specs.declared.line.Line.TheVariants.{Needs, Names, Relocates}
use Rattle.pl_build.specs.declared.line.Relocation.{Relocation}
use Rattle.pl_build.specs.declared.line.SymbolLine.{SymbolLine}
use Rattle.pl_build.specs.Grammar.{line}
use Rattle.pl_build.specs.Words.{cut}

-- a valid name without the sign `@`, in one word
pub record IsPlainName (name : List ℕ) : Type 0 where
  pub valid : is_valid_name name ≡ true
  pub unsigned : cut name ≡ None
  pub whole : list_any (λ b. b == 32) name ≡ false

abbrev pub hexadecimal : ℕ → List ℕ
hexadecimal n = digits 16 false n

-- what the lines say
unfoldable pub defined : List ℕ → ℕ → ℕ → SymbolLine
defined name kind offset = record {
  defined = true;
  written = name;
  name = name;
  version = [];
  default_version = false;
  file = [];
  bind = STB_GLOBAL;
  kind = kind;
  visibility = STV_DEFAULT;
  placed = true;
  offset = offset;
  size = 8;
}

unfoldable pub referred : List ℕ → SymbolLine
referred name = record {
  defined = false;
  written = name;
  name = name;
  version = [];
  default_version = false;
  file = [];
  bind = STB_WEAK;
  kind = STT_FUNC;
  visibility = STV_DEFAULT;
  placed = false;
  offset = 0;
  size = 0;
}

unfoldable pub recipe_relocation : List ℕ → ℕ → ℕ → ℕ → Relocation
recipe_relocation name kind offset addend = record { kind = kind; offset = offset; name = name; addend = record { negative = false; magnitude = addend } }

-- ---- each line is read as what it spells

abbrev pub NeedsAreRead : Type 0
NeedsAreRead = (name : List ℕ) → IsPlainName name → line (codes "needs " ++ name) ≡ Needs name

abbrev pub FunctionsAreRead : Type 0
FunctionsAreRead = (name : List ℕ) (offset : ℕ) → IsPlainName name → offset < 2 ^ 64
    → line (codes "def " ++ (name ++ (codes " global func " ++ (hexadecimal offset ++ codes " 8")))) ≡ Names (defined name STT_FUNC offset)

abbrev pub ObjectsAreRead : Type 0
ObjectsAreRead = (name : List ℕ) → IsPlainName name → line (codes "def " ++ (name ++ codes " global object 800 8")) ≡ Names (defined name STT_OBJECT 0x800)

abbrev pub RefsAreRead : Type 0
RefsAreRead = (name : List ℕ) → IsPlainName name → line (codes "ref " ++ (name ++ codes " weak func")) ≡ Names (referred name)

abbrev pub CopiesAreRead : Type 0
CopiesAreRead = (name : List ℕ) → IsPlainName name → line (codes "rel copy 800 " ++ (name ++ codes " 0")) ≡ Relocates (recipe_relocation name R_X86_64_COPY 0x800 0)

abbrev pub RelativesAreRead : Type 0
RelativesAreRead = (offset addend : ℕ) → offset < 2 ^ 64 → addend < 2 ^ 64
    → line (codes "rel relative " ++ (hexadecimal offset ++ (codes " - " ++ hexadecimal addend))) ≡ Relocates (recipe_relocation (codes "-") R_X86_64_RELATIVE offset addend)

-- a relocation by a function, of a kind that is so written
abbrev pub by_function : List ℕ → ℕ → List ℕ → List ℕ
by_function kind offset name = codes "rel " ++ (kind ++ (codes " " ++ (hexadecimal offset ++ (codes " " ++ (name ++ codes " 0")))))

abbrev pub AbsolutesAreRead : Type 0
AbsolutesAreRead = (name : List ℕ) (offset : ℕ) → IsPlainName name → offset < 2 ^ 64 → line (by_function (codes "abs64") offset name) ≡ Relocates (recipe_relocation name R_X86_64_64 offset 0)

abbrev pub GlobDatsAreRead : Type 0
GlobDatsAreRead = (name : List ℕ) (offset : ℕ) → IsPlainName name → offset < 2 ^ 64 → line (by_function (codes "globdat") offset name) ≡ Relocates (recipe_relocation name R_X86_64_GLOB_DAT offset 0)

abbrev pub JumpSlotsAreRead : Type 0
JumpSlotsAreRead = (name : List ℕ) (offset : ℕ) → IsPlainName name → offset < 2 ^ 64 → line (by_function (codes "jumpslot") offset name) ≡ Relocates (recipe_relocation name R_X86_64_JUMP_SLOT offset 0)
