-- Recipes as generated sets have them: functions and objects of the data, references that may stay without a definer, relocations of whole words, and copies of objects.
use Rattle.std.specs.Prelude.{◌≡◌, ◌⊎◌, ◌<◌, ◌≤◌, ℕ, ◌+◌, ◌%◌, ◌^◌, Bool, true, false, ◌==◌, ◌||◌, List}
use Rattle.std.specs.List.{AllByRecursion, list_any}
use Rattle.std.specs.Str.{bytes_eq}
use Rattle.pl_base.specs.Names.{is_valid_name}
use Rattle.pl_base.specs.Pairs.{any_pair}
use Rattle.pl_elf.specs.declared.constants.TheConstants.{R_X86_64_64, R_X86_64_COPY, R_X86_64_GLOB_DAT, R_X86_64_JUMP_SLOT, R_X86_64_RELATIVE}
use Rattle.pl_sym.specs.declared.constants.TheConstants.{STB_GLOBAL, STB_WEAK, STT_OBJECT, STT_FUNC, STV_DEFAULT}
use Rattle.pl_build.specs.declared.line.Relocation.{Relocation}
use Rattle.pl_build.specs.declared.line.SymbolLine.{SymbolLine}
use Rattle.pl_build.specs.declared.recipe.Recipe.{Recipe}
use Rattle.pl_build.specs.declared.recipe.Settings.{Settings}
use Rattle.pl_build.specs.FileKinds.{is_position_independent}
use Rattle.pl_build.specs.LayoutPlan.{addend_of}
use Rattle.pl_build.specs.RelocationLines.{is_no_symbol}
use Rattle.pl_build.specs.Relocations.{is_written_as}

-- ---- symbols

-- a function or an object in the data or in the zeros behind it
pub record IsOwn (s : Settings) (x : SymbolLine) : Type 0 where
  pub defined : x.defined ≡ true
  pub placed : x.placed ≡ true
  pub kind : (x.kind ≡ STT_OBJECT) ⊎ (x.kind ≡ STT_FUNC)
  pub bind : x.bind ≡ STB_GLOBAL
  pub some : 0 < x.size
  pub within : x.offset + x.size ≤ s.data_size + s.bss

-- a reference to a function that may stay without a definer
pub record IsWeakReference (x : SymbolLine) : Type 0 where
  pub undefined : x.defined ≡ false
  pub unplaced : x.placed ≡ false
  pub kind : x.kind ≡ STT_FUNC
  pub bind : x.bind ≡ STB_WEAK
  pub offset : x.offset ≡ 0
  pub size : x.size ≡ 0

pub record IsModestSymbol (s : Settings) (x : SymbolLine) : Type 0 where
  pub name : is_valid_name x.name ≡ true
  pub visibility : x.visibility ≡ STV_DEFAULT
  pub form : IsOwn s x ⊎ IsWeakReference x

abbrev pub is_namesake : SymbolLine → SymbolLine → Bool
is_namesake x y = bytes_eq x.name y.name

-- ---- relocations

-- the kinds that change a whole word
abbrev pub is_word_kind : ℕ → Bool
is_word_kind kind = kind == R_X86_64_64 || kind == R_X86_64_GLOB_DAT || kind == R_X86_64_JUMP_SLOT || kind == R_X86_64_RELATIVE

-- the kinds that have no addend
abbrev pub has_no_addend : ℕ → Bool
has_no_addend kind = kind == R_X86_64_GLOB_DAT || kind == R_X86_64_JUMP_SLOT || kind == R_X86_64_COPY

-- a word of the data
pub record WritesDataWord (s : Settings) (x : Relocation) : Type 0 where
  pub kind : is_word_kind x.kind ≡ true
  pub within : x.offset + 8 ≤ s.data_size

-- every symbol of a name has eight bytes
abbrev pub IsWord : List ℕ → SymbolLine → Type 0
IsWord name s = is_written_as name s ≡ true → s.size ≡ 8

-- in a program, the bytes of an object that another file defines, into a symbol of eight bytes
pub record CopiesWord (r : Recipe) (x : Relocation) : Type 0 where
  pub kind : x.kind ≡ R_X86_64_COPY
  pub program : is_position_independent r.settings.kind ≡ false
  pub within : x.offset + 8 ≤ r.settings.data_size + r.settings.bss
  pub named : is_no_symbol x.name ≡ false
  pub known : list_any (is_written_as x.name) r.symbols ≡ true
  pub sizes : AllByRecursion (IsWord x.name) r.symbols

pub record IsModestRelocation (r : Recipe) (x : Relocation) : Type 0 where
  pub form : WritesDataWord r.settings x ⊎ CopiesWord r x
  pub aligned : x.offset % 8 ≡ 0
  pub small : x.addend.magnitude < 2 ^ 64
  pub plain : has_no_addend x.kind ≡ true → addend_of x.addend ≡ 0

-- at one place of the data
abbrev pub is_at_place_of : Relocation → Relocation → Bool
is_at_place_of x y = x.offset == y.offset

-- ---- the recipe

abbrev pub IsValidName : List ℕ → Type 0
IsValidName name = is_valid_name name ≡ true

pub record IsModest (r : Recipe) : Type 0 where
  -- there is a hash table
  pub hashed : (r.settings.hashes.sysv || r.settings.hashes.gnu) ≡ true
  pub needs : AllByRecursion IsValidName r.needs
  pub symbols : AllByRecursion (IsModestSymbol r.settings) r.symbols
  pub names : any_pair is_namesake r.symbols ≡ false
  pub relocations : AllByRecursion (IsModestRelocation r) r.relocations
  pub places : any_pair is_at_place_of r.relocations ≡ false
