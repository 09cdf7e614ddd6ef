-- The recipes of a generated set, as records.
use Rattle.std.specs.Prelude.{ℕ, ◌+◌, ◌*◌, ◌%◌, Bool, true, false, List, [], ◌∷◌, ◌++◌, None, codes, take, drop, if◌then◌else◌}
use Rattle.pl_elf.specs.declared.constants.TheConstants.{R_X86_64_64, R_X86_64_COPY, R_X86_64_GLOB_DAT, R_X86_64_JUMP_SLOT, R_X86_64_RELATIVE}
use Rattle.pl_sym.specs.declared.constants.TheConstants.{STT_OBJECT, STT_FUNC}
use Rattle.pl_build.specs.declared.constants.TheConstants.{SPARE}
use Rattle.pl_build.specs.declared.kind.FileKind.{FileKind}
use Rattle.pl_build.specs.declared.kind.FileKind.TheVariants.{Program, Library}
use Rattle.pl_build.specs.declared.line.Relocation.{Relocation}
use Rattle.pl_build.specs.declared.line.SymbolLine.{SymbolLine}
use Rattle.pl_build.specs.declared.recipe.Recipe.{Recipe}
use Rattle.pl_build.specs.declared.recipe.Settings.{Settings}
use Rattle.pl_gen.specs.Draws.{at}
use Rattle.pl_gen.specs.Lines.{library_name, function_name, object_name, has, kind_of, known_after}
use Rattle.pl_gen.specs.Set.{functions, needed}
use Rattle.pl_gen.specs.declared.relocation_kind.RelocationKind.{RelocationKind}
use Rattle.pl_gen.specs.declared.relocation_kind.RelocationKind.TheVariants.{Relative, Abs64, GlobDat, JumpSlot}
use Rattle.law_demo.specs.Spelled.{defined, referred, recipe_relocation}

-- what a number has once: nothing, where the number is among those before
abbrev pub once : {A : Type 0} → List ℕ → ℕ → A → List A
once before number x = if has before number then [] else x ∷ []

-- ---- names and symbols

-- the libraries that a program needs
unfoldable pub needed_names : List ℕ → List ℕ → List (List ℕ)
needed_names before [] = []
needed_names before (i ∷ more) = once before i (library_name i) ++ needed_names (before ++ i ∷ []) more

-- the functions that a library defines
unfoldable pub own_functions : List ℕ → ℕ → List ℕ → List SymbolLine
own_functions before offset [] = []
own_functions before offset (number ∷ more) = once before number (defined (function_name number) STT_FUNC offset) ++ own_functions (before ++ number ∷ []) (offset + 8) more

-- the function of a relocation, where it has no symbol yet
unfoldable pub reference : List ℕ → RelocationKind → ℕ → List SymbolLine
reference known Relative word = []
reference known Abs64 word = once known (word % 1000) (referred (function_name (word % 1000)))
reference known GlobDat word = once known (word % 1000) (referred (function_name (word % 1000)))
reference known JumpSlot word = once known (word % 1000) (referred (function_name (word % 1000)))

-- two words have a relocation
unfoldable pub references : List ℕ → List ℕ → List SymbolLine
references known (kind ∷ word ∷ more) = reference known (kind_of kind) word ++ references (known_after known (kind_of kind) word) more
references known (kind ∷ []) = []
references known [] = []

abbrev pub own_object : ℕ → SymbolLine
own_object i = defined (object_name i) STT_OBJECT 0x800

-- ---- relocations

unfoldable pub relocation_of : ℕ → RelocationKind → ℕ → Relocation
relocation_of place Relative word = recipe_relocation (codes "-") R_X86_64_RELATIVE place (8 * (word % 64))
relocation_of place Abs64 word = recipe_relocation (function_name (word % 1000)) R_X86_64_64 place 0
relocation_of place GlobDat word = recipe_relocation (function_name (word % 1000)) R_X86_64_GLOB_DAT place 0
relocation_of place JumpSlot word = recipe_relocation (function_name (word % 1000)) R_X86_64_JUMP_SLOT place 0

-- from a place on
unfoldable pub relocations_from : ℕ → List ℕ → List Relocation
relocations_from place (kind ∷ word ∷ more) = relocation_of place (kind_of kind) word ∷ relocations_from (place + 8) more
relocations_from place (kind ∷ []) = []
relocations_from place [] = []

abbrev pub copy_of : ℕ → Relocation
copy_of i = recipe_relocation (object_name i) R_X86_64_COPY 0x800 0

-- ---- the recipes

-- the words of the relocations
abbrev pub library_words : List ℕ → List ℕ
library_words words = take 256 (drop 66 words)

abbrev pub program_words : List ℕ → List ℕ
program_words words = take 128 (drop 3 words)

abbrev pub settings_of : FileKind → Bool → ℕ → ℕ → Settings
settings_of kind sysv size zeros = record {
  kind = kind;
  usual = false;
  hashes = record { sysv = sysv; gnu = true };
  buckets = 8;
  spare = SPARE;
  symbolic = false;
  entry = None;
  data_size = size;
  bss = zeros;
  tls = None;
}

-- the library of an index, among so many
unfoldable pub library_of : ℕ → ℕ → List ℕ → Recipe
library_of count i words = record {
  settings = settings_of Library true 0x1000 0;
  needs = library_name ((i + 1) % count) ∷ library_name (at words 0 % count) ∷ library_name (at words 1 % count) ∷ [];
  words = [];
  versions = [];
  symbols = own_functions [] 0 (functions words) ++ own_object i ∷ references (functions words) (library_words words);
  relocations = relocations_from 0x808 (library_words words);
  packed = [];
}

-- the program beside so many libraries
unfoldable pub program_of : ℕ → List ℕ → Recipe
program_of count words = record {
  settings = settings_of Program false 0x800 8;
  needs = needed_names [] (needed count words);
  words = [];
  versions = [];
  symbols = references [] (program_words words) ++ own_object (at words 0 % count) ∷ [];
  relocations = relocations_from 0 (program_words words) ++ copy_of (at words 0 % count) ∷ [];
  packed = [];
}
