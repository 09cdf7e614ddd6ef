-- Scopes in which each relocation has a value.
use Rattle.std.specs.Prelude.{◌≡◌, ◌⊎◌, ◌<◌, ℕ, Bool, true, false, suc, List, length, slice_get, Some, Ok}
use Rattle.std.specs.List.{list_any}
use Rattle.pl_elf.specs.declared.constants.TheConstants.{R_X86_64_64, R_X86_64_COPY, R_X86_64_GLOB_DAT, R_X86_64_JUMP_SLOT, R_X86_64_RELATIVE}
use Rattle.pl_elf.specs.declared.segment.Segment.{Segment}
use Rattle.pl_object.specs.declared.object.Object.{Object}
use Rattle.pl_object.specs.declared.reloc.Reloc.{Reloc}
use Rattle.pl_sym.specs.Definers.{is_definer, is_definition}
use Rattle.pl_sym.specs.Symbol.{is_absolute, is_tls}
use Rattle.pl_sym.specs.declared.class.Class.TheVariants.{Other}
use Rattle.pl_sym.specs.declared.constants.TheConstants.{STB_WEAK}
use Rattle.pl_sym.specs.declared.symbol.Symbol.{Symbol}
use Rattle.pl_tls.specs.declared.module.Module.{Module}
use Rattle.pl_ver.specs.Fields.{index_of}
use Rattle.pl_ver.specs.declared.constants.TheConstants.{VER_NDX_GLOBAL}
use Rattle.pl_value.specs.Copies.{is_in_load}
use Rattle.pl_value.specs.Meanings.{meanings}
use Rattle.pl_value.specs.declared.meaning.Meaning.{Meaning}

-- ---- symbols

-- a definition in the memory of a PT_LOAD
pub record IsLoaded (ss : List Segment) (s : Symbol) : Type 0 where
  pub definition : is_definition s ≡ true
  pub relative : is_absolute s ≡ false
  pub loaded : list_any (is_in_load s.value s.size) ss ≡ true

abbrev pub DefinesNothing : Symbol → Type 0
DefinesNothing s = (program : Bool) → is_definer s Other program ≡ false

-- a reference that may stay without a definer
pub record IsOptional (s : Symbol) : Type 0 where
  pub nothing : DefinesNothing s
  pub weak : s.bind ≡ STB_WEAK

-- one or the other, without a version, and not thread-local
pub record IsSettledSymbol (ss : List Segment) (s : Symbol) : Type 0 where
  pub ordinary : is_tls s ≡ false
  pub unversioned : index_of s.version ≡ VER_NDX_GLOBAL
  pub form : IsLoaded ss s ⊎ IsOptional s

-- symbol 0 stands for none
pub record IsNull (s : Symbol) : Type 0 where
  pub ordinary : is_tls s ≡ false
  pub nothing : DefinesNothing s

pub record HasSettledSymbols (o : Object) : Type 0 where
  pub null : (s : Symbol) → slice_get o.symbols 0 ≡ Some s → IsNull s
  pub each : (k : ℕ) (s : Symbol) → slice_get o.symbols (suc k) ≡ Some s → IsSettledSymbol o.segments s

-- ---- relocations

-- the kinds that change a whole word
abbrev pub IsWordKind : ℕ → Type 0
IsWordKind kind = (kind ≡ R_X86_64_RELATIVE) ⊎ ((kind ≡ R_X86_64_64) ⊎ ((kind ≡ R_X86_64_GLOB_DAT) ⊎ (kind ≡ R_X86_64_JUMP_SLOT)))

pub record ChangesWord (o : Object) (r : Reloc) : Type 0 where
  pub kind : IsWordKind r.kind
  pub symbol : r.symbol < length o.symbols

-- a member after the first defines a name
pub record IsGiven (objects : List Object) (name : List ℕ) : Type 0 where
  pub member : ℕ
  pub object : Object
  pub there : slice_get objects (suc member) ≡ Some object
  pub index : ℕ
  pub symbol : Symbol
  pub at : slice_get object.symbols (suc index) ≡ Some symbol
  pub definition : is_definition symbol ≡ true
  pub named : symbol.name ≡ name

-- the bytes of an object that its own symbol has room for
pub record CopiesGiven (objects : List Object) (o : Object) (r : Reloc) : Type 0 where
  pub kind : r.kind ≡ R_X86_64_COPY
  pub index : ℕ
  pub is : r.symbol ≡ suc index
  pub symbol : Symbol
  pub at : slice_get o.symbols (suc index) ≡ Some symbol
  pub own : IsLoaded o.segments symbol
  pub given : IsGiven objects symbol.name

-- ---- scopes

pub record AreSettled (objects : List Object) : Type 0 where
  pub symbols : (m : ℕ) (o : Object) → slice_get objects m ≡ Some o → HasSettledSymbols o
  pub relocs : (m k : ℕ) (o : Object) (r : Reloc) → slice_get objects m ≡ Some o → slice_get o.relocations k ≡ Some r → ChangesWord o r ⊎ CopiesGiven objects o r

-- each relocation of such a scope has a value, wherever its members are
abbrev pub SettledScopesLink : Type 0
SettledScopesLink = (objects : List Object) (places : List ℕ) (modules : List Module) → AreSettled objects → (gs : List Meaning) × (meanings objects places modules ≡ Ok gs)
