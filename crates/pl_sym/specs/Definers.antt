-- Which symbols define their name for references (gABI chapter 4, "Symbol Table"; x86-64 psABI, "Function Addresses").
use Rattle.std.specs.Prelude.{Bool, not, ◌&&◌, ◌||◌, ◌==◌}
use Rattle.pl_sym.specs.Symbol.{is_undefined, is_absolute, is_in_section, is_local, is_tls}
use Rattle.pl_sym.specs.declared.constants.TheConstants.{STB_GLOBAL, STB_WEAK, STB_GNU_UNIQUE, STT_NOTYPE, STT_OBJECT, STT_FUNC, STT_COMMON, STT_TLS, STV_DEFAULT, STV_PROTECTED}
use Rattle.pl_sym.specs.declared.symbol.Symbol.{Symbol}
use Rattle.pl_sym.specs.declared.class.Class.{Class}
use Rattle.pl_sym.specs.declared.class.Class.TheVariants.{Jump, Other}

-- known to all objects
unfoldable pub is_global : Symbol → Bool
is_global s = s.bind == STB_GLOBAL || s.bind == STB_WEAK || s.bind == STB_GNU_UNIQUE

-- seen by other objects
unfoldable pub is_visible : Symbol → Bool
is_visible s = s.visibility == STV_DEFAULT || s.visibility == STV_PROTECTED

-- the value itself is what references get: not a section, a file's name, or a function that is yet to answer an address
unfoldable pub has_plain_kind : Symbol → Bool
has_plain_kind s =
    s.kind == STT_NOTYPE || s.kind == STT_OBJECT || s.kind == STT_FUNC || s.kind == STT_COMMON || s.kind == STT_TLS

-- all that a definer needs but its value
unfoldable pub is_linkable : Symbol → Bool
is_linkable s = (is_absolute s || is_in_section s) && is_global s && is_visible s && has_plain_kind s

-- a value other than 0, or one that may be 0: a number, or an offset in the TLS block
unfoldable pub has_value : Symbol → Bool
has_value s = not (s.value == 0) || is_absolute s || is_tls s

-- a definer for every reference
unfoldable pub is_definition : Symbol → Bool
is_definition s = is_linkable s && has_value s

-- an undefined symbol with a value, which in a program is the canonical address of a function
unfoldable pub is_canonical : Symbol → Bool
is_canonical s = is_undefined s && not (is_local s) && not (s.value == 0)

-- jump slots go past a program's canonical addresses
abbrev pub is_definer : Symbol → Class → Bool → Bool
is_definer s Jump program = is_definition s
is_definer s Other program = is_definition s || (program && is_canonical s)
