-- Which symbol of one object answers to a name. What defines a name: gABI chapter 4, "Symbol Table". Version words and the names of versions: GNU symbol versioning. Which of several definers of a name is taken: this project's profile.
use Rattle.std.specs.Prelude.{ℕ, Bool, true, false, ◌&&◌, ◌||◌, ◌==◌, nat_lt, List, Option, Some, None, is_some, position, count_by, if◌then◌else◌}
use Rattle.std.specs.Option.{option_or}
use Rattle.std.specs.Str.{bytes_eq}
use Rattle.pl_sym.specs.Definers.{is_definer}
use Rattle.pl_sym.specs.declared.symbol.Symbol.{Symbol}
use Rattle.pl_sym.specs.declared.class.Class.{Class}
use Rattle.pl_ver.specs.Fields.{index_of}
use Rattle.pl_ver.specs.declared.constants.TheConstants.{VER_NDX_LOCAL, VER_NDX_GLOBAL, VERSYM_HIDDEN}
use Rattle.pl_object.specs.SymbolClauses.{version_name, is_same_name}
use Rattle.pl_object.specs.declared.object.Object.{Object}
use Rattle.pl_elf.specs.Kinds.{is_program}
use Rattle.pl_scope.specs.declared.constants.TheConstants.{FIRST_VERSION}

-- a definer of the name for references of a class
unfoldable pub defines : Object → List ℕ → Class → Symbol → Bool
defines o name class s = is_definer s class (is_program o.kind) && bytes_eq s.name name

-- its version has this name
unfoldable pub has_version : Object → List ℕ → Symbol → Bool
has_version o version s = is_same_name (Some version) (version_name o.versions s.version)

-- the index of the only symbol that passes
abbrev pub only : (Symbol → Bool) → List Symbol → Option ℕ
only p symbols = if count_by p symbols == 1 then position p symbols else None

-- a definer that counts: any where hidden ones do too, else one that is not hidden, bit 15 of whose version word is clear
unfoldable pub counts : Object → List ℕ → Class → Bool → Symbol → Bool
counts o name class hidden s = defines o name class s && (hidden || nat_lt s.version VERSYM_HIDDEN)

-- for a reference with a version: the definer of that version, else the one whose version word is exactly that of no version, else, in an object without version words, the only definer
unfoldable pub versioned : Object → List ℕ → Class → List ℕ → Option ℕ
versioned o name class version =
    option_or (position (λ s. defines o name class s && has_version o version s) o.symbols)
    (option_or (position (λ s. defines o name class s && s.version == VER_NDX_GLOBAL) o.symbols)
    (if is_some o.versions then None else only (counts o name class true) o.symbols))

-- the definer with a version index
abbrev pub at_index : Object → List ℕ → Class → ℕ → Option ℕ
at_index o name class index = position (λ s. defines o name class s && index_of s.version == index) o.symbols

-- for a reference without one: the definer of the lowest index up to the first version's, else the only one that is not hidden
unfoldable pub unversioned : Object → List ℕ → Class → Option ℕ
unversioned o name class =
    option_or (at_index o name class VER_NDX_LOCAL)
    (option_or (at_index o name class VER_NDX_GLOBAL)
    (option_or (at_index o name class FIRST_VERSION) (only (counts o name class false) o.symbols)))

-- the index of the symbol that matches
abbrev pub matching : Object → List ℕ → Class → Option (List ℕ) → Option ℕ
matching o name class None = unversioned o name class
matching o name class (Some version) = versioned o name class version
