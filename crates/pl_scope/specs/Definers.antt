-- The definers of an object in lists, by keys of their names and versions.
use Rattle.std.specs.Prelude.{◌≡◌, ◌<◌, ◌+◌, ◌*◌, ◌^◌, ℕ, true, nat_lt, List, length, slice_get, Option, Some, None, if◌then◌else◌}
use Rattle.std.specs.List.{All, list_any}
use Rattle.std.specs.List.Sorted.{IsNonDecreasingBy}
use Rattle.std.specs.Option.{option_and_then}
use Rattle.pl_elf.specs.Kinds.{is_program}
use Rattle.pl_object.specs.declared.object.Object.{Object}
use Rattle.pl_sym.specs.Definers.{is_definer}
use Rattle.pl_sym.specs.declared.class.Class.TheVariants.{Other}
use Rattle.pl_sym.specs.declared.symbol.Symbol.{Symbol}
use Rattle.pl_ver.specs.Fields.{index_of}
use Rattle.pl_ver.specs.declared.constants.TheConstants.{VERSYM_HIDDEN}
use Rattle.pl_scope.specs.Entries.{is_entry}
use Rattle.pl_scope.specs.Numbers.{key_of}
use Rattle.pl_scope.specs.VersionIndex.{name_by_word}
use Rattle.pl_scope.specs.declared.definers.Definers.{Definers}
use Rattle.pl_scope.specs.declared.definers.Listing.{Listing}
use Rattle.pl_scope.specs.declared.definers.Listing.TheVariants.{Index, Shown, Version}
use Rattle.pl_scope.specs.declared.entries.Entry.{Entry}
use Rattle.pl_scope.specs.declared.numbers.Numbers.{Numbers}
use Rattle.pl_scope.specs.declared.version_index.VersionIndex.{VersionIndex}

-- the key of a name with what stands beside it
abbrev pub pair : ℕ → ℕ → ℕ
pair name tag = name * 2 ^ 32 + tag

-- the same, where both are there
abbrev pub paired : Option ℕ → Option ℕ → Option ℕ
paired None tag = None
paired (Some name) None = None
paired (Some name) (Some tag) = Some (pair name tag)

-- nothing stands beside the name of a definer that is not hidden
abbrev pub shown_tag : Symbol → Option ℕ
shown_tag s = if nat_lt s.version VERSYM_HIDDEN then Some 0 else None

-- the key of the name of a definer's version
abbrev pub version_tag : Numbers → VersionIndex → Symbol → Option ℕ
version_tag numbers versions s = option_and_then (key_of numbers) (name_by_word versions s.version)

-- what stands beside the key of a definer's name
abbrev pub tag_of : Numbers → VersionIndex → Listing → Symbol → Option ℕ
tag_of numbers versions Index s = Some (index_of s.version)
tag_of numbers versions Shown s = shown_tag s
tag_of numbers versions Version s = version_tag numbers versions s

-- the key of a symbol, where it is a definer
abbrev pub symbol_key : Numbers → VersionIndex → Object → Listing → Symbol → Option ℕ
symbol_key numbers versions o listing s =
    if is_definer s Other (is_program o.kind) then paired (key_of numbers s.name) (tag_of numbers versions listing s) else None

-- the same of the symbol of an index
abbrev pub listed_key : Numbers → VersionIndex → Object → Listing → ℕ → Option ℕ
listed_key numbers versions o listing symbol = option_and_then (symbol_key numbers versions o listing) (slice_get o.symbols symbol)

-- each symbol that has a key stands under it, in the order of the keys
pub record IsList (numbers : Numbers) (versions : VersionIndex) (o : Object) (listing : Listing) (es : List Entry) : Type 0 where
  pub rising : IsNonDecreasingBy (λ e. e.key) es
  pub within : All (λ e. e.value < length o.symbols) es
  pub whole : (i key : ℕ) → listed_key numbers versions o listing i ≡ Some key → list_any (is_entry key i) es ≡ true

-- all lists of an object's definers
pub record AreDefiners (numbers : Numbers) (versions : VersionIndex) (o : Object) (d : Definers) : Type 0 where
  pub by_index : IsList numbers versions o Index d.by_index.items
  pub shown : IsList numbers versions o Shown d.shown.items
  pub by_version : IsList numbers versions o Version d.by_version.items
