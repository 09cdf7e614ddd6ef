-- The definers of all members in one list, and the search that asks the members under a hash alone.
use Rattle.std.specs.Prelude.{◌≡◌, ◌+◌, ◌*◌, ◌%◌, ◌^◌, ℕ, true, nat_lt, List, length, slice_get, Option, Some, None, if◌then◌else◌}
use Rattle.std.specs.List.{list_any}
use Rattle.std.specs.List.Sorted.{IsNonDecreasingBy}
use Rattle.std.specs.Option.{option_and_then, option_map}
use Rattle.pl_elf.specs.Kinds.{is_program}
use Rattle.pl_hash.specs.Hash.{gnu}
use Rattle.pl_object.specs.SymbolClauses.{version_name}
use Rattle.pl_object.specs.declared.object.Object.{Object}
use Rattle.pl_sym.specs.Definers.{is_definer}
use Rattle.pl_sym.specs.declared.class.Class.TheVariants.{Other}
use Rattle.pl_sym.specs.declared.symbol.Symbol.{Symbol}
use Rattle.pl_scope.specs.Definers.{pair}
use Rattle.pl_scope.specs.Entries.{is_entry, AreBetween}
use Rattle.pl_scope.specs.ScopeIndex.{best_of}
use Rattle.pl_scope.specs.VersionIndex.{IsVersionIndex}
use Rattle.pl_scope.specs.declared.entries.Entry.{Entry}
use Rattle.pl_scope.specs.declared.found.Found.{Found}
use Rattle.pl_scope.specs.declared.short_index.ShortIndex.{ShortIndex}
use Rattle.pl_scope.specs.declared.short_index.UnderName.{UnderName}
use Rattle.pl_scope.specs.declared.version_index.VersionIndex.{VersionIndex}
use Rattle.pl_scope.specs.declared.wanted.Wanted.{Wanted}

-- ---- keys

-- a hash spread over all numbers of 32 bits
abbrev pub mixed : ℕ → ℕ
mixed hash = hash * 2654435769 % 2 ^ 32

-- the key of a member's symbol, where it is a definer: its name's mixed hash, with the member
abbrev pub short_key : Object → ℕ → Symbol → Option ℕ
short_key o member s = if is_definer s Other (is_program o.kind) then Some (pair (mixed (gnu s.name)) member) else None

-- the same of the symbol of an index
abbrev pub key_at : Object → ℕ → ℕ → Option ℕ
key_at o member symbol = option_and_then (short_key o member) (slice_get o.symbols symbol)

-- the member of an entry
abbrev pub member_of : Entry → ℕ
member_of e = e.key % 2 ^ 32

-- the end of the keys of a hash with so many members
abbrev pub end_of_hash : ℕ → ℕ → ℕ
end_of_hash hash count = pair hash 0 + count

-- ---- the index

-- entries with those of one member more, each definer of which stands under its key
pub record AreSymbolsAdded (o : Object) (member : ℕ) (old new : List Entry) : Type 0 where
  pub more : (e : Entry) → list_any (is_entry e.key e.value) old ≡ true → list_any (is_entry e.key e.value) new ≡ true
  pub there : (i key : ℕ) → key_at o member i ≡ Some key → list_any (is_entry key i) new ≡ true

-- each definer of each object stands under its key
abbrev pub HaveDefiners : List Object → List Entry → Type 0
HaveDefiners objects es = (m i key : ℕ) (o : Object) → slice_get objects m ≡ Some o → key_at o m i ≡ Some key → list_any (is_entry key i) es ≡ true

-- the same, in the order of the keys
pub record AreSorted (objects : List Object) (es : List Entry) : Type 0 where
  pub rising : IsNonDecreasingBy (λ e. e.key) es
  pub whole : HaveDefiners objects es

-- the versions of each object
abbrev pub AreVersions : List Object → List VersionIndex → Type 0
AreVersions objects versions = (m : ℕ) (o : Object) → slice_get objects m ≡ Some o → (v : VersionIndex) × (slice_get versions m ≡ Some v) × IsVersionIndex o.versions v

-- the definers of all objects in one list, and the versions of each
pub record IsShortIndex (objects : List Object) (index : ShortIndex) : Type 0 where
  pub definers : AreSorted objects index.definers.entries.items
  pub versions : AreVersions objects index.versions.items

-- the list is in the order of its keys
abbrev pub IsRising : ShortIndex → Type 0
IsRising index = IsNonDecreasingBy (λ e. e.key) index.definers.entries.items

-- an index has the definers and the versions of an object as those of a member
pub record HasShort (index : ShortIndex) (member : ℕ) (o : Object) : Type 0 where
  pub rising : IsRising index
  pub definers : (i key : ℕ) → key_at o member i ≡ Some key → list_any (is_entry key i) index.definers.entries.items ≡ true
  pub versions : (v : VersionIndex) × (slice_get index.versions.items member ≡ Some v) × IsVersionIndex o.versions v

-- what an index has as a member's versions, of whichever object that is
abbrev pub IsVersionsAt : ShortIndex → ℕ → VersionIndex → Type 0
IsVersionsAt index member v = (o : Object) → HasShort index member o → IsVersionIndex o.versions v

-- the name of the version that a word of a member stands for
abbrev pub IsVersionAt : ShortIndex → ℕ → ℕ → Option (List ℕ) → Type 0
IsVersionAt index member word name = (o : Object) → HasShort index member o → name ≡ version_name o.versions word

-- one list of the definers of objects, and its entries under the hash of a name
pub record AreUnderName (objects : List Object) (w : Wanted) (u : UnderName) : Type 0 where
  pub index : IsShortIndex objects u.definers.now
  pub entries : AreBetween u.definers.now.definers.entries.items (pair (mixed w.gnu) 0) (end_of_hash (mixed w.gnu) (length objects)) u.entries.now

-- ---- the search

-- what is found with one entry more, whose member is to be one of the objects
abbrev pub best_under : List Object → Wanted → ℕ → Option Found → Entry → Option Found
best_under objects w start best e =
    if nat_lt (member_of e) (length objects) then best_of objects w.name.now w.class (option_map (λ x. x.now) w.version) start best (member_of e) else best
