-- Keys of names.
use Rattle.std.specs.Prelude.{◌≡◌, ℕ, true, List, Option, Some, IsSome, slice_get}
use Rattle.std.specs.BTreeMap.{BTreeMap, get_by}
use Rattle.std.specs.Cmp.Lexicographic.{slice_cmp}
use Rattle.std.specs.Ordering.{nat_cmp}
use denote.Ref.{Bor}
use Rattle.pl_elf.specs.Kinds.{is_program}
use Rattle.pl_hash.specs.Hash.{gnu}
use Rattle.pl_object.specs.declared.object.Object.{Object}
use Rattle.pl_sym.specs.Definers.{is_definer}
use Rattle.pl_sym.specs.declared.class.Class.TheVariants.{Other}
use Rattle.pl_sym.specs.declared.symbol.Symbol.{Symbol}
use Rattle.pl_scope.specs.VersionIndex.{first_named, names_in}
use Rattle.pl_scope.specs.declared.numbers.Numbers.{Numbers}
use Rattle.pl_scope.specs.declared.numbers.Numbers.TheVariants.{Hashes, Named}

-- the number of a name in a map
abbrev pub number_in : BTreeMap (Bor (List ℕ)) ℕ → List ℕ → Option ℕ
number_in numbers name = get_by (λ k. slice_cmp nat_cmp name k.now) numbers

-- the key of a name
abbrev pub key_of : Numbers → List ℕ → Option ℕ
key_of Hashes name = Some (gnu name)
key_of (Named numbers) name = number_in numbers name

-- names that have numbers keep them
abbrev pub AreKept : BTreeMap (Bor (List ℕ)) ℕ → BTreeMap (Bor (List ℕ)) ℕ → Type 0
AreKept old new = (name : List ℕ) → IsSome (number_in old name) → number_in new name ≡ number_in old name

-- and one name has one
pub record IsNumberAdded (name : List ℕ) (old new : BTreeMap (Bor (List ℕ)) ℕ) : Type 0 where
  pub kept : AreKept old new
  pub named : IsSome (number_in new name)

-- and the names of an object's definers have some
pub record AreDefinersNumbered (o : Object) (old new : BTreeMap (Bor (List ℕ)) ℕ) : Type 0 where
  pub kept : AreKept old new
  pub named : (i : ℕ) (s : Symbol) → slice_get o.symbols i ≡ Some s → is_definer s Other (is_program o.kind) ≡ true → IsSome (number_in new s.name)

-- and those of an object's versions
pub record AreVersionsNumbered (o : Object) (old new : BTreeMap (Bor (List ℕ)) ℕ) : Type 0 where
  pub kept : AreKept old new
  pub named : (number : ℕ) (version : List ℕ) → first_named (names_in o.versions) number ≡ Some version → IsSome (number_in new version)

-- the name of each definer and of each version of each object has a key
pub record AreNumbersOf (objects : List Object) (numbers : Numbers) : Type 0 where
  pub definers : (m i : ℕ) (o : Object) (s : Symbol) → slice_get objects m ≡ Some o → slice_get o.symbols i ≡ Some s → is_definer s Other (is_program o.kind) ≡ true → IsSome (key_of numbers s.name)
  pub versions : (m number : ℕ) (o : Object) (version : List ℕ) → slice_get objects m ≡ Some o → first_named (names_in o.versions) number ≡ Some version → IsSome (key_of numbers version)
