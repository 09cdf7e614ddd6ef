-- A search among the symbols that the hash of a name leads to in a table of one object.
use Rattle.std.specs.Prelude.{◌≡◌, ℕ, Bool, true, false, not, ◌&&◌, ◌==◌, min, List, [], ◌∷◌, length, Option, Some, None, slice_get, IfSome, IsTrue, if◌then◌else◌}
use Rattle.std.specs.List.{list_any}
use Rattle.std.specs.Option.{option_map}
use Rattle.pl_sym.specs.Definers.{is_definer}
use Rattle.pl_sym.specs.declared.symbol.Symbol.{Symbol}
use Rattle.pl_sym.specs.declared.class.Class.{Class}
use Rattle.pl_sym.specs.declared.class.Class.TheVariants.{Jump, Other}
use Rattle.pl_ver.specs.Fields.{index_of}
use Rattle.pl_ver.specs.declared.constants.TheConstants.{VER_NDX_GLOBAL}
use Rattle.pl_hash.specs.Hash.{gnu}
use Rattle.pl_hash.specs.Chain.{IsWellFormed}
use Rattle.pl_hash.specs.ChainSymbols.{chain_symbols, is_chain_symbol, name_hash, rest_from}
use Rattle.pl_hash.specs.Table.{HashTable}
use Rattle.pl_elf.specs.Kinds.{is_program}
use Rattle.pl_object.specs.declared.object.Object.{Object}
use Rattle.pl_scope.specs.Matching.{defines, has_version, counts, matching}
use Rattle.pl_scope.specs.declared.probe.Pick.{Pick}
use Rattle.pl_scope.specs.declared.probe.Pick.TheVariants.{Version, Plain, Index, Each, Shown}
use Rattle.pl_scope.specs.declared.probe.Probe.{Probe}
use Rattle.pl_scope.specs.declared.wanted.Wanted.{Wanted}

-- ---- one step of the search

-- which of the definers of a name for references of a class a step takes
abbrev pub taken : Object → List ℕ → Class → Pick → Symbol → Bool
taken o name class (Version version) s = defines o name class s && has_version o version.now s
taken o name class Plain s = defines o name class s && s.version == VER_NDX_GLOBAL
taken o name class (Index index) s = defines o name class s && index_of s.version == index
taken o name class Each s = counts o name class true s
taken o name class Shown s = counts o name class false s

abbrev pub passes : (Symbol → Bool) → Option Symbol → Bool
passes p None = false
passes p (Some s) = p s

-- whether the symbol of an index passes a test
abbrev pub passes_at : (Symbol → Bool) → List Symbol → ℕ → Bool
passes_at p symbols index = passes p (slice_get symbols index)

-- ---- the symbols that a hash leads to

-- a table of an object leads to each symbol that defines its name for every reference
pub record IsTable (o : Object) (t : HashTable) : Type 0 where
  pub formed : IsWellFormed t
  pub symbols : t.symbols ≡ length o.symbols
  pub complete : (i : ℕ) (s : Symbol) → slice_get o.symbols i ≡ Some s → is_definer s Jump false ≡ true → is_chain_symbol t (name_hash t s.name) i ≡ true

abbrev pub led_to : Probe → List ℕ
led_to p = chain_symbols p.table.now p.hash

-- a table of the object, the hash of the name by which it goes, and the first of the symbols to which that leads
pub record IsProbe (p : Probe) : Type 0 where
  pub table : IsTable p.object.now p.table.now
  pub hash : p.hash ≡ name_hash p.table.now p.name.now
  pub given : IfSome p.first (λ index. IsTrue (is_chain_symbol p.table.now p.hash index))
  pub all : rest_from p.first (led_to p) ≡ led_to p

-- whether a step takes the symbol of an index
abbrev pub picks : Probe → Pick → ℕ → Bool
picks p pick index = passes_at (taken p.object.now p.name.now Jump pick) p.object.now.symbols index

abbrev pub lesser : Option ℕ → ℕ → ℕ
lesser None index = index
lesser (Some other) index = min other index

-- the least that passes a test, where `least` is that of those before
abbrev pub least_from : (ℕ → Bool) → Option ℕ → List ℕ → Option ℕ
least_from q least [] = least
least_from q least (x ∷ xs) = least_from q (if q x then Some (lesser least x) else least) xs

-- another one passes it
abbrev pub another : (ℕ → Bool) → ℕ → List ℕ → Bool
another q index xs = list_any (λ x. not (x == index) && q x) xs

-- ---- canonical addresses

-- a symbol that defines the name for other references than jump slots alone
abbrev pub is_canonical_of : Object → List ℕ → Symbol → Bool
is_canonical_of o name s = defines o name Other s && not (defines o name Jump s)

abbrev pub is_other : Class → Bool
is_other Jump = false
is_other Other = true

-- for such references, a program has one, which no table need lead to
unfoldable pub has_canonical : Object → List ℕ → Class → Bool
has_canonical o name class = is_other class && is_program o.kind && list_any (is_canonical_of o name) o.symbols

-- ---- what is wanted

-- the hash of the name
pub record IsWanted (w : Wanted) : Type 0 where
  pub gnu : w.gnu ≡ gnu w.name.now

-- the index of an object's symbol that matches
abbrev pub matching_for : Object → Wanted → Option ℕ
matching_for o w = matching o w.name.now w.class (option_map (λ x. x.now) w.version)
