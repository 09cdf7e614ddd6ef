-- When no symbol of an object matches, when the class does not count, and that what matches is one of its symbols.
use Rattle.std.proofs.Common.{◌≡◌, ℕ, ◌<◌, Bool, true, false, not, ◌&&◌, ◌||◌, cond, List, [], length, Option, Some, None, refl, sym, ap, ◌∙◌, subst}
use Rattle.std.specs.Prelude.{slice_get, position, is_some, ◌==◌, nat_lt}
use Rattle.std.specs.List.{list_any}
use Rattle.std.specs.Option.{option_or}
use Rattle.std.specs.Str.{bytes_eq}
use Rattle.std.proofs.lemmas.Bool.{false≢true, and_parts}
use Rattle.std.proofs.lemmas.Slice.Eq.{bytes_eq-Decides}
use Rattle.pl_sym.specs.Definers.{is_definer, is_definition, is_canonical}
use Rattle.pl_sym.specs.declared.symbol.Symbol.{Symbol}
use Rattle.pl_sym.specs.declared.class.Class.{Class}
use Rattle.pl_sym.specs.declared.class.Class.TheVariants.{Jump, Other}
use Rattle.pl_ver.specs.Fields.{index_of}
use Rattle.pl_ver.specs.declared.constants.TheConstants.{VER_NDX_LOCAL, VER_NDX_GLOBAL, VERSYM_HIDDEN}
use Rattle.pl_hash.specs.ChainSymbols.{name_hash, chain_symbols, is_chain_symbol, rest_from}
use Rattle.pl_hash.specs.Table.{HashTable}
use Rattle.pl_elf.specs.Kinds.{is_program}
use Rattle.pl_object.specs.declared.object.Object.{Object}
use Rattle.pl_scope.specs.Matching.{defines, has_version, counts, only, versioned, unversioned, at_index, matching}
use Rattle.pl_scope.specs.Probing.{passes, IsTable, is_canonical_of, has_canonical}
use Rattle.pl_scope.specs.Scope.{IsFit}
use Rattle.pl_scope.specs.declared.constants.TheConstants.{FIRST_VERSION}
use Rattle.pl_scope.proofs.PlaceLaws.{at_found, position_none, only_none, only_is_first, position_within, only_within, position_same, only_same}
use Rattle.pl_scope.proofs.TableLaws.{no_tables, none_at}

-- ---- no symbol

-- no symbol defines the name for jump slots
abbrev NoneDefines : Object → List ℕ → Type 0
NoneDefines o name = (i : ℕ) (s : Symbol) → slice_get o.symbols i ≡ Some s → defines o name Jump s ≡ false

not_passed : (p : Symbol → Bool) (x : Option Symbol) → ((s : Symbol) → x ≡ Some s → p s ≡ false) → passes p x ≡ false
not_passed p None none = refl
not_passed p (Some s) none = none s refl

and_false : (b c : Bool) → b ≡ false → (b && c) ≡ false
and_false b c e = rw e refl

no_first : (o : Object) (name : List ℕ) (r : Symbol → Bool) → NoneDefines o name → position (λ s. defines o name Jump s && r s) o.symbols ≡ None
no_first o name r none =
    position_none (λ s. defines o name Jump s && r s) o.symbols
    (λ i. not_passed (λ s. defines o name Jump s && r s) (slice_get o.symbols i) (λ s e. and_false (defines o name Jump s) (r s) (none i s e)))

no_only : (o : Object) (name : List ℕ) (r : Symbol → Bool) → NoneDefines o name → only (λ s. defines o name Jump s && r s) o.symbols ≡ None
no_only o name r none = only_none (λ s. defines o name Jump s && r s) o.symbols (no_first o name r none)

abbrev no_index : Option ℕ
no_index = None

nothing : (b : Bool) → cond b no_index no_index ≡ no_index
nothing true = refl
nothing false = refl

no_versioned : (o : Object) (name version : List ℕ) → NoneDefines o name → versioned o name Jump version ≡ None
unfolding versioned counts
no_versioned o name version none =
    rw (no_first o name (has_version o version) none, no_first o name (λ s. s.version == VER_NDX_GLOBAL) none, no_only o name (λ s. true || nat_lt s.version VERSYM_HIDDEN) none)
    (nothing (is_some o.versions))

no_unversioned : (o : Object) (name : List ℕ) → NoneDefines o name → unversioned o name Jump ≡ None
unfolding unversioned counts
no_unversioned o name none =
    rw (
      no_first o name (λ s. index_of s.version == VER_NDX_LOCAL) none,
      no_first o name (λ s. index_of s.version == VER_NDX_GLOBAL) none,
      no_first o name (λ s. index_of s.version == FIRST_VERSION) none,
      no_only o name (λ s. false || nat_lt s.version VERSYM_HIDDEN) none,
    ) refl

no_match : (o : Object) (name : List ℕ) (version : Option (List ℕ)) → NoneDefines o name → matching o name Jump version ≡ None
no_match o name None none = no_unversioned o name none
no_match o name (Some version) none = no_versioned o name version none

-- an object without tables has no definer
pub untabled : (o : Object) (name : List ℕ) (version : Option (List ℕ)) → IsFit o → o.hashes ≡ [] → matching o name Jump version ≡ None
unfolding defines
untabled o name version fit none = no_match o name version (λ i s e. and_false (is_definer s Jump (is_program o.kind)) (bytes_eq s.name name) (no_tables o i s fit none e))

not_both : (b c : Bool) → (b ≡ true → c ≡ true → ⊥) → (b && c) ≡ false
not_both true true never = absurd (never refl refl)
not_both true false never = refl
not_both false c never = refl

-- where the hash leads to no symbol there is no definer of the name
pub missed : (o : Object) (t : HashTable) (name : List ℕ) (version : Option (List ℕ)) → IsTable o t → rest_from None (chain_symbols t (name_hash t name)) ≡ chain_symbols t (name_hash t name) → matching o name Jump version ≡ None
unfolding defines
missed o t name version is none =
    no_match o name version (λ i s e. not_both (is_definer s Jump (is_program o.kind)) (bytes_eq s.name name)
    (λ holds named.
    let same : s.name ≡ name = (bytes_eq-Decides s.name name).0 named in
    let there : is_chain_symbol t (name_hash t name) i ≡ true = subst (λ (n : List ℕ). is_chain_symbol t (name_hash t n) i ≡ true) same (is.complete i s e holds) in
    false≢true (ap (λ (xs : List ℕ). list_any (λ k. k == i) xs) none ∙ there)))

-- ---- classes

-- the definers of the name are those for jump slots
abbrev pub Agrees : Object → List ℕ → Class → Type 0
Agrees o name class = (i : ℕ) (s : Symbol) → slice_get o.symbols i ≡ Some s → defines o name class s ≡ defines o name Jump s

same_first : (o : Object) (name : List ℕ) (class : Class) (r : Symbol → Bool) → Agrees o name class
    → position (λ s. defines o name class s && r s) o.symbols ≡ position (λ s. defines o name Jump s && r s) o.symbols
same_first o name class r same =
    position_same (λ s. defines o name class s && r s) (λ s. defines o name Jump s && r s) o.symbols (λ i s e. ap (λ (b : Bool). b && r s) (same i s e))

same_only : (o : Object) (name : List ℕ) (class : Class) (r : Symbol → Bool) → Agrees o name class
    → only (λ s. defines o name class s && r s) o.symbols ≡ only (λ s. defines o name Jump s && r s) o.symbols
same_only o name class r same =
    only_same (λ s. defines o name class s && r s) (λ s. defines o name Jump s && r s) o.symbols (λ i s e. ap (λ (b : Bool). b && r s) (same i s e))

same_match : (o : Object) (name : List ℕ) (class : Class) (version : Option (List ℕ)) → Agrees o name class → matching o name class version ≡ matching o name Jump version
unfolding versioned unversioned counts
same_match o name class None same =
    rw (
      same_first o name class (λ s. index_of s.version == VER_NDX_LOCAL) same,
      same_first o name class (λ s. index_of s.version == VER_NDX_GLOBAL) same,
      same_first o name class (λ s. index_of s.version == FIRST_VERSION) same,
      same_only o name class (λ s. false || nat_lt s.version VERSYM_HIDDEN) same,
    ) refl
same_match o name class (Some version) same =
    rw (
      same_first o name class (has_version o version) same,
      same_first o name class (λ s. s.version == VER_NDX_GLOBAL) same,
      same_only o name class (λ s. true || nat_lt s.version VERSYM_HIDDEN) same,
    ) refl

same_by : (d c n p : Bool) → (((d || (p && c)) && n) && not (d && n)) ≡ false → ((d || (p && c)) && n) ≡ (d && n)
same_by true c n p e = refl
same_by false c true true e = elim c as (λ b. ((b && true) && not false) ≡ false → (b && true) ≡ false) [ true ↦ λ h. h | false ↦ λ h. refl ] e
same_by false c true false e = refl
same_by false c false true e = elim c as (λ b. (b && false) ≡ false) [ true ↦ refl | false ↦ refl ]
same_by false c false false e = refl

plain_by : (d c n : Bool) → ((d || (false && c)) && n) ≡ (d && n)
plain_by true c n = refl
plain_by false c n = refl

agrees_by : (o : Object) (name : List ℕ) (p any : Bool) → p ≡ is_program o.kind → any ≡ list_any (is_canonical_of o name) o.symbols → (p && any) ≡ false → Agrees o name Other
unfolding defines
agrees_by o name true any is_p is_any none i s e =
    same_by (is_definition s) (is_canonical s) (bytes_eq s.name name) (is_program o.kind) (none_at (is_canonical_of o name) o.symbols i s (sym is_any ∙ none) e)
agrees_by o name false any is_p is_any none i s e = rw (sym is_p) (plain_by (is_definition s) (is_canonical s) (bytes_eq s.name name))

agrees : (o : Object) (name : List ℕ) (class : Class) → has_canonical o name class ≡ false → Agrees o name class
unfolding has_canonical
agrees o name Jump none = λ i s e. refl
agrees o name Other none = agrees_by o name (is_program o.kind) (list_any (is_canonical_of o name) o.symbols) refl refl none

-- without a canonical address of the name the class does not count
pub classless : (o : Object) (name : List ℕ) (class : Class) (version : Option (List ℕ)) → has_canonical o name class ≡ false → matching o name Jump version ≡ matching o name class version
classless o name class version none = sym (same_match o name class version (agrees o name class none))

-- ---- what matches is a symbol

or_within : (n i : ℕ) (a b : Option ℕ) → (a ≡ Some i → i < n) → (b ≡ Some i → i < n) → option_or a b ≡ Some i → i < n
or_within n i None b f g e = g e
or_within n i (Some a) b f g e = f e

if_within : (n i : ℕ) (b : Bool) (o : Option ℕ) → (o ≡ Some i → i < n) → cond b None o ≡ Some i → i < n
if_within n i true o f e = absurd (cc)
if_within n i false o f e = f e

pub matching_within : (o : Object) (name : List ℕ) (class : Class) (version : Option (List ℕ)) (i : ℕ) → matching o name class version ≡ Some i → i < length o.symbols
unfolding versioned unversioned
matching_within o name class None i e =
    or_within (length o.symbols) i (at_index o name class VER_NDX_LOCAL) _ (position_within _ o.symbols i)
    (or_within (length o.symbols) i (at_index o name class VER_NDX_GLOBAL) _ (position_within _ o.symbols i)
    (or_within (length o.symbols) i (at_index o name class FIRST_VERSION) _ (position_within _ o.symbols i) (only_within (counts o name class false) o.symbols i)))
    e
matching_within o name class (Some version) i e =
    or_within (length o.symbols) i (position (λ s. defines o name class s && has_version o version s) o.symbols) _ (position_within _ o.symbols i)
    (or_within (length o.symbols) i (position (λ s. defines o name class s && s.version == VER_NDX_GLOBAL) o.symbols) _ (position_within _ o.symbols i)
    (if_within (length o.symbols) i (is_some o.versions) (only (counts o name class true) o.symbols) (only_within (counts o name class true) o.symbols i)))
    e

-- ---- what matches defines the name

-- the symbol of an index defines the name
pub record IsDefined (o : Object) (name : List ℕ) (class : Class) (i : ℕ) : Type 0 where
  pub symbol : Symbol
  pub at : slice_get o.symbols i ≡ Some symbol
  pub defines : defines o name class symbol ≡ true

passed_at : (o : Object) (name : List ℕ) (class : Class) (r : Symbol → Bool) (i : ℕ) (x : Option Symbol) → slice_get o.symbols i ≡ x → passes (λ s. defines o name class s && r s) x ≡ true → IsDefined o name class i
passed_at o name class r i None at e = absurd (false≢true e)
passed_at o name class r i (Some s) at e = record { symbol = s; at = at; defines = (and_parts (defines o name class s) (r s) e).0 }

first_defined : (o : Object) (name : List ℕ) (class : Class) (r : Symbol → Bool) (i : ℕ) → position (λ s. defines o name class s && r s) o.symbols ≡ Some i → IsDefined o name class i
first_defined o name class r i e =
    passed_at o name class r i (slice_get o.symbols i) refl (at_found (λ s. defines o name class s && r s) o.symbols i e).passes

only_defined : (o : Object) (name : List ℕ) (class : Class) (r : Symbol → Bool) (i : ℕ) → only (λ s. defines o name class s && r s) o.symbols ≡ Some i → IsDefined o name class i
only_defined o name class r i e = first_defined o name class r i (only_is_first (λ s. defines o name class s && r s) o.symbols i e)

or_defined : (o : Object) (name : List ℕ) (class : Class) (i : ℕ) (a b : Option ℕ) → (a ≡ Some i → IsDefined o name class i) → (b ≡ Some i → IsDefined o name class i) → option_or a b ≡ Some i → IsDefined o name class i
or_defined o name class i None b f g e = g e
or_defined o name class i (Some a) b f g e = f e

if_defined : (o : Object) (name : List ℕ) (class : Class) (i : ℕ) (b : Bool) (x : Option ℕ) → (x ≡ Some i → IsDefined o name class i) → cond b None x ≡ Some i → IsDefined o name class i
if_defined o name class i true x f e = absurd (cc)
if_defined o name class i false x f e = f e

pub matched : (o : Object) (name : List ℕ) (class : Class) (version : Option (List ℕ)) (i : ℕ) → matching o name class version ≡ Some i → IsDefined o name class i
unfolding versioned unversioned counts
matched o name class None i e =
    or_defined o name class i (at_index o name class VER_NDX_LOCAL) _ (first_defined o name class (λ s. index_of s.version == VER_NDX_LOCAL) i)
    (or_defined o name class i (at_index o name class VER_NDX_GLOBAL) _ (first_defined o name class (λ s. index_of s.version == VER_NDX_GLOBAL) i)
    (or_defined o name class i (at_index o name class FIRST_VERSION) _ (first_defined o name class (λ s. index_of s.version == FIRST_VERSION) i)
    (only_defined o name class (λ s. false || nat_lt s.version VERSYM_HIDDEN) i)))
    e
matched o name class (Some version) i e =
    or_defined o name class i (position (λ s. defines o name class s && has_version o version s) o.symbols) _ (first_defined o name class (has_version o version) i)
    (or_defined o name class i (position (λ s. defines o name class s && s.version == VER_NDX_GLOBAL) o.symbols) _ (first_defined o name class (λ s. s.version == VER_NDX_GLOBAL) i)
    (if_defined o name class i (is_some o.versions) _ (only_defined o name class (λ s. true || nat_lt s.version VERSYM_HIDDEN) i)))
    e

-- a definer of any class is one for references other than jump slots
other_by : (s : Symbol) (class : Class) (p : Bool) → is_definer s class p ≡ true → is_definer s Other p ≡ true
other_by s Jump p e = rw e refl
other_by s Other p e = e

-- what defines a name is a definer with this name
pub record IsNamed (o : Object) (name : List ℕ) (s : Symbol) : Type 0 where
  pub definer : is_definer s Other (is_program o.kind) ≡ true
  pub named : s.name ≡ name

pub named_by : (o : Object) (name : List ℕ) (class : Class) (s : Symbol) → defines o name class s ≡ true → IsNamed o name s
unfolding defines
named_by o name class s e =
    let parts = and_parts (is_definer s class (is_program o.kind)) (bytes_eq s.name name) e in
    record { definer = other_by s class (is_program o.kind) parts.0; named = (bytes_eq-Decides s.name name).0 parts.1 }
