-- A fixed program answers every lookup as the program does.
use Rattle.std.proofs.Common.{◌≡◌, ℕ, zero, suc, ◌+◌, Bool, true, false, cond, List, [], ◌∷◌, length, map, Option, Some, None, refl, sym, ap, ◌∙◌, arith, inl, inr}
use Rattle.std.specs.Prelude.{◌&&◌, not, ◌==◌, position, count_by, slice_get, fold, nat_le}
use Rattle.std.specs.Option.{option_map}
use Rattle.std.specs.List.{All, position_or_len}
use Rattle.std.proofs.lemmas.Bool.{cases_Bool, false≢true}
use Rattle.std.proofs.lemmas.Bool.Decides.{nat_tests}
use Rattle.std.proofs.lemmas.List.{length-map}
use Rattle.std.proofs.lemmas.List.Elements.{All-head, All-tail}
use Rattle.std.proofs.lemmas.Option.{slice_get-map}
use Rattle.pl_sym.specs.declared.class.Class.{Class}
use Rattle.pl_scope.specs.declared.constants.TheConstants.{FIRST_VERSION}
use Rattle.pl_sym.specs.declared.class.Class.TheVariants.{Jump, Other}
use Rattle.law_fixed.specs.Fixed.{KeepsItsKind, fixed, fixed_symbol, moves, with_value}
use Rattle.pl_object.specs.declared.object.Object.{Object}
use Rattle.pl_scope.specs.declared.reference.Reference.{Reference}
use Rattle.pl_sym.specs.declared.symbol.Symbol.{Symbol}
use Rattle.pl_ver.specs.declared.constants.TheConstants.{VER_NDX_GLOBAL, VER_NDX_LOCAL}
use Rattle.pl_scope.specs.Matching.{at_index, counts, defines, has_version, matching, only, unversioned, versioned}
use Rattle.pl_scope.specs.Finds.{binds_itself, class_of, finds, first_in, found_for, found_in, in_member, of_member, of_symbol, searched, version_wanted}
use Rattle.pl_sym.specs.Definers.{has_plain_kind, has_value, is_canonical, is_definer, is_definition, is_global, is_linkable, is_visible}
use Rattle.pl_ver.specs.Fields.{index_of}
use Rattle.pl_sym.specs.Symbol.{is_absolute, is_in_section, is_local, is_tls, is_undefined}
use Rattle.pl_elf.specs.Kinds.{is_program}
use Rattle.pl_base.specs.Sums.{plus}

-- ---- one symbol

-- a symbol stays, or has another value
pub fixed_is : (at : ℕ) (s : Symbol) (P : Symbol → Type 0) → (moves s ≡ false → P s) → (moves s ≡ true → P (with_value (plus s.value at) s)) → P (fixed_symbol at s)
unfolding fixed_symbol
fixed_is at s P stays goes = elim (cases_Bool (moves s)) [
  | inl hit ↦ rw hit (goes hit)
  | inr miss ↦ rw miss (stays miss)
]

linkable_kept : (v : ℕ) (s : Symbol) → is_linkable (with_value v s) ≡ is_linkable s
unfolding is_linkable is_absolute is_in_section is_global is_visible has_plain_kind
linkable_kept v s = refl

-- of two values of a symbol both are 0 or neither
with_same : (v : ℕ) (s : Symbol) → (is_linkable s ≡ true → has_value (with_value v s) ≡ has_value s) → is_canonical (with_value v s) ≡ is_canonical s → (c : Class) (program : Bool) → is_definer (with_value v s) c program ≡ is_definer s c program
unfolding is_definition
with_same v s values canonical c program =
    let one : (is_linkable (with_value v s) && has_value (with_value v s)) ≡ (is_linkable s && has_value s) = elim (cases_Bool (is_linkable s)) [
      | inl hit ↦ rw (linkable_kept v s, hit) (values hit)
      | inr miss ↦ rw (linkable_kept v s, miss) refl
    ] in
    elim c as (λ (d : Class). is_definer (with_value v s) d program ≡ is_definer s d program) [
      | Jump ↦ one
      | Other ↦ rw (one, canonical) refl
    ]

valued : (v : ℕ) (s : Symbol) → s.value == 0 ≡ false → v == 0 ≡ false → has_value (with_value v s) ≡ has_value s
unfolding has_value is_absolute is_tls
valued v s old new = rw (old, new) refl

canonical_valued : (v : ℕ) (s : Symbol) → s.value == 0 ≡ false → v == 0 ≡ false → is_canonical (with_value v s) ≡ is_canonical s
unfolding is_canonical is_undefined is_local
canonical_valued v s old new = rw (old, new) refl

-- a symbol of value 0 that moves lies in a section
zero_moves : (s : Symbol) → moves s ≡ true → s.value == 0 ≡ true → (is_in_section s ≡ true) × (is_tls s ≡ false)
unfolding moves is_canonical
zero_moves s goes none = grind (arith, goes, none)

not_number : (n : ℕ) → (not (n == 0) && not (nat_le 65280 n && nat_le n 65535)) ≡ true → n == 65521 ≡ false
not_number n h = grind (arith, nat_tests)

not_nothing : (n : ℕ) (b : Bool) → (not (n == 0) && b) ≡ true → n == 0 ≡ false
not_nothing n b h = elim (cases_Bool (n == 0)) [
  | inl hit ↦ absurd (false≢true (rw hit at h))
  | inr miss ↦ miss
]

section_apart : (s : Symbol) → is_in_section s ≡ true → (is_undefined s ≡ false) × (is_absolute s ≡ false)
unfolding is_in_section is_undefined is_absolute
section_apart s inside = (not_nothing s.section (not (nat_le 65280 s.section && nat_le s.section 65535)) inside, not_number s.section inside)

never_canonical : (s : Symbol) → is_undefined s ≡ false → is_canonical s ≡ false
unfolding is_canonical
never_canonical s defined = rw defined refl

never_valued : (s : Symbol) → s.value == 0 ≡ true → is_absolute s ≡ false → is_tls s ≡ false → has_value s ≡ false
unfolding has_value
never_valued s none number block = rw (none, number, block) refl

undefined_kept : (v : ℕ) (s : Symbol) → is_undefined (with_value v s) ≡ is_undefined s
unfolding is_undefined
undefined_kept v s = refl

-- it is a definer as before
pub definer_kept : (at : ℕ) (s : Symbol) → KeepsItsKind at s → (c : Class) (program : Bool) → is_definer (fixed_symbol at s) c program ≡ is_definer s c program
definer_kept at s kept c program = fixed_is at s (λ (t : Symbol). is_definer t c program ≡ is_definer s c program) (λ _. refl) (λ goes.
    let v : ℕ = plus s.value at in
    elim (cases_Bool (s.value == 0)) [
      | inr some ↦ let there = kept.there goes some in with_same v s (λ _. valued v s some there) (canonical_valued v s some there) c program
      | inl none ↦
          let inside = zero_moves s goes none in
          let apart = section_apart s inside.0 in
          with_same v s (λ linked. absurd (false≢true (sym (never_valued s none apart.1 inside.1) ∙ kept.linked linked)))
          (never_canonical (with_value v s) (undefined_kept v s ∙ apart.0) ∙ sym (never_canonical s apart.0)) c program
    ])

-- ---- what does not change

pub name_kept : (at : ℕ) (s : Symbol) → (fixed_symbol at s).name ≡ s.name
name_kept at s = fixed_is at s (λ (t : Symbol). t.name ≡ s.name) (λ _. refl) (λ _. refl)

pub version_kept : (at : ℕ) (s : Symbol) → (fixed_symbol at s).version ≡ s.version
version_kept at s = fixed_is at s (λ (t : Symbol). t.version ≡ s.version) (λ _. refl) (λ _. refl)

pub size_kept : (at : ℕ) (s : Symbol) → (fixed_symbol at s).size ≡ s.size
size_kept at s = fixed_is at s (λ (t : Symbol). t.size ≡ s.size) (λ _. refl) (λ _. refl)

pub bind_kept : (at : ℕ) (s : Symbol) → (fixed_symbol at s).bind ≡ s.bind
bind_kept at s = fixed_is at s (λ (t : Symbol). t.bind ≡ s.bind) (λ _. refl) (λ _. refl)

pub self_kept : (at : ℕ) (s : Symbol) → binds_itself (fixed_symbol at s) ≡ binds_itself s
unfolding binds_itself is_local is_undefined
self_kept at s = fixed_is at s (λ (t : Symbol). binds_itself t ≡ binds_itself s) (λ _. refl) (λ _. refl)

pub tls_kept : (at : ℕ) (s : Symbol) → is_tls (fixed_symbol at s) ≡ is_tls s
unfolding is_tls
tls_kept at s = fixed_is at s (λ (t : Symbol). is_tls t ≡ is_tls s) (λ _. refl) (λ _. refl)

pub absolute_kept : (at : ℕ) (s : Symbol) → is_absolute (fixed_symbol at s) ≡ is_absolute s
unfolding is_absolute
absolute_kept at s = fixed_is at s (λ (t : Symbol). is_absolute t ≡ is_absolute s) (λ _. refl) (λ _. refl)

-- ---- tests over all symbols

pub any_position : {X Y : Type 0} (p : Y → Bool) (q : X → Bool) (f : X → Y) (xs : List X) → All (λ x. p (f x) ≡ q x) xs → position_or_len p (map f xs) ≡ position_or_len q xs
any_position p q f [] same = refl
any_position p q f (x ∷ xs) same =
    let one : p (f x) ≡ q x = All-head (λ y. p (f y) ≡ q y) x xs same in
    let rest = any_position p q f xs (All-tail (λ y. p (f y) ≡ q y) x xs same) in
    rw (one, rest) refl

pub position_kept : {X Y : Type 0} (p : Y → Bool) (q : X → Bool) (f : X → Y) (xs : List X) → All (λ x. p (f x) ≡ q x) xs → position p (map f xs) ≡ position q xs
position_kept p q f xs same = rw (any_position p q f xs same, length-map xs f) refl

fold_kept : {X Y : Type 0} (p : Y → Bool) (q : X → Bool) (f : X → Y) (xs : List X) (n : ℕ) → All (λ x. p (f x) ≡ q x) xs → fold (λ (a : ℕ) (y : Y). a + cond (p y) 1 0) n (map f xs) ≡ fold (λ (a : ℕ) (x : X). a + cond (q x) 1 0) n xs
fold_kept p q f [] n same = refl
fold_kept p q f (x ∷ xs) n same =
    let one : p (f x) ≡ q x = All-head (λ y. p (f y) ≡ q y) x xs same in
    rw (fold, one) (fold_kept p q f xs (n + cond (q x) 1 0) (All-tail (λ y. p (f y) ≡ q y) x xs same))

pub count_kept : {X Y : Type 0} (p : Y → Bool) (q : X → Bool) (f : X → Y) (xs : List X) → All (λ x. p (f x) ≡ q x) xs → count_by p (map f xs) ≡ count_by q xs
count_kept p q f xs same = fold_kept p q f xs 0 same

-- ---- one object

all_same : {X : Type 0} (P Q : X → Type 0) (xs : List X) → ((x : X) → P x → Q x) → All P xs → All Q xs
all_same P Q xs f all = λ i d lt. f _ (all i d lt)

-- every test of symbols that the fixed ones pass as the old ones do
abbrev SameTest : ℕ → (Symbol → Bool) → Type 0
SameTest at p = (s : Symbol) → KeepsItsKind at s → p (fixed_symbol at s) ≡ p s

same_position : (at : ℕ) (p : Symbol → Bool) (ss : List Symbol) → SameTest at p → All (KeepsItsKind at) ss → position p (map (fixed_symbol at) ss) ≡ position p ss
same_position at p ss same all = position_kept p p (fixed_symbol at) ss (λ i d lt. same _ (all i d lt))

same_only : (at : ℕ) (p : Symbol → Bool) (ss : List Symbol) → SameTest at p → All (KeepsItsKind at) ss → only p (map (fixed_symbol at) ss) ≡ only p ss
same_only at p ss same all =
    rw (count_kept p p (fixed_symbol at) ss (λ i d lt. same _ (all i d lt)), same_position at p ss same all) refl

defines_kept : (at : ℕ) (o : Object) (name : List ℕ) (c : Class) → SameTest at (defines o name c)
unfolding defines
defines_kept at o name c s kept = rw (definer_kept at s kept c (is_program o.kind), name_kept at s) refl

counts_kept : (at : ℕ) (o : Object) (name : List ℕ) (c : Class) (hidden : Bool) → SameTest at (counts o name c hidden)
unfolding counts
counts_kept at o name c hidden s kept = rw (defines_kept at o name c s kept, version_kept at s) refl

has_version_kept : (at : ℕ) (o : Object) (version : List ℕ) → SameTest at (has_version o version)
unfolding has_version
has_version_kept at o version s kept = rw (version_kept at s) refl

at_index_kept : (at : ℕ) (o : Object) (name : List ℕ) (c : Class) (index : ℕ) → All (KeepsItsKind at) o.symbols → at_index (fixed at o) name c index ≡ at_index o name c index
unfolding fixed defines
at_index_kept at o name c index all =
    same_position at (λ s. defines o name c s && index_of s.version == index) o.symbols (λ s kept. rw (defines_kept at o name c s kept, version_kept at s) refl) all

pub matching_kept : (at : ℕ) (o : Object) (name : List ℕ) (c : Class) (version : Option (List ℕ)) → All (KeepsItsKind at) o.symbols → matching (fixed at o) name c version ≡ matching o name c version
unfolding versioned unversioned fixed defines counts has_version
matching_kept at o name c None all =
    let one = at_index_kept at o name c VER_NDX_LOCAL all in
    let two = at_index_kept at o name c VER_NDX_GLOBAL all in
    let three = at_index_kept at o name c FIRST_VERSION all in
    let four = same_only at (counts o name c false) o.symbols (counts_kept at o name c false) all in
    rw (one, two, three, four) refl
matching_kept at o name c (Some version) all =
    let one = same_position at (λ s. defines o name c s && has_version o version s) o.symbols (λ s kept. rw (defines_kept at o name c s kept, has_version_kept at o version s kept) refl) all in
    let two = same_position at (λ s. defines o name c s && s.version == VER_NDX_GLOBAL) o.symbols (λ s kept. rw (defines_kept at o name c s kept, version_kept at s) refl) all in
    let three = same_only at (counts o name c true) o.symbols (counts_kept at o name c true) all in
    rw (one, two, three) refl

-- ---- a scope

pub in_member_kept : (at : ℕ) (o : Object) (os : List Object) (name : List ℕ) (c : Class) (version : Option (List ℕ)) (member : ℕ) → All (KeepsItsKind at) o.symbols
    → in_member (fixed at o ∷ os) name c version member ≡ in_member (o ∷ os) name c version member
unfolding in_member
in_member_kept at o os name c version zero all = ap (found_in 0) (matching_kept at o name c version all)
in_member_kept at o os name c version (suc member) all = refl

pub first_in_kept : (at : ℕ) (o : Object) (os : List Object) (name : List ℕ) (c : Class) (version : Option (List ℕ)) (members : List ℕ) → All (KeepsItsKind at) o.symbols
    → first_in (fixed at o ∷ os) name c version members ≡ first_in (o ∷ os) name c version members
unfolding first_in
first_in_kept at o os name c version [] all = refl
first_in_kept at o os name c version (member ∷ members) all = rw (in_member_kept at o os name c version member all, first_in_kept at o os name c version members all) refl

wanted_kept : (at : ℕ) (o : Object) (s : Symbol) → version_wanted (fixed at o) (fixed_symbol at s) ≡ version_wanted o s
unfolding version_wanted fixed
wanted_kept at o s = rw (version_kept at s) refl

searched_kept : (at : ℕ) (o : Object) (r : Reference) (n : ℕ) → searched (fixed at o) r n ≡ searched o r n
unfolding fixed
searched_kept at o r n = refl

found_own : (at : ℕ) (o : Object) (os : List Object) (r : Reference) (s : Symbol) → All (KeepsItsKind at) o.symbols → found_for (fixed at o ∷ os) r (fixed at o) (fixed_symbol at s) ≡ found_for (o ∷ os) r o s
unfolding found_for
found_own at o os r s all =
    let n : ℕ = length (o ∷ os) in
    let same = name_kept at s in
    ap (λ (name : List ℕ). first_in (fixed at o ∷ os) name (class_of r.kind) (version_wanted (fixed at o) (fixed_symbol at s)) (searched (fixed at o) r n)) (name_kept at s)
    ∙ ap (λ (v : Option (List ℕ)). first_in (fixed at o ∷ os) s.name (class_of r.kind) v (searched (fixed at o) r n)) (wanted_kept at o s)
    ∙ ap (first_in (fixed at o ∷ os) s.name (class_of r.kind) (version_wanted o s)) (searched_kept at o r n)
    ∙ first_in_kept at o os s.name (class_of r.kind) (version_wanted o s) (searched o r n) all

found_other : (at : ℕ) (o p : Object) (os : List Object) (r : Reference) (s : Symbol) → All (KeepsItsKind at) o.symbols → found_for (fixed at o ∷ os) r p s ≡ found_for (o ∷ os) r p s
unfolding found_for
found_other at o p os r s all = first_in_kept at o os s.name (class_of r.kind) (version_wanted p s) (searched p r (length (o ∷ os))) all

symbol_own : (at : ℕ) (o : Object) (os : List Object) (r : Reference) (m : Option Symbol) → All (KeepsItsKind at) o.symbols → of_symbol (fixed at o ∷ os) r (fixed at o) (option_map (fixed_symbol at) m) ≡ of_symbol (o ∷ os) r o m
symbol_own at o os r None all = refl
symbol_own at o os r (Some s) all = rw (self_kept at s, found_own at o os r s all) refl

symbol_other : (at : ℕ) (o p : Object) (os : List Object) (r : Reference) (m : Option Symbol) → All (KeepsItsKind at) o.symbols → of_symbol (fixed at o ∷ os) r p m ≡ of_symbol (o ∷ os) r p m
symbol_other at o p os r None all = refl
symbol_other at o p os r (Some s) all = rw (found_other at o p os r s all) refl

member_other : (at : ℕ) (o : Object) (os : List Object) (r : Reference) (m : Option Object) → All (KeepsItsKind at) o.symbols → of_member (fixed at o ∷ os) r m ≡ of_member (o ∷ os) r m
member_other at o os r None all = refl
member_other at o os r (Some p) all = symbol_other at o p os r (slice_get p.symbols r.symbol) all

-- a symbol of the program by its index
pub symbol_kept : (at : ℕ) (o : Object) (i : ℕ) → slice_get (fixed at o).symbols i ≡ option_map (fixed_symbol at) (slice_get o.symbols i)
unfolding fixed
symbol_kept at o i = slice_get-map (fixed_symbol at) o.symbols i

member_kept : (at : ℕ) (o : Object) (os : List Object) (r : Reference) (m : ℕ) → All (KeepsItsKind at) o.symbols → of_member (fixed at o ∷ os) r (slice_get (fixed at o ∷ os) m) ≡ of_member (o ∷ os) r (slice_get (o ∷ os) m)
member_kept at o os r zero all =
    ap (of_symbol (fixed at o ∷ os) r (fixed at o)) (symbol_kept at o r.symbol) ∙ symbol_own at o os r (slice_get o.symbols r.symbol) all
member_kept at o os r (suc m) all = member_other at o os r (slice_get os m) all

-- the same definer is found for every reference
pub finds_kept : (at : ℕ) (o : Object) (os : List Object) (r : Reference) → All (KeepsItsKind at) o.symbols → finds (fixed at o ∷ os) r ≡ finds (o ∷ os) r
unfolding finds
finds_kept at o os r all = member_kept at o os r r.member all
