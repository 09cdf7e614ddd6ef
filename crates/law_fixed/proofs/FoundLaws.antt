-- What a reference finds in the program moves with it.
use Rattle.std.proofs.Common.{◌≡◌, ℕ, zero, suc, ◌-◌, ◌≤◌, Bool, true, false, List, [], ◌∷◌, length, Option, Some, None, refl, sym, ap, subst, ◌∙◌, arith, inl, inr}
use Rattle.std.specs.Prelude.{◌⊎◌, ◌||◌, ◌&&◌, ◌==◌, is_some, position, count_by, slice_get, nat_lt, if◌then◌else◌}
use Rattle.std.specs.Option.{option_or, option_map}
use Rattle.std.specs.Str.{bytes_eq}
use Rattle.std.specs.List.{All, range_with_len}
use Rattle.std.proofs.lemmas.Bool.{cases_Bool, false≢true}
use Rattle.std.proofs.lemmas.List.FromFn.{length-range_with_len, get_or-range_with_len}
use Rattle.std.proofs.lemmas.List.Elements.{All-head, All-tail}
use Rattle.std.proofs.lemmas.List.Quantifiers.{position-Some}
use Rattle.std.proofs.lemmas.Option.{get_or_from_slice_get}
use Rattle.pl_sym.specs.declared.class.Class.{Class}
use Rattle.pl_value.specs.Definers.{Definer, definer, in_object, of_found, with_symbol}
use Rattle.pl_scope.specs.declared.constants.TheConstants.{FIRST_VERSION}
use Rattle.pl_scope.specs.declared.found.Found.{Found}
use Rattle.pl_sym.specs.declared.class.Class.TheVariants.{Jump, Other}
use Rattle.law_fixed.specs.Fixed.{KeepsItsKind, fixed, fixed_symbol, moves}
use Rattle.pl_object.specs.declared.object.Object.{Object}
use Rattle.pl_elf.specs.declared.constants.TheConstants.{R_X86_64_COPY}
use Rattle.pl_scope.specs.declared.reference.Reference.{Reference}
use Rattle.pl_sym.specs.declared.symbol.Symbol.{Symbol}
use Rattle.pl_ver.specs.declared.constants.TheConstants.{VERSYM_HIDDEN, VER_NDX_GLOBAL, VER_NDX_LOCAL}
use Rattle.pl_scope.specs.Matching.{at_index, counts, defines, has_version, matching, only, unversioned, versioned}
use Rattle.pl_scope.specs.Finds.{binds_itself, class_of, finds, first_in, found_for, found_in, from_member, in_member, of_member, of_object, of_symbol, searched, version_wanted}
use Rattle.pl_ver.specs.Fields.{index_of}
use Rattle.pl_sym.specs.Symbol.{is_absolute, is_in_section, is_tls}
use Rattle.pl_sym.specs.Definers.{is_canonical, is_definer, is_definition, is_linkable}
use Rattle.pl_elf.specs.Kinds.{is_program}
use Rattle.law_fixed.proofs.LookupLaws.{finds_kept, symbol_kept}

-- a number, a value that moves, or an offset in a TLS block
unfoldable pub is_placed : Symbol → Bool
is_placed s = is_absolute s || (moves s || is_tls s)

-- ---- definers

and_left : (a b : Bool) → (a && b) ≡ true → a ≡ true
and_left true b h = refl
and_left false b h = h

and_right : (a b : Bool) → (a && b) ≡ true → b ≡ true
and_right true b h = h
and_right false b h = absurd (false≢true h)

or_true : (a b : Bool) → (a || b) ≡ true → (a ≡ true) ⊎ (b ≡ true)
or_true true b h = inl refl
or_true false b h = inr h

pub section_placed : (s : Symbol) → (is_absolute s || is_in_section s) ≡ true → is_placed s ≡ true
unfolding is_placed moves
section_placed s h = grind (arith, h)

canonical_placed : (s : Symbol) → is_canonical s ≡ true → is_placed s ≡ true
unfolding is_placed moves
canonical_placed s h = grind (arith, h)

linkable_section : (s : Symbol) → is_definition s ≡ true → (is_absolute s || is_in_section s) ≡ true
unfolding is_definition is_linkable
linkable_section s h = grind (arith, h)

definer_placed : (s : Symbol) (c : Class) (program : Bool) → is_definer s c program ≡ true → is_placed s ≡ true
definer_placed s Jump program h = section_placed s (linkable_section s h)
definer_placed s Other program h = elim (or_true (is_definition s) (program && is_canonical s) h) [
  | inl own ↦ section_placed s (linkable_section s own)
  | inr there ↦ canonical_placed s (and_right program (is_canonical s) there)
]

-- ---- what is found passes the test

pub Passes : (Symbol → Bool) → List Symbol → Option ℕ → Type 0
Passes p ss found = (i : ℕ) (x : Symbol) → found ≡ Some i → slice_get ss i ≡ Some x → p x ≡ true

position_passes : (p : Symbol → Bool) (ss : List Symbol) → Passes p ss (position p ss)
unfolding Passes
position_passes p ss i x h there = subst (λ (y : Symbol). p y ≡ true) (get_or_from_slice_get ss i x x there) (position-Some p ss i x h).1

or_passes : (p : Symbol → Bool) (ss : List Symbol) (a b : Option ℕ) → Passes p ss a → Passes p ss b → Passes p ss (option_or a b)
or_passes p ss None b one two = two
or_passes p ss (Some i) b one two = one

weaker : (p q : Symbol → Bool) (ss : List Symbol) (found : Option ℕ) → ((x : Symbol) → p x ≡ true → q x ≡ true) → Passes p ss found → Passes q ss found
unfolding Passes
weaker p q ss found less passes i x h there = less x (passes i x h there)

only_passes : (p : Symbol → Bool) (ss : List Symbol) → Passes p ss (only p ss)
unfolding Passes
only_passes p ss i x h there = elim (cases_Bool (count_by p ss == 1)) [
  | inl hit ↦ position_passes p ss i x (rw hit at h) there
  | inr miss ↦ absurd (none_some i (rw miss at h))
]
  where
    none_some : (i : ℕ) → ◌≡◌ {A = Option ℕ} None (Some i) → ⊥
    none_some i e = absurd cc

none_passes : (p : Symbol → Bool) (ss : List Symbol) → Passes p ss None
unfolding Passes
none_passes p ss i x h there = absurd cc

defines_is : (o : Object) (name : List ℕ) (c : Class) (s : Symbol) → defines o name c s ≡ true → is_definer s c (is_program o.kind) ≡ true
unfolding defines
defines_is o name c s h = and_left (is_definer s c (is_program o.kind)) (bytes_eq s.name name) h

abbrev the_definer : Object → Class → Symbol → Bool
the_definer o c s = is_definer s c (is_program o.kind)

at_index_passes : (o : Object) (name : List ℕ) (c : Class) (index : ℕ) → Passes (the_definer o c) o.symbols (at_index o name c index)
at_index_passes o name c index =
    weaker (λ s. defines o name c s && index_of s.version == index) (the_definer o c) o.symbols (at_index o name c index)
    (λ x h. defines_is o name c x (and_left (defines o name c x) (index_of x.version == index) h)) (position_passes (λ s. defines o name c s && index_of s.version == index) o.symbols)

counts_is : (o : Object) (name : List ℕ) (c : Class) (hidden : Bool) (s : Symbol) → counts o name c hidden s ≡ true → is_definer s c (is_program o.kind) ≡ true
unfolding counts
counts_is o name c hidden s h = defines_is o name c s (and_left (defines o name c s) (hidden || nat_lt s.version VERSYM_HIDDEN) h)

counted_passes : (o : Object) (name : List ℕ) (c : Class) (hidden : Bool) → Passes (the_definer o c) o.symbols (only (counts o name c hidden) o.symbols)
counted_passes o name c hidden = weaker (counts o name c hidden) (the_definer o c) o.symbols (only (counts o name c hidden) o.symbols) (counts_is o name c hidden) (only_passes (counts o name c hidden) o.symbols)

-- what matches is a definer
pub matching_passes : (o : Object) (name : List ℕ) (c : Class) (version : Option (List ℕ)) → Passes (the_definer o c) o.symbols (matching o name c version)
unfolding unversioned versioned
matching_passes o name c None =
    let p = the_definer o c in
    or_passes p o.symbols (at_index o name c VER_NDX_LOCAL) _ (at_index_passes o name c VER_NDX_LOCAL)
    (or_passes p o.symbols (at_index o name c VER_NDX_GLOBAL) _ (at_index_passes o name c VER_NDX_GLOBAL)
    (or_passes p o.symbols (at_index o name c FIRST_VERSION) _ (at_index_passes o name c FIRST_VERSION) (counted_passes o name c false)))
matching_passes o name c (Some version) =
    let p = the_definer o c in
    let first = λ (s : Symbol). defines o name c s && has_version o version s in
    let second = λ (s : Symbol). defines o name c s && s.version == VER_NDX_GLOBAL in
    or_passes p o.symbols (position first o.symbols) _ (weaker first p o.symbols (position first o.symbols) (λ x h. defines_is o name c x (and_left (defines o name c x) (has_version o version x) h)) (position_passes first o.symbols))
    (or_passes p o.symbols (position second o.symbols) _ (weaker second p o.symbols (position second o.symbols) (λ x h. defines_is o name c x (and_left (defines o name c x) (x.version == VER_NDX_GLOBAL) h)) (position_passes second o.symbols))
    (elim (is_some o.versions) as (λ (b : Bool). Passes p o.symbols (if b then None else only (counts o name c true) o.symbols)) [
      | true ↦ none_passes p o.symbols
      | false ↦ counted_passes o name c true
    ]))

-- ---- the search

in_member_is : (objects : List Object) (name : List ℕ) (c : Class) (version : Option (List ℕ)) (member : ℕ) (f : Found) → in_member objects name c version member ≡ Some f → f.member ≡ member
unfolding in_member
in_member_is objects name c version member f h = of_one (slice_get objects member) h
  where
    of_two : (m : Option ℕ) → found_in member m ≡ Some f → f.member ≡ member
    of_two None e = absurd cc
    of_two (Some i) e = let same : record { member = member; symbol = i } ≡ f = cc in ap (λ (g : Found). g.member) (sym same)

    of_one : (o : Option Object) → of_object name c version member o ≡ Some f → f.member ≡ member
    of_one None e = absurd cc
    of_one (Some o) e = of_two (matching o name c version) e

-- the member that was found is one of those searched, and has it
first_in_is : (objects : List Object) (name : List ℕ) (c : Class) (version : Option (List ℕ)) (P : ℕ → Type 0) (members : List ℕ) (f : Found) → All P members → first_in objects name c version members ≡ Some f
    → P f.member × (in_member objects name c version f.member ≡ Some f)
unfolding first_in
first_in_is objects name c version P [] f all h = absurd cc
first_in_is objects name c version P (m ∷ ms) f all h = of_member_at (first_in_is objects name c version P ms f (All-tail P m ms all)) (in_member objects name c version m) refl h
  where
    of_member_at : (first_in objects name c version ms ≡ Some f → P f.member × (in_member objects name c version f.member ≡ Some f)) → (one : Option Found) → in_member objects name c version m ≡ one → option_or one (first_in objects name c version ms) ≡ Some f → P f.member × (in_member objects name c version f.member ≡ Some f)
    of_member_at rest None e g = rest g
    of_member_at rest (Some g) e i =
        let same : g ≡ f = cc in
        let is : in_member objects name c version m ≡ Some f = e ∙ i in
        let at : f.member ≡ m = in_member_is objects name c version m f is in
        (subst P (sym at) (All-head P m ms all), ap (in_member objects name c version) at ∙ is)

later : (start n : ℕ) → All (λ m. start ≤ m) (range_with_len start n)
later start n i d lt = rw (get_or-range_with_len start n i d (rw (length-range_with_len start n) at lt)) (omega arith)

any_member : (ms : List ℕ) → All (λ m. 0 ≤ m) ms
any_member ms i d lt = omega arith

-- ---- what is found in the program

-- a reference of the program to itself is to a symbol that moves, or is a number; a copy's is to none of its own
pub record IsGood (o : Object) (r : Reference) : Type 0 where
  pub own : (s : Symbol) → r.member ≡ 0 → slice_get o.symbols r.symbol ≡ Some s → binds_itself s ≡ true → (is_absolute s || is_in_section s) ≡ true
  pub elsewhere : (s : Symbol) → r.member ≡ 0 → slice_get o.symbols r.symbol ≡ Some s → r.kind == R_X86_64_COPY ≡ true → binds_itself s ≡ false

pub record FoundWell (o : Object) (r : Reference) (f : Found) : Type 0 where
  pub placed : (x : Symbol) → f.member ≡ 0 → slice_get o.symbols f.symbol ≡ Some x → is_placed x ≡ true
  pub elsewhere : f.member ≡ 0 → r.kind == R_X86_64_COPY ≡ false

found_in_is : (member : ℕ) (m : Option ℕ) (f : Found) → found_in member m ≡ Some f → m ≡ Some f.symbol
found_in_is member None f e = absurd cc
found_in_is member (Some i) f e = let same : record { member = member; symbol = i } ≡ f = cc in ap (λ (g : Found). Some g.symbol) same

searched_well : (o p : Object) (os : List Object) (r : Reference) (s : Symbol) (f : Found) → found_for (o ∷ os) r p s ≡ Some f → FoundWell o r f
unfolding found_for in_member Passes
searched_well o p os r s f h =
    let n : ℕ = length (o ∷ os) in
    let c : Class = class_of r.kind in
    let v : Option (List ℕ) = version_wanted p s in
    record {
      placed = λ x home there.
          let one = first_in_is (o ∷ os) s.name c v (λ m. 0 ≤ m) (searched p r n) f (any_member (searched p r n)) h in
          let is : in_member (o ∷ os) s.name c v 0 ≡ Some f = ap (in_member (o ∷ os) s.name c v) (sym home) ∙ one.1 in
          definer_placed x c (is_program o.kind) (matching_passes o s.name c v f.symbol x (found_in_is 0 (matching o s.name c v) f is) there);
      elsewhere = λ first. elim (cases_Bool (r.kind == R_X86_64_COPY)) [
        | inr miss ↦ miss
        | inl copy ↦
            let few : searched p r n ≡ from_member 1 n = rw copy refl in
            let one = first_in_is (o ∷ os) s.name c v (λ m. 1 ≤ m) (from_member 1 n) f (later 1 (n - 1)) (sym (ap (first_in (o ∷ os) s.name c v) few) ∙ h) in
            absurd (omega (arith, one.0, first))
      ];
    }

self_well : (o : Object) (r : Reference) (s : Symbol) (f : Found) → IsGood o r → (r.member ≡ 0 → slice_get o.symbols r.symbol ≡ Some s) → binds_itself s ≡ true → record { member = r.member; symbol = r.symbol } ≡ f → FoundWell o r f
self_well o r s f good mine self is =
    let member : f.member ≡ r.member = ap (λ (g : Found). g.member) (sym is) in
    let symbol : f.symbol ≡ r.symbol = ap (λ (g : Found). g.symbol) (sym is) in
    record {
      placed = λ x home there.
          let own : r.member ≡ 0 = sym member ∙ home in
          let at : slice_get o.symbols r.symbol ≡ Some x = ap (slice_get o.symbols) (sym symbol) ∙ there in
          let same : s ≡ x = let e : ◌≡◌ {A = Option Symbol} (Some s) (Some x) = sym (mine own) ∙ at in cc in
          section_placed x (good.own x own at (subst (λ (y : Symbol). binds_itself y ≡ true) same self));
      elsewhere = λ first. elim (cases_Bool (r.kind == R_X86_64_COPY)) [
        | inr miss ↦ miss
        | inl copy ↦ let home : r.member ≡ 0 = sym member ∙ first in absurd (false≢true (sym (good.elsewhere s home (mine home) copy) ∙ self))
      ];
    }

symbol_well : (o p : Object) (os : List Object) (r : Reference) (f : Found) (m : Option Symbol) → IsGood o r → (r.member ≡ 0 → slice_get o.symbols r.symbol ≡ m) → of_symbol (o ∷ os) r p m ≡ Some f → FoundWell o r f
symbol_well o p os r f None good mine h = absurd cc
symbol_well o p os r f (Some s) good mine h = elim (cases_Bool (binds_itself s)) [
  | inl self ↦ let e : ◌≡◌ {A = Option Found} (Some (record { member = r.member; symbol = r.symbol })) (Some f) = rw self at h in self_well o r s f good mine self cc
  | inr other ↦ searched_well o p os r s f (rw other at h)
]

member_well : (o : Object) (os : List Object) (r : Reference) (f : Found) (m : ℕ) → r.member ≡ m → IsGood o r → of_member (o ∷ os) r (slice_get (o ∷ os) m) ≡ Some f → FoundWell o r f
member_well o os r f zero is good h = symbol_well o o os r f (slice_get o.symbols r.symbol) good (λ _. refl) h
member_well o os r f (suc m) is good h = other (slice_get os m) h
  where
    other : (p : Option Object) → of_member (o ∷ os) r p ≡ Some f → FoundWell o r f
    other None e = absurd cc
    other (Some p) e = symbol_well o p os r f (slice_get p.symbols r.symbol) good (λ home. absurd (omega (arith, is, home))) e

pub finds_well : (o : Object) (os : List Object) (r : Reference) (f : Found) → IsGood o r → finds (o ∷ os) r ≡ Some f → FoundWell o r f
unfolding finds
finds_well o os r f good h = member_well o os r f r.member refl good h

-- ---- definers

abbrev pub definer_of : ℕ → Object → Symbol → Definer
definer_of member o s = record { member = member; object = o; symbol = s }

-- what holds of no definer, of one in another member, and of one in the program, holds of the definer before and after
pub definer_cases : (at : ℕ) (o : Object) (os : List Object) (r : Reference) (P : Option Definer → Option Definer → Type 0) → All (KeepsItsKind at) o.symbols → IsGood o r → P None None
    → ((m : ℕ) (p : Object) (x : Symbol) → slice_get os m ≡ Some p → P (Some (definer_of (suc m) p x)) (Some (definer_of (suc m) p x)))
    → ((x : Symbol) → is_placed x ≡ true → r.kind == R_X86_64_COPY ≡ false → P (Some (definer_of 0 o x)) (Some (definer_of 0 (fixed at o) (fixed_symbol at x))))
    → P (definer (o ∷ os) r) (definer (fixed at o ∷ os) r)
unfolding definer
definer_cases at o os r P all good none other own =
    subst (λ (f : Option Found). P (of_found (o ∷ os) (finds (o ∷ os) r)) (of_found (fixed at o ∷ os) f)) (sym (finds_kept at o os r all)) (of_result (finds (o ∷ os) r) refl)
  where
    of_own : (f : Found) → FoundWell o r f → f.member ≡ 0 → (m : Option Symbol) → slice_get o.symbols f.symbol ≡ m → P (with_symbol 0 o m) (with_symbol 0 (fixed at o) (option_map (fixed_symbol at) m))
    of_own f well home None is = none
    of_own f well home (Some x) is = own x (well.placed x home is) (well.elsewhere home)

    of_symbol_in : (k : ℕ) (p : Object) → slice_get os k ≡ Some p → (m : Option Symbol) → P (with_symbol (suc k) p m) (with_symbol (suc k) p m)
    of_symbol_in k p is None = none
    of_symbol_in k p is (Some x) = other k p x is

    of_other : (f : Found) (k : ℕ) → f.member ≡ suc k → (p : Option Object) → slice_get os k ≡ p → P (in_object f p) (in_object f p)
    of_other f k is None there = none
    of_other f k is (Some p) there = subst (λ (n : ℕ). P (with_symbol n p (slice_get p.symbols f.symbol)) (with_symbol n p (slice_get p.symbols f.symbol))) (sym is) (of_symbol_in k p there (slice_get p.symbols f.symbol))

    of_place : (f : Found) → FoundWell o r f → (k : ℕ) → f.member ≡ k → P (in_object f (slice_get (o ∷ os) k)) (in_object f (slice_get (fixed at o ∷ os) k))
    of_place f well zero is =
        subst (λ (n : ℕ). P (with_symbol n o (slice_get o.symbols f.symbol)) (with_symbol n (fixed at o) (slice_get (fixed at o).symbols f.symbol))) (sym is)
        (subst (λ (m : Option Symbol). P (with_symbol 0 o (slice_get o.symbols f.symbol)) (with_symbol 0 (fixed at o) m)) (sym (symbol_kept at o f.symbol)) (of_own f well is (slice_get o.symbols f.symbol) refl))
    of_place f well (suc k) is = of_other f k is (slice_get os k) refl

    of_result : (m : Option Found) → finds (o ∷ os) r ≡ m → P (of_found (o ∷ os) m) (of_found (fixed at o ∷ os) m)
    of_result None is = none
    of_result (Some f) is = of_place f (finds_well o os r f good is) f.member refl
