-- Each relocation of a settled scope has a value.
use Rattle.std.proofs.Common.{◌≡◌, ℕ, zero, suc, ◌+◌, ◌<◌, ◌≤◌, Bool, true, false, List, [], ◌∷◌, ◌++◌, length, map, get_or, Option, Some, None, Result, Ok, refl, sym, ap, subst, ◌∙◌, arith, inl, inr}
use Rattle.std.specs.Prelude.{◌==◌, ◌&&◌, not, nat_le, nat_lt, min, position, slice_get}
use Rattle.std.specs.List.{AllByRecursion, list_any}
use Rattle.std.specs.Option.{option_or}
use Rattle.std.proofs.lemmas.Bool.{cases_Bool, false≢true, or_cases, or_right}
use Rattle.std.proofs.lemmas.Bool.Decides.{nat_tests}
use Rattle.std.proofs.lemmas.Option.{slice_get-get_or, slice_get_within}
use Rattle.std.proofs.lemmas.Slice.Eq.{bytes_eq-Decides}
use Rattle.pl_base.specs.Answers.{◌>>=◌}
use Rattle.pl_base.specs.Each.{each}
use Rattle.pl_elf.specs.Headers.{is_load}
use Rattle.pl_elf.specs.Kinds.{is_program}
use Rattle.pl_elf.specs.declared.constants.TheConstants.{R_X86_64_64, R_X86_64_COPY, R_X86_64_GLOB_DAT, R_X86_64_JUMP_SLOT, R_X86_64_RELATIVE}
use Rattle.pl_elf.specs.declared.segment.Segment.{Segment}
use Rattle.pl_object.specs.Relocations.{size_of}
use Rattle.pl_object.specs.declared.object.Object.{Object}
use Rattle.pl_object.specs.declared.reloc.Reloc.{Reloc}
use Rattle.pl_scope.specs.Finds.{binds_itself, class_of, finds, first_in, found_for, found_in, from_member, in_member, of_object, own_symbol, searched, version_wanted}
use Rattle.pl_scope.specs.Matching.{at_index, defines, matching, unversioned}
use Rattle.pl_scope.specs.Probing.{passes_at}
use Rattle.pl_scope.specs.declared.found.Found.{Found}
use Rattle.pl_scope.specs.declared.reference.Reference.{Reference}
use Rattle.pl_scope.proofs.MatchingLaws.{IsDefined, matched, named_by}
use Rattle.pl_scope.proofs.PlaceLaws.{located}
use Rattle.pl_scope.proofs.SearchLaws.{first_more}
use Rattle.pl_sym.specs.Definers.{is_definer, is_definition}
use Rattle.pl_sym.specs.Symbol.{is_tls}
use Rattle.pl_sym.specs.declared.class.Class.{Class}
use Rattle.pl_sym.specs.declared.class.Class.TheVariants.{Jump, Other}
use Rattle.pl_sym.specs.declared.constants.TheConstants.{STB_WEAK}
use Rattle.pl_sym.specs.declared.symbol.Symbol.{Symbol}
use Rattle.pl_tls.specs.declared.module.Module.{Module}
use Rattle.pl_ver.specs.Fields.{index_of}
use Rattle.pl_ver.specs.declared.constants.TheConstants.{VER_NDX_GLOBAL}
use Rattle.pl_value.specs.Copies.{copied, copy, is_in_load, is_outside}
use Rattle.pl_value.specs.Definers.{Definer, definer, is_weak}
use Rattle.pl_value.specs.Meanings.{Row, meaning, meanings, row, rows, rows_from}
use Rattle.pl_value.specs.Targets.{address, target}
use Rattle.pl_value.specs.Values.{reference, value_of}
use Rattle.pl_value.specs.declared.word.Word.TheVariants.{Copy}
use Rattle.law_demo.specs.Links.{AreSettled, ChangesWord, CopiesGiven, HasSettledSymbols, IsGiven, IsLoaded, IsOptional, IsSettledSymbol, SettledScopesLink}

abbrev HasValue : {X E : Type 0} → Result X E → Type 0
HasValue {X = X} r = (x : X) × (r ≡ Ok x)

-- ---- a definer is found

definer_for : (s : Symbol) (class : Class) (program : Bool) → is_definition s ≡ true → is_definer s class program ≡ true
definer_for s Jump program e = e
definer_for s Other program e = rw e refl

passing : (p : Symbol → Bool) (xs : List Symbol) (i : ℕ) → passes_at p xs i ≡ true → (j : ℕ) × (position p xs ≡ Some j)
passing p xs i e = elim (located p xs) [
  | inl nowhere ↦ absurd (false≢true (sym (nowhere.all i) ∙ e))
  | inr at ↦ (at.0, at.1.found)
]

or_second : {X : Type 0} (a b : Option X) (x : X) → b ≡ Some x → (y : X) × (option_or a b ≡ Some y)
or_second None b x e = (x, e)
or_second (Some a) b x e = (a, refl)

or_first : {X : Type 0} (a b : Option X) (x : X) → a ≡ Some x → (y : X) × (option_or a b ≡ Some y)
or_first a b x e = (x, rw e refl)

names_defines : (o : Object) (name : List ℕ) (class : Class) (s : Symbol) → is_definition s ≡ true → s.name ≡ name → defines o name class s ≡ true
unfolding defines
names_defines o name class s definition named = rw (definer_for s class (is_program o.kind) definition) ((bytes_eq-Decides s.name name).1 named)

some_matching : (o : Object) (name : List ℕ) (class : Class) (i : ℕ) (s : Symbol) → slice_get o.symbols i ≡ Some s → is_definition s ≡ true → index_of s.version ≡ VER_NDX_GLOBAL → s.name ≡ name → (j : ℕ) × (unversioned o name class ≡ Some j)
unfolding unversioned
some_matching o name class i s at definition version named =
    let same : (index_of s.version == VER_NDX_GLOBAL) ≡ true = ap (λ (k : ℕ). k == VER_NDX_GLOBAL) version in
    let found = passing (λ t. defines o name class t && index_of t.version == VER_NDX_GLOBAL) o.symbols i (rw (at, names_defines o name class s definition named) same) in
    let rest = or_first (at_index o name class VER_NDX_GLOBAL) _ found.0 found.1 in
    or_second _ _ rest.0 rest.1

in_found : (m : ℕ) (x : Option ℕ) (j : ℕ) → x ≡ Some j → (f : Found) × (found_in m x ≡ Some f)
in_found m x j e = (record { member = m; symbol = j }, rw e refl)

some_in_member : (os : List Object) (name : List ℕ) (class : Class) (m : ℕ) (o : Object) (i : ℕ) (s : Symbol) → slice_get os m ≡ Some o → slice_get o.symbols i ≡ Some s → is_definition s ≡ true → index_of s.version ≡ VER_NDX_GLOBAL → s.name ≡ name
    → (f : Found) × (in_member os name class None m ≡ Some f)
unfolding in_member
some_in_member os name class m o i s there at definition version named =
    let j = some_matching o name class i s at definition version named in
    rw there (in_found m (unversioned o name class) j.0 j.1)

-- among the members from one on
some_first : (os : List Object) (name : List ℕ) (class : Class) (version : Option (List ℕ)) (k m c : ℕ) → m + k < c → (f : Found) → in_member os name class version (m + k) ≡ Some f → (g : Found) × (first_in os name class version (from_member m c) ≡ Some g)
some_first os name class version zero m c lt f e =
    let here : m + 0 ≡ m = omega arith in
    let found = or_first (in_member os name class version m) (first_in os name class version (from_member (m + 1) c)) f (subst (λ (n : ℕ). in_member os name class version n ≡ Some f) here e) in
    (found.0, first_more os name class version m c (omega (arith, lt)) ∙ found.1)
some_first os name class version (suc k) m c lt f e =
    let later : m + suc k ≡ m + 1 + k = omega arith in
    let rest = some_first os name class version k (m + 1) c (omega (arith, lt)) f (subst (λ (n : ℕ). in_member os name class version n ≡ Some f) later e) in
    let found = or_second (in_member os name class version m) (first_in os name class version (from_member (m + 1) c)) rest.0 rest.1 in
    (found.0, first_more os name class version m c (omega (arith, lt)) ∙ found.1)

-- ---- what is found is a definer

-- the symbol of a member, which defines something
record Hits (os : List Object) (f : Found) : Type 0 where
  object : Object
  there : slice_get os f.member ≡ Some object
  symbol : Symbol
  at : slice_get object.symbols f.symbol ≡ Some symbol
  defines : is_definer symbol Other (is_program object.kind) ≡ true

hits_in : (os : List Object) (name : List ℕ) (class : Class) (m : ℕ) (o : Object) (x : Option ℕ) (f : Found) → slice_get os m ≡ Some o → ((i : ℕ) → x ≡ Some i → IsDefined o name class i) → found_in m x ≡ Some f → Hits os f
hits_in os name class m o None f there is e = absurd (cc)
hits_in os name class m o (Some i) f there is e =
    let same : record { member = m; symbol = i } ≡ f = cc in
    let d = is i refl in
    subst (Hits os) same (record { object = o; there = there; symbol = d.symbol; at = d.at; defines = (named_by o name class d.symbol d.defines).definer })

hits_by : (os : List Object) (name : List ℕ) (class : Class) (version : Option (List ℕ)) (m : ℕ) (x : Option Object) (f : Found) → slice_get os m ≡ x → of_object name class version m x ≡ Some f → Hits os f
hits_by os name class version m None f there e = absurd (cc)
hits_by os name class version m (Some o) f there e = hits_in os name class m o (matching o name class version) f there (matched o name class version) e

or_hits : (os : List Object) (a b : Option Found) (f : Found) → (a ≡ Some f → Hits os f) → (b ≡ Some f → Hits os f) → option_or a b ≡ Some f → Hits os f
or_hits os None b f g h e = h e
or_hits os (Some a) b f g h e = g e

first_hits : (os : List Object) (name : List ℕ) (class : Class) (version : Option (List ℕ)) (ms : List ℕ) (f : Found) → first_in os name class version ms ≡ Some f → Hits os f
unfolding first_in in_member
first_hits os name class version [] f e = absurd (cc)
first_hits os name class version (m ∷ ms) f e =
    or_hits os (in_member os name class version m) (first_in os name class version ms) f (λ here. hits_by os name class version m (slice_get os m) f refl here) (first_hits os name class version ms f) e

-- ---- a symbol of a settled scope

ordinary_at : (o : Object) → HasSettledSymbols o → (k : ℕ) (s : Symbol) → slice_get o.symbols k ≡ Some s → is_tls s ≡ false
ordinary_at o has zero s at = (has.null s at).ordinary
ordinary_at o has (suc k) s at = (has.each k s at).ordinary

-- one that defines something is loaded
loaded_at : (o : Object) → HasSettledSymbols o → (k : ℕ) (s : Symbol) → slice_get o.symbols k ≡ Some s → is_definer s Other (is_program o.kind) ≡ true → IsLoaded o.segments s
loaded_at o has zero s at defines = absurd (false≢true (sym ((has.null s at).nothing (is_program o.kind)) ∙ defines))
loaded_at o has (suc k) s at defines = elim (has.each k s at).form [
  | inl loaded ↦ loaded
  | inr optional ↦ absurd (false≢true (sym (optional.nothing (is_program o.kind)) ∙ defines))
]

no_version : (o : Object) (s : Symbol) → index_of s.version ≡ VER_NDX_GLOBAL → version_wanted o s ≡ None
unfolding version_wanted
no_version o s e = let low : nat_lt VER_NDX_GLOBAL (index_of s.version) ≡ false = ap (λ (k : ℕ). nat_lt VER_NDX_GLOBAL k) e in rw low refl

-- ---- what a reference finds

-- a reference that binds itself finds itself; any other what a search finds
record Finds (os : List Object) (r : Reference) (o : Object) (s : Symbol) : Type 0 where
  itself : binds_itself s ≡ true → finds os r ≡ Some (record { member = r.member; symbol = r.symbol })
  others : binds_itself s ≡ false → finds os r ≡ found_for os r o s

finds_by : (os : List Object) (r : Reference) (o : Object) (s : Symbol) → slice_get os r.member ≡ Some o → slice_get o.symbols r.symbol ≡ Some s → Finds os r o s
unfolding finds
finds_by os r o s there at = record {
  itself = λ e. rw (there, at, e) refl;
  others = λ e. rw (there, at, e) refl;
}

-- the members that are searched hold the reference's own, where it is no copy
own_found : (os : List Object) (r : Reference) (o : Object) (s : Symbol) → (r.kind == R_X86_64_COPY) ≡ false → slice_get os r.member ≡ Some o → slice_get o.symbols r.symbol ≡ Some s → is_definition s ≡ true → index_of s.version ≡ VER_NDX_GLOBAL
    → (f : Found) × (found_for os r o s ≡ Some f)
unfolding found_for first_in
own_found os r o s kind there at definition version =
    let own = some_in_member os s.name (class_of r.kind) r.member o r.symbol s there at definition version refl in
    let whole = some_first os s.name (class_of r.kind) None r.member 0 (length os) (omega (arith, slice_get_within os r.member o there)) own.0 (subst (λ (m : ℕ). in_member os s.name (class_of r.kind) None m ≡ Some own.0) (omega arith) own.1) in
    rw (no_version o s version, kind) (elim (cases_Bool o.symbolic) [
      | inl first ↦ rw first (or_first (in_member os s.name (class_of r.kind) None r.member) (first_in os s.name (class_of r.kind) None (from_member 0 (length os))) own.0 own.1)
      | inr plain ↦ rw plain whole
    ])

-- a copy's members are those after the first
given_found : (os : List Object) (r : Reference) (o : Object) (s : Symbol) → r.kind ≡ R_X86_64_COPY → index_of s.version ≡ VER_NDX_GLOBAL → (g : IsGiven os s.name) → index_of g.symbol.version ≡ VER_NDX_GLOBAL → (f : Found) × (found_for os r o s ≡ Some f)
unfolding found_for
given_found os r o s kind version g unversioned =
    let copies : (r.kind == R_X86_64_COPY) ≡ true = ap (λ (k : ℕ). k == R_X86_64_COPY) kind in
    let here = some_in_member os s.name (class_of r.kind) (suc g.member) g.object (suc g.index) g.symbol g.there g.at g.definition unversioned g.named in
    let found = some_first os s.name (class_of r.kind) None g.member 1 (length os) (omega (arith, slice_get_within os (suc g.member) g.object g.there)) here.0
    (subst (λ (m : ℕ). in_member os s.name (class_of r.kind) None m ≡ Some here.0) (omega arith) here.1) in
    rw (no_version o s version, copies) found

-- ---- definers

definer_none : (os : List Object) (r : Reference) → finds os r ≡ None → definer os r ≡ None
unfolding definer
definer_none os r e = rw e refl

definer_some : (os : List Object) (r : Reference) (f : Found) (o : Object) (s : Symbol) → finds os r ≡ Some f → slice_get os f.member ≡ Some o → slice_get o.symbols f.symbol ≡ Some s
    → definer os r ≡ Some (record { member = f.member; object = o; symbol = s })
unfolding definer
definer_some os r f o s e there at = rw (e, there, at) refl

own_is : (os : List Object) (r : Reference) (o : Object) (s : Symbol) → slice_get os r.member ≡ Some o → slice_get o.symbols r.symbol ≡ Some s → own_symbol os r ≡ Some s
own_is os r o s there at = rw (there, at) refl

weak_is : (os : List Object) (r : Reference) (o : Object) (s : Symbol) → slice_get os r.member ≡ Some o → slice_get o.symbols r.symbol ≡ Some s → s.bind ≡ STB_WEAK → is_weak os r ≡ true
unfolding is_weak
weak_is os r o s there at weak = rw (there, at) (ap (λ (k : ℕ). k == STB_WEAK) weak)

-- a definer that was found: in the memory of its object, and not thread-local
record HasDefiner (os : List Object) (r : Reference) : Type 0 where
  found : Definer
  is : definer os r ≡ Some found
  ordinary : is_tls found.symbol ≡ false
  loaded : IsLoaded found.object.segments found.symbol

by_hit : (os : List Object) (r : Reference) (f : Found) → ((m : ℕ) (o : Object) → slice_get os m ≡ Some o → HasSettledSymbols o) → finds os r ≡ Some f → Hits os f → HasDefiner os r
by_hit os r f has e h =
    let own : HasSettledSymbols h.object = has f.member h.object h.there in
    record {
      found = record { member = f.member; object = h.object; symbol = h.symbol };
      is = definer_some os r f h.object h.symbol e h.there h.at;
      ordinary = ordinary_at h.object own f.symbol h.symbol h.at;
      loaded = loaded_at h.object own f.symbol h.symbol h.at h.defines;
    }

itself_defines : (os : List Object) (r : Reference) (o : Object) (s : Symbol) → finds os r ≡ Some (record { member = r.member; symbol = r.symbol }) → slice_get os r.member ≡ Some o → slice_get o.symbols r.symbol ≡ Some s → is_tls s ≡ false → IsLoaded o.segments s → HasDefiner os r
itself_defines os r o s e there at ordinary loaded = record {
  found = record { member = r.member; object = o; symbol = s };
  is = definer_some os r (record { member = r.member; symbol = r.symbol }) o s e there at;
  ordinary = ordinary;
  loaded = loaded;
}

searched_defines : (os : List Object) (r : Reference) (o : Object) (s : Symbol) (f : Found) → ((m : ℕ) (o : Object) → slice_get os m ≡ Some o → HasSettledSymbols o) → finds os r ≡ found_for os r o s → found_for os r o s ≡ Some f → HasDefiner os r
unfolding found_for
searched_defines os r o s f has e found = by_hit os r f has (e ∙ found) (first_hits os s.name (class_of r.kind) (version_wanted o s) (searched o r (length os)) f found)

-- ---- words

target_some : (os : List Object) (places : List ℕ) (r : Reference) (d : Definer) → (r.symbol == 0) ≡ false → definer os r ≡ Some d → is_tls d.symbol ≡ false → HasValue (target os places r)
unfolding target
target_some os places r d some is ordinary = (address places d, rw (some, is, ordinary) refl)

target_with : (os : List Object) (places : List ℕ) (r : Reference) → (r.symbol == 0) ≡ false → HasDefiner os r → HasValue (target os places r)
target_with os places r some d = target_some os places r d.found some d.is d.ordinary

target_weak : (os : List Object) (places : List ℕ) (r : Reference) → (r.symbol == 0) ≡ false → finds os r ≡ None → is_weak os r ≡ true → HasValue (target os places r)
unfolding target
target_weak os places r some none weak = (0, rw (some, definer_none os r none, weak) refl)

target_null : (os : List Object) (places : List ℕ) (r : Reference) → (r.symbol == 0) ≡ true → HasValue (target os places r)
unfolding target
target_null os places r none = (0, rw none refl)

-- the bytes that a copy gives lie in the memory of the definer's object
shorter : (load : Bool) (from size less vaddr end : ℕ) → less ≤ size → (load && (nat_le vaddr from && nat_le (from + size) end)) ≡ true → (load && (nat_le vaddr from && nat_le (from + less) end)) ≡ true
shorter load from size less vaddr end le h = grind (arith, nat_tests)

smaller : (from size less : ℕ) (s : Segment) → less ≤ size → is_in_load from size s ≡ true → is_in_load from less s ≡ true
unfolding is_in_load
smaller from size less s le h = shorter (is_load s) from size less s.vaddr (s.vaddr + s.memsz) le h

in_load : (from size less : ℕ) (ss : List Segment) → less ≤ size → list_any (is_in_load from size) ss ≡ true → list_any (is_in_load from less) ss ≡ true
in_load from size less [] le e = absurd (false≢true e)
in_load from size less (s ∷ ss) le e = elim (or_cases (is_in_load from size s) (list_any (is_in_load from size) ss) e) [
  | inl here ↦ rw (smaller from size less s le here) refl
  | inr later ↦ or_right (is_in_load from less s) (list_any (is_in_load from less) ss) (in_load from size less ss le later)
]

not_outside : (ss : List Segment) (from size less : ℕ) → less ≤ size → list_any (is_in_load from size) ss ≡ true → is_outside ss from less ≡ false
unfolding is_outside
not_outside ss from size less le e = rw (in_load from size less ss le e) (and_false (not (less == 0)))
  where
    and_false : (b : Bool) → (b && false) ≡ false
    and_false true = refl
    and_false false = refl

copied_loaded : (places : List ℕ) (r : Reference) (size : ℕ) (d : Definer) → is_tls d.symbol ≡ false → IsLoaded d.object.segments d.symbol → size ≤ d.symbol.size → HasValue (copied places r size d)
unfolding copied
copied_loaded places r size d ordinary loaded le =
    (Copy d.member (address places d) size, rw (ordinary, loaded.relative, not_outside d.object.segments d.symbol.value d.symbol.size size le loaded.loaded) refl)

copy_with : (os : List Object) (places : List ℕ) (r : Reference) → (r.symbol == 0) ≡ false → HasDefiner os r → HasValue (copy os places r)
unfolding copy
copy_with os places r some d = rw (some, d.is) (copied_loaded places r (min (size_of (own_symbol os r)) d.found.symbol.size) d.found d.ordinary d.loaded (omega arith))

not_null : (k : ℕ) → (suc k == 0) ≡ false
not_null k = grind (arith, nat_tests)

-- ---- the target of a symbol that is loaded, and of one that may stay without a definer

module _ (os : List Object) (places : List ℕ) (has : (m : ℕ) (o : Object) → slice_get os m ≡ Some o → HasSettledSymbols o) where
  loaded_target : (r : Reference) (o : Object) (s : Symbol) → (r.kind == R_X86_64_COPY) ≡ false → (r.symbol == 0) ≡ false → slice_get os r.member ≡ Some o → slice_get o.symbols r.symbol ≡ Some s → is_tls s ≡ false → index_of s.version ≡ VER_NDX_GLOBAL → IsLoaded o.segments s
      → HasValue (target os places r)
  loaded_target r o s kind some there at ordinary version loaded =
      let f = finds_by os r o s there at in
      elim (cases_Bool (binds_itself s)) [
        | inl itself ↦ target_with os places r some (itself_defines os r o s (f.itself itself) there at ordinary loaded)
        | inr others ↦ let found = own_found os r o s kind there at loaded.definition version in
            target_with os places r some (searched_defines os r o s found.0 has (f.others others) found.1)
      ]

  found_target : (r : Reference) (o : Object) (s : Symbol) → (r.symbol == 0) ≡ false → finds os r ≡ found_for os r o s → is_weak os r ≡ true → (x : Option Found) → found_for os r o s ≡ x → HasValue (target os places r)
  found_target r o s some finding weak None e = target_weak os places r some (finding ∙ e) weak
  found_target r o s some finding weak (Some f) e = target_with os places r some (searched_defines os r o s f has finding e)

  optional_target : (r : Reference) (o : Object) (s : Symbol) → (r.symbol == 0) ≡ false → slice_get os r.member ≡ Some o → slice_get o.symbols r.symbol ≡ Some s → is_tls s ≡ false → IsOptional s → HasValue (target os places r)
  optional_target r o s some there at ordinary optional =
      let f = finds_by os r o s there at in
      elim (cases_Bool (binds_itself s)) [
        | inl itself ↦ target_some os places r (record { member = r.member; object = o; symbol = s }) some (definer_some os r (record { member = r.member; symbol = r.symbol }) o s (f.itself itself) there at) ordinary
        | inr others ↦ found_target r o s some (f.others others) (weak_is os r o s there at optional.weak) (found_for os r o s) refl
      ]

  -- of the symbol of an index
  settled_target : (m k kind : ℕ) (o : Object) → (kind == R_X86_64_COPY) ≡ false → slice_get os m ≡ Some o → (s : Symbol) → slice_get o.symbols k ≡ Some s → HasValue (target os places (record { member = m; symbol = k; kind = kind }))
  settled_target m zero kind o other there s at = target_null os places (record { member = m; symbol = 0; kind = kind }) refl
  settled_target m (suc k) kind o other there s at =
      let settled : IsSettledSymbol o.segments s = (has m o there).each k s at in
      elim settled.form [
        | inl loaded ↦ loaded_target (record { member = m; symbol = suc k; kind = kind }) o s other (not_null k) there at settled.ordinary settled.unversioned loaded
        | inr optional ↦ optional_target (record { member = m; symbol = suc k; kind = kind }) o s (not_null k) there at settled.ordinary optional
      ]

-- ---- what relocations give

word_target : (os : List Object) (places : List ℕ) (m : ℕ) (o : Object) (r : Reloc) → ((m : ℕ) (o : Object) → slice_get os m ≡ Some o → HasSettledSymbols o) → slice_get os m ≡ Some o → r.symbol < length o.symbols → (r.kind == R_X86_64_COPY) ≡ false
    → HasValue (target os places (reference m r))
word_target os places m o r has there lt other =
    let null : Symbol = record { name = []; value = 0; size = 0; bind = 0; kind = 0; visibility = 0; section = 0; version = 0 } in
    settled_target os places has m r.symbol r.kind o other there (get_or o.symbols r.symbol null) (slice_get-get_or o.symbols r.symbol null lt)

bound : {A B E : Type 0} (r : Result A E) (f : A → Result B E) → HasValue r → ((a : A) → HasValue (f a)) → HasValue (r >>= f)
bound r f has then = let next = then has.0 in (next.0, rw has.1 next.1)

word_value : (os : List Object) (places : List ℕ) (modules : List Module) (m : ℕ) (o : Object) (r : Reloc) → ((m : ℕ) (o : Object) → slice_get os m ≡ Some o → HasSettledSymbols o) → slice_get os m ≡ Some o → ChangesWord o r → HasValue (value_of os places modules m r)
unfolding value_of
word_value os places modules m o r has there is = elim is.kind [
  | inl relative ↦ (let hit : (r.kind == R_X86_64_RELATIVE) ≡ true = ap (λ (k : ℕ). k == R_X86_64_RELATIVE) relative in rw hit (_, refl))
  | inr more ↦ elim more [
    | inl absolute ↦
        let miss : (r.kind == R_X86_64_RELATIVE) ≡ false = ap (λ (k : ℕ). k == R_X86_64_RELATIVE) absolute in
        let hit : (r.kind == R_X86_64_64) ≡ true = ap (λ (k : ℕ). k == R_X86_64_64) absolute in
        let other : (r.kind == R_X86_64_COPY) ≡ false = ap (λ (k : ℕ). k == R_X86_64_COPY) absolute in
        rw (miss, hit) (bound (target os places (reference m r)) _ (word_target os places m o r has there is.symbol other) (λ a. (_, refl)))
    | inr last ↦ elim last [
      | inl data_word ↦
          let miss : (r.kind == R_X86_64_RELATIVE) ≡ false = ap (λ (k : ℕ). k == R_X86_64_RELATIVE) data_word in
          let no : (r.kind == R_X86_64_64) ≡ false = ap (λ (k : ℕ). k == R_X86_64_64) data_word in
          let hit : (r.kind == R_X86_64_GLOB_DAT) ≡ true = ap (λ (k : ℕ). k == R_X86_64_GLOB_DAT) data_word in
          let other : (r.kind == R_X86_64_COPY) ≡ false = ap (λ (k : ℕ). k == R_X86_64_COPY) data_word in
          rw (miss, no, hit) (bound (target os places (reference m r)) _ (word_target os places m o r has there is.symbol other) (λ a. (_, refl)))
      | inr slot ↦
          let miss : (r.kind == R_X86_64_RELATIVE) ≡ false = ap (λ (k : ℕ). k == R_X86_64_RELATIVE) slot in
          let no : (r.kind == R_X86_64_64) ≡ false = ap (λ (k : ℕ). k == R_X86_64_64) slot in
          let neither : (r.kind == R_X86_64_GLOB_DAT) ≡ false = ap (λ (k : ℕ). k == R_X86_64_GLOB_DAT) slot in
          let hit : (r.kind == R_X86_64_JUMP_SLOT) ≡ true = ap (λ (k : ℕ). k == R_X86_64_JUMP_SLOT) slot in
          let other : (r.kind == R_X86_64_COPY) ≡ false = ap (λ (k : ℕ). k == R_X86_64_COPY) slot in
          rw (miss, no, neither, hit) (bound (target os places (reference m r)) _ (word_target os places m o r has there is.symbol other) (λ a. (_, refl)))
    ]
  ]
]

copy_reference : (os : List Object) (places : List ℕ) (r : Reference) (o : Object) (k : ℕ) (s : Symbol) → AreSettled os → r.kind ≡ R_X86_64_COPY → r.symbol ≡ suc k → slice_get os r.member ≡ Some o → slice_get o.symbols (suc k) ≡ Some s → IsLoaded o.segments s → IsGiven os s.name
    → HasValue (copy os places r)
copy_reference os places r o k s settled kind symbol there at loaded gives =
    let some : (r.symbol == 0) ≡ false = ap (λ (n : ℕ). n == 0) symbol ∙ not_null k in
    let here : slice_get o.symbols r.symbol ≡ Some s = ap (slice_get o.symbols) symbol ∙ at in
    let own : IsSettledSymbol o.segments s = (settled.symbols r.member o there).each k s at in
    let f = finds_by os r o s there here in
    elim (cases_Bool (binds_itself s)) [
      | inl itself ↦ copy_with os places r some (itself_defines os r o s (f.itself itself) there here own.ordinary loaded)
      | inr others ↦
          let other : IsSettledSymbol gives.object.segments gives.symbol = (settled.symbols (suc gives.member) gives.object gives.there).each gives.index gives.symbol gives.at in
          let found = given_found os r o s kind own.unversioned gives other.unversioned in
          copy_with os places r some (searched_defines os r o s found.0 settled.symbols (f.others others) found.1)
    ]

copy_value : (os : List Object) (places : List ℕ) (modules : List Module) (m : ℕ) (o : Object) (r : Reloc) → AreSettled os → slice_get os m ≡ Some o → CopiesGiven os o r → HasValue (value_of os places modules m r)
unfolding value_of
copy_value os places modules m o r settled there is =
    let a : (r.kind == R_X86_64_RELATIVE) ≡ false = ap (λ (k : ℕ). k == R_X86_64_RELATIVE) is.kind in
    let b : (r.kind == R_X86_64_64) ≡ false = ap (λ (k : ℕ). k == R_X86_64_64) is.kind in
    let c : (r.kind == R_X86_64_GLOB_DAT) ≡ false = ap (λ (k : ℕ). k == R_X86_64_GLOB_DAT) is.kind in
    let d : (r.kind == R_X86_64_JUMP_SLOT) ≡ false = ap (λ (k : ℕ). k == R_X86_64_JUMP_SLOT) is.kind in
    let e : (r.kind == R_X86_64_COPY) ≡ true = ap (λ (k : ℕ). k == R_X86_64_COPY) is.kind in
    rw (a, b, c, d, e) (copy_reference os places (reference m r) o is.index is.symbol settled is.kind is.is there is.at is.own is.given)

-- ---- all of them

each_has : {A B E : Type 0} (f : A → Result B E) (xs : List A) → AllByRecursion (λ x. HasValue (f x)) xs → HasValue (each f xs)
unfolding each
each_has f [] all = ([], refl)
each_has f (x ∷ xs) all = let rest = each_has f xs all.1 in (all.0.0 ∷ rest.0, rw (all.0.1, rest.1) refl)

all_both : {X : Type 0} (P : X → Type 0) (xs ys : List X) → AllByRecursion P xs → AllByRecursion P ys → AllByRecursion P (xs ++ ys)
all_both P [] ys all more = more
all_both P (x ∷ xs) ys all more = (all.0, all_both P xs ys all.1 more)

module _ (os : List Object) (places : List ℕ) (modules : List Module) (settled : AreSettled os) where
  abbrev Means : Row → Type 0
  Means line = HasValue (meaning os places modules line)

  reloc_means : (m k : ℕ) (o : Object) (r : Reloc) → slice_get os m ≡ Some o → slice_get o.relocations k ≡ Some r → Means (row m r)
  unfolding meaning
  reloc_means m k o r there at = bound (value_of os places modules m r) _ (elim (settled.relocs m k o r there at) [
    | inl word ↦ word_value os places modules m o r settled.symbols there word
    | inr copies ↦ copy_value os places modules m o r settled there copies
  ]) (λ a. (_, refl))

  rows_mean : (m : ℕ) (o : Object) (rs : List Reloc) → slice_get os m ≡ Some o → ((k : ℕ) (r : Reloc) → slice_get rs k ≡ Some r → (j : ℕ) × (slice_get o.relocations j ≡ Some r)) → AllByRecursion Means (map (row m) rs)
  rows_mean m o [] there among = tt
  rows_mean m o (r ∷ rs) there among =
      let here = among 0 r refl in
      (reloc_means m here.0 o r there here.1, rows_mean m o rs there (λ k s at. among (suc k) s at))

  all_mean : (m : ℕ) (rest : List Object) → ((k : ℕ) (o : Object) → slice_get rest k ≡ Some o → slice_get os (m + k) ≡ Some o) → AllByRecursion Means (rows_from m rest)
  unfolding rows_from
  all_mean m [] among = tt
  all_mean m (o ∷ rest) among =
      all_both Means (map (row m) o.relocations) (rows_from (m + 1) rest) (rows_mean m o o.relocations (subst (λ (n : ℕ). slice_get os n ≡ Some o) (omega arith) (among 0 o refl)) (λ k r at. (k, at)))
      (all_mean (m + 1) rest (λ k p at. subst (λ (n : ℕ). slice_get os n ≡ Some p) (omega arith) (among (suc k) p at)))

pub scopes_link : SettledScopesLink
unfolding meanings
scopes_link os places modules settled = each_has (meaning os places modules) (rows os) (all_mean os places modules settled 0 os (λ k o at. subst (λ (n : ℕ). slice_get os n ≡ Some o) (omega arith) at))
