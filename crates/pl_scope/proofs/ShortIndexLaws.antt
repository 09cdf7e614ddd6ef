-- The definers of all members in one list, and the search by it.
use Rattle.std.proofs.Common.{◌≡◌, ℕ, ◌+◌, ◌<◌, ◌≤◌, ◌^◌, Bool, true, false, List, [], ◌∷◌, ◌++◌, length, take, map, get_or, Option, Some, None, refl, sym, ap, ◌∙◌, subst, arith, inl, inr}
use Rattle.std.specs.Prelude.{slice_get, nat_lt, ◌==◌, vec_len, if◌then◌else◌}
use Rattle.std.specs.List.{list_any}
use Rattle.std.specs.List.Sorted.{IsNonDecreasingBy, IsPermutation}
use Rattle.std.specs.Option.{option_and_then, option_map}
use Rattle.std.proofs.lemmas.Bool.{cases_Bool, and_parts, or_right, eqb-true, eq-eqb, le-ltb, lt-ltb, ltb-true, ltb-false}
use Rattle.std.proofs.lemmas.List.{take_more, take_all, map-append, length-append}
use Rattle.std.proofs.lemmas.List.Sorted.{list_any-IsPermutation}
use Rattle.std.proofs.lemmas.Nat.{mod-mul-add}
use Rattle.std.proofs.lemmas.Option.{slice_get_within, slice_get_past, get_or_from_slice_get}
use Rattle.pl_elf.specs.Kinds.{is_program}
use Rattle.pl_hash.specs.Hash.{gnu}
use Rattle.pl_object.specs.declared.object.Object.{Object}
use Rattle.pl_sym.specs.Definers.{is_definer}
use Rattle.pl_sym.specs.declared.class.Class.{Class}
use Rattle.pl_sym.specs.declared.class.Class.TheVariants.{Other}
use Rattle.pl_sym.specs.declared.symbol.Symbol.{Symbol}
use Rattle.pl_scope.specs.Definers.{pair}
use Rattle.pl_scope.specs.Entries.{is_entry, has_value, AreBetween, AreUnder, IsAdded}
use Rattle.pl_scope.specs.Finds.{in_member, of_object, first_in, from_member}
use Rattle.pl_scope.specs.Matching.{defines}
use Rattle.pl_scope.specs.ScopeIndex.{best_of, IsBest}
use Rattle.pl_scope.specs.ShortIndex.{mixed, short_key, key_at, member_of, end_of_hash, best_under, AreSorted, AreSymbolsAdded, AreVersions, HasShort, HaveDefiners, IsShortIndex}
use Rattle.pl_scope.specs.VersionIndex.{IsVersionIndex}
use Rattle.pl_scope.specs.declared.entries.Entry.{Entry}
use Rattle.pl_scope.specs.declared.found.Found.{Found}
use Rattle.pl_scope.specs.declared.short_index.ShortIndex.{ShortIndex}
use Rattle.pl_scope.specs.declared.version_index.VersionIndex.{VersionIndex}
use Rattle.pl_scope.specs.declared.wanted.Wanted.{Wanted}
use Rattle.pl_scope.proofs.EntryLaws.{entry, from_under, no_key}
use Rattle.pl_scope.proofs.FoundLaws.{member_defines}
use Rattle.pl_scope.proofs.MatchingLaws.{named_by}
use Rattle.pl_scope.proofs.ScopeIndexLaws.{asked_none, best_is, best_push, same_object, slice_left, slice_push}

-- ---- the symbols of a member

pub record AreSymbolsTo (o : Object) (member n : ℕ) (old new : List Entry) : Type 0 where
  pub more : (e : Entry) → list_any (is_entry e.key e.value) old ≡ true → list_any (is_entry e.key e.value) new ≡ true
  pub there : (i key : ℕ) → i < n → key_at o member i ≡ Some key → list_any (is_entry key i) new ≡ true

pub symbols_none : (o : Object) (member : ℕ) (es : List Entry) → AreSymbolsTo o member 0 es es
symbols_none o member es = record { more = λ e hit. hit; there = λ i key lt at. absurd (omega (arith, lt)) }

pub symbols_more : (o : Object) (member n : ℕ) (old front new : List Entry) → IsAdded (key_at o member n) n front new → AreSymbolsTo o member n old front → AreSymbolsTo o member (n + 1) old new
symbols_more o member n old front new added so_far = record {
  more = λ e hit. added.more e (so_far.more e hit);
  there = λ i key below at. elim (cases_Bool (nat_lt i n)) [
    | inl less ↦ added.more (entry key i) (so_far.there i key (ltb-true i n less) at)
    | inr ge ↦
        let same : n ≡ i = omega (arith, below, ltb-false i n ge) in
        let here : key_at o member n ≡ Some key = ap (key_at o member) same ∙ at in
        subst (λ (k : ℕ). list_any (is_entry key k) new ≡ true) same (added.there key here)
  ];
}

past : (o : Object) (member i key : ℕ) (x : Option Symbol) → slice_get o.symbols i ≡ x → key_at o member i ≡ Some key → i < length o.symbols
past o member i key (Some s) is at = slice_get_within o.symbols i s is
past o member i key None is at = absurd (no_key key (key_at o member i) (ap (λ (x : Option Symbol). option_and_then (short_key o member) x) is) at)

pub symbols_done : (o : Object) (member n : ℕ) (old new : List Entry) → length o.symbols ≤ n → AreSymbolsTo o member n old new → AreSymbolsAdded o member old new
symbols_done o member n old new le is = record { more = is.more; there = λ i key at. is.there i key (omega (arith, le, past o member i key (slice_get o.symbols i) refl at)) at }

-- ---- the symbols of all members

abbrev pub HaveDefinersTo : List Object → ℕ → List Entry → Type 0
HaveDefinersTo os n es = (m i key : ℕ) (o : Object) → m < n → slice_get os m ≡ Some o → key_at o m i ≡ Some key → list_any (is_entry key i) es ≡ true

pub have_none : (os : List Object) (es : List Entry) → HaveDefinersTo os 0 es
have_none os es m i key o lt at named = absurd (omega (arith, lt))

pub have_more : (os : List Object) (n : ℕ) (o : Object) (front new : List Entry) → slice_get os n ≡ Some o → AreSymbolsAdded o n front new → HaveDefinersTo os n front → HaveDefinersTo os (n + 1) new
have_more os n o front new at added so_far m i key p below here named = elim (cases_Bool (nat_lt m n)) [
  | inl less ↦ added.more (entry key i) (so_far m i key p (ltb-true m n less) here named)
  | inr ge ↦
      let same : n ≡ m = omega (arith, below, ltb-false m n ge) in
      let object : o ≡ p = same_object os m n o p same at here in
      added.there i key (ap (λ (k : ℕ). key_at o k i) same ∙ ap (λ (x : Object). key_at x m i) object ∙ named)
]

pub have_done : (os : List Object) (n : ℕ) (es : List Entry) → length os ≤ n → HaveDefinersTo os n es → HaveDefiners os es
have_done os n es le is m i key o at named = is m i key o (omega (arith, le, slice_get_within os m o at)) at named

pub sorted_are : (os : List Object) (found sorted : List Entry) → HaveDefiners os found → IsPermutation found sorted → IsNonDecreasingBy (λ e. e.key) sorted → AreSorted os sorted
sorted_are os found sorted have same rising = record {
  rising = rising;
  whole = λ m i key o at named. sym (list_any-IsPermutation (is_entry key i) found sorted same) ∙ have m i key o at named;
}

-- ---- the versions of all members

pub record AreVersionsTo (os : List Object) (n : ℕ) (versions : List VersionIndex) : Type 0 where
  pub long : length versions ≡ n
  pub each : (m : ℕ) (o : Object) → m < n → slice_get os m ≡ Some o → (v : VersionIndex) × (slice_get versions m ≡ Some v) × IsVersionIndex o.versions v

pub versions_none : (os : List Object) (versions : List VersionIndex) → versions ≡ [] → AreVersionsTo os 0 versions
versions_none os versions none = rw none (record { long = refl; each = λ m o lt at. absurd (omega (arith, lt)) })

pub versions_more : (os : List Object) (n : ℕ) (o : Object) (v : VersionIndex) (old new : List VersionIndex) → slice_get os n ≡ Some o → IsVersionIndex o.versions v → new ≡ old ++ v ∷ [] → AreVersionsTo os n old → AreVersionsTo os (n + 1) new
versions_more os n o v old new at is pushed so_far = rw pushed (record {
  long = length-append old (v ∷ []) ∙ ap (λ (k : ℕ). k + 1) so_far.long;
  each = λ m p below here. elim (cases_Bool (nat_lt m n)) [
    | inl less ↦
        let lt = ltb-true m n less in
        let before = so_far.each m p lt here in
        (before.0, slice_left old (v ∷ []) m (omega (arith, so_far.long, lt)) ∙ before.1, before.2)
    | inr ge ↦
        let same : n ≡ m = omega (arith, below, ltb-false m n ge) in
        let object = same_object os m n o p same at here in
        (v, ap (slice_get (old ++ v ∷ [])) (sym same ∙ sym so_far.long) ∙ slice_push old v, subst (λ (x : Object). IsVersionIndex x.versions v) object is)
  ];
})

pub versions_done : (os : List Object) (n : ℕ) (versions : List VersionIndex) → length os ≤ n → AreVersionsTo os n versions → AreVersions os versions
versions_done os n versions le is m o at = is.each m o (omega (arith, le, slice_get_within os m o at)) at

-- ---- one member

pub versions_below : (index : ShortIndex) (m : ℕ) (o : Object) → HasShort index m o → m < vec_len index.versions
versions_below index m o has = let e = has.versions in omega (arith, slice_get_within index.versions.items m e.0 e.1, index.versions.ok.0)

pub versions_read : (index : ShortIndex) (m : ℕ) (o : Object) (v : VersionIndex) → HasShort index m o → v ≡ get_or index.versions.items m v → IsVersionIndex o.versions v
versions_read index m o v has read =
    let e = has.versions in
    let same : e.0 ≡ v = sym (get_or_from_slice_get index.versions.items m e.0 v e.1) ∙ sym read in
    subst (λ (x : VersionIndex). IsVersionIndex o.versions x) same e.2

key_is : (o : Object) (member i hash : ℕ) (name : List ℕ) (s : Symbol) → slice_get o.symbols i ≡ Some s → is_definer s Other (is_program o.kind) ≡ true → s.name ≡ name → hash ≡ mixed (gnu name) → key_at o member i ≡ Some (pair hash member)
key_is o member i hash name s at definer named is =
    ap (λ (x : Option Symbol). option_and_then (short_key o member) x) at
    ∙ ap (λ (b : Bool). if b then Some (pair (mixed (gnu s.name)) member) else None) definer
    ∙ ap (λ (n : List ℕ). Some (pair (mixed (gnu n)) member)) named
    ∙ ap (λ (h : ℕ). Some (pair h member)) (sym is)

-- the definers of a name are under its hash
pub short_have : (index : ShortIndex) (member hash : ℕ) (o : Object) (name : List ℕ) (class : Class) (es : List Entry) → HasShort index member o → hash ≡ mixed (gnu name) → AreUnder index.definers.entries.items (pair hash member) es
    → (i : ℕ) (s : Symbol) → slice_get o.symbols i ≡ Some s → defines o name class s ≡ true → list_any (has_value i) es ≡ true
short_have index member hash o name class es has is under i s at definer =
    let n = named_by o name class s definer in
    from_under index.definers.entries.items es (pair hash member) i under (has.definers i (pair hash member) (key_is o member i hash name s at n.definer n.named is))

-- ---- the search

-- an entry with its member
abbrev pub placed : Entry → Entry
placed e = record { key = e.key; value = member_of e }

module _ (os : List Object) (w : Wanted) (start : ℕ) where
  abbrev Version : Option (List ℕ)
  Version = option_map (λ x. x.now) w.version

  abbrev IsBestOf : List Entry → Option Found → Type 0
  IsBestOf asked best = IsBest os w.name.now w.class Version start asked best

  nowhere : (m : ℕ) → length os ≤ m → in_member os w.name.now w.class Version m ≡ None
  unfolding in_member
  nowhere m le = ap (of_object w.name.now w.class Version m) (slice_get_past os m le)

  short_push : (asked : List Entry) (e : Entry) (best new : Option Found) → IsBestOf asked best → new ≡ best_under os w start best e → IsBestOf (asked ++ placed e ∷ []) new
  short_push asked e best new so_far made = elim (cases_Bool (nat_lt (member_of e) (length os))) [
    | inl less ↦ best_push os w.name.now w.class Version start asked (placed e) best new so_far (made ∙ rw less refl)
    | inr ge ↦
        let left : new ≡ best = made ∙ rw ge refl in
        rw left (asked_none os w.name.now w.class Version start asked (placed e) best so_far (nowhere (member_of e) (ltb-false (member_of e) (length os) ge)))
  ]

  -- an entry whose member is one of the objects, and one whose is not
  pub under_asked : (best new : Option Found) (e : Entry) (member : ℕ) → member ≡ member_of e → member < length os → new ≡ best_of os w.name.now w.class Version start best member → new ≡ best_under os w start best e
  under_asked best new e member is lt made =
      let test : nat_lt (member_of e) (length os) ≡ true = lt-ltb (member_of e) (length os) (subst (λ (n : ℕ). n < length os) is lt) in
      rw test (made ∙ ap (λ (n : ℕ). best_of os w.name.now w.class Version start best n) is)

  pub under_passed : (best : Option Found) (e : Entry) (member : ℕ) → member ≡ member_of e → length os ≤ member → best ≡ best_under os w start best e
  under_passed best e member is le =
      let test : nat_lt (member_of e) (length os) ≡ false = le-ltb (member_of e) (length os) (subst (λ (n : ℕ). length os ≤ n) is le) in
      rw test refl

  -- one entry more
  pub short_more : (items : List Entry) (i : ℕ) (d : Entry) (best new : Option Found) → i < length items → IsBestOf (map placed (take i items)) best → new ≡ best_under os w start best (get_or items i d) → IsBestOf (map placed (take (i + 1) items)) new
  short_more items i d best new lt so_far made =
      let e = get_or items i d in
      let more : map placed (take (i + 1) items) ≡ map placed (take i items) ++ placed e ∷ [] = ap (map placed) (take_more items i d lt) ∙ map-append placed (take i items) (e ∷ []) in
      subst (λ (asked : List Entry). IsBestOf asked new) (sym more) (short_push (map placed (take i items)) e best new so_far made)

  -- all entries
  pub short_done : (items : List Entry) (i count : ℕ) (best : Option Found) → length items ≤ i → count ≡ length os → IsBestOf (map placed (take i items)) best
      → ((m : ℕ) (f : Found) → in_member os w.name.now w.class Version m ≡ Some f → list_any (has_value m) (map placed items) ≡ true) → best ≡ first_in os w.name.now w.class Version (from_member start count)
  short_done items i count best le all is whole =
      rw all (best_is os w.name.now w.class Version start (map placed items) best (subst (λ (xs : List Entry). IsBestOf (map placed xs) best) (take_all i items le) is) whole)

member_is : (hash member : ℕ) → member < 2 ^ 32 → member_of (entry (pair hash member) 0) ≡ member
member_is hash member lt = mod-mul-add hash (2 ^ 32) member lt

any_placed : (key i m : ℕ) (es : List Entry) → member_of (entry key 0) ≡ m → list_any (is_entry key i) es ≡ true → list_any (has_value m) (map placed es) ≡ true
any_placed key i m [] is hit = hit
any_placed key i m (e ∷ es) is hit = elim (cases_Bool (is_entry key i e)) [
  | inl here ↦
      let same : e.key ≡ key = eqb-true e.key key (and_parts (e.key == key) (e.value == i) here).0 in
      let at : (member_of e == m) ≡ true = eq-eqb (member_of e) m (ap (λ (k : ℕ). member_of (entry k 0)) same ∙ is) in
      rw at refl
  | inr other ↦
      let rest : list_any (is_entry key i) es ≡ true = sym (rw other refl) ∙ hit in
      or_right (member_of e == m) (list_any (has_value m) (map placed es)) (any_placed key i m es is rest)
]

-- each member with a definer of the name is under its hash
pub short_whole : (os : List Object) (index : ShortIndex) (name : List ℕ) (hash count : ℕ) (class : Class) (version : Option (List ℕ)) (m : ℕ) (f : Found) (found : List Entry) → IsShortIndex os index → hash ≡ mixed (gnu name) → count ≡ length os → count < 2 ^ 32
    → AreBetween index.definers.entries.items (pair hash 0) (end_of_hash hash count) found → in_member os name class version m ≡ Some f → list_any (has_value m) (map placed found) ≡ true
short_whole os index name hash count class version m f found is known all few between e =
    let d = member_defines os name class version m f e in
    let below : m < length os = slice_get_within os m d.object d.object_at in
    let power : 2 ^ 32 ≡ 4294967296 = refl in
    let small : m < 2 ^ 32 = omega (arith, below, all, few) in
    let named : key_at d.object m d.index ≡ Some (pair hash m) = key_is d.object m d.index hash name d.symbol d.symbol_at d.defines d.named known in
    let from : pair hash 0 ≤ pair hash m = omega arith in
    let to : pair hash m < end_of_hash hash count = omega (arith, below, all) in
    any_placed (pair hash m) d.index m found (member_is hash m small) (between.whole (pair hash m) d.index from to (is.definers.whole m d.index (pair hash m) d.object d.object_at named))
