-- The index of a scope, and the search by it.
use Rattle.std.proofs.Common.{◌≡◌, ◌≢◌, ℕ, zero, suc, Vec, Global, ◌+◌, ◌-◌, ◌<◌, ◌≤◌, ◌^◌, true, false, List, [], ◌∷◌, ◌++◌, length, take, get_or, Option, Some, None, refl, sym, ap, ◌∙◌, subst, arith, inl, inr}
use Rattle.std.specs.Prelude.{slice_get, nat_le, nat_lt, ◌==◌, vec_len, IsSome, ◌⊎◌}
use Rattle.std.specs.Option.{option_or}
use Rattle.std.specs.List.{All, list_any, range_with_len}
use Rattle.std.specs.List.Sorted.{IsNonDecreasingBy, IsPermutation}
use Rattle.std.proofs.Math.Nat.{mod-lt}
use Rattle.std.proofs.lemmas.Bool.{cases_Bool, false≢true, and_parts, or_cases, eqb-true, eqb-false, leb-true, ltb-true, ltb-false, le-leb, lt-ltb}
use Rattle.std.proofs.lemmas.List.{take_more, take_all, length-append, get_or_default}
use Rattle.std.proofs.lemmas.List.Elements.{All-nil}
use Rattle.std.proofs.lemmas.List.Folds.{Any-from_list_any, list_any-append}
use Rattle.std.proofs.lemmas.List.Sorted.{list_any-IsPermutation, All-permutation}
use Rattle.std.proofs.lemmas.Nat.{div-mul-add}
use Rattle.std.proofs.lemmas.Option.{slice_get_within, get_or_from_slice_get}
use Rattle.pl_sym.specs.Definers.{is_definer}
use Rattle.pl_sym.specs.declared.symbol.Symbol.{Symbol}
use Rattle.pl_sym.specs.declared.class.Class.{Class}
use Rattle.pl_sym.specs.declared.class.Class.TheVariants.{Other}
use Rattle.pl_elf.specs.Kinds.{is_program}
use Rattle.pl_object.specs.SymbolClauses.{version_name}
use Rattle.pl_object.specs.declared.object.Object.{Object}
use Rattle.pl_ver.specs.Fields.{index_of}
use Rattle.pl_ver.specs.declared.constants.TheConstants.{VERSYM_HIDDEN}
use Rattle.pl_scope.specs.Matching.{matching}
use Rattle.pl_scope.specs.Finds.{in_member, first_in, from_member}
use Rattle.pl_scope.specs.Definers.{pair, AreDefiners}
use Rattle.pl_scope.specs.Entries.{is_entry, has_key, has_value, AreUnder}
use Rattle.pl_scope.specs.Folder.{IsWay, IsWayAt}
use Rattle.pl_scope.specs.ScopeIndex.{name_part, is_last, AreOwn, HasOwn, IsKeyAdded, IsMemberAdded, IsOwnAdded, IsIndex, is_better, best_of, IsBest}
use Rattle.pl_scope.specs.Numbers.{key_of, AreNumbersOf}
use Rattle.pl_scope.specs.declared.definers.Definers.{Definers}
use Rattle.pl_scope.specs.declared.definers.Listing.TheVariants as lists
use Rattle.pl_scope.specs.declared.entries.Entry.{Entry}
use Rattle.pl_scope.specs.declared.found.Found.{Found}
use Rattle.pl_scope.specs.declared.scope_index.Own.{Own}
use Rattle.pl_scope.specs.declared.scope_index.ScopeIndex.{ScopeIndex}
use Rattle.pl_scope.specs.declared.lookup.Way.{Way}
use Rattle.pl_scope.specs.declared.lookup.Way.TheVariants as ways
use Rattle.pl_scope.specs.declared.numbers.Numbers.{Numbers}
use Rattle.pl_scope.specs.declared.version_index.VersionIndex.{VersionIndex}
use Rattle.pl_scope.proofs.DefinerLaws.{key_is}
use Rattle.pl_scope.proofs.EntryLaws.{entry, any_key, from_under, no_key, one_key, pushed_more, pushed_there, pushed_within}
use Rattle.pl_scope.proofs.FoundLaws.{in_member_symbol, member_is, member_defines}
use Rattle.pl_scope.proofs.MatchingLaws.{matched, named_by}
use Rattle.pl_scope.proofs.VersionIndexLaws.{version_by_index}

-- ---- a list with one row more

pub slice_left : {X : Type 0} (xs ys : List X) (i : ℕ) → i < length xs → slice_get (xs ++ ys) i ≡ slice_get xs i
slice_left [] ys i lt = absurd (omega (arith, lt))
slice_left (x ∷ xs) ys zero lt = refl
slice_left (x ∷ xs) ys (suc i) lt = slice_left xs ys i (omega (arith, lt))

pub slice_push : {X : Type 0} (xs : List X) (x : X) → slice_get (xs ++ x ∷ []) (length xs) ≡ Some x
slice_push [] x = refl
slice_push (y ∷ ys) x = slice_push ys x

-- ---- a member under the names of its own entries

-- the last key, where there is one, has the member
abbrev pub IsLastThere : ℕ → Option ℕ → List Entry → Type 0
IsLastThere member last es = (key : ℕ) → last ≡ Some key → list_any (is_entry key member) es ≡ true

pub no_last : (member : ℕ) (es : List Entry) → IsLastThere member None es
no_last member es key at = absurd (no_key key None refl at)

last_is : (last : Option ℕ) (key : ℕ) → is_last last key ≡ true → last ≡ Some key
last_is None key hit = absurd (false≢true hit)
last_is (Some other) key hit = ap (λ (k : ℕ). Some k) (eqb-true other key hit)

pub key_last : (last : Option ℕ) (key member : ℕ) (es : List Entry) → is_last last key ≡ true → IsKeyAdded last key member es es
key_last last key member es hit = record { more = λ e there. there; within = λ count lt all. all; there = λ before. before key (last_is last key hit) }

pub key_pushed : (last : Option ℕ) (key member : ℕ) (old new : List Entry) → new ≡ old ++ entry key member ∷ [] → IsKeyAdded last key member old new
key_pushed last key member old new is = rw is (record {
  more = λ e hit. pushed_more (is_entry e.key e.value) old (entry key member) hit;
  within = λ count lt all. pushed_within old key member count lt all;
  there = λ before. pushed_there old key member;
})

-- the first entries of a member
pub record IsMemberTo (own : List Entry) (member place : ℕ) (old new : List Entry) : Type 0 where
  pub more : (e : Entry) → list_any (is_entry e.key e.value) old ≡ true → list_any (is_entry e.key e.value) new ≡ true
  pub within : (count : ℕ) → member < count → All (λ e. e.value < count) old → All (λ e. e.value < count) new
  pub there : (k : ℕ) (d : Entry) → k < place → k < length own → list_any (is_entry (name_part (get_or own k d).key) member) new ≡ true

pub member_none : (own : List Entry) (member : ℕ) (es : List Entry) → IsMemberTo own member 0 es es
member_none own member es = record { more = λ e hit. hit; within = λ count lt all. all; there = λ k d lt below. absurd (omega (arith, lt)) }

pub member_more : (own : List Entry) (member place : ℕ) (e : Entry) (key : ℕ) (last : Option ℕ) (old front new : List Entry) → key ≡ name_part (get_or own place e).key → IsKeyAdded last key member front new
    → IsMemberTo own member place old front → IsLastThere member last front → IsMemberTo own member (place + 1) old new
member_more own member place e key last old front new named added so_far before = record {
  more = λ x hit. added.more x (so_far.more x hit);
  within = λ count low all. added.within count low (so_far.within count low all);
  there = λ k d below within. elim (cases_Bool (nat_lt k place)) [
    | inl less ↦ added.more (entry (name_part (get_or own k d).key) member) (so_far.there k d (ltb-true k place less) within)
    | inr ge ↦
        let same : place ≡ k = omega (arith, below, ltb-false k place ge) in
        let read : get_or own place e ≡ get_or own k d = ap (λ (n : ℕ). get_or own n e) same ∙ get_or_default own k e d within in
        subst (λ (n : ℕ). list_any (is_entry n member) new ≡ true) (named ∙ ap (λ (x : Entry). name_part x.key) read) (added.there before)
  ];
}

pub member_last : (member key : ℕ) (last : Option ℕ) (front new : List Entry) → IsKeyAdded last key member front new → IsLastThere member last front → IsLastThere member (Some key) new
member_last member key last front new added before = λ other at.
    subst (λ (k : ℕ). list_any (is_entry k member) new ≡ true) (one_key key other (Some key) refl at) (added.there before)

pub member_done : (own : List Entry) (member place : ℕ) (old new : List Entry) → length own ≤ place → IsMemberTo own member place old new → IsMemberAdded own member old new
member_done own member place old new le is = record {
  more = is.more;
  within = is.within;
  there = λ key hit.
      let at = Any-from_list_any (has_key key) own hit in
      let same : (get_or own at.0 at.1).key ≡ key = ap (λ (e : Entry). e.key) at.3 ∙ eqb-true at.1.key key at.4 in
      subst (λ (k : ℕ). list_any (is_entry (name_part k) member) new ≡ true) same (is.there at.0 at.1 (omega (arith, le, at.2)) at.2);
}

-- ---- all members

-- what is the first objects' own, and these objects under the names of their definers
pub record IsIndexTo (os : List Object) (numbers : Numbers) (n : ℕ) (members : List Entry) (own : List Own) : Type 0 where
  pub long : length own ≡ n
  pub within : All (λ e. e.value < length os) members
  pub each : (m : ℕ) (o : Object) → m < n → slice_get os m ≡ Some o → (w : Own) × (slice_get own m ≡ Some w) × AreOwn numbers o w
  pub whole : (m i key : ℕ) (o : Object) (s : Symbol) → m < n → slice_get os m ≡ Some o → slice_get o.symbols i ≡ Some s → is_definer s Other (is_program o.kind) ≡ true → key_of numbers s.name ≡ Some key
      → list_any (is_entry key m) members ≡ true

pub index_none : (os : List Object) (numbers : Numbers) (members : List Entry) (own : List Own) → members ≡ [] → own ≡ [] → IsIndexTo os numbers 0 members own
index_none os numbers members own none nothing = rw (none, nothing) (record {
  long = refl;
  within = All-nil (λ (e : Entry). e.value < length os);
  each = λ m o lt at. absurd (omega (arith, lt));
  whole = λ m i key o s lt at own definer named. absurd (omega (arith, lt));
})

-- the name's part of a definer's key is the key of its name
part_is : (key version : ℕ) → name_part (pair key (index_of version)) ≡ key
part_is key version =
    let hidden : VERSYM_HIDDEN ≡ 32768 = refl in
    let some : 0 < VERSYM_HIDDEN = omega (arith, hidden) in
    let below : index_of version < VERSYM_HIDDEN = mod-lt version some in
    let power : 2 ^ 32 ≡ 4294967296 = refl in
    let small : index_of version < 2 ^ 32 = omega (arith, below, hidden, power) in
    div-mul-add key (2 ^ 32) (index_of version) small

-- a member whose own entries were added is under the name of each of its definers
member_there : (numbers : Numbers) (versions : VersionIndex) (o : Object) (d : Definers) (member i key : ℕ) (s : Symbol) (old new : List Entry) → AreDefiners numbers versions o d → IsMemberAdded d.by_index.items member old new
    → slice_get o.symbols i ≡ Some s → is_definer s Other (is_program o.kind) ≡ true → key_of numbers s.name ≡ Some key → list_any (is_entry key member) new ≡ true
member_there numbers versions o d member i key s old new are added at definer known =
    let tag = index_of s.version in
    let mine : list_any (is_entry (pair key tag) i) d.by_index.items ≡ true = are.by_index.whole i (pair key tag) (key_is numbers versions o lists.Index s.name key i tag s known at definer refl refl) in
    subst (λ (k : ℕ). list_any (is_entry k member) new ≡ true) (part_is key s.version) (added.there (pair key tag) (any_key (pair key tag) i d.by_index.items mine))

pub same_object : (os : List Object) (m n : ℕ) (o p : Object) → n ≡ m → slice_get os n ≡ Some o → slice_get os m ≡ Some p → o ≡ p
same_object os m n o p same at here = let there : slice_get os n ≡ Some p = ap (slice_get os) same ∙ here in cc

pub index_more : (os : List Object) (numbers : Numbers) (n : ℕ) (old new : List Entry) (own owns : List Own) (o : Object) (w : Own) → slice_get os n ≡ Some o → AreOwn numbers o w → IsMemberAdded w.definers.by_index.items n old new → owns ≡ own ++ w ∷ []
    → IsIndexTo os numbers n old own → IsIndexTo os numbers (n + 1) new owns
index_more os numbers n old new own owns o w at are added pushed so_far = rw pushed (record {
  long = length-append own (w ∷ []) ∙ ap (λ (k : ℕ). k + 1) so_far.long;
  within = added.within (length os) (slice_get_within os n o at) so_far.within;
  each = λ m p below here. elim (cases_Bool (nat_lt m n)) [
    | inl less ↦
        let lt = ltb-true m n less in
        let before = so_far.each m p lt here in
        (before.0, slice_left own (w ∷ []) m (omega (arith, so_far.long, lt)) ∙ before.1, before.2)
    | inr ge ↦
        let same : n ≡ m = omega (arith, below, ltb-false m n ge) in
        let object = same_object os m n o p same at here in
        (w, ap (slice_get (own ++ w ∷ [])) (sym same ∙ sym so_far.long) ∙ slice_push own w, subst (λ (x : Object). AreOwn numbers x w) object are)
  ];
  whole = λ m i key p s below here own definer named. elim (cases_Bool (nat_lt m n)) [
    | inl less ↦ added.more (entry key m) (so_far.whole m i key p s (ltb-true m n less) here own definer named)
    | inr ge ↦
        let same : n ≡ m = omega (arith, below, ltb-false m n ge) in
        let object = sym (same_object os m n o p same at here) in
        subst (λ (k : ℕ). list_any (is_entry key k) new ≡ true) same
        (member_there numbers w.versions o w.definers n i key s old new are.listed added (subst (λ (x : Object). slice_get x.symbols i ≡ Some s) object own) (subst (λ (x : Object). is_definer s Other (is_program x.kind) ≡ true) object definer) named)
  ];
})

pub index_added : (os : List Object) (member : ℕ) (o : Object) (old new : ScopeIndex) → slice_get os member ≡ Some o → IsOwnAdded o member old new → IsIndexTo os old.numbers member old.members.items old.own.items → IsIndexTo os new.numbers (member + 1) new.members.items new.own.items
index_added os member o old new at added so_far =
    let w = added.own in
    subst (λ (numbers : Numbers). IsIndexTo os numbers (member + 1) new.members.items new.own.items) (sym added.numbers)
    (index_more os old.numbers member old.members.items new.members.items old.own.items new.own.items o w.0 at w.2 w.3 w.1 so_far)

pub index_is : (os : List Object) (numbers : Numbers) (n : ℕ) (members sorted : Vec Entry Global) (own : Vec Own Global) → length os ≤ n → AreNumbersOf os numbers → IsIndexTo os numbers n members.items own.items → IsPermutation members.items sorted.items
    → IsNonDecreasingBy (λ e. e.key) sorted.items → IsIndex os (record { numbers = numbers; members = sorted; own = own })
index_is os numbers n members sorted own le named is same rising = record {
  named = named;
  rising = rising;
  within = All-permutation (λ (e : Entry). e.value < length os) members.items sorted.items same is.within;
  each = λ m o at. is.each m o (omega (arith, le, slice_get_within os m o at)) at;
  whole = λ m i key o s at own definer known.
      sym (list_any-IsPermutation (is_entry key m) members.items sorted.items same) ∙ is.whole m i key o s (omega (arith, le, slice_get_within os m o at)) at own definer known;
}

-- ---- a search by the index

module _ (os : List Object) (name : List ℕ) (class : Class) (version : Option (List ℕ)) where
  -- a member's definer, if any
  abbrev here : ℕ → Option Found
  here m = in_member os name class version m

  first_none : (n from : ℕ) → ((m : ℕ) → from ≤ m → m < from + n → here m ≡ None) → first_in os name class version (range_with_len from n) ≡ None
  unfolding first_in
  first_none zero from none = refl
  first_none (suc n) from none = rw (none from (omega arith) (omega arith)) (first_none n (from + 1) (λ m low high. none m (omega (arith, low)) (omega (arith, high))))

  first_some : (n from i : ℕ) (f : Found) → from ≤ i → i < from + n → ((m : ℕ) → from ≤ m → m < i → here m ≡ None) → here i ≡ Some f → first_in os name class version (range_with_len from n) ≡ Some f
  unfolding first_in
  first_some zero from i f low high none is = absurd (omega (arith, low, high))
  first_some (suc n) from i f low high none is =
      elim (cases_Bool (from == i)) [
        | inl same ↦ let at : here from ≡ Some f = ap here (eqb-true from i same) ∙ is in rw at refl
        | inr other ↦
            let ne : from ≢ i = eqb-false from i other in
            let less : from < i = omega (arith, low, ne) in
            rw (none from (omega arith) less) (first_some n (from + 1) i f (omega (arith, less)) (omega (arith, high)) (λ m lower higher. none m (omega (arith, lower)) higher) is)
      ]

  module _ (start : ℕ) where
    pub best_none : (asked : List Entry) → asked ≡ [] → IsBest os name class version start asked None
    best_none asked is = record {
      stands = λ f e. absurd (cc);
      first = λ m low hit before. absurd (false≢true (sym (ap (list_any (has_value m)) is) ∙ hit));
    }

    asked_cases : (es : List Entry) (e : Entry) (m : ℕ) → list_any (has_value m) (es ++ e ∷ []) ≡ true → (list_any (has_value m) es ≡ true) ⊎ (e.value ≡ m)
    asked_cases es e m hit =
        elim (or_cases (list_any (has_value m) es) (list_any (has_value m) (e ∷ [])) (sym (list_any-append (has_value m) es (e ∷ [])) ∙ hit)) [
          | inl before ↦ inl before
          | inr last ↦
              elim (or_cases (e.value == m) false last) [
                | inl same ↦ inr (eqb-true e.value m same)
                | inr never ↦ absurd (false≢true never)
              ]
        ]

    not_asked : (es : List Entry) (e : Entry) (best : Option Found) → IsBest os name class version start es best → is_better start best e.value ≡ false → IsBest os name class version start (es ++ e ∷ []) best
    not_asked es e best is worse = record {
      stands = is.stands;
      first = λ m low hit before.
          elim (asked_cases es e m hit) [
            | inl asked ↦ is.first m low asked before
            | inr same ↦ absurd (never best e.value worse (subst (λ (n : ℕ). start ≤ n) (sym same) low) (λ f at. subst (λ (n : ℕ). n < f.member) (sym same) (before f at)))
          ];
    }
      where
        never : (b : Option Found) (m : ℕ) → is_better start b m ≡ false → start ≤ m → ((f : Found) → b ≡ Some f → m < f.member) → ⊥
        never None m w low before = false≢true (sym w ∙ le-leb start m low)
        never (Some f) m w low before = false≢true (sym w ∙ rw (le-leb start m low, lt-ltb m f.member (before f refl)) refl)

    pub asked_none : (es : List Entry) (e : Entry) (best : Option Found) → IsBest os name class version start es best → here e.value ≡ None → IsBest os name class version start (es ++ e ∷ []) best
    asked_none es e best is none = record {
      stands = is.stands;
      first = λ m low hit before.
          elim (asked_cases es e m hit) [
            | inl asked ↦ is.first m low asked before
            | inr same ↦ ap here (sym same) ∙ none
          ];
    }

    below_best : (best : Option Found) (m n : ℕ) → is_better start best m ≡ true → n < m → (f : Found) → best ≡ Some f → n < f.member
    below_best None m n better lt f at = absurd (cc)
    below_best (Some g) m n better lt f at =
        let same : g ≡ f = cc in
        let parts = and_parts (nat_le start m) (nat_lt m g.member) better in
        subst (λ (x : Found). n < x.member) same (omega (arith, lt, ltb-true m g.member parts.1))

    from_start : (best : Option Found) (m : ℕ) → is_better start best m ≡ true → start ≤ m
    from_start None m better = leb-true start m better
    from_start (Some g) m better = leb-true start m (and_parts (nat_le start m) (nat_lt m g.member) better).0

    asked_some : (es : List Entry) (e : Entry) (best : Option Found) (g : Found) → IsBest os name class version start es best → is_better start best e.value ≡ true → here e.value ≡ Some g → g.member ≡ e.value
        → IsBest os name class version start (es ++ e ∷ []) (Some g)
    asked_some es e best g is better found named = record {
      stands = λ f at.
          let same : g ≡ f = cc in
          subst (λ (x : Found). (here x.member ≡ Some x) × (start ≤ x.member)) same (ap here named ∙ found, subst (λ (n : ℕ). start ≤ n) (sym named) (from_start best e.value better));
      first = λ m low hit before.
          let lt : m < e.value = subst (λ (n : ℕ). m < n) named (before g refl) in
          elim (asked_cases es e m hit) [
            | inl asked ↦ is.first m low asked (below_best best e.value m better lt)
            | inr same ↦ absurd (omega (arith, lt, same))
          ];
    }

    next_by : (es : List Entry) (e : Entry) (best : Option Found) (x : Option Found) → IsBest os name class version start es best → is_better start best e.value ≡ true → here e.value ≡ x
        → ((g : Found) → x ≡ Some g → g.member ≡ e.value) → IsBest os name class version start (es ++ e ∷ []) (option_or x best)
    next_by es e best None is better at named = asked_none es e best is at
    next_by es e best (Some g) is better at named = asked_some es e best g is better at (named g refl)

    -- one more that is asked
    pub best_push : (es : List Entry) (e : Entry) (best new : Option Found) → IsBest os name class version start es best → new ≡ best_of os name class version start best e.value → IsBest os name class version start (es ++ e ∷ []) new
    best_push es e best new so_far made =
        elim (cases_Bool (is_better start best e.value)) [
          | inl better ↦
              let found : new ≡ option_or (here e.value) best = made ∙ rw better refl in
              rw found (next_by es e best (here e.value) so_far better refl (λ g at. member_is os name class version e.value g at))
          | inr worse ↦
              let left : new ≡ best = made ∙ rw worse refl in
              rw left (not_asked es e best so_far worse)
        ]

    -- one entry more
    pub best_more : (items : List Entry) (i : ℕ) (d : Entry) (best new : Option Found) → i < length items → IsBest os name class version start (take i items) best → new ≡ best_of os name class version start best (get_or items i d).value
        → IsBest os name class version start (take (i + 1) items) new
    best_more items i d best new lt so_far made = rw (take_more items i d lt) (best_push (take i items) (get_or items i d) best new so_far made)

    -- the members that were asked are all that have a definer
    pub best_is : (asked : List Entry) (best : Option Found) → IsBest os name class version start asked best → ((m : ℕ) (f : Found) → here m ≡ Some f → list_any (has_value m) asked ≡ true)
        → best ≡ first_in os name class version (from_member start (length os))
    best_is asked None is whole =
        sym (first_none (length os - start) start (λ m low high. nothing m low (here m) refl))
      where
        nothing : (m : ℕ) → start ≤ m → (x : Option Found) → here m ≡ x → x ≡ None
        nothing m low None at = refl
        nothing m low (Some f) at = let none = is.first m low (whole m f at) (λ g never. absurd (cc)) in absurd (cc)
    best_is asked (Some f) is whole =
        let stands = is.stands f refl in
        let within : f.member < length os = (in_member_symbol os name class version f.member f stands.0).member in
        sym (first_some (length os - start) start f.member f stands.1 (omega (arith, stands.1, within)) (λ m low high. nothing m low high (here m) refl) stands.0)
      where
        nothing : (m : ℕ) → start ≤ m → m < f.member → (x : Option Found) → here m ≡ x → x ≡ None
        nothing m low high None at = refl
        nothing m low high (Some g) at =
            let lower : (h : Found) → ◌≡◌ {A = Option Found} (Some f) (Some h) → m < h.member = λ h e. let same : f ≡ h = cc in subst (λ (x : Found). m < x.member) same high in
            let none = is.first m low (whole m g at) lower in absurd (cc)

    -- the same, of all entries
    pub best_done : (items : List Entry) (i count : ℕ) (best : Option Found) → length items ≤ i → count ≡ length os → IsBest os name class version start (take i items) best
        → ((m : ℕ) (f : Found) → here m ≡ Some f → list_any (has_value m) items ≡ true) → best ≡ first_in os name class version (from_member start count)
    best_done items i count best le all is whole =
        rw all (best_is items best (subst (λ (asked : List Entry). IsBest os name class version start asked best) (take_all i items le) is) whole)

-- ---- what is under a name's key

-- each member with a definer of the name is under its key
pub index_whole : (os : List Object) (index : ScopeIndex) (name : List ℕ) (key : ℕ) (class : Class) (version : Option (List ℕ)) (m : ℕ) (f : Found) (found : List Entry) → IsIndex os index → key_of index.numbers name ≡ Some key → AreUnder index.members.items key found
    → in_member os name class version m ≡ Some f → list_any (has_value m) found ≡ true
index_whole os index name key class version m f found is known under e =
    let d = member_defines os name class version m f e in
    from_under index.members.items found key m under (is.whole m d.index key d.object d.symbol d.object_at d.symbol_at d.defines (ap (key_of index.numbers) d.named ∙ known))

-- ---- one member's own definers

-- what an index of a scope has of a member
pub index_own : (os : List Object) (index : ScopeIndex) (m : ℕ) (o : Object) → IsIndex os index → slice_get os m ≡ Some o → HasOwn index m o
index_own os index m o is at = record {
  own = is.each m o at;
  definers = λ i s own definer. is.named.definers m i o s at own definer;
  versions = λ number version named. is.named.versions m number o version at named;
}

pub way_at : (os : List Object) (way : Way) (m : ℕ) (o : Object) → IsWay os way → slice_get os m ≡ Some o → IsWayAt way m o
way_at os ways.InOrder m o is at = tt
way_at os (ways.Short index) m o is at = record { rising = is.definers.rising; definers = λ i key named. is.definers.whole m i key o at named; versions = is.versions m o at }
way_at os (ways.Indexed index) m o is at = index_own os index.now m o is at
way_at os (ways.Among among) m o is at = tt
way_at os ways.InLists m o is at = tt

-- what is read at a member is its own
pub own_read : (index : ScopeIndex) (m : ℕ) (o : Object) (w : Own) → HasOwn index m o → w ≡ get_or index.own.items m w → AreOwn index.numbers o w
own_read index m o w has read =
    let e = has.own in
    let same : e.0 ≡ w = sym (get_or_from_slice_get index.own.items m e.0 w e.1) ∙ sym read in
    subst (λ (x : Own). AreOwn index.numbers o x) same e.2

pub own_below : (index : ScopeIndex) (m : ℕ) (o : Object) → HasOwn index m o → m < vec_len index.own
own_below index m o has = let e = has.own in omega (arith, slice_get_within index.own.items m e.0 e.1, index.own.ok.0)

-- the name of a version has a key
pub version_keyed : (index : ScopeIndex) (m : ℕ) (o : Object) (word : ℕ) (version : List ℕ) → HasOwn index m o → version_name o.versions word ≡ Some version → IsSome (key_of index.numbers version)
version_keyed index m o word version has named = has.versions (index_of word) version (version_by_index o.versions word ∙ named)

-- nothing of an object matches a name without a key
pub none_matches : (index : ScopeIndex) (name : List ℕ) (class : Class) (version : Option (List ℕ)) (m : ℕ) (o : Object) → HasOwn index m o → key_of index.numbers name ≡ None → matching o name class version ≡ None
none_matches index name class version m o has none = by (matching o name class version) refl
  where
    by : (x : Option ℕ) → matching o name class version ≡ x → x ≡ None
    by None e = refl
    by (Some i) e =
        let d = matched o name class version i e in
        let n = named_by o name class d.symbol d.defines in
        let some : IsSome (key_of index.numbers name) = subst (λ (k : List ℕ). IsSome (key_of index.numbers k)) n.named (has.definers i d.symbol d.at n.definer) in
        absurd (false≢true (subst (λ (k : Option ℕ). IsSome k) none some))

-- a name without a key has no definer
unkeyed : (os : List Object) (index : ScopeIndex) (name : List ℕ) (class : Class) (version : Option (List ℕ)) (m : ℕ) → IsIndex os index → key_of index.numbers name ≡ None → in_member os name class version m ≡ None
unkeyed os index name class version m is none = by (in_member os name class version m) refl
  where
    by : (x : Option Found) → in_member os name class version m ≡ x → x ≡ None
    by None e = refl
    by (Some f) e =
        let d = member_defines os name class version m f e in
        let some : IsSome (key_of index.numbers name) = subst (λ (n : List ℕ). IsSome (key_of index.numbers n)) d.named (is.named.definers m d.index d.object d.symbol d.object_at d.symbol_at d.defines) in
        absurd (false≢true (subst (λ (k : Option ℕ). IsSome k) none some))

pub none_keyed : (os : List Object) (index : ScopeIndex) (name : List ℕ) (class : Class) (version : Option (List ℕ)) (start count : ℕ) → IsIndex os index → key_of index.numbers name ≡ None → first_in os name class version (from_member start count) ≡ None
none_keyed os index name class version start count is none = first_none os name class version (count - start) start (λ m low high. unkeyed os index name class version m is none)
