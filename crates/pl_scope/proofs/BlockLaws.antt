-- The steps of a search for a name among the definers of an object.
use Rattle.std.proofs.Common.{◌≡◌, ◌≢◌, ℕ, ◌+◌, ◌<◌, ◌≤◌, Bool, true, false, not, ◌&&◌, ◌||◌, cond, List, [], ◌∷◌, ◌++◌, length, take, drop, get_or, Option, Some, None, refl, sym, ap, subst, ◌∙◌, arith, inl, inr}
use Rattle.std.specs.Prelude.{slice_get, position, ◌==◌, IsSome, if◌then◌else◌}
use Rattle.std.specs.List.{list_any}
use Rattle.std.specs.Option.{option_and_then}
use Rattle.std.proofs.Math.Nat.{mod-lt}
use Rattle.std.proofs.lemmas.Bool.{cases_Bool, false≢true, and_parts, or_cases, eqb-false, eqb-true}
use Rattle.std.proofs.lemmas.List.{at_drop_more, at_drop_all, take_all, take_more}
use Rattle.std.proofs.lemmas.List.Folds.{list_any-append}
use Rattle.std.proofs.lemmas.Slice.Eq.{bytes_eq-Decides}
use Rattle.pl_object.specs.SymbolClauses.{is_same_name, version_name}
use Rattle.pl_sym.specs.declared.symbol.Symbol.{Symbol}
use Rattle.pl_ver.specs.Fields.{index_of}
use Rattle.pl_ver.specs.declared.constants.TheConstants.{VER_NDX_GLOBAL, VERSYM_HIDDEN}
use Rattle.pl_scope.specs.Block.{takes, values, end_of_name, IsBlock, AreCandidates, AreLists, AreRising, HaveName, HaveVersion, IsAnyOf}
use Rattle.pl_scope.specs.Definers.{pair, tag_of, IsList}
use Rattle.pl_scope.specs.Entries.{is_entry, has_value, AreBetween, AreUnder}
use Rattle.pl_scope.specs.Matching.{counts, defines, has_version, only}
use Rattle.pl_scope.specs.Numbers.{key_of}
use Rattle.pl_scope.specs.Probing.{another, lesser, least_from, taken}
use Rattle.pl_scope.specs.declared.block.Block.{Block}
use Rattle.pl_scope.specs.declared.block.Lists.{Lists}
use Rattle.pl_scope.specs.declared.definers.Listing.{Listing}
use Rattle.pl_scope.specs.declared.definers.Listing.TheVariants as lists
use Rattle.pl_scope.specs.declared.entries.Entry.{Entry}
use Rattle.pl_scope.specs.declared.probe.Pick.{Pick}
use Rattle.pl_scope.specs.declared.probe.Pick.TheVariants as picks
use Rattle.pl_scope.proofs.DefinerLaws.{key_is}
use Rattle.pl_scope.proofs.EntryLaws.{any_number, any_value, from_under}
use Rattle.pl_scope.proofs.LeastLaws.{IsComplete, any_found, defines_of, differs, least_is, no_other, symbol_at}
use Rattle.pl_scope.proofs.MatchingLaws.{named_by}
use Rattle.pl_scope.proofs.PlaceLaws.{IsAt, located, only_many, only_none, only_one, position_none}
use Rattle.pl_scope.proofs.VersionIndexLaws.{version_found}

-- ---- where a definer stands

abbrev Test : Block → Pick → Symbol → Bool
Test b pick = taken b.object.now b.name.now b.class pick

-- a definer of the name stands in a list under the name's key and what stands beside it there
listed : (b : Block) (l : Lists) (listing : Listing) (es : List Entry) (i tag : ℕ) (s : Symbol) → AreLists b l → IsList l.numbers.now l.versions.now b.object.now listing es → slice_get b.object.now.symbols i ≡ Some s → defines b.object.now b.name.now b.class s ≡ true
    → tag_of l.numbers.now l.versions.now listing s ≡ Some tag → list_any (is_entry (pair l.key tag) i) es ≡ true
listed b l listing es i tag s are list at definer tagged =
    let n = named_by b.object.now b.name.now b.class s definer in
    list.whole i (pair l.key tag) (key_is l.numbers.now l.versions.now b.object.now listing b.name.now l.key i tag s are.keyed at n.definer n.named tagged)

-- the lists are in the order of their keys
pub are_rising : (b : Block) (l : Lists) → AreLists b l → AreRising l.definers.now
are_rising b l are = record { by_index = are.definers.by_index.rising; shown = are.definers.shown.rising; by_version = are.definers.by_version.rising }

-- ---- the candidates of each step

pub plain_here : (b : Block) (l : Lists) (es : List Entry) → AreLists b l → AreUnder l.definers.now.by_index.items (pair l.key VER_NDX_GLOBAL) es → AreCandidates b picks.Plain es
plain_here b l es are under i holds =
    let at = symbol_at (Test b picks.Plain) (slice_get b.object.now.symbols i) holds in
    let parts = and_parts _ _ at.2 in
    let tagged : tag_of l.numbers.now l.versions.now lists.Index at.0 ≡ Some VER_NDX_GLOBAL = ap (λ (v : ℕ). Some (index_of v)) (eqb-true at.0.version VER_NDX_GLOBAL parts.1) in
    from_under l.definers.now.by_index.items es (pair l.key VER_NDX_GLOBAL) i under (listed b l lists.Index l.definers.now.by_index.items i VER_NDX_GLOBAL at.0 are are.definers.by_index at.1 parts.0 tagged)

pub index_here : (b : Block) (l : Lists) (index : ℕ) (es : List Entry) → AreLists b l → AreUnder l.definers.now.by_index.items (pair l.key index) es → AreCandidates b (picks.Index index) es
index_here b l index es are under i holds =
    let at = symbol_at (Test b (picks.Index index)) (slice_get b.object.now.symbols i) holds in
    let parts = and_parts _ _ at.2 in
    let tagged : tag_of l.numbers.now l.versions.now lists.Index at.0 ≡ Some index = ap (λ (k : ℕ). Some k) (eqb-true (index_of at.0.version) index parts.1) in
    from_under l.definers.now.by_index.items es (pair l.key index) i under (listed b l lists.Index l.definers.now.by_index.items i index at.0 are are.definers.by_index at.1 parts.0 tagged)

pub each_here : (b : Block) (l : Lists) (es : List Entry) → AreLists b l → AreBetween l.definers.now.by_index.items (pair l.key 0) (end_of_name l.key) es → AreCandidates b picks.Each es
each_here b l es are between i holds =
    let at = symbol_at (Test b picks.Each) (slice_get b.object.now.symbols i) holds in
    let definer = defines_of b.object.now b.name.now b.class picks.Each at.0 at.2 in
    let tag = index_of at.0.version in
    let hidden : VERSYM_HIDDEN ≡ 32768 = refl in
    let some : 0 < VERSYM_HIDDEN = omega (arith, hidden) in
    let below : tag < VERSYM_HIDDEN = mod-lt at.0.version some in
    let from : pair l.key 0 ≤ pair l.key tag = omega arith in
    let to : pair l.key tag < end_of_name l.key = omega (arith, below) in
    any_number (pair l.key tag) i es (between.whole (pair l.key tag) i from to (listed b l lists.Index l.definers.now.by_index.items i tag at.0 are are.definers.by_index at.1 definer refl))

pub shown_here : (b : Block) (l : Lists) (es : List Entry) → AreLists b l → AreUnder l.definers.now.shown.items (pair l.key 0) es → AreCandidates b picks.Shown es
unfolding counts
shown_here b l es are under i holds =
    let at = symbol_at (Test b picks.Shown) (slice_get b.object.now.symbols i) holds in
    let parts = and_parts _ _ at.2 in
    let tagged : tag_of l.numbers.now l.versions.now lists.Shown at.0 ≡ Some 0 = ap (λ (c : Bool). if c then Some 0 else None) parts.1 in
    from_under l.definers.now.shown.items es (pair l.key 0) i under (listed b l lists.Shown l.definers.now.shown.items i 0 at.0 are are.definers.shown at.1 parts.0 tagged)

-- among all definers of the name is each that a step takes
pub named_here : (b : Block) (pick : Pick) (es : List Entry) → HaveName b es → AreCandidates b pick es
named_here b pick es have i holds =
    let at = symbol_at (Test b pick) (slice_get b.object.now.symbols i) holds in
    have i at.0 at.1 (defines_of b.object.now b.name.now b.class pick at.0 at.2)

-- ---- those that have a version

version_is_by : (version : List ℕ) (x : Option (List ℕ)) → is_same_name (Some version) x ≡ true → x ≡ Some version
version_is_by version None same = absurd (false≢true same)
version_is_by version (Some own) same = ap (λ (n : List ℕ). Some n) (sym ((bytes_eq-Decides version own).0 same))

version_is : (b : Block) (version : List ℕ) (s : Symbol) → has_version b.object.now version s ≡ true → version_name b.object.now.versions s.version ≡ Some version
unfolding has_version
version_is b version s has = version_is_by version (version_name b.object.now.versions s.version) has

pub none_have : (b : Block) (l : Lists) (version : List ℕ) → AreLists b l → key_of l.numbers.now version ≡ None → HaveVersion b version []
none_have b l version are none i s at definer has =
    let n = named_by b.object.now b.name.now b.class s definer in
    absurd (false≢true (subst (λ (x : Option ℕ). IsSome x) none (are.named i s version at n.definer (version_is b version s has))))

pub version_here : (b : Block) (l : Lists) (version : List ℕ) (key : ℕ) (es : List Entry) → IsBlock b → AreLists b l → key_of l.numbers.now version ≡ Some key → AreUnder l.definers.now.by_version.items (pair l.key key) es → HaveVersion b version es
version_here b l version key es is are known under i s at definer has =
    let tagged : tag_of l.numbers.now l.versions.now lists.Version s ≡ Some key =
    ap (λ (x : Option (List ℕ)). option_and_then (key_of l.numbers.now) x) (version_found b.object.now.versions l.versions.now s.version are.versions ∙ version_is b version s has) ∙ known in
    from_under l.definers.now.by_version.items es (pair l.key key) i under (listed b l lists.Version l.definers.now.by_version.items i key s are are.definers.by_version at definer tagged)

pub versions_here : (b : Block) (version : Pick) (name : List ℕ) (es : List Entry) → ((s : Symbol) → Test b version s ≡ (defines b.object.now b.name.now b.class s && has_version b.object.now name s)) → HaveVersion b name es → AreCandidates b version es
versions_here b version name es is have i holds =
    let at = symbol_at (Test b version) (slice_get b.object.now.symbols i) holds in
    let parts = and_parts (defines b.object.now b.name.now b.class at.0) (has_version b.object.now name at.0) (sym (is at.0) ∙ at.2) in
    have i at.0 at.1 parts.0 parts.1

-- ---- the first of the candidates

complete : (b : Block) (pick : Pick) (es : List Entry) → AreCandidates b pick es → IsComplete (Test b pick) b.object.now.symbols (values es)
complete b pick es are i holds = any_value i es ∙ are i holds

pub first_of : (b : Block) (pick : Pick) (es : List Entry) → AreCandidates b pick es → least_from (takes b pick) None (values es) ≡ position (Test b pick) b.object.now.symbols
first_of b pick es are = least_is (Test b pick) b.object.now.symbols (values es) (complete b pick es are)

-- the entries from one on begin with it
next_entry : {Y : Type 0} (F : List ℕ → Y) (es : List Entry) (i : ℕ) (d : Entry) → i < length es → F (values (drop i es)) ≡ F ((get_or es i d).value ∷ values (drop (i + 1) es))
next_entry F es i d lt = at_drop_more (λ (xs : List Entry). F (values xs)) es i d lt

pub least_more : (q : ℕ → Bool) (es : List Entry) (i : ℕ) (d : Entry) (least new whole : Option ℕ) → i < length es → new ≡ cond (q (get_or es i d).value) (Some (lesser least (get_or es i d).value)) least
    → least_from q least (values (drop i es)) ≡ whole → least_from q new (values (drop (i + 1) es)) ≡ whole
least_more q es i d least new whole lt is so_far =
    ap (λ (o : Option ℕ). least_from q o (values (drop (i + 1) es))) is ∙ sym (next_entry (least_from q least) es i d lt) ∙ so_far

pub least_done : (q : ℕ → Bool) (es : List Entry) (i : ℕ) (least whole : Option ℕ) → length es ≤ i → least_from q least (values (drop i es)) ≡ whole → least ≡ whole
least_done q es i least whole le so_far = sym (at_drop_all (λ (xs : List Entry). least_from q least (values xs)) es i le) ∙ so_far

-- ---- any of them

-- the first entries' numbers do not pass
abbrev pub NonePasses : (ℕ → Bool) → List Entry → Type 0
NonePasses q es = (n : ℕ) → list_any (has_value n) es ≡ true → q n ≡ false

pub none_yet : (q : ℕ → Bool) (es : List Entry) → NonePasses q (take 0 es)
none_yet q es n hit = absurd (false≢true hit)

pub none_more : (q : ℕ → Bool) (es : List Entry) (i : ℕ) (d : Entry) → i < length es → q (get_or es i d).value ≡ false → NonePasses q (take i es) → NonePasses q (take (i + 1) es)
none_more q es i d lt miss so_far n hit =
    let e = get_or es i d in
    let next : take (i + 1) es ≡ take i es ++ e ∷ [] = take_more es i d lt in
    let there : (list_any (has_value n) (take i es) || (e.value == n || false)) ≡ true = sym (list_any-append (has_value n) (take i es) (e ∷ [])) ∙ ap (list_any (has_value n)) (sym next) ∙ hit in
    elim (or_cases (list_any (has_value n) (take i es)) (e.value == n || false) there) [
      | inl before ↦ so_far n before
      | inr last ↦
          elim (or_cases (e.value == n) false last) [
            | inl same ↦ subst (λ (k : ℕ). q k ≡ false) (eqb-true e.value n same) miss
            | inr never ↦ absurd (false≢true never)
          ]
    ]

pub none_done : (q : ℕ → Bool) (es : List Entry) (i : ℕ) → length es ≤ i → NonePasses q (take i es) → IsAnyOf q es None
none_done q es i le so_far = subst (NonePasses q) (take_all i es le) so_far

-- ---- another one

pub another_here : (q : ℕ → Bool) (index : ℕ) (es : List Entry) (i : ℕ) (d : Entry) (whole : Bool) → i < length es → (not ((get_or es i d).value == index) && q (get_or es i d).value) ≡ true
    → another q index (values (drop i es)) ≡ whole → true ≡ whole
another_here q index es i d whole lt hit so_far =
    sym (next_entry (another q index) es i d lt ∙ ap (λ (b : Bool). b || another q index (values (drop (i + 1) es))) hit) ∙ so_far

pub another_more : (q : ℕ → Bool) (index : ℕ) (es : List Entry) (i : ℕ) (d : Entry) (whole : Bool) → i < length es → (not ((get_or es i d).value == index) && q (get_or es i d).value) ≡ false
    → another q index (values (drop i es)) ≡ whole → another q index (values (drop (i + 1) es)) ≡ whole
another_more q index es i d whole lt miss so_far =
    sym (next_entry (another q index) es i d lt ∙ ap (λ (b : Bool). b || another q index (values (drop (i + 1) es))) miss) ∙ so_far

pub another_done : (q : ℕ → Bool) (index : ℕ) (es : List Entry) (i : ℕ) (whole : Bool) → length es ≤ i → another q index (values (drop i es)) ≡ whole → false ≡ whole
another_done q index es i whole le so_far = sym (at_drop_all (λ (xs : List Entry). another q index (values xs)) es i le) ∙ so_far

-- ---- the only one

not_taken : (b : Block) (pick : Pick) (es : List Entry) → AreCandidates b pick es → IsAnyOf (takes b pick) es None → (i : ℕ) → takes b pick i ≡ false
not_taken b pick es are none i = elim (cases_Bool (takes b pick i)) [
  | inl holds ↦ none i (are i holds)
  | inr fails ↦ fails
]

pub only_of_none : (b : Block) (pick : Pick) (es : List Entry) (x : Option ℕ) → AreCandidates b pick es → IsAnyOf (takes b pick) es x → x ≡ None → None ≡ only (Test b pick) b.object.now.symbols
only_of_none b pick es x are any is =
    let none : IsAnyOf (takes b pick) es None = subst (IsAnyOf (takes b pick) es) is any in
    sym (only_none (Test b pick) b.object.now.symbols (position_none (Test b pick) b.object.now.symbols (not_taken b pick es are none)))

-- one that is taken is the first where no other is
only_at : (b : Block) (pick : Pick) (i : ℕ) → takes b pick i ≡ true → ((k : ℕ) → k ≢ i → takes b pick k ≡ false) → IsAt (Test b pick) b.object.now.symbols i
only_at b pick i holds others =
    elim (located (Test b pick) b.object.now.symbols) [
      | inl nowhere ↦ absurd (false≢true (sym (nowhere.all i) ∙ holds))
      | inr at ↦
          elim (cases_Bool (at.0 == i)) [
            | inl same ↦ subst (IsAt (Test b pick) b.object.now.symbols) (eqb-true at.0 i same) at.1
            | inr apart ↦ absurd (false≢true (sym (others at.0 (eqb-false at.0 i apart)) ∙ at.1.passes))
          ]
    ]

pub only_of : (b : Block) (pick : Pick) (es : List Entry) (i : ℕ) (x : Option ℕ) (more : Bool) → AreCandidates b pick es → IsAnyOf (takes b pick) es x → x ≡ Some i → more ≡ another (takes b pick) i (values es)
    → cond more None (Some i) ≡ only (Test b pick) b.object.now.symbols
only_of b pick es i x true are any is many =
    let holds : takes b pick i ≡ true = subst (IsAnyOf (takes b pick) es) is any in
    let found = any_found (λ k. not (k == i) && takes b pick k) (values es) (sym many) in
    let parts = and_parts (not (found.0 == i)) (takes b pick found.0) found.1 in
    sym (only_many (Test b pick) b.object.now.symbols i found.0 (differs found.0 i parts.0) holds parts.1)
only_of b pick es i x false are any is one =
    let holds : takes b pick i ≡ true = subst (IsAnyOf (takes b pick) es) is any in
    let others : (k : ℕ) → k ≢ i → takes b pick k ≡ false = λ k ne. no_other (Test b pick) b.object.now.symbols (values es) i k (complete b pick es are) (sym one) ne in
    sym (only_one (Test b pick) b.object.now.symbols i (only_at b pick i holds others) others)
