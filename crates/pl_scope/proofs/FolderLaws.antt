-- The index of a folder: its entries in order, each once, those of a hash, and the search among the members of a scope.
use Rattle.std.proofs.Common.{◌≡◌, ℕ, ◌+◌, ◌<◌, ◌≤◌, Bool, true, false, ◌||◌, List, [], ◌∷◌, ◌++◌, length, take, drop, get_or, Option, Some, None, refl, sym, ap, ◌∙◌, subst, arith, append_assoc, inl, inr}
use Rattle.std.specs.Prelude.{slice_get, ◌==◌}
use Rattle.std.specs.Option.{option_map, option_to_list}
use Rattle.std.specs.List.{All, list_any, filter_map}
use Rattle.std.specs.List.Sorted.{IsNonDecreasingBy, IsPermutation}
use Rattle.std.proofs.lemmas.Bool.{cases_Bool, and_parts, or_left, or_right, eqb-true, eq-eqb, false≢true}
use Rattle.std.proofs.lemmas.List.{take_more, take_all, append-nil, at_drop_more, at_drop_all}
use Rattle.std.proofs.lemmas.List.Elements.{All-append, All-nil, filter_map-append}
use Rattle.std.proofs.lemmas.List.Sorted.{All-permutation}
use Rattle.pl_sym.specs.Definers.{is_definer}
use Rattle.pl_sym.specs.declared.symbol.Symbol.{Symbol}
use Rattle.pl_sym.specs.declared.class.Class.{Class}
use Rattle.pl_sym.specs.declared.class.Class.TheVariants.{Other}
use Rattle.pl_hash.specs.Hash.{gnu}
use Rattle.pl_elf.specs.Kinds.{is_program}
use Rattle.pl_object.specs.declared.object.Object.{Object}
use Rattle.pl_scope.specs.Finds.{in_member, first_in, from_member}
use Rattle.pl_scope.specs.Index.{entries_of, AreSmallHashes, IsInOrder}
use Rattle.pl_scope.specs.ShortIndex.{mixed}
use Rattle.pl_scope.specs.Entries.{has_value}
use Rattle.pl_scope.specs.Matching.{defines}
use Rattle.pl_scope.specs.ScopeIndex.{IsBest}
use Rattle.pl_scope.specs.Folder.{entries_at, all_from, all_entries, IsFolderIndex, position_of, position_in, placed, is_at, is_placed, IsIndexAmong, IsOnlyEntry, IsOnlyDefiner, IsOnlyIn, best_at}
use Rattle.pl_scope.specs.declared.folder.Among.{Among}
use Rattle.pl_scope.specs.declared.entries.Entry.{Entry as Placed}
use Rattle.pl_scope.specs.declared.index.Entry.{Entry}
use Rattle.pl_scope.specs.declared.found.Found.{Found}
use Rattle.pl_scope.specs.declared.wanted.Wanted.{Wanted}
use Rattle.pl_scope.proofs.FoundLaws.{member_defines}
use Rattle.pl_scope.proofs.MatchingLaws.{named_by}
use Rattle.pl_scope.proofs.IndexLaws.{made_all, made_small}
use Rattle.pl_scope.proofs.ScopeIndexLaws.{best_none, best_push, best_is}

-- ---- the definers of all objects

pub all_more : (os : List (Option Object)) (row : ℕ) (d o : Option Object) (front new : List Entry) → row < length os → get_or os row d ≡ o → new ≡ front ++ entries_at row o
    → front ++ all_from row (drop row os) ≡ all_entries os → new ++ all_from (row + 1) (drop (row + 1) os) ≡ all_entries os
unfolding all_from
all_more os row d o front new lt at is so_far =
    let rest = all_from (row + 1) (drop (row + 1) os) in
    let step : all_from row (drop row os) ≡ entries_at row o ++ rest =
    at_drop_more (all_from row) os row d lt ∙ ap (λ (p : Option Object). entries_at row p ++ rest) at in
    ap (λ (xs : List Entry). xs ++ rest) is ∙ append_assoc front (entries_at row o) rest ∙ ap (λ (xs : List Entry). front ++ xs) (sym step) ∙ so_far

pub all_done : (os : List (Option Object)) (row : ℕ) (front : List Entry) → length os ≤ row → front ++ all_from row (drop row os) ≡ all_entries os → front ≡ all_entries os
unfolding all_from
all_done os row front le so_far = sym (append-nil front) ∙ ap (λ (xs : List Entry). front ++ xs) (sym (at_drop_all (all_from row) os row le)) ∙ so_far

at_small : (row : ℕ) (o : Option Object) → All (λ e. e.hash < 4294967296) (entries_at row o)
at_small row None = All-nil (λ (e : Entry). e.hash < 4294967296)
at_small row (Some o) =
    made_all (λ (e : Entry). e.hash < 4294967296) o row 0 o.symbols (λ j s. made_small row j s (is_definer s Other (is_program o.kind)))

all_small : (row : ℕ) (os : List (Option Object)) → All (λ e. e.hash < 4294967296) (all_from row os)
unfolding all_from
all_small row [] = All-nil (λ (e : Entry). e.hash < 4294967296)
all_small row (o ∷ os) = All-append (λ (e : Entry). e.hash < 4294967296) (entries_at row o) (all_from (row + 1) os) (at_small row o) (all_small (row + 1) os)

pub hashes_are : (os : List (Option Object)) (es : List Entry) → es ≡ all_entries os → AreSmallHashes es
hashes_are os es is = subst (λ (xs : List Entry). AreSmallHashes xs) (sym is) (all_small 0 os)

-- ---- the index

-- sorted, they are in order
pub sorted_in_order : (all sorted kept : List Entry) → AreSmallHashes all → IsPermutation all sorted → IsNonDecreasingBy (λ e. mixed e.hash) sorted → kept ≡ sorted → IsInOrder kept
sorted_in_order all sorted kept small same rising is =
    subst (λ (es : List Entry). IsInOrder es) (sym is) (record { rising = rising; small = All-permutation (λ (e : Entry). e.hash < 4294967296) all sorted same small })

-- and an index
pub folder_index : (os : List (Option Object)) (all sorted kept : List Entry) → all ≡ all_entries os → IsPermutation all sorted → kept ≡ sorted → IsFolderIndex os kept
folder_index os all sorted kept is same kept_is =
    subst (λ (es : List Entry). IsPermutation es kept) is (subst (λ (es : List Entry). IsPermutation all es) (sym kept_is) same)

-- ---- a search among the members of a scope

module _ (os : List Object) (w : Wanted) (start : ℕ) (positions : List (Option ℕ)) where
  abbrev IsBestOf : List Placed → Option Found → Type 0
  IsBestOf asked best = IsBest os w.name.now w.class (option_map (λ x. x.now) w.version) start asked best

  one_placed : (e : Entry) (x : Option ℕ) → position_of positions e ≡ x → filter_map (placed positions) (e ∷ []) ≡ option_to_list (option_map (λ m. record { key = e.hash; value = m }) x)
  one_placed e None is = rw is refl
  one_placed e (Some m) is = rw is refl

  among_step : (asked : List Placed) (e : Entry) (best new : Option Found) (x : Option ℕ) → position_of positions e ≡ x → IsBestOf asked best → new ≡ best_at os w start best x
      → IsBestOf (asked ++ filter_map (placed positions) (e ∷ [])) new
  among_step asked e best new None is so_far made =
      subst (λ (more : List Placed). IsBestOf (asked ++ more) new) (sym (one_placed e None is))
      (subst (λ (all : List Placed). IsBestOf all new) (sym (append-nil asked)) (subst (λ (f : Option Found). IsBestOf asked f) (sym made) so_far))
  among_step asked e best new (Some m) is so_far made =
      subst (λ (more : List Placed). IsBestOf (asked ++ more) new) (sym (one_placed e (Some m) is))
      (best_push os w.name.now w.class (option_map (λ x. x.now) w.version) start asked (record { key = e.hash; value = m }) best new so_far made)

  -- one entry more
  pub among_more : (items : List Entry) (i : ℕ) (d : Entry) (best new : Option Found) (x : Option ℕ) → i < length items → IsBestOf (filter_map (placed positions) (take i items)) best
      → x ≡ position_of positions (get_or items i d) → new ≡ best_at os w start best x → IsBestOf (filter_map (placed positions) (take (i + 1) items)) new
  among_more items i d best new x lt so_far at made =
      let e = get_or items i d in
      let more : filter_map (placed positions) (take (i + 1) items) ≡ filter_map (placed positions) (take i items) ++ filter_map (placed positions) (e ∷ []) =
      ap (filter_map (placed positions)) (take_more items i d lt) ∙ filter_map-append (placed positions) (take i items) (e ∷ []) in
      subst (λ (asked : List Placed). IsBestOf asked new) (sym more) (among_step (filter_map (placed positions) (take i items)) e best new x (sym at) so_far made)

  -- all entries
  pub among_done : (items : List Entry) (i count : ℕ) (best : Option Found) → length items ≤ i → count ≡ length os → IsBestOf (filter_map (placed positions) (take i items)) best
      → ((m : ℕ) (f : Found) → in_member os w.name.now w.class (option_map (λ x. x.now) w.version) m ≡ Some f → list_any (λ e. e.value == m) (filter_map (placed positions) items) ≡ true)
      → best ≡ first_in os w.name.now w.class (option_map (λ x. x.now) w.version) (from_member start count)
  among_done items i count best le all is whole =
      rw all (best_is os w.name.now w.class (option_map (λ x. x.now) w.version) start (filter_map (placed positions) items) best
      (subst (λ (xs : List Entry). IsBestOf (filter_map (placed positions) xs) best) (take_all i items le) is) whole)

abbrev told : List (Option ℕ) → ℕ → List Entry → Bool
told positions m es = list_any (λ e. e.value == m) (filter_map (placed positions) es)

told_by : (positions : List (Option ℕ)) (m : ℕ) (e : Entry) (es : List Entry) (x : Option ℕ) → position_of positions e ≡ x → (is_at x m || told positions m es) ≡ true → told positions m (e ∷ es) ≡ true
told_by positions m e es None at any = rw at any
told_by positions m e es (Some k) at any = rw at any

-- an entry of a symbol of a member is one of the member
told_member : (positions : List (Option ℕ)) (m i : ℕ) (es : List Entry) → list_any (is_placed positions m i) es ≡ true → told positions m es ≡ true
told_member positions m i [] any = any
told_member positions m i (e ∷ es) any = told_by positions m e es (position_of positions e) refl (elim (cases_Bool (is_placed positions m i e)) [
  | inl here ↦ or_left (is_at (position_of positions e) m) (told positions m es) (and_parts (is_at (position_of positions e) m) (e.symbol == i) here).0
  | inr other ↦ or_right (is_at (position_of positions e) m) (told positions m es) (told_member positions m i es (rw other at any))
])

-- each member with a definer of the name is under its hash
pub among_whole : (os : List Object) (among : Among) (name : List ℕ) (class : Class) (version : Option (List ℕ)) (m : ℕ) (f : Found) → IsIndexAmong os among → in_member os name class version m ≡ Some f
    → list_any (λ e. e.value == m) (filter_map (placed among.positions.now) (entries_of among.index.now (gnu name))) ≡ true
among_whole os among name class version m f is e =
    let d = member_defines os name class version m f e in
    subst (λ (n : List ℕ). list_any (λ (x : Placed). x.value == m) (filter_map (placed among.positions.now) (entries_of among.index.now (gnu n))) ≡ true) d.named
    (told_member among.positions.now m d.index (entries_of among.index.now (gnu d.symbol.name)) (is.whole m d.index d.object d.symbol d.object_at d.symbol_at d.defines))

-- ---- one entry under a hash

or_nothing : (b : Bool) → (b || false) ≡ b
or_nothing true = refl
or_nothing false = refl

-- the symbol of the only entry of a hash is the only definer
pub only_in : (os : List Object) (among : Among) (name : List ℕ) (class : Class) (hash m : ℕ) (e : Entry) → hash ≡ gnu name → IsIndexAmong os among → entries_of among.index.now hash ≡ e ∷ [] → IsOnlyIn os m name class e.symbol
only_in os among name class hash m e hashed is one = λ o there i s at defined.
    let n = named_by o name class s defined in
    let listed : entries_of among.index.now (gnu s.name) ≡ e ∷ [] = ap (λ (x : List ℕ). entries_of among.index.now (gnu x)) n.named ∙ (ap (entries_of among.index.now) (sym hashed) ∙ one) in
    let any : list_any (is_placed among.positions.now m i) (e ∷ []) ≡ true = subst (λ (es : List Entry). list_any (is_placed among.positions.now m i) es ≡ true) listed (is.whole m i o s there at n.definer) in
    let here : is_placed among.positions.now m i e ≡ true = sym (or_nothing (is_placed among.positions.now m i e)) ∙ any in
    sym (eqb-true e.symbol i (and_parts (is_at (position_of among.positions.now e) m) (e.symbol == i) here).1)

-- an entry that stands at a member
at_member : (x : Option ℕ) (m : ℕ) → is_at x m ≡ true → x ≡ Some m
at_member None m at = absurd (false≢true at)
at_member (Some other) m at = ap Some (eqb-true other m at)

only_one : (among : Among) (hash m i : ℕ) (es : List Entry) → entries_of among.index.now hash ≡ es → length es ≤ 1 → list_any (is_placed among.positions.now m i) es ≡ true → IsOnlyEntry among hash m i
only_one among hash m i [] is few any = absurd (false≢true any)
only_one among hash m i (e ∷ []) is few any =
    let here = and_parts (is_at (position_of among.positions.now e) m) (e.symbol == i) (sym (or_nothing (is_placed among.positions.now m i e)) ∙ any) in
    record { entry = e; only = is; here = at_member (position_of among.positions.now e) m here.0; symbol = eqb-true e.symbol i here.1 }
only_one among hash m i (e ∷ f ∷ es) is few any = absurd (omega (arith, few))

-- a definer whose hash has one entry at most has the only one
pub only_entry : (os : List Object) (among : Among) (name : List ℕ) (hash m i : ℕ) (o : Object) (s : Symbol) → hash ≡ gnu name → IsIndexAmong os among → slice_get os m ≡ Some o → slice_get o.symbols i ≡ Some s → defines o name Other s ≡ true
    → length (entries_of among.index.now hash) ≤ 1 → IsOnlyEntry among hash m i
only_entry os among name hash m i o s hashed is there at defined few =
    let n = named_by o name Other s defined in
    let same : entries_of among.index.now (gnu s.name) ≡ entries_of among.index.now hash = ap (λ (x : List ℕ). entries_of among.index.now (gnu x)) n.named ∙ ap (entries_of among.index.now) (sym hashed) in
    only_one among hash m i (entries_of among.index.now hash) refl few
    (subst (λ (es : List Entry). list_any (is_placed among.positions.now m i) es ≡ true) same (is.whole m i o s there at n.definer))

-- that symbol alone is looked at
pub alone_have : (o : Object) (name : List ℕ) (class : Class) (number key : ℕ) → IsOnlyDefiner o name class number → (i : ℕ) (s : Symbol) → slice_get o.symbols i ≡ Some s → defines o name class s ≡ true
    → list_any (has_value i) (record { key = key; value = number } ∷ []) ≡ true
alone_have o name class number key only i s at defined = rw (only i s at defined, eq-eqb number number refl) refl

-- what is found where there is one entry
pub alone_found : (os : List Object) (w : Wanted) (start : ℕ) (among : Among) (count : ℕ) (e : Entry) (new : Option Found) (x : Option ℕ) → w.gnu ≡ gnu w.name.now → IsIndexAmong os among → entries_of among.index.now w.gnu ≡ e ∷ [] → count ≡ length os
    → x ≡ position_of among.positions.now e → new ≡ best_at os w start None x → new ≡ first_in os w.name.now w.class (option_map (λ x. x.now) w.version) (from_member start count)
alone_found os w start among count e new x hashed is one all at made =
    let items : e ∷ [] ≡ entries_of among.index.now (gnu w.name.now) = sym one ∙ ap (entries_of among.index.now) hashed in
    among_done os w start among.positions.now (e ∷ []) 1 count new (omega arith) all
    (among_more os w start among.positions.now (e ∷ []) 0 e None new x (omega arith) (best_none os w.name.now w.class (option_map (λ x. x.now) w.version) start [] refl) at made)
    (λ m f found. subst (λ (es : List Entry). list_any (λ (p : Placed). p.value == m) (filter_map (placed among.positions.now) es) ≡ true) (sym items)
    (among_whole os among w.name.now w.class (option_map (λ x. x.now) w.version) m f is found))

-- where a row stands is a member of the scope
pub within_by : (os : List Object) (among : Among) (row m : ℕ) (x : Option ℕ) → IsIndexAmong os among → x ≡ position_in (slice_get among.positions.now row) → x ≡ Some m → m < length os
within_by os among row m x is at stands = is.within row m (sym at ∙ stands)
