-- The entries of hashes.
use Rattle.std.proofs.Common.{◌≡◌, ℕ, zero, suc, ◌+◌, ◌-◌, ◌*◌, ◌%◌, ◌^◌, ◌<◌, ◌≤◌, Bool, true, false, cond, List, [], ◌∷◌, ◌++◌, length, take, drop, get_or, Option, Some, None, refl, sym, ap, ◌∙◌, subst, arith, append_assoc, inl, inr}
use Rattle.std.specs.Prelude.{nat_lt, ◌==◌, fold, IfSome}
use Rattle.std.specs.Option.{option_to_list}
use Rattle.std.specs.List.{filter, cons_option}
use Rattle.std.specs.List.{All, AllWithin}
use Rattle.std.specs.List.Sorted.{IsPartitionPoint, IsNonDecreasingBy}
use Rattle.std.proofs.lemmas.Bool.{cases_Bool, eq-eqb, ne_eqb, ltb-true, ltb-false, le-ltb, lt-ltb}
use Rattle.std.proofs.lemmas.Nat.{mod_below, mul-mod_first}
use Rattle.std.proofs.lemmas.List.{at_drop_more, at_drop_all, take-append-drop, append-nil, length-take, length-drop, get_or-take, get_or-drop, get_or_default}
use Rattle.std.proofs.lemmas.List.Elements.{All-nil, filter-append}
use Rattle.pl_sym.specs.declared.symbol.Symbol.{Symbol}
use Rattle.pl_hash.specs.Hash.{gnu, gnu_step}
use Rattle.pl_object.specs.declared.object.Object.{Object}
use Rattle.pl_scope.specs.Index.{entry_of, entries_from, entries_of, IsBehind, IsFirst}
use Rattle.pl_scope.specs.ShortIndex.{mixed}
use Rattle.pl_scope.specs.declared.index.Entry.{Entry}

-- ---- the definers of an object

cons_is : (x : Option Entry) (es : List Entry) → cons_option x es ≡ option_to_list x ++ es
cons_is None es = refl
cons_is (Some e) es = refl

-- a symbol more of an object, of which nothing or one entry is made
entries_more : (o : Object) (m : ℕ) (ss : List Symbol) (i : ℕ) (d : Symbol) (front new whole : List Entry) (x : Option Entry) → i < length ss → x ≡ entry_of o m i (get_or ss i d) → new ≡ front ++ option_to_list x
    → front ++ entries_from o m i (drop i ss) ≡ whole → new ++ entries_from o m (i + 1) (drop (i + 1) ss) ≡ whole
unfolding entries_from
entries_more o m ss i d front new whole x lt made more so_far =
    let rest = entries_from o m (i + 1) (drop (i + 1) ss) in
    let step : entries_from o m i (drop i ss) ≡ option_to_list x ++ rest =
    at_drop_more (entries_from o m i) ss i d lt ∙ ap (λ (y : Option Entry). cons_option y rest) (sym made) ∙ cons_is x rest in
    ap (λ (xs : List Entry). xs ++ rest) more ∙ append_assoc front (option_to_list x) rest ∙ ap (λ (xs : List Entry). front ++ xs) (sym step) ∙ so_far

entries_done : (o : Object) (m : ℕ) (ss : List Symbol) (i : ℕ) (front whole : List Entry) → length ss ≤ i → front ++ entries_from o m i (drop i ss) ≡ whole → front ≡ whole
unfolding entries_from
entries_done o m ss i front whole le so_far = sym (append-nil front) ∙ ap (λ (xs : List Entry). front ++ xs) (sym (at_drop_all (entries_from o m i) ss i le)) ∙ so_far

-- the same, where the symbols are said otherwise
pub entries_more_of : (o : Object) (m : ℕ) (items : List Symbol) (i : ℕ) (d : Symbol) (front new whole : List Entry) (x : Option Entry) → items ≡ o.symbols → i < length items → x ≡ entry_of o m i (get_or items i d) → new ≡ front ++ option_to_list x
    → front ++ entries_from o m i (drop i o.symbols) ≡ whole → new ++ entries_from o m (i + 1) (drop (i + 1) o.symbols) ≡ whole
entries_more_of o m items i d front new whole x same lt made more so_far =
    subst (λ (ss : List Symbol). new ++ entries_from o m (i + 1) (drop (i + 1) ss) ≡ whole) same
    (entries_more o m items i d front new whole x lt made more (subst (λ (ss : List Symbol). front ++ entries_from o m i (drop i ss) ≡ whole) (sym same) so_far))

pub entries_done_of : (o : Object) (m : ℕ) (items : List Symbol) (i : ℕ) (front whole : List Entry) → items ≡ o.symbols → length items ≤ i → front ++ entries_from o m i (drop i o.symbols) ≡ whole → front ≡ whole
entries_done_of o m items i front whole same le so_far =
    entries_done o m items i front whole le (subst (λ (ss : List Symbol). front ++ entries_from o m i (drop i ss) ≡ whole) (sym same) so_far)

-- what holds of the entry of each symbol holds of all
all_cons : (p : Entry → Type 0) (e : Entry) (es : List Entry) → p e → All p es → All p (e ∷ es)
all_cons p e es here rest zero d lt = here
all_cons p e es here rest (suc k) d lt = rest k d (omega (arith, lt))

all_more : (p : Entry → Type 0) (x : Option Entry) (es : List Entry) → IfSome x p → All p es → All p (cons_option x es)
all_more p None es here rest = rest
all_more p (Some e) es here rest = all_cons p e es here rest

pub made_all : (p : Entry → Type 0) (o : Object) (m i : ℕ) (ss : List Symbol) → ((j : ℕ) (s : Symbol) → IfSome (entry_of o m j s) p) → All p (entries_from o m i ss)
unfolding entries_from
made_all p o m i [] each = All-nil p
made_all p o m i (s ∷ ss) each = all_more p (entry_of o m i s) (entries_from o m (i + 1) ss) (each i s) (made_all p o m (i + 1) ss each)

step_small : (hash byte : ℕ) → gnu_step hash byte < 2 ^ 32
unfolding gnu_step
step_small hash byte = mod_below (hash * 33 + byte) (2 ^ 32) (omega arith)

hashed_small : (hash : ℕ) (name : List ℕ) → hash < 2 ^ 32 → fold gnu_step hash name < 2 ^ 32
hashed_small hash [] small = small
hashed_small hash (b ∷ name) small = hashed_small (gnu_step hash b) name (step_small hash b)

pub gnu_small : (name : List ℕ) → gnu name < 4294967296
unfolding gnu
gnu_small name = hashed_small 5381 name (omega arith)

pub made_small : (m j : ℕ) (s : Symbol) (b : Bool) → IfSome (cond b (Some (record { hash = gnu s.name; member = m; symbol = j })) None) (λ (e : Entry). e.hash < 4294967296)
made_small m j s true = gnu_small s.name
made_small m j s false = tt

-- ---- mixed hashes

-- a number of 32 bits from its mixed hash: the two factors give 1 modulo 2^32
unmixed : (a : ℕ) → a < 4294967296 → mixed a * 340573321 % 4294967296 ≡ a
unmixed a small = mul-mod_first (a * 2654435769) 340573321 4294967296 ∙ whole
  where
    whole : a * 2654435769 * 340573321 % 4294967296 ≡ a
    whole = omega (arith, small)

-- so mixing is one to one
pub mixed_once : (a b : ℕ) → a < 4294967296 → b < 4294967296 → mixed a ≡ mixed b → a ≡ b
mixed_once a b small_a small_b same = sym (unmixed a small_a) ∙ ap (λ (n : ℕ). n * 340573321 % 4294967296) same ∙ unmixed b small_b

-- ---- the entries of a hash

module _ (es : List Entry) (h i j : ℕ)
    (first : IsPartitionPoint (λ e. nat_lt (mixed e.hash) h ≡ true) (λ e. nat_lt (mixed e.hash) h ≡ false) es i)
    (last : IsPartitionPoint (λ e. nat_lt (mixed e.hash) (h + 1) ≡ true) (λ e. nat_lt (mixed e.hash) (h + 1) ≡ false) es j)
    (i_within : i ≤ length es) (j_within : j ≤ length es) where
  pub in_order : i ≤ j
  in_order = elim (cases_Bool (nat_lt j i)) [
    | inr le ↦ ltb-false j i le
    | inl lt ↦
        let less : j < i = ltb-true j i lt in
        let d : Entry = record { hash = 0; member = 0; symbol = 0 } in
        let before = first.0 j d (omega arith) less in
        let after = last.1 j d (omega arith) (omega arith) in
        absurd (omega (arith, ltb-true (mixed (get_or es j d).hash) h before, ltb-false (mixed (get_or es j d).hash) (h + 1) after))
  ]

-- ---- the entries of a hash, all of them

module _ {X : Type 0} (p : X → Bool) where
  filter_keeps : (xs : List X) → ((k : ℕ) (d : X) → k < length xs → p (get_or xs k d) ≡ true) → filter p xs ≡ xs
  filter_keeps [] all = refl
  filter_keeps (x ∷ xs) all =
      let here : p x ≡ true = all zero x (omega arith) in
      rw here (ap (λ (ys : List X). x ∷ ys) (filter_keeps xs (λ k d lt. all (suc k) d (omega (arith, lt)))))

  filter_drops : (xs : List X) → ((k : ℕ) (d : X) → k < length xs → p (get_or xs k d) ≡ false) → filter p xs ≡ []
  filter_drops [] none = refl
  filter_drops (x ∷ xs) none =
      let here : p x ≡ false = none zero x (omega arith) in
      rw here (filter_drops xs (λ k d lt. none (suc k) d (omega (arith, lt))))

module _ (es : List Entry) (h i j : ℕ)
    (first : IsPartitionPoint (λ e. nat_lt (mixed e.hash) h ≡ true) (λ e. nat_lt (mixed e.hash) h ≡ false) es i)
    (last : IsPartitionPoint (λ e. nat_lt (mixed e.hash) (h + 1) ≡ true) (λ e. nat_lt (mixed e.hash) (h + 1) ≡ false) es j)
    (i_within : i ≤ length es) (j_within : j ≤ length es) (ordered : i ≤ j)
    (hash : ℕ) (small : hash < 4294967296) (all_small : All (λ e. e.hash < 4294967296) es) (is : h ≡ mixed hash) where
  abbrev is_of : Entry → Bool
  is_of e = e.hash == hash

  abbrev mix : ℕ → ℕ
  mix n = mixed n

  below : (k : ℕ) (d : Entry) → k < length (take i es) → is_of (get_or (take i es) k d) ≡ false
  below k d lt =
      let less : k < i = omega (arith, lt, length-take i es) in
      let at : get_or (take i es) k d ≡ get_or es k d = get_or-take i es k d less in
      let low : mixed (get_or es k d).hash < h = ltb-true (mixed (get_or es k d).hash) h (first.0 k d (omega arith) less) in
      ap is_of at ∙ ne_eqb (get_or es k d).hash hash (λ same. absurd (omega (arith, low, is, ap mix same)))

  within : (k : ℕ) (d : Entry) → k < length (take (j - i) (drop i es)) → is_of (get_or (take (j - i) (drop i es)) k d) ≡ true
  within k d lt =
      let less : k < j - i = omega (arith, lt, length-take (j - i) (drop i es)) in
      let at : get_or (take (j - i) (drop i es)) k d ≡ get_or es (i + k) d = get_or-take (j - i) (drop i es) k d less ∙ get_or-drop i es k d in
      let high : h ≤ mixed (get_or es (i + k) d).hash = ltb-false (mixed (get_or es (i + k) d).hash) h (first.1 (i + k) d (omega arith) (omega (arith, less))) in
      let low : mixed (get_or es (i + k) d).hash < h + 1 = ltb-true (mixed (get_or es (i + k) d).hash) (h + 1) (last.0 (i + k) d (omega arith) (omega (arith, less))) in
      let same : mixed (get_or es (i + k) d).hash ≡ mixed hash = omega (arith, high, low, is) in
      let held = all_small (i + k) d (omega (arith, less)) in
      ap is_of at ∙ eq-eqb (get_or es (i + k) d).hash hash (mixed_once (get_or es (i + k) d).hash hash held small same)

  above : (k : ℕ) (d : Entry) → k < length (drop (j - i) (drop i es)) → is_of (get_or (drop (j - i) (drop i es)) k d) ≡ false
  above k d lt =
      let sum : i + (j - i + k) ≡ j + k = omega arith in
      let less : j + k < length es = omega (arith, lt, length-drop (j - i) (drop i es), length-drop i es) in
      let at : get_or (drop (j - i) (drop i es)) k d ≡ get_or es (j + k) d = get_or-drop (j - i) (drop i es) k d ∙ get_or-drop i es (j - i + k) d ∙ ap (λ (n : ℕ). get_or es n d) sum in
      let high : h + 1 ≤ mixed (get_or es (j + k) d).hash = ltb-false (mixed (get_or es (j + k) d).hash) (h + 1) (last.1 (j + k) d (omega arith) less) in
      ap is_of at ∙ ne_eqb (get_or es (j + k) d).hash hash (λ same. absurd (omega (arith, high, is, ap mix same)))

  pub under_exact : take (j - i) (drop i es) ≡ entries_of es hash
  under_exact =
      let front = take i es in
      let mid = take (j - i) (drop i es) in
      let rest = drop (j - i) (drop i es) in
      let split : filter is_of es ≡ filter is_of front ++ filter is_of (drop i es) = ap (filter is_of) (sym (take-append-drop i es)) ∙ filter-append is_of front (drop i es) in
      let after : filter is_of (drop i es) ≡ filter is_of mid ++ filter is_of rest = ap (filter is_of) (sym (take-append-drop (j - i) (drop i es))) ∙ filter-append is_of mid rest in
      sym (split
      ∙ ap (λ (xs : List Entry). xs ++ filter is_of (drop i es)) (filter_drops is_of front below)
      ∙ after
      ∙ ap (λ (xs : List Entry). xs ++ filter is_of rest) (filter_keeps is_of mid within)
      ∙ ap (λ (xs : List Entry). mid ++ xs) (filter_drops is_of rest above)
      ∙ append-nil mid)

-- ---- where the entries of a hash end

-- the entries before a place have lower mixed hashes where there are none
pub behind_none : (es : List Entry) (h place : ℕ) → place ≡ 0 → IsBehind es h place
behind_none es h place none = record { bound = omega (arith, none); lower = λ k d low high. absurd (omega (arith, none, high)) }

-- and where the last of them has a lower one
pub behind_read : (es : List Entry) (h place last own : ℕ) (e : Entry) → IsNonDecreasingBy (λ e. mixed e.hash) es → place ≤ length es → last + 1 ≡ place → own ≡ mixed (get_or es last e).hash → own < h → IsBehind es h place
behind_read es h place last own e rising bound is read less = record {
  bound = bound;
  lower = λ k d low high.
      let at = rising k last e (omega (arith, is, high)) (omega (arith, is, bound)) in
      let same = get_or_default es k d e (omega (arith, is, high, bound)) in
      rw same (lt-ltb (mixed (get_or es k e).hash) h (omega (arith, at, read, less)));
}

-- entries with lower mixed hashes than a number have lower ones than the next number
pub behind_next : (es : List Entry) (h i : ℕ) → i ≤ length es → AllWithin (λ e. nat_lt (mixed e.hash) h ≡ true) es 0 i → IsBehind es (h + 1) i
behind_next es h i bound lower = record {
  bound = bound;
  lower = λ k d low high.
      let less = ltb-true (mixed (get_or es k d).hash) h (lower k d low high) in
      lt-ltb (mixed (get_or es k d).hash) (h + 1) (omega (arith, less));
}

-- an entry more that has a lower mixed hash
pub behind_more : (es : List Entry) (h place own : ℕ) (e : Entry) → place < length es → own ≡ mixed (get_or es place e).hash → own < h → IsNonDecreasingBy (λ e. mixed e.hash) es → IsBehind es h place → IsBehind es h (place + 1)
behind_more es h place own e lt read less rising behind = record {
  bound = omega (arith, lt);
  lower = λ k d low high.
      let at = rising k place e (omega (arith, high)) lt in
      let same = get_or_default es k d e (omega (arith, high, lt)) in
      rw same (lt-ltb (mixed (get_or es k e).hash) h (omega (arith, at, read, less)));
}

-- and where the entry at a place has none
pub first_here : (es : List Entry) (h place own : ℕ) (e : Entry) → place < length es → own ≡ mixed (get_or es place e).hash → h ≤ own → IsNonDecreasingBy (λ e. mixed e.hash) es → IsBehind es h place → IsFirst es h place
first_here es h place own e lt read le rising behind = record {
  bound = behind.bound;
  point = (
    behind.lower,
    λ k d low high.
        let at = rising place k e low high in
        let same = get_or_default es k d e high in
        rw same (le-ltb (mixed (get_or es k e).hash) h (omega (arith, at, read, le))),
  );
}
