-- Keys tell whether two definers answer to one name and version.
use Rattle.std.proofs.Common.{◌≡◌, ℕ, ◌+◌, ◌<◌, ◌≤◌, Bool, true, false, ◌||◌, ◌&&◌, cond, List, [], ◌∷◌, ◌++◌, length, take, drop, get_or, append_assoc, take-append-drop, Option, Some, None, refl, sym, ap, ◌∙◌, inl, inr}
use Rattle.std.specs.Prelude.{is_some, if◌then◌else◌}
use Rattle.std.specs.BTreeMap.{BTreeMap, get_by}
use Rattle.std.specs.Cmp.Lexicographic.{slice_cmp, bytes_decides}
use Rattle.std.specs.Ordering.{nat_cmp}
use denote.Ref.{Bor}
use Rattle.std.specs.List.{cons_option, list_any}
use Rattle.std.specs.Str.{bytes_eq}
use Rattle.std.proofs.lemmas.Bool.{cases_Bool, false≢true}
use Rattle.std.proofs.lemmas.List.{take_more, drop_more, drop_all}
use Rattle.std.proofs.Math.Bool.{and-false, and_comm}
use Rattle.std.proofs.lemmas.List.Folds.{list_any-append}
use Rattle.std.specs.Map.{update}
use Rattle.pl_base.specs.Pairs.{any_pair}
use Rattle.pl_base.proofs.FindLaws.{any_same}
use Rattle.pl_base.proofs.TestLaws.{bytes_flip}
use Rattle.pl_base.proofs.PairLaws.{any_pair_same}
use Rattle.pl_sym.specs.declared.symbol.Symbol.{Symbol}
use Rattle.pl_sym.specs.declared.class.Class.TheVariants.{Other}
use Rattle.pl_sym.specs.Definers.{is_definer}
use Rattle.pl_ver.specs.declared.versions.Versions.{Versions}
use Rattle.pl_object.specs.SymbolClauses.{is_plain, version_name, is_same_name, is_same_version, is_twin, duplicate_definer}
use Rattle.pl_object.specs.Keys.{plain_key, joined, with_version_name, version_key, keys}

-- ---- a list row by row

shuffle : (a b c d : Bool) → ((a || (b || false)) || (c || d)) ≡ ((a || c) || (b || d))
shuffle true b c d = refl
shuffle false true true d = refl
shuffle false true false d = refl
shuffle false false true d = refl
shuffle false false false d = refl

pub any_pair_push : {X : Type 0} (p : X → X → Bool) (xs : List X) (x : X) → any_pair p (xs ++ x ∷ []) ≡ (any_pair p xs || list_any (λ y. p y x) xs)
any_pair_push p [] x = refl
any_pair_push p (y ∷ ys) x =
    rw (list_any-append (p y) ys (x ∷ []), any_pair_push p ys x) (shuffle (list_any (p y) ys) (p y x) (any_pair p ys) (list_any (λ z. p z x) ys))

any_pair_more : {X : Type 0} (p : X → X → Bool) (xs ys : List X) → any_pair p xs ≡ true → any_pair p (xs ++ ys) ≡ true
any_pair_more p [] ys e = absurd cc
any_pair_more p (x ∷ xs) ys e = rw (list_any-append (p x) xs ys) (by (list_any (p x) xs) (list_any (p x) ys) (any_pair p xs) (any_pair p (xs ++ ys)) e (any_pair_more p xs ys))
  where
    by : (a b c d : Bool) → (a || c) ≡ true → (c ≡ true → d ≡ true) → ((a || b) || d) ≡ true
    by true b c d e more = refl
    by false true c d e more = refl
    by false false c d e more = more e

-- ---- the keys that were seen

-- so many of the first keys, of which no two are the same
abbrev pub AreSeen : BTreeMap (Bor (List ℕ)) (Unit {0}) → List (List ℕ) → Type 0
AreSeen seen xs = ((q : List ℕ) → is_some (get_by (λ k. slice_cmp nat_cmp q k.now) seen) ≡ list_any (bytes_eq q) xs) × (any_pair bytes_eq xs ≡ false)

or_true : (b : Bool) → (b || true) ≡ true
or_true true = refl
or_true false = refl

or_false : (b : Bool) → b ≡ (b || (false || false))
or_false true = refl
or_false false = refl

pub repeat_found : (xs : List (List ℕ)) (i : ℕ) (x : List ℕ) → i < length xs → x ≡ get_or xs i x → list_any (bytes_eq x) (take i xs) ≡ true → any_pair bytes_eq xs ≡ true
repeat_found xs i x lt is hit =
    let more : take (i + 1) xs ≡ take i xs ++ x ∷ [] = take_more xs i x lt ∙ ap (λ (r : List ℕ). take i xs ++ r ∷ []) (sym is) in
    let turned : list_any (λ y. bytes_eq y x) (take i xs) ≡ true = any_same (λ y. bytes_eq y x) (bytes_eq x) (take i xs) (λ y. bytes_flip y x) ∙ hit in
    let first : any_pair bytes_eq (take (i + 1) xs) ≡ true = ap (any_pair bytes_eq) more ∙ any_pair_push bytes_eq (take i xs) x ∙ ap (λ (b : Bool). any_pair bytes_eq (take i xs) || b) turned ∙ or_true (any_pair bytes_eq (take i xs)) in
    ap (any_pair bytes_eq) (sym (take-append-drop (i + 1) xs)) ∙ any_pair_more bytes_eq (take (i + 1) xs) (drop (i + 1) xs) first

pick : (b c a : Bool) (o : Option (Unit {0})) → b ≡ c → is_some o ≡ a → is_some (cond b (Some tt) o) ≡ (a || (c || false))
pick true true a o e s = sym (or_true a)
pick true false a o e s = absurd cc
pick false true a o e s = absurd cc
pick false false a o e s = s ∙ or_false a

pub seen_more : (old new : BTreeMap (Bor (List ℕ)) (Unit {0})) (xs : List (List ℕ)) (i : ℕ) (x : List ℕ) → i < length xs → x ≡ get_or xs i x → AreSeen old (take i xs) → list_any (bytes_eq x) (take i xs) ≡ false
    → ((q : List ℕ) → get_by (λ k. slice_cmp nat_cmp q k.now) new ≡ update bytes_eq (λ ds. get_by (λ k. slice_cmp nat_cmp ds k.now) old) x (Some tt) q) → AreSeen new (take (i + 1) xs)
seen_more old new xs i x lt is seen miss updates =
    let more : take (i + 1) xs ≡ take i xs ++ x ∷ [] = take_more xs i x lt ∙ ap (λ (r : List ℕ). take i xs ++ r ∷ []) (sym is) in
    let turned : list_any (λ y. bytes_eq y x) (take i xs) ≡ false = any_same (λ y. bytes_eq y x) (bytes_eq x) (take i xs) (λ y. bytes_flip y x) ∙ miss in
    rw more (
      λ q. ap is_some (updates q) ∙ by q ∙ sym (list_any-append (bytes_eq q) (take i xs) (x ∷ [])),
      any_pair_push bytes_eq (take i xs) x ∙ rw (seen.1, turned) refl,
    )
  where
    by : (q : List ℕ) → is_some (update bytes_eq (λ ds. get_by (λ k. slice_cmp nat_cmp ds k.now) old) x (Some tt) q) ≡ (list_any (bytes_eq q) (take i xs) || (bytes_eq q x || false))
    by q = pick (bytes_eq x q) (bytes_eq q x) (list_any (bytes_eq q) (take i xs)) (get_by (λ k. slice_cmp nat_cmp q k.now) old) (bytes_flip x q) (seen.0 q)

-- ---- a version's name and a symbol's as one

pub joined_more : (version name front whole : List ℕ) (i : ℕ) → i < length version → front ++ joined (drop i version) name ≡ whole
    → (front ++ 1 ∷ []) ++ get_or version i 0 ∷ [] ++ joined (drop (i + 1) version) name ≡ whole
unfolding joined
joined_more version name front whole i lt so_far =
    let next : joined (drop i version) name ≡ 1 ∷ get_or version i 0 ∷ joined (drop (i + 1) version) name = ap (λ (v : List ℕ). joined v name) (drop_more version i 0 lt) in
    append_assoc (front ++ 1 ∷ []) (get_or version i 0 ∷ []) (joined (drop (i + 1) version) name) ∙ append_assoc front (1 ∷ []) (get_or version i 0 ∷ joined (drop (i + 1) version) name)
    ∙ ap (λ (k : List ℕ). front ++ k) (sym next) ∙ so_far

pub joined_done : (version name front whole : List ℕ) (i : ℕ) → length version ≤ i → front ++ joined (drop i version) name ≡ whole → (front ++ 0 ∷ []) ++ name ≡ whole
unfolding joined
joined_done version name front whole i le so_far =
    append_assoc front (0 ∷ []) name ∙ ap (λ (v : List ℕ). front ++ joined v name) (sym (drop_all i version le)) ∙ so_far

-- ---- pairs by keys

module _ {X : Type 0} (key : X → Option (List ℕ)) where
  none_same : (xs : List X) → list_any (λ y. is_same_name None (key y)) xs ≡ false
  none_same [] = refl
  none_same (x ∷ xs) = none_same xs

  one_by : (k : List ℕ) (o : Option (List ℕ)) (rest : Bool) (ks : List (List ℕ)) → rest ≡ list_any (bytes_eq k) ks → (is_same_name (Some k) o || rest) ≡ list_any (bytes_eq k) (cons_option o ks)
  one_by k None rest ks e = e
  one_by k (Some other) rest ks e = ap (λ (b : Bool). bytes_eq k other || b) e

  one_same : (k : List ℕ) (xs : List X) → list_any (λ y. is_same_name (Some k) (key y)) xs ≡ list_any (bytes_eq k) (keys key xs)
  one_same k [] = refl
  one_same k (x ∷ xs) = one_by k (key x) (list_any (λ y. is_same_name (Some k) (key y)) xs) (keys key xs) (one_same k xs)

  pairs_by : (o : Option (List ℕ)) (xs : List X) (rest : Bool) → rest ≡ any_pair bytes_eq (keys key xs) → (list_any (λ y. is_same_name o (key y)) xs || rest) ≡ any_pair bytes_eq (cons_option o (keys key xs))
  pairs_by None xs rest e = ap (λ (b : Bool). b || rest) (none_same xs) ∙ e
  pairs_by (Some k) xs rest e = rw (one_same k xs, e) refl

  pub pairs_keyed : (xs : List X) → any_pair (λ x y. is_same_name (key x) (key y)) xs ≡ any_pair bytes_eq (keys key xs)
  pairs_keyed [] = refl
  pairs_keyed (x ∷ xs) = pairs_by (key x) xs (any_pair (λ y z. is_same_name (key y) (key z)) xs) (pairs_keyed xs)

-- one test or another
or_parts_turn : (a b c d : Bool) → ((a || b) || (c || d)) ≡ ((a || c) || (b || d))
or_parts_turn true b c d = refl
or_parts_turn false true true d = refl
or_parts_turn false true false d = refl
or_parts_turn false false true d = refl
or_parts_turn false false false d = refl

any_either : {X : Type 0} (p q : X → Bool) (xs : List X) → list_any (λ x. p x || q x) xs ≡ (list_any p xs || list_any q xs)
any_either p q [] = refl
any_either p q (x ∷ xs) = ap (λ (b : Bool). (p x || q x) || b) (any_either p q xs) ∙ or_parts_turn (p x) (q x) (list_any p xs) (list_any q xs)

pub any_pair_either : {X : Type 0} (p q : X → X → Bool) (xs : List X) → any_pair (λ x y. p x y || q x y) xs ≡ (any_pair p xs || any_pair q xs)
any_pair_either p q [] = refl
any_pair_either p q (x ∷ xs) = rw (any_either (p x) (q x) xs, any_pair_either p q xs) (or_parts_turn (list_any (p x) xs) (list_any (q x) xs) (any_pair p xs) (any_pair q xs))

-- joined names are the same exactly where both names are
joined_first : (v w m n : List ℕ) → joined v m ≡ joined w n → (v ≡ w) × (m ≡ n)
unfolding joined
joined_first [] [] m n e = (refl, cc)
joined_first [] (y ∷ w) m n e = absurd cc
joined_first (x ∷ v) [] m n e = absurd cc
joined_first (x ∷ v) (y ∷ w) m n e =
    let rest : joined v m ≡ joined w n = cc in
    let same : x ≡ y = cc in
    let p = joined_first v w m n rest in
    (rw (same, p.0) refl, p.1)

pub joined_tells : (v w m n : List ℕ) → bytes_eq (joined v m) (joined w n) ≡ (bytes_eq v w && bytes_eq m n)
joined_tells v w m n = elim (cases_Bool (bytes_eq (joined v m) (joined w n))) [
  | inl hit ↦
      let p = joined_first v w m n ((bytes_decides (joined v m) (joined w n)).0 hit) in
      rw hit (sym (rw ((bytes_decides v w).1 p.0, (bytes_decides m n).1 p.1) refl))
  | inr miss ↦ rw miss (sym (none (bytes_eq v w) (bytes_eq m n) refl refl miss))
]
  where
    none : (a b : Bool) → bytes_eq v w ≡ a → bytes_eq m n ≡ b → bytes_eq (joined v m) (joined w n) ≡ false → (a && b) ≡ false
    none true true va mb miss = absurd (false≢true (sym miss ∙ (bytes_decides (joined v m) (joined w n)).1 (rw ((bytes_decides v w).0 va, (bytes_decides m n).0 mb) refl)))
    none true false va mb miss = refl
    none false b va mb miss = refl

-- ---- definers by their keys

later_by : (n m : List ℕ) (v w : Option (List ℕ)) → (bytes_eq n m && is_same_name v w) ≡ is_same_name (with_version_name n v) (with_version_name m w)
later_by n m None w = and-false (bytes_eq n m)
later_by n m (Some v) None = and-false (bytes_eq n m)
later_by n m (Some v) (Some w) = and_comm (bytes_eq n m) (bytes_eq v w) ∙ sym (joined_tells v w n m)

none_same_left : (o : Option (List ℕ)) → is_same_name o None ≡ false
none_same_left None = refl
none_same_left (Some x) = refl

absorbed : (b c : Bool) → (b && true) ≡ (b || (b && c))
absorbed true c = refl
absorbed false c = refl

twin_by : (ds dt ps pt : Bool) (n m : List ℕ) (v w : Option (List ℕ))
    → (ds && dt && bytes_eq n m && (ps && pt || is_same_name v w))
    ≡ (is_same_name (if ds && ps then Some n else None) (if dt && pt then Some m else None) || is_same_name (if ds then with_version_name n v else None) (if dt then with_version_name m w else None))
twin_by false dt ps pt n m v w = refl
twin_by true false true pt n m v w = sym (none_same_left (with_version_name n v))
twin_by true false false pt n m v w = sym (none_same_left (with_version_name n v))
twin_by true true true true n m v w = absorbed (bytes_eq n m) (is_same_name v w) ∙ ap (λ (b : Bool). bytes_eq n m || b) (later_by n m v w)
twin_by true true true false n m v w = later_by n m v w
twin_by true true false pt n m v w = later_by n m v w

twins_by_keys : (versions : Option Versions) (program : Bool) (s t : Symbol)
    → is_twin versions program s t ≡ (is_same_name (plain_key program s) (plain_key program t) || is_same_name (version_key versions program s) (version_key versions program t))
unfolding is_twin is_same_version plain_key version_key
twins_by_keys versions program s t =
    twin_by (is_definer s Other program) (is_definer t Other program) (is_plain s) (is_plain t) s.name t.name (version_name versions s.version) (version_name versions t.version)

-- definers of one name and version have one key
pub keys_tell : (versions : Option Versions) (program : Bool) (symbols : List Symbol)
    → duplicate_definer versions program symbols ≡ (any_pair bytes_eq (keys (plain_key program) symbols) || any_pair bytes_eq (keys (version_key versions program) symbols))
unfolding duplicate_definer
keys_tell versions program symbols =
    let p : Symbol → Symbol → Bool = λ s t. is_same_name (plain_key program s) (plain_key program t) in
    let q : Symbol → Symbol → Bool = λ s t. is_same_name (version_key versions program s) (version_key versions program t) in
    any_pair_same (is_twin versions program) (λ s t. p s t || q s t) symbols (twins_by_keys versions program)
    ∙ any_pair_either p q symbols
    ∙ ap (λ (b : Bool). b || any_pair q symbols) (pairs_keyed (plain_key program) symbols)
    ∙ ap (λ (b : Bool). any_pair bytes_eq (keys (plain_key program) symbols) || b) (pairs_keyed (version_key versions program) symbols)

-- without versions none has a key with a version's name
no_version_key : (program : Bool) (s : Symbol) → version_key None program s ≡ None
unfolding version_key
no_version_key program s = either_none (is_definer s Other program)
  where
    either_none : (b : Bool) → (if b then with_version_name s.name None else None) ≡ None
    either_none true = refl
    either_none false = refl

pub no_version_keys : (program : Bool) (symbols : List Symbol) → keys (version_key None program) symbols ≡ []
no_version_keys program [] = refl
no_version_keys program (s ∷ ss) = rw (no_version_key program s) (no_version_keys program ss)

-- one row more
keys_append : {X : Type 0} (key : X → Option (List ℕ)) (xs ys : List X) → keys key (xs ++ ys) ≡ keys key xs ++ keys key ys
keys_append key [] ys = refl
keys_append key (x ∷ xs) ys = by (key x) (keys_append key xs ys)
  where
    by : (o : Option (List ℕ)) → keys key (xs ++ ys) ≡ keys key xs ++ keys key ys → cons_option o (keys key (xs ++ ys)) ≡ cons_option o (keys key xs) ++ keys key ys
    by None e = e
    by (Some k) e = ap (λ (ks : List (List ℕ)). k ∷ ks) e

pub key_next : {X : Type 0} (key : X → Option (List ℕ)) (xs : List X) (i : ℕ) (x : X) (ks : List (List ℕ)) → i < length xs → x ≡ get_or xs i x → ks ≡ keys key (take i xs) → ks ++ cons_option (key x) [] ≡ keys key (take (i + 1) xs)
key_next key xs i x ks lt is so_far =
    rw so_far (sym (keys_append key (take i xs) (x ∷ [])) ∙ ap (keys key) (sym (take_more xs i x lt ∙ ap (λ r. take i xs ++ r ∷ []) (sym is))))
