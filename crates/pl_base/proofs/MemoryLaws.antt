-- Memory in pieces, and fills over it.
use Rattle.std.proofs.Common.{◌≡◌, ℕ, ◌+◌, ◌<◌, ◌≤◌, Bool, true, false, cond, List, [], ◌∷◌, ◌++◌, length, get_or, Option, Some, None, refl, sym, ap, subst, ◌∙◌, arith, inl, inr}
use Rattle.std.specs.Prelude.{◌⊎◌, ◌||◌, All, AllPairs, fold}
use Rattle.std.specs.Option.{IfSome, unwrap_or, is_some}
use Rattle.std.specs.List.{list_any, filter_map, cons_option, range_with_len, Any, AllZip}
use Rattle.std.proofs.lemmas.Bool.{cases_Bool, false≢true, cases_order, or_parts}
use Rattle.std.proofs.lemmas.Bool.Decides.{nat_tests}
use Rattle.std.proofs.lemmas.List.{get_or-map, length-map, get_or_default}
use Rattle.std.proofs.lemmas.List.FromFn.{length-range_with_len, get_or-range_with_len}
use Rattle.std.proofs.lemmas.List.Folds.{list_any_at}
use Rattle.std.proofs.lemmas.List.Elements.{All-head, All-tail, All-nil, All-cons}
use Rattle.pl_base.specs.Memory.{Memory, is_within, over, read, AtMostOne, Piece, lies, byte_at, layered, Fill, covers, fill_byte, filled, shown}

-- ---- addresses of a range

-- an address within
pub within_true : (s n a : ℕ) → is_within s n a ≡ true → (s ≤ a) × (a < s + n)
within_true s n a h = grind (arith, nat_tests)

-- an address outside
pub within_false : (s n a : ℕ) → is_within s n a ≡ false → (a < s) ⊎ (s + n ≤ a)
within_false s n a h = grind (arith, nat_tests)

-- what makes an address one within
pub within_is : (s n a : ℕ) → s ≤ a → a < s + n → is_within s n a ≡ true
within_is s n a from to = grind (arith, nat_tests)

-- what makes an address one outside
pub within_not : (s n a : ℕ) → (a < s) ⊎ (s + n ≤ a) → is_within s n a ≡ false
within_not s n a (inl lt) = grind (arith, nat_tests)
within_not s n a (inr le) = grind (arith, nat_tests)

-- a longer range has the addresses of a shorter one
pub within_more : (s n m a : ℕ) → n ≤ m → is_within s n a ≡ true → is_within s m a ≡ true
within_more s n m a le h = grind (arith, nat_tests)

-- and a shorter one lacks those of a longer
pub within_less : (s n m a : ℕ) → n ≤ m → is_within s m a ≡ false → is_within s n a ≡ false
within_less s n m a le h = grind (arith, nat_tests)

-- an empty range has none
pub within_none : (s a : ℕ) → is_within s 0 a ≡ false
within_none s a = grind (arith, nat_tests)

-- ranges that lie apart share no address
pub within_apart : (s n t m a : ℕ) → (s + n ≤ t) ⊎ (t + m ≤ s) → is_within s n a ≡ true → is_within t m a ≡ false
within_apart s n t m a (inl le) hit = grind (arith, nat_tests)
within_apart s n t m a (inr le) hit = grind (arith, nat_tests)

-- rows whose ranges lie apart in pairs: at most one is over an address
pub one_from_apart : {X : Type 0} (start size : X → ℕ) (xs : List X) → AllPairs (λ x y. (start x + size x ≤ start y) ⊎ (start y + size y ≤ start x)) xs → AtMostOne (λ a x. is_within (start x) (size x) a) xs
one_from_apart start size xs apart i j a d lt within hit =
    within_apart (start (get_or xs i d)) (size (get_or xs i d)) (start (get_or xs j d)) (size (get_or xs j d)) a (apart i j d lt within) hit

-- of rows of which at most one is over an address, the one over it is the one at i
pub lone_same : {X : Type 0} (test : ℕ → X → Bool) (xs : List X) (i a : ℕ) (d : X) → AtMostOne test xs → i < length xs → test a (get_or xs i d) ≡ true → All (λ x. test a x ≡ true → x ≡ get_or xs i d) xs
lone_same test xs i a d lone lt hit = λ k e within here.
    elim (cases_order k i) [
      | inl same ↦ get_or_default xs k e d within ∙ ap (λ (n : ℕ). get_or xs n d) same
      | inr other ↦ elim other [
        | inl less ↦ absurd (false≢true (sym (lone k i a e less lt here) ∙ (ap (test a) (get_or_default xs i e d lt) ∙ hit)))
        | inr more ↦ absurd (false≢true (sym (lone i k a d more within hit) ∙ (ap (test a) (get_or_default xs k d e within) ∙ here)))
      ]
    ]

-- ---- bytes from an address on

-- as many as were asked for
pub read_length : (m : Memory) (start n : ℕ) → length (read m start n) ≡ n
unfolding read
read_length m start n = length-map (range_with_len 0 n) (λ (k : ℕ). unwrap_or (m (start + k)) 0) ∙ length-range_with_len 0 n

-- a byte that is read
pub read_byte : (m : Memory) (start n k : ℕ) → k < n → get_or (read m start n) k 0 ≡ unwrap_or (m (start + k)) 0
unfolding read
read_byte m start n k lt =
    let within : k < length (range_with_len 0 n) = omega (arith, lt, length-range_with_len 0 n) in
    get_or-map (λ (i : ℕ). unwrap_or (m (start + i)) 0) (range_with_len 0 n) k 0 0 within
    ∙ ap (λ (i : ℕ). unwrap_or (m (start + i)) 0) (get_or-range_with_len 0 n k 0 lt ∙ omega arith)

-- ---- what holds of each row that is made

-- what holds of each row holds of what is made of it
pub All-filter_map : {X Y : Type 0} (P : Y → Type 0) (h : X → Option Y) (xs : List X) → All (λ x. IfSome (h x) P) xs → All P (filter_map h xs)
All-filter_map P h [] all = All-nil P
All-filter_map {X = X} {Y = Y} P h (x ∷ xs) all =
    let rest : All P (filter_map h xs) = All-filter_map P h xs (All-tail (λ y. IfSome (h y) P) x xs all) in
    elim (h x) as (λ o. IfSome o P → All P (cons_option o (filter_map h xs))) [
      | None ↦ λ _. rest
      | Some y ↦ λ one. All-cons P y (filter_map h xs) one rest
    ] (All-head (λ y. IfSome (h y) P) x xs all)

-- whether there is one that passes
abbrev pub is_some_and : {Y : Type 0} → (Y → Bool) → Option Y → Bool
is_some_and p None = false
is_some_and p (Some y) = p y

-- some row that is made passes if what is made of some row does
pub any-filter_map : {X Y : Type 0} (p : Y → Bool) (h : X → Option Y) (xs : List X) → list_any p (filter_map h xs) ≡ list_any (λ x. is_some_and p (h x)) xs
any-filter_map p h [] = refl
any-filter_map {Y = Y} p h (x ∷ xs) =
    elim (h x) as (λ o. list_any p (cons_option o (filter_map h xs)) ≡ (is_some_and p o || list_any (λ y. is_some_and p (h y)) xs)) [
      | None ↦ any-filter_map p h xs
      | Some y ↦ ap (λ (b : Bool). p y || b) (any-filter_map p h xs)
    ]

-- ---- fills

-- a byte under fills: each fill over the address has it, and there is one, or it was there before
pub settled : (memory : Memory) (fs : List Fill) (a : ℕ) (v : Option ℕ) → All (λ f. covers a f ≡ true → Some (fill_byte a f) ≡ v) fs → (memory a ≡ v) ⊎ (list_any (covers a) fs ≡ true) → filled memory fs a ≡ v
unfolding filled
settled memory [] a v agree (inl there) = there
settled memory [] a v agree (inr some) = absurd (false≢true some)
settled memory (f ∷ fs) a v agree start =
    let one : covers a f ≡ true → Some (fill_byte a f) ≡ v = All-head (λ g. covers a g ≡ true → Some (fill_byte a g) ≡ v) f fs agree in
    settled (over f.start f.bytes memory) fs a v (All-tail (λ g. covers a g ≡ true → Some (fill_byte a g) ≡ v) f fs agree)
    (elim (cases_Bool (covers a f)) [
      | inl hit ↦ inl (rw hit (one hit))
      | inr miss ↦ elim start [ inl there ↦ inl (rw miss there) | inr some ↦ inr (rw miss at some) ]
    ])

-- an address that no fill is over keeps its byte
pub filled_away : (memory : Memory) (fs : List Fill) (a : ℕ) → list_any (covers a) fs ≡ false → filled memory fs a ≡ memory a
unfolding filled
filled_away memory [] a none = refl
filled_away memory (f ∷ fs) a none =
    let p = or_parts (covers a f) (list_any (covers a) fs) none in
    filled_away (over f.start f.bytes memory) fs a p.1 ∙ rw p.0 refl

-- the byte of the one fill over an address
pub filled_one : (memory : Memory) (fs : List Fill) (i a : ℕ) (d : Fill) → AtMostOne covers fs → i < length fs → covers a (get_or fs i d) ≡ true → filled memory fs a ≡ Some (fill_byte a (get_or fs i d))
filled_one memory fs i a d lone lt hit =
    let same : All (λ f. covers a f ≡ true → f ≡ get_or fs i d) fs = lone_same covers fs i a d lone lt hit in
    settled memory fs a (Some (fill_byte a (get_or fs i d))) (λ k e within here. ap (λ (f : Fill). Some (fill_byte a f)) (same k e within here)) (inr (list_any_at (covers a) fs i d lt hit))

-- one list of fills after another
pub filled-append : (m : Memory) (fs gs : List Fill) → filled m (fs ++ gs) ≡ filled (filled m fs) gs
unfolding filled
filled-append m [] gs = refl
filled-append m (f ∷ fs) gs = filled-append (over f.start f.bytes m) fs gs

-- a byte under fills, as a loop over them reads it
pub filled_at : (m : Memory) (fs : List Fill) (a : ℕ) → filled m fs a ≡ fold (λ (o : Option ℕ) (f : Fill). cond (covers a f) (Some (fill_byte a f)) o) (m a) fs
unfolding filled
filled_at m [] a = refl
filled_at m (f ∷ fs) a = filled_at (over f.start f.bytes m) fs a

-- fills change nothing where memories that they are laid over agree
pub filled_same : (m n : Memory) (fs : List Fill) (a : ℕ) → m a ≡ n a → filled m fs a ≡ filled n fs a
filled_same m n fs a same =
    filled_at m fs a ∙ ap (λ (o : Option ℕ). fold (λ (v : Option ℕ) (f : Fill). cond (covers a f) (Some (fill_byte a f)) v) o fs) same ∙ sym (filled_at n fs a)

-- ---- pieces

-- a byte of pieces: each piece over the address has it, and there is one
pub layered_is : (ps : List Piece) (a : ℕ) (v : Option ℕ) → All (λ p. lies a p ≡ true → Some (byte_at a p) ≡ v) ps → list_any (lies a) ps ≡ true → layered ps a ≡ v
unfolding layered
layered_is [] a v agree some = absurd (false≢true some)
layered_is (p ∷ ps) a v agree some =
    let one : lies a p ≡ true → Some (byte_at a p) ≡ v = All-head (λ q. lies a q ≡ true → Some (byte_at a q) ≡ v) p ps agree in
    elim (cases_Bool (lies a p)) [
      | inl hit ↦ rw hit (one hit)
      | inr miss ↦ rw miss (layered_is ps a v (All-tail (λ q. lies a q ≡ true → Some (byte_at a q) ≡ v) p ps agree) (rw miss at some))
    ]

-- one of the pieces is over an address and has a byte there
abbrev pub Holds : List Piece → ℕ → Option ℕ → Type 0
Holds pieces a v = Any (λ p. (lies a p ≡ true) × (Some (byte_at a p) ≡ v)) pieces

-- of pieces of which at most one is over an address, the one over it has its byte
pub layered_one : (ps : List Piece) (a : ℕ) (v : Option ℕ) → AtMostOne lies ps → Holds ps a v → layered ps a ≡ v
layered_one ps a v apart one =
    let k = one.0 in
    let p = one.1 in
    let hit : lies a (get_or ps k p) ≡ true = subst (λ (q : Piece). lies a q ≡ true) (sym one.3) one.4.0 in
    let same : All (λ q. lies a q ≡ true → q ≡ get_or ps k p) ps = lone_same lies ps k a p apart one.2 hit in
    layered_is ps a v (λ i d lt here. subst (λ (q : Piece). Some (byte_at a q) ≡ v) (sym (same i d lt here ∙ one.3)) one.4.1) (list_any_at (lies a) ps k p one.2 hit)

-- where no piece is, there is no byte
pub layered_none : (ps : List Piece) (a : ℕ) → list_any (lies a) ps ≡ false → layered ps a ≡ None
unfolding layered
layered_none [] a none = refl
layered_none (p ∷ ps) a none =
    let q = or_parts (lies a p) (list_any (lies a) ps) none in
    rw q.0 (layered_none ps a q.1)

-- pieces have a byte where one of them is
pub layered_some : (ps : List Piece) (a : ℕ) → is_some (layered ps a) ≡ list_any (lies a) ps
unfolding layered
layered_some [] a = refl
layered_some (p ∷ ps) a = elim (cases_Bool (lies a p)) [
  | inl hit ↦ rw hit refl
  | inr miss ↦ rw miss (layered_some ps a)
]

-- pieces of the same starts and sizes
pub record IsLike (original other : Piece) : Type 0 where
  pub start : other.start ≡ original.start
  pub size : other.size ≡ original.size

-- have bytes at the same addresses
pub same_domain : (ps qs : List Piece) (a : ℕ) → AllZip IsLike ps qs → is_some (layered qs a) ≡ is_some (layered ps a)
unfolding layered
same_domain [] [] a like = refl
same_domain [] (q ∷ qs) a like = absurd like
same_domain (p ∷ ps) [] a like = absurd like
same_domain (p ∷ ps) (q ∷ qs) a like =
    let rest = same_domain ps qs a like.1 in
    let same : lies a q ≡ lies a p = rw (like.0.start, like.0.size) refl in
    elim (cases_Bool (lies a p)) [
      | inl hit ↦ rw (same, hit) refl
      | inr miss ↦ rw (same, miss) rest
    ]

-- and the same bytes where each piece has the other's byte
pub same_bytes : (ps qs : List Piece) (a : ℕ) → AllZip (λ p q. IsLike p q × (lies a p ≡ true → byte_at a q ≡ byte_at a p)) ps qs → layered qs a ≡ layered ps a
unfolding layered
same_bytes [] [] a like = refl
same_bytes [] (q ∷ qs) a like = absurd like
same_bytes (p ∷ ps) [] a like = absurd like
same_bytes (p ∷ ps) (q ∷ qs) a like =
    let rest = same_bytes ps qs a like.1 in
    let same : lies a q ≡ lies a p = rw (like.0.0.start, like.0.0.size) refl in
    elim (cases_Bool (lies a p)) [
      | inl hit ↦ rw (same, hit) (ap (λ (n : ℕ). Some n) (like.0.1 hit))
      | inr miss ↦ rw (same, miss) rest
    ]

-- ---- images

-- images of memories that agree at the addresses of the base that are not masked
pub shown_same : (base : Memory) (masked : ℕ → Bool) (m n : Memory) (a : ℕ) → (is_some (base a) ≡ true → masked a ≡ false → m a ≡ n a) → shown base masked m a ≡ shown base masked n a
shown_same base masked m n a same = elim (cases_Bool (is_some (base a))) [
  | inr outside ↦ rw outside refl
  | inl inside ↦ elim (cases_Bool (masked a)) [
    | inl hidden ↦ rw (inside, hidden) refl
    | inr seen ↦ rw (inside, seen) (same inside seen)
  ]
]
