-- The least symbol that passes a test, among those to which a hash leads, is the first that passes it.
use Rattle.std.proofs.Common.{◌≡◌, ◌≢◌, ℕ, ◌<◌, ◌≤◌, Bool, true, false, not, ◌&&◌, cond, List, [], ◌∷◌, Option, Some, None, refl, sym, ap, ◌∙◌, subst, arith, inl, inr}
use Rattle.std.specs.Prelude.{slice_get, position, min, ◌==◌, nat_lt}
use Rattle.std.specs.List.{list_any}
use Rattle.std.proofs.lemmas.Bool.{cases_Bool, false≢true, ltb-true, ltb-false, eqb-true, eq-eqb, ne_eqb, or_cases, or_left, or_right, and_parts}
use Rattle.std.proofs.lemmas.Slice.Eq.{bytes_eq-Decides}
use Rattle.pl_sym.specs.declared.symbol.Symbol.{Symbol}
use Rattle.pl_sym.specs.declared.class.Class.{Class}
use Rattle.pl_sym.specs.declared.class.Class.TheVariants.{Jump}
use Rattle.pl_hash.specs.ChainSymbols.{name_hash, is_chain_symbol}
use Rattle.pl_object.specs.declared.object.Object.{Object}
use Rattle.pl_scope.specs.Matching.{defines, counts, only}
use Rattle.pl_scope.specs.Probing.{taken, passes, passes_at, IsProbe, led_to, picks, lesser, least_from, another}
use Rattle.pl_scope.specs.declared.probe.Pick.{Pick}
use Rattle.pl_scope.specs.declared.probe.Pick.TheVariants.{Version, Plain, Index, Each, Shown}
use Rattle.pl_scope.specs.declared.probe.Probe.{Probe}
use Rattle.pl_scope.proofs.PlaceLaws.{located, at_found, only_one, only_many}

abbrev pub has : ℕ → List ℕ → Bool
has index xs = list_any (λ x. x == index) xs

-- nothing before an index passes
abbrev NoneBefore : (ℕ → Bool) → ℕ → Type 0
NoneBefore q i = (k : ℕ) → k < i → q k ≡ false

not_below : (q : ℕ → Bool) (i x : ℕ) → NoneBefore q i → q x ≡ true → i ≤ x
not_below q i x before e =
    elim (cases_Bool (nat_lt x i)) [
      | inl lt ↦ absurd (false≢true (sym (before x (ltb-true x i lt)) ∙ e))
      | inr ge ↦ ltb-false x i ge
    ]

-- ---- the least

kept_by : (q : ℕ → Bool) (i x : ℕ) (b : Bool) → q x ≡ b → NoneBefore q i → cond b (Some (min i x)) (Some i) ≡ Some i
kept_by q i x true e before = let same : min i x ≡ i = omega (arith, not_below q i x before e) in ap (λ (n : ℕ). Some n) same
kept_by q i x false e before = refl

keeps : (q : ℕ → Bool) (i : ℕ) (xs : List ℕ) → NoneBefore q i → least_from q (Some i) xs ≡ Some i
keeps q i [] before = refl
keeps q i (x ∷ xs) before = ap (λ (o : Option ℕ). least_from q o xs) (kept_by q i x (q x) refl before) ∙ keeps q i xs before

abbrev IsAbove : ℕ → Option ℕ → Type 0
IsAbove i None = Unit {0}
IsAbove i (Some a) = i ≤ a

lesser_here : (i : ℕ) (o : Option ℕ) → IsAbove i o → lesser o i ≡ i
lesser_here i None above = refl
lesser_here i (Some a) above = omega (arith, above)

lesser_above : (i x : ℕ) (o : Option ℕ) → IsAbove i o → i ≤ x → i ≤ lesser o x
lesser_above i x None above le = le
lesser_above i x (Some a) above le = omega (arith, above, le)

still_above : (q : ℕ → Bool) (i x : ℕ) (o : Option ℕ) (b : Bool) → q x ≡ b → NoneBefore q i → IsAbove i o → IsAbove i (cond b (Some (lesser o x)) o)
still_above q i x o true e before above = lesser_above i x o above (not_below q i x before e)
still_above q i x o false e before above = above

least_found : (q : ℕ → Bool) (i : ℕ) (o : Option ℕ) (xs : List ℕ) → NoneBefore q i → q i ≡ true → IsAbove i o → has i xs ≡ true → least_from q o xs ≡ Some i
least_found q i o [] before holds above there = absurd (false≢true there)
least_found q i o (x ∷ xs) before holds above there =
    elim (cases_Bool (x == i)) [
      | inl same ↦
          let is : x ≡ i = eqb-true x i same in
          let here : cond (q x) (Some (lesser o x)) o ≡ Some i = rw (is, holds) (ap (λ (n : ℕ). Some n) (lesser_here i o above)) in
          ap (λ (p : Option ℕ). least_from q p xs) here ∙ keeps q i xs before
      | inr other ↦
          let rest : has i xs ≡ true = rw other at there in
          least_found q i (cond (q x) (Some (lesser o x)) o) xs before holds (still_above q i x o (q x) refl before above) rest
    ]

least_none : (q : ℕ → Bool) (xs : List ℕ) → ((i : ℕ) → q i ≡ false) → least_from q None xs ≡ None
least_none q [] none = refl
least_none q (x ∷ xs) none = rw (none x) (least_none q xs none)

-- each symbol that passes is listed
abbrev pub IsComplete : (Symbol → Bool) → List Symbol → List ℕ → Type 0
IsComplete p symbols xs = (i : ℕ) → passes_at p symbols i ≡ true → has i xs ≡ true

pub least_is : (p : Symbol → Bool) (symbols : List Symbol) (xs : List ℕ) → IsComplete p symbols xs → least_from (passes_at p symbols) None xs ≡ position p symbols
least_is p symbols xs complete =
    elim (located p symbols) [
      | inl nowhere ↦ least_none (passes_at p symbols) xs nowhere.all ∙ sym nowhere.none
      | inr at ↦ least_found (passes_at p symbols) at.0 None xs at.1.before at.1.passes tt (complete at.0 at.1.passes) ∙ sym at.1.found
    ]

-- ---- another one

pub any_found : (q : ℕ → Bool) (xs : List ℕ) → list_any q xs ≡ true → (i : ℕ) × (q i ≡ true)
any_found q [] e = absurd (false≢true e)
any_found q (x ∷ xs) e =
    elim (or_cases (q x) (list_any q xs) e) [
      | inl here ↦ (x, here)
      | inr later ↦ any_found q xs later
    ]

any_listed : (q : ℕ → Bool) (i : ℕ) (xs : List ℕ) → has i xs ≡ true → q i ≡ true → list_any q xs ≡ true
any_listed q i [] there holds = absurd (false≢true there)
any_listed q i (x ∷ xs) there holds =
    elim (or_cases (x == i) (has i xs) there) [
      | inl same ↦ let is : x ≡ i = eqb-true x i same in or_left (q x) (list_any q xs) (ap q is ∙ holds)
      | inr later ↦ or_right (q x) (list_any q xs) (any_listed q i xs later holds)
    ]

pub differs : (x i : ℕ) → not (x == i) ≡ true → i ≢ x
differs x i h e = absurd (false≢true (sym (ap not (eq-eqb x i (sym e))) ∙ h))

pub no_other : (p : Symbol → Bool) (symbols : List Symbol) (xs : List ℕ) (i k : ℕ) → IsComplete p symbols xs → another (passes_at p symbols) i xs ≡ false → k ≢ i → passes_at p symbols k ≡ false
no_other p symbols xs i k complete none ne =
    elim (cases_Bool (passes_at p symbols k)) [
      | inl holds ↦
          let apart : (k == i) ≡ false = ne_eqb k i ne in
          let test : (not (k == i) && passes_at p symbols k) ≡ true = rw (apart, holds) refl in
          absurd (false≢true (sym none ∙ any_listed (λ x. not (x == i) && passes_at p symbols x) k xs (complete k holds) test))
      | inr fails ↦ fails
    ]

pub only_is : (p : Symbol → Bool) (symbols : List Symbol) (xs : List ℕ) (i : ℕ) (b : Bool) → IsComplete p symbols xs → Some i ≡ position p symbols → b ≡ another (passes_at p symbols) i xs
    → cond b None (Some i) ≡ only p symbols
only_is p symbols xs i true complete is many =
    let at = at_found p symbols i (sym is) in
    let found = any_found (λ x. not (x == i) && passes_at p symbols x) xs (sym many) in
    let parts = and_parts (not (found.0 == i)) (passes_at p symbols found.0) found.1 in
    sym (only_many p symbols i found.0 (differs found.0 i parts.0) at.passes parts.1)
only_is p symbols xs i false complete is one =
    let at = at_found p symbols i (sym is) in
    sym (only_one p symbols i at (λ k ne. no_other p symbols xs i k complete (sym one) ne))

-- ---- the steps of a probe

-- what a step takes defines the name
pub defines_of : (o : Object) (name : List ℕ) (class : Class) (pick : Pick) (s : Symbol) → taken o name class pick s ≡ true → defines o name class s ≡ true
unfolding counts
defines_of o name class (Version version) s e = (and_parts _ _ e).0
defines_of o name class Plain s e = (and_parts _ _ e).0
defines_of o name class (Index index) s e = (and_parts _ _ e).0
defines_of o name class Each s e = (and_parts _ _ e).0
defines_of o name class Shown s e = (and_parts _ _ e).0

pub symbol_at : (p : Symbol → Bool) (x : Option Symbol) → passes p x ≡ true → (s : Symbol) × (x ≡ Some s) × (p s ≡ true)
symbol_at p None e = absurd (false≢true e)
symbol_at p (Some s) e = (s, refl, e)

pub listed : (p : Probe) (pick : Pick) → IsProbe p → IsComplete (taken p.object.now p.name.now Jump pick) p.object.now.symbols (led_to p)
unfolding defines
listed p pick is i holds =
    let o = p.object.now in
    let at = symbol_at (taken o p.name.now Jump pick) (slice_get o.symbols i) holds in
    let parts = and_parts _ _ (defines_of o p.name.now Jump pick at.0 at.2) in
    let named : at.0.name ≡ p.name.now = (bytes_eq-Decides at.0.name p.name.now).0 parts.1 in
    let hash : name_hash p.table.now at.0.name ≡ p.hash = ap (name_hash p.table.now) named ∙ sym is.hash in
    subst (λ (h : ℕ). is_chain_symbol p.table.now h i ≡ true) hash (is.table.complete i at.0 at.1 parts.0)

pub first_is : (p : Probe) (pick : Pick) → IsProbe p → least_from (picks p pick) None (led_to p) ≡ position (taken p.object.now p.name.now Jump pick) p.object.now.symbols
first_is p pick is = least_is (taken p.object.now p.name.now Jump pick) p.object.now.symbols (led_to p) (listed p pick is)
