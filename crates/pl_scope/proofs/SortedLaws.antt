-- The place of a key among entries in the order of their keys.
use Rattle.std.proofs.Common.{◌≡◌, ℕ, ◌+◌, ◌<◌, ◌≤◌, List, length, get_or, arith}
use Rattle.std.specs.List.Sorted.{IsNonDecreasingBy}
use Rattle.std.proofs.lemmas.Bool.{le-ltb, lt-ltb, ltb-true}
use Rattle.std.proofs.lemmas.List.{get_or_default}
use Rattle.pl_scope.specs.Sorted.{IsBehind, IsFirst}
use Rattle.pl_scope.specs.declared.entries.Entry.{Entry}

pub behind_none : (es : List Entry) (key place : ℕ) → place ≡ 0 → IsBehind es key place
behind_none es key place none = record { bound = omega (arith, none); lower = λ k d low high. absurd (omega (arith, none, high)) }

-- where the entry before a place has a lower key, so have all before it
pub behind_last : (es : List Entry) (key place last : ℕ) (e : Entry) → IsNonDecreasingBy (λ e. e.key) es → place ≤ length es → last + 1 ≡ place → (get_or es last e).key < key → IsBehind es key place
behind_last es key place last e rising bound is lower = record {
  bound = bound;
  lower = λ k d low high.
      let at = rising k last e (omega (arith, is, high)) (omega (arith, is, bound)) in
      let read = get_or_default es k d e (omega (arith, is, high, bound)) in
      rw read (lt-ltb (get_or es k e).key key (omega (arith, at, lower)));
}

pub behind_more : (es : List Entry) (key place : ℕ) (e : Entry) → IsNonDecreasingBy (λ e. e.key) es → place < length es → (get_or es place e).key < key → IsBehind es key (place + 1)
behind_more es key place e rising lt lower = behind_last es key (place + 1) place e rising (omega (arith, lt)) (omega arith) lower

-- and where the entry at it has none
pub first_here : (es : List Entry) (key place : ℕ) (e : Entry) → IsNonDecreasingBy (λ e. e.key) es → place < length es → key ≤ (get_or es place e).key → IsBehind es key place → IsFirst es key place
first_here es key place e rising lt le behind = record {
  bound = behind.bound;
  point = (
    behind.lower,
    λ k d low high.
        let at = rising place k e low high in
        let read = get_or_default es k d e high in
        rw read (le-ltb (get_or es k e).key key (omega (arith, at, le))),
  );
}

-- the same of the key that was read
pub behind_read : (es : List Entry) (key place last own : ℕ) (e : Entry) → IsNonDecreasingBy (λ e. e.key) es → place ≤ length es → last + 1 ≡ place → own ≡ (get_or es last e).key → own < key → IsBehind es key place
behind_read es key place last own e rising bound is read lower = behind_last es key place last e rising bound is (omega (arith, read, lower))

pub first_read : (es : List Entry) (key place own : ℕ) (e : Entry) → IsNonDecreasingBy (λ e. e.key) es → place < length es → own ≡ (get_or es place e).key → key ≤ own → IsBehind es key place → IsFirst es key place
first_read es key place own e rising lt read le behind = first_here es key place e rising lt (omega (arith, read, le)) behind

-- where all entries before a place have lower keys than a number, so they have for one that is not lower
pub behind_up : (es : List Entry) (low high place : ℕ) → low ≤ high → IsFirst es low place → IsBehind es high place
behind_up es low high place le first = record {
  bound = first.bound;
  lower = λ k d from to.
      let less = ltb-true (get_or es k d).key low (first.point.0 k d from to) in
      lt-ltb (get_or es k d).key high (omega (arith, le, less));
}
