-- The numbers of names.
use Rattle.std.proofs.Common.{◌≡◌, ℕ, ◌+◌, ◌<◌, ◌≤◌, Bool, true, false, List, [], ◌∷◌, ◌++◌, length, take, get_or, Option, Some, None, refl, sym, ap, subst, ◌∙◌, arith, inl, inr}
use Rattle.std.specs.Prelude.{slice_get, is_some, IsSome, nat_lt, cond, ◌==◌}
use Rattle.std.specs.BTreeMap.{BTreeMap}
use Rattle.std.specs.Map.{update}
use Rattle.std.specs.Option.{option_or}
use Rattle.std.specs.Str.{bytes_eq}
use Rattle.std.proofs.lemmas.Bool.{cases_Bool, false≢true, ltb-true, ltb-false}
use Rattle.std.proofs.lemmas.List.{take_all, take_more}
use Rattle.std.proofs.lemmas.Option.{slice_get_within, get_or_from_slice_get}
use Rattle.std.proofs.lemmas.Slice.Eq.{bytes_eq-Decides}
use denote.Ref.{Bor}
use Rattle.pl_elf.specs.Kinds.{is_program}
use Rattle.pl_object.specs.declared.object.Object.{Object}
use Rattle.pl_sym.specs.Definers.{is_definer}
use Rattle.pl_sym.specs.declared.class.Class.TheVariants.{Other}
use Rattle.pl_sym.specs.declared.symbol.Symbol.{Symbol}
use Rattle.pl_ver.specs.declared.versions.VersionName.{VersionName}
use Rattle.pl_scope.specs.Numbers.{number_in, AreDefinersNumbered, AreKept, AreNumbersOf, AreVersionsNumbered, IsNumberAdded}
use Rattle.pl_scope.specs.VersionIndex.{first_named, names_in}
use Rattle.pl_scope.specs.declared.numbers.Numbers.TheVariants.{Hashes, Named}
use Rattle.pl_scope.proofs.VersionIndexLaws.{named_more}

abbrev Names : Type 0
Names = BTreeMap (Bor (List ℕ)) ℕ

abbrev HasNumber : Names → List ℕ → Type 0
HasNumber numbers name = IsSome (number_in numbers name)

-- ---- one name

some_is : (o : Option ℕ) → is_some o ≡ true → IsSome o
some_is (Some k) e = refl
some_is None e = absurd (false≢true e)

never : (o : Option ℕ) → is_some o ≡ false → IsSome o → ⊥
never (Some k) e some = absurd (false≢true (sym e))
never None e some = false≢true some

pub number_there : (name : List ℕ) (old : Names) → is_some (number_in old name) ≡ true → IsNumberAdded name old old
number_there name old some = record { kept = λ other there. refl; named = some_is (number_in old name) some }

pub number_new : (name : List ℕ) (next : ℕ) (old new : Names) → is_some (number_in old name) ≡ false → ((q : List ℕ) → number_in new q ≡ update bytes_eq (number_in old) name (Some next) q) → IsNumberAdded name old new
number_new name next old new none updates = record {
  kept = λ other there. updates other ∙ by other (bytes_eq name other) refl there;
  named = subst (λ (o : Option ℕ). IsSome o) (sym (updates name ∙ ap (λ (b : Bool). cond b (Some next) (number_in old name)) ((bytes_eq-Decides name name).1 refl))) refl;
}
  where
    by : (other : List ℕ) (b : Bool) → bytes_eq name other ≡ b → IsSome (number_in old other) → cond b (Some next) (number_in old other) ≡ number_in old other
    by other true e there = absurd (never (number_in old other) (subst (λ (n : List ℕ). is_some (number_in old n) ≡ false) ((bytes_eq-Decides name other).0 e) none) there)
    by other false e there = refl

-- a name that has a number has one after others got theirs
still : (old new : Names) (name : List ℕ) → AreKept old new → HasNumber old name → HasNumber new name
still old new name kept some = subst (λ (o : Option ℕ). IsSome o) (sym (kept name some)) some

both_kept : (old front new : Names) → AreKept old front → AreKept front new → AreKept old new
both_kept old front new first second = λ name some. second name (still old front name first some) ∙ first name some

-- ---- the names of an object's definers

pub record AreDefinersTo (o : Object) (n : ℕ) (old new : Names) : Type 0 where
  pub kept : AreKept old new
  pub named : (i : ℕ) (s : Symbol) → i < n → slice_get o.symbols i ≡ Some s → is_definer s Other (is_program o.kind) ≡ true → HasNumber new s.name

pub definers_none : (o : Object) (old : Names) → AreDefinersTo o 0 old old
definers_none o old = record { kept = λ name there. refl; named = λ i s lt at definer. absurd (omega (arith, lt)) }

-- the symbol at a place is the one that is read there
read_at : (o : Object) (n i : ℕ) (s t : Symbol) → n ≡ i → s ≡ get_or o.symbols n s → slice_get o.symbols i ≡ Some t → s ≡ t
read_at o n i s t same is at = is ∙ ap (λ (k : ℕ). get_or o.symbols k s) same ∙ get_or_from_slice_get o.symbols i t s at

-- a number more
pub definers_more : (o : Object) (n : ℕ) (s : Symbol) (old front new : Names) → s ≡ get_or o.symbols n s → IsNumberAdded s.name front new → AreDefinersTo o n old front → AreDefinersTo o (n + 1) old new
definers_more o n s old front new is added so_far = record {
  kept = both_kept old front new so_far.kept added.kept;
  named = λ i t below at definer. elim (cases_Bool (nat_lt i n)) [
    | inl less ↦ still front new t.name added.kept (so_far.named i t (ltb-true i n less) at definer)
    | inr ge ↦
        let same : n ≡ i = omega (arith, below, ltb-false i n ge) in
        subst (λ (x : Symbol). HasNumber new x.name) (read_at o n i s t same is at) added.named
  ];
}

-- a symbol that is no definer
pub definers_skip : (o : Object) (n : ℕ) (s : Symbol) (old front : Names) → s ≡ get_or o.symbols n s → is_definer s Other (is_program o.kind) ≡ false → AreDefinersTo o n old front → AreDefinersTo o (n + 1) old front
definers_skip o n s old front is other so_far = record {
  kept = so_far.kept;
  named = λ i t below at definer. elim (cases_Bool (nat_lt i n)) [
    | inl less ↦ so_far.named i t (ltb-true i n less) at definer
    | inr ge ↦
        let same : n ≡ i = omega (arith, below, ltb-false i n ge) in
        absurd (false≢true (sym (subst (λ (x : Symbol). is_definer x Other (is_program o.kind) ≡ false) (read_at o n i s t same is at) other) ∙ definer))
  ];
}

pub definers_done : (o : Object) (n : ℕ) (old new : Names) → length o.symbols ≤ n → AreDefinersTo o n old new → AreDefinersNumbered o old new
definers_done o n old new le is = record { kept = is.kept; named = λ i s at definer. is.named i s (omega (arith, le, slice_get_within o.symbols i s at)) at definer }

-- ---- the names of an object's versions

no_text : (version : List ℕ) → ◌≡◌ {A = Option (List ℕ)} None (Some version) → ⊥
no_text version at = absurd (cc)

same_text : (name version : List ℕ) → ◌≡◌ {A = Option (List ℕ)} (Some name) (Some version) → name ≡ version
same_text name version at = cc

pub record AreVersionsTo (rows : List VersionName) (old new : Names) : Type 0 where
  pub kept : AreKept old new
  pub named : (number : ℕ) (version : List ℕ) → first_named rows number ≡ Some version → HasNumber new version

pub versions_none : (rows : List VersionName) (old : Names) → AreVersionsTo (take 0 rows) old old
versions_none rows old = record { kept = λ name there. refl; named = λ number version at. absurd (no_text version at) }

-- the first name of an index is one before, or the last one
one_of : (o : Option (List ℕ)) (b : Bool) (name version : List ℕ) (new : Names) → ((v : List ℕ) → o ≡ Some v → HasNumber new v) → HasNumber new name → option_or o (cond b (Some name) None) ≡ Some version → HasNumber new version
one_of (Some own) b name version new before last at = before version at
one_of None true name version new before last at = subst (HasNumber new) (same_text name version at) last
one_of None false name version new before last at = absurd (no_text version at)

pub versions_more : (rows : List VersionName) (i : ℕ) (row : VersionName) (old front new : Names) → i < length rows → row ≡ get_or rows i row → IsNumberAdded row.name front new → AreVersionsTo (take i rows) old front → AreVersionsTo (take (i + 1) rows) old new
versions_more rows i row old front new lt is added so_far =
    let next : take i rows ++ row ∷ [] ≡ take (i + 1) rows = ap (λ (r : VersionName). take i rows ++ r ∷ []) is ∙ sym (take_more rows i row lt) in
    subst (λ (rs : List VersionName). AreVersionsTo rs old new) next (record {
      kept = both_kept old front new so_far.kept added.kept;
      named = λ number version at.
          one_of (first_named (take i rows) number) (row.index == number) row.name version new
          (λ v before. still front new v added.kept (so_far.named number v before))
          added.named
          (sym (named_more (take i rows) row number) ∙ at);
    })

pub versions_done : (o : Object) (rows : List VersionName) (i : ℕ) (old new : Names) → rows ≡ names_in o.versions → length rows ≤ i → AreVersionsTo (take i rows) old new → AreVersionsNumbered o old new
versions_done o rows i old new is over so_far =
    let whole = subst (λ (rs : List VersionName). AreVersionsTo rs old new) (take_all i rows over ∙ is) so_far in
    record { kept = whole.kept; named = whole.named }

-- ---- the names of the first objects

pub record AreNumbersTo (os : List Object) (n : ℕ) (numbers : Names) : Type 0 where
  pub definers : (m i : ℕ) (o : Object) (s : Symbol) → m < n → slice_get os m ≡ Some o → slice_get o.symbols i ≡ Some s → is_definer s Other (is_program o.kind) ≡ true → HasNumber numbers s.name
  pub versions : (m number : ℕ) (o : Object) (version : List ℕ) → m < n → slice_get os m ≡ Some o → first_named (names_in o.versions) number ≡ Some version → HasNumber numbers version

pub all_none : (os : List Object) (numbers : Names) → AreNumbersTo os 0 numbers
all_none os numbers = record {
  definers = λ m i o s lt at own definer. absurd (omega (arith, lt));
  versions = λ m number o version lt at named. absurd (omega (arith, lt));
}

one_object : (os : List Object) (m n : ℕ) (o p : Object) → n ≡ m → slice_get os n ≡ Some o → slice_get os m ≡ Some p → o ≡ p
one_object os m n o p same at here = let there : slice_get os n ≡ Some p = ap (slice_get os) same ∙ here in cc

pub all_more : (os : List Object) (n : ℕ) (o : Object) (old front new : Names) → slice_get os n ≡ Some o → AreDefinersNumbered o old front → AreVersionsNumbered o front new → AreNumbersTo os n old → AreNumbersTo os (n + 1) new
all_more os n o old front new at definers versions so_far =
    let kept = both_kept old front new definers.kept versions.kept in
    record {
      definers = λ m i p s below here own definer. elim (cases_Bool (nat_lt m n)) [
        | inl less ↦ still old new s.name kept (so_far.definers m i p s (ltb-true m n less) here own definer)
        | inr ge ↦
            let same : n ≡ m = omega (arith, below, ltb-false m n ge) in
            let object : p ≡ o = sym (one_object os m n o p same at here) in
            still front new s.name versions.kept (definers.named i s (subst (λ (x : Object). slice_get x.symbols i ≡ Some s) object own) (subst (λ (x : Object). is_definer s Other (is_program x.kind) ≡ true) object definer))
      ];
      versions = λ m number p version below here named. elim (cases_Bool (nat_lt m n)) [
        | inl less ↦ still old new version kept (so_far.versions m number p version (ltb-true m n less) here named)
        | inr ge ↦
            let same : n ≡ m = omega (arith, below, ltb-false m n ge) in
            let object : p ≡ o = sym (one_object os m n o p same at here) in
            versions.named number version (subst (λ (x : Object). first_named (names_in x.versions) number ≡ Some version) object named)
      ];
    }

pub all_done : (os : List Object) (n : ℕ) (numbers : Names) → length os ≤ n → AreNumbersTo os n numbers → AreNumbersOf os (Named numbers)
all_done os n numbers le is = record {
  definers = λ m i o s at own definer. is.definers m i o s (omega (arith, le, slice_get_within os m o at)) at own definer;
  versions = λ m number o version at named. is.versions m number o version (omega (arith, le, slice_get_within os m o at)) at named;
}

-- a hash is a key of every name
pub all_hashed : (os : List Object) → AreNumbersOf os Hashes
all_hashed os = record { definers = λ m i o s at own definer. refl; versions = λ m number o version at named. refl }
