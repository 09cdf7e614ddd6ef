-- Names that ascend differ, and those of a folder ascend.
use Rattle.std.proofs.Common.{◌≡◌, ℕ, List, [], ◌∷◌, Bool, true, false, refl, sym, ◌∙◌}
use Rattle.std.proofs.lemmas.Bool.{and_parts, false≢true}
use Rattle.std.proofs.lemmas.Cmp.{nat_list_cmp_total}
use Rattle.std.proofs.lemmas.List.Kept.{IsStrictlySortedBy-filter}
use Rattle.std.proofs.lemmas.Map.Keys.{IsDistinct-from_sorted}
use Rattle.std.proofs.lemmas.Map.Text.{is_eq-slice_cmp}
use Rattle.std.specs.Cmp.Lexicographic.{slice_cmp}
use Rattle.std.specs.FinMap.{entries, entries_sorted, keys}
use Rattle.std.specs.FinMap.Entries.{is_sorted}
use Rattle.std.specs.List.{AllByRecursion, IsDistinct}
use Rattle.std.specs.List.Sorted.{IsStrictlySortedBy}
use Rattle.std.specs.Ordering.{eq_by_cmp, is_lt, nat_cmp}
use Rattle.std.specs.Prelude.{◌&&◌, T, filter, map}
use Rattle.std.specs.Str.{bytes_eq}
use Rattle.std.specs.declared.cmp.Ordering.{Ordering}
use Rattle.std.specs.declared.cmp.Ordering.TheVariants.{Less, Equal, Greater}
use Rattle.pl_base.specs.Files.{Files}
use Rattle.pl_change.specs.Folder.{ascend}

abbrev by_bytes : List ℕ → List ℕ → Ordering
by_bytes = slice_cmp nat_cmp

less_of : (o : Ordering) → is_lt o ≡ true → o ≡ Less
less_of Less e = refl
less_of Equal e = absurd (false≢true e)
less_of Greater e = absurd (false≢true e)

-- ---- each is before all after it

after : (n m : List ℕ) (ks : List (List ℕ)) → by_bytes n m ≡ Less → AllByRecursion (λ k. by_bytes m k ≡ Less) ks → AllByRecursion (λ k. by_bytes n k ≡ Less) ks
after n m [] less rest = tt
after n m (k ∷ ks) less rest = (nat_list_cmp_total.trans n m k less rest.0, after n m ks less rest.1)

head : (m : List ℕ) (ks : List (List ℕ)) → IsStrictlySortedBy by_bytes (m ∷ ks) → AllByRecursion (λ k. by_bytes m k ≡ Less) ks
unfolding IsStrictlySortedBy
head m ks sorted = sorted.0

sorted_from : (ns : List (List ℕ)) → ascend ns ≡ true → IsStrictlySortedBy by_bytes ns
unfolding IsStrictlySortedBy
sorted_from [] e = tt
sorted_from (n ∷ []) e = (tt, tt)
sorted_from (n ∷ m ∷ ks) e =
    let parts = and_parts (is_lt (by_bytes n m)) (ascend (m ∷ ks)) e in
    let less = less_of (by_bytes n m) parts.0 in
    let rest = sorted_from (m ∷ ks) parts.1 in
    ((less, after n m ks less (head m ks rest)), rest)

-- ---- so no two are the same

differ_from : (x : List ℕ) (ys : List (List ℕ)) → AllByRecursion (λ y. eq_by_cmp by_bytes x y ≡ false) ys → AllByRecursion (λ y. bytes_eq x y ≡ false) ys
differ_from x [] all = tt
differ_from x (y ∷ ys) all = (sym (is_eq-slice_cmp x y) ∙ all.0, differ_from x ys all.1)

by_bytes_distinct : (ns : List (List ℕ)) → IsDistinct (eq_by_cmp by_bytes) ns → IsDistinct bytes_eq ns
unfolding IsDistinct
by_bytes_distinct [] all = tt
by_bytes_distinct (n ∷ ns) all = (differ_from n ns all.0, by_bytes_distinct ns all.1)

pub distinct_names : (ns : List (List ℕ)) → ascend ns ≡ true → IsDistinct bytes_eq ns
distinct_names ns e = by_bytes_distinct ns (IsDistinct-from_sorted by_bytes ns (sorted_from ns e))

-- nor are two of those that pass a test
pub distinct_from : (p : List ℕ → Bool) (ns : List (List ℕ)) → ascend ns ≡ true → IsDistinct bytes_eq (filter p ns)
distinct_from p ns e = by_bytes_distinct (filter p ns) (IsDistinct-from_sorted by_bytes (filter p ns) (IsStrictlySortedBy-filter by_bytes p ns (sorted_from ns e)))

-- ---- the names of files

T_true : (b : Bool) → T b → b ≡ true
T_true true h = refl
T_true false h = absurd h

both_true : (b c : Bool) → b ≡ true → c ≡ true → (b && c) ≡ true
both_true b c p q = rw (p, q) refl

entries_ascend : {X : Type 0} (es : List (List ℕ × X)) → is_sorted by_bytes es ≡ true → ascend (map (λ e. e.0) es) ≡ true
entries_ascend [] h = refl
entries_ascend (e ∷ []) h = refl
entries_ascend (e ∷ f ∷ es) h =
    let parts = and_parts _ (is_sorted by_bytes (f ∷ es)) h in
    both_true _ _ (and_parts (is_lt (by_bytes e.0 f.0)) _ parts.0).0 (entries_ascend (f ∷ es) parts.1)

pub keys_ascend : (files : Files) → ascend (keys files) ≡ true
keys_ascend files = entries_ascend (entries files) (T_true _ (entries_sorted files))
