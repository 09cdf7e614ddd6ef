-- The valid names of a folder ascend.
use Rattle.std.proofs.Common.{◌≡◌, ℕ, true, List, [], ◌∷◌, refl}
use Rattle.std.proofs.lemmas.Bool.{and_parts, false≢true}
use Rattle.std.proofs.lemmas.Cmp.{nat_list_cmp_total}
use Rattle.std.proofs.lemmas.List.Kept.{IsStrictlySortedBy-filter}
use Rattle.std.specs.FinMap.{keys}
use Rattle.std.specs.List.{AllByRecursion}
use Rattle.std.specs.List.Sorted.{IsStrictlySortedBy}
use Rattle.std.specs.Ordering.{is_lt}
use Rattle.std.specs.declared.cmp.Ordering.{Ordering}
use Rattle.std.specs.declared.cmp.Ordering.TheVariants.{Less, Equal, Greater}
use Rattle.pl_base.specs.Files.{Files}
use Rattle.pl_base.specs.Names.{is_valid_name}
use Rattle.pl_change.specs.Folder.{ascend, valid_names}
use Rattle.pl_change.proofs.OrderLemmas.{keys_ascend}
use Rattle.law_folder.proofs.SlotLemmas.{by_bytes}

less_of : (o : Ordering) → is_lt o ≡ true → o ≡ Less
less_of Less e = refl
less_of Equal e = absurd (false≢true e)
less_of Greater e = absurd (false≢true e)

after : (n m : List ℕ) (ks : List (List ℕ)) → by_bytes n m ≡ Less → AllByRecursion (λ k. by_bytes m k ≡ Less) ks → AllByRecursion (λ k. by_bytes n k ≡ Less) ks
after n m [] less rest = tt
after n m (k ∷ ks) less rest = (nat_list_cmp_total.trans n m k less rest.0, after n m ks less rest.1)

head : (m : List ℕ) (ks : List (List ℕ)) → IsStrictlySortedBy by_bytes (m ∷ ks) → AllByRecursion (λ k. by_bytes m k ≡ Less) ks
unfolding IsStrictlySortedBy
head m ks sorted = sorted.0

sorted_from : (ns : List (List ℕ)) → ascend ns ≡ true → IsStrictlySortedBy by_bytes ns
unfolding IsStrictlySortedBy
sorted_from [] e = tt
sorted_from (n ∷ []) e = (tt, tt)
sorted_from (n ∷ m ∷ ks) e =
    let parts = and_parts (is_lt (by_bytes n m)) (ascend (m ∷ ks)) e in
    let less = less_of (by_bytes n m) parts.0 in
    let rest = sorted_from (m ∷ ks) parts.1 in
    ((less, after n m ks less (head m ks rest)), rest)

pub sorted_names : (files : Files) → IsStrictlySortedBy by_bytes (valid_names files)
sorted_names files = IsStrictlySortedBy-filter by_bytes is_valid_name (keys files) (sorted_from (keys files) (keys_ascend files))
