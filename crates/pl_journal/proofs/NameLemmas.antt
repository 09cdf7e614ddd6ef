-- Names that are the same, and names that begin alike.
use Rattle.std.proofs.Common.{◌≡◌, ⊎_elim, ℕ, Bool, true, false, ◌&&◌, ◌||◌, not, List, [], ◌∷◌, ◌++◌, length, take, refl, sym, ap, subst, ◌∙◌}
use Rattle.std.specs.Prelude.{nat_eq}
use Rattle.std.specs.List.{list_all, starts_with}
use Rattle.std.specs.Str.{bytes_eq}
use Rattle.std.specs.Ordering.{nat_cmp, is_eq}
use Rattle.std.specs.Cmp.Lexicographic.{slice_cmp, bytes_decides, pointwise}
use Rattle.std.specs.FinMap.{slice_cmp-IsAntisymmetric, nat_cmp-IsAntisymmetric}
use Rattle.std.specs.declared.cmp.Ordering.{Ordering}
use Rattle.std.specs.declared.cmp.Ordering.TheVariants.{Less, Equal, Greater}
use Rattle.std.proofs.lemmas.Bool.{and_parts, both_ways, cases_Bool, false_from_ne_true}
use Rattle.pl_folder.proofs.ImageLaws.{itself}
use Rattle.pl_journal.specs.Names.{cache, is_row_name}
use Rattle.pl_base.specs.Names.{has_name_length, is_dots, is_name_byte, is_own_name, is_valid_name}
use Rattle.pl_folder.specs.Disk.{Name, same}
use Rattle.pl_journal.specs.declared.names.TheConstants.{BESIDE}

is_equal : (o : Ordering) → is_eq o ≡ true → o ≡ Equal
is_equal Less e = absurd (both_ways false refl e)
is_equal Equal e = refl
is_equal Greater e = absurd (both_ways false refl e)

pub equal : (a b : Name) → same a b ≡ true → a ≡ b
equal a b e = slice_cmp-IsAntisymmetric nat_cmp-IsAntisymmetric a b (is_equal (slice_cmp nat_cmp a b) e)

pub apart : (a b : Name) → (a ≡ b → ⊥) → same a b ≡ false
apart a b differ = false_from_ne_true (same a b) (λ e. differ (equal a b e))

-- names as text are compared byte by byte
pub compared : (a b : Name) → bytes_eq a b ≡ same a b
compared a b = ⊎_elim
    (λ hit. hit ∙ sym (subst (λ c. same a c ≡ true) ((bytes_decides a b).0 hit) (itself a)))
    (λ missed. missed ∙ sym (apart a b (λ e. both_ways (bytes_eq a b) missed ((bytes_decides a b).1 e))))
    (cases_Bool (bytes_eq a b))

-- the cache's name as a row's
pub cache_text : (name : Name) → bytes_eq name cache ≡ true → is_row_name name ≡ true
cache_text name hit = or_after (is_valid_name name) (same name cache) (sym (compared name cache) ∙ hit)
  where
    or_after : (a b : Bool) → b ≡ true → (a || b) ≡ true
    or_after true b is = refl
    or_after false b is = is

pub not_cache : (name : Name) → bytes_eq name cache ≡ false → is_row_name name ≡ is_valid_name name
not_cache name missed = or_false (is_valid_name name) (same name cache) (sym (compared name cache) ∙ missed)
  where
    or_false : (a b : Bool) → b ≡ false → (a || b) ≡ a
    or_false true b is = refl
    or_false false b is = is

-- what follows the same bytes
pub append_left : (front a b : List ℕ) → front ++ a ≡ front ++ b → a ≡ b
append_left [] a b e = e
append_left (x ∷ front) a b e = let rest : front ++ a ≡ front ++ b = cc in append_left front a b rest

-- what begins with more begins with less
begins_less : (n front more : List ℕ) → pointwise nat_eq (front ++ more) (take (length (front ++ more)) n) ≡ true → pointwise nat_eq front (take (length front) n) ≡ true
begins_less n [] more e = refl
begins_less [] (x ∷ front) more e = e
begins_less (y ∷ n) (x ∷ front) more e =
    let parts = and_parts (nat_eq x y) (pointwise nat_eq (front ++ more) (take (length (front ++ more)) n)) e in
    ap (λ b. b && pointwise nat_eq front (take (length front) n)) parts.0 ∙ begins_less n front more parts.1

-- a name beside is one of the program's own
pub begins_so : (n : Name) → starts_with nat_eq n BESIDE.now ≡ true → is_own_name n ≡ true
unfolding is_own_name
begins_so n e = begins_less n (46 ∷ 112 ∷ 114 ∷ 101 ∷ 108 ∷ 105 ∷ 110 ∷ 107 ∷ 46 ∷ []) (110 ∷ 101 ∷ 119 ∷ 46 ∷ []) e

not_so : (b : Bool) → not b ≡ true → b ≡ false
not_so true e = sym e
not_so false e = refl

pub valid_not_own : (n : Name) → is_valid_name n ≡ true → is_own_name n ≡ false
unfolding is_valid_name
valid_not_own n valid =
    let all = and_parts (has_name_length n && list_all is_name_byte n && not (is_own_name n)) (not (is_dots n)) valid in
    let most = and_parts (has_name_length n && list_all is_name_byte n) (not (is_own_name n)) all.0 in
    not_so (is_own_name n) most.1
