-- The versions of an object by their indexes.
use Rattle.std.proofs.Common.{◌≡◌, ℕ, ◌+◌, ◌<◌, ◌≤◌, Bool, true, false, cond, List, [], ◌∷◌, ◌++◌, length, take, get_or, Option, Some, None, refl, sym, ap, ◌∙◌, subst, arith}
use Rattle.std.specs.Prelude.{find, is_some, nat_lt, ◌==◌}
use Rattle.std.specs.BTreeMap.{BTreeMap, IsEmpty, get, is_at}
use Rattle.std.specs.Map.{lookup}
use Rattle.std.specs.Option.{option_map, option_or}
use Rattle.std.specs.Ordering.{is_eq, nat_cmp}
use Rattle.std.specs.declared.cmp.Ordering.TheVariants.{Less, Equal, Greater}
use Rattle.std.proofs.lemmas.Bool.{false≢true, eqb-true, ltb-true}
use Rattle.std.proofs.lemmas.List.{take_all, take_more}
use Rattle.std.proofs.lemmas.List.Folds.{find-append}
use denote.Ref.{Bor}
use Rattle.pl_object.specs.SymbolClauses.{version_name}
use Rattle.pl_ver.specs.Fields.{index_of}
use Rattle.pl_ver.specs.Versions.{version_of}
use Rattle.pl_ver.specs.declared.versions.Versions.{Versions}
use Rattle.pl_ver.specs.declared.versions.VersionName.{VersionName}
use Rattle.pl_scope.specs.VersionIndex.{IsUnnamed, IsVersionIndex, IsVersionNoted, first_named, name_by_word, name_under, names_in}
use Rattle.pl_scope.specs.declared.version_index.VersionIndex.{VersionIndex}

abbrev Kept : Type 0
Kept = Option (Bor (List ℕ))

-- a map of nothing has no version
pub unnamed : (names : BTreeMap ℕ (Bor (List ℕ))) → IsEmpty names → IsUnnamed (record { names = names })
unnamed names empty number = ap (λ (o : Kept). option_map (λ (x : Bor (List ℕ)). x.now) o) (ap (lookup (is_at (nat_cmp number))) empty)

-- ---- one version more

same_number : (k q : ℕ) → is_eq (nat_cmp k q) ≡ (k == q)
same_number k q = by (nat_lt k q) (k == q) refl refl
  where
    by : (b c : Bool) → nat_lt k q ≡ b → (k == q) ≡ c → is_eq (cond b Less (cond c Equal Greater)) ≡ c
    by true true less same = absurd (omega (arith, ltb-true k q less, eqb-true k q same))
    by true false less other = refl
    by false true less same = refl
    by false false less other = refl

is_some_now : (o : Kept) → is_some (option_map (λ (x : Bor (List ℕ)). x.now) o) ≡ is_some o
is_some_now None = refl
is_some_now (Some x) = refl

again_by : (o : Option (List ℕ)) (b : Bool) (name : List ℕ) → (b ≡ true → is_some o ≡ true) → o ≡ option_or o (cond b (Some name) None)
again_by None true name some = absurd (false≢true (some refl))
again_by None false name some = refl
again_by (Some own) b name some = refl

-- where its index has a version nothing changes
pub version_again : (index : VersionIndex) (row : VersionName) → is_some (get nat_cmp index.names row.index) ≡ true → IsVersionNoted index row index
version_again index row has number =
    again_by (name_under index number) (row.index == number) row.name
    (λ hit. is_some_now (get nat_cmp index.names number) ∙ subst (λ (k : ℕ). is_some (get nat_cmp index.names k) ≡ true) (eqb-true row.index number hit) has)

new_by : (value : Bor (List ℕ)) (name : List ℕ) (o : Kept) (b : Bool) → value.now ≡ name → (b ≡ true → is_some o ≡ false)
    → option_map (λ (x : Bor (List ℕ)). x.now) (cond b (Some value) o) ≡ option_or (option_map (λ (x : Bor (List ℕ)). x.now) o) (cond b (Some name) None)
new_by value name None true is none = ap (λ (n : List ℕ). Some n) is
new_by value name None false is none = refl
new_by value name (Some x) true is none = absurd (false≢true (sym (none refl)))
new_by value name (Some x) false is none = refl

-- where it has none the version is found by it
pub version_new : (old new : VersionIndex) (row : VersionName) (value : Bor (List ℕ)) → value.now ≡ row.name → is_some (get nat_cmp old.names row.index) ≡ false
    → ((q : ℕ) → get nat_cmp new.names q ≡ cond (is_at (nat_cmp row.index) q) (Some value) (get nat_cmp old.names q)) → IsVersionNoted old row new
version_new old new row value is none updates number =
    ap (λ (o : Kept). option_map (λ (x : Bor (List ℕ)). x.now) o) (updates number ∙ ap (λ (b : Bool). cond b (Some value) (get nat_cmp old.names number)) (same_number row.index number))
    ∙ new_by value row.name (get nat_cmp old.names number) (row.index == number) is
    (λ hit. subst (λ (k : ℕ). is_some (get nat_cmp old.names k) ≡ false) (eqb-true row.index number hit) none)

-- ---- all versions

mapped : (o : Option VersionName) (b : Bool) (row : VersionName)
    → option_map (λ (r : VersionName). r.name) (option_or o (cond b (Some row) None)) ≡ option_or (option_map (λ (r : VersionName). r.name) o) (cond b (Some row.name) None)
mapped None true row = refl
mapped None false row = refl
mapped (Some own) b row = refl

pub named_more : (rows : List VersionName) (row : VersionName) (number : ℕ) → first_named (rows ++ row ∷ []) number ≡ option_or (first_named rows number) (cond (row.index == number) (Some row.name) None)
named_more rows row number =
    ap (λ (o : Option VersionName). option_map (λ (r : VersionName). r.name) o) (find-append (λ (r : VersionName). r.index == number) rows (row ∷ []))
    ∙ mapped (find (λ (r : VersionName). r.index == number) rows) (row.index == number) row

pub versions_more : (rows : List VersionName) (i : ℕ) (row : VersionName) (old new : VersionIndex) → i < length rows → row ≡ get_or rows i row → IsVersionNoted old row new
    → ((number : ℕ) → name_under old number ≡ first_named (take i rows) number) → (number : ℕ) → name_under new number ≡ first_named (take (i + 1) rows) number
versions_more rows i row old new lt is noted so_far number =
    let next : take i rows ++ row ∷ [] ≡ take (i + 1) rows = ap (λ (r : VersionName). take i rows ++ r ∷ []) is ∙ sym (take_more rows i row lt) in
    noted number
    ∙ ap (λ (o : Option (List ℕ)). option_or o (cond (row.index == number) (Some row.name) None)) (so_far number)
    ∙ sym (named_more (take i rows) row number)
    ∙ ap (λ (rs : List VersionName). first_named rs number) next

pub versions_done : (versions : Option Versions) (rows : List VersionName) (i : ℕ) (index : VersionIndex) → rows ≡ names_in versions → length rows ≤ i
    → ((number : ℕ) → name_under index number ≡ first_named (take i rows) number) → IsVersionIndex versions index
versions_done versions rows i index is over so_far number =
    so_far number ∙ ap (λ (rs : List VersionName). first_named rs number) (take_all i rows over ∙ is)

-- ---- a word's version

pub version_by_index : (versions : Option Versions) (word : ℕ) → first_named (names_in versions) (index_of word) ≡ version_name versions word
unfolding version_of
version_by_index None word = refl
version_by_index (Some versions) word = refl

pub version_found : (versions : Option Versions) (index : VersionIndex) (word : ℕ) → IsVersionIndex versions index → name_by_word index word ≡ version_name versions word
version_found versions index word is = is (index_of word) ∙ version_by_index versions word
