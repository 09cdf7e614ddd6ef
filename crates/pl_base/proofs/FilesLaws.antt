-- The files of a folder: what is found after a file is put in or taken out, and which files are the same.
use Rattle.std.proofs.Common.{◌≡◌, ℕ, List, Option, Some, None, Bool, true, false, cond, refl, sym, ap, ◌∙◌, inl, inr}
use Rattle.std.specs.Ordering.{nat_cmp, eq_by_cmp}
use Rattle.std.specs.Cmp.Lexicographic.{slice_cmp, texts_ties, nat_list_cmp_total, bytes_decides}
use Rattle.std.specs.FinMap.{get, insert, remove, get-insert, get-remove, same_map, slice_cmp-IsAntisymmetric, nat_cmp-IsAntisymmetric}
use Rattle.std.proofs.lemmas.Bool.{cases_Bool}
use Rattle.pl_base.specs.Files.{Files}

-- whether two names tie
abbrev pub same : List ℕ → List ℕ → Bool
same q k = eq_by_cmp (slice_cmp nat_cmp) q k

-- names that tie are one
pub same_name : (q k : List ℕ) → same q k ≡ true → q ≡ k
same_name q k e = (bytes_decides q k).0 (texts_ties q k ∙ e)

pub same_refl : (q : List ℕ) → same q q ≡ true
same_refl q = sym (texts_ties q q) ∙ (bytes_decides q q).1 refl

-- files in which each look-up finds the same are equal
pub equal_files : (a b : Files) → ((q : List ℕ) → get a q ≡ get b q) → a ≡ b
equal_files a b is = same_map nat_list_cmp_total (slice_cmp-IsAntisymmetric nat_cmp-IsAntisymmetric) a b is

-- ---- a look-up

-- what was put in is there
pub get-inserted : (files : Files) (name bytes : List ℕ) → get (insert files name bytes) name ≡ Some bytes
get-inserted files name bytes = get-insert nat_list_cmp_total files name bytes name ∙ ap (λ b. cond b (Some bytes) (get files name)) (same_refl name)

-- what was taken out is not there
pub get-removed : (files : Files) (name : List ℕ) → get (remove files name) name ≡ None
get-removed files name = get-remove nat_list_cmp_total files name name ∙ ap (λ b. cond b None (get files name)) (same_refl name)

-- ---- one change after another

second_counts : {X : Type 0} (b : Bool) (x y o : X) → cond b x (cond b y o) ≡ cond b x o
second_counts true x y o = refl
second_counts false x y o = refl

-- of two files put in under one name, the second counts
pub insert-inserted : (files : Files) (name first second : List ℕ) → insert (insert files name first) name second ≡ insert files name second
insert-inserted files name first second = equal_files _ _ (λ q.
    get-insert nat_list_cmp_total (insert files name first) name second q
    ∙ ap (λ (o : Option (List ℕ)). cond (same q name) (Some second) o) (get-insert nat_list_cmp_total files name first q)
    ∙ second_counts (same q name) (Some second) (Some first) (get files q)
    ∙ sym (get-insert nat_list_cmp_total files name second q))

-- a file that is taken out, and one of its name put in
pub insert-removed : (files : Files) (name bytes : List ℕ) → insert (remove files name) name bytes ≡ insert files name bytes
insert-removed files name bytes = equal_files _ _ (λ q.
    get-insert nat_list_cmp_total (remove files name) name bytes q
    ∙ ap (λ (o : Option (List ℕ)). cond (same q name) (Some bytes) o) (get-remove nat_list_cmp_total files name q)
    ∙ second_counts (same q name) (Some bytes) None (get files q)
    ∙ sym (get-insert nat_list_cmp_total files name bytes q))

-- without a name, it makes no difference which bytes the name was given
pub remove-inserted : (files : Files) (name bytes : List ℕ) → remove (insert files name bytes) name ≡ remove files name
remove-inserted files name bytes = equal_files _ _ (λ q.
    get-remove nat_list_cmp_total (insert files name bytes) name q
    ∙ ap (λ (o : Option (List ℕ)). cond (same q name) None o) (get-insert nat_list_cmp_total files name bytes q)
    ∙ second_counts (same q name) None (Some bytes) (get files q)
    ∙ sym (get-remove nat_list_cmp_total files name q))

-- ---- what changes nothing

stays : (files : Files) (name : List ℕ) (found : Option (List ℕ)) → get files name ≡ found → (q : List ℕ) → cond (same q name) found (get files q) ≡ get files q
stays files name found is q = elim (cases_Bool (same q name)) [
  | inl hit ↦ ap (λ b. cond b found (get files q)) hit ∙ sym (ap (λ n. get files n) (same_name q name hit) ∙ is)
  | inr miss ↦ ap (λ b. cond b found (get files q)) miss
]

-- the bytes that a name has, put in again
pub insert_same : (files : Files) (name bytes : List ℕ) → get files name ≡ Some bytes → insert files name bytes ≡ files
insert_same files name bytes is = equal_files _ _ (λ q. get-insert nat_list_cmp_total files name bytes q ∙ stays files name (Some bytes) is q)

-- a name that is not there, taken out
pub remove_none : (files : Files) (name : List ℕ) → get files name ≡ None → remove files name ≡ files
remove_none files name none = equal_files _ _ (λ q. get-remove nat_list_cmp_total files name q ∙ stays files name None none q)
