-- What commands do to originals.
use Rattle.std.proofs.Common.{◌≡◌, ℕ, ◌+◌, Bool, true, false, cond, List, [], ◌∷◌, Option, Some, None, Ok, Err, refl, sym, ap, subst, ◌∙◌, inl, inr, ⊎_elim}
use Rattle.std.specs.Prelude.{◌&&◌, length, nat_le, if◌then◌else◌}
use Rattle.std.specs.FinMap.{get}
use Rattle.std.specs.List.{AllByRecursion}
use Rattle.std.specs.Option.{option_map}
use Rattle.std.proofs.lemmas.Bool.{cases_Bool, cond-false, cond-true, false≢true, true≢false}
use Rattle.pl_base.specs.Files.{Files}
use Rattle.pl_base.specs.Names.{is_valid_name}
use Rattle.pl_folder.specs.Disk.{Name, View, same}
use Rattle.pl_folder.specs.Taken.{stored, taken}
use Rattle.pl_folder.specs.declared.TheConstants.{STORED}
use Rattle.pl_folder.specs.declared.fault.FolderFault.TheVariants.{TooLarge}
use Rattle.pl_form.specs.Files.{original_in}
use Rattle.pl_journal.specs.Meaning.{Same, applied, mixed}
use Rattle.pl_journal.specs.Rows.{recovered}
use Rattle.pl_journal.specs.declared.change.Change.{Change}
use Rattle.pl_journal.specs.declared.change.Change.TheVariants.{Put, Drop}
use Rattle.pl_journal.proofs.NameLemmas.{equal}
use Rattle.pl_scope.proofs.NameLaws.{same_name}
use Rattle.law_sound.proofs.Matching.{and_both}
use Rattle.pl_change.specs.Store.{is_file, put}
use Rattle.law_folder.specs.Laws.{ImagesKeepOriginals}
use Rattle.law_folder.specs.Originals.{HasOriginal, SameOriginals, originals}
use Rattle.law_folder.specs.Safe.{after}
use Rattle.law_folder.proofs.RowLemmas.{OfUndone, bare_original, marked_original, original_bare}
use Rattle.law_folder.proofs.SoundLemmas.{named_other, named_valid}

abbrev original : Option (List ℕ) → Option (List ℕ)
original o = option_map original_in o

original_valid : (v : View) (n : Name) → is_valid_name n ≡ true → originals v n ≡ original (v n)
original_valid v n valid = ap original (named_valid v n valid)

original_other : (v : View) (n : Name) → is_valid_name n ≡ false → originals v n ≡ None
original_other v n other = ap original (named_other v n other)

-- views that agree on the original of each valid name's file
pub by_names : (v w : View) → ((n : Name) → is_valid_name n ≡ true → original (v n) ≡ original (w n)) → SameOriginals v w
by_names v w each n = elim (cases_Bool (is_valid_name n)) [
  | inl valid ↦ original_valid v n valid ∙ (each n valid ∙ sym (original_valid w n valid))
  | inr other ↦ original_other v n other ∙ sym (original_other w n other)
]

-- ---- changes that keep originals

-- a valid name gets a file of the same original
abbrev pub KeepsOriginal : View → Change → Type 0
KeepsOriginal v (Put name bytes) = is_valid_name name ≡ true → original (v name) ≡ Some (original_in bytes)
KeepsOriginal v (Drop name) = ⊥

mixed_original : (i : ℕ) (rows : List Change) (keep : ℕ → Bool) (v : View) → AllByRecursion (KeepsOriginal v) rows → (n : Name) → is_valid_name n ≡ true → original (mixed i rows keep v n) ≡ original (v n)
mixed_original i [] keep v all n valid = refl
mixed_original i (Put name bytes ∷ rows) keep v all n valid = elim (cases_Bool (keep i && same n name)) [
  | inl hit ↦
      let is : n ≡ name = equal n name (and_both (keep i) (same n name) hit).1 in
      ap original (cond-true (keep i && same n name) (Some bytes) (mixed (i + 1) rows keep v n) hit)
      ∙ (sym (all.0 (subst (λ (m : Name). is_valid_name m ≡ true) is valid)) ∙ ap (λ (m : Name). original (v m)) (sym is))
  | inr miss ↦ ap original (cond-false (keep i && same n name) (Some bytes) (mixed (i + 1) rows keep v n) miss) ∙ mixed_original (i + 1) rows keep v all.1 n valid
]
mixed_original i (Drop name ∷ rows) keep v all n valid = absurd all.0

pub rows_keep : (rows : List Change) (v : View) → AllByRecursion (KeepsOriginal v) rows → (keep : ℕ → Bool) → SameOriginals (mixed 0 rows keep v) v
rows_keep rows v all keep = by_names (mixed 0 rows keep v) v (mixed_original 0 rows keep v all)

original_twice : (bytes : List ℕ) → original_in (original_in bytes) ≡ original_in bytes
original_twice bytes = bare_original (original_in bytes) (original_bare bytes)

pub undone_keeps : (fs : Files) → OfUndone (KeepsOriginal (get fs)) fs
undone_keeps fs name bytes m named there read valid =
    let is : original_in bytes ≡ m.original = marked_original bytes m read in
    ap original there ∙ ap (λ (x : List ℕ). Some x) (sym (original_twice bytes) ∙ ap original_in is)

-- ---- one name

-- a name that has a file of this original, or gets one
pub has_original : (name : Name) (file : Option (List ℕ)) (v w : View) → is_valid_name name ≡ true → ((n : Name) → w n ≡ cond (same n name) file (v n)) → HasOriginal name (original file) v w
has_original name file v w valid is n = elim (cases_Bool (is_valid_name n)) [
  | inl here ↦ original_valid w n here ∙ (ap original (is n) ∙ (apart (same n name) ∙ ap (cond (same n name) (original file)) (sym (original_valid v n here))))
  | inr other ↦ original_other w n other ∙ (sym (original_other v n other) ∙ elim (cases_Bool (same n name)) [
    | inl hit ↦ absurd (true≢false (sym valid ∙ (ap is_valid_name (sym (equal n name hit)) ∙ other)))
    | inr miss ↦ sym (cond-false (same n name) (original file) (originals v n) miss)
  ])
]
  where
    apart : (b : Bool) → original (cond b file (v n)) ≡ cond b (original file) (original (v n))
    apart true = refl
    apart false = refl

-- where the file is there it is the same
is_there : (o : Option (List ℕ)) (bytes : List ℕ) → is_file (stored o) bytes ≡ true → o ≡ Some bytes
is_there None bytes is = absurd (false≢true is)
is_there (Some old) bytes is = small (nat_le (length old) STORED) is
  where
    small : (b : Bool) → is_file (if b then Ok old else Err TooLarge) bytes ≡ true → ◌≡◌ {A = Option (List ℕ)} (Some old) (Some bytes)
    small true is = ap (λ (x : List ℕ). Some x) (same_name old bytes is)
    small false is = absurd (false≢true is)

put_makes : (fs : Files) (name bytes : List ℕ) (n : Name) → applied (put fs name bytes) (get fs) n ≡ cond (same n name) (Some bytes) (get fs n)
put_makes fs name bytes n = by (is_file (taken fs name) bytes) refl
  where
    by : (b : Bool) → is_file (taken fs name) bytes ≡ b → applied (if b then [] else Put name bytes ∷ []) (get fs) n ≡ cond (same n name) (Some bytes) (get fs n)
    by false is = refl
    by true is = elim (cases_Bool (same n name)) [
      | inl hit ↦ ap (get fs) (equal n name hit) ∙ (is_there (get fs name) bytes is ∙ sym (cond-true (same n name) (Some bytes) (get fs n) hit))
      | inr miss ↦ sym (cond-false (same n name) (Some bytes) (get fs n) miss)
    ]

pub installed_original : (fs : Files) (name bytes : List ℕ) (rows : List Change) → is_valid_name name ≡ true → rows ≡ put fs name (original_in bytes) → HasOriginal name (Some (original_in bytes)) (get fs) (applied rows (get fs))
installed_original fs name bytes rows valid is =
    let made : (n : Name) → applied rows (get fs) n ≡ cond (same n name) (Some (original_in bytes)) (get fs n) =
    λ n. ap (λ (xs : List Change). applied xs (get fs) n) is ∙ put_makes fs name (original_in bytes) n in
    subst (λ (o : Option (List ℕ)). HasOriginal name o (get fs) (applied rows (get fs))) (ap (λ (x : List ℕ). Some x) (original_twice bytes))
    (has_original name (Some (original_in bytes)) (get fs) (applied rows (get fs)) valid made)

-- ---- images

same_originals : (v w : View) → Same v w → SameOriginals v w
same_originals v w same = by_names v w (λ n valid. ap original (same n))

pub images_originals : {C : Type 0} → ImagesKeepOriginals C
images_originals meant before image safe = ⊎_elim (λ same. inl (same_originals (recovered image) (get before) same)) (λ same. inr (same_originals (recovered image) (after meant before) same)) safe.stands
