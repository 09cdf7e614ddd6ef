-- What all rows of a run that prelinks everything make of a folder.
use Rattle.std.proofs.Common.{◌≡◌, ℕ, ◌+◌, Bool, true, false, cond, List, [], ◌∷◌, ◌++◌, Option, Some, None, refl, sym, ◌∙◌, ap, subst, inl, inr, ⊎_elim}
use Rattle.std.proofs.lemmas.Bool.{cases_Bool, cond-false, cond-true, false≢true, true≢false}
use Rattle.std.proofs.lemmas.Slice.Eq.{bytes_eq-Decides}
use Rattle.std.specs.FinMap.{get, keys}
use Rattle.std.specs.List.{cons_option, filter_map}
use Rattle.std.specs.Prelude.{Ok, Err, filter, if◌then◌else◌, is_some, length, nat_le, not}
use Rattle.std.specs.Str.{bytes_eq}
use Rattle.pl_base.specs.Files.{Files}
use Rattle.pl_base.specs.Names.{is_valid_name}
use Rattle.pl_base.proofs.AnswerLaws.{bind_ok, ok_same, unless_ok}
use Rattle.pl_cache.specs.Spelling.{cache_bytes}
use Rattle.pl_folder.specs.Disk.{Name, same}
use Rattle.pl_folder.specs.declared.TheConstants.{STORED}
use Rattle.pl_folder.proofs.ImageLaws.{itself}
use Rattle.pl_journal.specs.Meaning.{applied, mixed, rows_for}
use Rattle.pl_journal.specs.Spelling.{are_rows}
use Rattle.pl_journal.specs.declared.change.Change.{Change}
use Rattle.pl_journal.specs.declared.change.Change.TheVariants.{Drop, Put}
use Rattle.pl_journal.proofs.NameLemmas.{apart}
use Rattle.pl_rewrite.specs.Plans.{RunPlan}
use Rattle.pl_rewrite.specs.Changes.{change, changes, is_file, next, put}
use Rattle.pl_rewrite.proofs.SoundLaws.{names_stay, next_is_from_scratch}
use Rattle.pl_scope.specs.Members.{has}
use Rattle.pl_batch.specs.All.{all_changes, put_cache}
use Rattle.pl_batch.specs.Changes.{changes_of}
use Rattle.pl_change.specs.Changes.{fitting}
use Rattle.pl_change.specs.Folder.{cache, cache_by, cache_file, valid_names}
use Rattle.pl_batch.specs.Folder.{named}
use Rattle.pl_change.specs.declared.cause.Cause.TheVariants as causes
use Rattle.pl_batch.specs.declared.prelinking.Prelinking.{Prelinking}
use Rattle.law_folder.specs.All.{AllGivesNext, NextIsFromScratch}
use Rattle.law_folder.specs.Steps.{cache_or_none}
use Rattle.law_folder.proofs.PlanLemmas.{NextAt, all_planned, are_names, cache_own, changes_by, next_of, rows_are}
use Rattle.law_folder.proofs.MixedLemmas.{Each, old_or_new}

abbrev every : ℕ → Bool
every i = true

-- ---- one name

no_some : (o : Option (List ℕ)) → is_some o ≡ false → o ≡ None
no_some None e = refl
no_some (Some x) e = absurd (true≢false e)

same_file : (old : Option (List ℕ)) (bytes : List ℕ) → is_file old bytes ≡ true → old ≡ Some bytes
same_file None bytes e = absurd (false≢true e)
same_file (Some file) bytes e = ap Some ((bytes_eq-Decides file bytes).0 e)

module _ (files : Files) (p : Prelinking) (plan : RunPlan) (n : List ℕ) where
  abbrev old : Option (List ℕ)
  old = named files n

  abbrev new : Option (List ℕ)
  new = next (named files) p.region plan n

  -- a name without a file has none after it
  none_stays : old ≡ None → new ≡ None
  none_stays none = no_some new (names_stay (named files) p.region plan n ∙ ap (λ (o : Option (List ℕ)). is_some o) none)

  -- its row gives it the file that is planned; where it has none it has the file
  abbrev pub RowAt : Option Change → Type 0
  RowAt None = old ≡ new
  RowAt (Some (Put m bytes)) = (m ≡ n) × (new ≡ Some bytes)
  RowAt (Some (Drop m)) = ⊥

  by_test : (bytes : List ℕ) → new ≡ Some bytes → (b : Bool) → is_file old bytes ≡ b → RowAt (if b then None else Some (Put n bytes))
  by_test bytes is true there = same_file old bytes there ∙ sym is
  by_test bytes is false other = (refl, is)

  by_new : (o : Option (List ℕ)) → new ≡ o → RowAt (put old n o)
  by_new None is = by_old old refl
    where
      by_old : (o : Option (List ℕ)) → old ≡ o → old ≡ new
      by_old None none = none ∙ sym (none_stays none)
      by_old (Some file) there = absurd (false≢true (ap (λ (o : Option (List ℕ)). is_some o) (sym is) ∙ (names_stay (named files) p.region plan n ∙ ap (λ (o : Option (List ℕ)). is_some o) there)))
  by_new (Some bytes) is = by_test bytes is (is_file old bytes) refl

  pub row_at : RowAt (change (named files) p.region plan n)
  row_at = by_new new refl

-- ---- all names

module _ (files : Files) (p : Prelinking) (plan : RunPlan) (n : List ℕ) (valid : is_valid_name n ≡ true) where
  abbrev change_of : List ℕ → Option Change
  change_of m = change (named files) p.region plan m

  abbrev then_ : List ℕ → Option (List ℕ)
  then_ m = next (named files) p.region plan m

  here : named files n ≡ get files n
  here = ap (λ (b : Bool). if b then get files n else None) valid

  -- a name that has the planned file keeps it
  stays : (i : ℕ) (ns : List (List ℕ)) → named files n ≡ then_ n → mixed i (filter_map change_of ns) every (get files) n ≡ then_ n
  stays i ns is = ⊎_elim (λ old. old ∙ (sym here ∙ is)) (λ new. new valid) (old_or_new (NextAt files p plan) i (filter_map change_of ns) every (get files) n (rows_are files p plan ns))

  -- a name among these gets it
  gets : (i : ℕ) (ns : List (List ℕ)) → has ns n ≡ true → mixed i (filter_map change_of ns) every (get files) n ≡ then_ n
  gets i [] there = absurd (false≢true there)
  gets i (m ∷ ns) there = elim (cases_Bool (bytes_eq m n)) [
    | inl hit ↦ at_row (change_of m) (subst (λ (k : List ℕ). RowAt files p plan k (change_of m)) ((bytes_eq-Decides m n).0 hit) (row_at files p plan m))
    | inr miss ↦ past_row (change_of m) (row_at files p plan m) (λ j. gets j ns (rw miss at there)) (λ e. false≢true (sym miss ∙ (bytes_eq-Decides m n).1 (sym e)))
  ]
    where
      at_row : (row : Option Change) → RowAt files p plan n row → mixed i (cons_option row (filter_map change_of ns)) every (get files) n ≡ then_ n
      at_row None is = stays i ns is
      at_row (Some (Put k bytes)) is = cond-true (same n k) _ _ (subst (λ (m : Name). same n m ≡ true) (sym is.0) (itself n)) ∙ sym is.1
      at_row (Some (Drop k)) is = absurd is

      past_row : (row : Option Change) → RowAt files p plan m row → ((j : ℕ) → mixed j (filter_map change_of ns) every (get files) n ≡ then_ n) → (n ≡ m → ⊥) → mixed i (cons_option row (filter_map change_of ns)) every (get files) n ≡ then_ n
      past_row None is rest other = rest i
      past_row (Some (Put k bytes)) is rest other = cond-false (same n k) _ _ (apart n k (λ e. other (e ∙ is.0))) ∙ rest (i + 1)
      past_row (Some (Drop k)) is rest other = absurd is

  each_next : (i : ℕ) → mixed i (changes_by files p plan) every (get files) n ≡ then_ n
  unfolding changes
  each_next i = elim (cases_Bool (has (valid_names files) n)) [
    | inl there ↦ gets i (valid_names files) there
    | inr missing ↦ let none : named files n ≡ None = are_names files n missing in stays i (valid_names files) (none ∙ sym (none_stays files p plan n none))
  ]

  not_cache : n ≡ cache → ⊥
  not_cache e = true≢false (sym valid ∙ (ap is_valid_name e ∙ cache_own))

  -- the row of the cache is of another name
  pub after_cache : (b : Bool) (bytes : List ℕ) → mixed 0 ((if b then [] else Put cache bytes ∷ []) ++ changes_by files p plan) every (get files) n ≡ then_ n
  after_cache true bytes = each_next 0
  after_cache false bytes = cond-false (same n cache) _ _ (apart n cache not_cache) ∙ each_next 1

-- ---- the cache

abbrev ValidAt : Name → Option (List ℕ) → Type 0
ValidAt n file = is_valid_name n ≡ true

module _ (files : Files) (p : Prelinking) (plan : RunPlan) where
  valid_row : (n : List ℕ) (row : Option Change) (rows : List Change) → is_valid_name n ≡ true → RowAt files p plan n row → Each ValidAt rows → Each ValidAt (cons_option row rows)
  valid_row n None rows valid is all = all
  valid_row n (Some (Put m bytes)) rows valid is all = (ap is_valid_name is.0 ∙ valid, all)
  valid_row n (Some (Drop m)) rows valid is all = absurd is

  valid_rows : (ks : List (List ℕ)) → Each ValidAt (filter_map (change (named files) p.region plan) (filter is_valid_name ks))
  valid_rows [] = tt
  valid_rows (k ∷ ks) = by_name (valid_rows ks) (is_valid_name k) refl
    where
      by_name : Each ValidAt (filter_map (change (named files) p.region plan) (filter is_valid_name ks)) → (b : Bool) → is_valid_name k ≡ b → Each ValidAt (filter_map (change (named files) p.region plan) (cond b (k ∷ filter is_valid_name ks) (filter is_valid_name ks)))
      by_name rest true valid = valid_row k (change (named files) p.region plan k) (filter_map (change (named files) p.region plan) (filter is_valid_name ks)) valid (row_at files p plan k) rest
      by_name rest false invalid = rest

  rows_valid : Each ValidAt (changes_by files p plan)
  unfolding changes
  rows_valid = valid_rows (keys files)

  -- no other row is of the cache
  cache_stays : mixed 0 (changes_by files p plan) every (get files) cache ≡ get files cache
  cache_stays = ⊎_elim (λ old. old) (λ new. absurd (true≢false (sym new ∙ cache_own))) (old_or_new ValidAt 0 (changes_by files p plan) every (get files) cache rows_valid)

  by_size : (found bytes : List ℕ) (b : Bool) → (if b then Ok found else Err causes.BadCache) ≡ Ok bytes → found ≡ bytes
  by_size found bytes true e = ok_same found bytes e
  by_size found bytes false e = absurd cc

  was_old : (file : Option (List ℕ)) (old : List ℕ) → cache_by file ≡ Ok old → cache_or_none file ≡ old
  was_old None old e = ok_same (cache_or_none None) old e
  was_old (Some found) old e = by_size found old (nat_le (length found) STORED) e

  was : (old : List ℕ) → cache_file files ≡ Ok old → cache_or_none (get files cache) ≡ old
  unfolding cache_file
  was old e = was_old (get files cache) old e

  pub cache_keeps : (old new : List ℕ) → cache_file files ≡ Ok old → cache_or_none (mixed 0 (put_cache old new ++ changes_by files p plan) every (get files) cache) ≡ new
  cache_keeps old new e = by_test (bytes_eq old new) refl
    where
      by_test : (b : Bool) → bytes_eq old new ≡ b → cache_or_none (mixed 0 ((if b then [] else Put cache new ∷ []) ++ changes_by files p plan) every (get files) cache) ≡ new
      by_test true hit = ap (λ (o : Option (List ℕ)). cache_or_none o) cache_stays ∙ (was old e ∙ (bytes_eq-Decides old new).0 hit)
      by_test false miss = refl

-- ---- the whole

fits_is : (rows fitted : List Change) → fitting rows ≡ Ok fitted → rows ≡ fitted
fits_is rows fitted e = ok_same rows fitted (unless_ok (not (are_rows (rows_for rows))) causes.TooManyFiles (Ok rows) fitted e).1

pub gives_next : AllGivesNext
unfolding changes_of
gives_next files p rows e =
    let step = bind_ok (all_changes files p) fitting rows e in
    let is = all_planned files p step.0 step.1 in
    let whole : put_cache is.old (cache_bytes (next_of files p is.cached is.plan)) ++ changes_by files p is.plan ≡ rows = sym is.are ∙ fits_is step.0 rows step.2 in
    record {
      old = is.old;
      found = is.found;
      cached = is.cached;
      says = is.says;
      plan = is.plan;
      is_planned = is.is_planned;
      each = λ n valid. ap (λ (rs : List Change). applied rs (get files) n) (sym whole) ∙ after_cache files p is.plan n valid (bytes_eq is.old (cache_bytes (next_of files p is.cached is.plan))) (cache_bytes (next_of files p is.cached is.plan));
      keeps = ap (λ (rs : List Change). cache_or_none (applied rs (get files) cache)) (sym whole) ∙ cache_keeps files p is.plan is.old (cache_bytes (next_of files p is.cached is.plan)) is.found;
    }

pub gives_scratch : NextIsFromScratch
gives_scratch files p after is rule n valid = is.each n valid ∙ next_is_from_scratch (named files) p.region is.plan rule n
