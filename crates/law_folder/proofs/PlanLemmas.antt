-- What the rows of a run that prelinks everything come from.
use Rattle.std.proofs.Common.{◌≡◌, ℕ, Bool, true, false, List, [], ◌∷◌, ◌++◌, Option, Some, None, refl, sym, ◌∙◌, ap, subst, inl, inr}
use Rattle.std.proofs.lemmas.Bool.{cases_Bool, true≢false}
use Rattle.std.proofs.lemmas.Slice.Eq.{bytes_eq-Decides}
use Rattle.std.specs.Cmp.Lexicographic.{slice_cmp, texts_ties}
use Rattle.std.specs.FinMap.{contains_key-keys, get, keys}
use Rattle.std.specs.List.{cons_option, filter_map, list_any}
use Rattle.std.specs.Option.{is_some}
use Rattle.std.specs.Ordering.{eq_by_cmp, nat_cmp}
use Rattle.std.specs.Prelude.{◌||◌, Ok, filter, if◌then◌else◌, not}
use Rattle.std.specs.Str.{bytes_eq}
use Rattle.pl_base.specs.Answers.{◌>>=◌, because, unless}
use Rattle.pl_base.specs.Files.{Files}
use Rattle.pl_base.specs.Names.{is_name_byte, is_own_name, is_valid_name}
use Rattle.pl_base.proofs.AnswerLaws.{because_ok, bind_ok, ok_same, unless_ok}
use Rattle.pl_base.proofs.FindLaws.{any_same}
use Rattle.pl_base.proofs.TestLaws.{bytes_flip}
use Rattle.pl_cache.specs.Spelling.{cache_bytes, is_cache}
use Rattle.pl_cache.specs.declared.cache.Cache.{Cache}
use Rattle.pl_folder.specs.Disk.{Name, same}
use Rattle.pl_folder.proofs.ImageLaws.{itself}
use Rattle.pl_journal.specs.Names as own
use Rattle.pl_journal.specs.Names.{is_row_name}
use Rattle.pl_journal.specs.declared.change.Change.{Change}
use Rattle.pl_journal.specs.declared.change.Change.TheVariants.{Put}
use Rattle.pl_rewrite.specs.Plans.{planned}
use Rattle.pl_rewrite.specs.Plans.{RunPlan}
use Rattle.pl_rewrite.specs.Changes.{change, changes, is_file, next, next_cache, put}
use Rattle.pl_rewrite.specs.Laws.{AreNames}
use Rattle.pl_rewrite.specs.Reports.{report}
use Rattle.pl_rewrite.specs.declared.rewriting.Report.{Report}
use Rattle.pl_rewrite.specs.Rewriting.{rewrite, rewritten}
use Rattle.pl_rewrite.specs.declared.rewriting.Rewritten.{Rewritten}
use Rattle.pl_batch.specs.All.{all_changes, all_made, all_reported, asked_of, made_of_folder, made_of, made_with_cache, of_planning, put_cache, spelled, with_cache}
use Rattle.pl_change.specs.Folder.{all_files, cache, cache_file, cache_in, valid_names}
use Rattle.pl_batch.specs.Folder.{are_large, named}
use Rattle.pl_change.specs.Names.{are_many}
use Rattle.pl_change.specs.declared.cause.Cause.TheVariants as causes
use Rattle.pl_batch.specs.declared.prelinking.Prelinking.{Prelinking}
use Rattle.law_folder.proofs.MixedLemmas.{Each, each_append}

-- ---- what led to the rows

abbrev pub next_of : Files → Prelinking → Cache → RunPlan → Cache
next_of files p cached plan = next_cache (named files) (valid_names files) p.region cached.last plan

abbrev pub changes_by : Files → Prelinking → RunPlan → List Change
changes_by files p plan = changes (named files) (valid_names files) p.region plan

pub record IsPlanned (files : Files) (p : Prelinking) (rows : List Change) : Type 0 where
  pub old : List ℕ
  pub found : cache_file files ≡ Ok old
  pub cached : Cache
  pub says : cache_in old ≡ Ok cached
  pub plan : RunPlan
  pub is_planned : planned (named files) (valid_names files) (asked_of p cached) ≡ Ok plan
  pub are : rows ≡ put_cache old (cache_bytes (next_of files p cached plan)) ++ changes_by files p plan

-- the same of all that a run makes, its report too
pub record IsMade (files : Files) (p : Prelinking) (rows : List Change) (told : Report) : Type 0 where
  pub old : List ℕ
  pub found : cache_file files ≡ Ok old
  pub cached : Cache
  pub says : cache_in old ≡ Ok cached
  pub plan : RunPlan
  pub is_planned : planned (named files) (valid_names files) (asked_of p cached) ≡ Ok plan
  pub are : rows ≡ put_cache old (cache_bytes (next_of files p cached plan)) ++ changes_by files p plan
  pub tells : told ≡ report (named files) (valid_names files) p.region plan

module _ (files : Files) (p : Prelinking) where
  pub rewritten_is : (cached : Cache) (w : Rewritten) → rewrite (named files) (valid_names files) (asked_of p cached) ≡ Ok w
      → (plan : RunPlan) × (planned (named files) (valid_names files) (asked_of p cached) ≡ Ok plan) × (rewritten (named files) (valid_names files) (asked_of p cached) plan ≡ w)
  unfolding rewrite
  rewritten_is cached w e =
      let step = bind_ok (planned (named files) (valid_names files) (asked_of p cached)) (λ plan. Ok (rewritten (named files) (valid_names files) (asked_of p cached) plan)) w e in
      (step.0, step.1, ok_same (rewritten (named files) (valid_names files) (asked_of p cached) step.0) w step.2)

  spelled_is : (old : List ℕ) (w : Rewritten) (made : _) → spelled old w ≡ Ok made → with_cache old w ≡ made
  unfolding spelled
  spelled_is old w made e = ok_same (with_cache old w) made (unless_ok (not (is_cache w.cache)) causes.BadCache (Ok (with_cache old w)) made e).1

  made_is : (old : List ℕ) (cached : Cache) (made : _) → made_of (named files) (valid_names files) p old cached ≡ Ok made
      → (plan : RunPlan) × (planned (named files) (valid_names files) (asked_of p cached) ≡ Ok plan) × (made.rows ≡ put_cache old (cache_bytes (next_of files p cached plan)) ++ changes_by files p plan) × (made.report ≡ report (named files) (valid_names files) p.region plan)
  unfolding made_of
  made_is old cached made e =
      let step = bind_ok (because of_planning (rewrite (named files) (valid_names files) (asked_of p cached))) (spelled old) made e in
      let w = rewritten_is cached step.0 (because_ok of_planning (rewrite (named files) (valid_names files) (asked_of p cached)) step.0 step.1) in
      let whole : with_cache old (rewritten (named files) (valid_names files) (asked_of p cached) w.0) ≡ made = ap (with_cache old) w.2 ∙ spelled_is old step.0 made step.2 in
      (w.0, w.1, sym (ap (λ m. m.rows) whole), sym (ap (λ m. m.report) whole))

  with_is : (old : List ℕ) (cached : Cache) (made : _) → made_with_cache files p old cached ≡ Ok made → made_of (named files) (valid_names files) p old cached ≡ Ok made
  unfolding made_with_cache
  with_is old cached made e =
      let step = bind_ok (all_files files (valid_names files)) (λ bytes. unless (are_large bytes) causes.FolderTooLarge (made_of (named files) (valid_names files) p old cached)) made e in
      (unless_ok (are_large step.0) causes.FolderTooLarge (made_of (named files) (valid_names files) p old cached) made step.2).1

  by_is : (made : _) → made_of_folder files p ≡ Ok made → IsMade files p made.rows made.report
  unfolding made_of_folder
  by_is made e =
      let found = bind_ok (cache_file files) (λ old. cache_in old >>= λ cached. made_with_cache files p old cached) made e in
      let says = bind_ok (cache_in found.0) (λ cached. made_with_cache files p found.0 cached) made found.2 in
      let made_so = made_is found.0 says.0 made (with_is found.0 says.0 made says.2) in
      record { old = found.0; found = found.1; cached = says.0; says = says.1; plan = made_so.0; is_planned = made_so.1; are = made_so.2; tells = made_so.3 }

  all_is : (made : _) → all_made files p ≡ Ok made → IsMade files p made.rows made.report
  unfolding all_made
  all_is made e = by_is made (unless_ok (are_many (keys files)) causes.TooManyFiles (made_of_folder files p) made e).1

  pub all_planned : (rows : List Change) → all_changes files p ≡ Ok rows → IsPlanned files p rows
  unfolding all_changes
  all_planned rows e =
      let step = bind_ok (all_made files p) (λ made. Ok made.rows) rows e in
      let is = all_is step.0 step.1 in
      record { old = is.old; found = is.found; cached = is.cached; says = is.says; plan = is.plan; is_planned = is.is_planned; are = sym (ok_same step.0.rows rows step.2) ∙ is.are }

  pub all_told : (told : Report) → all_reported files p ≡ Ok told → (rows : List Change) × IsMade files p rows told
  unfolding all_reported
  all_told told e =
      let step = bind_ok (all_made files p) (λ made. Ok made.report) told e in
      (step.0.rows, subst (IsMade files p step.0.rows) (ok_same step.0.report told step.2) (all_is step.0 step.1))

-- ---- the rows of names

-- a valid name gets the file that is planned
abbrev pub NextAt : Files → Prelinking → RunPlan → Name → Option (List ℕ) → Type 0
NextAt files p plan n file = is_valid_name n ≡ true → file ≡ next (named files) p.region plan n

module _ (files : Files) (p : Prelinking) (plan : RunPlan) where
  abbrev At : Name → Option (List ℕ) → Type 0
  At n file = NextAt files p plan n file

  abbrev Row : Option Change → Type 0
  Row None = Unit {0}
  Row (Some row) = Each At (row ∷ [])

  put_is : (old : Option (List ℕ)) (n : Name) (file : Option (List ℕ)) → next (named files) p.region plan n ≡ file → Row (put old n file)
  put_is old n None is = tt
  put_is old n (Some bytes) is = by_test (is_file old bytes)
    where
      by_test : (b : Bool) → Row (if b then None else Some (Put n bytes))
      by_test true = tt
      by_test false = (λ valid. sym is, tt)

  change_is : (n : Name) → Row (change (named files) p.region plan n)
  change_is n = put_is (named files n) n (next (named files) p.region plan n) refl

  front : (row : Option Change) (rows : List Change) → Row row → Each At rows → Each At (cons_option row rows)
  front None rows one all = all
  front (Some row) rows one all = each_append At (row ∷ []) rows one all

  pub rows_are : (ns : List (List ℕ)) → Each At (filter_map (change (named files) p.region plan) ns)
  rows_are [] = tt
  rows_are (n ∷ ns) = front (change (named files) p.region plan n) (filter_map (change (named files) p.region plan) ns) (change_is n) (rows_are ns)

  pub changes_are : Each At (changes_by files p plan)
  unfolding changes
  changes_are = rows_are (valid_names files)

-- the cache's name is not valid
pub cache_own : is_valid_name cache ≡ false
unfolding is_valid_name is_name_byte is_own_name
cache_own = refl

-- but a row may have it
pub cache_row_name : is_row_name cache ≡ true
cache_row_name = ap (λ (b : Bool). b || same cache own.cache) cache_own ∙ itself cache

-- ---- the names

abbrev one_of : List (List ℕ) → List ℕ → Bool
one_of ks n = list_any (λ k. bytes_eq k n) ks

one_valid : (n : List ℕ) (ks : List (List ℕ)) → is_valid_name n ≡ true → one_of (filter is_valid_name ks) n ≡ one_of ks n
one_valid n [] valid = refl
one_valid n (k ∷ ks) valid = elim (cases_Bool (bytes_eq k n)) [
  | inl hit ↦ let other : is_valid_name k ≡ true = ap is_valid_name ((bytes_eq-Decides k n).0 hit) ∙ valid in rw (other, hit) refl
  | inr miss ↦ elim (cases_Bool (is_valid_name k)) [
    | inl fine ↦ rw (fine, miss) (one_valid n ks valid)
    | inr bad ↦ rw (bad, miss) (one_valid n ks valid)
  ]
]

one_key : (files : Files) (n : List ℕ) → one_of (keys files) n ≡ is_some (get files n)
one_key files n = any_same (λ k. bytes_eq k n) (eq_by_cmp (slice_cmp nat_cmp) n) (keys files) (λ k. bytes_flip k n ∙ texts_ties n k) ∙ sym (contains_key-keys files n)

no_some : (o : Option (List ℕ)) → is_some o ≡ false → o ≡ None
no_some None e = refl
no_some (Some x) e = absurd (true≢false e)

pub are_names : (files : Files) → AreNames (named files) (valid_names files)
are_names files n missing = elim (cases_Bool (is_valid_name n)) [
  | inl valid ↦ ap (λ (b : Bool). if b then get files n else None) valid ∙ no_some (get files n) (sym (one_valid n (keys files) valid ∙ one_key files n) ∙ missing)
  | inr invalid ↦ ap (λ (b : Bool). if b then get files n else None) invalid
]
