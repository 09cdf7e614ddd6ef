-- A run that prelinks everything is safe, and leaves each name its original.
use Rattle.std.proofs.Common.{◌≡◌, ℕ, ◌+◌, Bool, true, false, List, [], ◌∷◌, ◌++◌, Option, Some, None, Result, Ok, refl, sym, ap, subst, ◌∙◌, inl, inr, ⊎_elim}
use Rattle.std.specs.Prelude.{◌⊎◌, ◌&&◌, is_some, not, if◌then◌else◌}
use Rattle.std.specs.Cmp.Lexicographic.{slice_cmp, texts_ties}
use Rattle.std.specs.FinMap.{contains_key-keys, get, keys}
use Rattle.std.specs.List.{AllByRecursion, cons_option, filter_map}
use Rattle.std.specs.Option.{option_map}
use Rattle.std.specs.Ordering.{eq_by_cmp, nat_cmp}
use Rattle.std.specs.Str.{bytes_eq}
use Rattle.std.proofs.lemmas.Bool.{cases_Bool, cond-false, cond-true, true≢false}
use Rattle.pl_base.specs.Answers.{◌>>=◌, because, unless}
use Rattle.pl_base.specs.Files.{Files}
use Rattle.pl_base.specs.Names.{is_own_name, is_valid_name}
use Rattle.pl_base.proofs.FindLaws.{any_same}
use Rattle.pl_base.proofs.TestLaws.{bytes_flip}
use Rattle.pl_base.proofs.AnswerLaws.{because_ok, bind_ok, ok_same, unless_ok}
use Rattle.pl_cache.specs.Spelling.{cache_bytes, is_cache}
use Rattle.pl_cache.specs.declared.cache.Cache.{Cache}
use Rattle.pl_elf.specs.declared.range.Range.{Range}
use Rattle.pl_folder.specs.Disk.{Name, View, same}
use Rattle.pl_form.specs.Files.{original_in}
use Rattle.pl_journal.specs.Meaning.{mixed}
use Rattle.pl_journal.specs.declared.change.Change.{Change}
use Rattle.pl_journal.specs.declared.change.Change.TheVariants.{Put, Drop}
use Rattle.pl_journal.proofs.NameLemmas.{equal, valid_not_own}
use Rattle.pl_rewrite.specs.Plans.{planned}
use Rattle.pl_rewrite.specs.Plans.{RunPlan}
use Rattle.pl_rewrite.specs.Changes.{change, changes, is_file, next, next_cache}
use Rattle.pl_rewrite.specs.Changes as rewriting
use Rattle.pl_rewrite.specs.Laws.{AreNames, IsMixed}
use Rattle.pl_rewrite.specs.Rewriting.{rewrite, rewritten}
use Rattle.pl_rewrite.specs.declared.rewriting.Rewritten.{Rewritten}
use Rattle.pl_rewrite.proofs.NamedLaws.{passed_at}
use Rattle.pl_rewrite.proofs.SoundLaws as laws
use Rattle.pl_scope.specs.Members.{has}
use Rattle.law_sound.specs.Rule as sound
use Rattle.law_sound.proofs.Matching.{and_both}
use Rattle.pl_batch.specs.All.{all_changes, all_made, asked_of, made_of_folder, made_of, made_with_cache, of_planning, put_cache, spelled, with_cache}
use Rattle.pl_batch.specs.Folder as folder
use Rattle.pl_change.specs.Folder.{all_files, cache, cache_file, cache_in, valid_names}
use Rattle.pl_batch.specs.Folder.{are_large}
use Rattle.pl_change.specs.Names.{are_many}
use Rattle.pl_change.specs.declared.cause.Cause.TheVariants as causes
use Rattle.pl_batch.specs.declared.prelinking.Prelinking.{Prelinking}
use Rattle.law_folder.specs.Originals.{SameOriginals}
use Rattle.law_folder.specs.Safe.{AreSafe}
use Rattle.law_folder.specs.Sound.{KeepsTheRule, named}
use Rattle.law_folder.proofs.OriginalLemmas.{KeepsOriginal, rows_keep}
use Rattle.law_folder.proofs.SoundLemmas.{named_other, named_valid}

-- ---- the rows of a run

-- the plan by which the rows are those of a run over the files under valid names, behind the row of the cache
pub record IsMade (fs : Files) (p : Prelinking) (rows : List Change) : Type 0 where
  pub old : List ℕ
  pub cached : Cache
  pub found : cache_file fs ≡ Ok old
  pub says : cache_in old ≡ Ok cached
  pub plan : RunPlan
  pub planned : planned (folder.named fs) (valid_names fs) (asked_of p cached) ≡ Ok plan
  pub are : rows ≡ put_cache old (cache_bytes (next_cache (folder.named fs) (valid_names fs) p.region cached.last plan)) ++ changes (folder.named fs) (valid_names fs) p.region plan
  pub is_spelled : is_cache (next_cache (folder.named fs) (valid_names fs) p.region cached.last plan) ≡ true

view : {A B E : Type 0} (r : Result A E) (f : A → B) (x : A) (y : B) → r ≡ Ok x → ◌≡◌ {A = Result B E} (Ok (f x)) (Ok y) → (r >>= λ z. Ok (f z)) ≡ Ok y
view {A = A} {E = E} r f x y is same = ap (λ (q : Result A E). q >>= λ z. Ok (f z)) is ∙ same

spelled_rows : (old : List ℕ) (w : Rewritten) (rows : List Change) → (spelled old w >>= λ m. Ok m.rows) ≡ Ok rows → (is_cache w.cache ≡ true) × (rows ≡ put_cache old (cache_bytes w.cache) ++ w.rows)
unfolding spelled
spelled_rows old w rows is = by (is_cache w.cache) refl is
  where
    by : (b : Bool) → is_cache w.cache ≡ b → (unless (not b) causes.BadCache (Ok (with_cache old w)) >>= λ m. Ok m.rows) ≡ Ok rows → (is_cache w.cache ≡ true) × (rows ≡ put_cache old (cache_bytes w.cache) ++ w.rows)
    by true spelled is = (spelled, sym (ok_same (with_cache old w).rows rows is))
    by false spelled is = absurd cc

of_made : (fs : Files) (p : Prelinking) (old : List ℕ) (c : Cache) (rows : List Change) → cache_file fs ≡ Ok old → cache_in old ≡ Ok c → (made_of (folder.named fs) (valid_names fs) p old c >>= λ m. Ok m.rows) ≡ Ok rows → IsMade fs p rows
unfolding made_of rewrite
of_made fs p old c rows found says is =
    let a = asked_of p c in
    let f = folder.named fs in
    let ns = valid_names fs in
    let m = bind_ok (because of_planning (rewrite f ns a) >>= spelled old) (λ m. Ok m.rows) rows is in
    let w = bind_ok (because of_planning (rewrite f ns a)) (spelled old) m.0 m.1 in
    let r = bind_ok (planned f ns a) (λ (q : RunPlan). Ok (rewritten f ns a q)) w.0 (because_ok of_planning (rewrite f ns a) w.0 w.1) in
    let same : w.0 ≡ rewritten f ns a r.0 = sym (ok_same (rewritten f ns a r.0) w.0 r.2) in
    let parts = spelled_rows old w.0 rows (view (spelled old w.0) (λ m. m.rows) m.0 rows w.2 m.2) in
    record {
      old = old;
      cached = c;
      found = found;
      says = says;
      plan = r.0;
      planned = r.1;
      are = parts.1 ∙ ap (λ (x : Rewritten). put_cache old (cache_bytes x.cache) ++ x.rows) same;
      is_spelled = subst (λ (x : Rewritten). is_cache x.cache ≡ true) same parts.0;
    }

pub made : (fs : Files) (p : Prelinking) (rows : List Change) → all_changes fs p ≡ Ok rows → IsMade fs p rows
unfolding all_changes all_made made_of_folder made_with_cache
made fs p rows is =
    let all = bind_ok (all_made fs p) (λ m. Ok m.rows) rows is in
    let few = unless_ok (are_many (keys fs)) causes.TooManyFiles (made_of_folder fs p) all.0 all.1 in
    let old = bind_ok (cache_file fs) (λ old. cache_in old >>= λ c. made_with_cache fs p old c) all.0 few.1 in
    let c = bind_ok (cache_in old.0) (made_with_cache fs p old.0) all.0 old.2 in
    let bytes = bind_ok (all_files fs (valid_names fs)) (λ bytes. unless (are_large bytes) causes.FolderTooLarge (made_of (folder.named fs) (valid_names fs) p old.0 c.0)) all.0 c.2 in
    let small = unless_ok (are_large bytes.0) causes.FolderTooLarge (made_of (folder.named fs) (valid_names fs) p old.0 c.0) all.0 bytes.2 in
    of_made fs p old.0 c.0 rows old.1 c.1 (view (made_of (folder.named fs) (valid_names fs) p old.0 c.0) (λ m. m.rows) all.0 rows small.1 all.2)

-- ---- what each row is

-- a valid name gets the run's file
abbrev pub IsNext : (Name → Option (List ℕ)) → Change → Type 0
IsNext f (Put name bytes) = is_valid_name name ≡ true → f name ≡ Some bytes
IsNext f (Drop name) = ⊥

module _ (P : Change → Type 0) where
  joined_all : (xs ys : List Change) → AllByRecursion P xs → AllByRecursion P ys → AllByRecursion P (xs ++ ys)
  joined_all [] ys all more = more
  joined_all (x ∷ xs) ys all more = (all.0, joined_all xs ys all.1 more)

next_row : (f : sound.Files) (region : Range) (p : RunPlan) (n : Name) (o : Option (List ℕ)) (rest : List Change) → next f region p n ≡ o → AllByRecursion (IsNext (next f region p)) rest → AllByRecursion (IsNext (next f region p)) (cons_option (rewriting.put (f n) n o) rest)
next_row f region p n None rest is all = all
next_row f region p n (Some bytes) rest is all = by (is_file (f n) bytes)
  where
    by : (b : Bool) → AllByRecursion (IsNext (next f region p)) (cons_option (if b then None else Some (Put n bytes)) rest)
    by true = all
    by false = (λ valid. is, all)

next_rows : (f : sound.Files) (region : Range) (p : RunPlan) (ns : List (List ℕ)) → AllByRecursion (IsNext (next f region p)) (filter_map (change f region p) ns)
next_rows f region p [] = tt
next_rows f region p (n ∷ ns) = next_row f region p n (next f region p n) (filter_map (change f region p) ns) refl (next_rows f region p ns)

all_next : (f : sound.Files) (ns : List (List ℕ)) (region : Range) (p : RunPlan) → AllByRecursion (IsNext (next f region p)) (changes f ns region p)
unfolding changes
all_next f ns region p = next_rows f region p ns

pub cache_own : is_own_name cache ≡ true
unfolding is_own_name
cache_own = refl

cache_row : (f : Name → Option (List ℕ)) (old new : List ℕ) → AllByRecursion (IsNext f) (put_cache old new)
cache_row f old new = by (bytes_eq old new)
  where
    by : (b : Bool) → AllByRecursion (IsNext f) (if b then [] else Put cache new ∷ [])
    by true = tt
    by false = (λ valid. absurd (true≢false (sym cache_own ∙ valid_not_own cache valid)), tt)

pub made_next : (fs : Files) (p : Prelinking) (rows : List Change) (m : IsMade fs p rows) → AllByRecursion (IsNext (next (folder.named fs) p.region m.plan)) rows
made_next fs p rows m =
    let f = next (folder.named fs) p.region m.plan in
    subst (AllByRecursion (IsNext f)) (sym m.are)
    (joined_all (IsNext f) (put_cache m.old (cache_bytes (next_cache (folder.named fs) (valid_names fs) p.region m.cached.last m.plan))) (changes (folder.named fs) (valid_names fs) p.region m.plan) (cache_row f m.old (cache_bytes (next_cache (folder.named fs) (valid_names fs) p.region m.cached.last m.plan))) (all_next (folder.named fs) (valid_names fs) p.region m.plan))

-- ---- the names

key_there : (fs : Files) (n : Name) → has (keys fs) n ≡ is_some (get fs n)
key_there fs n = any_same (λ k. bytes_eq k n) (eq_by_cmp (slice_cmp nat_cmp) n) (keys fs) (λ k. bytes_flip k n ∙ texts_ties n k) ∙ sym (contains_key-keys fs n)

pub names_are : (fs : Files) → AreNames (named (get fs)) (valid_names fs)
names_are fs n missing = elim (cases_Bool (is_valid_name n)) [
  | inl valid ↦ named_valid (get fs) n valid ∙ by valid (get fs n) refl
  | inr other ↦ named_other (get fs) n other
]
  where
    by : is_valid_name n ≡ true → (o : Option (List ℕ)) → get fs n ≡ o → o ≡ None
    by valid None is = refl
    by valid (Some file) is =
        let there : has (keys fs) n ≡ true = key_there fs n ∙ ap (λ (o : Option (List ℕ)). is_some o) is in
        absurd (true≢false (sym valid ∙ (sym (passed_at is_valid_name n (keys fs) there) ∙ missing)))

-- ---- mixtures

mixed_next : (f : Name → Option (List ℕ)) (i : ℕ) (rows : List Change) (keep : ℕ → Bool) (v : View) (n : Name) → is_valid_name n ≡ true → AllByRecursion (IsNext f) rows → (mixed i rows keep v n ≡ v n) ⊎ (mixed i rows keep v n ≡ f n)
mixed_next f i [] keep v n valid all = inl refl
mixed_next f i (Put name bytes ∷ rows) keep v n valid all = elim (cases_Bool (keep i && same n name)) [
  | inl hit ↦
      let is : n ≡ name = equal n name (and_both (keep i) (same n name) hit).1 in
      inr (cond-true (keep i && same n name) (Some bytes) (mixed (i + 1) rows keep v n) hit ∙ (sym (all.0 (subst (λ (m : Name). is_valid_name m ≡ true) is valid)) ∙ ap f (sym is)))
  | inr miss ↦
      let rest : mixed i (Put name bytes ∷ rows) keep v n ≡ mixed (i + 1) rows keep v n = cond-false (keep i && same n name) (Some bytes) (mixed (i + 1) rows keep v n) miss in
      ⊎_elim (λ was. inl (rest ∙ was)) (λ now. inr (rest ∙ now)) (mixed_next f (i + 1) rows keep v n valid all.1)
]
mixed_next f i (Drop name ∷ rows) keep v n valid all = absurd all.0

-- a name that is not valid gets no file
pub next_none : (f : sound.Files) (region : Range) (p : RunPlan) (n : Name) → f n ≡ None → next f region p n ≡ None
next_none f region p n none = none_of (next f region p n) (laws.names_stay f region p n ∙ ap (λ (o : Option (List ℕ)). is_some o) none)
  where
    none_of : (o : Option (List ℕ)) → is_some o ≡ false → o ≡ None
    none_of None is = refl
    none_of (Some x) is = absurd (true≢false is)

is_mixed : (fs : Files) (region : Range) (p : RunPlan) (rows : List Change) (keep : ℕ → Bool) → AllByRecursion (IsNext (next (folder.named fs) region p)) rows → IsMixed (named (get fs)) region p (named (mixed 0 rows keep (get fs)))
is_mixed fs region p rows keep all n = elim (cases_Bool (is_valid_name n)) [
  | inl valid ↦ ⊎_elim
      (λ was. inl (named_valid (mixed 0 rows keep (get fs)) n valid ∙ (was ∙ sym (named_valid (get fs) n valid))))
      (λ now. inr (named_valid (mixed 0 rows keep (get fs)) n valid ∙ now))
      (mixed_next (next (folder.named fs) region p) 0 rows keep (get fs) n valid all)
  | inr other ↦ inl (named_other (mixed 0 rows keep (get fs)) n other ∙ sym (named_other (get fs) n other))
]

pub all_safe : (fs : Files) (p : Prelinking) (rows : List Change) → all_changes fs p ≡ Ok rows → KeepsTheRule (get fs) → AreSafe rows (get fs)
all_safe fs p rows is rule keep =
    let m = made fs p rows is in
    laws.mixtures_keep_the_rule (named (get fs)) (valid_names fs) (asked_of p m.cached) m.plan (named (mixed 0 rows keep (get fs))) (names_are fs) m.planned rule (is_mixed fs p.region m.plan rows keep (made_next fs p rows m))

-- ---- originals

next_original : (fs : Files) (region : Range) (p : RunPlan) (c : Change) → IsNext (next (folder.named fs) region p) c → KeepsOriginal (get fs) c
next_original fs region p (Put name bytes) is = λ valid.
    let a = laws.originals_stay (folder.named fs) region p name bytes (is valid) in
    ap (option_map original_in) (sym (named_valid (get fs) name valid) ∙ a.1) ∙ ap (λ (x : List ℕ). Some x) (sym a.2)
next_original fs region p (Drop name) is = absurd is

each_original : (fs : Files) (region : Range) (p : RunPlan) (rows : List Change) → AllByRecursion (IsNext (next (folder.named fs) region p)) rows → AllByRecursion (KeepsOriginal (get fs)) rows
each_original fs region p [] all = tt
each_original fs region p (c ∷ rows) all = (next_original fs region p c all.0, each_original fs region p rows all.1)

pub all_originals : (fs : Files) (p : Prelinking) (rows : List Change) → all_changes fs p ≡ Ok rows → (keep : ℕ → Bool) → SameOriginals (mixed 0 rows keep (get fs)) (get fs)
all_originals fs p rows is =
    let m = made fs p rows is in
    rows_keep rows (get fs) (each_original fs p.region m.plan rows (made_next fs p rows m))
