-- The rows of each command fit a journal.
use Rattle.std.proofs.Common.{◌≡◌, ◌≤◌, ℕ, Bool, true, false, cond, List, [], ◌∷◌, ◌++◌, Option, Some, None, refl, sym, ◌∙◌, subst, inl, arith, append_assoc}
use Rattle.std.proofs.lemmas.Bool.{ltb-false}
use Rattle.std.proofs.lemmas.List.{append-nil}
use Rattle.std.proofs.lemmas.List.Sums.{length-filter}
use Rattle.std.specs.FinMap.{keys}
use Rattle.std.specs.List.{IsDistinct, cons_option, filter_map}
use Rattle.std.specs.Prelude.{Result, Ok, Err, count_by, filter, if◌then◌else◌, length, not}
use Rattle.std.specs.Str.{bytes_eq}
use Rattle.pl_base.specs.Answers.{◌>>=◌, unless}
use Rattle.pl_base.specs.Each.{run}
use Rattle.pl_base.specs.Files.{Files}
use Rattle.pl_base.specs.Names.{is_valid_name}
use Rattle.pl_base.proofs.AnswerLaws.{bind_ok, ok_same, refuse_ok, unless_ok}
use Rattle.pl_folder.specs.Disk.{Name}
use Rattle.pl_folder.specs.Taken.{taken}
use Rattle.pl_form.specs.Files.{file_in}
use Rattle.pl_form.specs.declared.fault.FileFault.{FileFault}
use Rattle.pl_form.specs.declared.fault.FileFault.TheVariants as unread
use Rattle.pl_form.specs.declared.file.File.{File}
use Rattle.pl_form.specs.declared.file.File.TheVariants.{Marked, Plain}
use Rattle.pl_journal.specs.declared.change.Change.{Change}
use Rattle.pl_journal.specs.declared.change.Change.TheVariants.{Drop, Put}
use Rattle.pl_rewrite.specs.Plans.{RunPlan}
use Rattle.pl_rewrite.specs.Changes.{change, changes}
use Rattle.pl_batch.specs.All.{all_made, made_of_folder, put_cache}
use Rattle.pl_change.specs.Changes.{fitting}
use Rattle.pl_change.specs.Folder.{cache, valid_names}
use Rattle.pl_batch.specs.Folder.{named}
use Rattle.pl_change.specs.Names.{are_many, file_of, has_name, is_full}
use Rattle.pl_change.specs.Store.{installed, is_file, put, removed, stored_as}
use Rattle.pl_change.specs.Undo.{added, all_pass, all_undone, asked_row, form_row, if_asked, if_valid, rows_of, undo_any, undo_asked, undone, with_row}
use Rattle.pl_change.specs.declared.cause.Cause.{Cause}
use Rattle.pl_change.specs.declared.cause.Cause.TheVariants.{BadName, NotThere, TooManyFiles}
use Rattle.pl_batch.specs.declared.prelinking.Prelinking.{Prelinking}
use Rattle.pl_batch.specs.declared.run.Run.TheVariants.{All, Install, Undo, UndoAll}
use Rattle.pl_batch.specs.All.{all_changes}
use Rattle.pl_change.proofs.OrderLemmas.{distinct_from, keys_ascend}
use Rattle.law_folder.specs.Fits.{RemovalsFit, ReplacementsFit, RunsFit}
use Rattle.law_folder.proofs.NextLemmas.{RowAt, row_at}
use Rattle.law_folder.proofs.FollowLemmas.{Follow, follow_fits, follow_more, name_in, none_is, row_name, valid_names_are}
use Rattle.law_folder.proofs.PlanLemmas as plans

-- ---- how many names are valid

pub few_names : (files : Files) → are_many (keys files) ≡ false → length (valid_names files) ≤ 1024
unfolding are_many
few_names files few = omega (arith, length-filter is_valid_name (keys files), ltb-false 1024 (count_by is_valid_name (keys files)) few)

distinct_names : (files : Files) → IsDistinct bytes_eq (valid_names files)
distinct_names files = distinct_from is_valid_name (keys files) (keys_ascend files)

-- rows of valid names
named_fit : (files : Files) (rows : List Change) → are_many (keys files) ≡ false → Follow rows (valid_names files) → fitting rows ≡ Ok rows
named_fit files rows few follow =
    follow_fits rows (valid_names files) follow (valid_names_are (keys files)) (distinct_names files) (omega (arith, few_names files few))

-- behind the row of the cache
cached_fit : (files : Files) (rows : List Change) (bytes : List ℕ) → are_many (keys files) ≡ false → Follow rows (valid_names files) → fitting (Put cache bytes ∷ rows) ≡ Ok (Put cache bytes ∷ rows)
unfolding IsDistinct
cached_fit files rows bytes few follow =
    follow_fits (Put cache bytes ∷ rows) (cache ∷ valid_names files) (inl (refl, follow))
    (plans.cache_row_name, valid_names_are (keys files))
    (none_is cache (keys files) plans.cache_own, distinct_names files)
    (omega (arith, few_names files few))

-- ---- a run that prelinks everything

module _ (files : Files) (p : Prelinking) (plan : RunPlan) where
  row_follows : (n : Name) (row : Option Change) (rows : List Change) (ns : List Name) → RowAt files p plan n row → Follow rows ns → Follow (cons_option row rows) (n ∷ ns)
  row_follows n None rows ns at follow = follow_more rows n ns follow
  row_follows n (Some (Put m bytes)) rows ns at follow = inl (at.0, follow)
  row_follows n (Some (Drop m)) rows ns at follow = absurd at

  rows_follow : (ns : List Name) → Follow (filter_map (change (named files) p.region plan) ns) ns
  rows_follow [] = tt
  rows_follow (n ∷ ns) = row_follows n (change (named files) p.region plan n) (filter_map (change (named files) p.region plan) ns) ns (row_at files p plan n) (rows_follow ns)

  changes_follow : Follow (plans.changes_by files p plan) (valid_names files)
  unfolding changes
  changes_follow = rows_follow (valid_names files)

  all_fit : (old new : List ℕ) → are_many (keys files) ≡ false → fitting (put_cache old new ++ plans.changes_by files p plan) ≡ Ok (put_cache old new ++ plans.changes_by files p plan)
  all_fit old new few = by_test (bytes_eq old new)
    where
      by_test : (b : Bool) → fitting ((if b then [] else Put cache new ∷ []) ++ plans.changes_by files p plan) ≡ Ok ((if b then [] else Put cache new ∷ []) ++ plans.changes_by files p plan)
      by_test true = named_fit files (plans.changes_by files p plan) few changes_follow
      by_test false = cached_fit files (plans.changes_by files p plan) new few changes_follow

few_of : (files : Files) (p : Prelinking) (rows : List Change) → all_changes files p ≡ Ok rows → are_many (keys files) ≡ false
unfolding all_changes all_made
few_of files p rows e =
    let step = bind_ok (all_made files p) (λ made. Ok made.rows) rows e in
    (unless_ok (are_many (keys files)) TooManyFiles (made_of_folder files p) step.0 step.1).0

prelinking_fits : (files : Files) (p : Prelinking) (rows : List Change) → all_changes files p ≡ Ok rows → fitting rows ≡ Ok rows
prelinking_fits files p rows e =
    let is = plans.all_planned files p rows e in
    subst (λ (rs : List Change). fitting rs ≡ Ok rs) (sym is.are) (all_fit files p is.plan is.old _ (few_of files p rows e))

-- ---- undoing

-- the row of a name is of that name, which is valid
abbrev IsOf : Name → Option Change → Type 0
IsOf n None = Unit {0}
IsOf n (Some row) = (name_in row ≡ n) × (is_valid_name n ≡ true)

abbrev RowsAreOf : (Name → Result (Option Change) Cause) → Type 0
RowsAreOf row = (n : Name) (more : Option Change) → row n ≡ Ok more → IsOf n more

record Follows (so_far rows : List Change) (ns : List Name) : Type 0 where
  more : List Change
  are : rows ≡ so_far ++ more
  follow : Follow more (filter is_valid_name ns)

one_more : (so_far rows : List Change) (n : Name) (ns : List Name) (more : Option Change) → IsOf n more → Follows (added so_far more) rows ns → Follows so_far rows (n ∷ ns)
one_more so_far rows n ns None is next = record { more = next.more; are = next.are; follow = by_test (is_valid_name n) }
  where
    by_test : (b : Bool) → Follow next.more (cond b (n ∷ filter is_valid_name ns) (filter is_valid_name ns))
    by_test true = follow_more next.more n (filter is_valid_name ns) next.follow
    by_test false = next.follow
one_more so_far rows n ns (Some row) is next = record {
  more = row ∷ next.more;
  are = next.are ∙ append_assoc so_far (row ∷ []) next.more;
  follow = subst (λ (b : Bool). Follow (row ∷ next.more) (cond b (n ∷ filter is_valid_name ns) (filter is_valid_name ns))) (sym is.1) (inl (is.0, next.follow));
}

run_follows : (row : Name → Result (Option Change) Cause) → RowsAreOf row → (ns : List Name) (so_far rows : List Change) → run (with_row row) so_far ns ≡ Ok rows → Follows so_far rows ns
unfolding run
run_follows row of [] so_far rows e = record { more = []; are = sym (ok_same so_far rows e) ∙ sym (append-nil so_far); follow = tt }
run_follows row of (n ∷ ns) so_far rows e =
    let step = bind_ok (with_row row so_far n) (λ t. run (with_row row) t ns) rows e in
    let found = bind_ok (row n) (λ more. Ok (added so_far more)) step.0 step.1 in
    let next : Follows (added so_far found.0) rows ns = subst (λ (rs : List Change). Follows rs rows ns) (sym (ok_same (added so_far found.0) step.0 found.2)) (run_follows row of ns step.0 rows step.2) in
    one_more so_far rows n ns found.0 (of n found.0 found.1) next

rows_follow_names : (row : Name → Result (Option Change) Cause) → RowsAreOf row → (ns : List Name) (rows : List Change) → rows_of row ns ≡ Ok rows → Follow rows (filter is_valid_name ns)
unfolding rows_of
rows_follow_names row of ns rows e =
    let all = run_follows row of ns [] rows e in
    subst (λ (rs : List Change). Follow rs (filter is_valid_name ns)) (sym all.are) all.follow

form_is : (n : Name) → is_valid_name n ≡ true → (r : Result File FileFault) (row : Option Change) → form_row n r ≡ row → IsOf n row
form_is n valid (Ok (Plain x)) row e = subst (λ (o : Option Change). IsOf n o) e tt
form_is n valid (Ok (Marked m)) row e = subst (λ (o : Option Change). IsOf n o) e (refl, valid)
form_is n valid (Err fault) row e = subst (λ (o : Option Change). IsOf n o) e tt

asked_is : (n : Name) → is_valid_name n ≡ true → (r : Result File FileFault) (row : Option Change) → asked_row n r ≡ Ok row → IsOf n row
asked_is n valid (Ok file) row e = form_is n valid (Ok file) row (ok_same (form_row n (Ok file)) row e)
asked_is n valid (Err unread.BadMark) row e = absurd cc
asked_is n valid (Err (unread.Refused refusal)) row e = subst (λ (o : Option Change). IsOf n o) (ok_same None row e) tt

undo_asked_is : (files : Files) (n : Name) (row : Option Change) → undo_asked files n ≡ Ok row → IsOf n row
unfolding undo_asked
undo_asked_is files n row e =
    let valid = refuse_ok (is_valid_name n) BadName (file_of files n >>= λ bytes. asked_row n (file_in bytes)) row e in
    let found = bind_ok (file_of files n) (λ bytes. asked_row n (file_in bytes)) row valid.1 in
    asked_is n valid.0 (file_in found.0) row found.2

if_asked_is : (files : Files) (asked : List Name) → RowsAreOf (if_asked asked files)
if_asked_is files asked n row e = by_test (has_name n asked) e
  where
    by_test : (b : Bool) → (if b then undo_asked files n else Ok None) ≡ Ok row → IsOf n row
    by_test true is = undo_asked_is files n row is
    by_test false is = subst (λ (o : Option Change). IsOf n o) (ok_same None row is) tt

undo_any_is : (files : Files) (n : Name) → is_valid_name n ≡ true → (row : Option Change) → undo_any files n ≡ Ok row → IsOf n row
unfolding undo_any
undo_any_is files n valid row e =
    let found = bind_ok (file_of files n) (λ bytes. Ok (form_row n (file_in bytes))) row e in
    form_is n valid (file_in found.0) row (ok_same (form_row n (file_in found.0)) row found.2)

if_valid_is : (files : Files) → RowsAreOf (if_valid files)
if_valid_is files n row e = by_test (is_valid_name n) refl e
  where
    by_test : (b : Bool) → is_valid_name n ≡ b → (if b then undo_any files n else Ok None) ≡ Ok row → IsOf n row
    by_test true valid is = undo_any_is files n valid row is
    by_test false invalid is = subst (λ (o : Option Change). IsOf n o) (ok_same None row is) tt

undone_fits : (files : Files) (asked : List Name) (rows : List Change) → undone files asked ≡ Ok rows → fitting rows ≡ Ok rows
unfolding undone
undone_fits files asked rows e =
    let few = unless_ok (are_many (keys files)) TooManyFiles (all_pass (undo_asked files) asked >>= λ u. rows_of (if_asked asked files) (keys files)) rows e in
    let pass = bind_ok (all_pass (undo_asked files) asked) (λ u. rows_of (if_asked asked files) (keys files)) rows few.1 in
    named_fit files rows few.0 (rows_follow_names (if_asked asked files) (if_asked_is files asked) (keys files) rows pass.2)

all_undone_fits : (files : Files) (rows : List Change) → all_undone files ≡ Ok rows → fitting rows ≡ Ok rows
unfolding all_undone
all_undone_fits files rows e =
    let few = unless_ok (are_many (keys files)) TooManyFiles (rows_of (if_valid files) (keys files)) rows e in
    named_fit files rows few.0 (rows_follow_names (if_valid files) (if_valid_is files) (keys files) rows few.1)

-- ---- storing and removing

one_fits : (row : Change) → is_valid_name (name_in row) ≡ true → fitting (row ∷ []) ≡ Ok (row ∷ [])
unfolding IsDistinct
one_fits row valid = follow_fits (row ∷ []) (name_in row ∷ []) (inl (refl, tt)) (row_name (name_in row) valid, tt) (tt, tt) (omega arith)

none_fits : fitting [] ≡ Ok []
unfolding IsDistinct
none_fits = follow_fits [] [] tt tt tt (omega arith)

put_fits : (name original : List ℕ) (b : Bool) → is_valid_name name ≡ true → fitting (if b then [] else Put name original ∷ []) ≡ Ok (if b then [] else Put name original ∷ [])
put_fits name original true valid = none_fits
put_fits name original false valid = one_fits (Put name original) valid

installed_fits : (files : Files) (name bytes : List ℕ) (rows : List Change) → installed files name bytes ≡ Ok rows → fitting rows ≡ Ok rows
unfolding installed
installed_fits files name bytes rows e =
    let valid = refuse_ok (is_valid_name name) BadName (stored_as name bytes (file_in bytes) >>= λ original. unless (is_full (keys files) name) TooManyFiles (Ok (put files name original))) rows e in
    let stored = bind_ok (stored_as name bytes (file_in bytes)) (λ original. unless (is_full (keys files) name) TooManyFiles (Ok (put files name original))) rows valid.1 in
    let room = unless_ok (is_full (keys files) name) TooManyFiles (Ok (put files name stored.0)) rows stored.2 in
    subst (λ (rs : List Change). fitting rs ≡ Ok rs) (ok_same (put files name stored.0) rows room.1) (put_fits name stored.0 (is_file (taken files name) stored.0) valid.0)

pub replacements_fit : ReplacementsFit
replacements_fit files name bytes valid = put_fits name bytes (is_file (taken files name) bytes) valid

pub removals_fit : RemovalsFit
unfolding removed
removals_fit files name rows e =
    let valid = refuse_ok (is_valid_name name) BadName (unless (not (has_name name (keys files))) (NotThere name) (Ok (Drop name ∷ []))) rows e in
    let there = unless_ok (not (has_name name (keys files))) (NotThere name) (Ok (Drop name ∷ [])) rows valid.1 in
    subst (λ (rs : List Change). fitting rs ≡ Ok rs) (ok_same (Drop name ∷ []) rows there.1) (one_fits (Drop name) valid.0)

pub runs_fit : RunsFit
runs_fit files (All asked) rows e = prelinking_fits files asked rows e
runs_fit files UndoAll rows e = all_undone_fits files rows e
runs_fit files (Undo names) rows e = undone_fits files names rows e
runs_fit files (Install name bytes) rows e = installed_fits files name bytes rows e
