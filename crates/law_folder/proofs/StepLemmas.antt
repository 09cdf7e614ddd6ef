-- Commands as steps of the history of a folder.
use Rattle.std.proofs.Common.{◌≡◌, ℕ, ◌+◌, Bool, true, false, cond, List, [], ◌∷◌, ◌++◌, Option, Some, None, Result, Ok, Err, refl, sym, ap, subst, ◌∙◌, inl, inr}
use Rattle.std.specs.Prelude.{filter, length, nat_le, if◌then◌else◌}
use Rattle.std.specs.FinMap.{get, keys}
use Rattle.std.specs.List.{AllByRecursion, cons_option, filter_map}
use Rattle.std.specs.Str.{bytes_eq}
use Rattle.std.proofs.lemmas.Bool.{cases_Bool, cond-false, cond-true, true≢false}
use Rattle.std.proofs.lemmas.Option.{none-some}
use Rattle.pl_base.specs.Files.{Files}
use Rattle.pl_base.specs.Names.{is_valid_name}
use Rattle.pl_base.proofs.AnswerLaws.{because_ok, ok_same}
use Rattle.pl_cache.specs.Reading.{read}
use Rattle.pl_cache.specs.Spelling.{cache_bytes, is_cache}
use Rattle.pl_cache.specs.declared.cache.Cache.{Cache}
use Rattle.pl_cache.proofs.CacheLaws.{read_again}
use Rattle.pl_conflict.specs.Format.{format}
use Rattle.pl_conflict.proofs.FormatLaws.{format_kept}
use Rattle.pl_elf.specs.declared.range.Range.{Range}
use Rattle.pl_folder.specs.Disk.{Name, View, same}
use Rattle.pl_folder.specs.declared.TheConstants.{STORED}
use Rattle.pl_folder.proofs.ImageLaws.{itself}
use Rattle.pl_form.specs.Files.{original_in}
use Rattle.pl_journal.specs.Meaning.{applied, mixed}
use Rattle.pl_journal.specs.declared.change.Change.{Change}
use Rattle.pl_journal.specs.declared.change.Change.TheVariants.{Put, Drop}
use Rattle.pl_journal.proofs.NameLemmas.{equal, valid_not_own}
use Rattle.pl_rewrite.specs.Skipped.{skip_causes}
use Rattle.pl_rewrite.specs.Plans.{RunPlan}
use Rattle.pl_rewrite.specs.Changes.{change, changes, is_file, next, next_cache}
use Rattle.pl_rewrite.specs.Changes as rewriting
use Rattle.pl_rewrite.specs.History.{Transition}
use Rattle.pl_rewrite.proofs.HistoryLaws as history
use Rattle.pl_scope.proofs.NameLaws.{same_name}
use Rattle.law_sound.proofs.Theorems as theorems
use Rattle.pl_batch.specs.All.{asked_of, put_cache}
use Rattle.pl_batch.specs.Changes.{changes_by}
use Rattle.pl_change.specs.Folder.{bad_cache, cache, cache_by, cache_file, cache_in, no_cache, valid_names}
use Rattle.pl_change.specs.Store as store
use Rattle.pl_folder.specs.Taken.{taken}
use Rattle.pl_change.specs.declared.cause.Cause.{Cause}
use Rattle.pl_change.specs.declared.cause.Cause.TheVariants as causes
use Rattle.pl_batch.specs.declared.prelinking.Prelinking.{Prelinking}
use Rattle.pl_batch.specs.declared.run.Run.{Run}
use Rattle.pl_batch.specs.declared.run.Run.TheVariants.{All, UndoAll, Undo, Install}
use Rattle.law_folder.specs.Sound.{KeepsTheRule, named}
use Rattle.law_folder.specs.Steps.{EmptyIsPastAll, HasLast, RemovalsMakeSteps, ReplacementsMakeSteps, RunsMakeSteps, StepsKeepPastAll, cache_or_none}
use Rattle.law_folder.proofs.AllLemmas.{IsMade, cache_own, made, names_are, next_none}
use Rattle.law_folder.proofs.EditLemmas.{IsBare, named_edit, put_bare, removal_parts, run_parts, undone_bare}
use Rattle.law_folder.proofs.ReplaceLemmas.{bare_mark, replacing_parts}
use Rattle.law_folder.proofs.RowLemmas.{OfUndone, all_undone_has, installed_is, original_bare, removed_is, undone_rows_have}
use Rattle.law_folder.proofs.SoundLemmas.{named_other, named_valid}

abbrev every : ℕ → Bool
every i = true

-- a valid name is not the cache's
not_cache : (n : Name) → is_valid_name n ≡ true → same n cache ≡ false
not_cache n valid = elim (cases_Bool (same n cache)) [
  | inl hit ↦ absurd (true≢false (sym cache_own ∙ valid_not_own cache (ap is_valid_name (sym (equal n cache hit)) ∙ valid)))
  | inr miss ↦ miss
]

cache_not : (n : Name) → is_valid_name n ≡ true → same cache n ≡ false
cache_not n valid = elim (cases_Bool (same cache n)) [
  | inl hit ↦ absurd (true≢false (sym cache_own ∙ valid_not_own cache (ap is_valid_name (equal cache n hit) ∙ valid)))
  | inr miss ↦ miss
]

-- ---- rows of valid names leave the cache

abbrev IsNamed : Change → Type 0
IsNamed (Put name bytes) = is_valid_name name ≡ true
IsNamed (Drop name) = is_valid_name name ≡ true

named_cache : (i : ℕ) (rows : List Change) (v : View) → AllByRecursion IsNamed rows → mixed i rows every v cache ≡ v cache
named_cache i [] v all = refl
named_cache i (Put name bytes ∷ rows) v all = cond-false (same cache name) (Some bytes) (mixed (i + 1) rows every v cache) (cache_not name all.0) ∙ named_cache (i + 1) rows v all.1
named_cache i (Drop name ∷ rows) v all = cond-false (same cache name) None (mixed (i + 1) rows every v cache) (cache_not name all.0) ∙ named_cache (i + 1) rows v all.1

last_kept : (v w : View) (last : ℕ) → w cache ≡ v cache → HasLast v last → HasLast w last
last_kept v w last is has = record { cached = has.cached; says = ap (λ (o : Option (List ℕ)). read (cache_or_none o)) is ∙ has.says; is = has.is }

-- an edit is a step
edit_step : (rows : List Change) (fs : Files) (last : ℕ) → AllByRecursion IsNamed rows → AllByRecursion IsBare rows → HasLast (get fs) last → (now : ℕ) × HasLast (applied rows (get fs)) now × Transition (named (get fs)) (named (applied rows (get fs))) last now
edit_step rows fs last all bare has = (last, last_kept (get fs) (applied rows (get fs)) last (named_cache 0 rows (get fs) all) has, inr (named_edit rows every (get fs) bare, refl))

undone_named : (fs : Files) → OfUndone IsNamed fs
undone_named fs name bytes m valid there read = valid

put_named : (b : Bool) (name bytes : List ℕ) → is_valid_name name ≡ true → AllByRecursion IsNamed (if b then [] else Put name bytes ∷ [])
put_named true name bytes valid = tt
put_named false name bytes valid = (valid, tt)

-- ---- a run that prelinks everything

-- rows of the files under valid names make the same of the whole folder there
same_made : (i j : ℕ) (rows : List Change) (v : View) (n : Name) → is_valid_name n ≡ true → mixed i rows every v n ≡ mixed j rows every (named v) n
same_made i j [] v n valid = sym (named_valid v n valid)
same_made i j (Put name bytes ∷ rows) v n valid = ap (cond (same n name) (Some bytes)) (same_made (i + 1) (j + 1) rows v n valid)
same_made i j (Drop name ∷ rows) v n valid = ap (cond (same n name) None) (same_made (i + 1) (j + 1) rows v n valid)

behind_cache : (old new : List ℕ) (rows : List Change) (v : View) (n : Name) → is_valid_name n ≡ true → applied (put_cache old new ++ rows) v n ≡ applied rows (named v) n
behind_cache old new rows v n valid = by (bytes_eq old new)
  where
    by : (b : Bool) → applied ((if b then [] else Put cache new ∷ []) ++ rows) v n ≡ applied rows (named v) n
    by true = same_made 0 0 rows v n valid
    by false = cond-false (same n cache) (Some new) (mixed 1 rows every v n) (not_cache n valid) ∙ same_made 1 0 rows v n valid

-- its rows are of valid names
row_named : (f : Name → Option (List ℕ)) (region : Range) (p : RunPlan) (n : Name) (o : Option (List ℕ)) (rest : List Change) → is_valid_name n ≡ true → AllByRecursion IsNamed rest → AllByRecursion IsNamed (cons_option (rewriting.put (f n) n o) rest)
row_named f region p n None rest valid all = all
row_named f region p n (Some bytes) rest valid all = by (is_file (f n) bytes)
  where
    by : (b : Bool) → AllByRecursion IsNamed (cons_option (if b then None else Some (Put n bytes)) rest)
    by true = all
    by false = (valid, all)

rows_named : (f : Name → Option (List ℕ)) (region : Range) (p : RunPlan) (ns : List (List ℕ)) → AllByRecursion IsNamed (filter_map (change f region p) (filter is_valid_name ns))
rows_named f region p [] = tt
rows_named f region p (n ∷ ns) = elim (cases_Bool (is_valid_name n)) [
  | inl valid ↦ rw valid (row_named f region p n (next f region p n) (filter_map (change f region p) (filter is_valid_name ns)) valid (rows_named f region p ns))
  | inr other ↦ rw other (rows_named f region p ns)
]

changes_named : (f : Name → Option (List ℕ)) (fs : Files) (region : Range) (p : RunPlan) → AllByRecursion IsNamed (changes f (valid_names fs) region p)
unfolding changes
changes_named f fs region p = rows_named f region p (keys fs)

-- the cache is the new one
cache_made : (old new : List ℕ) (rows : List Change) (v : View) → AllByRecursion IsNamed rows → cache_or_none (v cache) ≡ old → cache_or_none (applied (put_cache old new ++ rows) v cache) ≡ new
cache_made old new rows v all there = by (bytes_eq old new) refl
  where
    by : (b : Bool) → bytes_eq old new ≡ b → cache_or_none (applied ((if b then [] else Put cache new ∷ []) ++ rows) v cache) ≡ new
    by true is = ap cache_or_none (named_cache 0 rows v all) ∙ (there ∙ same_name old new is)
    by false is = ap cache_or_none (cond-true (same cache cache) (Some new) (mixed 1 rows every v cache) (itself cache))

found_old : (o : Option (List ℕ)) (old : List ℕ) → cache_by o ≡ Ok old → cache_or_none o ≡ old
found_old None old is = ok_same (cache_bytes no_cache) old is
found_old (Some bytes) old is = small (nat_le (length bytes) STORED) is
  where
    small : (b : Bool) → ◌≡◌ {A = Result (List ℕ) Cause} (if b then Ok bytes else Err causes.BadCache) (Ok old) → bytes ≡ old
    small true is = ok_same bytes old is
    small false is = absurd cc

file_found : (fs : Files) (old : List ℕ) → cache_file fs ≡ Ok old → cache_or_none (get fs cache) ≡ old
unfolding cache_file
file_found fs old is = found_old (get fs cache) old is

said : (old : List ℕ) (c : Cache) → cache_in old ≡ Ok c → read old ≡ Ok c
unfolding cache_in
said old c is = because_ok bad_cache (read old) c is

module _ (fs : Files) (p : Prelinking) (rows : List Change) (m : IsMade fs p rows) where
  abbrev f : Name → Option (List ℕ)
  f = named (get fs)

  abbrev new : Cache
  new = next_cache f (valid_names fs) p.region m.cached.last m.plan

  made_named : (n : Name) → next f p.region m.plan n ≡ named (applied rows (get fs)) n
  made_named n = elim (cases_Bool (is_valid_name n)) [
    | inl valid ↦
        sym (history.rows_make_the_files f (valid_names fs) p.region m.plan (names_are fs) n)
        ∙ (sym (behind_cache m.old (cache_bytes new) (changes f (valid_names fs) p.region m.plan) (get fs) n valid)
        ∙ (ap (λ (xs : List Change). applied xs (get fs) n) (sym m.are) ∙ sym (named_valid (applied rows (get fs)) n valid)))
    | inr other ↦ next_none f p.region m.plan n (named_other (get fs) n other) ∙ sym (named_other (applied rows (get fs)) n other)
  ]

  made_cache : cache_or_none (applied rows (get fs) cache) ≡ cache_bytes new
  made_cache =
      ap (λ (xs : List Change). cache_or_none (applied xs (get fs) cache)) m.are
      ∙ cache_made m.old (cache_bytes new) (changes f (valid_names fs) p.region m.plan) (get fs) (changes_named f fs p.region m.plan) (file_found fs m.old m.found)

  all_made : (last : ℕ) → KeepsTheRule (get fs) → HasLast (get fs) last → (now : ℕ) × HasLast (applied rows (get fs)) now × Transition f (named (applied rows (get fs))) last now
  all_made last rule has =
      let same : has.cached ≡ m.cached = ok_same has.cached m.cached (sym has.says ∙ (ap read (file_found fs m.old m.found) ∙ said m.old m.cached m.says)) in
      let last_is : m.cached.last ≡ last = ap (λ (c : Cache). c.last) (sym same) ∙ has.is in
      let path : next f p.region m.plan ≡ named (applied rows (get fs)) = λ i n. made_named n i in
      let step : Transition f (next f p.region m.plan) m.cached.last new.last = history.runs_are_steps f (valid_names fs) (asked_of p m.cached) m.plan (names_are fs) m.planned rule in (
        new.last,
        record { cached = new; says = ap read made_cache ∙ read_again new m.is_spelled; is = refl },
        subst (λ (l : ℕ). Transition f (named (applied rows (get fs))) l new.last) last_is (subst (λ (after : Name → Option (List ℕ)). Transition f after m.cached.last new.last) path step),
      )

-- ---- commands

by_run : (asked : Run) (fs : Files) (rows : List Change) (last : ℕ) → KeepsTheRule (get fs) → HasLast (get fs) last → changes_by fs asked ≡ Ok rows → (now : ℕ) × HasLast (applied rows (get fs)) now × Transition (named (get fs)) (named (applied rows (get fs))) last now
by_run (All p) fs rows last rule has is = all_made fs p rows (made fs p rows is) last rule has
by_run UndoAll fs rows last rule has is = edit_step rows fs last (all_undone_has IsNamed fs (undone_named fs) rows is) (all_undone_has IsBare fs (undone_bare fs) rows is) has
by_run (Undo names) fs rows last rule has is = edit_step rows fs last (undone_rows_have IsNamed fs (undone_named fs) names rows is) (undone_rows_have IsBare fs (undone_bare fs) names rows is) has
by_run (Install name bytes) fs rows last rule has is =
    let a = installed_is fs name bytes rows is in
    edit_step rows fs last
    (subst (AllByRecursion IsNamed) (sym a.1) (put_named (store.is_file (taken fs name) (original_in bytes)) name (original_in bytes) a.0))
    (subst (AllByRecursion IsBare) (sym a.1) (put_bare fs name (original_in bytes) (original_bare bytes)))
    has

pub runs_steps : RunsMakeSteps
runs_steps asked fs rows last rule has is = by_run asked fs rows last rule has (run_parts asked fs rows is).1

pub removals_steps : RemovalsMakeSteps
removals_steps name fs rows last rule has is =
    let a = removed_is fs name rows (removal_parts name fs rows is).1 in
    edit_step rows fs last (subst (AllByRecursion IsNamed) (sym a.1) (a.0, tt)) (subst (AllByRecursion IsBare) (sym a.1) (tt, tt)) has

pub replacements_steps : ReplacementsMakeSteps
replacements_steps make name bare fs rows last rule has is =
    let a = (replacing_parts make name fs rows is).1 in
    edit_step rows fs last
    (subst (AllByRecursion IsNamed) (sym a.are) (put_named (store.is_file (taken fs name) a.bytes) name a.bytes a.valid))
    (subst (AllByRecursion IsBare) (sym a.are) (put_bare fs name a.bytes (bare_mark a.bytes (bare a.original a.bytes a.made))))
    has

-- ---- the last stamp

no_named : (n file : List ℕ) → named (λ m. None) n ≡ Some file → ⊥
no_named n file there = elim (cases_Bool (is_valid_name n)) [
  | inl valid ↦ none-some file (sym (named_valid (λ m. None) n valid) ∙ there)
  | inr other ↦ none-some file (sym (named_other (λ m. None) n other) ∙ there)
]

empty_spelled : is_cache no_cache ≡ true
unfolding is_cache
empty_spelled = refl

pub empty_past : EmptyIsPastAll
empty_past = record {
  last = 0;
  has = record { cached = no_cache; says = read_again no_cache empty_spelled; is = refl };
  bounds = record { stamps = λ n file k there marked. absurd (no_named n file there); lists = λ n file k there marked. absurd (no_named n file there) };
}

pub steps_past : {C : Type 0} → StepsKeepPastAll C
steps_past meant makes fs rows rule past is =
    let s = makes fs rows past.last rule past.has is in
    let bounds = (theorems.histories (format skip_causes) (format_kept skip_causes) (named (applied rows (get fs))) (named (get fs) ∷ []) s.0 (past.last, (rule, past.bounds), s.2)).0 in
    record { last = s.0; has = s.1; bounds = bounds }
