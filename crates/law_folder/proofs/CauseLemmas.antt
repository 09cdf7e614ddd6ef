-- BadCache comes of the cache that is there.
use Rattle.std.proofs.Common.{◌≡◌, ℕ, Bool, true, false, List, [], ◌∷◌, Option, Some, None, refl, sym, ◌∙◌, ap, subst, ⊎_elim}
use Rattle.std.proofs.lemmas.Bool.{true≢false}
use Rattle.std.specs.FinMap.{get, keys}
use Rattle.std.specs.Prelude.{Result, Ok, Err, if◌then◌else◌, length, nat_le, not}
use Rattle.pl_base.specs.Answers.{◌>>=◌, because, unless}
use Rattle.pl_base.specs.Bytes.{IsBytes}
use Rattle.pl_base.specs.Each.{each}
use Rattle.pl_base.specs.Files.{Files}
use Rattle.pl_base.proofs.AnswerLaws.{because_err, because_ok, bind_err, ok_same}
use Rattle.pl_cache.specs.Reading.{read}
use Rattle.pl_cache.specs.Spelling.{cache_bytes, is_cache}
use Rattle.pl_cache.specs.declared.cache.Cache.{Cache}
use Rattle.pl_cache.proofs.CacheLaws.{read_again, read_takes}
use Rattle.pl_folder.specs.declared.TheConstants.{STORED}
use Rattle.pl_rewrite.specs.PlanningFault.{PlanningFault}
use Rattle.pl_rewrite.specs.PlanningFault.TheVariants as plan
use Rattle.pl_rewrite.specs.Rewriting.{rewrite}
use Rattle.pl_rewrite.specs.declared.rewriting.Rewritten.{Rewritten}
use Rattle.pl_batch.specs.All.{all_changes, all_made, asked_of, made_of_folder, made_of, made_with_cache, of_planning, spelled, with_cache}
use Rattle.pl_change.specs.Folder.{all_files, bad_cache, cache, cache_by, cache_file, cache_in, no_cache, valid_names}
use Rattle.pl_batch.specs.Folder.{are_large, named}
use Rattle.pl_change.specs.Names.{are_many, file_of, of_file}
use Rattle.pl_change.specs.declared.cause.Cause.{Cause}
use Rattle.pl_change.specs.declared.cause.Cause.TheVariants as causes
use Rattle.pl_batch.specs.declared.prelinking.Prelinking.{Prelinking}
use Rattle.pl_change.proofs.CacheLemmas.{empty_spelled}
use Rattle.law_folder.specs.Causes.{BadCacheIsOfTheCache, HasBytes, IsAsked}
use Rattle.law_folder.proofs.PlanLemmas.{rewritten_is}
use Rattle.law_folder.proofs.SpellLemmas.{next_spelled}

-- ---- the cache that is read has a spelling

by_size : (found old : List ℕ) (b : Bool) → (if b then Ok found else Err causes.BadCache) ≡ Ok old → found ≡ old
by_size found old true e = ok_same found old e
by_size found old false e = absurd cc

read_of : (old : List ℕ) (c : Cache) → cache_in old ≡ Ok c → read old ≡ Ok c
unfolding cache_in
read_of old c e = because_ok bad_cache (read old) c e

none_read : (old : List ℕ) (c : Cache) → cache_bytes no_cache ≡ old → read old ≡ Ok c → is_cache c ≡ true
none_read old c is e =
    let empty : is_cache no_cache ≡ true = empty_spelled [] refl in
    let again : read old ≡ Ok no_cache = subst (λ (bytes : List ℕ). read bytes ≡ Ok no_cache) is (read_again no_cache empty) in
    subst (λ (d : Cache). is_cache d ≡ true) (ok_same no_cache c (sym again ∙ e)) empty

by_file : (file : Option (List ℕ)) (old : List ℕ) (c : Cache) → ((bytes : List ℕ) → file ≡ Some bytes → IsBytes bytes) → cache_by file ≡ Ok old → read old ≡ Ok c → is_cache c ≡ true
by_file None old c bytes e is = none_read old c (ok_same (cache_bytes no_cache) old e) is
by_file (Some found) old c bytes e is =
    let same = by_size found old (nat_le (length found) STORED) e in
    (read_takes old c (subst IsBytes same (bytes found refl)) is).0

pub read_spelled : (files : Files) (old : List ℕ) (c : Cache) → HasBytes files → cache_file files ≡ Ok old → cache_in old ≡ Ok c → is_cache c ≡ true
unfolding cache_file
read_spelled files old c bytes e is = by_file (get files cache) old c bytes e (read_of old c is)

-- ---- no other step has this cause

no_file : (name : List ℕ) (file : Option (List ℕ)) → of_file name file ≡ Err causes.BadCache → ⊥
no_file name None e = absurd cc
no_file name (Some found) e = by_test (nat_le (length found) STORED) e
  where
    by_test : (b : Bool) → (if b then Ok found else Err (causes.FileTooLarge name)) ≡ Err causes.BadCache → ⊥
    by_test true is = absurd cc
    by_test false is = absurd cc

not_of : (files : Files) (name : List ℕ) → file_of files name ≡ Err causes.BadCache → ⊥
unfolding file_of
not_of files name e = no_file name (get files name) e

no_files : (files : Files) (ns : List (List ℕ)) → each (file_of files) ns ≡ Err causes.BadCache → ⊥
unfolding each
no_files files [] e = absurd cc
no_files files (n ∷ ns) e = ⊎_elim (not_of files n)
    (λ first. ⊎_elim (no_files files ns) (λ rest. absurd cc) (bind_err (each (file_of files) ns) (λ ys. Ok (first.0 ∷ ys)) causes.BadCache first.2))
    (bind_err (file_of files n) (λ y. each (file_of files) ns >>= λ ys. Ok (y ∷ ys)) causes.BadCache e)

no_plan : (fault : PlanningFault) → of_planning fault ≡ causes.BadCache → ⊥
no_plan (plan.NoSlot name span hole) e = absurd cc
no_plan (plan.StampsSpent stamp) e = absurd cc
no_plan plan.NoMemory e = absurd cc

refused : {X : Type 0} (b : Bool) (cause : Cause) (next : Result X Cause) → (cause ≡ causes.BadCache → ⊥) → unless b cause next ≡ Err causes.BadCache → (b ≡ false) × (next ≡ Err causes.BadCache)
refused true cause next other e = absurd (other (let same : cause ≡ causes.BadCache = cc in same))
refused false cause next other e = (refl, e)

misspelled : (old : List ℕ) (w : Rewritten) → spelled old w ≡ Err causes.BadCache → is_cache w.cache ≡ false
unfolding spelled
misspelled old w e = by_test (is_cache w.cache) refl e
  where
    by_test : (b : Bool) → is_cache w.cache ≡ b → unless (not b) causes.BadCache (Ok (with_cache old w)) ≡ Err causes.BadCache → is_cache w.cache ≡ false
    by_test true is bad = absurd cc
    by_test false is bad = is

-- ---- a plan

module _ (files : Files) (p : Prelinking) (asked : IsAsked p) (bytes : HasBytes files) where
  not_made : (old : List ℕ) (c : Cache) → is_cache c ≡ true → are_many (keys files) ≡ false → made_of (named files) (valid_names files) p old c ≡ Err causes.BadCache → ⊥
  unfolding made_of
  not_made old c fine few e = ⊎_elim
      (λ unplanned. let fault = because_err of_planning (rewrite (named files) (valid_names files) (asked_of p c)) causes.BadCache unplanned in no_plan fault.0 fault.2)
      (λ w.
      let is = rewritten_is files p c w.0 (because_ok of_planning (rewrite (named files) (valid_names files) (asked_of p c)) w.0 w.1) in
      let good : is_cache w.0.cache ≡ true = ap (λ (x : Rewritten). is_cache x.cache) (sym is.2) ∙ next_spelled files p c is.0 asked.region asked.moment fine few is.1 in
      absurd (true≢false (sym good ∙ misspelled old w.0 w.2)))
      (bind_err (because of_planning (rewrite (named files) (valid_names files) (asked_of p c))) (spelled old) causes.BadCache e)

  not_with : (old : List ℕ) (c : Cache) → is_cache c ≡ true → are_many (keys files) ≡ false → made_with_cache files p old c ≡ Err causes.BadCache → ⊥
  unfolding made_with_cache all_files
  not_with old c fine few e = ⊎_elim (no_files files (valid_names files))
      (λ all. not_made old c fine few (refused (are_large all.0) causes.FolderTooLarge (made_of (named files) (valid_names files) p old c) (λ same. absurd cc) all.2).1)
      (bind_err (each (file_of files) (valid_names files)) (λ found. unless (are_large found) causes.FolderTooLarge (made_of (named files) (valid_names files) p old c)) causes.BadCache e)

  of_cache : are_many (keys files) ≡ false → made_of_folder files p ≡ Err causes.BadCache → (cache_file files >>= cache_in) ≡ Err causes.BadCache
  unfolding made_of_folder
  of_cache few e = ⊎_elim
      (λ bad. ap (λ (r : Result (List ℕ) Cause). r >>= cache_in) bad)
      (λ old. ⊎_elim
      (λ bad. ap (λ (r : Result (List ℕ) Cause). r >>= cache_in) old.1 ∙ bad)
      (λ c. absurd (not_with old.0 c.0 (read_spelled files old.0 c.0 bytes old.1 c.1) few c.2))
      (bind_err (cache_in old.0) (λ c. made_with_cache files p old.0 c) causes.BadCache old.2))
      (bind_err (cache_file files) (λ old. cache_in old >>= λ c. made_with_cache files p old c) causes.BadCache e)

  of_made : all_made files p ≡ Err causes.BadCache → (cache_file files >>= cache_in) ≡ Err causes.BadCache
  unfolding all_made
  of_made e = let few = refused (are_many (keys files)) causes.TooManyFiles (made_of_folder files p) (λ same. absurd cc) e in of_cache few.0 few.1

pub bad_cache_is : BadCacheIsOfTheCache
unfolding all_changes
bad_cache_is files p asked bytes e = ⊎_elim (of_made files p asked bytes) (λ made. absurd cc) (bind_err (all_made files p) (λ made. Ok made.rows) causes.BadCache e)
