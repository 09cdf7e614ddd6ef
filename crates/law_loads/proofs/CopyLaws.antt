-- The copy of a folder in which a weave goes on.
use Rattle.std.proofs.Common.{◌≡◌, ◌∙◌, ℕ, List, Bool, true, false, cond, Option, None, Ok, refl, sym, ap, subst}
use Rattle.std.specs.Prelude.{◌||◌, if◌then◌else◌}
use Rattle.std.specs.FinMap.{get, keys, get-retain_keys, nat_cmp-IsAntisymmetric, slice_cmp-IsAntisymmetric}
use Rattle.std.specs.Str.{bytes_eq}
use Rattle.pl_base.specs.Answers.{◌>>=◌, unless}
use Rattle.pl_base.specs.Files.{Files}
use Rattle.pl_base.specs.Names.{is_valid_name}
use Rattle.pl_base.proofs.AnswerLaws.{bind_ok, ok_same, unless_ok}
use Rattle.pl_change.specs.Copied.{are_bulky, cache_there, copied, copied_by, is_copied, kept}
use Rattle.pl_change.specs.Folder.{all_files, cache, valid_names}
use Rattle.pl_change.specs.Names.{are_many}
use Rattle.pl_change.specs.declared.cause.Cause.TheVariants.{FolderTooLarge, TooManyFiles}
use Rattle.pl_conflict.specs.Format.{Rule, format}
use Rattle.law_folder.specs.Sound.{named}
use Rattle.law_folder.specs.Steps.{cache_or_none}
use Rattle.pl_rewrite.specs.Skipped.{skip_causes}
use Rattle.pl_cache.specs.Reading.{read}
use Rattle.pl_cache.specs.declared.cache.Cache.{Cache}
use Rattle.law_sound.specs.Plan.{IsBounded}
use Rattle.law_sound.specs.Rule as sound
use Rattle.law_loads.specs.Weaves.{CopiesKeep}

-- a copy is the files that are kept
pub copied_is_kept : (files copy : Files) → copied files ≡ Ok copy → copy ≡ kept files
unfolding copied copied_by
copied_is_kept files copy is =
    let few = unless_ok (are_many (keys files)) TooManyFiles (copied_by files) copy is in
    let found = bind_ok (cache_there files) (λ found. all_files files (valid_names files) >>= λ bytes. unless (are_bulky bytes) FolderTooLarge (Ok (kept files))) copy few.1 in
    let all = bind_ok (all_files files (valid_names files)) (λ bytes. unless (are_bulky bytes) FolderTooLarge (Ok (kept files))) copy found.2 in
    sym (ok_same (kept files) copy (unless_ok (are_bulky all.0) FolderTooLarge (Ok (kept files)) copy all.2).1)

get_kept : (files : Files) (n : List ℕ) → get (kept files) n ≡ cond (is_copied n) (get files n) None
get_kept files n = get-retain_keys files is_copied n (λ x tie. ap is_copied (sym (slice_cmp-IsAntisymmetric nat_cmp-IsAntisymmetric n x tie)))

named_kept : (files : Files) (n : List ℕ) → named (get (kept files)) n ≡ named (get files) n
named_kept files n = by (is_valid_name n) refl
  where
    by : (valid : Bool) → is_valid_name n ≡ valid → named (get (kept files)) n ≡ named (get files) n
    by true is = rw is (get_kept files n ∙ ap (λ (b : Bool). cond (b || bytes_eq n cache) (get files n) None) is)
    by false is = rw is refl

same_named : (files : Files) → named (get (kept files)) ≡ named (get files)
same_named files = λ i n. named_kept files n i

ends_true : (a b : Bool) → b ≡ true → (a || b) ≡ true
ends_true true b is = refl
ends_true false b is = is

-- the cache's name is one that is copied
cache_kept : (files : Files) → get (kept files) cache ≡ get files cache
cache_kept files = get_kept files cache ∙ ap (λ (b : Bool). cond b (get files cache) None) (ends_true (is_valid_name cache) (bytes_eq cache cache) refl)

pub copies_keep : CopiesKeep
copies_keep files rule past = (
  subst (Rule skip_causes) (sym (same_named files)) rule,
  record {
    last = past.last;
    has = record {
      cached = past.has.cached;
      says = ap (λ (o : Option (List ℕ)). read (cache_or_none o)) (cache_kept files) ∙ past.has.says;
      is = past.has.is;
    };
    bounds = subst (λ (held : sound.Files). IsBounded (format skip_causes) held past.last) (sym (same_named files)) past.bounds;
  },
)
