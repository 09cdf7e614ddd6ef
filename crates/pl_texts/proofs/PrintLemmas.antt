-- What `-p` finds.
use Rattle.std.proofs.Common.{◌≡◌, ◌∙◌, ℕ, List, refl, sym, ap, subst}
use Rattle.std.specs.Prelude.{Result, Ok, Err, Vec, MatchBool, ⊤}
use Rattle.std.specs.declared.alloc.Global.{Global}
use Rattle.pl_base.specs.Answers.{◌>>=◌, because}
use Rattle.pl_base.specs.Files.{Files}
use Rattle.pl_cache.specs.Reading.{read, is_memory}
use Rattle.pl_cache.specs.declared.cache.Cache.{Cache}
use Rattle.pl_cache.specs.declared.fault.CacheFault.{CacheFault}
use Rattle.pl_cache.specs.declared.fault.CacheFault.TheVariants as cache_faults
use Rattle.pl_folder.specs.Calls.{Takes}
use Rattle.pl_folder.specs.Seen.{Seen}
use Rattle.pl_folder.specs.Taken.{taken}
use Rattle.pl_folder.specs.declared.fault.FolderFault.{FolderFault}
use Rattle.pl_folder.specs.declared.fault.FolderFault.TheVariants as folder_faults
use Rattle.pl_texts.specs.declared.cause.Cause.TheVariants as causes
use Rattle.pl_texts.specs.declared.printing.TheConstants.{CACHE}
use Rattle.pl_texts.specs.declared.stop.Stop.TheVariants as stops
use Rattle.pl_texts.specs.Finds.{HasPrinted}
use Rattle.pl_texts.specs.Print.{bad_cache, cache_in, cache_of, printed}
use Rattle.pl_texts.specs.CacheText.{no_cache, print_text}
use Rattle.pl_texts.specs.Stops.{of_cache_fault}
use Rattle.pl_texts.proofs.TakeLemmas.{failed_once, lacked, lacked_once, once}

-- ---- the text

of_text : (r : Result Cache CacheFault) (text : List ℕ) → (r >>= λ c. Ok (print_text c)) ≡ Ok text → (because bad_cache r >>= λ c. Ok (print_text c)) ≡ Ok text
of_text (Ok cache) text is = ap (because bad_cache) is
of_text (Err fault) text is = cc

of_fault : (r : Result Cache CacheFault) (fault : CacheFault) → (r >>= λ c. Ok (print_text c)) ≡ Err fault → (because bad_cache r >>= λ c. Ok (print_text c)) ≡ Err causes.BadCache
of_fault (Ok cache) fault is = cc
of_fault (Err other) fault is = refl

when_taken : (files : Files) (r : Result (List ℕ) FolderFault) → taken files CACHE.now ≡ r → printed files ≡ (cache_of r >>= λ c. Ok (print_text c))
unfolding printed cache_in
when_taken files r is = ap (λ (s : Result (List ℕ) FolderFault). cache_of s >>= λ c. Ok (print_text c)) is

module _ {a b : Seen} where
  pub text_given : (bytes text : Vec ℕ Global) → Takes CACHE.now (Ok bytes) a b → (read bytes.items >>= λ c. Ok (print_text c)) ≡ Ok text.items → HasPrinted (Ok text) a b
  text_given bytes text took is = record {
    means = λ told. when_taken a.files (Ok bytes.items) (took.bytes (told refl)) ∙ of_text (read bytes.items) text.items is;
    reads = refl;
    fails = λ _. refl;
    calls = once 1 refl took.calls;
  }

  -- the bytes spell no cache
  pub text_refused : (bytes : Vec ℕ Global) → Takes CACHE.now (Ok bytes) a b → (read bytes.items >>= λ c. Ok (print_text c)) ≡ Err cache_faults.BadCache → HasPrinted (Err (stops.Cause causes.BadCache)) a b
  text_refused bytes took is = record {
    means = λ told. when_taken a.files (Ok bytes.items) (took.bytes (told refl)) ∙ of_fault (read bytes.items) cache_faults.BadCache is;
    reads = refl;
    fails = λ _. refl;
    calls = once 1 refl took.calls;
  }

  -- there was no memory after the file was taken
  pub text_lacked : (bytes : Vec ℕ Global) → Takes CACHE.now (Ok bytes) a b → HasPrinted (Err stops.NoMemory) a b
  text_lacked bytes took = record { means = tt; reads = refl; fails = λ _. refl; calls = lacked_once 1 refl took.calls }

  pub text_stopped : (bytes : Vec ℕ Global) (fault : CacheFault) → Takes CACHE.now (Ok bytes) a b → MatchBool (is_memory fault) ⊤ ((read bytes.items >>= λ c. Ok (print_text c)) ≡ Err fault) → HasPrinted (Err (of_cache_fault fault)) a b
  text_stopped bytes cache_faults.BadCache took is = text_refused bytes took is
  text_stopped bytes cache_faults.NoMemory took is = text_lacked bytes took

  pub absent : (text : Vec ℕ Global) → Takes CACHE.now (Err folder_faults.NotThere) a b → text.items ≡ print_text no_cache → HasPrinted (Ok text) a b
  absent text took is = record {
    means = λ told. when_taken a.files (Err folder_faults.NotThere) (took.explained (told refl)) ∙ ap (λ (t : List ℕ). Ok t) (sym is);
    reads = refl;
    fails = λ _. refl;
    calls = once 1 refl took.calls;
  }

  pub absent_lacked : Takes CACHE.now (Err folder_faults.NotThere) a b → HasPrinted (Err stops.NoMemory) a b
  absent_lacked took = record { means = tt; reads = refl; fails = λ _. refl; calls = lacked_once 1 refl took.calls }

  pub too_large : Takes CACHE.now (Err folder_faults.TooLarge) a b → HasPrinted (Err (stops.Cause causes.BadCache)) a b
  too_large took = record { means = λ told. when_taken a.files (Err folder_faults.TooLarge) (took.explained (told refl)); reads = refl; fails = λ _. refl; calls = once 1 refl took.calls }

  pub failed : Takes CACHE.now (Err folder_faults.Failed) a b → HasPrinted (Err stops.Failed) a b
  failed took = record { means = tt; reads = refl; fails = λ _. refl; calls = failed_once 1 refl took.calls }

  pub lacking : Takes CACHE.now (Err folder_faults.NoMemory) a b → HasPrinted (Err stops.NoMemory) a b
  lacking took = record { means = tt; reads = refl; fails = λ _. refl; calls = lacked 1 took.calls }

  -- the same of a fault that is one of these
  pub absent_by : (fault : FolderFault) → fault ≡ folder_faults.NotThere → (text : Vec ℕ Global) → Takes CACHE.now (Err fault) a b → text.items ≡ print_text no_cache → HasPrinted (Ok text) a b
  absent_by fault is text took = absent text (subst (λ (f : FolderFault). Takes CACHE.now (Err f) a b) is took)

  pub too_large_by : (fault : FolderFault) → fault ≡ folder_faults.TooLarge → Takes CACHE.now (Err fault) a b → HasPrinted (Err (stops.Cause causes.BadCache)) a b
  too_large_by fault is took = too_large (subst (λ (f : FolderFault). Takes CACHE.now (Err f) a b) is took)
