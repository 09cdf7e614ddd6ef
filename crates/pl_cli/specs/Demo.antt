-- What `--demo` prints: what the set of a number has, prelinked in a folder of its own, and what the loads of its programs come to.
use Rattle.std.specs.Prelude.{ℕ, Bool, false, List, ◌++◌, codes, count_by, nat_eq, None, Result, Ok, Err}
use Rattle.std.specs.List.{flat_map, starts_with}
use Rattle.sha2.specs.Sha256.{sha256}
use Rattle.pl_base.specs.Files.{Files}
use Rattle.pl_demo.specs.Demo as demo
use Rattle.pl_demo.specs.declared.counting.Counts.{Counts}
use Rattle.pl_loader.specs.Started.{Start}
use Rattle.pl_words.specs.declared.command.Policy.TheVariants.{Lowest}
use Rattle.pl_cli.specs.Load.{load_result}
use Rattle.pl_texts.specs.LoadText.{load_text}
use Rattle.pl_texts.specs.DemoText.{count_line, digest_line}
use Rattle.pl_texts.specs.Refusals.{refusal}
use Rattle.pl_texts.specs.declared.cause.Cause.{Cause}

-- ---- loads

-- what `--load` of a name comes to
abbrev pub load : Files → List ℕ → Result Start Cause
load files name = load_result Lowest None files name

-- its text: that of the start, or the line of the cause why there is none
abbrev pub text_of : Result Start Cause → List ℕ
text_of (Ok start) = load_text start
text_of (Err cause) = refusal cause

-- whether it starts from the prelinked files as they stand
abbrev pub is_fast : Result Start Cause → Bool
is_fast (Ok start) = start.fast
is_fast (Err cause) = false

-- the texts of the loads of names, one after the other
unfoldable pub load_texts : Files → List (List ℕ) → List ℕ
load_texts files names = flat_map (λ name. text_of (load files name)) names

-- how many of these loads are fast
unfoldable pub fast_loads : Files → List (List ℕ) → ℕ
fast_loads files names = count_by (λ name. is_fast (load files name)) names

-- ---- lines

-- the five lines; the digest is the SHA-256 of the texts
unfoldable pub lines : ℕ → Counts → ℕ → List ℕ → List ℕ
lines size counts fast texts =
    count_line (codes "files") size
    ++ (count_line (codes "relocations") counts.relocations
    ++ (count_line (codes "conflicts") counts.conflicts
    ++ (count_line (codes "fast") fast
    ++ digest_line (sha256 texts))))

unfoldable pub demo_text : ℕ → List ℕ
demo_text number =
    lines (demo.size number) (demo.counts number) (fast_loads (demo.folder number) (demo.programs number)) (load_texts (demo.folder number) (demo.programs number))

-- ---- as the code has it

-- a text begins with the line of the fast path
abbrev pub begins_fast : List ℕ → Bool
begins_fast text = starts_with nat_eq text (codes "fast\n")
