-- The text of a load over a folder in memory, and whether it is a fast one.
use Rattle.std.proofs.Common.{◌≡◌, ℕ, List, [], ◌++◌, Bool, true, false, Option, Some, None, refl, sym, ap, ◌∙◌}
use Rattle.std.specs.Prelude.{Result, Ok, Err, unwrap_or}
use Rattle.std.proofs.lemmas.Bool.{false≢true}
use Rattle.pl_base.specs.Files.{Files}
use Rattle.pl_base.specs.Streams.{got_after}
use Rattle.pl_demo.specs.Demo as demo
use Rattle.pl_demo.specs.declared.counting.Counts.{Counts}
use Rattle.pl_loader.specs.Started.{Start}
use Rattle.pl_loader.specs.declared.placed.Placed.{Placed}
use Rattle.pl_loader.specs.declared.tls_module.TlsModule.{TlsModule}
use Rattle.pl_words.specs.declared.command.Policy.TheVariants.{Lowest}
use Rattle.pl_texts.specs.declared.cause.Cause.{Cause}
use Rattle.pl_cli.specs.declared.command.Command.TheVariants.{Load}
use Rattle.pl_words.specs.declared.status.Status.{Status}
use Rattle.pl_cli.specs.Answer.{IsTold, answer, load_answer}
use Rattle.pl_cli.specs.Demo.{begins_fast, demo_text, fast_loads, is_fast, lines, load, load_texts, text_of}
use Rattle.pl_texts.specs.LoadText.{head_text, load_text, path_line}
use Rattle.pl_texts.specs.Refusals.{refusal}

-- ---- the first line

begins : (fast : Bool) (objects : List Placed) (modules : List TlsModule) (entry : ℕ) (words end : List ℕ) → begins_fast (head_text fast objects modules entry ++ words ++ end) ≡ fast
unfolding head_text path_line
begins true objects modules entry words end = refl
begins false objects modules entry words end = refl

-- a load is fast exactly where its text begins so
pub tells_fast : (r : Result Start Cause) → begins_fast (text_of r) ≡ is_fast r
unfolding load_text refusal
tells_fast (Ok s) = begins s.fast s.objects s.modules s.entry _ _
tells_fast (Err cause) = refl

-- ---- what the sink has got

gave : (status : Status) (r : Result Start Cause) (got : List ℕ) → ((load_answer r).status ≡ status) × (Some got ≡ got_after (Some []) (load_answer r).text) → got ≡ text_of r
gave status (Ok s) got wrote = ap (λ (x : Option (List ℕ)). unwrap_or x []) wrote.1
gave status (Err cause) got wrote = ap (λ (x : Option (List ℕ)). unwrap_or x []) wrote.1

-- a load rests on nothing but the files
told : (name : List ℕ) (tells : Bool) → tells ≡ true → IsTold (Some (Load name None Lowest)) tells false
told name tells is = record { files = λ _. is; input = λ reads. absurd (false≢true reads) }

pub was_loaded : (files : Files) (name : List ℕ) (status : Status) (text : List ℕ) (old new : Option (List ℕ)) → old ≡ Some [] → new ≡ Some text
    → (IsTold (Some (Load name None Lowest)) true false → ((answer (Some (Load name None Lowest)) files []).status ≡ status) × (new ≡ got_after old (answer (Some (Load name None Lowest)) files []).text))
    → text ≡ text_of (load files name)
was_loaded files name status text old new empty got prints =
    let wrote = prints (told name true refl) in
    gave status (load files name) text (wrote.0, sym got ∙ wrote.1 ∙ ap (λ (o : Option (List ℕ)). got_after o (answer (Some (Load name None Lowest)) files []).text) empty)

-- ---- the five lines

-- of a folder, by what its loads came to
pub lines_by : (size fast : ℕ) (counts : Counts) (files : Files) (names lent : List (List ℕ)) (texts out : List ℕ) → lent ≡ names → fast ≡ fast_loads files lent → texts ≡ load_texts files lent → out ≡ lines size counts fast texts → out ≡ lines size counts (fast_loads files names) (load_texts files names)
lines_by size fast counts files names lent texts out same fast_is texts_are out_is =
    out_is
    ∙ (ap (λ (n : ℕ). lines size counts n texts) (fast_is ∙ ap (λ (ns : List (List ℕ)). fast_loads files ns) same)
    ∙ ap (λ (t : List ℕ). lines size counts (fast_loads files names) t) (texts_are ∙ ap (λ (ns : List (List ℕ)). load_texts files ns) same))

-- of the set of a number
pub demo_by : (number size : ℕ) (counts : Counts) (files : Files) (names : List (List ℕ)) (out : List ℕ) → files ≡ demo.folder number → size ≡ demo.size number → counts ≡ demo.counts number → names ≡ demo.programs number → out ≡ lines size counts (fast_loads files names) (load_texts files names) → out ≡ demo_text number
unfolding demo_text
demo_by number size counts files names out files_are size_is counts_are names_are out_is =
    out_is
    ∙ (ap (λ (n : ℕ). lines n counts (fast_loads files names) (load_texts files names)) size_is
    ∙ (ap (λ (k : Counts). lines (demo.size number) k (fast_loads files names) (load_texts files names)) counts_are
    ∙ (ap (λ (fs : Files). lines (demo.size number) (demo.counts number) (fast_loads fs names) (load_texts fs names)) files_are
    ∙ ap (λ (ns : List (List ℕ)). lines (demo.size number) (demo.counts number) (fast_loads (demo.folder number) ns) (load_texts (demo.folder number) ns)) names_are)))
