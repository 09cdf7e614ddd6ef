-- No cause of a command is a want of memory.
use Rattle.std.proofs.Common.{◌≡◌, Bool, true, false, refl, ℕ, List, Option, Some, None}
use Rattle.pl_base.specs.Answers.{NeverMemory, because}
use Rattle.pl_base.specs.Files.{Files}
use Rattle.std.specs.FinMap.{get}
use Rattle.pl_base.proofs.TellsLaws.{ok_tells, err_tells, unless_tells, then_tells, cause_tells, because_tells, each_tells}
use Rattle.pl_build.specs.Build.{build}
use Rattle.pl_form.specs.Marks as form
use Rattle.pl_scope.specs.Walk as walk
use Rattle.pl_scope.specs.declared.fault.WalkFault.{WalkFault}
use Rattle.pl_scope.specs.declared.fault.WalkFault.TheVariants as walk_faults
use Rattle.pl_scope.proofs.TellsLaws.{walk_tells}
use Rattle.pl_loader.specs.Walk.{walk_fault}
use Rattle.pl_loader.proofs.TellsLaws.{file_in_tells, load_tells, of_file_tells}
use Rattle.pl_texts.specs.declared.cause.Cause.TheVariants as causes
use Rattle.std.specs.Prelude.{Result, Ok, Err, if◌then◌else◌}
use Rattle.std.specs.Str.{bytes_eq}
use Rattle.pl_folder.specs.Taken.{taken}
use Rattle.pl_folder.specs.declared.fault.FolderFault.{FolderFault}
use Rattle.pl_folder.specs.declared.fault.FolderFault.TheVariants as folder_faults
use Rattle.pl_cache.specs.Reading.{read}
use Rattle.pl_elf.specs.declared.range.Range.{Range}
use Rattle.pl_words.specs.declared.command.Policy.{Policy}
use Rattle.pl_texts.specs.declared.printing.TheConstants.{CACHE}
use Rattle.pl_texts.specs.Print.{bad_cache, cache_in, cache_of, printed}
use Rattle.pl_texts.specs.CacheText.{no_cache, print_text}
use Rattle.pl_texts.specs.declared.detail.Detail.{Detail}
use Rattle.pl_texts.specs.Files.{valid_file, of_file, file_in}
use Rattle.pl_cli.specs.Load.{choice, is_memory, load_result, loading_file}
use Rattle.pl_loader.specs.Faults as memory
use Rattle.pl_place.specs.Policy.{Choice}
use Rattle.pl_loader.specs.Given.{first_by, first_of, given_from}
use Rattle.pl_pie.specs.Placed.{placed}
use Rattle.pl_pie.specs.declared.placing.Placing.{Placing}
use Rattle.pl_pie.specs.declared.placing.Placing.TheVariants as placings
use Rattle.pl_texts.specs.Order.{object_in, order_text, ordered, original, refused_file, walked}
use Rattle.pl_texts.specs.declared.content.Content.{Content}
use Rattle.pl_texts.specs.declared.content.Content.TheVariants.{File, Recipe}
use Rattle.pl_cli.specs.Reports.{previewed, reported}
use Rattle.pl_texts.specs.Reports.{report_text}
use Rattle.pl_cli.specs.Verified.{verifies}
use Rattle.pl_cli.specs.Writes.{content, file_by, prelinks, recipe_cause, removes, stores, undoes, fixes, loosens}
use Rattle.pl_texts.specs.Stops.{of_batch}
use Rattle.pl_cli.specs.Answer.{fixed_line}
use Rattle.pl_texts.specs.DoneText.{fixed_text}
use Rattle.pl_change.specs.Replace.{address_of, fixing_meant, loosening_meant}
use Rattle.pl_journal.specs.declared.change.Change.{Change}
use Rattle.pl_batch.specs.All.{all_reported}
use Rattle.pl_batch.specs.Verify.{verified}
use Rattle.pl_batch.specs.Changes.{changes_of, run_meant}
use Rattle.pl_change.specs.Changes.{removal_meant}
use Rattle.pl_change.specs.Commands.{ready_for}
use Rattle.pl_change.specs.declared.cause.Cause as batch
use Rattle.pl_change.specs.declared.cause.Cause.TheVariants as batch_causes
use Rattle.pl_change.specs.Copied.{copied}
use Rattle.pl_batch.specs.declared.prelinking.Prelinking.{Prelinking}
use Rattle.pl_script.specs.Script.{script}
use Rattle.pl_script.specs.declared.fault.ScriptFault.{ScriptFault}
use Rattle.pl_script.specs.declared.fault.ScriptFault.TheVariants as script_faults
use Rattle.pl_script.specs.declared.line.RunLine.{RunLine}
use Rattle.pl_script.specs.declared.line.RunLine.TheVariants as lines
use Rattle.pl_cli.specs.Weave.{of_script, run_of, runs_of, script_in, start_file, weaves}
use Rattle.pl_batch.specs.declared.run.Run.{Run}
use Rattle.pl_batch.specs.declared.run.Run.TheVariants as runs

-- ---- `--load`

looked_up_tells : (name : List ℕ) (file : Option (List ℕ)) → NeverMemory is_memory (of_file name file)
looked_up_tells name None = err_tells _ is_memory _ refl
looked_up_tells name (Some bytes) = unless_tells is_memory _ _ _ refl (ok_tells is_memory bytes)

file_tells : (files : Files) (name : List ℕ) → NeverMemory is_memory (file_in files name)
unfolding file_in
file_tells files name = looked_up_tells name (valid_file files name)

first_tells : (name bytes : List ℕ) (p : Placing) → NeverMemory memory.is_memory (first_by name bytes p)
first_tells name bytes placings.NotPie = ok_tells memory.is_memory bytes
first_tells name bytes placings.NoPlace = err_tells _ memory.is_memory _ refl
first_tells name bytes (placings.Fixed at file) = ok_tells memory.is_memory file

given_tells : (choose : Choice) (name bytes : List ℕ) (b : Bool) → NeverMemory memory.is_memory (if b then first_of choose name bytes else Ok bytes)
unfolding first_of
given_tells choose name bytes true = first_tells name bytes (placed choose bytes)
given_tells choose name bytes false = ok_tells memory.is_memory bytes

loading_tells : (policy : Policy) (files : Files) (name n : List ℕ) → NeverMemory is_memory (loading_file policy files name n)
unfolding loading_file given_from
loading_tells policy files name n =
    then_tells is_memory (file_in files n) _ (file_tells files n) (λ bytes. because_tells memory.is_memory is_memory causes.Load _ (λ f t. t) (given_tells (choice policy) name bytes (bytes_eq n name)))

pub loaded_tells : (policy : Policy) (busy : Option Range) (files : Files) (name : List ℕ) → NeverMemory is_memory (load_result policy busy files name)
unfolding load_result
loaded_tells policy busy files name = unless_tells is_memory _ _ _ refl (load_tells (choice policy) busy causes.Load is_memory (loading_file policy files name) name (λ f t. t) (loading_tells policy files name))

-- ---- `--order`

walk_fault_tells : (e : WalkFault) → walk.is_memory e ≡ false → is_memory (walk_fault causes.Load e) ≡ false
walk_fault_tells (walk_faults.NeededIsProgram name) t = refl
walk_fault_tells (walk_faults.TooMany name) t = refl
walk_fault_tells (walk_faults.NotThere name) t = refl
walk_fault_tells walk_faults.NoMemory t = t

original_tells : (bytes : List ℕ) → NeverMemory form.file_fault_is_memory (original bytes)
unfolding original
original_tells bytes = then_tells form.file_fault_is_memory _ _ (file_in_tells bytes) (λ file. ok_tells form.file_fault_is_memory _)

object_tells : (files : Files) (name : List ℕ) → NeverMemory is_memory (object_in files name)
unfolding object_in
object_tells files name = then_tells is_memory _ _ (file_tells files name) (λ bytes. because_tells form.file_fault_is_memory is_memory (refused_file name) _ (of_file_tells name) (original_tells bytes))

walked_tells : (files : Files) (name : List ℕ) → NeverMemory is_memory (walked files name)
unfolding walked
walked_tells files name = unless_tells is_memory _ _ _ refl (walk_tells (walk_fault causes.Load) is_memory (object_in files) name walk_fault_tells (object_tells files))

pub ordered_tells : (detail : Detail) (files : Files) (name : List ℕ) → NeverMemory is_memory (ordered detail files name)
unfolding ordered
ordered_tells detail files name = then_tells is_memory (walked files name) _ (walked_tells files name) (λ members. ok_tells is_memory (order_text detail members))

-- ---- `-p`

cache_tells : (file : Result (List ℕ) FolderFault) → NeverMemory is_memory (cache_of file)
cache_tells (Ok bytes) = cause_tells is_memory bad_cache (read bytes) (λ e. refl)
cache_tells (Err folder_faults.NotThere) = ok_tells is_memory no_cache
cache_tells (Err folder_faults.TooLarge) = err_tells _ is_memory _ refl
cache_tells (Err folder_faults.Failed) = err_tells _ is_memory _ refl
cache_tells (Err folder_faults.NoMemory) = err_tells _ is_memory _ refl

pub printed_tells : (files : Files) → NeverMemory is_memory (printed files)
unfolding printed cache_in
printed_tells files = then_tells is_memory (cache_in files) _ (cache_tells (taken files CACHE.now)) (λ cache. ok_tells is_memory (print_text cache))

-- ---- the commands that write

batch_cause : (cause : batch.Cause) → is_memory (of_batch cause) ≡ false
batch_cause batch_causes.BadName = refl
batch_cause batch_causes.BadJournal = refl
batch_cause batch_causes.TooManyFiles = refl
batch_cause (batch_causes.NotThere name) = refl
batch_cause (batch_causes.FileTooLarge name) = refl
batch_cause (batch_causes.BadMark name) = refl
batch_cause batch_causes.BadCache = refl
batch_cause batch_causes.FolderTooLarge = refl
batch_cause (batch_causes.NoSlot name span hole) = refl
batch_cause (batch_causes.StampsSpent stamp) = refl
batch_cause (batch_causes.Refused name number argument) = refl
batch_cause (batch_causes.NeededIsProgram name) = refl
batch_cause (batch_causes.TooMany name) = refl
batch_cause (batch_causes.NotPie name) = refl
batch_cause (batch_causes.NoPlace name) = refl
batch_cause (batch_causes.NotFixed name) = refl

batch_tells : {X : Type 0} (r : Result X batch.Cause) → NeverMemory is_memory (because of_batch r)
batch_tells r = cause_tells is_memory of_batch r batch_cause

pub undone_tells : (run : Run) (files : Files) → NeverMemory is_memory (undoes run files)
undone_tells run files = batch_tells (run_meant run files)

pub removed_tells : (name : List ℕ) (files : Files) → NeverMemory is_memory (removes name files)
removed_tells name files = batch_tells (removal_meant name files)

pub fixed_tells : (policy : Policy) (name : List ℕ) (files : Files) → NeverMemory is_memory (fixed_line policy name files)
unfolding fixed_line
fixed_tells policy name files = then_tells is_memory (fixes policy name files) _ (batch_tells (fixing_meant (choice policy) name files)) (λ rows.
    then_tells is_memory (because of_batch (address_of (choice policy) files name)) _ (batch_tells (address_of (choice policy) files name)) (λ at. ok_tells is_memory (fixed_text name at)))

pub unfixed_tells : (name : List ℕ) (files : Files) → NeverMemory is_memory (loosens name files)
unfixed_tells name files = batch_tells (loosening_meant name files)

file_by_tells : (kind : Content) (input : List ℕ) → NeverMemory is_memory (file_by kind input)
file_by_tells File input = ok_tells is_memory input
file_by_tells Recipe input = cause_tells is_memory recipe_cause (build input) (λ e. refl)

content_tells : (kind : Content) (input : List ℕ) → NeverMemory is_memory (content kind input)
unfolding content
content_tells kind input = unless_tells is_memory _ _ _ refl (then_tells is_memory (file_by kind input) _ (file_by_tells kind input) (λ file. unless_tells is_memory _ _ _ refl (ok_tells is_memory file)))

pub stored_tells : (name : List ℕ) (kind : Content) (input : List ℕ) (files : Files) → NeverMemory is_memory (stores name kind input files)
stored_tells name kind input files = then_tells is_memory (because of_batch (ready_for name files)) _ (batch_tells (ready_for name files)) (λ none.
    then_tells is_memory (content kind input) _ (content_tells kind input) (λ file. batch_tells (changes_of files (runs.Install name file))))

-- ---- a run over all files

pub previewed_tells : (detail : Detail) (asked : Prelinking) (files : Files) → NeverMemory is_memory (previewed detail asked files)
unfolding previewed
previewed_tells detail asked files = then_tells is_memory (because of_batch (all_reported files asked)) _ (batch_tells (all_reported files asked)) (λ report. ok_tells is_memory (report_text detail report))

pub reported_tells : (detail : Detail) (asked : Prelinking) (files : Files) → NeverMemory is_memory (reported detail asked files)
unfolding reported
reported_tells detail asked files = then_tells is_memory (prelinks asked files) _ (batch_tells (run_meant (runs.All asked) files)) (λ rows. previewed_tells detail asked files)

-- ---- `-y`

pub verified_tells : (name : List ℕ) (files : Files) → NeverMemory is_memory (verifies name files)
unfolding verifies
verified_tells name files = batch_tells (verified files name)

-- ---- `--weave`

script_cause : (fault : ScriptFault) → is_memory (of_script fault) ≡ false
script_cause (script_faults.Wrong line) = refl
script_cause script_faults.NoMemory = refl

script_tells : (input : List ℕ) → NeverMemory is_memory (script_in input)
unfolding script_in
script_tells input = unless_tells is_memory _ _ _ refl (cause_tells is_memory of_script (script input) script_cause)

start_tells : (name : List ℕ) (file : Option (List ℕ)) → NeverMemory is_memory (start_file name file)
start_tells name None = err_tells _ is_memory _ refl
start_tells name (Some bytes) = ok_tells is_memory bytes

run_tells_of : (files : Files) (asked : RunLine) → NeverMemory is_memory (run_of files asked)
run_tells_of files (lines.Prelink now) = ok_tells is_memory _
run_tells_of files lines.UndoAll = ok_tells is_memory _
run_tells_of files (lines.Undo names) = ok_tells is_memory _
run_tells_of files (lines.Install name from) = then_tells is_memory (start_file from (get files from)) _ (start_tells from (get files from)) (λ bytes. ok_tells is_memory _)

pub woven_tells : (input : List ℕ) (files : Files) → NeverMemory is_memory (weaves input files)
unfolding weaves
woven_tells input files = then_tells is_memory (script_in input) _ (script_tells input) (λ s.
    then_tells is_memory (because of_batch (copied files)) _ (batch_tells (copied files)) (λ copy.
    then_tells is_memory (runs_of copy s.runs) _ (each_tells is_memory (run_of copy) s.runs (run_tells_of copy)) (λ asked. ok_tells is_memory _)))
