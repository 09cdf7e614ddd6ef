-- The text of a weave, step by step.
use Rattle.std.proofs.Common.{◌≡◌, ◌∙◌, ◌<◌, ◌≤◌, ◌+◌, ◌++◌, ◌∷◌, [], ℕ, suc, List, Bool, cond, drop, get_or, length, map, append_assoc, true, false, Option, Some, None, refl, sym, ap, arith, inl, inr}
use Rattle.std.proofs.Math.ListN.{drop_of_length-le, replicate}
use Rattle.std.proofs.lemmas.List.{append-nil, length-map, length-replicate}
use Rattle.std.proofs.lemmas.Bool.{cases_Bool, false≢true, true≢false}
use Rattle.std.proofs.lemmas.Bool.Decides.{nat_tests}
use Rattle.std.specs.Prelude.{IfOk, Result, Ok, Err, String, Vec, nat_lt, string_bytes}
use Rattle.std.specs.FinMap.{find, get, get-from_entries}
use Rattle.std.specs.Cmp.{eq_by_cmp_equiv}
use Rattle.std.specs.Cmp.Lexicographic.{nat_list_cmp_total, slice_cmp}
use Rattle.std.specs.Ordering.{nat_cmp}
use Rattle.std.specs.declared.alloc.Global.{Global}
use Rattle.pl_base.specs.Answers.{◌>>=◌, Answers, because, unless}
use Rattle.pl_base.specs.Each.{each, with_front}
use Rattle.pl_base.specs.Files.{Files, file_entry, files_of}
use Rattle.pl_base.proofs.EachLaws.{each_stops}
use Rattle.pl_base.proofs.FilesLaws.{same, same_name}
use Rattle.pl_change.specs.Answers as batch
use Rattle.pl_change.specs.Copied.{copied}
use Rattle.pl_change.specs.declared.fault.BatchFault.{BatchFault}
use Rattle.pl_change.specs.declared.fault.BatchFault.TheVariants as batch_faults
use Rattle.pl_batch.specs.Changes.{IsRun}
use Rattle.pl_batch.specs.declared.run.Run.{Run}
use Rattle.pl_folder.specs.Calls.{Calls}
use Rattle.pl_folder.specs.Seen.{Seen, Done, Undone}
use Rattle.pl_io.specs.Reads.{HasMore}
use Rattle.pl_io.specs.Seen.{HasReadAll, Input}
use Rattle.pl_io.specs.declared.read_fault.ReadFault.{ReadFault}
use Rattle.pl_io.specs.declared.read_fault.ReadFault.TheVariants as read_faults
use Rattle.pl_journal.specs.Parts.{Looking}
use Rattle.pl_journal.proofs.CarryLemmas.{drop_at}
use Rattle.pl_journal.proofs.RecoverLemmas.{no_look}
use Rattle.pl_script.specs.Script as scripts
use Rattle.pl_script.specs.declared.TheConstants.{SCRIPT}
use Rattle.pl_script.specs.declared.fault.ScriptFault.{ScriptFault}
use Rattle.pl_script.specs.declared.fault.ScriptFault.TheVariants as script_faults
use Rattle.pl_script.specs.declared.line.RunLine.{RunLine}
use Rattle.pl_script.specs.declared.script.Script.{Script}
use Rattle.pl_place.specs.Policy.{Choice}
use Rattle.pl_weave.specs.Opening.{Opened}
use Rattle.pl_weave.specs.Running.{AreRuns, plain}
use Rattle.pl_weave.specs.Runs.{progress}
use Rattle.pl_weave.specs.Weaving.{Weaving}
use Rattle.pl_weave.specs.declared.progress.Progress.{Progress}
use Rattle.pl_texts.specs.declared.cause.Cause.{Cause}
use Rattle.pl_texts.specs.declared.cause.Cause.TheVariants.{InputTooLarge}
use Rattle.pl_texts.specs.declared.stop.Stop.{Stop}
use Rattle.pl_texts.specs.declared.stop.Stop.TheVariants as stops
use Rattle.pl_cli.specs.Came.{HasScript, HasWoven}
use Rattle.pl_texts.specs.Stops.{MeansAlone, StopsAlone, items_of, of_batch_fault, of_read_fault, of_script_fault}
use Rattle.pl_cli.specs.Weave.{loader_text, loaders_text, of_script, run_line, run_of, runs_of, runs_text, script_in, start_file, weave_text, weaves, weaves_by, woven_text}
use Rattle.pl_texts.specs.WeaveText.{end_line, loader_line}
use Rattle.pl_cli.specs.Words.{bytes_of}
use Rattle.pl_cli.specs.Writes.{AreBytes}
use Rattle.pl_texts.specs.Stops.{of_batch}
use Rattle.pl_texts.proofs.CallLemmas.{as_calls, looked_all, no_calls}

-- ---- the script

too_large : (input : List ℕ) → SCRIPT < length input → script_in input ≡ Err InputTooLarge
unfolding script_in
too_large input more =
    let test : nat_lt SCRIPT (length input) ≡ true = grind (arith, nat_tests) in
    ap (λ b. unless b InputTooLarge (because of_script (scripts.script input))) test

fits : (input : List ℕ) → length input ≤ SCRIPT → script_in input ≡ because of_script (scripts.script input)
unfolding script_in
fits input few =
    let test : nat_lt SCRIPT (length input) ≡ false = grind (arith, nat_tests) in
    ap (λ b. unless b InputTooLarge (because of_script (scripts.script input))) test

-- more bytes than a bound
longer : (bound : ℕ) → (bytes : List ℕ) × (bound < length bytes)
longer bound = let size : length {A = ℕ} (replicate (bound + 1) 0) ≡ bound + 1 = length-replicate {A = ℕ} (bound + 1) 0 in (replicate (bound + 1) 0, omega (arith, size))

more_bytes : (tells after : Option (List ℕ)) → HasMore tells after SCRIPT → (bytes : List ℕ) × AreBytes tells bytes × (script_in bytes ≡ Err InputTooLarge)
more_bytes (Some input) after more = (input, λ _. refl, too_large input more.0)
more_bytes None after more = let input = longer SCRIPT in (input.0, λ e. absurd (false≢true e), too_large input.0 input.1)

module _ {left rest : Input} where
  pub unread : (fault : ReadFault) → HasReadAll SCRIPT (Err fault) left rest → HasScript (Err (of_read_fault fault)) left rest
  unread read_faults.Failed read = record { bytes = bytes_of left.left; told = λ _. refl; means = tt; folder = refl; input = record { untouched = λ e. cc; tells = read.tells; most = λ _ e. cc; count = read.count } }
  unread read_faults.TooLarge read =
      let more = more_bytes left.left rest.left read.stops in
      record { bytes = more.0; told = more.1; means = λ _. more.2; folder = refl; input = record { untouched = λ e. cc; tells = read.tells; most = λ _ _. read.took_fault; count = read.count } }
  unread read_faults.NoMemory read = record { bytes = bytes_of left.left; told = λ _. refl; means = tt; folder = refl; input = record { untouched = λ e. cc; tells = read.tells; most = λ _ _. read.took_fault; count = read.count } }

  module _ (input : Vec ℕ Global) (read : HasReadAll SCRIPT (Ok input) left rest) where
    are_bytes : AreBytes left.left input.items
    are_bytes told = sym (ap bytes_of (read.bytes told))

    pub was_read : (s : Script) → scripts.script input.items ≡ Ok s → HasScript (Ok s) left rest
    was_read s is = record { bytes = input.items; told = are_bytes; means = λ _. fits input.items read.bound ∙ ap (because of_script) is; folder = refl; input = record { untouched = λ e. cc; tells = read.tells; most = λ _ _. read.took; count = read.count } }

    pub was_wrong : (fault : ScriptFault) → Answers {X = Script} scripts.is_memory (Err fault) (scripts.script input.items) → HasScript (Err (of_script_fault fault)) left rest
    was_wrong (script_faults.Wrong line) is = record { bytes = input.items; told = are_bytes; means = λ _. fits input.items read.bound ∙ ap (because of_script) is; folder = refl; input = record { untouched = λ e. cc; tells = read.tells; most = λ _ _. read.took; count = read.count } }
    was_wrong script_faults.NoMemory is = record { bytes = input.items; told = are_bytes; means = tt; folder = refl; input = record { untouched = λ e. cc; tells = read.tells; most = λ _ _. read.took; count = read.count } }

-- ---- the weave

-- there is no script: the folder is not asked
pub no_script : (a : Seen) {left rest : Input} (stop : Stop) → HasScript (Err stop) left rest → HasWoven (Err stop) a a left rest
unfolding weaves
no_script a (stops.Cause cause) found = record { bytes = found.bytes; told = found.told; means = λ told. ap (λ (r : Result Script Cause). r >>= λ s. because of_batch (copied a.files) >>= λ copy. weaves_by s copy) (found.means tt); calls = no_calls Done a refl refl (no_look a.disk a.disk refl); input = found.input }
no_script a stops.Failed found = let no : ⊥ = true≢false found.folder in absurd no
no_script a stops.InputFailed found = record { bytes = found.bytes; told = found.told; means = tt; calls = no_calls Done a refl refl (no_look a.disk a.disk refl); input = found.input }
no_script a stops.NoMemory found = record { bytes = found.bytes; told = found.told; means = tt; calls = no_calls Undone a refl refl (no_look a.disk a.disk refl); input = found.input }

-- with the script what is meant is by the copy
by_script : {left rest : Input} (s : Script) (found : HasScript (Ok s) left rest) (files : Files) → weaves found.bytes files ≡ (because of_batch (copied files) >>= λ copy. weaves_by s copy)
unfolding weaves
by_script s found files = ap (λ (r : Result Script Cause). r >>= λ t. because of_batch (copied files) >>= λ copy. weaves_by t copy) (found.means tt)

module _ {a b : Seen} {left rest : Input} (s : Script) (found : HasScript (Ok s) left rest) where
  -- the folder is not copied
  pub not_copied : (fault : BatchFault) → batch.Finds {Y = Vec (String Global × Vec ℕ Global) Global} (copied a.files) (λ files. files_of files.items) (Err fault) a b → HasWoven (Err (of_batch_fault fault)) a b left rest
  not_copied batch_faults.DiskFailed it = record { bytes = found.bytes; told = found.told; means = tt; calls = it.calls; input = found.input }
  not_copied batch_faults.NoMemory it = record { bytes = found.bytes; told = found.told; means = tt; calls = it.calls; input = found.input }
  not_copied (batch_faults.Cause cause) it = record { bytes = found.bytes; told = found.told; means = λ told. by_script s found a.files ∙ ap (λ r. because of_batch r >>= λ copy. weaves_by s copy) (it.means told); calls = it.calls; input = found.input }

  -- the weave of its files
  pub woven_so : (files : Files) → (a.tells ≡ true → copied a.files ≡ Ok files) → Calls Done Looking a b → (r : Result (Vec ℕ Global) Stop) → MeansAlone (weaves_by s files) (items_of r) → HasWoven r a b left rest
  woven_so files is calls (Ok text) means = record { bytes = found.bytes; told = found.told; means = λ told. by_script s found a.files ∙ ap (λ r. because of_batch r >>= λ copy. weaves_by s copy) (is told) ∙ means; calls = calls; input = found.input }
  woven_so files is calls (Err (stops.Cause cause)) means = record { bytes = found.bytes; told = found.told; means = λ told. by_script s found a.files ∙ ap (λ r. because of_batch r >>= λ copy. weaves_by s copy) (is told) ∙ means; calls = calls; input = found.input }
  woven_so files is calls (Err stops.Failed) means = absurd means
  woven_so files is calls (Err stops.InputFailed) means = absurd means
  woven_so files is calls (Err stops.NoMemory) means = record { bytes = found.bytes; told = found.told; means = tt; calls = looked_all calls; input = found.input }

-- ---- the text

-- it does not rest on how a policy is kept
pub plain_text : {F : Type 0} (choose : Choice) (number : ℕ) (os : List (Opened F)) → loaders_text choose number os ≡ loaders_text choose number (map plain os)
plain_text choose number [] = refl
plain_text choose number (o ∷ os) = ap (λ (rest : List ℕ). loader_line number ++ (loader_text choose o ++ rest)) (plain_text choose (number + 1) os)

-- one loader more
pub loaders_push : {F : Type 0} (choose : Choice) (number : ℕ) (os : List (Opened F)) (o : Opened F) → loaders_text choose number (os ++ o ∷ []) ≡ loaders_text choose number os ++ (loader_line (number + length os) ++ loader_text choose o)
loaders_push choose number [] o =
    ap (λ (rest : List ℕ). loader_line number ++ rest) (append-nil (loader_text choose o)) ∙ ap (λ (n : ℕ). loader_line n ++ loader_text choose o) (omega arith)
loaders_push choose number (p ∷ os) o =
    ap (λ (rest : List ℕ). loader_line number ++ (loader_text choose p ++ rest)) (loaders_push choose (number + 1) os o)
    ∙ ap (λ (n : ℕ). loader_line number ++ (loader_text choose p ++ (loaders_text choose (number + 1) os ++ (loader_line n ++ loader_text choose o)))) {x = number + 1 + length os} {y = number + suc (length os)} (omega arith)
    ∙ simp append_assoc

-- one run more
pub runs_push : (number : ℕ) (ps : List Progress) (p : Progress) → runs_text number (ps ++ p ∷ []) ≡ runs_text number ps ++ run_line (number + length ps) p
runs_push number [] p = append-nil (run_line number p) ∙ ap (λ (n : ℕ). run_line n p) (omega arith)
runs_push number (q ∷ ps) p =
    ap (λ (rest : List ℕ). run_line number q ++ rest) (runs_push (number + 1) ps p)
    ∙ ap (λ (n : ℕ). run_line number q ++ (runs_text (number + 1) ps ++ run_line n p)) {x = number + 1 + length ps} {y = number + suc (length ps)} (omega arith)
    ∙ simp append_assoc

-- the text of a weave
pub text_is : {F : Type 0} (choose : Choice) (loaders : List (Opened F)) (told : List Progress) (w : Weaving) → map plain loaders ≡ w.loaders → told ≡ progress w.runs → woven_text choose loaders told ≡ weave_text choose w
text_is choose loaders told w are is =
    ap (λ (text : List ℕ). text ++ (runs_text 0 told ++ end_line)) (plain_text choose 0 loaders ∙ ap (λ (os : List (Opened (Unit {0}))). loaders_text choose 0 os) are)
    ∙ ap (λ (ps : List Progress). loaders_text choose 0 w.loaders ++ (runs_text 0 ps ++ end_line)) is

-- ---- the files that are installed

abbrev pub File : Type 0
File = String Global × Vec ℕ Global

abbrev at : List ℕ → List (List ℕ × List ℕ) → Option (List ℕ)
at q es = find (slice_cmp nat_cmp) q es

-- the file of a name among those from an index on
first_file : (files : List File) (i : ℕ) (file : File) (q : List ℕ) → i < length files → file ≡ get_or files i file
    → get (files_of (drop i files)) q ≡ cond (same q (string_bytes file.0)) (Some file.1.items) (get (files_of (drop (i + 1) files)) q)
first_file files i file q lt is =
    get-from_entries nat_list_cmp_total (map file_entry (drop i files)) q
    ∙ ap (λ (fs : List File). at q (map file_entry fs)) (drop_at files i file lt is)
    ∙ ap (λ (o : Option (List ℕ)). cond (same q (string_bytes file.0)) (Some file.1.items) o) (sym (get-from_entries nat_list_cmp_total (map file_entry (drop (i + 1) files)) q))

same_self : (q : List ℕ) → same q q ≡ true
same_self q = (eq_by_cmp_equiv nat_list_cmp_total).refl q

-- the one of that name is what is installed
pub found_file : (files : List File) (i : ℕ) (file : File) (q : List ℕ) → i < length files → file ≡ get_or files i file → string_bytes file.0 ≡ q
    → get (files_of (drop i files)) q ≡ get (files_of files) q → start_file q (get (files_of files) q) ≡ Ok file.1.items
found_file files i file q lt is name so_far =
    let rest = get (files_of (drop (i + 1) files)) q in
    ap (start_file q) (sym so_far ∙ first_file files i file q lt is
    ∙ ap (λ (n : List ℕ). cond (same q n) (Some file.1.items) rest) name
    ∙ ap (λ (b : Bool). cond b (Some file.1.items) rest) (same_self q))

-- one of another name is passed over
pub other_file : (files : List File) (i : ℕ) (file : File) (q : List ℕ) (whole : Option (List ℕ)) → i < length files → file ≡ get_or files i file → (string_bytes file.0 ≡ q → ⊥)
    → get (files_of (drop i files)) q ≡ whole → get (files_of (drop (i + 1) files)) q ≡ whole
other_file files i file q whole lt is other so_far = elim (cases_Bool (same q (string_bytes file.0))) [
  | inl hit ↦ absurd (other (sym (same_name q (string_bytes file.0) hit)))
  | inr miss ↦ sym (ap (λ (b : Bool). cond b (Some file.1.items) (get (files_of (drop (i + 1) files)) q)) miss) ∙ sym (first_file files i file q lt is) ∙ so_far
]

-- behind the last one there is none
pub missing_file : (files : List File) (i : ℕ) (q : List ℕ) → length files ≤ i → get (files_of (drop i files)) q ≡ get (files_of files) q → get (files_of files) q ≡ None
missing_file files i q le so_far =
    sym so_far ∙ ap (λ (fs : List File). get (files_of fs) q) (drop_of_length-le files {i = i} le) ∙ get-from_entries nat_list_cmp_total [] q

-- ---- the runs

-- a run that means a cause decides
pub runs_stop : (files : Files) (asked : List RunLine) (i : ℕ) (run : RunLine) (front : List Run) (stop : Stop) → i < length asked → run ≡ get_or asked i run → StopsAlone (run_of files run) stop
    → with_front front (each (run_of files) (drop i asked)) ≡ runs_of files asked → StopsAlone (runs_of files asked) stop
runs_stop files asked i run front (stops.Cause cause) lt is stop so_far = each_stops (run_of files) asked i run front cause (runs_of files asked) lt (ap (run_of files) (sym is) ∙ stop) so_far
runs_stop files asked i run front stops.Failed lt is stop so_far = absurd stop
runs_stop files asked i run front stops.InputFailed lt is stop so_far = absurd stop
runs_stop files asked i run front stops.NoMemory lt is stop so_far = tt

pub more_runs : (runs : List Run) (run : Run) → AreRuns runs → IsRun run → AreRuns (runs ++ run ∷ [])
more_runs [] run are is = (is, tt)
more_runs (r ∷ runs) run are is = (are.0, more_runs runs run are.1 is)

-- ---- what is known of an answer

pub if_ok : {X E : Type 0} {P Q : X → Type 0} (r : Result X E) → ((x : X) → P x → Q x) → IfOk r P → IfOk r Q
if_ok (Ok x) more p = more x p
if_ok (Err e) more p = tt
