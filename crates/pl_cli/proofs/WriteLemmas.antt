-- What writing commands come to, from what pl_batch makes of the folder.
use Rattle.std.proofs.Common.{◌≡◌, ℕ, ◌+◌, List, [], length, Bool, true, false, Option, Some, None, refl, sym, ap, subst, ◌∙◌, inl, arith}
use Rattle.std.specs.Prelude.{Result, Ok, Err, Vec, is_some}
use Rattle.std.specs.declared.alloc.Global.{Global}
use Rattle.pl_texts.specs.Report.{Report}
use Rattle.std.specs.FinMap.{get}
use Rattle.std.proofs.lemmas.Bool.{true≢false}
use Rattle.pl_base.specs.Answers.{because, ◌>>=◌}
use Rattle.pl_base.specs.Files.{Files}
use Rattle.pl_base.specs.Names.{is_valid_name}
use Rattle.pl_io.specs.Reads.{TookAtMost}
use Rattle.pl_io.specs.Seen.{Input}
use Rattle.pl_folder.specs.Calls.{Calls}
use Rattle.pl_folder.specs.Seen.{Seen, Done, Broken, Undone, IsFolder}
use Rattle.pl_journal.specs.declared.change.Change.{Change}
use Rattle.pl_change.specs.Answers.{fault_ending}
use Rattle.pl_batch.specs.Changes.{changes_of, run_meant}
use Rattle.pl_change.specs.Changes.{removal_meant, removal_of}
use Rattle.pl_journal.proofs.Meanings.{stands_self}
use Rattle.pl_journal.proofs.RealLemmas.{on_looks}
use Rattle.pl_journal.proofs.RecoverLemmas.{no_look}
use Rattle.pl_change.specs.Commands.{Commands, CommandsFiles, Counts, Failed, Lacked, Made, Meaning, Refused, ready_for, stopped}
use Rattle.pl_change.specs.Restored.{restored}
use Rattle.pl_change.specs.Starts as starts
use Rattle.pl_batch.specs.All.{Reports, all_reported}
use Rattle.pl_batch.specs.declared.prelinking.Prelinking.{Prelinking}
use Rattle.pl_change.specs.declared.cause.Cause as batch
use Rattle.pl_change.specs.declared.fault.BatchFault.{BatchFault}
use Rattle.pl_change.specs.declared.fault.BatchFault.TheVariants as batch_faults
use Rattle.pl_batch.specs.declared.run.Run.{Run}
use Rattle.pl_batch.specs.declared.run.Run.TheVariants as runs
use Rattle.pl_change.proofs.AgainLemmas.{commands_on, lacked_after, meant_by, recaused, refused_after, stops_first}
use Rattle.pl_change.proofs.RestoredLemmas.{restored_before}
use Rattle.pl_change.proofs.StartLemmas.{invalid_ready}
use Rattle.pl_texts.specs.declared.cause.Cause.{Cause}
use Rattle.pl_texts.specs.declared.cause.Cause.TheVariants as causes
use Rattle.pl_cli.specs.declared.command.Command.TheVariants as commands
use Rattle.pl_texts.specs.declared.content.Content.{Content}
use Rattle.pl_texts.specs.declared.detail.Detail.{Detail}
use Rattle.pl_texts.specs.declared.stop.Stop.{Stop}
use Rattle.pl_texts.specs.declared.stop.Stop.TheVariants as stops
use Rattle.pl_cli.specs.Answer.{IsTold, done, refuses, text_answer, write_answer}
use Rattle.pl_texts.specs.DoneText.{removed_text, stored_text, undone_text}
use Rattle.pl_cli.specs.Came.{Came, HasContent, HasPrelinked, HasRemoved, HasStored, HasUndone, as_is}
use Rattle.pl_cli.specs.Outside.{Consumes}
use Rattle.pl_texts.specs.Endings.{ending_of}
use Rattle.pl_cli.specs.Reports.{previewed, reported}
use Rattle.pl_texts.specs.Reports.{report_text}
use Rattle.pl_texts.specs.Stops.{of_batch_fault, status_of, stop_status}
use Rattle.pl_cli.specs.Words.{bytes_of}
use Rattle.pl_cli.specs.Writes.{AreBytes, WritesFolder, Written, content, most_bytes, prelinks, removes, stores, undoes}
use Rattle.pl_texts.specs.Stops.{of_batch}
use Rattle.pl_texts.proofs.CallLemmas.{as_calls, no_calls}

-- ---- a fault of pl_batch as a stop

-- what a command makes of the folder, by its outcome, whose causes are pl_batch's
module _ (meant : Meaning batch.Cause) where
  pub written_fault : (X : Type 0) (fault : BatchFault) {a b : Seen} → Calls (fault_ending fault) (Commands meant (stopped fault)) a b → Calls (ending_of (stop_status (of_batch_fault fault))) (Written {X = X} (meant_by of_batch meant) (Err (of_batch_fault fault))) a b
  written_fault X batch_faults.DiskFailed call = recaused of_batch meant Failed call
  written_fault X batch_faults.NoMemory call = recaused of_batch meant Lacked call
  written_fault X (batch_faults.Cause cause) call = recaused of_batch meant (Refused cause) call

  pub written_done : {X : Type 0} (x : X) {a b : Seen} → Calls Done (Commands meant Made) a b → Calls Done (Written (meant_by of_batch meant) (Ok x)) a b
  written_done x call = recaused of_batch meant Made call

-- ---- an input of which nothing is read

took_none : (left : Option (List ℕ)) (n : ℕ) → TookAtMost left left n
took_none None n = tt
took_none (Some left) n = (0, omega arith, refl)

pub unread : (reads : Bool) (bound : ℕ) (i : Input) → Consumes reads bound false i i
unread reads bound i = record { untouched = λ _. refl; tells = refl; most = λ _ _. took_none i.left (bound + 1); count = record { later = omega arith; rose = λ e. cc; quiet = λ _. refl } }

-- ---- the whole of a command, by the status

module _ (meant : List ℕ → Meaning Cause) (left : Option (List ℕ)) (bytes : List ℕ) (told : AreBytes left bytes) (X : Type 0) {a b : Seen} where
  pub writes : (r : Result X Stop) → Calls (ending_of (status_of r)) (Written (meant bytes) r) a b → Calls (ending_of (status_of r)) (WritesFolder meant left (status_of r)) a b
  writes (Ok x) call = as_calls Done Done refl call (λ t files. (bytes, told, files)) (λ t disk. (bytes, told, disk))
  writes (Err (stops.Cause cause)) call = as_calls Done Done refl call (λ t files. (bytes, told, (cause, files))) (λ t disk. (bytes, told, (cause, disk)))
  writes (Err stops.Failed) call = as_calls Broken Broken refl call (λ t files. (bytes, told, files)) (λ t disk. (bytes, told, disk))
  writes (Err stops.InputFailed) call = as_calls Done Done refl call (λ t files. (bytes, told, files)) (λ t disk. (bytes, told, disk))
  writes (Err stops.NoMemory) call = as_calls Undone Undone refl call (λ t files. (bytes, told, files)) (λ t disk. (bytes, told, disk))

-- ---- what is answered

module _ (meant : Meaning Cause) (text : List Change → List ℕ) (a b : Seen) where
  pub gives_made : CommandsFiles meant Made Done a.files b.files → (rows : List Change) × (write_answer text (meant (restored a.files)) ≡ done (text rows))
  gives_made files = let made = files (restored a.files) (restored_before a.files) in (made.0, ap (write_answer text) made.1.means)

  pub gives_cause : (cause : Cause) → CommandsFiles meant (Refused cause) Done a.files b.files → write_answer text (meant (restored a.files)) ≡ refuses cause
  gives_cause cause files = ap (write_answer text) (files (restored a.files) (restored_before a.files)).means

-- ---- `undo`, `remove`

-- how many names change
undo_counted : (run : Run) (count : ℕ) (a : Seen) → Counts (run_meant run) count a → Counts (undoes run) count a
undo_counted run count a counts told before is = let c = counts told before is in (c.0, ap (because of_batch) c.1, c.2)

module _ (run : Run) where
  pub undo_stopped : (fault : BatchFault) {a b : Seen} → Calls (fault_ending fault) (Commands (run_meant run) (stopped fault)) a b → HasUndone run (Err (of_batch_fault fault)) a b
  undo_stopped batch_faults.DiskFailed call = record { reads = refl; calls = written_fault (run_meant run) ℕ batch_faults.DiskFailed call; count = tt }
  undo_stopped batch_faults.NoMemory call = record { reads = refl; calls = written_fault (run_meant run) ℕ batch_faults.NoMemory call; count = tt }
  undo_stopped (batch_faults.Cause cause) call = record { reads = refl; calls = written_fault (run_meant run) ℕ (batch_faults.Cause cause) call; count = tt }

  pub undo_was_done : (count : ℕ) {a b : Seen} → Calls Done (Commands (run_meant run) Made) a b → Counts (run_meant run) count a → HasUndone run (Ok count) a b
  undo_was_done count {a = a} call counts = record { reads = refl; calls = written_done (run_meant run) count call; count = undo_counted run count a counts }

module _ (name : List ℕ) where
  pub removal_stopped : (fault : BatchFault) {a b : Seen} → Calls (fault_ending fault) (Commands (removal_meant name) (stopped fault)) a b → starts.Named {X = Unit {0}} name (Err fault) → HasRemoved name (Err (of_batch_fault fault)) a b
  removal_stopped batch_faults.DiskFailed call named = record { named = tt; reads = refl; calls = written_fault (removal_meant name) (Vec ℕ Global) batch_faults.DiskFailed call; text = tt }
  removal_stopped batch_faults.NoMemory call named = record { named = tt; reads = refl; calls = written_fault (removal_meant name) (Vec ℕ Global) batch_faults.NoMemory call; text = tt }
  removal_stopped (batch_faults.Cause cause) call named = record { named = λ invalid. ap of_batch (named invalid); reads = refl; calls = written_fault (removal_meant name) (Vec ℕ Global) (batch_faults.Cause cause) call; text = tt }

  pub was_removed : (text : Vec ℕ Global) → text.items ≡ removed_text name → is_valid_name name ≡ true → {a b : Seen} → Calls Done (Commands (removal_meant name) Made) a b → HasRemoved name (Ok text) a b
  was_removed text is valid call = record { named = valid; reads = refl; calls = written_done (removal_meant name) text call; text = is }

  -- there was no memory for the line
  pub unsaid : (a : Seen) → HasRemoved name (Err stops.NoMemory) a a
  unsaid a = record { named = tt; reads = refl; calls = no_calls Undone a refl (stands_self (get a.files) (get a.files) (λ n. refl)) (inl (no_look a.disk a.disk refl), on_looks Undone (no_look a.disk a.disk refl)); text = tt }

-- ---- `-u`

undo_counts : (run : Run) (count : ℕ) (a : Seen) → Counts (undoes run) count a → a.tells ≡ true → write_answer (λ rows. undone_text (length rows)) (undoes run (restored a.files)) ≡ done (undone_text count)
undo_counts run count a counts told =
    let c = counts told (restored a.files) (restored_before a.files) in
    ap (write_answer (λ rows. undone_text (length rows))) c.1 ∙ ap (λ (n : ℕ). done (undone_text n)) (sym c.2)

pub came_undone_all : (i : Input) {a b : Seen} (r : Result ℕ Stop) → HasUndone runs.UndoAll r a b → Came (Some commands.UndoAll) undone_text r a b i i
came_undone_all i {a = a} (Ok count) found = record { gives = λ told. undo_counts runs.UndoAll count a found.count (told.files refl); ends = refl; calls = writes (λ bytes. undoes runs.UndoAll) i.left (bytes_of i.left) (λ _. refl) ℕ (Ok count) found.calls; input = unread false 0 i }
came_undone_all i {a = a} {b = b} (Err (stops.Cause cause)) found = record {
  gives = λ told. gives_cause (undoes runs.UndoAll) (λ rows. undone_text (length rows)) a b cause (found.calls.files (told.files refl));
  ends = refl;
  calls = writes (λ bytes. undoes runs.UndoAll) i.left (bytes_of i.left) (λ _. refl) ℕ (Err (stops.Cause cause)) found.calls;
  input = unread false 0 i;
}
came_undone_all i (Err stops.Failed) found = record { gives = tt; ends = refl; calls = writes (λ bytes. undoes runs.UndoAll) i.left (bytes_of i.left) (λ _. refl) ℕ (Err stops.Failed) found.calls; input = unread false 0 i }
came_undone_all i (Err stops.InputFailed) found = absurd (true≢false found.reads)
came_undone_all i (Err stops.NoMemory) found = record { gives = tt; ends = refl; calls = writes (λ bytes. undoes runs.UndoAll) i.left (bytes_of i.left) (λ _. refl) ℕ (Err stops.NoMemory) found.calls; input = unread false 0 i }

pub came_undone : (names : List (List ℕ)) (i : Input) {a b : Seen} (r : Result ℕ Stop) → HasUndone (runs.Undo names) r a b → Came (Some (commands.Undo names)) undone_text r a b i i
came_undone names i {a = a} (Ok count) found = record { gives = λ told. undo_counts (runs.Undo names) count a found.count (told.files refl); ends = refl; calls = writes (λ bytes. undoes (runs.Undo names)) i.left (bytes_of i.left) (λ _. refl) ℕ (Ok count) found.calls; input = unread false 0 i }
came_undone names i {a = a} {b = b} (Err (stops.Cause cause)) found = record {
  gives = λ told. gives_cause (undoes (runs.Undo names)) (λ rows. undone_text (length rows)) a b cause (found.calls.files (told.files refl));
  ends = refl;
  calls = writes (λ bytes. undoes (runs.Undo names)) i.left (bytes_of i.left) (λ _. refl) ℕ (Err (stops.Cause cause)) found.calls;
  input = unread false 0 i;
}
came_undone names i (Err stops.Failed) found = record { gives = tt; ends = refl; calls = writes (λ bytes. undoes (runs.Undo names)) i.left (bytes_of i.left) (λ _. refl) ℕ (Err stops.Failed) found.calls; input = unread false 0 i }
came_undone names i (Err stops.InputFailed) found = absurd (true≢false found.reads)
came_undone names i (Err stops.NoMemory) found = record { gives = tt; ends = refl; calls = writes (λ bytes. undoes (runs.Undo names)) i.left (bytes_of i.left) (λ _. refl) ℕ (Err stops.NoMemory) found.calls; input = unread false 0 i }

-- ---- `-a`

module _ (asked : Prelinking) (detail : Detail) where
  -- a report that was found, as a text
  previewed_as : (files : Files) (report : Report) → all_reported files asked ≡ Ok report → previewed detail asked files ≡ Ok (report_text detail report)
  unfolding previewed
  previewed_as files report is = ap (λ (r : Result Report batch.Cause). because of_batch r >>= λ found. Ok (report_text detail found)) is

  -- the changes can be made, and this is the text; or there is a cause
  reported_made : (files : Files) (rows : List Change) (text : List ℕ) → prelinks asked files ≡ Ok rows → previewed detail asked files ≡ Ok text → reported detail asked files ≡ Ok text
  unfolding reported
  reported_made files rows text made says = ap (λ (r : Result (List Change) Cause). r >>= λ changes. previewed detail asked files) made ∙ says

  reported_cause : (files : Files) (cause : Cause) → prelinks asked files ≡ Err cause → reported detail asked files ≡ Err cause
  unfolding reported
  reported_cause files cause is = ap (λ (r : Result (List Change) Cause). r >>= λ changes. previewed detail asked files) is

  pub prelinking_stopped : (fault : BatchFault) {a b : Seen} → Calls (fault_ending fault) (Commands (run_meant (runs.All asked)) (stopped fault)) a b → HasPrelinked asked detail (Err (of_batch_fault fault)) a b
  prelinking_stopped batch_faults.DiskFailed call = record { reads = refl; calls = written_fault (run_meant (runs.All asked)) (Vec ℕ Global) batch_faults.DiskFailed call; text = tt }
  prelinking_stopped batch_faults.NoMemory call = record { reads = refl; calls = written_fault (run_meant (runs.All asked)) (Vec ℕ Global) batch_faults.NoMemory call; text = tt }
  prelinking_stopped (batch_faults.Cause cause) call = record { reads = refl; calls = written_fault (run_meant (runs.All asked)) (Vec ℕ Global) (batch_faults.Cause cause) call; text = tt }

  pub was_prelinked : (text : Vec ℕ Global) {a b : Seen} → Calls Done (Commands (run_meant (runs.All asked)) Made) a b → Reports (λ report says. says ≡ report_text detail report) asked text.items a → HasPrelinked asked detail (Ok text) a b
  was_prelinked text {a = a} call reports = record {
    reads = refl;
    calls = written_done (run_meant (runs.All asked)) text call;
    text = λ told.
        let found = reports told (restored a.files) (restored_before a.files) in
        previewed_as (restored a.files) found.0 found.1 ∙ ap Ok (sym found.2);
  }

  pub came_prelinked : (i : Input) {a b : Seen} (r : Result (Vec ℕ Global) Stop) → HasPrelinked asked detail r a b → Came (Some (commands.All asked detail)) as_is r a b i i
  came_prelinked i {a = a} {b = b} (Ok text) found = record {
    gives = λ told.
        let made = found.calls.files (told.files refl) (restored a.files) (restored_before a.files) in
        ap text_answer (reported_made (restored a.files) made.0 text.items made.1.means (found.text (told.files refl)));
    ends = refl;
    calls = writes (λ bytes. prelinks asked) i.left (bytes_of i.left) (λ _. refl) (Vec ℕ Global) (Ok text) found.calls;
    input = unread false 0 i;
  }
  came_prelinked i {a = a} {b = b} (Err (stops.Cause cause)) found = record {
    gives = λ told.
        let left = found.calls.files (told.files refl) (restored a.files) (restored_before a.files) in
        ap text_answer (reported_cause (restored a.files) cause left.means);
    ends = refl;
    calls = writes (λ bytes. prelinks asked) i.left (bytes_of i.left) (λ _. refl) (Vec ℕ Global) (Err (stops.Cause cause)) found.calls;
    input = unread false 0 i;
  }
  came_prelinked i (Err stops.Failed) found = record { gives = tt; ends = refl; calls = writes (λ bytes. prelinks asked) i.left (bytes_of i.left) (λ _. refl) (Vec ℕ Global) (Err stops.Failed) found.calls; input = unread false 0 i }
  came_prelinked i (Err stops.InputFailed) found = absurd (true≢false found.reads)
  came_prelinked i (Err stops.NoMemory) found = record { gives = tt; ends = refl; calls = writes (λ bytes. prelinks asked) i.left (bytes_of i.left) (λ _. refl) (Vec ℕ Global) (Err stops.NoMemory) found.calls; input = unread false 0 i }

-- of a name that is not valid this is the answer, of all files
module _ (name : List ℕ) (invalid : is_valid_name name ≡ false) (files : Files) where
  removes_bad : removes name files ≡ Err causes.BadName
  removes_bad = ap (λ (r : Result (List Change) batch.Cause). because of_batch (r >>= λ none. removal_of files name)) (invalid_ready name invalid files)

  stores_bad : (kind : Content) (bytes : List ℕ) → stores name kind bytes files ≡ Err causes.BadName
  stores_bad kind bytes = ap (λ (r : Result (List Change) batch.Cause). because of_batch r >>= λ none. content kind bytes >>= λ file. because of_batch (changes_of files (runs.Install name file))) (invalid_ready name invalid files)

-- the cause of a command with a name, by whether that is valid
pub by_name : (b : Bool) (name : List ℕ) (cause : Cause) (P : Cause → Type 0) → is_valid_name name ≡ b → (is_valid_name name ≡ false → cause ≡ causes.BadName) → (is_valid_name name ≡ true → P cause) → (is_valid_name name ≡ false → P causes.BadName) → P cause
by_name true name cause P is named valid bad = valid is
by_name false name cause P is named valid bad = subst P (sym (named is)) (bad is)

-- ---- `--remove`

pub came_removed : (name : List ℕ) (i : Input) {a b : Seen} (r : Result (Vec ℕ Global) Stop) → HasRemoved name r a b → Came (Some (commands.Remove name)) as_is r a b i i
came_removed name i {a = a} {b = b} (Ok text) found = record {
  gives = λ told. (gives_made (removes name) (λ rows. removed_text name) a b (found.calls.files (told.files found.named))).1 ∙ ap done (sym found.text);
  ends = refl;
  calls = writes (λ bytes. removes name) i.left (bytes_of i.left) (λ _. refl) (Vec ℕ Global) (Ok text) found.calls;
  input = unread false 0 i;
}
came_removed name i {a = a} {b = b} (Err (stops.Cause cause)) found = record {
  gives = λ told. by_name (is_valid_name name) name cause (λ (c : Cause). write_answer (λ rows. removed_text name) (removes name (restored a.files)) ≡ refuses c) refl found.named
      (λ valid. gives_cause (removes name) (λ rows. removed_text name) a b cause (found.calls.files (told.files valid)))
      (λ invalid. ap (write_answer (λ rows. removed_text name)) (removes_bad name invalid (restored a.files)));
  ends = refl;
  calls = writes (λ bytes. removes name) i.left (bytes_of i.left) (λ _. refl) (Vec ℕ Global) (Err (stops.Cause cause)) found.calls;
  input = unread false 0 i;
}
came_removed name i (Err stops.Failed) found = record { gives = tt; ends = refl; calls = writes (λ bytes. removes name) i.left (bytes_of i.left) (λ _. refl) (Vec ℕ Global) (Err stops.Failed) found.calls; input = unread false 0 i }
came_removed name i (Err stops.InputFailed) found = absurd (true≢false found.reads)
came_removed name i (Err stops.NoMemory) found = record { gives = tt; ends = refl; calls = writes (λ bytes. removes name) i.left (bytes_of i.left) (λ _. refl) (Vec ℕ Global) (Err stops.NoMemory) found.calls; input = unread false 0 i }

-- ---- `--install`, `--make`

module _ (name : List ℕ) (kind : Content) {a b : Seen} {left rest : Input} where
  same_bytes : {r : Result (Vec ℕ Global) Stop} (found : HasStored name kind r a b left rest) → is_valid_name name ≡ true → IsTold (Some (commands.Store name kind)) a.tells (is_some left.left) → found.bytes ≡ bytes_of left.left
  same_bytes found valid told = found.told (told.input valid)

  calls_stored : (r : Result (Vec ℕ Global) Stop) (found : HasStored name kind r a b left rest) → Calls (ending_of (status_of r)) (WritesFolder (stores name kind) left.left (status_of r)) a b
  calls_stored r found = writes (stores name kind) left.left found.bytes found.told (Vec ℕ Global) r found.calls

  pub came_stored : (r : Result (Vec ℕ Global) Stop) → HasStored name kind r a b left rest → Came (Some (commands.Store name kind)) as_is r a b left rest
  came_stored (Ok text) found = record {
    gives = λ told. ap (λ (bytes : List ℕ). write_answer (λ rows. stored_text kind name) (stores name kind bytes (restored a.files))) (sym (same_bytes found found.named told))
        ∙ (gives_made (stores name kind found.bytes) (λ rows. stored_text kind name) a b (found.calls.files (told.files found.named))).1 ∙ ap done (sym found.text);
    ends = refl;
    calls = calls_stored (Ok text) found;
    input = found.input;
  }
  came_stored (Err (stops.Cause cause)) found = record {
    gives = λ told. by_name (is_valid_name name) name cause (λ (c : Cause). write_answer (λ rows. stored_text kind name) (stores name kind (bytes_of left.left) (restored a.files)) ≡ refuses c) refl found.named
        (λ valid. ap (λ (bytes : List ℕ). write_answer (λ rows. stored_text kind name) (stores name kind bytes (restored a.files))) (sym (same_bytes found valid told))
        ∙ gives_cause (stores name kind found.bytes) (λ rows. stored_text kind name) a b cause (found.calls.files (told.files valid)))
        (λ invalid. ap (write_answer (λ rows. stored_text kind name)) (stores_bad name invalid (restored a.files) kind (bytes_of left.left)));
    ends = refl;
    calls = calls_stored (Err (stops.Cause cause)) found;
    input = found.input;
  }
  came_stored (Err stops.Failed) found = record { gives = tt; ends = refl; calls = calls_stored (Err stops.Failed) found; input = found.input }
  came_stored (Err stops.InputFailed) found = record { gives = tt; ends = found.named; calls = calls_stored (Err stops.InputFailed) found; input = found.input }
  came_stored (Err stops.NoMemory) found = record { gives = tt; ends = refl; calls = calls_stored (Err stops.NoMemory) found; input = found.input }

-- ---- `store`, step by step

-- a meaning in other words
same_meaning : (meant other : Meaning Cause) → ((files : Files) → meant files ≡ other files) → meant ≡ other
same_meaning meant other is = λ i files. is files i

because_then : (r : Result (List Change) batch.Cause) (next : Result (List Change) batch.Cause) → because of_batch (r >>= λ none. next) ≡ (because of_batch r >>= λ none. because of_batch next)
because_then (Ok none) next = refl
because_then (Err cause) next = refl

module _ (name : List ℕ) (valid : is_valid_name name ≡ true) where
  never : {P : Type 0} → is_valid_name name ≡ false → P
  never invalid = absurd (true≢false (sym valid ∙ invalid))

  read_so : (bound : ℕ) (failed : Bool) {left rest : Input} → Consumes true bound failed left rest → Consumes (is_valid_name name) bound failed left rest
  read_so bound failed {left = left} {rest = rest} read = subst (λ (reads : Bool). Consumes reads bound failed left rest) (sym valid) read

module _ (name : List ℕ) (kind : Content) where
  -- with the file that is stored
  stores_file : (bytes file : List ℕ) → content kind bytes ≡ Ok file → (files : Files) → because of_batch (run_meant (runs.Install name file) files) ≡ stores name kind bytes files
  stores_file bytes file is files =
      because_then (ready_for name files) (changes_of files (runs.Install name file))
      ∙ ap (λ (r : Result (List ℕ) Cause). because of_batch (ready_for name files) >>= λ none. r >>= λ f. because of_batch (changes_of files (runs.Install name f))) (sym is)

  -- without one
  stores_none : (bytes : List ℕ) (cause : Cause) → content kind bytes ≡ Err cause → (before : Files) → ready_for name before ≡ Ok [] → stores name kind bytes before ≡ Err cause
  stores_none bytes cause is before ready =
      ap (λ (r : Result (List Change) batch.Cause). because of_batch r >>= λ none. content kind bytes >>= λ f. because of_batch (changes_of before (runs.Install name f))) ready
      ∙ ap (λ (r : Result (List ℕ) Cause). r >>= λ f. because of_batch (changes_of before (runs.Install name f))) is

  stores_unready : (bytes : List ℕ) (cause : batch.Cause) (before : Files) → ready_for name before ≡ Err cause → stores name kind bytes before ≡ Err (of_batch cause)
  stores_unready bytes cause before unready = ap (λ (r : Result (List Change) batch.Cause). because of_batch r >>= λ none. content kind bytes >>= λ f. because of_batch (changes_of before (runs.Install name f))) unready

  -- the folder was not recovered, or the name or the journal is a cause
  pub unready : (fault : BatchFault) {a b : Seen} (i : Input) → IsFolder a → Calls (fault_ending fault) (Commands (ready_for name) (stopped fault)) a b → starts.Named {X = Unit {0}} name (Err fault) → HasStored name kind (Err (of_batch_fault fault)) a b i i
  unready batch_faults.DiskFailed i law call named = record {
    bytes = bytes_of i.left;
    told = λ _. refl;
    invalid = λ _. refl;
    named = tt;
    calls = stops_first name of_batch (stores name kind (bytes_of i.left)) (stores_unready (bytes_of i.left)) batch_faults.DiskFailed law call;
    text = tt;
    input = unread (is_valid_name name) (most_bytes kind) i;
  }
  unready batch_faults.NoMemory i law call named = record {
    bytes = bytes_of i.left;
    told = λ _. refl;
    invalid = λ _. refl;
    named = tt;
    calls = stops_first name of_batch (stores name kind (bytes_of i.left)) (stores_unready (bytes_of i.left)) batch_faults.NoMemory law call;
    text = tt;
    input = unread (is_valid_name name) (most_bytes kind) i;
  }
  unready (batch_faults.Cause cause) i law call named = record {
    bytes = bytes_of i.left;
    told = λ _. refl;
    invalid = λ _. refl;
    named = λ invalid. ap of_batch (named invalid);
    calls = stops_first name of_batch (stores name kind (bytes_of i.left)) (stores_unready (bytes_of i.left)) (batch_faults.Cause cause) law call;
    text = tt;
    input = unread (is_valid_name name) (most_bytes kind) i;
  }

  module _ (valid : is_valid_name name ≡ true) {a b : Seen} {left rest : Input} (law : IsFolder a) (first : Calls Done (Commands (ready_for name) Made) a b) where
    -- the input has no file
    pub no_content : (stop : Stop) → HasContent kind (Err stop) left rest → HasStored name kind (Err stop) a b left rest
    no_content (stops.Cause cause) found = record {
      bytes = found.bytes;
      told = found.told;
      invalid = never name valid;
      named = never name valid;
      calls = refused_after name a b law first (stores name kind found.bytes) cause (stores_none found.bytes cause (found.means tt));
      text = tt;
      input = read_so name valid (most_bytes kind) false found.input;
    }
    no_content stops.Failed found = absurd (true≢false found.folder)
    no_content stops.InputFailed found = record {
      bytes = found.bytes;
      told = found.told;
      invalid = never name valid;
      named = valid;
      calls = refused_after name a b law first {C = Unit {0}} (λ files. Err tt) tt (λ before ready. refl);
      text = tt;
      input = read_so name valid (most_bytes kind) true found.input;
    }
    no_content stops.NoMemory found = record { bytes = found.bytes; told = found.told; invalid = never name valid; named = tt; calls = lacked_after name a b law first (stores name kind found.bytes); text = tt; input = read_so name valid (most_bytes kind) false found.input }

    module _ (file : List ℕ) (found : HasContent kind (Ok file) left rest) where
      -- memory lacks for the line or the run
      pub lacking : HasStored name kind (Err stops.NoMemory) a b left rest
      lacking = record { bytes = found.bytes; told = found.told; invalid = never name valid; named = tt; calls = lacked_after name a b law first (stores name kind found.bytes); text = tt; input = read_so name valid (most_bytes kind) false found.input }

      meaning : meant_by of_batch (run_meant (runs.Install name file)) ≡ stores name kind found.bytes
      meaning = same_meaning (meant_by of_batch (run_meant (runs.Install name file))) (stores name kind found.bytes) (stores_file found.bytes file (found.means tt))

      module _ {c : Seen} (next : IsFolder b) where
        -- the command stops
        pub unstored : (fault : BatchFault) → Calls (fault_ending fault) (Commands (run_meant (runs.Install name file)) (stopped fault)) b c → HasStored name kind (Err (of_batch_fault fault)) a c left rest
        unstored fault call = by_fault fault
            (subst (λ (m : Meaning Cause). Calls (ending_of (stop_status (of_batch_fault fault))) (Written {X = Vec ℕ Global} m (Err (of_batch_fault fault))) a c) meaning
            (written_fault (run_meant (runs.Install name file)) (Vec ℕ Global) fault (commands_on name (run_meant (runs.Install name file)) (stopped fault) (fault_ending fault) a b c law next first call)))
          where
            by_fault : (f : BatchFault) → Calls (ending_of (stop_status (of_batch_fault f))) (Written {X = Vec ℕ Global} (stores name kind found.bytes) (Err (of_batch_fault f))) a c → HasStored name kind (Err (of_batch_fault f)) a c left rest
            by_fault batch_faults.DiskFailed made = record { bytes = found.bytes; told = found.told; invalid = never name valid; named = tt; calls = made; text = tt; input = read_so name valid (most_bytes kind) false found.input }
            by_fault batch_faults.NoMemory made = record { bytes = found.bytes; told = found.told; invalid = never name valid; named = tt; calls = made; text = tt; input = read_so name valid (most_bytes kind) false found.input }
            by_fault (batch_faults.Cause cause) made = record { bytes = found.bytes; told = found.told; invalid = never name valid; named = never name valid; calls = made; text = tt; input = read_so name valid (most_bytes kind) false found.input }

        -- it is stored
        pub was_stored : (text : Vec ℕ Global) → text.items ≡ stored_text kind name → Calls Done (Commands (run_meant (runs.Install name file)) Made) b c → HasStored name kind (Ok text) a c left rest
        was_stored text is call = record {
          bytes = found.bytes;
          told = found.told;
          invalid = never name valid;
          named = valid;
          calls = subst (λ (m : Meaning Cause). Calls Done (Commands m Made) a c) meaning
              (written_done (run_meant (runs.Install name file)) text (commands_on name (run_meant (runs.Install name file)) Made Done a b c law next first call));
          text = is;
          input = read_so name valid (most_bytes kind) false found.input;
        }
