-- What `--fix` and `--unfix` come to, from what pl_batch makes of the folder.
use Rattle.std.proofs.Common.{◌≡◌, ℕ, List, [], true, false, Option, Some, None, refl, sym, ap, subst, ◌∙◌, inl}
use Rattle.std.specs.Prelude.{Result, Ok, Err, Vec, IfOk}
use Rattle.std.specs.declared.alloc.Global.{Global}
use Rattle.std.specs.FinMap.{get}
use Rattle.std.proofs.lemmas.Bool.{true≢false}
use Rattle.pl_base.specs.Answers.{because, ◌>>=◌}
use Rattle.pl_base.specs.Files.{Files}
use Rattle.pl_base.specs.Names.{IsNameLength, is_valid_name}
use Rattle.pl_base.proofs.NameLaws.{valid_length}
use Rattle.pl_io.specs.Seen.{Input}
use Rattle.pl_folder.specs.Calls.{Calls}
use Rattle.pl_folder.specs.Seen.{Seen, Done, Undone}
use Rattle.pl_journal.specs.declared.change.Change.{Change}
use Rattle.pl_journal.proofs.Meanings.{stands_self}
use Rattle.pl_journal.proofs.RealLemmas.{on_looks}
use Rattle.pl_journal.proofs.RecoverLemmas.{no_look}
use Rattle.pl_words.specs.declared.command.Policy.{Policy}
use Rattle.pl_change.specs.Answers.{fault_ending}
use Rattle.pl_change.specs.Commands.{Commands, Made, stopped}
use Rattle.pl_change.specs.Replace.{TellsAddress, address_of, fixed_as, fixing_meant, loosened_of, loosening_meant, replacement_of}
use Rattle.pl_change.specs.Restored.{restored}
use Rattle.pl_change.specs.Starts as starts
use Rattle.pl_change.specs.declared.cause.Cause as batch
use Rattle.pl_change.specs.declared.fault.BatchFault.{BatchFault}
use Rattle.pl_change.specs.declared.fault.BatchFault.TheVariants as batch_faults
use Rattle.pl_change.proofs.RestoredLemmas.{restored_before}
use Rattle.pl_change.proofs.StartLemmas.{invalid_ready}
use Rattle.pl_texts.specs.declared.cause.Cause.{Cause}
use Rattle.pl_texts.specs.declared.cause.Cause.TheVariants as causes
use Rattle.pl_cli.specs.declared.command.Command.TheVariants as commands
use Rattle.pl_texts.specs.declared.stop.Stop.{Stop}
use Rattle.pl_texts.specs.declared.stop.Stop.TheVariants as stops
use Rattle.pl_cli.specs.Answer.{done, fixed_line, refuses, text_answer, write_answer}
use Rattle.pl_texts.specs.DoneText.{fixed_text, unfixed_text}
use Rattle.pl_cli.specs.Came.{Came, HasFixed, HasUnfixed, Named, as_is}
use Rattle.pl_cli.specs.Load.{choice}
use Rattle.pl_texts.specs.Stops.{of_batch_fault}
use Rattle.pl_cli.specs.Words.{bytes_of}
use Rattle.pl_cli.specs.Writes.{fixes, loosens}
use Rattle.pl_texts.specs.Stops.{of_batch}
use Rattle.pl_texts.proofs.CallLemmas.{no_calls}
use Rattle.pl_cli.proofs.WriteLemmas.{by_name, gives_cause, gives_made, unread, writes, written_done, written_fault}

-- ---- the line of `--fix`

module _ (policy : Policy) (name : List ℕ) (files : Files) where
  -- the changes can be made, and this is the address; or there is a cause
  line_made : (rows : List Change) (at : ℕ) → fixing_meant (choice policy) name files ≡ Ok rows → address_of (choice policy) files name ≡ Ok at → fixed_line policy name files ≡ Ok (fixed_text name at)
  unfolding fixed_line
  line_made rows at made told =
      ap (λ (r : Result (List Change) batch.Cause). because of_batch r >>= λ changes. because of_batch (address_of (choice policy) files name) >>= λ address. Ok (fixed_text name address)) made
      ∙ ap (λ (r : Result ℕ batch.Cause). because of_batch r >>= λ address. Ok (fixed_text name address)) told

  line_cause : (cause : Cause) → fixes policy name files ≡ Err cause → fixed_line policy name files ≡ Err cause
  unfolding fixed_line
  line_cause cause is = ap (λ (r : Result (List Change) Cause). r >>= λ changes. because of_batch (address_of (choice policy) files name) >>= λ address. Ok (fixed_text name address)) is

-- of a name that is not valid this is the answer, of all files
module _ (name : List ℕ) (invalid : is_valid_name name ≡ false) (files : Files) where
  fixes_bad : (policy : Policy) → fixes policy name files ≡ Err causes.BadName
  fixes_bad policy = ap (λ (r : Result (List Change) batch.Cause). because of_batch (r >>= λ none. replacement_of (fixed_as (choice policy) name) files name)) (invalid_ready name invalid files)

  loosens_bad : loosens name files ≡ Err causes.BadName
  loosens_bad = ap (λ (r : Result (List Change) batch.Cause). because of_batch (r >>= λ none. replacement_of (loosened_of name) files name)) (invalid_ready name invalid files)

-- ---- `--fix`

module _ (name : List ℕ) (policy : Policy) where
  pub fixing_stopped : (fault : BatchFault) {a b : Seen} → Calls (fault_ending fault) (Commands (fixing_meant (choice policy) name) (stopped fault)) a b → starts.Named {X = ℕ} name (Err fault) → HasFixed name policy (Err (of_batch_fault fault)) a b
  fixing_stopped batch_faults.DiskFailed call named = record { named = tt; reads = refl; calls = written_fault (fixing_meant (choice policy) name) ℕ batch_faults.DiskFailed call; address = tt }
  fixing_stopped batch_faults.NoMemory call named = record { named = tt; reads = refl; calls = written_fault (fixing_meant (choice policy) name) ℕ batch_faults.NoMemory call; address = tt }
  fixing_stopped (batch_faults.Cause cause) call named = record { named = λ invalid. ap of_batch (named invalid); reads = refl; calls = written_fault (fixing_meant (choice policy) name) ℕ (batch_faults.Cause cause) call; address = tt }

  pub was_fixed : (at : ℕ) → is_valid_name name ≡ true → {a b : Seen} → Calls Done (Commands (fixing_meant (choice policy) name) Made) a b → TellsAddress (choice policy) name at a → HasFixed name policy (Ok at) a b
  was_fixed at valid {a = a} call tells = record {
    named = valid;
    reads = refl;
    calls = written_done (fixing_meant (choice policy) name) at call;
    address = λ told.
        let made = call.files told (restored a.files) (restored_before a.files) in
        line_made policy name (restored a.files) made.0 at made.1.means (tells told (restored a.files) (restored_before a.files));
  }

  pub came_fixed : (i : Input) {a b : Seen} (r : Result ℕ Stop) → HasFixed name policy r a b → Came (Some (commands.Fix name policy)) (fixed_text name) r a b i i
  came_fixed i {a = a} (Ok at) found = record {
    gives = λ told. ap text_answer (found.address (told.files found.named));
    ends = refl;
    calls = writes (λ bytes. fixes policy name) i.left (bytes_of i.left) (λ _. refl) ℕ (Ok at) found.calls;
    input = unread false 0 i;
  }
  came_fixed i {a = a} (Err (stops.Cause cause)) found = record {
    gives = λ told. by_name (is_valid_name name) name cause (λ (c : Cause). text_answer (fixed_line policy name (restored a.files)) ≡ refuses c) refl found.named
        (λ valid.
        let left = found.calls.files (told.files valid) (restored a.files) (restored_before a.files) in
        ap text_answer (line_cause policy name (restored a.files) cause left.means))
        (λ invalid. ap text_answer (line_cause policy name (restored a.files) causes.BadName (fixes_bad name invalid (restored a.files) policy)));
    ends = refl;
    calls = writes (λ bytes. fixes policy name) i.left (bytes_of i.left) (λ _. refl) ℕ (Err (stops.Cause cause)) found.calls;
    input = unread false 0 i;
  }
  came_fixed i (Err stops.Failed) found = record { gives = tt; ends = refl; calls = writes (λ bytes. fixes policy name) i.left (bytes_of i.left) (λ _. refl) ℕ (Err stops.Failed) found.calls; input = unread false 0 i }
  came_fixed i (Err stops.InputFailed) found = absurd (true≢false found.reads)
  came_fixed i (Err stops.NoMemory) found = record { gives = tt; ends = refl; calls = writes (λ bytes. fixes policy name) i.left (bytes_of i.left) (λ _. refl) ℕ (Err stops.NoMemory) found.calls; input = unread false 0 i }

-- a program that was fixed has a valid name
pub named_length : (name : List ℕ) (r : Result ℕ Stop) → Named name r → IfOk r (λ _. IsNameLength name)
named_length name (Ok at) named = valid_length name named
named_length name (Err stop) named = tt

-- ---- `--unfix`

module _ (name : List ℕ) where
  pub loosening_stopped : (fault : BatchFault) {a b : Seen} → Calls (fault_ending fault) (Commands (loosening_meant name) (stopped fault)) a b → starts.Named {X = Unit {0}} name (Err fault) → HasUnfixed name (Err (of_batch_fault fault)) a b
  loosening_stopped batch_faults.DiskFailed call named = record { named = tt; reads = refl; calls = written_fault (loosening_meant name) (Vec ℕ Global) batch_faults.DiskFailed call; text = tt }
  loosening_stopped batch_faults.NoMemory call named = record { named = tt; reads = refl; calls = written_fault (loosening_meant name) (Vec ℕ Global) batch_faults.NoMemory call; text = tt }
  loosening_stopped (batch_faults.Cause cause) call named = record { named = λ invalid. ap of_batch (named invalid); reads = refl; calls = written_fault (loosening_meant name) (Vec ℕ Global) (batch_faults.Cause cause) call; text = tt }

  pub was_loosened : (text : Vec ℕ Global) → text.items ≡ unfixed_text name → is_valid_name name ≡ true → {a b : Seen} → Calls Done (Commands (loosening_meant name) Made) a b → HasUnfixed name (Ok text) a b
  was_loosened text is valid call = record { named = valid; reads = refl; calls = written_done (loosening_meant name) text call; text = is }

  -- there was no memory for the line
  pub not_said : (a : Seen) → HasUnfixed name (Err stops.NoMemory) a a
  not_said a = record { named = tt; reads = refl; calls = no_calls Undone a refl (stands_self (get a.files) (get a.files) (λ n. refl)) (inl (no_look a.disk a.disk refl), on_looks Undone (no_look a.disk a.disk refl)); text = tt }

  pub came_unfixed : (i : Input) {a b : Seen} (r : Result (Vec ℕ Global) Stop) → HasUnfixed name r a b → Came (Some (commands.Unfix name)) as_is r a b i i
  came_unfixed i {a = a} {b = b} (Ok text) found = record {
    gives = λ told. (gives_made (loosens name) (λ rows. unfixed_text name) a b (found.calls.files (told.files found.named))).1 ∙ ap done (sym found.text);
    ends = refl;
    calls = writes (λ bytes. loosens name) i.left (bytes_of i.left) (λ _. refl) (Vec ℕ Global) (Ok text) found.calls;
    input = unread false 0 i;
  }
  came_unfixed i {a = a} {b = b} (Err (stops.Cause cause)) found = record {
    gives = λ told. by_name (is_valid_name name) name cause (λ (c : Cause). write_answer (λ rows. unfixed_text name) (loosens name (restored a.files)) ≡ refuses c) refl found.named
        (λ valid. gives_cause (loosens name) (λ rows. unfixed_text name) a b cause (found.calls.files (told.files valid)))
        (λ invalid. ap (write_answer (λ rows. unfixed_text name)) (loosens_bad name invalid (restored a.files)));
    ends = refl;
    calls = writes (λ bytes. loosens name) i.left (bytes_of i.left) (λ _. refl) (Vec ℕ Global) (Err (stops.Cause cause)) found.calls;
    input = unread false 0 i;
  }
  came_unfixed i (Err stops.Failed) found = record { gives = tt; ends = refl; calls = writes (λ bytes. loosens name) i.left (bytes_of i.left) (λ _. refl) (Vec ℕ Global) (Err stops.Failed) found.calls; input = unread false 0 i }
  came_unfixed i (Err stops.InputFailed) found = absurd (true≢false found.reads)
  came_unfixed i (Err stops.NoMemory) found = record { gives = tt; ends = refl; calls = writes (λ bytes. loosens name) i.left (bytes_of i.left) (λ _. refl) (Vec ℕ Global) (Err stops.NoMemory) found.calls; input = unread false 0 i }
