-- A run, from what a command came to and what was written of it.
use Rattle.std.proofs.Common.{◌≡◌, ℕ, List, [], false, Option, Some, None, refl, sym, ap, subst, ◌∙◌, inl, inr, arith}
use Rattle.std.specs.Prelude.{Result, Ok, Err, Vec, is_some, option_map}
use Rattle.std.specs.declared.alloc.Global.{Global}
use Rattle.std.specs.FinMap.{get}
use Rattle.std.proofs.lemmas.Bool.{true≢false}
use Rattle.pl_base.specs.Answers.{◌>>=◌, because}
use Rattle.pl_base.specs.Counts.{Counted}
use Rattle.pl_base.specs.Streams.{got_after, GotPrefix}
use Rattle.pl_io.specs.Seen.{Input, Output}
use Rattle.pl_folder.specs.Calls.{Calls}
use Rattle.pl_folder.specs.Seen.{Seen, Done, Undone, IsFolder}
use Rattle.pl_elf.specs.declared.range.Range.{Range}
use Rattle.pl_change.specs.Commands.{Meaning}
use Rattle.pl_batch.specs.declared.prelinking.Prelinking.{Prelinking}
use Rattle.pl_batch.specs.declared.run.Run.TheVariants as runs
use Rattle.pl_change.proofs.AgainLemmas.{refused_disk, refused_files}
use Rattle.pl_loader.specs.Loading as loading
use Rattle.pl_words.specs.declared.command.Policy.{Policy}
use Rattle.pl_loader.specs.Started.{Start, started}
use Rattle.pl_loader.specs.declared.object_file.ObjectFile.{ObjectFile}
use Rattle.pl_texts.specs.declared.cause.Cause.{Cause}
use Rattle.pl_texts.specs.declared.cause.Cause.TheVariants as causes
use Rattle.pl_cli.specs.declared.command.Command.{Command}
use Rattle.pl_cli.specs.declared.command.Command.TheVariants.{Load, All, Preview, UndoAll, Undo, Verify, Store, Remove, Fix, Unfix, Print, Order, Demo, Weave}
use Rattle.pl_texts.specs.declared.detail.Detail.{Detail}
use Rattle.pl_words.specs.declared.status.Status.{Status}
use Rattle.pl_words.specs.declared.status.Status.TheVariants as statuses
use Rattle.pl_texts.specs.declared.stop.Stop.{Stop}
use Rattle.pl_texts.specs.declared.stop.Stop.TheVariants as stops
use Rattle.pl_cli.specs.Answer.{Answer, IsTold, answer, compare_answer, compared, done, load_answer, text_answer, refuses}
use Rattle.pl_texts.specs.DoneText.{usage, differs_text}
use Rattle.pl_cli.specs.Came.{Came, HasDemo, HasLoaded, HasPreviewed, HasVerified, Makes, as_is, HasWoven}
use Rattle.pl_texts.specs.Finds.{HasOrdered, HasPrinted}
use Rattle.pl_cli.specs.Load.{choice, loaded_files}
use Rattle.pl_cli.specs.Outside.{Consumes, most_read, outside}
use Rattle.pl_cli.specs.Ran.{Finishes, Ran, Refuses, Writes}
use Rattle.pl_cli.specs.Weave.{weaves}
use Rattle.pl_cli.specs.Words.{bytes_of, reads_input}
use Rattle.pl_cli.specs.Writes.{WritesFolder, fixes, loosens, prelinks, removes, stores, undoes, AreBytes}
use Rattle.pl_texts.proofs.CallLemmas.{as_calls, asked_all, looked_all, no_calls}
use Rattle.pl_cli.proofs.LoadLemmas.{loaded_is}
use Rattle.pl_cli.proofs.WriteLemmas.{unread}
use Rattle.pl_journal.proofs.Meanings.{stands_self}
use Rattle.pl_journal.proofs.RealLemmas.{on_looks}
use Rattle.pl_journal.proofs.RecoverLemmas.{no_look}

-- ---- the folder, where it ends with another status

module _ (meant : List ℕ → Meaning Cause) (input : Option (List ℕ)) {a b : Seen} where
  -- the output failed in the line of a cause
  writes_line_failed : Calls Done (WritesFolder meant input statuses.Refused) a b → Calls Done (WritesFolder meant input statuses.WriteFault) a b
  writes_line_failed call = as_calls Done Done refl call (λ told w. (w.0, w.1, inr w.2)) (λ told w. (w.0, w.1, inr w.2))

  -- there was no memory for the line
  writes_line_lacked : IsFolder a → Calls Done (WritesFolder meant input statuses.Refused) a b → Calls Undone (WritesFolder meant input statuses.NoMemory) a b
  writes_line_lacked law call = as_calls Done Undone refl call
      (λ told w. (w.0, w.1, refused_files (meant w.0) w.2.0 a b w.2.1))
      (λ told w. (w.0, w.1, refused_disk (meant w.0) w.2.0 a b law told w.2.1))

  -- the output failed in a text
  writes_text_failed : Calls Done (WritesFolder meant input statuses.Done) a b → Calls Done (WritesFolder meant input statuses.WriteFault) a b
  writes_text_failed call = as_calls Done Done refl call (λ told w. (w.0, w.1, inl w.2)) (λ told w. (w.0, w.1, inl w.2))

module _ (input : Option (List ℕ)) {a b : Seen} where
  line_failed : (asked : Option Command) → Calls Done (Makes asked a.files input statuses.Refused) a b → Calls Done (Makes asked a.files input statuses.WriteFault) a b
  line_failed None call = call
  line_failed (Some (Load name busy policy)) call = call
  line_failed (Some (Verify name)) call = call
  line_failed (Some Print) call = call
  line_failed (Some Weave) call = call
  line_failed (Some (Order name detail)) call = call
  line_failed (Some (Demo number)) call = call
  line_failed (Some (All asked detail)) call = writes_line_failed (λ bytes. prelinks asked) input call
  line_failed (Some (Preview asked detail)) call = call
  line_failed (Some UndoAll) call = writes_line_failed (λ bytes. undoes runs.UndoAll) input call
  line_failed (Some (Undo names)) call = writes_line_failed (λ bytes. undoes (runs.Undo names)) input call
  line_failed (Some (Store name kind)) call = writes_line_failed (stores name kind) input call
  line_failed (Some (Remove name)) call = writes_line_failed (λ bytes. removes name) input call
  line_failed (Some (Fix name policy)) call = writes_line_failed (λ bytes. fixes policy name) input call
  line_failed (Some (Unfix name)) call = writes_line_failed (λ bytes. loosens name) input call

  line_lacked : (asked : Option Command) → IsFolder a → Calls Done (Makes asked a.files input statuses.Refused) a b → Calls Undone (Makes asked a.files input statuses.NoMemory) a b
  line_lacked None law call = asked_all 0 call
  line_lacked (Some (Load name busy policy)) law call = asked_all _ call
  line_lacked (Some (Verify name)) law call = looked_all call
  line_lacked (Some Print) law call = asked_all 1 call
  line_lacked (Some Weave) law call = looked_all call
  line_lacked (Some (Order name detail)) law call = asked_all _ call
  line_lacked (Some (Demo number)) law call = asked_all 0 call
  line_lacked (Some (All asked detail)) law call = writes_line_lacked (λ bytes. prelinks asked) input law call
  line_lacked (Some (Preview asked detail)) law call = looked_all call
  line_lacked (Some UndoAll) law call = writes_line_lacked (λ bytes. undoes runs.UndoAll) input law call
  line_lacked (Some (Undo names)) law call = writes_line_lacked (λ bytes. undoes (runs.Undo names)) input law call
  line_lacked (Some (Store name kind)) law call = writes_line_lacked (stores name kind) input law call
  line_lacked (Some (Remove name)) law call = writes_line_lacked (λ bytes. removes name) input law call
  line_lacked (Some (Fix name policy)) law call = writes_line_lacked (λ bytes. fixes policy name) input law call
  line_lacked (Some (Unfix name)) law call = writes_line_lacked (λ bytes. loosens name) input law call

  text_failed : (asked : Option Command) → Calls Done (Makes asked a.files input statuses.Done) a b → Calls Done (Makes asked a.files input statuses.WriteFault) a b
  text_failed None call = call
  text_failed (Some (Load name busy policy)) call = call
  text_failed (Some (Verify name)) call = call
  text_failed (Some Print) call = call
  text_failed (Some Weave) call = call
  text_failed (Some (Order name detail)) call = call
  text_failed (Some (Demo number)) call = call
  text_failed (Some (All asked detail)) call = writes_text_failed (λ bytes. prelinks asked) input call
  text_failed (Some (Preview asked detail)) call = call
  text_failed (Some UndoAll) call = writes_text_failed (λ bytes. undoes runs.UndoAll) input call
  text_failed (Some (Undo names)) call = writes_text_failed (λ bytes. undoes (runs.Undo names)) input call
  text_failed (Some (Store name kind)) call = writes_text_failed (stores name kind) input call
  text_failed (Some (Remove name)) call = writes_text_failed (λ bytes. removes name) input call
  text_failed (Some (Fix name policy)) call = writes_text_failed (λ bytes. fixes policy name) input call
  text_failed (Some (Unfix name)) call = writes_text_failed (λ bytes. loosens name) input call

quiet : (o p : Output) → p ≡ o → Counted false o.faults p.faults
quiet o p same = subst (λ (q : Output). Counted false o.faults q.faults) (sym same) (record { later = omega arith; rose = λ e. cc; quiet = λ _. refl })

-- ---- a command that stopped

module _ (asked : Option Command) {Y : Type 0} (text : Y → List ℕ) {a b : Seen} {left rest : Input} {o p : Output} (law : IsFolder a) where
  -- it was refused
  ran_refused : (cause : Cause) (status : Status) → Came asked text (Err (stops.Cause cause)) a b left rest → Writes (refuses cause) status o p → Ran asked (outside a left o) (outside b rest p) status
  ran_refused cause statuses.Refused came wrote = record {
    ends = came.ends;
    prints = λ told. (ap (λ (m : Answer). m.status) (came.gives told), (wrote.prints tt).1 ∙ ap (λ (m : Answer). got_after o.got m.text) (sym (came.gives told)));
    folder = came.calls;
    input = came.input;
    output = wrote.count;
  }
  ran_refused cause statuses.WriteFault came wrote = record {
    ends = refl;
    prints = λ told. subst (λ (m : Answer). GotPrefix o.got p.got m.text) (sym (came.gives told)) (wrote.prints tt);
    folder = line_failed left.left asked came.calls;
    input = came.input;
    output = wrote.count;
  }
  ran_refused cause statuses.NoMemory came wrote = record {
    ends = refl;
    prints = wrote.prints;
    folder = line_lacked left.left asked law came.calls;
    input = came.input;
    output = wrote.count;
  }
  ran_refused cause statuses.Done came wrote = let e = (wrote.prints tt).0 in cc
  ran_refused cause statuses.Differs came wrote = let e = (wrote.prints tt).0 in cc
  ran_refused cause statuses.Usage came wrote = let e = (wrote.prints tt).0 in cc
  ran_refused cause statuses.ReadFault came wrote = absurd (true≢false wrote.input)
  ran_refused cause statuses.DiskFault came wrote = absurd (true≢false wrote.folder)

  pub ran_stopped : (stop : Stop) (status : Status) → Came asked text (Err stop) a b left rest → Refuses stop status o p → Ran asked (outside a left o) (outside b rest p) status
  ran_stopped (stops.Cause cause) status came wrote = ran_refused cause status came wrote
  ran_stopped stops.Failed status came wrote = subst (Ran asked (outside a left o) (outside b rest p)) (sym wrote.0)
      (record { ends = came.ends; prints = ap (λ (q : Output). q.got) wrote.1; folder = came.calls; input = came.input; output = quiet o p wrote.1 })
  ran_stopped stops.InputFailed status came wrote = subst (Ran asked (outside a left o) (outside b rest p)) (sym wrote.0)
      (record { ends = came.ends; prints = ap (λ (q : Output). q.got) wrote.1; folder = came.calls; input = came.input; output = quiet o p wrote.1 })
  ran_stopped stops.NoMemory status came wrote = subst (Ran asked (outside a left o) (outside b rest p)) (sym wrote.0)
      (record { ends = came.ends; prints = ap (λ (q : Output). q.got) wrote.1; folder = came.calls; input = came.input; output = quiet o p wrote.1 })

-- ---- a command that came to a text

module _ (asked : Option Command) {Y : Type 0} (text : Y → List ℕ) (y : Y) {a b : Seen} {left rest : Input} {o p : Output} (came : Came asked text (Ok y) a b left rest) where
  pub ran_done : (status : Status) → Finishes (done (text y)) status o p → Ran asked (outside a left o) (outside b rest p) status
  ran_done statuses.Done fin = record {
    ends = came.ends;
    prints = λ told. (ap (λ (m : Answer). m.status) (came.gives told), fin.whole refl ∙ ap (λ (m : Answer). got_after o.got m.text) (sym (came.gives told)));
    folder = came.calls;
    input = came.input;
    output = fin.count;
  }
  ran_done statuses.WriteFault fin = record {
    ends = refl;
    prints = λ told. subst (λ (m : Answer). GotPrefix o.got p.got m.text) (sym (came.gives told)) (fin.prefix refl);
    folder = text_failed left.left asked came.calls;
    input = came.input;
    output = fin.count;
  }
  ran_done statuses.Differs fin = let e = fin.ends refl in cc
  ran_done statuses.Usage fin = let e = fin.ends refl in cc
  ran_done statuses.Refused fin = let e = fin.ends refl in cc
  ran_done statuses.ReadFault fin = let e = fin.ends refl in cc
  ran_done statuses.DiskFault fin = let e = fin.ends refl in cc
  ran_done statuses.NoMemory fin = let e = fin.ends refl in cc

-- ---- words that are no command

untouched : (i : Input) → Consumes false 0 false i i
untouched i = record { untouched = λ _. refl; tells = refl; most = λ e _. cc; count = record { later = omega arith; rose = λ e. cc; quiet = λ _. refl } }

-- a load that stopped
unstarted : (name : List ℕ) (busy : Option Range) (policy : Policy) (a : Seen) (cause : Cause) → loaded_files policy a.files name ≡ Err cause → answer (Some (Load name busy policy)) a.files [] ≡ refuses cause
unstarted name busy policy a cause is = ap load_answer (loaded_is policy busy a.files name ∙ ap (λ (r : Result (List ObjectFile) Cause). r >>= λ all. because causes.Load (started (choice policy) busy all)) is)

pub unloaded : {F : Type 0} (name : List ℕ) (busy : Option Range) (policy : Policy) {a b : Seen} (i : Input) (stop : Stop) → HasLoaded {F = F} policy name (Err stop) a b → Came (Some (Load name busy policy)) as_is (Err stop) a b i i
unloaded name busy policy {a = a} i (stops.Cause cause) found = record { gives = λ told. unstarted name busy policy a cause (found.means told.files); ends = refl; calls = found.calls; input = untouched i }
unloaded name busy policy i stops.Failed found = record { gives = tt; ends = found.fails refl; calls = found.calls; input = untouched i }
unloaded name busy policy i stops.InputFailed found = absurd (true≢false found.reads)
unloaded name busy policy i stops.NoMemory found = record { gives = tt; ends = refl; calls = found.calls; input = untouched i }

-- no load ends so
loads_differ : (r : Result Start Cause) → (load_answer r).status ≡ statuses.Differs → ⊥
loads_differ (Ok start) is = cc
loads_differ (Err cause) is = cc

loads_usage : (r : Result Start Cause) → (load_answer r).status ≡ statuses.Usage → ⊥
loads_usage (Ok start) is = cc
loads_usage (Err cause) is = cc

module _ {F : Type 0} (name : List ℕ) (busy : Option Range) (policy : Policy) {a b : Seen} (i : Input) (l : loading.Load F) (found : HasLoaded policy name (Ok l) a b) where
  means : IsTold (Some (Load name busy policy)) a.tells (is_some i.left) → answer (Some (Load name busy policy)) a.files [] ≡ load_answer (because causes.Load (started (choice policy) busy l.walk.files))
  means told = ap load_answer (loaded_is policy busy a.files name ∙ ap (λ (r : Result (List ObjectFile) Cause). r >>= λ all. because causes.Load (started (choice policy) busy all)) (found.means told.files))

  whole : (old new : Option (List ℕ)) (status : Status) → IsTold (Some (Load name busy policy)) a.tells (is_some i.left)
      → ((load_answer (because causes.Load (started (choice policy) busy l.walk.files))).status ≡ status) × (new ≡ got_after old (load_answer (because causes.Load (started (choice policy) busy l.walk.files))).text)
      → ((answer (Some (Load name busy policy)) a.files []).status ≡ status) × (new ≡ got_after old (answer (Some (Load name busy policy)) a.files []).text)
  whole old new status told wrote = (ap (λ (m : Answer). m.status) (means told) ∙ wrote.0, wrote.1 ∙ ap (λ (m : Answer). got_after old m.text) (sym (means told)))

  pub ran_loaded : {o p : Output} (status : Status) → Writes (load_answer (because causes.Load (started (choice policy) busy l.walk.files))) status o p → Ran (Some (Load name busy policy)) (outside a i o) (outside b i p) status
  ran_loaded {o = o} {p = p} statuses.Done wrote = record { ends = refl; prints = λ told. whole o.got p.got statuses.Done told (wrote.prints tt); folder = found.calls; input = untouched i; output = wrote.count }
  ran_loaded {o = o} {p = p} statuses.Refused wrote = record { ends = refl; prints = λ told. whole o.got p.got statuses.Refused told (wrote.prints tt); folder = found.calls; input = untouched i; output = wrote.count }
  ran_loaded {o = o} {p = p} statuses.WriteFault wrote = record {
    ends = refl;
    prints = λ told. subst (λ (m : Answer). GotPrefix o.got p.got m.text) (sym (means told)) (wrote.prints tt);
    folder = found.calls;
    input = untouched i;
    output = wrote.count;
  }
  ran_loaded {o = o} {p = p} statuses.NoMemory wrote = record { ends = refl; prints = wrote.prints; folder = asked_all _ found.calls; input = untouched i; output = wrote.count }
  ran_loaded {o = o} {p = p} statuses.Differs wrote = absurd (loads_differ _ (wrote.prints tt).0)
  ran_loaded {o = o} {p = p} statuses.Usage wrote = absurd (loads_usage _ (wrote.prints tt).0)
  ran_loaded {o = o} {p = p} statuses.ReadFault wrote = absurd (true≢false wrote.input)
  ran_loaded {o = o} {p = p} statuses.DiskFault wrote = absurd (true≢false wrote.folder)

-- ---- `--order`, `-p` and `-a -n`

pub came_ordered : (name : List ℕ) (detail : Detail) (i : Input) {a b : Seen} (r : Result (Vec ℕ Global) Stop) → HasOrdered name detail r a b → Came (Some (Order name detail)) as_is r a b i i
came_ordered name detail i (Ok text) found = record { gives = λ told. ap text_answer (found.means told.files); ends = refl; calls = found.calls; input = untouched i }
came_ordered name detail i (Err (stops.Cause cause)) found = record { gives = λ told. ap text_answer (found.means told.files); ends = refl; calls = found.calls; input = untouched i }
came_ordered name detail i (Err stops.Failed) found = record { gives = tt; ends = found.fails refl; calls = found.calls; input = untouched i }
came_ordered name detail i (Err stops.InputFailed) found = absurd (true≢false found.reads)
came_ordered name detail i (Err stops.NoMemory) found = record { gives = tt; ends = refl; calls = found.calls; input = untouched i }

pub came_demo : (number : ℕ) (a : Seen) (i : Input) (r : Result (Vec ℕ Global) Stop) → HasDemo number r → Came (Some (Demo number)) as_is r a a i i
came_demo number a i (Ok text) is = record { gives = λ told. ap done (sym is); ends = refl; calls = no_calls Done a refl refl refl; input = untouched i }
came_demo number a i (Err (stops.Cause cause)) is = absurd is
came_demo number a i (Err stops.Failed) is = absurd is
came_demo number a i (Err stops.InputFailed) is = absurd is
came_demo number a i (Err stops.NoMemory) is = record { gives = tt; ends = refl; calls = no_calls Undone a refl refl (0, omega arith, refl); input = untouched i }

pub came_printed : (i : Input) {a b : Seen} (r : Result (Vec ℕ Global) Stop) → HasPrinted r a b → Came (Some Print) as_is r a b i i
came_printed i (Ok text) found = record { gives = λ told. ap text_answer (found.means told.files); ends = refl; calls = found.calls; input = untouched i }
came_printed i (Err (stops.Cause cause)) found = record { gives = λ told. ap text_answer (found.means told.files); ends = refl; calls = found.calls; input = untouched i }
came_printed i (Err stops.Failed) found = record { gives = tt; ends = refl; calls = found.calls; input = untouched i }
came_printed i (Err stops.InputFailed) found = absurd (true≢false found.reads)
came_printed i (Err stops.NoMemory) found = record { gives = tt; ends = refl; calls = found.calls; input = untouched i }

-- the input of a weave is read whole, where it tells its bytes
same_weave : (bytes : List ℕ) (a : Seen) (left : Input) → AreBytes left.left bytes → IsTold (Some Weave) a.tells (is_some left.left) → answer (Some Weave) a.files (bytes_of left.left) ≡ text_answer (weaves bytes a.files)
same_weave bytes a left told all = ap (λ (b : List ℕ). text_answer (weaves b a.files)) (sym (told (all.input refl)))

pub came_woven : {a b : Seen} {left rest : Input} (r : Result (Vec ℕ Global) Stop) → HasWoven r a b left rest → Came (Some Weave) as_is r a b left rest
came_woven {a = a} {left = left} (Ok text) found = record { gives = λ told. same_weave found.bytes a left found.told told ∙ ap text_answer (found.means (told.files refl)); ends = refl; calls = found.calls; input = found.input }
came_woven {a = a} {left = left} (Err (stops.Cause cause)) found = record { gives = λ told. same_weave found.bytes a left found.told told ∙ ap text_answer (found.means (told.files refl)); ends = refl; calls = found.calls; input = found.input }
came_woven (Err stops.Failed) found = record { gives = tt; ends = refl; calls = found.calls; input = found.input }
came_woven (Err stops.InputFailed) found = record { gives = tt; ends = refl; calls = found.calls; input = found.input }
came_woven (Err stops.NoMemory) found = record { gives = tt; ends = refl; calls = found.calls; input = found.input }

pub came_previewed : (asked : Prelinking) (detail : Detail) (i : Input) {a b : Seen} (r : Result (Vec ℕ Global) Stop) → HasPreviewed asked detail r a b → Came (Some (Preview asked detail)) as_is r a b i i
came_previewed asked detail i (Ok text) found = record { gives = λ told. ap text_answer (found.means told.files); ends = refl; calls = found.calls; input = untouched i }
came_previewed asked detail i (Err (stops.Cause cause)) found = record { gives = λ told. ap text_answer (found.means told.files); ends = refl; calls = found.calls; input = untouched i }
came_previewed asked detail i (Err stops.Failed) found = record { gives = tt; ends = refl; calls = found.calls; input = untouched i }
came_previewed asked detail i (Err stops.InputFailed) found = absurd (true≢false found.reads)
came_previewed asked detail i (Err stops.NoMemory) found = record { gives = tt; ends = refl; calls = found.calls; input = untouched i }

pub came_verified : (name : List ℕ) (i : Input) {a b : Seen} (stop : Stop) → HasVerified name (Err stop) a b → Came (Some (Verify name)) as_is (Err stop) a b i i
came_verified name i (stops.Cause cause) found = record { gives = λ told. ap compare_answer (found.means told.files); ends = refl; calls = found.calls; input = untouched i }
came_verified name i stops.Failed found = record { gives = tt; ends = found.fails refl; calls = found.calls; input = untouched i }
came_verified name i stops.InputFailed found = absurd (true≢false found.reads)
came_verified name i stops.NoMemory found = record { gives = tt; ends = refl; calls = found.calls; input = untouched i }

-- a file that is what it should be
ran_verified : (name : List ℕ) (original : Vec ℕ Global) {a b : Seen} (i : Input) → HasVerified name (Ok (Some original)) a b → {o p : Output} (status : Status) → Finishes (done original.items) status o p → Ran (Some (Verify name)) (outside a i o) (outside b i p) status
ran_verified name original i found {o = o} {p = p} statuses.Done fin = record {
  ends = refl;
  prints = λ told. (ap (λ (r : Result (Option (List ℕ)) Cause). (compare_answer r).status) (found.means told.files), fin.whole refl ∙ ap (λ (r : Result (Option (List ℕ)) Cause). got_after o.got (compare_answer r).text) (sym (found.means told.files)));
  folder = found.calls;
  input = untouched i;
  output = fin.count;
}
ran_verified name original i found {o = o} {p = p} statuses.WriteFault fin = record {
  ends = refl;
  prints = λ told. subst (λ (r : Result (Option (List ℕ)) Cause). GotPrefix o.got p.got (compare_answer r).text) (sym (found.means told.files)) (fin.prefix refl);
  folder = found.calls;
  input = untouched i;
  output = fin.count;
}
ran_verified name original i found statuses.Differs fin = let e = fin.ends refl in cc
ran_verified name original i found statuses.Usage fin = let e = fin.ends refl in cc
ran_verified name original i found statuses.Refused fin = let e = fin.ends refl in cc
ran_verified name original i found statuses.ReadFault fin = let e = fin.ends refl in cc
ran_verified name original i found statuses.DiskFault fin = let e = fin.ends refl in cc
ran_verified name original i found statuses.NoMemory fin = let e = fin.ends refl in cc

-- one that differs
ran_differing : (name : List ℕ) {a b : Seen} (i : Input) → HasVerified name (Ok None) a b → {o p : Output} (status : Status) → Finishes (compared None) status o p → Ran (Some (Verify name)) (outside a i o) (outside b i p) status
ran_differing name i found {o = o} {p = p} statuses.Differs fin = record {
  ends = refl;
  prints = λ told. (ap (λ (r : Result (Option (List ℕ)) Cause). (compare_answer r).status) (found.means told.files), fin.whole refl ∙ ap (λ (r : Result (Option (List ℕ)) Cause). got_after o.got (compare_answer r).text) (sym (found.means told.files)));
  folder = found.calls;
  input = untouched i;
  output = fin.count;
}
ran_differing name i found {o = o} {p = p} statuses.WriteFault fin = record {
  ends = refl;
  prints = λ told. subst (λ (r : Result (Option (List ℕ)) Cause). GotPrefix o.got p.got (compare_answer r).text) (sym (found.means told.files)) (fin.prefix refl);
  folder = found.calls;
  input = untouched i;
  output = fin.count;
}
ran_differing name i found statuses.Done fin = let e = fin.ends refl in cc
ran_differing name i found statuses.Usage fin = let e = fin.ends refl in cc
ran_differing name i found statuses.Refused fin = let e = fin.ends refl in cc
ran_differing name i found statuses.ReadFault fin = let e = fin.ends refl in cc
ran_differing name i found statuses.DiskFault fin = let e = fin.ends refl in cc
ran_differing name i found statuses.NoMemory fin = let e = fin.ends refl in cc

pub ran_compared : (name : List ℕ) (original : Option (Vec ℕ Global)) {a b : Seen} (i : Input) → HasVerified name (Ok original) a b → {o p : Output} (status : Status) → Finishes (compared (option_map (λ (v : Vec ℕ Global). v.items) original)) status o p → Ran (Some (Verify name)) (outside a i o) (outside b i p) status
ran_compared name (Some original) {a = a} {b = b} i found status fin = ran_verified name original {a = a} {b = b} i found status fin
ran_compared name None {a = a} {b = b} i found status fin = ran_differing name {a = a} {b = b} i found status fin

pub ran_usage : (a : Seen) (i : Input) {o p : Output} (status : Status) → Finishes (record { status = statuses.Usage; text = usage }) status o p → Ran None (outside a i o) (outside a i p) status
ran_usage a i statuses.Usage fin = record { ends = refl; prints = λ _. (refl, fin.whole refl); folder = no_calls Done a refl refl refl; input = untouched i; output = fin.count }
ran_usage a i statuses.WriteFault fin = record { ends = refl; prints = λ _. fin.prefix refl; folder = no_calls Done a refl refl refl; input = untouched i; output = fin.count }
ran_usage a i statuses.Done fin = let e = fin.ends refl in cc
ran_usage a i statuses.Differs fin = let e = fin.ends refl in cc
ran_usage a i statuses.Refused fin = let e = fin.ends refl in cc
ran_usage a i statuses.ReadFault fin = let e = fin.ends refl in cc
ran_usage a i statuses.DiskFault fin = let e = fin.ends refl in cc
ran_usage a i statuses.NoMemory fin = let e = fin.ends refl in cc

-- ---- memory lacks before anything is asked

lacks_writing : (meant : List ℕ → Meaning Cause) (input : Option (List ℕ)) (a : Seen) → Calls Undone (WritesFolder meant input statuses.NoMemory) a a
lacks_writing meant input a = no_calls Undone a refl (bytes_of input, (λ _. refl), stands_self (get a.files) (get a.files) (λ n. refl)) (bytes_of input, (λ _. refl), (inl (no_look a.disk a.disk refl), on_looks Undone (no_look a.disk a.disk refl)))

lacks : (asked : Option Command) (input : Option (List ℕ)) (a : Seen) → Calls Undone (Makes asked a.files input statuses.NoMemory) a a
lacks None input a = no_calls Undone a refl refl (0, omega arith, refl)
lacks (Some (Load name busy policy)) input a = no_calls Undone a refl refl (0, omega arith, refl)
lacks (Some (Verify name)) input a = no_calls Undone a refl refl (no_look a.disk a.disk refl)
lacks (Some Print) input a = no_calls Undone a refl refl (0, omega arith, refl)
lacks (Some Weave) input a = no_calls Undone a refl refl (no_look a.disk a.disk refl)
lacks (Some (Order name detail)) input a = no_calls Undone a refl refl (0, omega arith, refl)
lacks (Some (Demo number)) input a = no_calls Undone a refl refl (0, omega arith, refl)
lacks (Some (All asked detail)) input a = lacks_writing (λ bytes. prelinks asked) input a
lacks (Some (Preview asked detail)) input a = no_calls Undone a refl refl (no_look a.disk a.disk refl)
lacks (Some UndoAll) input a = lacks_writing (λ bytes. undoes runs.UndoAll) input a
lacks (Some (Undo names)) input a = lacks_writing (λ bytes. undoes (runs.Undo names)) input a
lacks (Some (Store name kind)) input a = lacks_writing (stores name kind) input a
lacks (Some (Remove name)) input a = lacks_writing (λ bytes. removes name) input a
lacks (Some (Fix name policy)) input a = lacks_writing (λ bytes. fixes policy name) input a
lacks (Some (Unfix name)) input a = lacks_writing (λ bytes. loosens name) input a

pub ran_lacking : (asked : Option Command) (a : Seen) (i : Input) (o : Output) → Ran asked (outside a i o) (outside a i o) statuses.NoMemory
ran_lacking asked a i o = record { ends = refl; prints = refl; folder = lacks asked i.left a; input = unread (reads_input asked) (most_read asked) i; output = quiet o o refl }
