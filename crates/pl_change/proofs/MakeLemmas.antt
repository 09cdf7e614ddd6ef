-- A command: it starts, finds its changes, and makes them.
use Rattle.std.proofs.Common.{◌≡◌, inl, inr, ⊎_elim, ℕ, List, [], true, refl, sym, ◌∙◌, ap, subst}
use Rattle.std.specs.Prelude.{Ok, Err, Result, length}
use Rattle.std.specs.FinMap.{get}
use Rattle.pl_base.specs.Answers.{◌>>=◌}
use Rattle.pl_base.specs.Files.{Files}
use Rattle.pl_folder.specs.Calls.{Calls}
use Rattle.pl_folder.specs.Disk.{Disk, IsCrashImage, State, View, read}
use Rattle.pl_folder.specs.Seen.{Seen, Ending, Done, Broken, Undone, IsFolder}
use Rattle.pl_folder.specs.Since.{Keeps}
use Rattle.pl_journal.specs.Faults.{IsNotBad, journal_ending}
use Rattle.pl_journal.specs.Meaning.{HasNoOwn, IsSettled, Same, StandsBetween, StandsFor, applied}
use Rattle.pl_journal.specs.Parts.{CarriesDisk, CarriesFiles, CarriesOut, IsRested, Looking}
use Rattle.pl_journal.specs.RealDisk.{RunsFirmly, RunsFirmlyOn}
use Rattle.pl_journal.specs.Rows.{recovered}
use Rattle.pl_journal.specs.declared.change.Change.{Change}
use Rattle.pl_journal.specs.declared.fault.JournalFault.{JournalFault}
use Rattle.pl_journal.specs.declared.fault.JournalFault.TheVariants as journal_faults
use Rattle.pl_journal.proofs.CarryLemmas.{settled_within_for}
use Rattle.pl_journal.proofs.Endings.{makes_told, then_told}
use Rattle.pl_journal.proofs.FileViews.{one_view, read_files}
use Rattle.pl_journal.proofs.Meanings.{before_between, stands_recovered, stands_self}
use Rattle.pl_journal.proofs.Moments.{joined, weaker}
use Rattle.pl_journal.proofs.RealLemmas.{on_looks, on_then}
use Rattle.pl_journal.proofs.RecoverLemmas.{looks_keep}
use Rattle.pl_change.specs.Answers.{Finds, fault_ending, of_journal}
use Rattle.pl_change.specs.Commands.{Commands, Counts, Failed, IsBefore, Lacked, Made, Meaning, OnTheWay, and_then, stopped}
use Rattle.pl_change.specs.Starts.{Starts}
use Rattle.pl_change.specs.declared.cause.Cause.{Cause}
use Rattle.pl_change.specs.declared.fault.BatchFault.{BatchFault}
use Rattle.pl_change.specs.declared.fault.BatchFault.TheVariants.{DiskFailed, NoMemory}
use Rattle.pl_change.specs.declared.fault.BatchFault.TheVariants as faults
use Rattle.pl_change.specs.Quiet.{WritesNothing}
use Rattle.pl_change.proofs.QuietLemmas.{quiet_looks}
use Rattle.pl_change.proofs.StartLemmas.{before_is}

-- ---- reading leaves a folder as it is

pub rested_on : {b c : Seen} → IsRested b → Calls Done Looking b c → IsRested c
rested_on {b = b} {c = c} rested call told =
    let was = sym call.tells ∙ told in
    subst (λ (f : Files). HasNoOwn (get f)) (sym (call.files was)) (rested was)

looked_disk : (rows : List Change) (before : View) (b c d : Disk) (e : Ending) → IsSettled before b.now → Keeps b c (StandsFor before) → CarriesDisk before rows e c d → CarriesDisk before rows e b d
looked_disk rows before b c d Done settled looks carries = (joined b c d (StandsBetween before rows) (weaker b c (StandsFor before) (StandsBetween before rows) (before_between before settled.no_own rows) looks) carries.0, carries.1)
looked_disk rows before b c d Broken settled looks carries = joined b c d (StandsBetween before rows) (weaker b c (StandsFor before) (StandsBetween before rows) (before_between before settled.no_own rows) looks) carries
looked_disk rows before b c d Undone settled looks carries = joined b c d (StandsFor before) looks carries

pub carried_on : {e : Ending} {b c d : Seen} (rows : List Change) → Calls Done Looking b c → Calls e (CarriesOut rows) c d → Calls e (CarriesOut rows) b d
carried_on {e = e} {b = b} {c = c} {d = d} rows looks carries = then_told looks carries
    (λ told one two. subst (λ (f : Files). HasNoOwn (get f) → CarriesFiles (get f) rows e (get d.files)) one two)
    (λ told one two before settled.
    looked_disk rows before b.disk c.disk d.disk e settled (looks_keep b.disk c.disk (StandsFor before) (settled_within_for before b.disk.now settled) one) (two before (subst (IsSettled before) (sym one.now) settled)))

-- ---- a command

module _ (first next : Meaning Cause) where
  -- it stops as it starts
  pub stops_early : (fault : BatchFault) {a b : Seen} → Calls (fault_ending fault) (Starts first (stopped fault)) a b → Calls (fault_ending fault) (Commands (and_then first next) (stopped fault)) a b
  stops_early DiskFailed call = makes_told refl call (λ told files. inl files) (λ told disk. (⊎_elim inl (λ keeps. inr (inl keeps)) disk.0, disk.1))
  stops_early NoMemory call = makes_told refl call (λ told files. files) (λ told disk. disk)
  stops_early (faults.Cause cause) call = makes_told refl call
      (λ told files before is. let l = files before is in record { means = ap (λ (m : Result (List Change) Cause). m >>= λ none. next before) l.means; files = l.files })
      (λ told disk. (λ before is. let l = disk.0 before is in record { means = ap (λ (m : Result (List Change) Cause). m >>= λ none. next before) l.means; only = l.only; on_the_way = l.on_the_way; quiet = l.quiet }, disk.1))

  module _ {a b : Seen} (law : IsFolder a) (start : Calls Done (Starts first Made) a b) where
    here : a.tells ≡ true → (before : Files) → IsBefore (get a.files) before → before ≡ b.files
    here told before is = before_is (get a.files) before b.files is (start.files told).0.2

    below : a.records ≡ true → (before : Files) → IsBefore (read a.disk.now) before → before ≡ b.files
    below told before is = before_is (read a.disk.now) before b.files is
        (subst (λ (v : View). Same (get b.files) (recovered v)) (read_files a law told) (start.files (law.tells told)).0.2)

    -- what it finds of the recovered files it means of them
    meant_found : (before : Files) (answer : Result (List Change) Cause) → before ≡ b.files → first before ≡ Ok [] → next b.files ≡ answer → and_then first next before ≡ answer
    meant_found before answer at passes is = ap (λ (m : Result (List Change) Cause). m >>= λ none. next before) passes ∙ ap next at ∙ is

    -- the same on a disk whose settle makes names last and no file's bytes
    runs_found : {c : Seen} (f e : Ending) → Calls f Looking b c → a.records ≡ true → RunsFirmlyOn e a.disk c.disk
    runs_found f e looks told = on_then (start.disk told).1 (on_looks e (looks.disk (start.records ∙ told)))

    runs_made : {c d : Seen} (e : Ending) → Calls Done Looking b c → RunsFirmly e c d → a.records ≡ true → RunsFirmlyOn e a.disk d.disk
    runs_made e looks real told = on_then (runs_found Done Done looks told) (real.disk (looks.records ∙ start.records ∙ told))

    module _ {c : Seen} where
      pub stops_finding : (fault : BatchFault) → Finds (next b.files) (λ (rows : List Change). rows) (Err fault) b c → Calls (fault_ending fault) (Commands (and_then first next) (stopped fault)) a c
      stops_finding DiskFailed found = then_told start found.calls
          (λ told one two. inl (stands_recovered (get a.files) one.0.0 one.0.1 (get c.files) (stands_self (recovered (get a.files)) (get c.files) (λ n. ap (λ f. get f n) two ∙ one.0.2 n))))
          (λ told it two. let one = it.0 in (inr (inl (joined a.disk b.disk c.disk (StandsFor (read a.disk.now)) one.0.0 (looks_keep b.disk c.disk (StandsFor (read a.disk.now)) one.0.0.now two))), runs_found Broken Broken found.calls told))
      stops_finding NoMemory found = then_told start found.calls
          (λ told one two. stands_recovered (get a.files) one.0.0 one.0.1 (get c.files) (stands_self (recovered (get a.files)) (get c.files) (λ n. ap (λ f. get f n) two ∙ one.0.2 n)))
          (λ told it two. let one = it.0 in (inr (joined a.disk b.disk c.disk (StandsFor (read a.disk.now)) one.0.0 (looks_keep b.disk c.disk (StandsFor (read a.disk.now)) one.0.0.now two)), runs_found Undone Undone found.calls told))
      stops_finding (faults.Cause cause) found = then_told start found.calls
          (λ told one two before is.
          let at = here told before is in
          record { means = meant_found before (Err cause) at (one.1 before is) (found.means (start.tells ∙ told)); files = two ∙ sym at })
          (λ told it two. let one = it.0 in (
            λ before is.
                let at = below told before is in
                record {
                  means = meant_found before (Err cause) at (one.1 before is) (found.means (start.tells ∙ law.tells told));
                  only = λ w image n. is n ∙ one.0.1.settled.only w (subst (λ (s : State). IsCrashImage s w) two.now image) n;
                  on_the_way = joined a.disk b.disk c.disk (StandsFor (read a.disk.now)) one.0.0 (looks_keep b.disk c.disk (StandsFor (read a.disk.now)) one.0.0.now two);
                  quiet = quiet_looks a.disk b.disk c.disk two one.2;
                },
            runs_found Done Done found.calls told,
          ))

      module _ (rows : List Change) (found : Finds (next b.files) (λ (rows : List Change). rows) (Ok rows) b c) (rested : IsRested b) where
        -- how many they are
        pub counted : (count : ℕ) → count ≡ length rows → Counts (and_then first next) count a
        counted count is told before stands = (rows, meant_found before (Ok rows) (here told before stands) ((start.files told).1 before stands) (found.means (start.tells ∙ told)), is)

        -- no changes are no call
        still : {d : Seen} → (rows ≡ [] → d ≡ c) → a.records ≡ true → WritesNothing a.disk b.disk → rows ≡ [] → WritesNothing a.disk d.disk
        still nothing told quiet none =
            subst (λ (s : Seen). WritesNothing a.disk s.disk) (sym (nothing none)) (quiet_looks a.disk b.disk c.disk (found.calls.disk (start.records ∙ told)) quiet)

        pub made : {d : Seen} → Calls Done (CarriesOut rows) c d → RunsFirmly Done c d → (rows ≡ [] → d ≡ c) → Calls Done (Commands (and_then first next) Made) a d
        made {d = d} call real nothing = then_told start (carried_on rows found.calls call)
            (λ told one two before is.
            let at = here told before is in (
              rows,
              record {
                means = meant_found before (Ok rows) at (one.1 before is) (found.means (start.tells ∙ told));
                files = λ n. two (rested (start.tells ∙ told)) n ∙ ap (λ (f : Files). applied rows (get f) n) (sym at);
              },
            ))
            (λ told it two.
            let one = it.0 in
            let v = recovered (read a.disk.now) in
            let s = two v one.0.1.settled in (
              λ before is. (
                rows,
                record {
                  means = meant_found before (Ok rows) (below told before is) (one.1 before is) (found.means (start.tells ∙ law.tells told));
                  settled = subst (λ (view : View). IsSettled (applied rows view) d.disk.now) (one_view v (get before) (λ n. sym (is n))) s.1;
                  on_the_way = joined a.disk b.disk d.disk (OnTheWay (read a.disk.now) rows)
                      (weaker a.disk b.disk (StandsFor (read a.disk.now)) (OnTheWay (read a.disk.now) rows) (λ w x. inl x) one.0.0)
                      (weaker b.disk d.disk (StandsBetween v rows) (OnTheWay (read a.disk.now) rows) (λ w x. inr x) s.0);
                  quiet = still nothing told one.2;
                },
              ),
              runs_made Done found.calls real told,
            ))

        broken : {d : Seen} → Calls Broken (CarriesOut rows) c d → RunsFirmly Broken c d → Calls Broken (Commands (and_then first next) Failed) a d
        broken {d = d} call real = then_told start (carried_on rows found.calls call)
            (λ told one two. inr (λ before is.
            let at = here told before is in (
              rows,
              record {
                means = meant_found before (Ok rows) at (one.1 before is) (found.means (start.tells ∙ told));
                stands = subst (λ (f : Files). StandsBetween (get f) rows (get d.files)) (sym at) (two (rested (start.tells ∙ told)));
              },
            )))
            (λ told it two.
            let one = it.0 in
            let v = recovered (read a.disk.now) in (
              inr (inr (λ before is. (
                rows,
                record {
                  means = meant_found before (Ok rows) (below told before is) (one.1 before is) (found.means (start.tells ∙ law.tells told));
                  on_the_way = joined a.disk b.disk d.disk (OnTheWay (read a.disk.now) rows)
                      (weaker a.disk b.disk (StandsFor (read a.disk.now)) (OnTheWay (read a.disk.now) rows) (λ w x. inl x) one.0.0)
                      (weaker b.disk d.disk (StandsBetween v rows) (OnTheWay (read a.disk.now) rows) (λ w x. inr x) (two v one.0.1.settled));
                },
              ))),
              runs_made Broken found.calls real told,
            ))

        lacked : {d : Seen} → Calls Undone (CarriesOut rows) c d → RunsFirmly Undone c d → Calls Undone (Commands (and_then first next) Lacked) a d
        lacked {d = d} call real = then_told start (carried_on rows found.calls call)
            (λ told one two. stands_recovered (get a.files) one.0.0 one.0.1 (get d.files) (subst (λ (v : View). StandsFor v (get d.files)) (one_view (get b.files) (recovered (get a.files)) one.0.2) (two (rested (start.tells ∙ told)))))
            (λ told it two.
            let one = it.0 in (
              inr (joined a.disk b.disk d.disk (StandsFor (read a.disk.now)) one.0.0
                  (weaker b.disk d.disk (StandsFor (recovered (read a.disk.now))) (StandsFor (read a.disk.now)) (stands_recovered (read a.disk.now) one.0.1.rows one.0.1.spelled) (two (recovered (read a.disk.now)) one.0.1.settled))),
              runs_made Undone found.calls real told,
            ))

        pub stops_making : {d : Seen} (fault : JournalFault) → IsNotBad fault → Calls (journal_ending fault) (CarriesOut rows) c d → RunsFirmly (journal_ending fault) c d → Calls (fault_ending (of_journal fault)) (Commands (and_then first next) (stopped (of_journal fault))) a d
        stops_making journal_faults.Failed plain call real = broken call real
        stops_making journal_faults.BadJournal plain call real = absurd (plain refl)
        stops_making journal_faults.NoMemory plain call real = lacked call real

-- ---- a command without changes of its own

module _ (first : Meaning Cause) where
  pub starts_alone : {a b : Seen} → Calls Done (Starts first Made) a b → Calls Done (Commands first Made) a b
  starts_alone {a = a} {b = b} start = makes_told refl start
      (λ told one before is. ([], record { means = one.1 before is; files = λ n. one.0.2 n ∙ sym (is n) }))
      (λ told it. let one = it.0 in (
        λ before is. (
          [],
          record {
            means = one.1 before is;
            settled = subst (λ (view : View). IsSettled view b.disk.now) (one_view (recovered (read a.disk.now)) (applied [] (get before)) (λ n. sym (is n))) one.0.1.settled;
            on_the_way = weaker a.disk b.disk (StandsFor (read a.disk.now)) (OnTheWay (read a.disk.now) []) (λ w x. inl x) one.0.0;
            quiet = λ none. one.2;
          },
        ),
        it.1,
      ))

  pub stops_alone : (fault : BatchFault) {a b : Seen} → Calls (fault_ending fault) (Starts first (stopped fault)) a b → Calls (fault_ending fault) (Commands first (stopped fault)) a b
  stops_alone DiskFailed call = makes_told refl call (λ told files. inl files) (λ told disk. (⊎_elim inl (λ keeps. inr (inl keeps)) disk.0, disk.1))
  stops_alone NoMemory call = makes_told refl call (λ told files. files) (λ told disk. disk)
  stops_alone (faults.Cause cause) call = makes_told refl call (λ told files. files) (λ told disk. disk)
