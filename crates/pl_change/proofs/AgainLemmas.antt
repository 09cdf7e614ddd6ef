-- What follows a recovery: a command, or a stop.
use Rattle.std.proofs.Common.{◌≡◌, inl, inr, ⊎_elim, ℕ, List, [], Bool, true, false, Option, Some, None, is_some, refl, sym, ◌∙◌, ap, subst}
use Rattle.std.specs.Prelude.{Ok, Err, not}
use Rattle.std.specs.FinMap.{get}
use Rattle.pl_base.specs.Answers.{because, unless}
use Rattle.pl_base.specs.Files.{Files}
use Rattle.pl_base.specs.Names.{is_valid_name}
use Rattle.pl_folder.specs.Calls.{Calls}
use Rattle.pl_folder.specs.Disk.{Disk, View, read}
use Rattle.pl_folder.specs.Seen.{Seen, Ending, Done, Broken, Undone, IsFolder}
use Rattle.pl_folder.specs.Since.{Keeps, Within}
use Rattle.pl_journal.specs.Leaves.{Looks}
use Rattle.pl_journal.specs.Meaning.{HasNoOwn, IsSettled, Same, StandsBetween, StandsFor, applied}
use Rattle.pl_journal.specs.Names.{journal}
use Rattle.pl_journal.specs.Rows.{all_done, recovered, rows_in}
use Rattle.pl_journal.specs.declared.change.Change.{Change}
use Rattle.pl_journal.specs.declared.row.Row.{Row}
use Rattle.pl_journal.proofs.Endings.{makes_told, then_told}
use Rattle.pl_journal.proofs.FileViews.{one_view, read_files}
use Rattle.pl_journal.proofs.Meanings.{nothing_done, nothing_recovered, recovered_no_own, stands_recovered, stands_self}
use Rattle.pl_journal.proofs.Moments.{joined, weaker}
use Rattle.pl_journal.proofs.RealLemmas.{on_any, on_then}
use Rattle.pl_journal.proofs.RecoverLemmas.{looks_keep}
use Rattle.pl_change.specs.Commands.{Commands, CommandsDisk, CommandsFiles, CommandsOn, Failed, IsBefore, Lacked, Made, Meaning, OnTheWay, Outcome, Refused, ready, ready_for, stopped}
use Rattle.pl_change.specs.Restored.{restored}
use Rattle.pl_change.specs.declared.cause.Cause.{Cause}
use Rattle.pl_change.specs.declared.cause.Cause.TheVariants as causes
use Rattle.pl_change.proofs.RestoredLemmas.{restored_before}
use Rattle.pl_change.proofs.StartLemmas.{before_is}
use Rattle.pl_change.specs.Again.{GoesOn}
use Rattle.pl_change.specs.Quiet.{WritesNothing}
use Rattle.pl_change.proofs.QuietLemmas.{quiet_then}
use Rattle.pl_change.specs.Answers.{fault_ending}
use Rattle.pl_change.specs.declared.fault.BatchFault.{BatchFault}
use Rattle.pl_change.specs.declared.fault.BatchFault.TheVariants.{DiskFailed, NoMemory}
use Rattle.pl_change.specs.declared.fault.BatchFault.TheVariants as faults

-- ---- what is ready has no changes, and a journal in its grammar

by_tests : (bad : Bool) (o : Option (List Row)) (rows : List Change) → unless bad causes.BadName (unless (not (is_some o)) causes.BadJournal (Ok [])) ≡ Ok rows → (rows ≡ []) × (is_some o ≡ true)
by_tests true o rows is = let no : ⊥ = cc in absurd no
by_tests false None rows is = let no : ⊥ = cc in absurd no
by_tests false (Some x) rows is = let e : rows ≡ [] = cc in (e, refl)

is_ready : (name : List ℕ) (files : Files) (rows : List Change) → ready_for name files ≡ Ok rows → (rows ≡ []) × (is_some (rows_in (get files journal)) ≡ true)
unfolding ready_for ready
is_ready name files rows is = by_tests (not (is_valid_name name)) (rows_in (get files journal)) rows is

recovered_bad : (v : View) → rows_in (v journal) ≡ None → Same (recovered v) v
unfolding recovered
recovered_bad v bad n = ap (λ o. all_done o v n) bad

-- so the folder that it stands for has one too
journal_rows : (v : View) (before : Files) → IsBefore v before → is_some (rows_in (get before journal)) ≡ true → (rows : List Row) × (rows_in (v journal) ≡ Some rows)
journal_rows v before is good = by_rows (rows_in (v journal)) refl
  where
    by_rows : (o : Option (List Row)) → rows_in (v journal) ≡ o → (rows : List Row) × (rows_in (v journal) ≡ Some rows)
    by_rows (Some rows) found = (rows, found)
    by_rows None found =
        let bad : rows_in (get before journal) ≡ None = ap rows_in (is journal ∙ recovered_bad v found journal) ∙ found in
        let no : ⊥ = cc in
        absurd no

-- ---- the folder once it is recovered

module _ (v : View) (rows : List Row) (found : rows_in (v journal) ≡ Some rows) where
  no_own : HasNoOwn (recovered v)
  no_own = recovered_no_own v rows found

  once : recovered (recovered v) ≡ recovered v
  once = one_view (recovered (recovered v)) (recovered v) (nothing_recovered (recovered v) no_own)

  way : (changes : List Change) (w : View) → OnTheWay (recovered v) changes w → OnTheWay v changes w
  way changes w (inl stands) = inl (stands_recovered v rows found w stands)
  way changes w (inr between) = inr (subst (λ (u : View). StandsBetween u changes w) once between)

  -- without changes all on the way stands for the folder
  no_way : (w : View) → OnTheWay v [] w → StandsFor v w
  no_way w (inl stands) = stands
  no_way w (inr between) = stands_recovered v rows found w (record {
    any = λ s. (λ _. true, λ n valid. (between.any s).1 n valid ∙ sym (nothing_done (recovered v) no_own (λ _. true) n));
    all = λ n. ⊎_elim (λ is. is n) (λ is. is n) between.all ∙ sym (nothing_recovered (recovered v) no_own n);
  })

  module _ {C : Type 0} (meant : Meaning C) (b : Files) (same : Same (get b) (recovered v)) where
    at : (before : Files) → IsBefore v before → before ≡ b
    at before is = before_is v before b is same

    here : (u : View) → u ≡ recovered v → IsBefore u b
    here u is n = same n ∙ sym (ap (λ (x : View). x n) once) ∙ ap (λ (x : View). recovered x n) (sym is)

    files_on : (o : Outcome C) (e : Ending) (a c : Files) → get a ≡ v → CommandsFiles meant o e b c → CommandsFiles meant o e a c
    files_on Made e a c is two = λ before stands.
        let eq = at before (subst (λ (u : View). IsBefore u before) is stands) in
        let r = two b (here (get b) (one_view (get b) (recovered v) same)) in
        (r.0, record { means = ap meant eq ∙ r.1.means; files = λ n. r.1.files n ∙ ap (λ (f : Files). applied r.0 (get f) n) (sym eq) })
    files_on Failed e a c is (inl stands) =
        inl (subst (λ (u : View). StandsFor u (get c)) (sym is) (stands_recovered v rows found (get c) (subst (λ (u : View). StandsFor u (get c)) (one_view (get b) (recovered v) same) stands)))
    files_on Failed e a c is (inr breaks) = inr (λ before stands.
        let eq = at before (subst (λ (u : View). IsBefore u before) is stands) in
        let r = breaks b (here (get b) (one_view (get b) (recovered v) same)) in
        (r.0, record { means = ap meant eq ∙ r.1.means; stands = subst (λ (f : Files). StandsBetween (get f) r.0 (get c)) (sym eq) r.1.stands }))
    files_on Lacked e a c is two =
        subst (λ (u : View). StandsFor u (get c)) (sym is) (stands_recovered v rows found (get c) (subst (λ (u : View). StandsFor u (get c)) (one_view (get b) (recovered v) same) two))
    files_on (Refused cause) e a c is two = λ before stands.
        let eq = at before (subst (λ (u : View). IsBefore u before) is stands) in
        let l = two b (here (get b) (one_view (get b) (recovered v) same)) in
        record { means = ap meant eq ∙ l.means; files = l.files ∙ sym eq }

module _ (A B C : Disk) (rows : List Row) (found : rows_in (read A.now journal) ≡ Some rows) {K : Type 0} (meant : Meaning K) (b : Files) (same : Same (get b) (recovered (read A.now))) (is : read B.now ≡ recovered (read A.now)) (keeps : Keeps A B (StandsFor (read A.now))) (quiet : WritesNothing A B) where
  abbrev v : View
  v = read A.now

  stands_on : Keeps B C (StandsFor (read B.now)) → Keeps A C (StandsFor v)
  stands_on next = joined A B C (StandsFor v) keeps (weaker B C (StandsFor (read B.now)) (StandsFor v) (λ w s. stands_recovered v rows found w (subst (λ (u : View). StandsFor u w) is s)) next)

  looks_on : Looks B C → Keeps A C (StandsFor v)
  looks_on looks = joined A B C (StandsFor v) keeps (looks_keep B C (StandsFor v) keeps.now looks)

  way_on : (changes : List Change) → Keeps B C (OnTheWay (read B.now) changes) → Keeps A C (OnTheWay v changes)
  way_on changes next = joined A B C (OnTheWay v changes) (weaker A B (StandsFor v) (OnTheWay v changes) (λ w s. inl s) keeps)
      (weaker B C (OnTheWay (read B.now) changes) (OnTheWay v changes) (λ w s. way v rows found changes w (subst (λ (u : View). OnTheWay u changes w) is s)) next)

  quiet_on : WritesNothing B C → WritesNothing A C
  quiet_on next none = quiet_then A B C (quiet none) (next (subst HasNoOwn (sym is) (no_own v rows found)))

  disk_on : (o : Outcome K) → CommandsOn meant o B C → CommandsOn meant o A C
  disk_on Made two = λ before stands.
      let eq = at v rows found meant b same before stands in
      let r = two b (here v rows found meant b same (read B.now) is) in
      (r.0, record { means = ap meant eq ∙ r.1.means; settled = subst (λ (f : Files). IsSettled (applied r.0 (get f)) C.now) (sym eq) r.1.settled; on_the_way = way_on r.0 r.1.on_the_way; quiet = λ none. quiet_on (r.1.quiet none) })
  disk_on Failed (inl looks) = inr (inl (looks_on looks))
  disk_on Failed (inr (inl next)) = inr (inl (stands_on next))
  disk_on Failed (inr (inr breaks)) = inr (inr (λ before stands.
      let eq = at v rows found meant b same before stands in
      let r = breaks b (here v rows found meant b same (read B.now) is) in
      (r.0, record { means = ap meant eq ∙ r.1.means; on_the_way = way_on r.0 r.1.on_the_way })))
  disk_on Lacked (inl looks) = inr (looks_on looks)
  disk_on Lacked (inr next) = inr (stands_on next)
  disk_on (Refused cause) two = λ before stands.
      let eq = at v rows found meant b same before stands in
      let l = two b (here v rows found meant b same (read B.now) is) in
      record { means = ap meant eq ∙ l.means; only = λ w image n. ap (λ (f : Files). get f n) eq ∙ l.only w image n; on_the_way = stands_on l.on_the_way; quiet = quiet_on l.quiet }

-- ---- a recovery that is done

module _ (name : List ℕ) (a b : Seen) (law : IsFolder a) (first : Calls Done (Commands (ready_for name) Made) a b) where
  it_files : a.tells ≡ true → (rows : List Row) × (rows_in (get a.files journal) ≡ Some rows) × Same (get b.files) (recovered (get a.files))
  it_files told =
      let before = restored a.files in
      let made = first.files told before (restored_before a.files) in
      let is = is_ready name before made.0 made.1.means in
      let j = journal_rows (get a.files) before (restored_before a.files) is.1 in
      (j.0, j.1, λ n. made.1.files n ∙ ap (λ (rs : List Change). applied rs (get before) n) is.0 ∙ restored_before a.files n)

  module _ (told : a.records ≡ true) where
    abbrev start : View
    start = read a.disk.now

    disk_rows : (rows : List Row) × (rows_in (start journal) ≡ Some rows)
    disk_rows = let it = it_files (law.tells told) in (it.0, subst (λ (u : View). rows_in (u journal) ≡ Some it.0) (read_files a law told) it.1)

    disk_same : Same (get b.files) (recovered start)
    disk_same = subst (λ (u : View). Same (get b.files) (recovered u)) (read_files a law told) (it_files (law.tells told)).2

    stands : IsBefore start (restored a.files)
    stands = subst (λ (u : View). IsBefore u (restored a.files)) (read_files a law told) (restored_before a.files)

    disk_keeps : Keeps a.disk b.disk (StandsFor start)
    disk_keeps =
        let before = restored a.files in
        let made = (first.disk told).0 before stands in
        let none = (is_ready name before made.0 made.1.means).0 in
        weaker a.disk b.disk (OnTheWay start made.0) (StandsFor start) (λ w s. no_way start disk_rows.0 disk_rows.1 w (subst (λ (rs : List Change). OnTheWay start rs w) none s)) made.1.on_the_way

    disk_quiet : WritesNothing a.disk b.disk
    disk_quiet =
        let before = restored a.files in
        let made = (first.disk told).0 before stands in
        made.1.quiet (is_ready name before made.0 made.1.means).0

    disk_only : (before : Files) → IsBefore start before → Within b.disk.now (Same (get before))
    disk_only before is w image n =
        let made = (first.disk told).0 before is in
        let none = (is_ready name before made.0 made.1.means).0 in
        ap (λ (rs : List Change). applied rs (get before) n) (sym none) ∙ made.1.settled.only w image n

  -- ---- then it stops

  module _ {C : Type 0} (meant : Meaning C) where
    -- for a cause that it means of each folder that is ready
    pub refused_after : (cause : C) → ((before : Files) → ready_for name before ≡ Ok [] → meant before ≡ Err cause) → Calls Done (Commands meant (Refused cause)) a b
    refused_after cause refuses = makes_told refl first
        (λ told one before is.
        let made = one before is in
        let ready_is = made.1.means ∙ ap Ok (is_ready name before made.0 made.1.means).0 in
        record { means = refuses before ready_is; files = sym (before_is (get a.files) before b.files is (it_files told).2) })
        (λ told one. (
          λ before is.
              let made = one.0 before is in
              let ready_is = made.1.means ∙ ap Ok (is_ready name before made.0 made.1.means).0 in
              record { means = refuses before ready_is; only = disk_only told before is; on_the_way = disk_keeps told; quiet = disk_quiet told },
          one.1,
        ))

    -- or memory lacks
    pub lacked_after : Calls Undone (Commands meant Lacked) a b
    lacked_after = makes_told refl first
        (λ told one. let it = it_files told in stands_recovered (get a.files) it.0 it.1 (get b.files) (stands_self (recovered (get a.files)) (get b.files) it.2))
        (λ told one. (inr (disk_keeps told), on_any Undone one.1))

-- ---- or a command comes

pub commands_on : GoesOn
commands_on name meant o e a b c la lb first second = then_told first second
    (λ told one two.
    let it = it_files name a b la first told in
    files_on (get a.files) it.0 it.1 meant b.files it.2 o e a.files c.files refl two)
    (λ told one two.
    let v = read a.disk.now in
    let rows = disk_rows name a b la first told in
    let same = disk_same name a b la first told in
    let is : read b.disk.now ≡ recovered v = sym (read_files b lb (first.records ∙ told)) ∙ one_view (get b.files) (recovered v) same in
    (disk_on a.disk b.disk c.disk rows.0 rows.1 meant b.files same is (disk_keeps name a b la first told) (disk_quiet name a b la first told) o two.0, on_then one.1 two.1))

-- ---- a cause in other words

abbrev pub outcome_by : {C D : Type 0} → (C → D) → Outcome C → Outcome D
outcome_by f Made = Made
outcome_by f (Refused cause) = Refused (f cause)
outcome_by f Failed = Failed
outcome_by f Lacked = Lacked

module _ {C D : Type 0} (f : C → D) (meant : Meaning C) where
  abbrev pub meant_by : Meaning D
  meant_by files = because f (meant files)

  pub recaused : (o : Outcome C) {e : Ending} {a b : Seen} → Calls e (Commands meant o) a b → Calls e (Commands meant_by (outcome_by f o)) a b
  recaused Made call = makes_told refl call
      (λ told one before is. let made = one before is in (made.0, record { means = ap (because f) made.1.means; files = made.1.files }))
      (λ told one. (λ before is. let made = one.0 before is in (made.0, record { means = ap (because f) made.1.means; settled = made.1.settled; on_the_way = made.1.on_the_way; quiet = made.1.quiet }), one.1))
  recaused (Refused cause) call = makes_told refl call
      (λ told one before is. let l = one before is in record { means = ap (because f) l.means; files = l.files })
      (λ told one. (λ before is. let l = one.0 before is in record { means = ap (because f) l.means; only = l.only; on_the_way = l.on_the_way; quiet = l.quiet }, one.1))
  recaused Failed call = makes_told refl call
      (λ told one. ⊎_elim inl (λ breaks. inr (λ before is. let made = breaks before is in (made.0, record { means = ap (because f) made.1.means; stands = made.1.stands }))) one)
      (λ told one. (⊎_elim inl (λ more. inr (⊎_elim inl (λ breaks. inr (λ before is. let made = breaks before is in (made.0, record { means = ap (because f) made.1.means; on_the_way = made.1.on_the_way }))) more)) one.0, one.1))
  recaused Lacked call = makes_told refl call (λ told one. one) (λ told one. one)

-- ---- it stops before it is ready

-- the folder broke in a recovery alone: so far nothing is changed
early_fails : (name : List ℕ) {C : Type 0} (meant : Meaning C) {a b : Seen} → IsFolder a → Calls Broken (Commands (ready_for name) Failed) a b → Calls Broken (Commands meant Failed) a b
early_fails name meant {a = a} {b = b} law call = makes_told refl call
    (λ told one. inl (⊎_elim (λ stands. stands) (λ breaks.
    let v = get a.files in
    let before = restored a.files in
    let broke = breaks before (restored_before a.files) in
    let is = is_ready name before broke.0 broke.1.means in
    let j = journal_rows v before (restored_before a.files) is.1 in
    let between : StandsBetween (recovered v) broke.0 (get b.files) = subst (λ (u : View). StandsBetween u broke.0 (get b.files)) (one_view (get before) (recovered v) (restored_before a.files)) broke.1.stands in
    no_way v j.0 j.1 (get b.files) (inr (subst (λ (rs : List Change). StandsBetween (recovered v) rs (get b.files)) is.0 between))) one))
    (λ told one. (
      ⊎_elim inl (λ more. inr (⊎_elim inl (λ breaks.
          let v = read a.disk.now in
          let before = restored a.files in
          let stands = subst (λ (u : View). IsBefore u before) (read_files a law told) (restored_before a.files) in
          let broke = breaks before stands in
          let is = is_ready name before broke.0 broke.1.means in
          let j = journal_rows v before stands is.1 in
          inl (weaker a.disk b.disk (OnTheWay v broke.0) (StandsFor v) (λ w s. no_way v j.0 j.1 w (subst (λ (rs : List Change). OnTheWay v rs w) is.0 s)) broke.1.on_the_way)) more)) one.0,
      one.1,
    ))

module _ (name : List ℕ) {C : Type 0} (f : Cause → C) (meant : Meaning C) (refuses : (cause : Cause) (before : Files) → ready_for name before ≡ Err cause → meant before ≡ Err (f cause)) where
  pub stops_first : (fault : BatchFault) {a b : Seen} → IsFolder a → Calls (fault_ending fault) (Commands (ready_for name) (stopped fault)) a b → Calls (fault_ending fault) (Commands meant (outcome_by f (stopped fault))) a b
  stops_first DiskFailed law call = early_fails name meant law call
  stops_first NoMemory law call = makes_told refl call (λ told one. one) (λ told one. one)
  stops_first (faults.Cause cause) law call = makes_told refl call
      (λ told one before is. let l = one before is in record { means = refuses cause before l.means; files = l.files })
      (λ told one. (λ before is. let l = one.0 before is in record { means = refuses cause before l.means; only = l.only; on_the_way = l.on_the_way; quiet = l.quiet }, one.1))

-- ---- refused, and then no memory is left to say so

stands_restored : (v : View) (w : View) → Same w (recovered v) → StandsFor v w
stands_restored v w same = by_rows (rows_in (v journal)) refl
  where
    by_rows : (o : Option (List Row)) → rows_in (v journal) ≡ o → StandsFor v w
    by_rows None found = stands_self v w (λ n. same n ∙ recovered_bad v found n)
    by_rows (Some rows) found = stands_recovered v rows found w (stands_self (recovered v) w same)

module _ {C : Type 0} (meant : Meaning C) (cause : C) (a b : Seen) where
  pub refused_files : CommandsFiles meant (Refused cause) Done a.files b.files → StandsFor (get a.files) (get b.files)
  refused_files one =
      let l = one (restored a.files) (restored_before a.files) in
      stands_restored (get a.files) (get b.files) (λ n. ap (λ (f : Files). get f n) l.files ∙ restored_before a.files n)

  pub refused_disk : IsFolder a → a.records ≡ true → CommandsDisk meant (Refused cause) Done a.disk b.disk → CommandsDisk meant Lacked Undone a.disk b.disk
  refused_disk law told one =
      let stands = subst (λ (u : View). IsBefore u (restored a.files)) (read_files a law told) (restored_before a.files) in
      (inr (one.0 (restored a.files) stands).on_the_way, on_any Undone one.1)
