-- The calls of staging, as parts.
use Rattle.std.proofs.Common.{◌≡◌, inl, inr, ℕ, ◌+◌, ◌<◌, ◌≤◌, true, false, List, [], ◌∷◌, ◌++◌, length, get_or, drop, take, map, refl, sym, ◌∙◌, ap, subst, arith}
use Rattle.std.specs.FinMap.{contains_key, get, get-insert, insert}
use Rattle.std.specs.Cmp.Lexicographic.{nat_list_cmp_total}
use Rattle.std.proofs.lemmas.Bool.{cond-false}
use Rattle.pl_base.specs.Files.{Files}
use Rattle.pl_base.proofs.FilesLaws.{get-inserted}
use Rattle.pl_folder.specs.Calls.{Calls}
use Rattle.pl_folder.specs.Disk.{View, Disk, read, same}
use Rattle.pl_folder.specs.Effects.{Appends, Does, DoesOrNot, Effect, GrowsDisk, GrowsFiles, StepsFiles, files_after_append, bytes_at, files_after_create, creates, firms}
use Rattle.pl_folder.specs.Seen.{Seen, Ending, Done, Broken, Undone}
use Rattle.pl_folder.specs.Since.{Keeps}
use Rattle.pl_journal.specs.Meaning.{Edit, Same, rows_for}
use Rattle.pl_journal.specs.Names.{beside, is_journal_name, journal, journal_new}
use Rattle.pl_journal.specs.Parts.{AtDone, PutsOwn, ReadsStaged, Stages, StagesFiles, StagesOne, StagesTo, WritesOwn, put_beside, journal_of}
use Rattle.pl_journal.specs.Phases.{IsStaging, Untouched, staged, with_bytes}
use Rattle.pl_journal.specs.Spelling.{are_rows}
use Rattle.pl_journal.specs.declared.change.Change.TheVariants.{Put as Write, Drop as Erase}
use Rattle.pl_journal.proofs.Done.{AreDistinct, distinct_test, valid_not}
use Rattle.pl_journal.proofs.CarryLemmas.{drop_at, put_next, same_reads, settled_staging}
use Rattle.pl_journal.proofs.Endings.{Stops, at_done, makes_told, no_calls, stopped, then_told, when_done}
use Rattle.pl_journal.proofs.FileViews.{get_written, one_view}
use Rattle.pl_journal.proofs.Moments.{joined, starts}
use Rattle.pl_journal.proofs.Phases.{Putting, at_append, at_create, at_firm, keeps_append, keeps_create, keeps_firm}

-- ---- own names alone are written

writes_nothing : (files : Files) → WritesOwn files files
writes_nothing files = (λ n valid. refl, refl)

writes_is : (x : Files) {y z : Files} → y ≡ z → WritesOwn x y → WritesOwn x z
writes_is x is writes = subst (λ (f : Files). WritesOwn x f) is writes

writes_then : (x y z : Files) → WritesOwn x y → WritesOwn y z → WritesOwn x z
writes_then x y z first second = (λ n valid. second.0 n valid ∙ first.0 n valid, second.1 ∙ first.1)

-- ---- one file

module _ (name bytes : List ℕ) (own : is_journal_name name ≡ true) (other : same journal name ≡ false) where
  abbrev WroteDisk : Ending → Disk → Disk → Type 0
  WroteDisk e old new = (before r : View) → IsStaging before r old.now → Keeps old new (Untouched before) × AtDone e (Putting before name own other r old.now.count bytes new.now)

  -- the file is there and has its bytes
  abbrev pub Wrote : Effect
  Wrote = record { files = ReadsStaged (with_bytes name bytes); disk = WroteDisk }

  -- a file of this name is no other's
  insert_writes : (files : Files) (some : List ℕ) → WritesOwn files (insert files name some)
  insert_writes files some = (
    λ n valid. get-insert nat_list_cmp_total files name some n ∙ cond-false (same n name) _ _ (valid_not n name valid own),
    get-insert nat_list_cmp_total files name some journal ∙ cond-false (same journal name) _ _ other,
  )

  created_writes : (e : Ending) (x y : Files) → StepsFiles (λ files. files_after_create files name) e x y → WritesOwn x y
  created_writes Done x y is = writes_is x (sym is) (insert_writes x [])
  created_writes Broken x y (inl is) = writes_is x (sym is) (writes_nothing x)
  created_writes Broken x y (inr is) = writes_is x (sym is) (insert_writes x [])
  created_writes Undone x y is = writes_is x (sym is) (writes_nothing x)

  grown_writes : (e : Ending) (x y : Files) → GrowsFiles name bytes e x y → WritesOwn x y
  grown_writes Done x y is = writes_is x (sym is) (insert_writes x (bytes_at x name ++ bytes))
  grown_writes Broken x y some = writes_is x (sym some.2) (insert_writes x (bytes_at x name ++ take some.0 bytes))
  grown_writes Undone x y is = writes_is x (sym is) (writes_nothing x)

  pub create_stops : {e : Ending} {a b : Seen} → Stops e → Calls e (Does (creates name)) a b → Calls e (PutsOwn name bytes) a b
  create_stops {e = e} {a = a} {b = b} stops call = makes_told refl call (λ told files. (stopped _ e stops, created_writes e a.files b.files files)) (λ told disk before r staging. (keeps_create before name own other r a.disk staging e b.disk disk, stopped _ e stops))

  pub wrote : {e : Ending} {a b c : Seen} → Calls Done (Does (creates name)) a b → Calls e (Appends name bytes) b c → Calls e Wrote a c
  wrote {e = e} {a = a} {b = b} {c = c} first second = then_told first second
      (λ told one two. (
        when_done e (λ is n.
            let grown : c.files ≡ files_after_append (files_after_create a.files name) name bytes = subst (λ f. GrowsFiles name bytes f b.files c.files) is two ∙ ap (λ (f : Files). files_after_append f name bytes) one in
            ap (λ (f : Files). get f n) grown ∙ get_written a.files name bytes n),
        writes_then a.files b.files c.files (created_writes Done a.files b.files one) (grown_writes e b.files c.files two),
      ))
      (λ told one two before r staging.
      let here = at_create before name own other r a.disk staging b.disk one in (
        joined a.disk b.disk c.disk (Untouched before) (keeps_create before name own other r a.disk staging Done b.disk one) (keeps_append before name own other r a.disk.now.count b.disk here e bytes c.disk two),
        when_done e (λ is. at_append before name own other r a.disk.now.count b.disk here bytes c.disk (subst (λ f. GrowsDisk name bytes f b.disk c.disk) is two)),
      ))

  pub wrote_stops : {e : Ending} {a b : Seen} → Stops e → Calls e Wrote a b → Calls e (PutsOwn name bytes) a b
  wrote_stops {e = e} stops call = makes_told refl call (λ told files. (stopped _ e stops, files.1)) (λ told disk before r staging. ((disk before r staging).0, stopped _ e stops))

  pub firmed_on : {e : Ending} {a b c : Seen} → Calls Done Wrote a b → Calls e (DoesOrNot (firms name)) b c → Calls e (PutsOwn name bytes) a c
  firmed_on {e = e} {a = a} {b = b} {c = c} first second = then_told first second
      (λ told one two. (when_done e (λ is n. ap (λ (f : Files). get f n) two ∙ one.0 n), writes_is a.files (sym two) one.1))
      (λ told one two before r staging.
      let here = one before r staging in (
        joined a.disk b.disk c.disk (Untouched before) here.0 (keeps_firm before name own other r a.disk.now.count bytes b.disk here.1 e c.disk two),
        when_done e (λ is. at_firm before name own other r a.disk.now.count bytes b.disk here.1 c.disk (subst (λ f. Rattle.pl_folder.specs.Effects.StepsDiskOrNot (Rattle.pl_folder.specs.States.firmed name) f b.disk c.disk) is two)),
      ))

-- the file that is created is there
pub created_there : {a b : Seen} (name : List ℕ) → Calls Done (Does (creates name)) a b → b.tells ≡ true → contains_key b.files name ≡ true
created_there {a = a} {b = b} name call told =
    ap (λ (f : Files). contains_key f name) (call.files (sym call.tells ∙ told)) ∙ ap (λ o. Rattle.std.proofs.Common.is_some o) (get-inserted a.files name [])

pub wrote_there : {a b : Seen} (name bytes : List ℕ) (own : is_journal_name name ≡ true) (other : same journal name ≡ false) → Calls Done (Wrote name bytes own other) a b → b.tells ≡ true → contains_key b.files name ≡ true
wrote_there {a = a} {b = b} name bytes own other call told =
    ap (λ o. Rattle.std.proofs.Common.is_some o) ((call.files (sym call.tells ∙ told)).0 name ∙ Rattle.std.proofs.lemmas.Bool.cond-true (same name name) _ _ (Rattle.pl_folder.proofs.ImageLaws.itself name))

-- ---- the files of the changes

-- no file for a change that drops
pub stages_none : (number : ℕ) (name : List ℕ) (a : Seen) → Calls Done (StagesOne number (Erase name)) a a
stages_none number name a = no_calls Done a refl (λ told. (λ n. refl, writes_nothing a.files)) (λ told before r staging. (starts a.disk (Untouched before) staging.within, staging))

pub stages_put : {e : Ending} {a b : Seen} (number : ℕ) (name text bytes all : List ℕ) → text ≡ beside number → bytes ≡ all → Calls e (PutsOwn text bytes) a b → Calls e (StagesOne number (Write name all)) a b
stages_put {e = e} {a = a} {b = b} number name text bytes all named is call =
    let at : Calls e (PutsOwn (beside number) all) a b = subst (λ t. Calls e (PutsOwn t all) a b) named (subst (λ bs. Calls e (PutsOwn text bs) a b) is call) in
    makes_told refl at (λ told files. files) (λ told disk. disk)

distinct_from : (i k : ℕ) (edits : List Edit) → AreDistinct i (rows_for edits) → AreDistinct (i + k) (rows_for (drop k edits))
distinct_from i Rattle.std.proofs.Common.zero edits distinct = subst (λ j. AreDistinct j (rows_for edits)) (omega arith) distinct
distinct_from i (Rattle.std.proofs.Common.suc k) [] distinct = tt
distinct_from i (Rattle.std.proofs.Common.suc k) (edit ∷ edits) distinct =
    subst (λ j. AreDistinct j (rows_for (drop k edits))) (omega arith) (distinct_from (i + 1) k edits distinct.3)

distinct_rest : (k : ℕ) (edits : List Edit) → are_rows (rows_for edits) ≡ true → AreDistinct k (rows_for (drop k edits))
distinct_rest k edits fine = subst (λ j. AreDistinct j (rows_for (drop k edits))) (omega arith) (distinct_from 0 k edits (distinct_test (rows_for edits) fine))

next_staged : (k : ℕ) (edit : Edit) (rest : List Edit) (v : View) → AreDistinct (k + 1) (rows_for rest) → Same (staged (k + 1) rest (put_beside k edit v)) (staged k (edit ∷ rest) v)
next_staged k (Write name bytes) rest v distinct = put_next k name bytes rest v distinct
next_staged k (Erase name) rest v distinct = λ n. refl

module _ (edits : List Edit) (fine : are_rows (rows_for edits) ≡ true) where
  pub stages_none_yet : (a : Seen) → Calls Done (StagesTo 0 edits) a a
  stages_none_yet a = no_calls Done a refl (λ told. (λ n. refl, writes_nothing a.files))
      (λ told before r staging. (starts a.disk (Untouched before) staging.within, (same_reads before r (read a.disk.now) a.disk.now (λ n. sym (staging.reads n)) staging, λ n. ap (λ (v : View). staged 0 edits v n) (one_view _ _ staging.reads))))

  module _ (k : ℕ) (edit : Edit) (lt : k < length edits) (is : edit ≡ get_or edits k edit) where
    more : (v w : View) → Same w (put_beside k edit v) → Same (staged (k + 1) (drop (k + 1) edits) w) (staged k (drop k edits) v)
    more v w same_view n =
        ap (λ (u : View). staged (k + 1) (drop (k + 1) edits) u n) (one_view w (put_beside k edit v) same_view)
        ∙ next_staged k edit (drop (k + 1) edits) v (distinct_rest (k + 1) edits fine) n
        ∙ ap (λ (es : List Edit). staged k es v n) (sym (drop_at edits k edit lt is))

    pub stages_on : {e : Ending} {a b c : Seen} → Calls Done (StagesTo k edits) a b → Calls e (StagesOne k edit) b c → Calls e (StagesTo (k + 1) edits) a c
    stages_on {e = e} {a = a} {b = b} {c = c} first second = then_told first second
        (λ told one two. (at_done e (λ reads n. more (get b.files) (get c.files) reads n ∙ one.0 n) two.0, writes_then a.files b.files c.files one.1 two.1))
        (λ told one two before r staging.
        let was = one before r staging in
        let next = two before (read b.disk.now) was.1.0 in (
          joined a.disk b.disk c.disk (Untouched before) was.0 next.0,
          at_done e (λ (now : IsStaging before (put_beside k edit (read b.disk.now)) c.disk.now). (
            same_reads before (put_beside k edit (read b.disk.now)) (read c.disk.now) c.disk.now (λ n. sym (now.reads n)) now,
            λ n. more (read b.disk.now) (read c.disk.now) now.reads n ∙ was.1.1 n,
          )) next.1,
        ))

  pub stages_stop : {e : Ending} {a b : Seen} (k : ℕ) → Stops e → Calls e (StagesTo k edits) a b → Calls e (StagesFiles edits) a b
  stages_stop {e = e} k stops call = makes_told refl call (λ told files. (stopped _ e stops, files.1)) (λ told disk before r staging. ((disk before r staging).0, stopped _ e stops))

  pub stages_all : {a b : Seen} (k : ℕ) → drop k edits ≡ [] → Calls Done (StagesTo k edits) a b → Calls Done (StagesFiles edits) a b
  stages_all {a = a} {b = b} k none call = makes_told refl call
      (λ told files. (λ n. sym (ap (λ (es : List Edit). staged k es (get b.files) n) none) ∙ files.0 n, files.1))
      (λ told disk before r staging.
      let was = disk before r staging in (
        was.0,
        same_reads before (read b.disk.now) (staged 0 edits r) b.disk.now (λ n. sym (ap (λ (es : List Edit). staged k es (read b.disk.now) n) none) ∙ was.1.1 n) was.1.0,
      ))

-- ---- the whole of staging

pub files_stop : {e : Ending} {a b : Seen} (edits : List Edit) → Stops e → Calls e (StagesFiles edits) a b → Calls e (Stages edits) a b
files_stop {e = e} {a = a} edits stops call = makes_told refl call (λ told files. (stopped _ e stops, files.1)) (λ told disk before settled. ((disk before before (settled_staging before a.disk.now settled)).0, stopped _ e stops))

pub journal_on : {e : Ending} {a b c : Seen} (edits : List Edit) (bytes : List ℕ) → bytes ≡ journal_of edits → Calls Done (StagesFiles edits) a b → Calls e (PutsOwn journal_new bytes) b c → Calls e (Stages edits) a c
journal_on {e = e} {a = a} {b = b} {c = c} edits bytes is first second =
    let at : Calls e (PutsOwn journal_new (journal_of edits)) b c = subst (λ bs. Calls e (PutsOwn journal_new bs) b c) is second in
    then_told first at
    (λ told one two. (at_done e (λ reads n. reads n ∙ ap (λ (v : View). with_bytes journal_new (journal_of edits) v n) (one_view _ _ one.0)) two.0, writes_then a.files b.files c.files one.1 two.1))
    (λ told one two before settled.
    let was = one before before (settled_staging before a.disk.now settled) in
    let next = two before (staged 0 edits before) was.1 in
    (joined a.disk b.disk c.disk (Untouched before) was.0 next.0, next.1))

-- nothing was called, for want of memory
pub staged_nothing : (edits : List Edit) (a : Seen) → Calls Undone (Stages edits) a a
staged_nothing edits a = no_calls Undone a refl (λ told. (tt, writes_nothing a.files)) (λ told before settled. (starts a.disk (Untouched before) (settled_staging before a.disk.now settled).within, tt))
