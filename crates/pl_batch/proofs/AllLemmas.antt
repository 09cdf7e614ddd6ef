-- What a run that prelinks everything comes to, step by step.
use Rattle.std.proofs.Common.{◌≡◌, ℕ, List, [], ◌∷◌, Bool, true, false, refl, sym, ◌∙◌, ap, subst}
use Rattle.std.proofs.lemmas.Bool.{false≢true}
use Rattle.std.proofs.lemmas.List.Elements.{All-cons, All-head, All-nil, All-tail}
use Rattle.std.specs.Borrow.{Bor}
use Rattle.std.specs.FinMap.{get, keys}
use Rattle.std.specs.List.{All, IsDistinct}
use Rattle.std.specs.Str.{bytes_eq}
use Rattle.std.specs.Prelude.{Result, Ok, Err, String, Vec, filter}
use Rattle.std.specs.declared.alloc.Global.{Global}
use Rattle.pl_base.specs.Answers.{◌>>=◌, Answers, because, unless}
use Rattle.pl_base.specs.Files.{Files}
use Rattle.pl_base.specs.Names.{is_valid_name}
use Rattle.pl_cache.specs.declared.cache.Cache.{Cache}
use Rattle.pl_folder.specs.Calls.{Calls}
use Rattle.pl_folder.specs.Seen.{Seen, Done}
use Rattle.pl_folder.specs.Taken.{taken}
use Rattle.pl_journal.specs.declared.change.Change.{Change}
use Rattle.pl_rewrite.specs.Plans.{planned, slots_of, stamp_for}
use Rattle.pl_elf.specs.declared.range.Range.{Range}
use Rattle.pl_rewrite.specs.Taken.{AreTaken, IsTaken, files_in, names_of, taken_of}
use Rattle.pl_rewrite.specs.TakenFile.{Taken}
use Rattle.pl_rewrite.specs.Faulted.{is_memory}
use Rattle.pl_rewrite.specs.PlanningFault.{PlanningFault}
use Rattle.pl_rewrite.specs.PlanningFault.TheVariants as planning
use Rattle.pl_rewrite.specs.Rewriting.{rewrite}
use Rattle.pl_rewrite.specs.declared.rewriting.Rewritten.{Rewritten}
use Rattle.pl_slots.specs.declared.slot.Slot.{Slot}
use Rattle.law_sound.specs.Rule as sound
use Rattle.pl_rewrite.specs.declared.rewriting.Report.{Report}
use Rattle.pl_batch.specs.All.{Reports, all_changes, all_made, all_reported, asked_of, made_of_folder, made_of, made_with_cache, of_planning, spelled}
use Rattle.pl_change.specs.Answers.{Finds, BatchMeansAlone}
use Rattle.pl_batch.specs.All.{of_plan}
use Rattle.pl_batch.specs.Changes.{changes_of}
use Rattle.pl_change.specs.Changes.{fitting}
use Rattle.pl_change.specs.Commands.{Made, ready}
use Rattle.pl_batch.specs.Folder.{IsRead, are_large, named}
use Rattle.pl_change.specs.Folder.{all_files, ascend, cache_file, cache_in, valid_names}
use Rattle.pl_change.specs.Names.{are_many}
use Rattle.pl_change.specs.Starts.{Starts}
use Rattle.pl_batch.specs.declared.all.AllMade.{AllMade}
use Rattle.pl_change.specs.declared.cause.Cause.{Cause}
use Rattle.pl_change.specs.declared.cause.Cause.TheVariants as causes
use Rattle.pl_change.specs.declared.fault.BatchFault.{BatchFault}
use Rattle.pl_change.specs.declared.fault.BatchFault.TheVariants.{DiskFailed, NoMemory}
use Rattle.pl_change.specs.declared.fault.BatchFault.TheVariants as faults
use Rattle.pl_batch.specs.declared.prelinking.Prelinking.{Prelinking}
use Rattle.pl_batch.specs.declared.run.Run.TheVariants as runs
use Rattle.pl_change.proofs.FindLemmas.{alone_finds, alone_stops, other_means, passed, refused, same_found, stops_finds, then_alone, then_finds}
use Rattle.pl_batch.proofs.FolderLemmas.{bytes_of, files_taken}
use Rattle.pl_change.proofs.OrderLemmas.{distinct_from, keys_ascend}
use Rattle.pl_change.proofs.StartLemmas.{before_is}
use Rattle.pl_change.proofs.UndoLemmas.{items, rows, texts}

abbrev pub it : AllMade → AllMade
it made = made

-- ---- the plan

-- it goes by the rows of the cache, wherever they lie
lies_anywhere : (files : sound.Files) (ns : List (List ℕ)) (p : Prelinking) (last : ℕ) (rows : Bor (List Slot))
    → rewrite files ns (record { rows = rows; last = last; region = p.region; share = p.share; moment = p.moment }) ≡ rewrite files ns (asked_of p (record { last = last; rows = rows.now }))
unfolding rewrite planned slots_of stamp_for
lies_anywhere files ns p last rows = refl

pub asked_is : (files : sound.Files) (ns : List (List ℕ)) (p : Prelinking) (c : Cache) (rows : Bor (List Slot)) → rows.now ≡ c.rows
    → rewrite files ns (record { rows = rows; last = c.last; region = p.region; share = p.share; moment = p.moment }) ≡ rewrite files ns (asked_of p c)
asked_is files ns p c rows is = lies_anywhere files ns p c.last rows ∙ ap (λ (rs : List Slot). rewrite files ns (asked_of p (record { last = c.last; rows = rs }))) is

module _ (files : sound.Files) (ns : List (List ℕ)) (p : Prelinking) (old : List ℕ) (c : Cache) where
  pub unplanned : (fault : PlanningFault) → Answers is_memory (Err fault) (rewrite files ns (asked_of p c)) → BatchMeansAlone (made_of files ns p old c) (Err (of_plan fault))
  unfolding made_of
  unplanned (planning.NoSlot name span hole) answers = ap (λ (m : Result Rewritten PlanningFault). because of_planning m >>= spelled old) answers
  unplanned (planning.StampsSpent stamp) answers = ap (λ (m : Result Rewritten PlanningFault). because of_planning m >>= spelled old) answers
  unplanned planning.NoMemory answers = tt

  pub rewritten : (w : Rewritten) (r : Result AllMade BatchFault) → rewrite files ns (asked_of p c) ≡ Ok w → BatchMeansAlone (spelled old w) r → BatchMeansAlone (made_of files ns p old c) r
  unfolding made_of
  rewritten w r is alone = subst (λ (m : Result Rewritten PlanningFault). BatchMeansAlone (because of_planning m >>= spelled old) r) (sym is) alone

-- ---- files that were taken

read_one : (region : Range) (t : Taken) → IsTaken region t → IsRead t
unfolding taken_of
read_one region t taken = ap (λ (u : Taken). u.entry) taken.is

pub are_read : (region : Range) (ts : List Taken) → All (IsTaken region) ts → All IsRead ts
are_read region [] all = All-nil IsRead
are_read region (t ∷ ts) all = All-cons IsRead t ts (read_one region t (All-head (IsTaken region) t ts all)) (are_read region ts (All-tail (IsTaken region) t ts all))

-- those of names that ascend are of names that differ
pub are_taken : (region : Range) (ns : List (List ℕ)) (ts : List Taken) → ascend ns ≡ true → names_of ts ≡ filter is_valid_name ns → All (IsTaken region) ts → AreTaken region ts
are_taken region ns ts rise names all = record { each = all; distinct = subst (λ (ks : List (List ℕ)). IsDistinct bytes_eq ks) (sym names) (distinct_from is_valid_name ns rise) }

-- ---- the files and their limits

module _ (p : Prelinking) where
  abbrev cached : Files → List ℕ → Result AllMade Cause
  cached files old = cache_in old >>= λ c. made_with_cache files p old c

  module _ {a b : Seen} where
    pub uncached : (fault : BatchFault) → Finds (cache_file a.files) items (Err fault) a b → Finds (made_of_folder a.files p) it (Err fault) a b
    unfolding made_of_folder
    uncached fault found = stops_finds (cache_file a.files) items (cached a.files) it fault found

    module _ (old : Vec ℕ Global) (file : Finds (cache_file a.files) items (Ok old) a b) where
      cached_on : {c : Seen} (r : Result AllMade BatchFault) → Finds (cached b.files old.items) it r b c → Finds (made_of_folder a.files p) it r a c
      unfolding made_of_folder
      cached_on r found = then_finds (cache_file a.files) items old cached it r file found

      pub misspelled : (fault : BatchFault) → BatchMeansAlone (cache_in old.items) (Err fault) → Finds (made_of_folder a.files p) it (Err fault) a b
      misspelled fault alone = cached_on (Err fault) (alone_stops (cache_in old.items) (made_with_cache b.files p old.items) it fault b alone)

      module _ (c : Cache) (says : cache_in old.items ≡ Ok c) where
        with_files : {d : Seen} (r : Result AllMade BatchFault) → Finds (made_with_cache b.files p old.items c) it r b d → Finds (made_of_folder a.files p) it r a d
        with_files r found = cached_on r (same_found (cached b.files old.items) (made_with_cache b.files p old.items c) it r (ap (λ (m : Result Cache Cause). m >>= λ c. made_with_cache b.files p old.items c) says) found)

        module _ (ns : List (List ℕ)) (listed : a.tells ≡ true → ns ≡ keys a.files) where
          keys_are : b.tells ≡ true → ns ≡ keys b.files
          keys_are t =
              let told = sym file.calls.tells ∙ t in
              listed told ∙ ap keys (sym (file.calls.files told))

          renamed : {d : Seen} (r : Result (List Taken) BatchFault) → Finds (all_files b.files (filter is_valid_name ns)) bytes_of r b d → Finds (all_files b.files (valid_names b.files)) bytes_of r b d
          renamed r found = record {
            means = other_means _ _ (all_files b.files (valid_names b.files)) (all_files b.files (filter is_valid_name ns)) bytes_of r (λ t. t) (λ t. ap (λ (ks : List (List ℕ)). all_files b.files (filter is_valid_name ks)) (sym (keys_are t))) found.means;
            calls = found.calls;
          }

          abbrev rest : List (List ℕ) → Result AllMade Cause
          rest bytes = unless (are_large bytes) causes.FolderTooLarge (made_of (named b.files) (valid_names b.files) p old.items c)

          pub untaken : {d : Seen} (fault : BatchFault) → Finds (all_files b.files (filter is_valid_name ns)) bytes_of (Err fault) b d → Finds (made_of_folder a.files p) it (Err fault) a d
          unfolding made_with_cache
          untaken fault found = with_files (Err fault) (stops_finds (all_files b.files (valid_names b.files)) bytes_of rest it fault (renamed (Err fault) found))

          module _ {d : Seen} (ts : List Taken) (found : Finds (all_files b.files (filter is_valid_name ns)) bytes_of (Ok ts) b d) where
            pub large : are_large (bytes_of ts) ≡ true → Finds (made_of_folder a.files p) it (Err (faults.Cause causes.FolderTooLarge)) a d
            unfolding made_with_cache
            large is = with_files (Err (faults.Cause causes.FolderTooLarge)) (then_alone (all_files b.files (valid_names b.files)) bytes_of ts rest (Err (faults.Cause causes.FolderTooLarge)) (renamed (Ok ts) found)
                (ap (λ (v : Bool). unless v causes.FolderTooLarge (made_of (named b.files) (valid_names b.files) p old.items c)) is))

            pub small : (r : Result AllMade BatchFault) → are_large (bytes_of ts) ≡ false → names_of ts ≡ filter is_valid_name ns → BatchMeansAlone (made_of (files_in ts) (names_of ts) p old.items c) r → Finds (made_of_folder a.files p) it r a d
            unfolding made_with_cache
            small r is names alone = with_files r (alone_finds (made_of (files_in ts) (names_of ts) p old.items c) r (made_with_cache b.files p old.items c) (λ t.
                let one = renamed (Ok ts) found in
                let named_so : names_of ts ≡ valid_names b.files = names ∙ ap (filter is_valid_name) (keys_are t) in
                ap (λ (m : Result (List (List ℕ)) Cause). m >>= rest) (one.means t)
                ∙ ap (λ (v : Bool). unless v causes.FolderTooLarge (made_of (named b.files) (valid_names b.files) p old.items c)) is
                ∙ ap (λ (fs : sound.Files). made_of fs (valid_names b.files) p old.items c) (sym (files_taken b.files ts named_so (one.means t)))
                ∙ ap (λ (ks : List (List ℕ)). made_of (files_in ts) ks p old.items c) (sym named_so)) alone found.calls)

  -- ---- the names

  abbrev all_of : Files → List (List ℕ) → Result AllMade Cause
  all_of files ns = unless (are_many ns) causes.TooManyFiles (made_of_folder files p)

  module _ {a b : Seen} where
    pub all_unlisted : (fault : BatchFault) → Finds (Ok (keys a.files)) texts (Err fault) a b → Finds (all_made a.files p) it (Err fault) a b
    unfolding all_made
    all_unlisted fault found = stops_finds (Ok (keys a.files)) texts (all_of a.files) it fault found

    module _ (names : Vec (String Global) Global) (listed : Finds (Ok (keys a.files)) texts (Ok names) a b) where
      all_listed : {c : Seen} (r : Result AllMade BatchFault) → Finds (all_of b.files (texts names)) it r b c → Finds (all_made a.files p) it r a c
      unfolding all_made
      all_listed r found = then_finds (Ok (keys a.files)) texts names all_of it r listed found

      keys_listed : a.tells ≡ true → keys a.files ≡ texts names
      keys_listed t = let same = listed.means t in cc

      -- what the names are as they are read on
      pub names_listed : b.tells ≡ true → texts names ≡ keys b.files
      names_listed t =
          let told = sym listed.calls.tells ∙ t in
          sym (keys_listed told) ∙ ap keys (sym (listed.calls.files told))

      pub all_many : are_many (texts names) ≡ true → Finds (all_made a.files p) it (Err (faults.Cause causes.TooManyFiles)) a b
      all_many many = all_listed (Err (faults.Cause causes.TooManyFiles)) (refused (are_many (texts names)) causes.TooManyFiles (made_of_folder b.files p) it b many)

      -- a folder that tells its files lists names that ascend
      pub all_mixed : ascend (texts names) ≡ false → Finds (all_made a.files p) it (Err (faults.Cause causes.TooManyFiles)) a b
      all_mixed mixed = record { means = λ t. absurd (false≢true (sym mixed ∙ sym (ap ascend (keys_listed t)) ∙ keys_ascend a.files)); calls = listed.calls }

      pub all_few : {c : Seen} (r : Result AllMade BatchFault) → are_many (texts names) ≡ false → Finds (made_of_folder b.files p) it r b c → Finds (all_made a.files p) it r a c
      all_few r few found = all_listed r (passed (are_many (texts names)) causes.TooManyFiles (made_of_folder b.files p) it r few found)

-- ---- its rows and its report

module _ {meant : Result (List Change) Cause} {a b : Seen} where
  pub by_rows : (made : AllMade) → Finds meant rows (Ok made.rows) a b → Finds meant (λ (m : AllMade). m.rows) (Ok made) a b
  by_rows made found = record { means = found.means; calls = found.calls }

  pub by_rows_err : (fault : BatchFault) → Finds meant rows (Err fault) a b → Finds meant (λ (m : AllMade). m.rows) (Err fault) a b
  by_rows_err fault found = record { means = found.means; calls = found.calls }

  pub of_rows : (made : AllMade) → Finds meant (λ (m : AllMade). m.rows) (Ok made) a b → Finds meant rows (Ok made.rows) a b
  of_rows made found = record { means = found.means; calls = found.calls }

  pub of_rows_err : (fault : BatchFault) → Finds meant (λ (m : AllMade). m.rows) (Err fault) a b → Finds meant rows (Err fault) a b
  of_rows_err fault found = record { means = found.means; calls = found.calls }

abbrev rows_in : AllMade → Result (List Change) Cause
rows_in made = Ok made.rows

abbrev report_in : AllMade → Result Report Cause
report_in made = Ok made.report

abbrev pub as_it_is : Report → Report
as_it_is report = report

module _ (p : Prelinking) {a b : Seen} where
  pub unchanged : (fault : BatchFault) → Finds (all_made a.files p) it (Err fault) a b → Finds (all_changes a.files p) rows (Err fault) a b
  unfolding all_changes
  unchanged fault found = stops_finds (all_made a.files p) it rows_in rows fault found

  pub unfit : (fault : BatchFault) → Finds (all_made a.files p) it (Err fault) a b → Finds (changes_of a.files (runs.All p)) rows (Err fault) a b
  unfolding changes_of
  unfit fault found = stops_finds (all_changes a.files p) rows fitting rows fault (unchanged fault found)

  pub unreported : (fault : BatchFault) → Finds (all_made a.files p) it (Err fault) a b → Finds (all_reported a.files p) as_it_is (Err fault) a b
  unfolding all_reported
  unreported fault found = stops_finds (all_made a.files p) it report_in as_it_is fault found

  module _ (made : AllMade) (found : Finds (all_made a.files p) it (Ok made) a b) where
    pub changed : Finds (all_changes a.files p) rows (Ok made.rows) a b
    unfolding all_changes
    changed = then_alone (all_made a.files p) it made rows_in (Ok made.rows) found refl

    pub fits : (r : Result (List Change) BatchFault) → BatchMeansAlone (fitting made.rows) r → Finds (changes_of a.files (runs.All p)) rows r a b
    unfolding changes_of
    fits r alone = then_alone (all_changes a.files p) rows made.rows fitting r changed alone

    pub reported : Finds (all_reported a.files p) as_it_is (Ok made.report) a b
    unfolding all_reported
    reported = then_alone (all_made a.files p) it made report_in (Ok made.report) found refl

  -- what is reported of the recovered files is of those that the folder stood for
  pub reports : {X : Type 0} (Makes : Report → X → Type 0) (answer : X) → Calls Done (Starts ready Made) a b → (report : Report) → (b.tells ≡ true → all_reported b.files p ≡ Ok report) → Makes report answer → Reports Makes p answer a
  reports Makes answer start report is makes told before stands = (report, ap (λ (f : Files). all_reported f p) (before_is (get a.files) before b.files stands (start.files told).0.2) ∙ is (start.tells ∙ told), makes)
