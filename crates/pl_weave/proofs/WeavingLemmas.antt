-- A loader of a weave opens a file of the folder in which its runs go on.
use Rattle.std.proofs.Common.{◌≡◌, ◌≢◌, ◌∙◌, ◌+◌, ◌<◌, ◌≤◌, ℕ, zero, suc, List, [], ◌∷◌, get_or, length, map, take, Option, Some, None, Result, Ok, Err, Bool, true, false, refl, sym, ap, subst, inl, inr, arith}
use Rattle.std.specs.Prelude.{◌⊎◌, ◌||◌, ◌++◌, All, String, Vec, cond, fold, if◌then◌else◌, is_some, nat_le, slice_get}
use Rattle.std.specs.declared.alloc.Global.{Global}
use Rattle.std.specs.List.{list_all}
use Rattle.std.specs.FinMap.{find, get, get-from_entries}
use Rattle.std.specs.Cmp.Lexicographic.{nat_list_cmp_total, slice_cmp}
use Rattle.std.specs.Ordering.{nat_cmp}
use Rattle.std.proofs.lemmas.List.Elements.{All-head, All-tail}
use Rattle.std.proofs.lemmas.Bool.{and_parts, cases_Bool, leb-false, le-leb}
use Rattle.pl_base.specs.Files.{Files, file_entry, files_of}
use Rattle.pl_base.specs.Names.{is_valid_name}
use Rattle.pl_folder.specs.Disk.{same}
use Rattle.pl_folder.specs.InMemory.{quiet, quiet_files, quiet_seen}
use Rattle.pl_folder.specs.Seen as folders
use Rattle.pl_folder.specs.Taken.{stored, taken}
use Rattle.pl_folder.specs.declared.TheConstants.{STORED}
use Rattle.pl_folder.specs.declared.fault.FolderFault.TheVariants as folder
use Rattle.pl_folder.specs.declared.quiet_folder.QuietFolder.{QuietFolder}
use Rattle.pl_journal.specs.Meaning.{Agree}
use Rattle.pl_journal.specs.Names.{cache, is_journal_name}
use Rattle.pl_journal.proofs.Done.{row_not_own}
use Rattle.pl_journal.specs.declared.change.Change.{Change}
use Rattle.pl_loader.specs.Loading.{Loading}
use Rattle.pl_loader.specs.declared.fault.LoadFault.{LoadFault}
use Rattle.pl_place.specs.Policy.{Answering, Choice, Follows}
use Rattle.pl_script.specs.Script.{is_of}
use Rattle.pl_script.specs.declared.script.Event.{Event}
use Rattle.pl_script.specs.declared.script.Event.TheVariants.{Open, Rename}
use Rattle.pl_weave.specs.Opening.{Opened, Opens, OpensAt, OpensBy, led_to, opened, seen_of, wanted, with_file}
use Rattle.pl_stage.specs.declared.held.Held.{Held}
use Rattle.pl_weave.specs.Running.{AreStored, HavePolicy, IsUnderWay, Stands, StandsBy, files_in, plain, policies}
use Rattle.pl_weave.specs.Runs.{Runs}
use Rattle.pl_weave.specs.Taking.{Untaken, held_file}
use Rattle.pl_weave.specs.Weaving.{Weaving, after, opened_at, opened_by, opened_once}
use Rattle.pl_weave.proofs.ManyLaws.{policy_of}
use Rattle.pl_weave.specs.declared.fault.WeaveFault.{WeaveFault}
use Rattle.pl_weave.specs.declared.fault.WeaveFault.TheVariants.{TooLarge}
use Rattle.pl_weave.specs.declared.running.Running.{Running}
use Rattle.pl_weave.specs.declared.seen.Seen.{Seen}

-- a valid name is not one of the journal's own
valid_other : (n : List ℕ) → is_valid_name n ≡ true → is_journal_name n ≡ false
valid_other n valid = row_not_own n (ap (λ (b : Bool). b || same n cache) valid)

-- the file of a name is one and the same in files that agree but for the journal's own
pub same_file : (held files : Files) (n : List ℕ) → Agree (get held) (get files) → held_file held n ≡ held_file files n
same_file held files n agree = by (is_valid_name n) refl
  where
    by : (valid : Bool) → is_valid_name n ≡ valid → held_file held n ≡ held_file files n
    by true is = rw is (agree n (valid_other n is))
    by false is = rw is refl

-- ---- no file is too large

large_by : (file : Option (List ℕ)) → stored file ≡ Err folder.TooLarge → (bytes : List ℕ) × (file ≡ Some bytes) × (STORED < length bytes)
large_by None is = let no : ⊥ = cc in absurd no
large_by (Some bytes) is = by (nat_le (length bytes) STORED) refl is
  where
    by : (small : Bool) → nat_le (length bytes) STORED ≡ small → (if small then Ok bytes else Err folder.TooLarge) ≡ Err folder.TooLarge → (more : List ℕ) × (Some bytes ≡ Some more) × (STORED < length more)
    by true small is = let no : ⊥ = cc in absurd no
    by false small is = (bytes, refl, omega (arith, leb-false (length bytes) STORED small))

pub never_large : {F : Type 0} {post : F → Answering} {w new : List (Opened F)} {loader : ℕ} (folder : QuietFolder) {o : Opened F} (name : List ℕ) → AreStored (quiet_files folder) → slice_get w loader ≡ Some o → wanted o ≡ Some name
    → OpensAt post (Err TooLarge) loader w new (quiet_seen folder) → ⊥
never_large folder {o = o} name are there wants opens =
    let same_loader : opens.before ≡ o = let e = sym opens.was ∙ there in cc in
    let untaken = opens.opens name (ap wanted same_loader ∙ wants) in
    let large = large_by (get (quiet_files folder) name) (untaken.1 refl) in
    omega (arith, are name large.0 untaken.0 large.1, large.2)

-- ---- one event

plain_led : {F : Type 0} (o : Opened F) (s : Seen) (r : Result Loading LoadFault) → plain (led_to o s r) ≡ led_to (plain o) s r
plain_led o s (Ok walk) = refl
plain_led o s (Err fault) = refl

pub plain_opened : {F : Type 0} (post : F → Answering) (choose : Choice) (old new : Opened F) (held files : Files) → Agree (get held) (get files) → Follows (post old.load.policy) choose → Opens post (Ok tt) old new (quiet held)
    → plain new ≡ opened_once choose files (plain old)
plain_opened post choose old new held files agree follows opens = by (wanted old) refl opens
  where
    by : (n : Option (List ℕ)) → wanted old ≡ n → OpensBy post n old new (quiet held) → plain new ≡ opened_once choose files (plain old)
    by None is same = ap plain same ∙ sym (ap (opened_by choose files (plain old)) is)
    by (Some name) is opened =
        let file : opened.0 ≡ held_file files name = opened.1 refl ∙ same_file held files name agree in
        ap plain opened.2.now
        ∙ plain_led old (seen_of name opened.0) opened.2.came
        ∙ ap (led_to (plain old) (seen_of name opened.0)) (sym (opened.2.exact choose follows))
        ∙ ap (λ (f : Option (List ℕ)). with_file choose (plain old) name f) file
        ∙ sym (ap (opened_by choose files (plain old)) is)

same_list : {A : Type 0} (xs ys : List A) → length xs ≡ length ys → ((i : ℕ) → slice_get xs i ≡ slice_get ys i) → xs ≡ ys
same_list [] [] count are = refl
same_list [] (y ∷ ys) count are = absurd (omega (arith, count))
same_list (x ∷ xs) [] count are = absurd (omega (arith, count))
same_list (x ∷ xs) (y ∷ ys) count are =
    let first : x ≡ y = let e = are zero in cc in
    ap (λ z. z ∷ xs) first ∙ ap (λ zs. y ∷ zs) (same_list xs ys (omega (arith, count)) (λ i. are (suc i)))

-- the loader of a number has opened its file, and no other
at_number : {F : Type 0} (choose : Choice) (k : ℕ) (old new : List (Opened F)) (files : Files) (before after : Opened F) → slice_get old k ≡ Some before → slice_get new k ≡ Some after → plain after ≡ opened_once choose files (plain before)
    → ((other : ℕ) → other ≢ k → slice_get new other ≡ slice_get old other) → length new ≡ length old → map plain new ≡ opened_at choose files k (map plain old)
at_number choose zero (o ∷ os) (p ∷ ps) files before after was now opened others count =
    let first : plain p ≡ opened_once choose files (plain o) = let e : o ≡ before = cc in let f : p ≡ after = cc in ap plain f ∙ opened ∙ ap (λ q. opened_once choose files (plain q)) (sym e) in
    let rest : ps ≡ os = same_list ps os (omega (arith, count)) (λ i. others (suc i) (λ e. omega (arith, e))) in
    ap (λ q. q ∷ map plain ps) first ∙ ap (λ qs. opened_once choose files (plain o) ∷ map plain qs) rest
at_number choose (suc k) (o ∷ os) (p ∷ ps) files before after was now opened others count =
    let first : p ≡ o = let e = others zero (λ e. omega (arith, e)) in cc in
    ap (λ q. plain q ∷ map plain ps) first ∙ ap (λ qs. plain o ∷ qs) (at_number choose k os ps files before after was now opened (λ other differs. others (suc other) (λ e. differs (omega (arith, e)))) (omega (arith, count)))
at_number choose k [] new files before after was now opened others count = let no : ⊥ = cc in absurd no
at_number choose k (o ∷ os) [] files before after was now opened others count = let no : ⊥ = cc in absurd no

pub opened_ok : {F : Type 0} {post : F → Answering} {w new : List (Opened F)} {loader : ℕ} {held : folders.Seen} (r : Result (Unit {0}) WeaveFault) → r ≡ Ok tt → OpensAt post r loader w new held → OpensAt post (Ok tt) loader w new held
opened_ok {post = post} {w = w} {new = new} {loader = loader} {held = held} r is it = subst (λ (q : Result (Unit {0}) WeaveFault). OpensAt post q loader w new held) is it

pub opens_one : {F : Type 0} {post : F → Answering} (p : F) (choose : Choice) (loader : ℕ) (old new : List (Opened F)) (held files : Files) → Agree (get held) (get files) → HavePolicy p old → Follows (post p) choose → OpensAt post (Ok tt) loader old new (quiet held)
    → map plain new ≡ opened_at choose files loader (map plain old)
opens_one {post = post} p choose loader old new held files agree have follows it =
    let by_it : Follows (post it.before.load.policy) choose = subst (λ q. Follows (post q) choose) (sym (policy_of p old loader it.before have it.was)) follows in
    at_number choose loader old new files it.before it.after it.was it.now (plain_opened post choose it.before it.after held files agree by_it it.opens) it.others it.count

-- where a loader has finished its event changes nothing
finished_at : (choose : Choice) (files : Files) (k : ℕ) (os : List (Opened (Unit {0}))) (o : Opened (Unit {0})) → slice_get os k ≡ Some o → wanted o ≡ None → opened_at choose files k os ≡ os
finished_at choose files k [] o there none = refl
finished_at choose files zero (p ∷ os) o there none =
    let same : p ≡ o = cc in
    ap (λ q. q ∷ os) (ap (opened_by choose files p) (ap wanted same ∙ none))
finished_at choose files (suc k) (p ∷ os) o there none = ap (λ qs. p ∷ qs) (finished_at choose files k os o there none)

mapped_at : {F : Type 0} (k : ℕ) (os : List (Opened F)) (o : Opened F) → slice_get os k ≡ Some o → slice_get (map plain os) k ≡ Some (plain o)
mapped_at k [] o there = let no : ⊥ = cc in absurd no
mapped_at zero (p ∷ os) o there = let same : p ≡ o = cc in ap (λ q. Some (plain q)) same
mapped_at (suc k) (p ∷ os) o there = mapped_at k os o there

pub opens_none : {F : Type 0} (choose : Choice) (loader : ℕ) (old : List (Opened F)) (files : Files) (o : Opened F) → slice_get old loader ≡ Some o → wanted o ≡ None → map plain old ≡ opened_at choose files loader (map plain old)
opens_none choose loader old files o there none = sym (finished_at choose files loader (map plain old) (plain o) (mapped_at loader old o there) none)

-- ---- the policies stay

policy_opened : {F : Type 0} (post : F → Answering) (old new : Opened F) (held : Files) → Opens post (Ok tt) old new (quiet held) → new.load.policy ≡ old.load.policy
policy_opened post old new held opens = by (wanted old) opens
  where
    after_file : (s : Seen) (r : Result Loading LoadFault) → (led_to old s r).load.policy ≡ old.load.policy
    after_file s (Ok walk) = refl
    after_file s (Err fault) = refl

    by : (n : Option (List ℕ)) → OpensBy post n old new (quiet held) → new.load.policy ≡ old.load.policy
    by None same_loader = ap (λ (o : Opened _). o.load.policy) same_loader
    by (Some name) opened = ap (λ (o : Opened _). o.load.policy) opened.2.now ∙ after_file (seen_of name opened.0) opened.2.came

pub policies_at : {F : Type 0} {post : F → Answering} (k : ℕ) (old new : List (Opened F)) (held : Files) → OpensAt post (Ok tt) k old new (quiet held) → policies new ≡ policies old
policies_at {post = post} k old new held it = by k old new it.was it.now it.others it.count
  where
    by : (k : ℕ) (old new : List (Opened _)) → slice_get old k ≡ Some it.before → slice_get new k ≡ Some it.after → ((other : ℕ) → other ≢ k → slice_get new other ≡ slice_get old other) → length new ≡ length old → policies new ≡ policies old
    by zero (o ∷ os) (p ∷ ps) was now others count =
        let first : o ≡ it.before = cc in
        let second : p ≡ it.after = cc in
        let rest : ps ≡ os = same_list ps os (omega (arith, count)) (λ i. others (suc i) (λ e. omega (arith, e))) in
        ap (λ qs. p.load.policy ∷ policies qs) rest
        ∙ ap (λ q. q ∷ policies os) (ap (λ (q : Opened _). q.load.policy) second ∙ policy_opened post it.before it.after held it.opens ∙ ap (λ (q : Opened _). q.load.policy) (sym first))
    by (suc k) (o ∷ os) (p ∷ ps) was now others count =
        let first : p ≡ o = let e = others zero (λ e. omega (arith, e)) in cc in
        ap (λ (q : Opened _). q.load.policy ∷ policies ps) first ∙ ap (λ qs. o.load.policy ∷ qs) (by k os ps was now (λ other differs. others (suc other) (λ e. differs (omega (arith, e)))) (omega (arith, count)))
    by k [] new was now others count = let no : ⊥ = cc in absurd no
    by k (o ∷ os) [] was now others count = let no : ⊥ = cc in absurd no

-- new loaders, whatever policy they go by
pub plain_new : {F : Type 0} (policy : F) (names : List (List ℕ)) → map plain (map (opened policy) names) ≡ map (opened tt) names
plain_new policy [] = refl
plain_new policy (name ∷ names) = ap (λ os. opened tt name ∷ os) (plain_new policy names)

-- ---- a folder that stands for runs

pub stands_agree : (m : Running) (r : Runs) → Stands m r → Agree (get (files_in m.held)) (get r.files)
stands_agree m r stands = by r.left stands.folder
  where
    by : (left : List Change) → StandsBy left r.files m → Agree (get (files_in m.held)) (get r.files)
    by [] idle = λ n valid. ap (λ (files : Files). get files n) idle.same
    by (row ∷ rows) works = works.under_way.agree

pub stands_stored : (m : Running) (r : Runs) → Stands m r → AreStored (files_in m.held)
stands_stored m r stands n bytes valid is = by r.left stands.folder n bytes valid (sym (stands_agree m r stands n (valid_other n valid)) ∙ is)
  where
    by : (left : List Change) → StandsBy left r.files m → AreStored r.files
    by [] idle = idle.stored
    by (row ∷ rows) works = works.under_way.stored

-- an event of a loader leaves the runs as they are
pub stands_held : (m : Running) (r : Runs) (held : Held QuietFolder) → files_in held ≡ files_in m.held → Stands m r → Stands (record m { held = held }) r
stands_held m r held same stands = record {
  finished = stands.finished;
  waiting = stands.waiting;
  done = stands.done;
  folder = by r.left stands.folder;
  runs = stands.runs;
}
  where
    by : (left : List Change) → StandsBy left r.files m → StandsBy left r.files (record m { held = held })
    by [] idle = record { same = same ∙ idle.same; no_own = idle.no_own; stored = idle.stored; steps = idle.steps; done = idle.done }
    by (row ∷ rows) works = record { under_way = subst (λ (files : Files). IsUnderWay m.steps m.done (row ∷ rows) r.files files) (sym same) works.under_way; some = works.some }

-- ---- all events

pub fold_more : (choose : Choice) (w : Weaving) (before : List Event) (event : Event) → fold (after choose) w (before ++ event ∷ []) ≡ after choose (fold (after choose) w before) event
fold_more choose w [] event = refl
fold_more choose w (first ∷ before) event = fold_more choose (after choose w first) before event

-- ---- one event of a list

pub event_is : (n : ℕ) (events : List Event) (i : ℕ) (d : Event) → i < length events → list_all (is_of n) events ≡ true → is_of n (get_or events i d) ≡ true
event_is n [] i d lt all = absurd (omega (arith, lt))
event_is n (first ∷ events) zero d lt all = (and_parts (is_of n first) (list_all (is_of n) events) all).0
event_is n (first ∷ events) (suc i) d lt all = event_is n events i d (omega (arith, lt)) (and_parts (is_of n first) (list_all (is_of n) events) all).1

take_more : (events : List Event) (i : ℕ) (d : Event) → i < length events → take (suc i) events ≡ take i events ++ get_or events i d ∷ []
take_more [] i d lt = absurd (omega (arith, lt))
take_more (first ∷ events) zero d lt = refl
take_more (first ∷ events) (suc i) d lt = ap (λ (es : List Event). first ∷ es) (take_more events i d (omega (arith, lt)))

-- the weave after one event more
pub woven_more : (choose : Choice) (w : Weaving) (events : List Event) (i : ℕ) (d : Event) → i < length events → fold (after choose) w (take (i + 1) events) ≡ after choose (fold (after choose) w (take i events)) (get_or events i d)
woven_more choose w events i d lt =
    let next : i + 1 ≡ suc i = omega arith in
    ap (λ (k : ℕ). fold (after choose) w (take k events)) next ∙ ap (fold (after choose) w) (take_more events i d lt) ∙ fold_more choose w (take i events) (get_or events i d)

at_length : (choose : Choice) (files : Files) (k : ℕ) (os : List (Opened (Unit {0}))) → length (opened_at choose files k os) ≡ length os
at_length choose files k [] = refl
at_length choose files zero (o ∷ os) = refl
at_length choose files (suc k) (o ∷ os) = ap suc (at_length choose files k os)

-- there are as many loaders after events
pub after_length : (choose : Choice) (w : Weaving) (events : List Event) → length (fold (after choose) w events).loaders ≡ length w.loaders
after_length choose w [] = refl
after_length choose w (Open loader ∷ events) = after_length choose (after choose w (Open loader)) events ∙ at_length choose w.runs.files loader w.loaders
after_length choose w (Rename ∷ events) = after_length choose (after choose w Rename) events

abbrev Small : List (List ℕ × List ℕ) → Type 0
Small [] = Unit {0}
Small (e ∷ es) = (length e.1 ≤ STORED) × Small es

-- files in memory, each as long as a folder gives
pub stored_files : (files : List (String Global × Vec ℕ Global)) → All (λ file. length file.1.items ≤ STORED) files → AreStored (files_of files)
stored_files files all n bytes valid is = found_small (map file_entry files) (entries_small files all) n bytes (sym (get-from_entries nat_list_cmp_total (map file_entry files) n) ∙ is)
  where
    entries_small : (files : List (String Global × Vec ℕ Global)) → All (λ file. length file.1.items ≤ STORED) files → Small (map file_entry files)
    entries_small [] all = tt
    entries_small (file ∷ files) all = (All-head (λ file. length file.1.items ≤ STORED) file files all, entries_small files (All-tail (λ file. length file.1.items ≤ STORED) file files all))

    by_name : (e : List ℕ × List ℕ) (rest : Option (List ℕ)) (bytes : List ℕ) (b : Bool) → cond b (Some e.1) rest ≡ Some bytes → (e.1 ≡ bytes) ⊎ (rest ≡ Some bytes)
    by_name e rest bytes true is = inl (let same : e.1 ≡ bytes = cc in same)
    by_name e rest bytes false is = inr is

    found_small : (es : List (List ℕ × List ℕ)) → Small es → (n bytes : List ℕ) → find (slice_cmp nat_cmp) n es ≡ Some bytes → length bytes ≤ STORED
    found_small [] small n bytes is = let no : ⊥ = cc in absurd no
    found_small (e ∷ es) small n bytes is = elim (by_name e (find (slice_cmp nat_cmp) n es) bytes (same n e.0) is) [
      | inl here ↦ subst (λ (b : List ℕ). length b ≤ STORED) here small.0
      | inr later ↦ found_small es small.1 n bytes later
    ]
