-- Runs on a disk whose settle makes names last, and no file's bytes.
use Rattle.std.proofs.Common.{◌≡◌, inl, inr, ℕ, zero, suc, ◌≤◌, List, [], ◌∷◌, ◌++◌, length, take, true, refl, sym, ◌∙◌, ap, subst, Result, Ok, Err}
use Rattle.std.specs.Prelude.{IsErrAnd}
use Rattle.pl_folder.specs.Calls.{Calls}
use Rattle.pl_folder.specs.Disk.{Name, View, State, Disk, after, waited}
use Rattle.pl_folder.specs.Effects.{Appends, Does, DoesOrNot, GrowsDisk, Idles, StepsDisk, StepsDiskOrNot, Waited, Waits, creates, firms, removes, settles}
use Rattle.pl_folder.specs.Seen.{Ending, Done, Broken, Undone, Seen}
use Rattle.pl_folder.specs.Since.{HadImage}
use Rattle.pl_folder.specs.States.{renamed, settled}
use Rattle.pl_journal.specs.Faults.{journal_ending, part_ending}
use Rattle.pl_journal.specs.Leaves.{Looks}
use Rattle.pl_journal.specs.Parts.{NamesFile, NamesDisk, is_firm}
use Rattle.pl_journal.specs.RealDisk.{DiskCall, Wait, Create, Append, Firm, Rename, Remove, Settle, AllFirm, AreAlike, FirmDisksStaySame, IsAlike, IsBeside, LosesLoose, LostWithoutARun, OnRealDisk, RealImages, RunsBeside, RunsFirmly, RunsFirmlyOn, StaysAlike, disk_by, names_settled, real_by, step_by}
use Rattle.pl_journal.specs.declared.fault.JournalFault.{JournalFault}
use Rattle.pl_journal.proofs.Endings.{at_done, fault_stops, stopped, when_done}
use Rattle.pl_journal.proofs.Moments.{after_start}
use Rattle.pl_journal.proofs.RealStates.{ButLeft, ButNamed, FirmAt, alike_appended, alike_created, alike_firmed, alike_removed, alike_renamed, alike_self, alike_settled, appended_named, created_named, firmed_left, firmed_named, image_alike, left_firm, left_self, lost_so, removed_left, renamed_left, same_state, settled_left}
use Rattle.pl_journal.proofs.RecoverLemmas.{waited_now}

-- ---- runs

-- of the states of both disks, from a start
abbrev pub Both : Type 1
Both = State → State → State → Type 0

abbrev pub Any : Both
Any start s r = Unit {0}

disk_then : (settle : State → State) (first second : List DiskCall) (d : Disk) → disk_by settle (first ++ second) d ≡ disk_by settle second (disk_by settle first d)
disk_then settle [] second d = refl
disk_then settle (call ∷ first) second d = disk_then settle first second (after (step_by settle call d.now) d)

-- a run that both disks make, from what has P to what has Q
pub record Runs (P Q : Both) (old new : Disk) : Type 0 where
  pub calls : List DiskCall
  pub made : new ≡ disk_by settled calls old
  pub both : (start : State) (real : Disk) → StaysAlike start old real → P start old.now real.now → StaysAlike start new (real_by calls real) × Q start new.now (real_by calls real).now

run_then : {P Q R : Both} {x y z : Disk} → Runs P Q x y → Runs Q R y z → Runs P R x z
run_then {R = R} {x = x} {z = z} one two = record {
  calls = one.calls ++ two.calls;
  made = two.made ∙ ap (λ (d : Disk). disk_by settled two.calls d) one.made ∙ sym (disk_then settled one.calls two.calls x);
  both = λ start real alike p.
      let first = one.both start real alike p in
      subst (λ (d : Disk). StaysAlike start z d × R start z.now d.now) (sym (disk_then names_settled one.calls two.calls real)) (two.both start (real_by one.calls real) first.0 first.1);
}

no_run : {P : Both} {x y : Disk} → y ≡ x → Runs P P x y
no_run {P = P} {x = x} is = record { calls = []; made = is; both = λ start real alike p. subst (λ (d : Disk). StaysAlike start d real × P start d.now real.now) (sym is) (alike, p) }

run_to : {P Q R : Both} {x y : Disk} → ((start s r : State) → Q start s r → R start s r) → Runs P Q x y → Runs P R x y
run_to to run = record { calls = run.calls; made = run.made; both = λ start real alike p. let it = run.both start real alike p in (it.0, to start _ _ it.1) }

-- what a call makes of both states
abbrev Steps : DiskCall → Both → Both → Type 0
Steps call P Q =
    (start s r : State) → IsAlike start s r → P start s r → IsAlike start (step_by settled call s) (step_by names_settled call r) × Q start (step_by settled call s) (step_by names_settled call r)

one_run : {P Q : Both} (call : DiskCall) {x y : Disk} → Steps call P Q → y ≡ after (step_by settled call x.now) x → Runs P Q x y
one_run {Q = Q} call {x = x} {y = y} step is = record {
  calls = call ∷ [];
  made = is;
  both = λ start real alike p.
      let new = step start x.now real.now alike.0 p in
      subst (λ (d : Disk). StaysAlike start d (after (step_by names_settled call real.now) real) × Q start d.now (step_by names_settled call real.now)) (sym is) ((new.0, alike), new.1);
}

waits_still : (P : Both) → Steps Wait P P
waits_still P start s r alike p = (alike, p)

waited_run : {P : Both} {x y : Disk} → Waited x y → Runs P P x y
waited_run (inl is) = no_run is
waited_run {P = P} (inr is) = one_run Wait (waits_still P) is

module _ {P Q R : Both} (call : DiskCall) {x y : Disk} (step : Steps call P Q) (before : (start s r : State) → P start s r → R start s r) (then : (start s r : State) → Q start s r → R start s r) where
  does : (e : Ending) → StepsDisk (step_by settled call) e x y → Runs P R x y
  does Done is = run_to then (one_run call step is)
  does Broken (inl is) = run_to before (waited_run is)
  does Broken (inr is) = run_to then (one_run call step is)
  does Undone is = run_to before (no_run is)

  does_or_not : (e : Ending) → StepsDiskOrNot (step_by settled call) e x y → Runs P R x y
  does_or_not Done is = run_to then (one_run call step is)
  does_or_not Broken is = run_to before (waited_run is)
  does_or_not Undone is = run_to before (no_run is)

itself : (P : Both) (start s r : State) → P start s r → P start s r
itself P start s r p = p

-- ---- the calls

settles_both : Steps Settle ButLeft ButLeft
settles_both start s r alike firm = (alike_settled start alike firm, settled_left start s r firm)

removes_both : (name : Name) → Steps (Remove name) ButLeft ButLeft
removes_both name start s r alike firm = (alike_removed start name alike, removed_left start name s r firm)

firms_both : (name : Name) → Steps (Firm name) ButLeft (λ start s r. FirmAt start name s r)
firms_both name start s r alike firm = (alike_firmed start name alike, firmed_left start name alike firm)

renames_both : (from to : Name) → Steps (Rename from to) (λ start s r. FirmAt start from s r) ButLeft
renames_both from to start s r alike firm = (alike_renamed start from to alike firm.1, renamed_left start from to alike firm)

creates_named : (name : Name) → Steps (Create name) ButLeft (λ start s r. ButNamed start name s r)
creates_named name start s r alike firm = (alike_created start name alike, created_named start name alike firm)

appends_named : (name : Name) (bytes : List ℕ) → Steps (Append name bytes) (λ start s r. ButNamed start name s r) (λ start s r. ButNamed start name s r)
appends_named name bytes start s r alike firm = (alike_appended start name bytes alike, appended_named start name alike bytes firm)

firms_named : (name : Name) → Steps (Firm name) (λ start s r. ButNamed start name s r) ButLeft
firms_named name start s r alike firm = (alike_firmed start name alike, (firmed_named start name alike firm).0)

creates_any : (name : Name) → Steps (Create name) Any Any
creates_any name start s r alike any = (alike_created start name alike, tt)

appends_any : (name : Name) (bytes : List ℕ) → Steps (Append name bytes) Any Any
appends_any name bytes start s r alike any = (alike_appended start name bytes alike, tt)

firms_any : (name : Name) → Steps (Firm name) Any Any
firms_any name start s r alike any = (alike_firmed start name alike, tt)

-- ---- parts of runs

on_runs : {x y : Disk} → Runs ButLeft ButLeft x y → RunsFirmlyOn Done x y
on_runs run = record {
  calls = run.calls;
  made = run.made;
  alike = λ start real beside. (run.both start real beside.alike beside.firm).0;
  firm = λ start real beside. let it = run.both start real beside.alike beside.firm in record { alike = it.0; firm = it.1 };
}

of_runs : {a b : Seen} → b.records ≡ a.records → (a.records ≡ true → Runs ButLeft ButLeft a.disk b.disk) → RunsFirmly Done a b
of_runs records run = record { records = records; disk = λ told. on_runs (run told) }

-- nothing happens
pub on_none : (d : Disk) → RunsFirmlyOn Done d d
on_none d = on_runs (no_run refl)

-- one after another
pub on_then : {e : Ending} {x y z : Disk} → RunsFirmlyOn Done x y → RunsFirmlyOn e y z → RunsFirmlyOn e x z
on_then {e = e} {x = x} {z = z} first second = record {
  calls = first.calls ++ second.calls;
  made = second.made ∙ ap (λ (d : Disk). disk_by settled second.calls d) first.made ∙ sym (disk_then settled first.calls second.calls x);
  alike = λ start real beside. subst (StaysAlike start z) (sym (disk_then names_settled first.calls second.calls real)) (second.alike start (real_by first.calls real) (first.firm start real beside));
  firm = at_done e (λ to start real beside. subst (IsBeside start z) (sym (disk_then names_settled first.calls second.calls real)) (to start (real_by first.calls real) (first.firm start real beside))) second.firm;
}

-- what holds of one that is done holds of any
pub on_any : (e : Ending) {x y : Disk} → RunsFirmlyOn Done x y → RunsFirmlyOn e x y
on_any e run = record { calls = run.calls; made = run.made; alike = run.alike; firm = when_done e (λ is. run.firm) }

-- calls that only read
looked_run : {P : Both} (k : ℕ) (d : Disk) → Runs P P d (waited k d)
looked_run zero d = no_run refl
looked_run {P = P} (suc k) d = run_then (looked_run k d) (one_run Wait (waits_still P) (ap (λ (s : State). after s (waited k d)) (sym (waited_now k d))))

pub on_looks : (e : Ending) {x y : Disk} → Looks x y → RunsFirmlyOn e x y
on_looks e {x = x} {y = y} looks = on_any e (on_runs (subst (Runs ButLeft ButLeft x) (sym looks.waits.1) (looked_run looks.waits.0 x)))

pub firmly_none : (a : Seen) → RunsFirmly Done a a
firmly_none a = record { records = refl; disk = λ told. on_none a.disk }

pub firmly_then : {e : Ending} {a b c : Seen} → RunsFirmly Done a b → RunsFirmly e b c → RunsFirmly e a c
firmly_then first second = record {
  records = second.records ∙ first.records;
  disk = λ told. on_then (first.disk told) (second.disk (first.records ∙ told));
}

pub firmly_settled : {e : Ending} {a b : Seen} → Calls e (DoesOrNot settles) a b → RunsFirmly Done a b
firmly_settled {e = e} call = of_runs call.records (λ told. does_or_not Settle settles_both (itself ButLeft) (itself ButLeft) e (call.disk told))

pub firmly_removed : {e : Ending} {a b : Seen} (name : Name) → Calls e (Does (removes name)) a b → RunsFirmly Done a b
firmly_removed {e = e} name call = of_runs call.records (λ told. does (Remove name) (removes_both name) (itself ButLeft) (itself ButLeft) e (call.disk told))

waits_run : (e : Ending) {x y : Disk} → Waits e x y → Runs ButLeft ButLeft x y
waits_run Done is = waited_run (inr is)
waits_run Broken is = waited_run is
waits_run Undone is = no_run is

pub firmly_idle : {e : Ending} {a b : Seen} → Calls e Idles a b → RunsFirmly Done a b
firmly_idle {e = e} call = of_runs call.records (λ told. waits_run e (call.disk told))

module _ (from to : Name) {x y : Disk} where
  then_renamed : (e : Ending) → StepsDisk (renamed from to) e (is_firm from x) y → Runs ButLeft ButLeft x y
  then_renamed e is = run_then (one_run (Firm from) (firms_both from) refl) (does (Rename from to) (renames_both from to) (λ start s r firm. firm.0) (itself ButLeft) e is)

  named_run : (e : Ending) → NamesDisk from to e x y → Runs ButLeft ButLeft x y
  named_run Done is = then_renamed Done is
  named_run Broken (inl waited) = waited_run waited
  named_run Broken (inr is) = then_renamed Broken is
  named_run Undone is = then_renamed Undone is

pub firmly_named : {e : Ending} {a b : Seen} (from to : Name) → Calls e (NamesFile from to) a b → RunsFirmly Done a b
firmly_named {e = e} from to call = of_runs call.records (λ told. named_run from to e (call.disk told))

-- ---- a file is written

-- whichever files are firm
pub record Alike (a b : Seen) : Type 0 where
  pub records : b.records ≡ a.records
  pub alike : a.records ≡ true → Runs Any Any a.disk b.disk

pub also_alike : {a b c : Seen} → Alike a b → Alike b c → Alike a c
also_alike first second = record { records = second.records ∙ first.records; alike = λ told. run_then (first.alike told) (second.alike (first.records ∙ told)) }

grows : (name : Name) (bytes : List ℕ) (e : Ending) {x y : Disk} → GrowsDisk name bytes e x y → Runs Any Any x y
grows name bytes Done is = one_run (Append name bytes) (appends_any name bytes) is
grows name bytes Broken (inl waited) = waited_run waited
grows name bytes Broken (inr some) = one_run (Append name (take some.0 bytes)) (appends_any name (take some.0 bytes)) some.2
grows name bytes Undone is = no_run is

pub created_alike : {e : Ending} {a b : Seen} (name : Name) → Calls e (Does (creates name)) a b → Alike a b
created_alike {e = e} name call = record { records = call.records; alike = λ told. does (Create name) (creates_any name) (itself Any) (itself Any) e (call.disk told) }

pub appended_alike : {e : Ending} {a b : Seen} (name : Name) (bytes : List ℕ) → Calls e (Appends name bytes) a b → Alike a b
appended_alike {e = e} name bytes call = record { records = call.records; alike = λ told. grows name bytes e (call.disk told) }

pub firmed_alike : {e : Ending} {a b : Seen} (name : Name) → Calls e (DoesOrNot (firms name)) a b → Alike a b
firmed_alike {e = e} name call = record { records = call.records; alike = λ told. does_or_not (Firm name) (firms_any name) (itself Any) (itself Any) e (call.disk told) }

on_stopped : (e : Ending) {x y : Disk} → Rattle.pl_journal.proofs.Endings.Stops e → Runs Any Any x y → RunsFirmlyOn e x y
on_stopped e stops run = record { calls = run.calls; made = run.made; alike = λ start real beside. (run.both start real beside.alike tt).0; firm = stopped _ e stops }

-- it did not come to its end
pub stops_alike : {X : Type 0} (Q : JournalFault → Type 0) (r : Result X JournalFault) {a b : Seen} → IsErrAnd r Q → Alike a b → RunsFirmly (part_ending r) a b
stops_alike Q (Ok x) is run = absurd is
stops_alike Q (Err fault) is run = record { records = run.records; disk = λ told. on_stopped (journal_ending fault) (fault_stops fault) (run.alike told) }

stops_on : (e f : Ending) {x y : Disk} → Rattle.pl_journal.proofs.Endings.Stops e → RunsFirmlyOn f x y → RunsFirmlyOn e x y
stops_on e f stops run = record { calls = run.calls; made = run.made; alike = run.alike; firm = stopped _ e stops }

pub stops_firmly : {X : Type 0} (Q : JournalFault → Type 0) (r : Result X JournalFault) {e : Ending} {a b : Seen} → IsErrAnd r Q → RunsFirmly e a b → RunsFirmly (part_ending r) a b
stops_firmly Q (Ok x) is run = absurd is
stops_firmly Q (Err fault) {e = e} is run = record { records = run.records; disk = λ told. stops_on (journal_ending fault) e (fault_stops fault) (run.disk told) }

-- it is created, has its bytes, and is made firm
pub firmly_put : {a b c d : Seen} (name : Name) (bytes : List ℕ) → Calls Done (Does (creates name)) a b → Calls Done (Appends name bytes) b c → Calls Done (DoesOrNot (firms name)) c d → RunsFirmly Done a d
firmly_put name bytes one two three = of_runs (three.records ∙ two.records ∙ one.records) (λ told.
    let again = one.records ∙ told in
    run_then (one_run (Create name) (creates_named name) (one.disk told)) (run_then (one_run (Append name bytes) (appends_named name bytes) (two.disk again)) (one_run (Firm name) (firms_named name) (three.disk (two.records ∙ again)))))

-- ---- laws

beside_itself : (d : Disk) → IsBeside d.now d d
beside_itself d = record { alike = each (d.now ∷ d.past); firm = left_self d.now }
  where
    each : (states : List State) → AreAlike d.now states states
    each [] = tt
    each (s ∷ states) = (alike_self d.now s, each states)

pub run_beside : RunsBeside
run_beside e old new run = (run.alike old.now old (beside_itself old), at_done e (λ firm. firm old.now old (beside_itself old)) run.firm)

module _ (start : State) (firm : AllFirm start) where
  same_states : (states reals : List State) → AreAlike start states reals → states ≡ reals
  same_states [] [] alike = refl
  same_states [] (r ∷ reals) alike = absurd alike
  same_states (s ∷ states) [] alike = absurd alike
  same_states (s ∷ states) (r ∷ reals) alike = ap (λ (x : State). x ∷ states) (same_state start firm alike.0) ∙ ap (λ (xs : List State). r ∷ xs) (same_states states reals alike.1)

  same_disk : (d real : Disk) → StaysAlike start d real → d ≡ real
  same_disk d real alike = ap (λ (s : State). record { now = s; past = d.past }) (same_state start firm alike.0) ∙ ap (λ (past : List State). record { now = real.now; past = past }) (same_states d.past real.past alike.1)

pub firm_same : FirmDisksStaySame
firm_same e old new run firm = (
  same_disk old.now firm new (real_by run.calls old) (run_beside e old new run).0,
  at_done e (λ beside. subst (λ (d : Disk). AllFirm d.now) (sym (same_disk old.now firm new (real_by run.calls old) beside.alike)) (left_firm old.now firm new.now (real_by run.calls old).now beside.firm)) (run_beside e old new run).1,
)

module _ (start : State) where
  as_long : (states reals : List State) → AreAlike start states reals → length reals ≡ length states
  as_long [] [] alike = refl
  as_long [] (r ∷ reals) alike = absurd alike
  as_long (s ∷ states) [] alike = absurd alike
  as_long (s ∷ states) (r ∷ reals) alike = ap suc (as_long states reals alike.1)

  images_alike : (states reals : List State) → AreAlike start states reals → (t : ℕ) (v : View) → HadImage reals t v → (image : View) × HadImage states t image × LosesLoose start image v
  images_alike [] [] alike t v had = absurd had
  images_alike [] (r ∷ reals) alike t v had = absurd alike
  images_alike (s ∷ states) [] alike t v had = absurd alike
  images_alike (s ∷ states) (r ∷ reals) alike t v (inl here) = let it = image_alike start alike.0 v here.1 in (it.0, inl (subst (λ (k : ℕ). t ≤ k) (as_long states reals alike.1) here.0, it.1), it.2)
  images_alike (s ∷ states) (r ∷ reals) alike t v (inr there) = let it = images_alike states reals alike.1 t v there in (it.0, inr it.1, it.2)

pub real_images : RealImages
real_images e old new run t v since = images_alike old.now (new.now ∷ new.past) ((real_by run.calls old).now ∷ (real_by run.calls old).past) (run_beside e old new run).0 t v since

pub real_crash : (P : View → Type 0) → OnRealDisk P
real_crash P e old new run keeps t v lt since = let it = real_images e old new run t v since in (it.0, after_start old new P keeps t it.0 lt it.1, it.2)

pub real_lost : LostWithoutARun
real_lost = lost_so
