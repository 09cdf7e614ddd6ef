-- What a walk over the files of a folder finds, file by file, and what is verified by them.
use Rattle.std.proofs.Common.{◌≡◌, ℕ, ◌+◌, ◌<◌, ◌≤◌, Bool, true, false, List, [], ◌∷◌, ◌++◌, length, map, Option, Some, None, Result, Ok, Err, refl, sym, ap, subst, ◌∙◌, arith, inl, inr, append_assoc}
use Rattle.std.specs.Prelude.{◌⊎◌, ◌&&◌, is_some, nat_le, nat_lt, not, slice_get, if◌then◌else◌}
use Rattle.std.specs.FinMap.{get}
use Rattle.std.specs.List.{All, IsDistinct}
use Rattle.std.specs.Option.{option_map}
use Rattle.std.specs.Str.{bytes_eq}
use Rattle.std.proofs.lemmas.Bool.{cases_Bool, false≢true, leb-false, leb-true, lt-ltb, ltb-true, not-false}
use Rattle.std.proofs.lemmas.List.{append-nil, length-append}
use Rattle.std.proofs.lemmas.List.Elements.{All-head, All-nil, All-push, All-tail}
use Rattle.std.proofs.lemmas.Map.Keys.{IsDistinct-push}
use Rattle.std.proofs.lemmas.Option.{none-some, same_Some, slice_get_within}
use Rattle.pl_base.specs.Answers.{◌>>=◌, Answers, because, unless}
use Rattle.pl_base.specs.Each.{run}
use Rattle.pl_base.specs.Files.{Files}
use Rattle.pl_base.specs.Names.{is_valid_name}
use Rattle.pl_base.proofs.AnswerLaws.{ok_same, unless_ok}
use Rattle.pl_rewrite.specs.Format.{format, read_original}
use Rattle.pl_folder.specs.Calls.{Calls}
use Rattle.pl_folder.specs.Seen.{Seen, Done}
use Rattle.pl_folder.specs.declared.TheConstants as folder
use Rattle.pl_form.specs.Files.{file_by, file_in, marked_in, original_or_file, original_in}
use Rattle.pl_form.specs.Marks.{IsFormOf, as_file, has_mark}
use Rattle.pl_form.specs.Reading.{marked_of}
use Rattle.pl_form.specs.declared.constants.TheConstants.{STORED}
use Rattle.pl_form.specs.declared.fault.FileFault.TheVariants as unread
use Rattle.pl_form.specs.declared.file.Marked.{Marked}
use Rattle.pl_journal.specs.Parts.{Looking}
use Rattle.pl_rewrite.specs.Skipped.{skip_causes}
use Rattle.pl_rewrite.specs.Taken.{AreTaken, IsTaken, entry_by, entry_in, files_in, names_of, taken_of}
use Rattle.pl_rewrite.specs.TakenFile.{Taken}
use Rattle.pl_rewrite.proofs.RuleLaws.{prelinked_same}
use Rattle.pl_object.specs.Reads.{reads}
use Rattle.pl_object.specs.declared.object.Object.{Object}
use Rattle.pl_object.specs.declared.refusal.Refusal.{Refusal}
use Rattle.pl_object.specs.declared.refusal.Refusal.TheVariants as refusals
use Rattle.pl_rewrite.specs.Verify as rewrite
use Rattle.pl_rewrite.proofs.NamedFileLaws.{file_at, found_cons}
use Rattle.pl_rewrite.proofs.HistoryLaws.{form_reads}
use Rattle.pl_scope.specs.Members.{has, names}
use Rattle.pl_scope.specs.Walk.{IsUnderWay, Walked, added, begun, give, is_memory, of_wanted}
use Rattle.pl_scope.specs.Walking.{IsWalking, Walking, wants}
use Rattle.pl_scope.specs.declared.constants.TheConstants.{MAX_MEMBERS}
use Rattle.pl_scope.specs.declared.fault.WalkFault.{WalkFault}
use Rattle.pl_scope.specs.declared.fault.WalkFault.TheVariants as walk_faults
use Rattle.pl_scope.proofs.ClosureLaws.{at_end, at_next, walk_is}
use Rattle.pl_scope.proofs.NameLaws.{eq_laws, eq_refl, has_flip, same_name}
use Rattle.pl_scope.proofs.StepLaws.{Entered, Grown, added_cases, bind_ok, entered_is, grown, same_ok}
use Rattle.pl_scope.proofs.WalkLaws.{give_given, walk_begins, walk_ends, walk_goes_on, walk_lacks, walk_stops}
use Rattle.law_sound.specs.Rule as sound
use Rattle.law_sound.specs.Rule.{is_marked, is_same, mark_at, object_at, objects, original_at, prelinked_in}
use Rattle.law_sound.proofs.RuleLaws.{AgreeOn, first_is, prelinked_agree}
use Rattle.pl_change.specs.Answers.{Finds, BatchStopsAlone, of_walk_fault}
use Rattle.pl_batch.specs.Folder.{named}
use Rattle.pl_change.specs.Names.{file_of, of_file}
use Rattle.pl_batch.specs.Verify.{AreIn, causes, nowhere, object_by, of_walk, original_if_verified, verified, walked, walked_names, wanted_file}
use Rattle.pl_change.specs.declared.cause.Cause.{Cause}
use Rattle.pl_change.specs.declared.cause.Cause.TheVariants.{BadName, FileTooLarge, NotThere}
use Rattle.pl_change.specs.declared.fault.BatchFault.{BatchFault}
use Rattle.pl_change.specs.declared.fault.BatchFault.TheVariants as faults
use Rattle.pl_change.proofs.FindLemmas.{lacks, no_asking, passed, reads_on, refused}

-- ---- sizes

stored_is : STORED ≡ 268435456
stored_is = refl

folder_is : folder.STORED ≡ 268435456
folder_is = refl

-- what is too long for a folder is no form
long_plain : (bytes : List ℕ) → STORED < length bytes → marked_in bytes ≡ None
unfolding marked_in marked_of
long_plain bytes long =
    let off : nat_le (length bytes) STORED ≡ false = by_test (nat_le (length bytes) STORED) refl in
    rw off refl
  where
    by_test : (b : Bool) → nat_le (length bytes) STORED ≡ b → b ≡ false
    by_test false is = refl
    by_test true is = absurd (omega (arith, leb-true (length bytes) STORED is, long))

own_original : (bytes : List ℕ) → marked_in bytes ≡ None → original_in bytes ≡ bytes
unfolding original_in
own_original bytes none = ap (original_or_file bytes) none

-- ---- the object of one file

-- what is read of a file without a form
plain_entry : (n bytes : List ℕ) → length bytes ≤ STORED → marked_in bytes ≡ None → read_original causes n bytes ≡ object_by n (entry_in bytes)
unfolding read_original entry_in file_in
plain_entry n bytes small none =
    let fits : nat_lt STORED (length bytes) ≡ false = by_size (nat_lt STORED (length bytes)) refl in
    ap (λ (b : Bool). unless b (FileTooLarge n) (unless (has_mark bytes) (causes.bad_mark n) (because (causes.refused n) (reads bytes)))) fits
    ∙ (by_mark (has_mark bytes) ∙ sym (ap (λ (o : Option Marked). object_by n (entry_by (file_by bytes o))) none))
  where
    by_size : (b : Bool) → nat_lt STORED (length bytes) ≡ b → b ≡ false
    by_size false is = refl
    by_size true is = absurd (omega (arith, ltb-true STORED (length bytes) is, small))

    by_object : (r : Result Object Refusal) → because (causes.refused n) r ≡ object_by n (entry_by (as_file r))
    by_object (Ok x) = refl
    by_object (Err (refusals.Clause number argument)) = refl
    by_object (Err refusals.NoMemory) = refl

    by_mark : (b : Bool) → unless b (causes.bad_mark n) (because (causes.refused n) (reads bytes)) ≡ object_by n (entry_by (unless b unread.BadMark (as_file (reads bytes))))
    by_mark true = refl
    by_mark false = by_object (reads bytes)

read_entry : (n bytes : List ℕ) → length bytes ≤ STORED → read_original causes n (original_in bytes) ≡ object_by n (entry_in bytes)
unfolding entry_in file_in
read_entry n bytes small = by_form (marked_in bytes) refl
  where
    by_form : (o : Option Marked) → marked_in bytes ≡ o → read_original causes n (original_in bytes) ≡ object_by n (entry_in bytes)
    by_form None is = ap (read_original causes n) (own_original bytes is) ∙ plain_entry n bytes small is
    by_form (Some m) is = form_reads causes n bytes m is ∙ sym (ap (λ (x : Option Marked). object_by n (entry_by (file_by bytes x))) is)

-- ---- the file of a wanted name

record IsWanted (files : Files) (n bytes : List ℕ) : Type 0 where
  pub there : named files n ≡ Some bytes
  pub small : length bytes ≤ STORED

valid_named : (files : Files) (n : List ℕ) (b : Bool) → is_valid_name n ≡ b → named files n ≡ (if b then get files n else None)
valid_named files n b is = ap (λ (c : Bool). if c then get files n else None) is

wanted_is : (files : Files) (n bytes : List ℕ) → wanted_file files n ≡ Ok bytes → IsWanted files n bytes
unfolding wanted_file file_of
wanted_is files n bytes e =
    let p = unless_ok (not (is_valid_name n)) (NotThere n) (of_file n (get files n)) bytes e in
    by_file (not-false (is_valid_name n) p.0) (get files n) refl p.1
  where
    by_size : (file : List ℕ) (b : Bool) → nat_le (length file) folder.STORED ≡ b → is_valid_name n ≡ true → get files n ≡ Some file → (if b then Ok file else Err (FileTooLarge n)) ≡ Ok bytes → IsWanted files n bytes
    by_size file true is valid at h =
        let same : file ≡ bytes = ok_same file bytes h in record {
          there = valid_named files n true valid ∙ (at ∙ ap (λ (x : List ℕ). Some x) same);
          small = omega (arith, leb-true (length file) folder.STORED is, ap (λ (x : List ℕ). length x) same, stored_is, folder_is);
        }
    by_size file false is valid at h = absurd (no_ok h)
      where
        no_ok : Err (FileTooLarge n) ≡ Ok bytes → ⊥
        no_ok e = cc

    by_file : is_valid_name n ≡ true → (file : Option (List ℕ)) → get files n ≡ file → of_file n file ≡ Ok bytes → IsWanted files n bytes
    by_file valid None at h = absurd (no_ok h)
      where
        no_ok : Err (NotThere n) ≡ Ok bytes → ⊥
        no_ok e = cc
    by_file valid (Some file) at h = by_size file (nat_le (length file) folder.STORED) refl valid at h

-- of a name that is not valid
pub wanted_invalid : (n : List ℕ) {X : Type 0} (view : X → List ℕ) (a : Seen) → is_valid_name n ≡ false → Finds (wanted_file a.files n) view (Err (faults.Cause (NotThere n))) a a
unfolding wanted_file
wanted_invalid n view a invalid = refused (not (is_valid_name n)) (NotThere n) (file_of a.files n) view a (ap not invalid)

pub wanted_lacks : (n : List ℕ) {X : Type 0} (view : X → List ℕ) (a : Seen) → Finds (wanted_file a.files n) view (Err faults.NoMemory) a a
wanted_lacks n view a = record { means = tt; calls = lacks (no_asking a) }

pub wanted_valid : (n : List ℕ) {X : Type 0} (view : X → List ℕ) (r : Result X BatchFault) {a b : Seen} → is_valid_name n ≡ true → Finds (file_of a.files n) view r a b → Finds (wanted_file a.files n) view r a b
unfolding wanted_file
wanted_valid n view r {a = a} valid found = passed (not (is_valid_name n)) (NotThere n) (file_of a.files n) view r (ap not valid) found

abbrev objects_of : Files → List ℕ → Result Object Cause
objects_of files n = objects (format causes) (named files) n

object_is : (files : Files) (n bytes : List ℕ) → wanted_file files n ≡ Ok bytes → objects_of files n ≡ object_by n (entry_in bytes)
object_is files n bytes e =
    let p = wanted_is files n bytes e in
    ap (object_at (format causes) n) p.there ∙ read_entry n bytes p.small

err_same : (a b : Cause) → ◌≡◌ {A = Result (List ℕ) Cause} (Err a) (Err b) → a ≡ b
err_same a b e = cc

-- a name without such a file has no object, for the same cause
object_lacks : (files : Files) (n : List ℕ) (cause : Cause) → wanted_file files n ≡ Err cause → objects_of files n ≡ Err cause
unfolding wanted_file file_of read_original
object_lacks files n cause e = by_valid (is_valid_name n) refl e
  where
    none : named files n ≡ None → ◌≡◌ {A = Result (List ℕ) Cause} (Err (NotThere n)) (Err cause) → objects_of files n ≡ Err cause
    none at h = ap (object_at (format causes) n) at ∙ ap (λ (c : Cause). Err c) (err_same (NotThere n) cause h)

    large : (file : List ℕ) → named files n ≡ Some file → nat_le (length file) folder.STORED ≡ false → ◌≡◌ {A = Result (List ℕ) Cause} (Err (FileTooLarge n)) (Err cause) → objects_of files n ≡ Err cause
    large file at is h =
        let long : STORED < length file = omega (arith, leb-false (length file) folder.STORED is, stored_is, folder_is) in
        let test : nat_lt STORED (length file) ≡ true = lt-ltb STORED (length file) long in
        ap (object_at (format causes) n) at
        ∙ (ap (read_original causes n) (own_original file (long_plain file long))
        ∙ (ap (λ (b : Bool). unless b (FileTooLarge n) (unless (has_mark file) (causes.bad_mark n) (because (causes.refused n) (reads file)))) test ∙ ap (λ (c : Cause). Err c) (err_same (FileTooLarge n) cause h)))

    by_size : (file : List ℕ) (b : Bool) → nat_le (length file) folder.STORED ≡ b → named files n ≡ Some file → (if b then Ok file else Err (FileTooLarge n)) ≡ Err cause → objects_of files n ≡ Err cause
    by_size file true is at h = absurd (no_err h)
      where
        no_err : Ok file ≡ Err cause → ⊥
        no_err e = cc
    by_size file false is at h = large file at is h

    by_file : (file : Option (List ℕ)) → named files n ≡ file → of_file n file ≡ Err cause → objects_of files n ≡ Err cause
    by_file None at h = none at h
    by_file (Some file) at h = by_size file (nat_le (length file) folder.STORED) refl at h

    by_valid : (b : Bool) → is_valid_name n ≡ b → unless (not b) (NotThere n) (of_file n (get files n)) ≡ Err cause → objects_of files n ≡ Err cause
    by_valid false is h = none (valid_named files n false is) h
    by_valid true is h = by_file (get files n) (valid_named files n true is) h

-- ---- names that are added stay distinct

added_distinct : (ns : List (List ℕ)) (n : List ℕ) (ms : List (List ℕ)) → added ns n ≡ Ok ms → IsDistinct bytes_eq ns → IsDistinct bytes_eq ms
unfolding added
added_distinct ns n ms h d =
    elim (added_cases ns n ms h) [
      | inl c ↦ rw c.1 d
      | inr c ↦ elim (cases_Bool (has ns n)) [
        | inl t ↦ rw (← same_ok ns ms (rw t at h)) d
        | inr t ↦ rw c.1 (IsDistinct-push eq_laws ns n d (has_flip n ns ∙ t))
      ]
    ]

run_distinct : (needed ns ms : List (List ℕ)) → run added ns needed ≡ Ok ms → IsDistinct bytes_eq ns → IsDistinct bytes_eq ms
unfolding run
run_distinct [] ns ms h d = rw (← same_ok ns ms h) d
run_distinct (x ∷ needed) ns ms h d =
    let a : (ks : List (List ℕ)) × (added ns x ≡ Ok ks) × (run added ks needed ≡ Ok ms) = bind_ok (added ns x) (λ ks. run added ks needed) ms h in
    run_distinct needed a.0 ms a.2 (added_distinct ns x a.0 a.1 d)

-- ---- a walk whose files are taken

-- a is the folder before it, and b now: the files are those of the first names of the walk
pub record SoFar (a b : Seen) (name : List ℕ) (ts : List Taken) (w : Walking) : Type 0 where
  pub ws : Walked
  pub called : names ws ≡ names_of ts
  pub way : a.tells ≡ true → IsUnderWay of_walk (objects_of a.files) name ws w
  pub rest : List (List ℕ)
  pub first : w.names ≡ names_of ts ++ rest
  pub given : w.given ≡ length (names_of ts)
  pub distinct : IsDistinct bytes_eq w.names
  pub each : All (IsTaken nowhere) ts
  pub there : a.tells ≡ true → AreIn a.files ts
  pub calls : Calls Done Looking a b

pub begins : (a : Seen) (name : List ℕ) (ts : List Taken) (w : Walking) → ts ≡ [] → w ≡ begun name → SoFar a a name ts w
unfolding IsDistinct
begins a name ts w none is = subst (λ (xs : List Taken). SoFar a a name xs w) (sym none) (subst (λ (v : Walking). SoFar a a name [] v) (sym is) start)
  where
    alone : IsDistinct bytes_eq (name ∷ [])
    alone = (tt, tt)

    start : SoFar a a name [] (begun name)
    start = record {
      ws = [];
      called = refl;
      way = λ told. walk_begins of_walk (objects_of a.files) name;
      rest = name ∷ [];
      first = refl;
      given = refl;
      distinct = alone;
      each = All-nil (IsTaken nowhere);
      there = λ told. All-nil (λ (t : Taken). named a.files t.name ≡ Some t.bytes);
      calls = no_asking a;
    }

names_push : (ts : List Taken) (t : Taken) → names_of (ts ++ t ∷ []) ≡ names_of ts ++ t.name ∷ []
names_push [] t = refl
names_push (x ∷ ts) t = ap (λ (ns : List (List ℕ)). x.name ∷ ns) (names_push ts t)

walked_push : (ws : Walked) (p : List ℕ × Object) → names (ws ++ p ∷ []) ≡ names ws ++ p.0 ∷ []
walked_push [] p = refl
walked_push (q ∷ ws) p = ap (λ (ns : List (List ℕ)). q.0 ∷ ns) (walked_push ws p)

regroup : (front : List (List ℕ)) (n : List ℕ) (rest more : List (List ℕ)) → (front ++ n ∷ rest) ++ more ≡ (front ++ n ∷ []) ++ (rest ++ more)
regroup front n rest more = simp append_assoc

pub wanted_below : (w : Walking) (n : List ℕ) → IsWalking w → wants w ≡ Some n → w.given < MAX_MEMBERS
wanted_below w n walking is = omega (arith, slice_get_within w.names w.given n is, walking.few)

entry_read : (t : Taken) → IsTaken nowhere t → t.entry ≡ entry_in t.bytes
unfolding taken_of
entry_read t is = ap (λ (u : Taken). u.entry) is.is

abbrev bytes_of : Taken → List ℕ
bytes_of t = t.bytes

-- a walk that wants n
module _ {a b : Seen} (name : List ℕ) (ts : List Taken) (w : Walking) (n : List ℕ) (s : SoFar a b name ts w) (walking : IsWalking w) (is : wants w ≡ Some n) where
  below : w.given < MAX_MEMBERS
  below = wanted_below w n walking is

  -- why it stops there is why the walk is refused
  lacks_object : (cause : Cause) → (a.tells ≡ true → objects_of a.files n ≡ Err cause) → a.tells ≡ true → walked_names a.files name ≡ Err cause
  lacks_object cause none told =
      ap (λ (r : Result Walked Cause). r >>= λ ws. Ok (names ws)) (walk_lacks of_walk (objects_of a.files) name s.ws w n cause below is (none told) (s.way told))

  -- files are found in the folder as it was
  here : {X : Type 0} (f : Files → X) → a.tells ≡ true → f b.files ≡ f a.files
  here f told = ap f (s.calls.files told)

  -- the wanted file was not taken
  pub untaken : {c : Seen} (fault : BatchFault) → Finds (wanted_file b.files n) bytes_of (Err fault) b c → Finds (walked_names a.files name) names_of (Err fault) a c
  untaken faults.DiskFailed found = record { means = tt; calls = reads_on s.calls found.calls }
  untaken faults.NoMemory found = record { means = tt; calls = reads_on s.calls found.calls }
  untaken (faults.Cause cause) found = record {
    means = lacks_object cause (λ told. object_lacks a.files n cause (sym (here (λ files. wanted_file files n) told) ∙ found.means (s.calls.tells ∙ told)));
    calls = reads_on s.calls found.calls;
  }

  module _ {c : Seen} (t : Taken) (called : t.name ≡ n) (read : IsTaken nowhere t) (found : Finds (wanted_file b.files n) bytes_of (Ok t) b c) where
    wanted : a.tells ≡ true → wanted_file a.files n ≡ Ok t.bytes
    wanted told = sym (here (λ files. wanted_file files n) told) ∙ found.means (s.calls.tells ∙ told)

    object_at_entry : (r : Result Object Cause) → object_by t.name t.entry ≡ r → a.tells ≡ true → objects_of a.files n ≡ r
    object_at_entry r e told =
        object_is a.files n t.bytes (wanted told)
        ∙ (ap (λ (m : List ℕ). object_by m (entry_in t.bytes)) (sym called) ∙ (ap (object_by t.name) (sym (entry_read t read)) ∙ e))

    -- it has no object
    pub no_object : (fault : BatchFault) → BatchStopsAlone (object_by t.name t.entry) fault → Finds (walked_names a.files name) names_of (Err fault) a c
    no_object faults.DiskFailed stops = absurd stops
    no_object faults.NoMemory stops = record { means = tt; calls = lacks (reads_on s.calls found.calls) }
    no_object (faults.Cause cause) stops = record { means = lacks_object cause (object_at_entry (Err cause) stops); calls = reads_on s.calls found.calls }

    -- memory lacked for it
    pub lacked : Finds (walked_names a.files name) names_of (Err faults.NoMemory) a c
    lacked = record { means = tt; calls = lacks (reads_on s.calls found.calls) }

    module _ (o : Object) (object : object_by t.name t.entry ≡ Ok o) where
      refuses : (fault : WalkFault) → give w o ≡ Err fault → a.tells ≡ true → walked_names a.files name ≡ Err (of_walk fault)
      refuses fault went told =
          ap (λ (r : Result Walked Cause). r >>= λ ws. Ok (names ws)) (walk_stops of_walk (objects_of a.files) name s.ws w n o fault below is (object_at_entry (Ok o) object told) went (s.way told))

      -- the walk refuses it
      pub not_given : (fault : WalkFault) → Answers is_memory (Err fault) (give w o) → Finds (walked_names a.files name) names_of (Err (of_walk_fault fault)) a c
      not_given (walk_faults.NeededIsProgram other) went = record { means = refuses (walk_faults.NeededIsProgram other) went; calls = reads_on s.calls found.calls }
      not_given (walk_faults.TooMany other) went = record { means = refuses (walk_faults.TooMany other) went; calls = reads_on s.calls found.calls }
      not_given (walk_faults.NotThere other) went = record { means = refuses (walk_faults.NotThere other) went; calls = reads_on s.calls found.calls }
      not_given walk_faults.NoMemory went = lacked

      -- the walk goes on with it
      pub goes_on : (v : Walking) (more : List Taken) → give w o ≡ Ok v → more ≡ ts ++ t ∷ [] → SoFar a c name more v
      goes_on v more went pushed = subst (λ (xs : List Taken). SoFar a c name xs v) (sym pushed) next
        where
          e : Entered w n o v
          e = entered_is w n o v (sym (ap (of_wanted w o) is) ∙ went)

          g : Grown w.names o.needed e.names
          g = grown o.needed w.names e.names e.runs

          at : slice_get (names_of ts ++ s.rest) (length (names_of ts)) ≡ Some n
          at = sym (ap (λ (ns : List (List ℕ)). slice_get ns w.given) s.first ∙ ap (slice_get (names_of ts ++ s.rest)) s.given) ∙ is

          left : (rest : List (List ℕ)) × (s.rest ≡ n ∷ rest)
          left = at_next (names_of ts) s.rest n at

          names_more : names_of (ts ++ t ∷ []) ≡ names_of ts ++ n ∷ []
          names_more = names_push ts t ∙ ap (λ (m : List ℕ). names_of ts ++ m ∷ []) called

          first : v.names ≡ names_of (ts ++ t ∷ []) ++ (left.0 ++ g.more)
          first =
              ap (λ (u : Walking). u.names) e.is
              ∙ (g.is
              ∙ (ap (λ (z : List (List ℕ)). z ++ g.more) (s.first ∙ ap (λ (z : List (List ℕ)). names_of ts ++ z) left.1)
              ∙ (regroup (names_of ts) n left.0 g.more ∙ ap (λ (z : List (List ℕ)). z ++ (left.0 ++ g.more)) (sym names_more))))

          next : SoFar a c name (ts ++ t ∷ []) v
          next = record {
            ws = s.ws ++ (n, o) ∷ [];
            called = walked_push s.ws (n, o) ∙ (ap (λ (ns : List (List ℕ)). ns ++ n ∷ []) s.called ∙ sym names_more);
            way = λ told. walk_goes_on of_walk (objects_of a.files) name s.ws w v n o below is (object_at_entry (Ok o) object told) went (s.way told);
            rest = left.0 ++ g.more;
            first = first;
            given = ap (λ (u : Walking). u.given) e.is ∙ (omega (arith, s.given, length-append (names_of ts) (n ∷ [])) ∙ ap (λ (ns : List (List ℕ)). length ns) (sym names_more));
            distinct = subst (λ (u : Walking). IsDistinct bytes_eq u.names) (sym e.is) (run_distinct o.needed w.names e.names e.runs s.distinct);
            each = All-push (IsTaken nowhere) ts t s.each read;
            there = λ told. All-push (λ (u : Taken). named a.files u.name ≡ Some u.bytes) ts t (s.there told) (ap (named a.files) called ∙ (wanted_is a.files n t.bytes (wanted told)).there);
            calls = reads_on s.calls found.calls;
          }

-- a walk that wants none
module _ {a b : Seen} (name : List ℕ) (ts : List Taken) (w : Walking) (s : SoFar a b name ts w) (is : wants w ≡ None) where
  pub ends : Finds (walked_names a.files name) names_of (Ok ts) a b
  ends = record {
    means = λ told. ap (λ (r : Result Walked Cause). r >>= λ ws. Ok (names ws)) (walk_ends of_walk (objects_of a.files) name s.ws w is (s.way told)) ∙ ap (λ (ns : List (List ℕ)). Ok ns) s.called;
    calls = s.calls;
  }

  pub were_taken : AreTaken nowhere ts
  were_taken =
      let none : s.rest ≡ [] = at_end (names_of ts) s.rest (sym (ap (λ (ns : List (List ℕ)). slice_get ns w.given) s.first ∙ ap (slice_get (names_of ts ++ s.rest)) s.given) ∙ is) in
      let all : w.names ≡ names_of ts = s.first ∙ (ap (λ (z : List (List ℕ)). names_of ts ++ z) none ∙ append-nil (names_of ts)) in
      record { each = s.each; distinct = subst (IsDistinct bytes_eq) all s.distinct }

-- ---- what is verified by the files of a walk

-- the taken files are the folder's
file_same : (files : Files) (ts : List Taken) (m : List ℕ) → AreIn files ts → has (names_of ts) m ≡ true → files_in ts m ≡ named files m
unfolding files_in
file_same files ts m there within = by_found ts there within
  where
    by_found : (us : List Taken) → AreIn files us → has (names_of us) m ≡ true → files_in us m ≡ named files m
    by_found [] are has_none = absurd (false≢true has_none)
    by_found (u ∷ us) are has_some = elim (cases_Bool (bytes_eq u.name m)) [
      | inl hit ↦
          let at : named files m ≡ Some u.bytes = ap (named files) (sym (same_name u.name m hit)) ∙ All-head (λ (t : Taken). named files t.name ≡ Some t.bytes) u us are in
          file_at m (u ∷ us) u (rw hit refl) ∙ sym at
      | inr miss ↦
          let rest : has (names_of us) m ≡ true = rw miss at has_some in
          ap (option_map (λ (t : Taken). t.bytes)) (found_cons m u us miss) ∙ by_found us (All-tail (λ (t : Taken). named files t.name ≡ Some t.bytes) u us are) rest
    ]

mark_same : (file : Option (List ℕ)) → mark_at (format causes) file ≡ mark_at (format skip_causes) file
mark_same None = refl
mark_same (Some file) = refl

original_same : (file : Option (List ℕ)) → original_at (format causes) file ≡ original_at (format skip_causes) file
original_same None = refl
original_same (Some file) = refl

abbrev verified_by : Option sound.Mark → Option (List ℕ) → Option (List ℕ) → Bool
verified_by mark prelinked there = is_some mark && is_same prelinked there

verified_same : (files : Files) (ts : List Taken) (n : List ℕ) (ws : Walked) → walked files n ≡ Ok ws → names ws ≡ names_of ts → AreIn files ts → original_if_verified (named files) n ≡ rewrite.verified_original (files_in ts) n
verified_same files ts n ws walks called there =
    ap (λ (b : Bool). if b then Some (original_at (format causes) (named files n)) else None) test
    ∙ ap (λ (o : List ℕ). if rewrite.is_verified (files_in ts) n then Some o else None) (original_same (named files n) ∙ ap (original_at (format skip_causes)) file)
  where
    agree : AgreeOn (named files) (files_in ts) (names ws)
    agree m within = file_same files ts m there (ap (λ (ns : List (List ℕ)). has ns m) (sym called) ∙ within)

    file : named files n ≡ files_in ts n
    file = sym (agree n (first_is (objects_of files) n ws (walk_is of_walk (objects_of files) n ws walks)))

    meant : prelinked_in (format causes) (named files) n ≡ rewrite.prelinked_in (files_in ts) n
    meant = sym (prelinked_agree (format causes) (named files) (files_in ts) n ws walks agree) ∙ prelinked_same causes skip_causes (files_in ts) n

    test : sound.is_verified (format causes) (named files) n ≡ rewrite.is_verified (files_in ts) n
    test =
        ap (λ (k : Option sound.Mark). verified_by k (prelinked_in (format causes) (named files) n) (named files n)) (mark_same (named files n) ∙ ap (mark_at (format skip_causes)) file)
        ∙ (ap (λ (p : Option (List ℕ)). verified_by (mark_at (format skip_causes) (files_in ts n)) p (named files n)) meant
        ∙ ap (verified_by (mark_at (format skip_causes) (files_in ts n)) (rewrite.prelinked_in (files_in ts) n)) file)

-- ---- the whole

walk_ok : (r : Result Walked Cause) (ns : List (List ℕ)) → (r >>= λ ws. Ok (names ws)) ≡ Ok ns → (ws : Walked) × (r ≡ Ok ws) × (names ws ≡ ns)
walk_ok r ns e =
    let p = bind_ok r (λ ws. Ok (names ws)) ns e in
    (p.0, p.1, ok_same {E = Cause} (names p.0) ns p.2)

walk_err : (r : Result Walked Cause) (cause : Cause) → (r >>= λ ws. Ok (names ws)) ≡ Err cause → (h : Walked → Result (Option (List ℕ)) Cause) → (r >>= h) ≡ Err cause
walk_err (Ok ws) cause e h = absurd (no_err e)
  where
    no_err : Ok (names ws) ≡ Err cause → ⊥
    no_err e = cc
walk_err (Err other) cause e h = ap (λ (c : Cause). Err c) (same other cause e)
  where
    same : (x y : Cause) → ◌≡◌ {A = Result (List (List ℕ)) Cause} (Err x) (Err y) → x ≡ y
    same x y e = cc

module _ (name : List ℕ) {X : Type 0} (view : X → Option (List ℕ)) where
  pub bad_name : (a : Seen) → is_valid_name name ≡ false → Finds (verified a.files name) view (Err (faults.Cause BadName)) a a
  unfolding verified
  bad_name a invalid = refused (not (is_valid_name name)) BadName (walked a.files name >>= λ ws. Ok (original_if_verified (named a.files) name)) view a (ap not invalid)

  module _ {a c : Seen} (valid : is_valid_name name ≡ true) where
    -- the walk is refused, or was not taken
    pub no_walk : (fault : BatchFault) → Finds (walked_names a.files name) names_of (Err fault) a c → Finds (verified a.files name) view (Err fault) a c
    unfolding verified
    no_walk fault found = passed (not (is_valid_name name)) BadName (walked a.files name >>= λ ws. Ok (original_if_verified (named a.files) name)) view (Err fault) (ap not valid) (by_fault fault found)
      where
        by_fault : (f : BatchFault) → Finds (walked_names a.files name) names_of (Err f) a c → Finds (walked a.files name >>= λ ws. Ok (original_if_verified (named a.files) name)) view (Err f) a c
        by_fault faults.DiskFailed found = record { means = tt; calls = found.calls }
        by_fault faults.NoMemory found = record { means = tt; calls = found.calls }
        by_fault (faults.Cause cause) found = record { means = λ told. walk_err (walked a.files name) cause (found.means told) (λ ws. Ok (original_if_verified (named a.files) name)); calls = found.calls }

    module _ (ts : List Taken) (found : Finds (walked_names a.files name) names_of (Ok ts) a c) where
      pub lacked_after : Finds (verified a.files name) view (Err faults.NoMemory) a c
      lacked_after = record { means = tt; calls = lacks found.calls }

      pub is_told : (x : X) → (a.tells ≡ true → AreIn a.files ts) → view x ≡ rewrite.verified_original (files_in ts) name → Finds (verified a.files name) view (Ok x) a c
      unfolding verified
      is_told x there is = passed (not (is_valid_name name)) BadName (walked a.files name >>= λ ws. Ok (original_if_verified (named a.files) name)) view (Ok x) (ap not valid) (record {
        means = λ told.
            let p = walk_ok (walked a.files name) (names_of ts) (found.means told) in
            ap (λ (r : Result Walked Cause). r >>= λ ws. Ok (original_if_verified (named a.files) name)) p.1
            ∙ ap (λ (o : Option (List ℕ)). Ok o) (verified_same a.files ts name p.0 p.1 p.2 (there told) ∙ sym is);
        calls = found.calls;
      })
